-- A line that is under way: what is left of it, and what it comes to. When out of memory it stays as it is, and goes on when the line is
-- given again. This project's choice.
use Rattle.std.specs.Prelude.{◌≡◌, ℕ, ◌+◌, Bool, true, false, List, length, Option, None, Some, Result, Ok, Err}
use Rattle.gl_client.specs.Program.{Goes, Left, MatchNext, Program, ask, done, given, goes_on, print}
use Rattle.gl_client.specs.declared.next.Next.{Next}
use Rattle.gl_base.specs.declared.errno.Errno.{Errno}
use Rattle.gl_base.specs.declared.operation.Do.{Do}
use Rattle.gl_base.specs.declared.operation.Got.{Got}
use Rattle.gl_script.specs.Columns.{columns}
use Rattle.gl_script.specs.Served.{Kind, Statement}
use Rattle.gl_script.specs.declared.refusal.Spot.{Spot}
use Rattle.gl_talk.specs.Open.{Names}
use Rattle.gl_talk.specs.Talk.{does, left}
use Rattle.gl_check.specs.One.{PlannedPort, Standing, behind_text, from_plan, performs, run}
use Rattle.gl_served.specs.Alone.{StandsAs, alone_in}
use Rattle.gl_served.specs.Questions.{IsData, data_kind, first_got, question_of, shown, stands_for}
use Rattle.gl_served.specs.Served.{Accepted, IsAnswer, Keeps, ServedValue, carried_out, counted, kind_after, pair_after}
use Rattle.gl_served.specs.Slots.{slot_of}
use Rattle.gl_served.specs.declared.alone.Alone.{Alone}
use Rattle.gl_served.specs.declared.answered.Answer.{Answer}
use Rattle.gl_served.specs.declared.question.Question.TheVariants.{Data, Nothing}
use Rattle.gl_served.specs.declared.under_way.Step.{Step}
use Rattle.gl_served.specs.declared.under_way.Step.TheVariants.{Told, Asks, Prints}
use Rattle.gl_served.specs.declared.under_way.UnderWay.{UnderWay}

-- what is left of a program, by what is left to the talk and what comes next
abbrev pub left_by : Left Names → Step → Program Names
left_by left (Told got) = given left got
left_by left (Asks what) = ask what (λ got. given left (Some got))
left_by left (Prints text) = print text (given left None)

-- the result that the talk is told next
abbrev pub told_by : Step → Option Got
told_by (Told got) = got
told_by (Asks what) = None
told_by (Prints text) = None

abbrev pub first_or : Option Got → Option Got → Option Got
first_or None other = other
first_or (Some got) other = Some got

-- what a line prints: of a `data` the bytes that its first operation read
abbrev pub text_shown : Bool → Option Got → List ℕ → List ℕ
text_shown false first text = text
text_shown true first text = shown first text

-- p was carried out from s on: it printed so much, the code stands as One says, and what is left of it comes next
pub record HasGone (p : Program Names) (s : Standing PlannedPort) (step : Step) (first : Option Got) (printed : List ℕ) (left : Left Names) (a : Alone) : Type 0 where
  pub standing : Standing PlannedPort
  pub stands : StandsAs a standing
  pub runs : run 0 from_plan p s ≡ behind_text printed (run 0 from_plan (left_by left step) standing)
  pub first_is : first_got p s ≡ first_or first (first_or (told_by step) (first_got (left_by left step) standing))

-- a talk to which so much was left was told a result, and said what comes next: so much is left then, and at its end it has these names
abbrev pub Advances : Result Next Errno → Left Names → Option Got → Left Names → Names → Type 0
Advances (Ok next) before got after names = Goes (given before got) next after × MatchNext next (Unit {0}) (after ≡ goes_on (done names))
Advances (Err errno) before got after names = after ≡ before

-- an operation was carried out, or nothing was done
abbrev pub CarriedOut : Do → Result Got Errno → Alone → Alone → Type 0
CarriedOut what (Ok got) a b = (s : Standing PlannedPort) → StandsAs a s → (got ≡ (performs 0 from_plan what s).0) × StandsAs b (performs 0 from_plan what s).1
CarriedOut what (Err errno) a b = alone_in b ≡ alone_in a

abbrev pub IsGoing : Program Names → Standing PlannedPort → UnderWay → ServedValue → Type 0
IsGoing p s u served = HasGone p s u.step u.first u.printed.items (left served.talk) served.alone

-- the line is the same one
pub record IsAsBefore (old new : UnderWay) : Type 0 where
  pub line : new.line ≡ old.line
  pub reads : new.reads ≡ old.reads

-- the same of the session that it is a line of
pub record IsSameSession (old new : ServedValue) : Type 0 where
  pub count : new.count ≡ old.count
  pub stage : new.stage ≡ old.stage
  pub under_way : new.under_way ≡ old.under_way

-- the program of a statement after what was accepted
abbrev pub does_behind : Accepted → List ℕ → Program Names
does_behind said line = does (carried_out said.statements).value (slot_of (pair_after said)) (columns line)

-- a statement was begun after what was accepted, and has gone so far
pub record HasBegun (u : UnderWay) (served : ServedValue) (said : Accepted) (line : List ℕ) : Type 0 where
  pub stage : served.stage ≡ said.stage
  pub count : served.count ≡ counted (length said.statements + 1)
  pub going : IsGoing (does_behind said line) (carried_out said.statements).behind u served

-- the line is a statement, or a `data` that stands for one
abbrev pub IsStatementLine : Bool → Accepted → List ℕ → Type 0
IsStatementLine false said line = (question_of said.stage line ≡ Nothing) × (kind_after said line ≡ Ok Statement)
IsStatementLine true said line = (question_of said.stage line ≡ Data) × (data_kind said line ≡ Ok Statement)

abbrev pub statement_for : Bool → Accepted → List ℕ → List ℕ
statement_for false said line = line
statement_for true said line = stands_for (carried_out said.statements).value line

-- what that is answered, where it is of a kind
abbrev pub IsTaken : Bool → Accepted → List ℕ → Result Kind Spot → Answer → List ℕ → Accepted → Type 0
IsTaken false said line kind answer text after = IsAnswer said line kind answer text after
IsTaken true said line kind answer text after = IsData said line kind answer text after

-- The line is under way after what was accepted: its statement has gone so far.
pub record IsUnderWay (u : UnderWay) (served : ServedValue) (said : Accepted) (line : List ℕ) : Type 0 where
  pub line_is : u.line.items ≡ line
  pub asked : IsStatementLine u.reads said line
  pub has : HasBegun u served said (statement_for u.reads said line)

-- it is left so
abbrev pub IsLeft : Option UnderWay → List ℕ → Bool → ServedValue → Accepted → List ℕ → Type 0
IsLeft None line reads served said statement = ⊥
IsLeft (Some u) line reads served said statement = (u.line.items ≡ line) × (u.reads ≡ reads) × HasBegun u served said statement

-- This line can be answered after what was accepted: no other one is under way.
abbrev pub CanAnswerBy : Option UnderWay → ServedValue → Accepted → List ℕ → Type 0
CanAnswerBy None served said line = Keeps served said
CanAnswerBy (Some u) served said line = IsUnderWay u served said line

abbrev pub CanAnswer : ServedValue → Accepted → List ℕ → Type 0
CanAnswer served said line = CanAnswerBy served.under_way served said line

-- another line is under way
abbrev pub IsOther : Option UnderWay → List ℕ → Type 0
IsOther None line = ⊥
IsOther (Some u) line = u.line.items ≡ line → ⊥
