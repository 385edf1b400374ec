-- A session that is served: what was accepted of it so far, and what that comes to. This project's choice.
use Rattle.std.specs.Prelude.{◌≡◌, ℕ, ◌+◌, nat_lt, min, if◌then◌else◌, List, [], ◌∷◌, ◌++◌, length, Option, None, Some, Result, Ok, Err}
use Rattle.gl_model.specs.World.{opening}
use Rattle.gl_script.specs.Columns.{columns}
use Rattle.gl_script.specs.Faults.{spot}
use Rattle.gl_script.specs.Served.{Kind, Passed, Header, Setup, Statement, line_kind, opened}
use Rattle.gl_script.specs.declared.refusal.RefusalKind.TheVariants.{Limit}
use Rattle.gl_script.specs.declared.refusal.Spot.{Spot}
use Rattle.gl_script.specs.declared.served.Stage.{Stage}
use Rattle.gl_script.specs.declared.served.Stage.TheVariants.{Opening, Headed}
use Rattle.gl_talk.specs.Open.{Names, setup_names}
use Rattle.gl_talk.specs.Talk.{does, names_in}
use Rattle.gl_talk.specs.declared.talk.Talk.{Talk}
use Rattle.gl_check.specs.Joining.{no_maps}
use Rattle.gl_check.specs.One.{PlannedPort, Ran, Standing, behind_text, from_plan, run}
use Rattle.gl_served.specs.Alone.{StandsAs}
use Rattle.gl_check.specs.Ports.{unplanned}
use Rattle.gl_served.specs.Slots.{pair_behind, slot_of}
use Rattle.gl_served.specs.declared.limits.TheConstants.{LINE_MAX, PAIRS}
use Rattle.gl_served.specs.declared.alone.Alone.{Alone}
use Rattle.gl_served.specs.declared.answered.Answer.{Answer}
use Rattle.gl_served.specs.declared.answered.Answer.TheVariants.{Text, Refused}
use Rattle.gl_served.specs.declared.under_way.UnderWay.{UnderWay}

-- a new machine, without an open file, and a new port, which takes no maps
abbrev pub start : Standing PlannedPort
start = record { world = opening; files = []; maps = no_maps 0; source = unplanned; took = []; asked = []; entries = 0 }

-- a statement after so many others is carried out, over a planned driver
abbrev pub stated : ℕ → Ran PlannedPort Names → List ℕ → Ran PlannedPort Names
stated count ran line = behind_text ran.text (run 0 from_plan (does ran.value (slot_of (pair_behind count ran.behind.files)) (columns line)) ran.behind)

-- statements in a row, after so many others
abbrev pub carried_from : ℕ → Ran PlannedPort Names → List (List ℕ) → Ran PlannedPort Names
carried_from count ran [] = ran
carried_from count ran (line ∷ lines) = carried_from (count + 1) (stated count ran line) lines

-- what statements in a row come to
abbrev pub carried_out : List (List ℕ) → Ran PlannedPort Names
carried_out statements = carried_from 0 (record { text = []; value = setup_names; behind = start }) statements

-- what was accepted so far: how far the session has come, and the lines of its statements
pub record Accepted : Type 0 where
  pub stage : Stage
  pub statements : List (List ℕ)

abbrev pub nothing_accepted : Accepted
nothing_accepted = record { stage = Opening; statements = [] }

-- a line more of this kind was accepted
abbrev pub accepted_after : Kind → List ℕ → Accepted → Accepted
accepted_after Passed line said = said
accepted_after (Header version) line said = record { stage = Headed version; statements = said.statements }
accepted_after Setup line said = record { stage = opened said.stage; statements = said.statements }
accepted_after Statement line said = record { stage = said.stage; statements = said.statements ++ line ∷ [] }

-- the text of the session with what was accepted so far
abbrev pub text_of : Accepted → List ℕ
text_of said = (carried_out said.statements).text

-- the pair of slots of the next statement
abbrev pub pair_after : Accepted → Option ℕ
pair_after said = pair_behind (length said.statements) (carried_out said.statements).behind.files

-- A line has at most `LINE_MAX` bytes, and a statement a pair of slots.
abbrev pub in_pair : Option ℕ → Result Kind Spot
in_pair None = Err (spot 1 Limit)
in_pair (Some pair) = Ok Statement

abbrev pub limited : Option ℕ → Result Kind Spot → Result Kind Spot
limited pair (Ok Statement) = in_pair pair
limited pair kind = kind

-- so many statements were counted, where the count stands still once no pair is a statement's own
abbrev pub counted : ℕ → ℕ
counted count = min count PAIRS

-- what a line is, after what was accepted, or why it is refused
abbrev pub kind_after : Accepted → List ℕ → Result Kind Spot
kind_after said line = if nat_lt LINE_MAX (length line) then Err (spot (LINE_MAX + 1) Limit) else limited (pair_after said) (line_kind said.stage line)

-- A line is answered: a refused one counts as not given, and of an accepted one the answer is just what it adds to the session's text.
abbrev pub IsAnswer : Accepted → List ℕ → Result Kind Spot → Answer → List ℕ → Accepted → Type 0
IsAnswer said line (Err fault) answer text after = (answer ≡ Refused fault) × (text ≡ []) × (after ≡ said)
IsAnswer said line (Ok kind) answer text after = (answer ≡ Text) × (after ≡ accepted_after kind line said) × (text_of after ≡ text_of said ++ text)

-- what the code keeps of it; a line is under way once memory was wanted in its midst
pub record ServedValue : Type 0 where
  pub stage : Stage
  pub talk : Talk
  pub count : ℕ
  pub alone : Alone
  pub under_way : Option UnderWay

-- it keeps just what was accepted, and no line is under way
pub record Keeps (served : ServedValue) (said : Accepted) : Type 0 where
  pub stage : served.stage ≡ said.stage
  pub count : served.count ≡ counted (length said.statements)
  pub names : names_in served.talk ≡ (carried_out said.statements).value
  pub stands : StandsAs served.alone (carried_out said.statements).behind
  pub rests : served.under_way ≡ None
