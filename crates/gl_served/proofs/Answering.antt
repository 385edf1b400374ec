-- What a line is answered, by what the code keeps.
use Rattle.std.proofs.Common.{◌≡◌, ℕ, ◌+◌, ◌^◌, ◌<◌, ◌≤◌, Bool, true, false, cond, List, [], ◌++◌, length, drop, codes, Option, Result, Ok, Err, IfOk, refl, sym, ap, ◌∙◌, subst, arith, inl, inr, length-append, length-drop}
use Rattle.std.proofs.lemmas.Bool.{cases_lt, le-ltb}
use Rattle.gl_base.specs.Words.{Span, text_at}
use Rattle.gl_base.specs.declared.errno.Errno.{Errno}
use Rattle.gl_debounce.specs.Earliest.{earliest}
use Rattle.gl_script.specs.Columns.{columns}
use Rattle.gl_script.specs.Faults.{spot}
use Rattle.gl_script.specs.Served.{IsSaid, Kind, Passed, Header, Setup, Statement, kind_in, line_kind, opened}
use Rattle.gl_script.specs.declared.refusal.RefusalKind.TheVariants.{Limit}
use Rattle.gl_script.specs.declared.refusal.Spot.{Spot}
use Rattle.gl_script.specs.declared.said.Said.{Said}
use Rattle.gl_script.specs.declared.served.LineKind.{LineKind}
use Rattle.gl_script.specs.declared.served.LineKind.TheVariants.{Passed as PassedLine, Header as HeaderLine, Setup as SetupLine, Statement as StatementLine}
use Rattle.gl_script.specs.declared.served.Stage.{Stage}
use Rattle.gl_talk.specs.Open.{Names, file_of, is_chip_file}
use Rattle.gl_talk.specs.Talk.{names_in}
use Rattle.gl_talk.specs.declared.talk.Talk.{Talk}
use Rattle.gl_served.specs.Alone.{StandsAs}
use Rattle.gl_served.specs.Questions.{IsData, IsReply, IsReplyTo, data_kind, due_text, moved, names_chip, question_of, read_word, shift_of, stands_for}
use Rattle.gl_served.specs.Served.{Accepted, IsAnswer, Keeps, ServedValue, carried_out, kind_after, limited, pair_after}
use Rattle.gl_served.specs.UnderWay.{IsTaken}
use Rattle.gl_served.specs.declared.alone.Alone.{Alone}
use Rattle.gl_served.specs.declared.limits.TheConstants.{LINE_MAX}
use Rattle.gl_served.specs.declared.answered.Answer.{Answer}
use Rattle.gl_served.specs.declared.answered.Answer.TheVariants.{Text, Refused}
use Rattle.gl_served.specs.declared.question.Question.{Question}
use Rattle.gl_served.specs.declared.question.Question.TheVariants.{Nothing, Due, Data}
use Rattle.gl_served.specs.declared.under_way.UnderWay.{UnderWay}
use Rattle.gl_served.proofs.CutLines.{long_asks}

-- the kind of a line
pub short_kind : (said : Accepted) (line : List ℕ) (pair : Option ℕ) (stage : Stage) → pair ≡ pair_after said → stage ≡ said.stage → length line ≤ LINE_MAX → limited pair (line_kind stage line) ≡ kind_after said line
short_kind said line pair stage own reached short =
    ap (λ (p : Option ℕ). limited p (line_kind stage line)) own
    ∙ ap (λ (s : Stage). limited (pair_after said) (line_kind s line)) reached
    ∙ sym (ap (λ b. cond b (Err (spot (LINE_MAX + 1) Limit)) (limited (pair_after said) (line_kind said.stage line))) (le-ltb LINE_MAX (length line) short))

-- what was read of a line is said of it within its limits and at other columns too
pub same_said : (words : List Span) (kind told : Result LineKind Spot) → IfOk told (λ line. kind ≡ Ok line) → IfOk kind (λ line. IsSaid words line) → IfOk told (λ line. IsSaid words line)
same_said words kind (Ok line) same said = subst (λ (r : Result LineKind Spot). IfOk r (λ l. IsSaid words l)) same said
same_said words kind (Err fault) same said = tt

pub moved_said : (words : List Span) (kind other : Result LineKind Spot) (line : LineKind) → IfOk other (λ l. kind ≡ Ok l) → other ≡ Ok line → IfOk kind (λ l. IsSaid words l) → IsSaid words line
moved_said words kind other line same is said = subst (λ (r : Result LineKind Spot). IfOk r (λ l. IsSaid words l)) is (same_said words kind other same said)

-- what was not read as a statement is none
pub no_statement : (kind : LineKind) → ((said : Said) → kind ≡ StatementLine said → ⊥) → kind_in kind ≡ Statement → ⊥
no_statement PassedLine other e = cc
no_statement (HeaderLine version) other e = cc
no_statement SetupLine other e = cc
no_statement (StatementLine said) other e = other said refl

-- a refused line
pub refuses : (said : Accepted) (line : List ℕ) (kind : Result Kind Spot) (fault : Spot) → Err fault ≡ kind → IsAnswer said line kind (Refused fault) [] said
refuses said line kind fault is = subst (λ (k : Result Kind Spot). IsAnswer said line k (Refused fault) [] said) is (refl, refl, refl)

-- a stage more is reached
pub reached : (before stage : Stage) (talk : Talk) (count : ℕ) (alone : Alone) (under_way : Option UnderWay) (served : ServedValue) (said : Accepted) → record { stage = before; talk = talk; count = count; alone = alone; under_way = under_way } ≡ served
    → Keeps served said → Keeps (record { stage = stage; talk = talk; count = count; alone = alone; under_way = under_way }) (record { stage = stage; statements = said.statements })
reached before stage talk count alone under_way served said is keeps = record {
  stage = refl;
  count = ap (λ (v : ServedValue). v.count) is ∙ keeps.count;
  names = ap (λ (v : ServedValue). names_in v.talk) is ∙ keeps.names;
  stands = subst (λ (a : Alone). StandsAs a (carried_out said.statements).behind) (sym (ap (λ (v : ServedValue). v.alone) is)) keeps.stands;
  rests = ap (λ (v : ServedValue). v.under_way) is ∙ keeps.rests;
}

-- `setup` was accepted
pub opened_up : (before stage : Stage) (talk : Talk) (count : ℕ) (alone : Alone) (under_way : Option UnderWay) (served : ServedValue) (said : Accepted) → record { stage = before; talk = talk; count = count; alone = alone; under_way = under_way } ≡ served → stage ≡ opened before
    → Keeps served said → Keeps (record { stage = stage; talk = talk; count = count; alone = alone; under_way = under_way }) (record { stage = opened said.stage; statements = said.statements })
opened_up before stage talk count alone under_way served said is opens keeps =
    let same : opened said.stage ≡ stage = ap opened (sym keeps.stage ∙ sym (ap (λ (v : ServedValue). v.stage) is)) ∙ sym opens in
    subst (λ s. Keeps (record { stage = stage; talk = talk; count = count; alone = alone; under_way = under_way }) (record { stage = s; statements = said.statements })) (sym same)
    (reached before stage talk count alone under_way served said is keeps)

module _ (result : Result Answer Errno) (old new : List ℕ) (now : ServedValue) (said : Accepted) where
  -- by what the line is
  pub said_by : (line : List ℕ) (kind other : Result Kind Spot) → kind ≡ other
      → IfOk result (λ answer. (text : List ℕ) × (then : Accepted) × (new ≡ old ++ text) × IsAnswer said line kind answer text then × Keeps now then)
      → IfOk result (λ answer. (text : List ℕ) × (then : Accepted) × (new ≡ old ++ text) × IsAnswer said line other answer text then × Keeps now then)
  said_by line kind other is told =
      subst (λ (k : Result Kind Spot). IfOk result (λ answer. (text : List ℕ) × (then : Accepted) × (new ≡ old ++ text) × IsAnswer said line k answer text then × Keeps now then)) is told

  pub read_by : (line stood : List ℕ) (kind other : Result Kind Spot) → line ≡ stood → kind ≡ other
      → IfOk result (λ answer. (text : List ℕ) × (then : Accepted) × (new ≡ old ++ text) × IsData said line kind answer text then × Keeps now then)
      → IfOk result (λ answer. (text : List ℕ) × (then : Accepted) × (new ≡ old ++ text) × IsData said stood other answer text then × Keeps now then)
  read_by line stood kind other same is told =
      subst (λ (l : List ℕ). IfOk result (λ answer. (text : List ℕ) × (then : Accepted) × (new ≡ old ++ text) × IsData said l other answer text then × Keeps now then)) same
      (subst (λ (k : Result Kind Spot). IfOk result (λ answer. (text : List ℕ) × (then : Accepted) × (new ≡ old ++ text) × IsData said line k answer text then × Keeps now then)) is told)

  pub reads_by : (line : List ℕ) (kind : Result Kind Spot) (reads other : Bool) → reads ≡ other
      → IfOk result (λ answer. (text : List ℕ) × (then : Accepted) × (new ≡ old ++ text) × IsTaken reads said line kind answer text then × Keeps now then)
      → IfOk result (λ answer. (text : List ℕ) × (then : Accepted) × (new ≡ old ++ text) × IsTaken other said line kind answer text then × Keeps now then)
  reads_by line kind reads other is told =
      subst (λ (r : Bool). IfOk result (λ answer. (text : List ℕ) × (then : Accepted) × (new ≡ old ++ text) × IsTaken r said line kind answer text then × Keeps now then)) is told

  pub line_by : (line stood : List ℕ) (reads : Bool) (kind : Result Kind Spot) → line ≡ stood
      → IfOk result (λ answer. (text : List ℕ) × (then : Accepted) × (new ≡ old ++ text) × IsTaken reads said line kind answer text then × Keeps now then)
      → IfOk result (λ answer. (text : List ℕ) × (then : Accepted) × (new ≡ old ++ text) × IsTaken reads said stood kind answer text then × Keeps now then)
  line_by line stood reads kind is told =
      subst (λ (l : List ℕ). IfOk result (λ answer. (text : List ℕ) × (then : Accepted) × (new ≡ old ++ text) × IsTaken reads said l kind answer text then × Keeps now then)) is told

  pub kind_by : (line : List ℕ) (reads : Bool) (kind other : Kind) → kind ≡ other
      → IfOk result (λ answer. (text : List ℕ) × (then : Accepted) × (new ≡ old ++ text) × IsTaken reads said line (Ok kind) answer text then × Keeps now then)
      → IfOk result (λ answer. (text : List ℕ) × (then : Accepted) × (new ≡ old ++ text) × IsTaken reads said line (Ok other) answer text then × Keeps now then)
  kind_by line reads kind other is told =
      subst (λ (k : Kind). IfOk result (λ answer. (text : List ℕ) × (then : Accepted) × (new ≡ old ++ text) × IsTaken reads said line (Ok k) answer text then × Keeps now then)) is told

  -- by which question it is
  pub replied_by : (line : List ℕ) (q : Question) → question_of said.stage line ≡ q
      → IfOk result (λ answer. (text : List ℕ) × (then : Accepted) × (new ≡ old ++ text) × IsReplyTo q said line answer text then × Keeps now then)
      → IfOk result (λ answer. (text : List ℕ) × (then : Accepted) × (new ≡ old ++ text) × IsReply said line answer text then × Keeps now then)
  replied_by line q is told =
      subst (λ (p : Question). IfOk result (λ answer. (text : List ℕ) × (then : Accepted) × (new ≡ old ++ text) × IsReplyTo p said line answer text then × Keeps now then)) (sym is) told

-- what isn't a statement is answered as any line
read_plainly : (said : Accepted) (line : List ℕ) (kind : Kind) (answer : Answer) (text : List ℕ) (then : Accepted) → (kind ≡ Statement → ⊥)
    → IsAnswer said line (Ok kind) answer text then → IsData said line (Ok kind) answer text then
read_plainly said line Passed answer text then other told = told
read_plainly said line (Header version) answer text then other told = told
read_plainly said line Setup answer text then other told = told
read_plainly said line Statement answer text then other told = absurd (other refl)

pub taken_plainly : (reads : Bool) (said : Accepted) (line : List ℕ) (kind : Kind) (answer : Answer) (text : List ℕ) (then : Accepted) → (kind ≡ Statement → ⊥)
    → IsAnswer said line (Ok kind) answer text then → IsTaken reads said line (Ok kind) answer text then
taken_plainly false said line kind answer text then other told = told
taken_plainly true said line kind answer text then other told = read_plainly said line kind answer text then other told

pub refuses_data : (said : Accepted) (line : List ℕ) (kind : Result Kind Spot) (fault : Spot) → Err fault ≡ kind → IsData said line kind (Refused fault) [] said
refuses_data said line kind fault is = subst (λ (k : Result Kind Spot). IsData said line k (Refused fault) [] said) is (refl, refl, refl)

pub due_told : (result : Result Answer Errno) (old new : List ℕ) (now : ServedValue) (said : Accepted) (line : List ℕ)
    → IfOk result (λ answer. (answer ≡ Text) × (new ≡ old ++ due_text (earliest (carried_out said.statements).behind.world.timers)) × Keeps now said)
    → IfOk result (λ answer. (text : List ℕ) × (then : Accepted) × (new ≡ old ++ text) × IsReplyTo Due said line answer text then × Keeps now then)
due_told (Ok answer) old new now said line (is, out, keeps) = (due_text (earliest (carried_out said.statements).behind.world.timers), said, out, (is, refl, refl), keeps)
due_told (Err errno) old new now said line told = tt

-- which question a line is
pub asked : (served : ServedValue) (said : Accepted) (line : List ℕ) (told q : Question) → Keeps served said → told ≡ question_of served.stage line → told ≡ q → question_of said.stage line ≡ q
asked served said line told q keeps is same = sym (ap (λ (s : Stage). question_of s line) keeps.stage) ∙ sym is ∙ same

pub data_short : (stage : Stage) (line : List ℕ) → question_of stage line ≡ Data → length line ≤ LINE_MAX
data_short stage line is = elim (cases_lt LINE_MAX (length line)) [
  | inl long ↦ absurd (other (sym (long_asks stage line long) ∙ is))
  | inr short ↦ omega (arith, short)
]
  where
    other : Nothing ≡ Data → ⊥
    other e = cc

-- the statement that a `data` stands for is not much longer
pub is_short : (chip : Bool) (line statement : List ℕ) → statement ≡ read_word chip ++ drop 5 line → length line ≤ LINE_MAX → length statement + 2 < 2 ^ 32
is_short true line statement e short = omega (arith, ap (λ (l : List ℕ). length l) e, length-append (codes "changes ") (drop 5 line), length-drop 5 line, short)
is_short false line statement e short = omega (arith, ap (λ (l : List ℕ). length l) e, length-append (codes "events ") (drop 5 line), length-drop 5 line, short)

-- that statement, and its kind
module _ (said : Accepted) (line statement : List ℕ) (names : Names) (chip : Bool) (same : names ≡ (carried_out said.statements).value)
    (is_chip : chip ≡ is_chip_file (file_of (text_at 0 (columns (drop 5 line))) names.files)) (made : statement ≡ read_word chip ++ drop 5 line) where
  chip_named : chip ≡ names_chip (carried_out said.statements).value line
  chip_named = is_chip ∙ ap (λ (n : Names). is_chip_file (file_of (text_at 0 (columns (drop 5 line))) n.files)) same

  pub stands : statement ≡ stands_for (carried_out said.statements).value line
  stands = made ∙ ap (λ b. read_word b ++ drop 5 line) chip_named

  pub kind_told : (pair : Option ℕ) (shift : ℕ) (stage : Stage) (kind other told : Result Kind Spot) → pair ≡ pair_after said → stage ≡ said.stage → shift ≡ shift_of chip
      → kind ≡ line_kind stage statement → other ≡ moved shift kind → told ≡ limited pair other → told ≡ data_kind said line
  kind_told pair shift stage kind other told own reach by first then last =
      last ∙ ap (λ (p : Option ℕ). limited p other) own
      ∙ ap (λ (k : Result Kind Spot). limited (pair_after said) k)
      (then ∙ ap (λ (k : Result Kind Spot). moved shift k) (first ∙ ap (λ (s : Stage). line_kind s statement) reach ∙ ap (λ (l : List ℕ). line_kind said.stage l) stands)
      ∙ ap (λ (n : ℕ). moved n (line_kind said.stage (stands_for (carried_out said.statements).value line))) (by ∙ ap (λ b. shift_of b) chip_named))
