-- What a printed run is judged to be. The input is a line `check N`, N bytes of a session, and what is to be the output of its run. The
-- first of these cases that holds decides; each level below is reached where none before it did. This project's choice.
use Rattle.std.specs.Prelude.{◌≡◌, ◌⊎◌, ℕ, ◌+◌, ◌≤◌, Bool, true, false, ◌&&◌, is_some, not, nat_le, nat_lt, if◌then◌else◌, List, ◌∷◌, ◌++◌, length, take, drop, Option, None, Some, codes}
use Rattle.std.specs.Str.{bytes_eq}
use Rattle.gl_base.specs.Words.{pieces}
use Rattle.gl_script.specs.Cost.{has_aggregate}
use Rattle.gl_script.specs.Section.{SaidSection}
use Rattle.gl_script.specs.Sentence.{Sentence, first_fault, sections_said}
use Rattle.gl_script.specs.declared.limits.TheConstants.{SESSION_MAX}
use Rattle.gl_script.specs.declared.refusal.RefusalKind.TheVariants.{Header as HeaderKind, TooLong as TooLongKind}
use Rattle.gl_trace.specs.HistoryRead.{Bad, Good, History, history_in}
use Rattle.gl_trace.specs.HistoryText.{AreTold}
use Rattle.gl_trace.specs.Joined.{joined}
use Rattle.gl_trace.specs.WordRead.{number_below, stripped}
use Rattle.gl_core.specs.Device.{OneEntry}
use Rattle.gl_check.specs.Drivers.{over, plain}
use Rattle.gl_check.specs.Many.{Many, PlannedTells, Texts, actor_sections}
use Rattle.gl_check.specs.Misfit.{IsMisfit, texts_of}
use Rattle.gl_check.specs.Texts.{texts_text}
use Rattle.gl_session.specs.declared.judging.TheConstants.{CHECK_MAX}
use Rattle.gl_session.specs.declared.status.Status.{Status}
use Rattle.gl_session.specs.declared.status.Status.TheVariants.{Ran, Refused, No}
use Rattle.gl_session.specs.declared.verdict.Verdict.{Verdict}
use Rattle.gl_session.specs.declared.verdict.Verdict.TheVariants.{TooLong, Header, NoSession, NoFormat, NoEntry, NoText, Yes}
use Rattle.gl_session.specs.Lines.{numbered_line, text_line}
use Rattle.gl_session.specs.Output.{output}
use Rattle.gl_session.specs.Run.{refused_line}

-- the line that is written
abbrev pub yes_line : List ℕ
yes_line = text_line (codes "yes")

abbrev pub verdict_line : Verdict → List ℕ
verdict_line TooLong = refused_line (record { line = 0; column = 0; kind = TooLongKind })
verdict_line Header = refused_line (record { line = 1; column = 1; kind = HeaderKind })
verdict_line NoSession = text_line (codes "no session")
verdict_line (NoFormat line) = numbered_line (codes "no format") line
verdict_line (NoEntry index) = numbered_line (codes "no entry") index
verdict_line NoText = text_line (codes "no text")
verdict_line Yes = yes_line

-- and the status
abbrev pub verdict_status : Verdict → Status
verdict_status TooLong = Refused
verdict_status Header = Refused
verdict_status Yes = Ran
verdict_status _ = No

-- a status that is a judgment's
abbrev pub IsJudgment : Status → Type 0
IsJudgment status = (status ≡ Ran) ⊎ ((status ≡ Refused) ⊎ (status ≡ No))

-- a session, and what is to be the output of its run
pub record Parts : Type 0 where
  pub session : List ℕ
  pub output : List ℕ

-- how many bytes the session has, by the first line: `check N`, a decimal without leading zeros
abbrev pub length_by : Option (List ℕ) → Option ℕ
length_by None = None
length_by (Some number) = number_below (SESSION_MAX + 1) number

abbrev pub length_told : List ℕ → Option ℕ
length_told line = length_by (stripped (codes "check ") line)

-- what stands after the first line, where it has bytes enough
abbrev pub parts_by : Option ℕ → List ℕ → Option Parts
parts_by None rest = None
parts_by (Some count) rest = if nat_le count (length rest) then Some (record { session = take count rest; output = drop count rest }) else None

abbrev pub header_by : List (List ℕ) → Option Parts
header_by (line ∷ next ∷ lines) = parts_by (length_told line) (joined (next ∷ lines))
header_by _ = None

-- the session and the output in an input, where its first line is as it has to be
abbrev pub header_of : List ℕ → Option Parts
header_of input = header_by (pieces 10 input)

-- a session that can be judged: it has no fault, two or more actors, and no `aggregate`
abbrev pub is_judged : List ℕ → Bool
is_judged session = not (is_some (first_fault session)) && (nat_le 2 (length (actor_sections (sections_said session))) && not (has_aggregate (sections_said session)))

-- where no entry is at fault the texts decide, which are those of the history
abbrev pub texts_verdict : List SaidSection → List ℕ → List OneEntry → Verdict
texts_verdict sections front history = if bytes_eq front (texts_text sections (texts_of sections history)) then Yes else NoText

-- the entries decide first
abbrev pub entries_verdict : Option ℕ → List SaidSection → List ℕ → List OneEntry → Verdict
entries_verdict (Some index) sections front history = NoEntry index
entries_verdict None sections front history = texts_verdict sections front history

-- an output with this history in it
abbrev pub IsOutputVerdict : List SaidSection → History → Verdict → Type 0
IsOutputVerdict sections (Bad line) verdict = verdict ≡ NoFormat line
IsOutputVerdict sections (Good front history) verdict =
    AreTold 0 history × ((misfit : Option ℕ) × IsMisfit sections history misfit × (verdict ≡ entries_verdict misfit sections front history))

-- by whether the session can be judged
abbrev pub IsSessionVerdict : Bool → Parts → Verdict → Type 0
IsSessionVerdict false parts verdict = verdict ≡ NoSession
IsSessionVerdict true parts verdict = IsOutputVerdict (sections_said parts.session) (history_in parts.output) verdict

-- by whether the input begins as it has to
abbrev pub IsPartsVerdict : Option Parts → Verdict → Type 0
IsPartsVerdict None verdict = verdict ≡ Header
IsPartsVerdict (Some parts) verdict = IsSessionVerdict (is_judged parts.session) parts verdict

-- by whether it is too long
abbrev pub IsLongVerdict : Bool → List ℕ → Verdict → Type 0
IsLongVerdict true input verdict = verdict ≡ TooLong
IsLongVerdict false input verdict = IsPartsVerdict (header_of input) verdict

-- what an input is judged to be
abbrev pub IsVerdict : List ℕ → Verdict → Type 0
IsVerdict input verdict = IsLongVerdict (nat_lt CHECK_MAX (length input)) input verdict

-- a session and an output as an input
abbrev pub check_text : List ℕ → List ℕ → List ℕ
check_text session printed = numbered_line (codes "check") (length session) ++ (session ++ printed)

-- An input is a lawful run: it is within its length, and is a header, a session of several actors without `aggregate`, and the Output of some texts and some
-- history with Many and PlannedTells. Its entries' numbers and texts are of their types.
pub record IsLawful (input : List ℕ) : Type 0 where
  pub session : List ℕ
  pub sections : List SaidSection
  pub texts : Texts
  pub history : List OneEntry
  pub within : length input ≤ CHECK_MAX
  pub is : input ≡ check_text session (output sections texts history)
  pub sentence : Sentence session sections
  pub several : 2 ≤ length (actor_sections sections)
  pub without : has_aggregate sections ≡ false
  pub many : Many (over 0 plain) sections history texts
  pub planned : PlannedTells (over 0 plain) sections history texts
  pub told : AreTold 0 history

-- `yes` is the verdict on lawful runs, and on these alone
abbrev pub YesIsLawful : Type 0
YesIsLawful = (input : List ℕ) → IsVerdict input Yes → IsLawful input

abbrev pub LawfulIsYes : Type 0
LawfulIsYes = (input : List ℕ) (verdict : Verdict) → IsLawful input → IsVerdict input verdict → verdict ≡ Yes
