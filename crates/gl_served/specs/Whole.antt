-- The session that was accepted so far, and its text.
use Rattle.std.specs.Prelude.{◌≡◌, ℕ, ◌≤◌, List, [], ◌∷◌, ◌++◌, length, map, Result, Ok, Err}
use Rattle.gl_base.specs.Count.{counted_up}
use Rattle.gl_base.specs.Words.{span}
use Rattle.gl_base.specs.declared.limits.TheConstants.{COST_MAX}
use Rattle.gl_script.specs.Cost.{session_cost}
use Rattle.gl_script.specs.Section.{SaidSection}
use Rattle.gl_script.specs.Sentence.{Sentence}
use Rattle.gl_script.specs.Served.{Kind, Statement}
use Rattle.gl_script.specs.declared.limits.TheConstants.{SESSION_MAX}
use Rattle.gl_script.specs.declared.refusal.Spot.{Spot}
use Rattle.gl_script.specs.declared.section.SectionKind.TheVariants.{Setup}
use Rattle.gl_script.specs.declared.served.Stage.TheVariants.{Open}
use Rattle.gl_script.specs.declared.version.Version.{Version}
use Rattle.gl_check.specs.One.{one, planned}
use Rattle.gl_served.specs.CutLines.{joined}
use Rattle.gl_served.specs.Frames.{AreFrames}
use Rattle.gl_served.specs.Questions.{IsData, IsReplyTo, data_kind, question_of, stands_for}
use Rattle.gl_served.specs.Served.{Accepted, carried_out, kind_after, nothing_accepted, text_of}
use Rattle.gl_served.specs.declared.answered.Answer.{Answer}
use Rattle.gl_served.specs.declared.limits.TheConstants.{PAIRS}
use Rattle.gl_served.specs.declared.question.Question.{Question}
use Rattle.gl_served.specs.declared.question.Question.TheVariants.{Nothing, Due, Data}

-- a session that has its statements in `setup`; where they stand in a text plays no part
abbrev pub session_of : Accepted → List SaidSection
session_of said = record { kind = Setup; name = []; statements = map (λ line. span 0 line) said.statements } ∷ []

-- As long as each statement has slots of its own the text is the one that One gives for that session, over the answers that Planned gives to
-- it; closing the files at its end prints nothing. The port takes no maps.
abbrev pub TextIsOne : Type 0
TextIsOne = (said : Accepted) → length said.statements ≤ PAIRS → text_of said ≡ one (session_of said) (planned (session_of said))

-- the line of a session that a line of a kind is, where it is accepted
abbrev pub line_of : Result Kind Spot → List ℕ → List (List ℕ)
line_of (Ok kind) line = line ∷ []
line_of (Err fault) line = []

-- what a line was to the session: `due` is no line of it, and `data` the statement that it stands for
abbrev pub line_as : Question → Accepted → List ℕ → List (List ℕ)
line_as Nothing said line = line_of (kind_after said line) line
line_as Due said line = []
line_as Data said line = line_of (data_kind said line) (stands_for (carried_out said.statements).value line)

-- what a `data` adds to the session's text: what its statement prints
abbrev pub read_by : (said : Accepted) (line : List ℕ) (kind : Result Kind Spot) (answer : Answer) (text : List ℕ) (after : Accepted) → IsData said line kind answer text after → List ℕ
read_by said line (Ok Statement) answer text after is = is.1.extra
read_by said line kind answer text after is = text

-- what an answered line adds
abbrev pub added_by : (question : Question) (said : Accepted) (line : List ℕ) (answer : Answer) (text : List ℕ) (after : Accepted) → IsReplyTo question said line answer text after → List ℕ
added_by Nothing said line answer text after is = text
added_by Due said line answer text after is = []
added_by Data said line answer text after is = read_by said (stands_for (carried_out said.statements).value line) (data_kind said line) answer text after is

-- the lines that were accepted, and what was answered to them
abbrev pub accepted_lines : (said : Accepted) (answered : ℕ) (lines : List (List ℕ)) (written : List ℕ) (after : Accepted) → AreFrames said answered lines written after → List (List ℕ)
accepted_lines said answered [] written after frames = []
accepted_lines said answered (line ∷ lines) written after (answer, text, mid, rest, is, frames, whole) =
    line_as (question_of said.stage line) said line ++ accepted_lines mid (counted_up answered) lines rest after frames

abbrev pub answered_text : (said : Accepted) (answered : ℕ) (lines : List (List ℕ)) (written : List ℕ) (after : Accepted) → AreFrames said answered lines written after → List ℕ
answered_text said answered [] written after frames = []
answered_text said answered (line ∷ lines) written after (answer, text, mid, rest, is, frames, whole) =
    added_by (question_of said.stage line) said line answer text mid is ++ answered_text mid (counted_up answered) lines rest after frames

-- Lines were answered by frames. Those that were accepted are together a session, and One of it is what was answered to them.
pub record AreSession (lines : List (List ℕ)) (written : List ℕ) (after : Accepted) (frames : AreFrames nothing_accepted 0 lines written after) : Type 0 where
  pub sections : List SaidSection
  pub sentence : Sentence (joined (accepted_lines nothing_accepted 0 lines written after frames)) sections
  pub prints : answered_text nothing_accepted 0 lines written after frames ≡ one sections (planned sections)

-- So it is once `setup` was accepted, as long as the session isn't too long and doesn't cost too much: over a port that takes no maps.
abbrev pub FramesAreSession : Type 0
FramesAreSession = (lines : List (List ℕ)) (written : List ℕ) (after : Accepted) (version : Version) → (frames : AreFrames nothing_accepted 0 lines written after) → after.stage ≡ Open version
    → length (joined (accepted_lines nothing_accepted 0 lines written after frames)) ≤ SESSION_MAX → session_cost (session_of after) ≤ COST_MAX → AreSession lines written after frames
