-- The lines that are accepted one after the other are, together, a session with its statements in `setup`; and what is refused would
-- be refused there too, but for the sections that come after `setup`. This project's choice.
use Rattle.std.specs.Prelude.{◌≡◌, ◌⊎◌, ◌≤◌, ℕ, List, [], ◌∷◌, ◌++◌, length, Option, None, Some, Result, Ok, Err}
use Rattle.gl_base.specs.Words.{Span, lines_of}
use Rattle.gl_base.specs.declared.limits.TheConstants.{COST_MAX}
use Rattle.gl_script.specs.declared.limits.TheConstants.{SESSION_MAX}
use Rattle.gl_script.specs.declared.refusal.RefusalKind.TheVariants.{Section}
use Rattle.gl_script.specs.declared.refusal.Spot.{Spot}
use Rattle.gl_script.specs.declared.section.SectionKind.TheVariants.{Setup as SetupSection}
use Rattle.gl_script.specs.declared.served.Stage.{Stage}
use Rattle.gl_script.specs.declared.served.Stage.TheVariants.{Opening, Headed, Open}
use Rattle.gl_script.specs.declared.version.Version.{Version}
use Rattle.gl_script.specs.Cost.{session_cost}
use Rattle.gl_script.specs.Section.{SaidSection}
use Rattle.gl_script.specs.Sentence.{Before, Sentence, behind, line_fault, nothing}
use Rattle.gl_script.specs.Served.{Kind, Passed, Header, Setup, Statement, line_kind, stage_after}
use Rattle.gl_script.specs.Spelled.{behind_header}

-- `setup` with these statements
abbrev pub setup_of : List Span → SaidSection
setup_of said = record { kind = SetupSection; name = []; statements = said }

-- what stands before a line of a session, at a stage, where these lines are the statements so far
abbrev pub stands : Stage → List Span → Before
stands Opening said = nothing
stands (Headed version) said = behind_header version [] None
stands (Open version) said = behind_header version [] (Some (setup_of said))

-- the statements so far, behind a line of a kind
abbrev pub said_behind : Kind → Span → List Span → List Span
said_behind Passed line said = said
said_behind (Header version) line said = said
said_behind Setup line said = []
said_behind Statement line said = said ++ line ∷ []

-- A line that is accepted has no fault behind those before it, and what stands behind it is the next stage.
abbrev pub AcceptedLinesHaveNoFault : Type 0
AcceptedLinesHaveNoFault = (stage : Stage) (said : List Span) (line : Span) (kind : Kind) → line_kind stage line.text ≡ Ok kind
    → (line_fault (stands stage said) line.text ≡ None) × (behind (stands stage said) line ≡ stands (stage_after stage kind) (said_behind kind line said))

-- A line that is refused has that fault behind those before it, or is refused as a section.
abbrev pub RefusedLinesHaveTheirFault : Type 0
RefusedLinesHaveTheirFault = (stage : Stage) (said : List Span) (line : Span) (fault : Spot) → line_kind stage line.text ≡ Err fault
    → (line_fault (stands stage said) line.text ≡ Some fault) ⊎ (fault.kind ≡ Section)

-- how far lines have come that were all accepted: the stage, and the statements
pub record Accepted : Type 0 where
  pub stage : Stage
  pub said : List Span

abbrev pub accepts : Result Kind Spot → Span → Accepted → Option Accepted
accepts (Ok kind) line before = Some (record { stage = stage_after before.stage kind; said = said_behind kind line before.said })
accepts (Err fault) line before = None

abbrev pub accepts_all : Option Accepted → List Span → Option Accepted
accepts_all before [] = before
accepts_all None (line ∷ lines) = None
accepts_all (Some before) (line ∷ lines) = accepts_all (accepts (line_kind before.stage line.text) line before) lines

-- A text whose lines are all accepted, from the beginning to where statements come, is a session with these statements in `setup`,
-- unless it is too long or costs too much.
abbrev pub AcceptedTextsAreSessions : Type 0
AcceptedTextsAreSessions = (bytes : List ℕ) (version : Version) (said : List Span) → accepts_all (Some (record { stage = Opening; said = [] })) (lines_of bytes) ≡ Some (record { stage = Open version; said = said })
    → length bytes ≤ SESSION_MAX → session_cost (setup_of said ∷ []) ≤ COST_MAX → Sentence bytes (setup_of said ∷ [])
