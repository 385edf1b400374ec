-- gpioset: it requests its lines with their values. As a statement it closes its request at once; started, it holds it until
-- it is stopped (libgpiod's manual page; that it is held so is this project's choice).
use Rattle.std.specs.Prelude.{ℕ, Bool, true, false, List, Option, Some, None}
use Rattle.gl_base.specs.declared.errno.Errno.{Errno}
use Rattle.gl_base.specs.declared.operation.Do.TheVariants.{Close}
use Rattle.gl_base.specs.Operation.{refusal}
use Rattle.gl_args.specs.declared.names.ToolName.TheVariants.{Set as SetName}
use Rattle.gl_args.specs.Names.{tool_text}
use Rattle.gl_args.specs.Options.{options_in, Options}
use Rattle.gl_client.specs.Program.{Program, done, print, ask, Left, goes_on, waits, then_left, then_by}
use Rattle.gl_lines.specs.declared.found_line.FoundLine.{FoundLine}
use Rattle.gl_lines.specs.Finding.{finds, left}
use Rattle.gl_lines.specs.Texts.{failed_line}
use Rattle.gl_values.specs.declared.set.Hold.{Hold}
use Rattle.gl_values.specs.declared.set.Hold.TheVariants.{No, Yes}
use Rattle.gl_values.specs.declared.set.Set.{Set}
use Rattle.gl_values.specs.declared.set.SetStage.{SetStage}
use Rattle.gl_values.specs.declared.set.SetStage.TheVariants.{Begin, Finding, Holding, Stopped, Closing, NotClosed, Ended}

abbrev pub tool : List ℕ
tool = tool_text SetName

-- what a tool gives that may hold a request: its slot, or nothing where it has ended
abbrev pub Held : Type 0
Held = Option ℕ

-- it ends
abbrev pub ends : Program Held
ends = done None

-- the request was closed
abbrev pub closed : Option Errno → Program Held
closed (Some errno) = print (failed_line tool errno) ends
closed None = ends

-- the request is closed
abbrev pub closes : ℕ → Program Held
closes made = ask (Close made) (λ got. closed (refusal got))

-- the lines were requested, or not
abbrev pub behind : Hold → ℕ → Option (List FoundLine) → Program Held
behind hold made None = ends
behind No made (Some found) = closes made
behind Yes made (Some found) = done (Some made)

-- gpioset
abbrev pub sets : Hold → ℕ → ℕ → Options → Program Held
sets hold base made opts = then_by (finds SetName base made opts) (behind hold made)

-- a tool that holds a request is stopped
abbrev pub stops : Held → Program Held
stops None = ends
stops (Some slot) = closes slot

-- what is left; one line a stage
abbrev pub left_of : Set → SetStage → Left Held
left_of s Begin = goes_on (then_by (finds s.finder.tool s.finder.base s.finder.made (options_in s.finder.opts)) (behind s.hold s.finder.made))
left_of s Finding = then_left (left s.finder) (behind s.hold s.finder.made)
left_of s Holding = goes_on (done (Some s.finder.made))
left_of s Stopped = goes_on (closes s.finder.made)
left_of s Closing = waits (λ got. closed (refusal got))
left_of s NotClosed = goes_on ends
left_of s Ended = goes_on ends

abbrev pub set_left : Set → Left Held
set_left s = left_of s s.stage

abbrev pub has_ended : SetStage → Bool
has_ended Ended = true
has_ended _ = false

-- the slot of the request that it holds, if it holds one
abbrev pub held_at : ℕ → SetStage → Held
held_at made Holding = Some made
held_at made _ = None

abbrev pub held_of : Set → Held
held_of s = held_at s.finder.made s.stage
