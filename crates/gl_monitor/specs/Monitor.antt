-- gpiomon and gpionotify. Started, gpiomon requests its lines and gpionotify watches them on its chip file; each step then
-- polls, reads and prints (libgpiod's manual pages; the steps, and the order of the calls, are this project's choice).
use Rattle.std.specs.Prelude.{ℕ, zero, suc, ◌+◌, ◌-◌, ◌*◌, min, Bool, true, false, ◌==◌, if◌then◌else◌, List, [], ◌∷◌, length, drop, codes, Option, Some, None}
use Rattle.gl_base.specs.Bits.{has_bit}
use Rattle.gl_base.specs.declared.command.TheConstants.{GET_LINEINFO_WATCH}
use Rattle.gl_base.specs.declared.errno.Errno.{Errno}
use Rattle.gl_base.specs.declared.errno.Errno.TheVariants.{NoDev}
use Rattle.gl_base.specs.declared.operation.Do.TheVariants.{Ioctl, ReadFile, Poll, Close}
use Rattle.gl_base.specs.Operation.{refusal, bytes_of, ready_of}
use Rattle.gl_args.specs.declared.names.ToolName.{ToolName}
use Rattle.gl_args.specs.declared.names.ToolName.TheVariants.{Watch as WatchName, Notify as NotifyName}
use Rattle.gl_args.specs.Names.{tool_text, requests_lines}
use Rattle.gl_args.specs.Options.{options_in, Options, SaidTool, SaidWatch, SaidNotify}
use Rattle.gl_client.specs.Program.{Program, done, print, ask, Left, goes_on, waits, then_left, then_by}
use Rattle.gl_lines.specs.declared.finder.Finder.{Finder}
use Rattle.gl_lines.specs.declared.found_line.FoundLine.{FoundLine}
use Rattle.gl_lines.specs.Bytes.{info_sent}
use Rattle.gl_lines.specs.Finding.{finds, left}
use Rattle.gl_lines.specs.Texts.{line, failed_line}
use Rattle.gl_monitor.specs.declared.item.Item.{Item}
use Rattle.gl_monitor.specs.declared.monitor.Monitor.{Monitor}
use Rattle.gl_monitor.specs.declared.monitor.MonitorStage.{MonitorStage}
use Rattle.gl_monitor.specs.declared.monitor.MonitorStage.TheVariants.{Begin, Finding, Watching as WatchingLines, Stepping, Polling, Reading, Shown, Failed, Leaving, Stopped, Closing, NotClosed, Resting, Ended}
use Rattle.gl_monitor.specs.Items.{item_size, items_in}
use Rattle.gl_monitor.specs.ItemText.{items_text}

-- A monitor that watches its lines: all that its steps need to know. The slot is that of the file which it polls and reads.
pub record Watching : Type 0 where
  pub tool : ToolName
  pub slot : ℕ
  pub opts : Options
  pub lines : List FoundLine
  pub missing : Option ℕ

-- what a monitor gives: what it watches, or nothing where it has ended
abbrev pub Watched : Type 0
Watched = Option Watching

abbrev pub ends : Program Watched
ends = done None

-- how many items the next read asks for
abbrev pub room_of : Option ℕ → ℕ
room_of None = 16
room_of (Some missing) = min missing 16

-- how many items are missing after so many
abbrev pub less_by : ℕ → Option ℕ → Option ℕ
less_by count None = None
less_by count (Some missing) = Some (missing - count)

abbrev pub is_complete : Option ℕ → Bool
is_complete None = false
is_complete (Some missing) = missing == 0

-- a file is closed after a refusal
abbrev pub leaves : ℕ → Program Watched
leaves slot = ask (Close slot) (λ _. ends)

abbrev pub fails : Watching → Errno → Program Watched
fails w errno = print (failed_line (tool_text w.tool) errno) (leaves w.slot)

-- its file was closed
abbrev pub closed : Watching → Option Errno → Program Watched
closed w (Some errno) = print (failed_line (tool_text w.tool) errno) ends
closed w None = ends

-- its file is closed
abbrev pub closes : Watching → Program Watched
closes w = ask (Close w.slot) (λ got. closed w (refusal got))

-- a monitor is stopped
abbrev pub stops : Watched → Program Watched
stops None = ends
stops (Some w) = closes w

-- after a read: the tool ends where no item is missing
abbrev pub goes_behind : Watching → Program Watched
goes_behind w = if is_complete w.missing then closes w else done (Some w)

-- a text where there is one
abbrev pub shows : List ℕ → Program Watched → Program Watched
shows [] next = next
shows (byte ∷ bytes) next = print (byte ∷ bytes) next

abbrev pub has_read : Watching → List Item → Program Watched
has_read w items = shows (items_text w.tool w.opts w.lines items) (goes_behind (record w { missing = less_by (length items) w.missing }))

-- items were read: they are printed and counted
abbrev pub was_read : Watching → Option Errno → List ℕ → Program Watched
was_read w (Some errno) bytes = fails w errno
was_read w None bytes = has_read w (items_in w.tool w.opts.edges bytes)

-- a poll told what is ready: nothing, that the chip is gone, or that items wait
abbrev pub ready : Watching → Program Watched → ℕ → Program Watched
ready w next bits =
    if bits == 0 then next
    else if has_bit bits 2 then fails w NoDev
    else ask (ReadFile w.slot (item_size w.tool * room_of w.missing)) (λ got. was_read w (refusal got) (bytes_of got))

abbrev pub polled : Watching → Program Watched → Option Errno → ℕ → Program Watched
polled w next (Some errno) bits = fails w errno
polled w next None bits = ready w next bits

-- a step of so many turns; `idle` where all its polls were empty
abbrev pub steps : Watching → ℕ → Program Watched
steps w zero = print (line (codes "idle")) (done (Some w))
steps w (suc turns) = ask (Poll w.slot) (λ got. polled w (steps w turns) (refusal got) (ready_of got))

-- a step of a monitor that may have ended
abbrev pub steps_held : Watched → ℕ → Program Watched
steps_held None turns = ends
steps_held (Some w) turns = steps w turns

-- a line is watched, or not
abbrev pub watched : Watching → Program Watched → Option Errno → Program Watched
watched w next (Some errno) = fails w errno
watched w next None = next

-- gpionotify watches its lines in order
abbrev pub watches : Watching → List FoundLine → Program Watched
watches w [] = done (Some w)
watches w (line ∷ lines) = ask (Ioctl w.slot GET_LINEINFO_WATCH 256 (info_sent line.offset) 0) (λ got. watched w (watches w lines) (refusal got))

-- its lines are found: gpiomon has them, gpionotify watches them
abbrev pub has_lines : Watching → Program Watched
has_lines w = if requests_lines w.tool then done (Some w) else watches w w.lines

-- the slot of the file that a monitor polls and reads: its request, or the chip where it requests none
abbrev pub slot_of : ToolName → ℕ → ℕ → ℕ
slot_of tool base made = if requests_lines tool then made else base

abbrev pub watching : ToolName → ℕ → ℕ → Options → List FoundLine → Option ℕ → Watching
watching tool base made opts lines missing = record { tool = tool; slot = slot_of tool base made; opts = opts; lines = lines; missing = missing }

-- the lines were found, or not
abbrev pub started : ToolName → ℕ → ℕ → Options → Option (List FoundLine) → Program Watched
started tool base made opts None = ends
started tool base made opts (Some found) = has_lines (watching tool base made opts found opts.count)

-- the start of a monitor
abbrev pub begins : ToolName → ℕ → ℕ → Options → Program Watched
begins tool base made opts = then_by (finds tool base made opts) (started tool base made opts)

-- What a monitor does when it is started, by its words, with the slots `base` and `base + 1`. It gives what it watches, or
-- nothing where it met a refusal. The other tools are no monitors.
abbrev pub monitor_program : SaidTool → ℕ → Program Watched
monitor_program (SaidWatch opts) base = begins WatchName base (base + 1) opts
monitor_program (SaidNotify opts) base = begins NotifyName base (base + 1) opts
monitor_program _ base = ends

-- a tool is a monitor
abbrev pub IsMonitorTool : SaidTool → Type 0
IsMonitorTool (SaidWatch opts) = Unit {0}
IsMonitorTool (SaidNotify opts) = Unit {0}
IsMonitorTool _ = ⊥

-- what is watched, as far as a monitor in code knows it
abbrev pub watching_in : Monitor → Watching
watching_in m = watching m.finder.tool m.finder.base m.finder.made (options_in m.finder.opts) m.finder.found.items m.missing

-- what is watched after a finder that has found its lines
abbrev pub first_watching : Finder → Watching
first_watching f = watching f.tool f.base f.made (options_in f.opts) f.found.items f.opts.count

abbrev pub watched_at : Watching → MonitorStage → Watched
watched_at w Resting = Some w
watched_at w _ = None

-- what a monitor watches at its rest, if it watches something
abbrev pub watched_by : Monitor → Watched
watched_by m = watched_at (watching_in m) m.stage

-- the slot of the file that is watched
abbrev pub watched_slot : Watched → Option ℕ
watched_slot None = None
watched_slot (Some w) = Some w.slot

-- a stage that is reached from a rest; elsewhere the monitor has ended
abbrev pub left_rest : MonitorStage → MonitorStage → MonitorStage
left_rest Resting stage = stage
left_rest _ stage = Ended

abbrev pub has_ended : MonitorStage → Bool
has_ended Ended = true
has_ended _ = false

-- what is left; one line a stage
abbrev pub left_of : Monitor → Watching → MonitorStage → Left Watched
left_of m w Begin = goes_on (begins m.finder.tool m.finder.base m.finder.made (options_in m.finder.opts))
left_of m w Finding = then_left (left m.finder) (started m.finder.tool m.finder.base m.finder.made (options_in m.finder.opts))
left_of m w WatchingLines = waits (λ got. watched w (watches w (drop m.next w.lines)) (refusal got))
left_of m w Stepping = goes_on (steps w m.turns)
left_of m w Polling = waits (λ got. polled w (steps w m.turns) (refusal got) (ready_of got))
left_of m w Reading = waits (λ got. was_read w (refusal got) (bytes_of got))
left_of m w Shown = goes_on (goes_behind w)
left_of m w Failed = goes_on (leaves w.slot)
left_of m w Leaving = waits (λ _. ends)
left_of m w Stopped = goes_on (closes w)
left_of m w Closing = waits (λ got. closed w (refusal got))
left_of m w NotClosed = goes_on ends
left_of m w Resting = goes_on (done (Some w))
left_of m w Ended = goes_on ends

abbrev pub monitor_left : Monitor → Left Watched
monitor_left m = left_of m (watching_in m) m.stage
