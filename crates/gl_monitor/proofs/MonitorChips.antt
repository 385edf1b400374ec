-- The monitors ask for no chip over requests.
use Rattle.std.proofs.Common.{◌*◌, ◌+◌, ℕ, zero, suc, Bool, true, false, cond, List, [], ◌∷◌, ◌++◌, length, Option, None, Some}
use Rattle.std.specs.Prelude.{◌==◌}
use Rattle.gl_base.specs.Bits.{has_bit}
use Rattle.gl_base.specs.declared.errno.Errno.{Errno}
use Rattle.gl_base.specs.declared.errno.Errno.TheVariants.{NoDev}
use Rattle.gl_base.specs.declared.operation.Do.TheVariants.{ReadFile}
use Rattle.gl_base.specs.Operation.{refusal, bytes_of, ready_of}
use Rattle.gl_args.specs.declared.names.ToolName.{ToolName}
use Rattle.gl_args.specs.declared.names.ToolName.TheVariants.{Watch as WatchName, Notify as NotifyName}
use Rattle.gl_args.specs.Names.{requests_lines}
use Rattle.gl_args.specs.Options.{Options, SaidTool, SaidDetect, SaidInfo, SaidGet, SaidSet, SaidWatch, SaidNotify}
use Rattle.gl_client.specs.Chips.{AsksNoChips}
use Rattle.gl_client.specs.Program.{Program, done, ask}
use Rattle.gl_client.proofs.Chips.{asks_then}
use Rattle.gl_lines.specs.declared.found_line.FoundLine.{FoundLine}
use Rattle.gl_lines.specs.Finding.{finds}
use Rattle.gl_lines.proofs.FindingChips.{finds_none}
use Rattle.gl_monitor.specs.Items.{item_size, items_in}
use Rattle.gl_monitor.specs.ItemText.{items_text}
use Rattle.gl_monitor.specs.Monitor.{Watching, Watched, begins, closed, closes, fails, goes_behind, has_lines, is_complete, less_by, monitor_program, polled, room_of, shows, started, steps, steps_held, stops, was_read, watched, watches, watching}

fails_none : (w : Watching) (errno : Errno) → AsksNoChips (fails w errno)
fails_none w errno = (tt, λ got. tt)

closed_none : (w : Watching) (r : Option Errno) → AsksNoChips (closed w r)
closed_none w (Some errno) = tt
closed_none w None = tt

closes_none : (w : Watching) → AsksNoChips (closes w)
closes_none w = (tt, λ got. closed_none w (refusal got))

behind_by : (b : Bool) (w : Watching) → AsksNoChips (cond b (closes w) (done (Some w)))
behind_by true w = closes_none w
behind_by false w = tt

shows_none : (text : List ℕ) (next : Program Watched) → AsksNoChips next → AsksNoChips (shows text next)
shows_none [] next h = h
shows_none (byte ∷ bytes) next h = h

read_none : (w : Watching) (r : Option Errno) (bytes : List ℕ) → AsksNoChips (was_read w r bytes)
read_none w (Some errno) bytes = fails_none w errno
read_none w None bytes =
    let items = items_in w.tool w.opts.edges bytes in
    let behind : Watching = record w { missing = less_by (length items) w.missing } in
    shows_none (items_text w.tool w.opts w.lines items) (goes_behind behind) (behind_by (is_complete behind.missing) behind)

gone_by : (b : Bool) (w : Watching) → AsksNoChips (cond b (fails w NoDev) (ask (ReadFile w.slot (item_size w.tool * room_of w.missing)) (λ got. was_read w (refusal got) (bytes_of got))))
gone_by true w = fails_none w NoDev
gone_by false w = (tt, λ got. read_none w (refusal got) (bytes_of got))

ready_by : (b c : Bool) (w : Watching) (next : Program Watched) → AsksNoChips next
    → AsksNoChips (cond b next (cond c (fails w NoDev) (ask (ReadFile w.slot (item_size w.tool * room_of w.missing)) (λ got. was_read w (refusal got) (bytes_of got)))))
ready_by true c w next h = h
ready_by false c w next h = gone_by c w

polled_none : (w : Watching) (next : Program Watched) → AsksNoChips next → (r : Option Errno) (bits : ℕ) → AsksNoChips (polled w next r bits)
polled_none w next h (Some errno) bits = fails_none w errno
polled_none w next h None bits = ready_by (bits == 0) (has_bit bits 2) w next h

steps_none : (w : Watching) (turns : ℕ) → AsksNoChips (steps w turns)
steps_none w zero = tt
steps_none w (suc turns) = (tt, λ got. polled_none w (steps w turns) (steps_none w turns) (refusal got) (ready_of got))

pub stepped_none : (watched : Watched) (turns : ℕ) → AsksNoChips (steps_held watched turns)
stepped_none None turns = tt
stepped_none (Some w) turns = steps_none w turns

pub stops_none : (watched : Watched) → AsksNoChips (stops watched)
stops_none None = tt
stops_none (Some w) = closes_none w

watched_none : (w : Watching) (next : Program Watched) → AsksNoChips next → (r : Option Errno) → AsksNoChips (watched w next r)
watched_none w next h (Some errno) = fails_none w errno
watched_none w next h None = h

watches_none : (w : Watching) (lines : List FoundLine) → AsksNoChips (watches w lines)
watches_none w [] = tt
watches_none w (line ∷ lines) = (tt, λ got. watched_none w (watches w lines) (watches_none w lines) (refusal got))

has_by : (b : Bool) (w : Watching) → AsksNoChips (cond b (done (Some w)) (watches w w.lines))
has_by true w = tt
has_by false w = watches_none w w.lines

started_none : (tool : ToolName) (base made : ℕ) (opts : Options) (o : Option (List FoundLine)) → AsksNoChips (started tool base made opts o)
started_none tool base made opts None = tt
started_none tool base made opts (Some found) = has_by (requests_lines tool) (watching tool base made opts found opts.count)

begins_none : (tool : ToolName) (base made : ℕ) (opts : Options) → AsksNoChips (begins tool base made opts)
begins_none tool base made opts = asks_then (finds tool base made opts) (started tool base made opts) (finds_none tool base made opts) (started_none tool base made opts)

pub monitor_none : (tool : SaidTool) (base : ℕ) → AsksNoChips (monitor_program tool base)
monitor_none (SaidWatch opts) base = begins_none WatchName base (base + 1) opts
monitor_none (SaidNotify opts) base = begins_none NotifyName base (base + 1) opts
monitor_none (SaidDetect words) base = tt
monitor_none (SaidInfo opts) base = tt
monitor_none (SaidGet opts) base = tt
monitor_none (SaidSet opts) base = tt
