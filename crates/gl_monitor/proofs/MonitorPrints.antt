-- The monitors print whole lines.
use Rattle.std.proofs.Common.{◌≡◌, ◌*◌, ◌+◌, ℕ, zero, suc, Bool, true, false, cond, List, [], ◌∷◌, ◌++◌, length, Option, None, Some, refl}
use Rattle.std.specs.Prelude.{◌==◌, codes}
use Rattle.gl_base.specs.Bits.{has_bit}
use Rattle.gl_base.specs.declared.errno.Errno.{Errno}
use Rattle.gl_base.specs.declared.errno.Errno.TheVariants.{NoDev}
use Rattle.gl_base.specs.declared.operation.Do.TheVariants.{ReadFile}
use Rattle.gl_base.specs.Operation.{refusal, bytes_of, ready_of}
use Rattle.gl_args.specs.declared.names.ToolName.{ToolName}
use Rattle.gl_args.specs.declared.names.ToolName.TheVariants.{Watch as WatchName, Notify as NotifyName}
use Rattle.gl_args.specs.Names.{requests_lines, tool_text}
use Rattle.gl_args.specs.Options.{Options, SaidTool, SaidDetect, SaidInfo, SaidGet, SaidSet, SaidWatch, SaidNotify}
use Rattle.gl_base.specs.TextLines.{ends_lines}
use Rattle.gl_base.proofs.TextLines.{lines_end}
use Rattle.gl_client.specs.Printing.{PrintsLines}
use Rattle.gl_client.specs.Program.{Program, done, ask}
use Rattle.gl_client.proofs.Printing.{prints_then}
use Rattle.gl_lines.specs.declared.found_line.FoundLine.{FoundLine}
use Rattle.gl_lines.specs.Finding.{finds}
use Rattle.gl_lines.proofs.FindingPrints.{failed_ended, finds_lines, line_ended}
use Rattle.gl_monitor.specs.declared.item.Item.{Item}
use Rattle.gl_monitor.specs.Items.{item_size, items_in}
use Rattle.gl_monitor.specs.ItemText.{item_line, item_text, items_text}
use Rattle.gl_monitor.specs.Monitor.{Watching, Watched, begins, closed, closes, fails, goes_behind, has_lines, is_complete, less_by, monitor_program, polled, room_of, shows, started, steps, steps_held, stops, was_read, watched, watches, watching}

-- the lines of items
items_end : (tool : ToolName) (opts : Options) (found : List FoundLine) (items : List Item) → ends_lines (items_text tool opts found items) ≡ true
items_end tool opts found [] = refl
items_end tool opts found (item ∷ items) =
    lines_end (item_line tool opts found item) (items_text tool opts found items) (line_ended (item_text tool opts found item)) (items_end tool opts found items)

fails_lines : (w : Watching) (errno : Errno) → PrintsLines (fails w errno)
fails_lines w errno = (failed_ended (tool_text w.tool) errno, λ got. tt)

closed_lines : (w : Watching) (r : Option Errno) → PrintsLines (closed w r)
closed_lines w (Some errno) = (failed_ended (tool_text w.tool) errno, tt)
closed_lines w None = tt

closes_lines : (w : Watching) → PrintsLines (closes w)
closes_lines w = λ got. closed_lines w (refusal got)

behind_by : (b : Bool) (w : Watching) → PrintsLines (cond b (closes w) (done (Some w)))
behind_by true w = closes_lines w
behind_by false w = tt

shows_lines : (text : List ℕ) (next : Program Watched) → ends_lines text ≡ true → PrintsLines next → PrintsLines (shows text next)
shows_lines [] next e h = h
shows_lines (byte ∷ bytes) next e h = (e, h)

read_lines : (w : Watching) (r : Option Errno) (bytes : List ℕ) → PrintsLines (was_read w r bytes)
read_lines w (Some errno) bytes = fails_lines w errno
read_lines w None bytes =
    let items = items_in w.tool w.opts.edges bytes in
    let behind : Watching = record w { missing = less_by (length items) w.missing } in
    shows_lines (items_text w.tool w.opts w.lines items) (goes_behind behind) (items_end w.tool w.opts w.lines items) (behind_by (is_complete behind.missing) behind)

gone_by : (b : Bool) (w : Watching) → PrintsLines (cond b (fails w NoDev) (ask (ReadFile w.slot (item_size w.tool * room_of w.missing)) (λ got. was_read w (refusal got) (bytes_of got))))
gone_by true w = fails_lines w NoDev
gone_by false w = λ got. read_lines w (refusal got) (bytes_of got)

ready_by : (b c : Bool) (w : Watching) (next : Program Watched) → PrintsLines next
    → PrintsLines (cond b next (cond c (fails w NoDev) (ask (ReadFile w.slot (item_size w.tool * room_of w.missing)) (λ got. was_read w (refusal got) (bytes_of got)))))
ready_by true c w next h = h
ready_by false c w next h = gone_by c w

polled_lines : (w : Watching) (next : Program Watched) → PrintsLines next → (r : Option Errno) (bits : ℕ) → PrintsLines (polled w next r bits)
polled_lines w next h (Some errno) bits = fails_lines w errno
polled_lines w next h None bits = ready_by (bits == 0) (has_bit bits 2) w next h

steps_lines : (w : Watching) (turns : ℕ) → PrintsLines (steps w turns)
steps_lines w zero = (line_ended (codes "idle"), tt)
steps_lines w (suc turns) = λ got. polled_lines w (steps w turns) (steps_lines w turns) (refusal got) (ready_of got)

pub stepped_lines : (watched : Watched) (turns : ℕ) → PrintsLines (steps_held watched turns)
stepped_lines None turns = tt
stepped_lines (Some w) turns = steps_lines w turns

pub stops_lines : (watched : Watched) → PrintsLines (stops watched)
stops_lines None = tt
stops_lines (Some w) = closes_lines w

watched_lines : (w : Watching) (next : Program Watched) → PrintsLines next → (r : Option Errno) → PrintsLines (watched w next r)
watched_lines w next h (Some errno) = fails_lines w errno
watched_lines w next h None = h

watches_lines : (w : Watching) (lines : List FoundLine) → PrintsLines (watches w lines)
watches_lines w [] = tt
watches_lines w (line ∷ lines) = λ got. watched_lines w (watches w lines) (watches_lines w lines) (refusal got)

has_by : (b : Bool) (w : Watching) → PrintsLines (cond b (done (Some w)) (watches w w.lines))
has_by true w = tt
has_by false w = watches_lines w w.lines

started_lines : (tool : ToolName) (base made : ℕ) (opts : Options) (o : Option (List FoundLine)) → PrintsLines (started tool base made opts o)
started_lines tool base made opts None = tt
started_lines tool base made opts (Some found) = has_by (requests_lines tool) (watching tool base made opts found opts.count)

begins_lines : (tool : ToolName) (base made : ℕ) (opts : Options) → PrintsLines (begins tool base made opts)
begins_lines tool base made opts = prints_then (finds tool base made opts) (started tool base made opts) (finds_lines tool base made opts) (started_lines tool base made opts)

pub monitor_lines : (tool : SaidTool) (base : ℕ) → PrintsLines (monitor_program tool base)
monitor_lines (SaidWatch opts) base = begins_lines WatchName base (base + 1) opts
monitor_lines (SaidNotify opts) base = begins_lines NotifyName base (base + 1) opts
monitor_lines (SaidDetect words) base = tt
monitor_lines (SaidInfo opts) base = tt
monitor_lines (SaidGet opts) base = tt
monitor_lines (SaidSet opts) base = tt
