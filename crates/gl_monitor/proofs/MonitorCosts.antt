-- What the monitors cost.
use Rattle.std.proofs.Common.{◌≤◌, ◌+◌, ◌-◌, ◌*◌, ℕ, zero, suc, Bool, true, false, cond, List, [], ◌∷◌, length, Option, None, Some, refl, arith}
use Rattle.std.specs.Prelude.{◌==◌}
use Rattle.gl_base.specs.Bits.{has_bit}
use Rattle.gl_base.specs.declared.errno.Errno.{Errno}
use Rattle.gl_base.specs.declared.errno.Errno.TheVariants.{NoDev}
use Rattle.gl_base.specs.declared.operation.Do.TheVariants.{ReadFile}
use Rattle.gl_base.specs.Operation.{refusal, bytes_of, ready_of}
use Rattle.gl_args.specs.declared.names.ToolName.TheVariants.{Watch as WatchName, Notify as NotifyName}
use Rattle.gl_args.specs.Options.{Options, SaidTool, SaidDetect, SaidInfo, SaidGet, SaidSet, SaidWatch, SaidNotify}
use Rattle.gl_client.specs.Program.{Program, done, ask}
use Rattle.gl_client.specs.Costs.{CostsAtMost}
use Rattle.gl_client.proofs.Costs.{costs_more, costs_then, costs_then_given}
use Rattle.gl_lines.specs.declared.found_line.FoundLine.{FoundLine}
use Rattle.gl_lines.specs.Finding.{finds}
use Rattle.gl_lines.proofs.FindingCosts.{finds_requesting, finds_alone}
use Rattle.gl_lines.proofs.FoundFew.{FoundAtMost, finds_few}
use Rattle.gl_monitor.specs.Costs.{monitor_cost}
use Rattle.gl_monitor.specs.Items.{item_size, items_in}
use Rattle.gl_monitor.specs.ItemText.{items_text}
use Rattle.gl_monitor.specs.Monitor.{Watching, Watched, fails, closed, closes, stops, goes_behind, shows, watching, was_read, polled, steps, steps_held, watched, watches, started, begins, monitor_program, is_complete, room_of, less_by}

fails_within : (n : ℕ) (w : Watching) (errno : Errno) → CostsAtMost n (fails w errno)
fails_within n w errno = (omega arith, λ got. tt)

closed_within : (n : ℕ) (w : Watching) (r : Option Errno) → CostsAtMost n (closed w r)
closed_within n w (Some errno) = tt
closed_within n w None = tt

closes_within : (n : ℕ) (w : Watching) → CostsAtMost n (closes w)
closes_within n w = (omega arith, λ got. closed_within (n - 0) w (refusal got))

behind_by : (b : Bool) (n : ℕ) (w : Watching) → CostsAtMost n (cond b (closes w) (done (Some w)))
behind_by true n w = closes_within n w
behind_by false n w = tt

shows_within : (n : ℕ) (text : List ℕ) (next : Program Watched) → CostsAtMost n next → CostsAtMost n (shows text next)
shows_within n [] next h = h
shows_within n (byte ∷ bytes) next h = h

read_within : (n : ℕ) (w : Watching) (r : Option Errno) (bytes : List ℕ) → CostsAtMost n (was_read w r bytes)
read_within n w (Some errno) bytes = fails_within n w errno
read_within n w None bytes =
    let items = items_in w.tool w.opts.edges bytes in
    let behind : Watching = record w { missing = less_by (length items) w.missing } in
    shows_within n (items_text w.tool w.opts w.lines items) (goes_behind behind) (behind_by (is_complete behind.missing) n behind)

gone_by : (b : Bool) (n : ℕ) (w : Watching) → 1 ≤ n
    → CostsAtMost n (cond b (fails w NoDev) (ask (ReadFile w.slot (item_size w.tool * room_of w.missing)) (λ got. was_read w (refusal got) (bytes_of got))))
gone_by true n w le = fails_within n w NoDev
gone_by false n w le = (le, λ got. read_within (n - 1) w (refusal got) (bytes_of got))

ready_by : (b c : Bool) (n : ℕ) (w : Watching) (next : Program Watched) → 1 ≤ n → CostsAtMost n next
    → CostsAtMost n (cond b next (cond c (fails w NoDev) (ask (ReadFile w.slot (item_size w.tool * room_of w.missing)) (λ got. was_read w (refusal got) (bytes_of got)))))
ready_by true c n w next le h = h
ready_by false c n w next le h = gone_by c n w le

polled_within : (n : ℕ) (w : Watching) (next : Program Watched) → 1 ≤ n → CostsAtMost n next → (r : Option Errno) (bits : ℕ) → CostsAtMost n (polled w next r bits)
polled_within n w next le h (Some errno) bits = fails_within n w errno
polled_within n w next le h None bits = ready_by (bits == 0) (has_bit bits 2) n w next le h

steps_within : (w : Watching) (turns : ℕ) → CostsAtMost (turns + 1) (steps w turns)
steps_within w zero = tt
steps_within w (suc turns) = (
  omega arith,
  λ got.
      polled_within (suc turns + 1 - 1) w (steps w turns) (omega arith)
      (costs_more (steps w turns) (turns + 1) (suc turns + 1 - 1) (omega arith) (steps_within w turns)) (refusal got) (ready_of got),
)

pub held_within : (watched : Watched) (turns : ℕ) → CostsAtMost (turns + 1) (steps_held watched turns)
held_within None turns = tt
held_within (Some w) turns = steps_within w turns

pub stops_within : (watched : Watched) → CostsAtMost 0 (stops watched)
stops_within None = tt
stops_within (Some w) = closes_within 0 w

watched_within : (n : ℕ) (w : Watching) (next : Program Watched) → CostsAtMost n next → (r : Option Errno) → CostsAtMost n (watched w next r)
watched_within n w next h (Some errno) = fails_within n w errno
watched_within n w next h None = h

watches_within : (w : Watching) (lines : List FoundLine) (n : ℕ) → length lines ≤ n → CostsAtMost n (watches w lines)
watches_within w [] n le = tt
watches_within w (line ∷ lines) n le = (omega arith, λ got. watched_within (n - 1) w (watches w lines) (watches_within w lines (n - 1) (omega arith)) (refusal got))

requested_within : (base made : ℕ) (opts : Options) (o : Option (List FoundLine)) → CostsAtMost 0 (started WatchName base made opts o)
requested_within base made opts None = tt
requested_within base made opts (Some found) = tt

notified_within : (base made n : ℕ) (opts : Options) (o : Option (List FoundLine)) → FoundAtMost n o → CostsAtMost n (started NotifyName base made opts o)
notified_within base made n opts None few = tt
notified_within base made n opts (Some found) few = watches_within (watching NotifyName base made opts found opts.count) found n few

pub monitor_within : (tool : SaidTool) (base : ℕ) → CostsAtMost (monitor_cost tool) (monitor_program tool base)
monitor_within (SaidWatch opts) base =
    let n = length opts.lines in
    let made = base + 1 in
    costs_more (begins WatchName base made opts) (n + 5 + 0) (n + 5) (omega arith)
    (costs_then (finds WatchName base made opts) (started WatchName base made opts) (n + 5) 0 (finds_requesting WatchName base made opts refl) (requested_within base made opts))
monitor_within (SaidNotify opts) base =
    let n = length opts.lines in
    let made = base + 1 in
    costs_more (begins NotifyName base made opts) (n + 2 + n) (2 * n + 2) (omega arith)
    (costs_then_given (FoundAtMost n) (finds NotifyName base made opts) (started NotifyName base made opts) (n + 2) n (finds_alone NotifyName base made opts refl) (finds_few NotifyName base made opts)
    (notified_within base made n opts))
monitor_within (SaidDetect words) base = tt
monitor_within (SaidInfo opts) base = tt
monitor_within (SaidGet opts) base = tt
monitor_within (SaidSet opts) base = tt
