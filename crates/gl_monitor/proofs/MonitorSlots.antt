-- The file that a monitor watches has a slot of its own.
use Rattle.std.proofs.Common.{◌≡◌, ◌+◌, ◌*◌, ℕ, zero, suc, Bool, true, false, cond, List, [], ◌∷◌, length, Option, None, Some}
use Rattle.std.specs.Prelude.{◌==◌}
use Rattle.gl_base.specs.Bits.{has_bit}
use Rattle.gl_base.specs.declared.errno.Errno.{Errno}
use Rattle.gl_base.specs.declared.errno.Errno.TheVariants.{NoDev}
use Rattle.gl_base.specs.declared.operation.Do.TheVariants.{ReadFile}
use Rattle.gl_base.specs.Operation.{refusal, bytes_of, ready_of}
use Rattle.gl_args.specs.declared.names.ToolName.{ToolName}
use Rattle.gl_args.specs.declared.names.ToolName.TheVariants.{Watch as WatchName, Notify as NotifyName}
use Rattle.gl_client.specs.Gives.{Gives}
use Rattle.gl_args.specs.Names.{requests_lines}
use Rattle.gl_args.specs.Options.{Options, SaidTool, SaidDetect, SaidInfo, SaidGet, SaidSet, SaidWatch, SaidNotify}
use Rattle.gl_client.specs.Program.{Program, done, ask}
use Rattle.gl_client.proofs.Costs.{gives_any}
use Rattle.gl_lines.specs.declared.found_line.FoundLine.{FoundLine}
use Rattle.gl_lines.specs.Finding.{finds}
use Rattle.gl_monitor.specs.Items.{item_size, items_in}
use Rattle.gl_monitor.specs.ItemText.{items_text}
use Rattle.gl_monitor.specs.Monitor.{Watching, Watched, begins, closed, closes, fails, goes_behind, is_complete, less_by, monitor_program, polled, room_of, shows, started, steps, steps_held, stops, was_read, watched, watches, watching}
use Rattle.gl_monitor.specs.WatchedSlots.{WatchedPasses}

module _ (test : ℕ → Bool) where
  abbrev Keeps : Program Watched → Type 0
  Keeps p = Gives (WatchedPasses test) p

  closed_slots : (w : Watching) (r : Option Errno) → Keeps (closed w r)
  closed_slots w (Some errno) = tt
  closed_slots w None = tt

  behind_by : (b : Bool) (w : Watching) → test w.slot ≡ true → Keeps (cond b (closes w) (done (Some w)))
  behind_by true w h = λ got. closed_slots w (refusal got)
  behind_by false w h = h

  shows_slots : (text : List ℕ) (next : Program Watched) → Keeps next → Keeps (shows text next)
  shows_slots [] next h = h
  shows_slots (byte ∷ bytes) next h = h

  read_slots : (w : Watching) (r : Option Errno) (bytes : List ℕ) → test w.slot ≡ true → Keeps (was_read w r bytes)
  read_slots w (Some errno) bytes h = λ got. tt
  read_slots w None bytes h =
      let items = items_in w.tool w.opts.edges bytes in
      let behind : Watching = record w { missing = less_by (length items) w.missing } in
      shows_slots (items_text w.tool w.opts w.lines items) (goes_behind behind) (behind_by (is_complete behind.missing) behind h)

  gone_by : (b : Bool) (w : Watching) → test w.slot ≡ true
      → Keeps (cond b (fails w NoDev) (ask (ReadFile w.slot (item_size w.tool * room_of w.missing)) (λ got. was_read w (refusal got) (bytes_of got))))
  gone_by true w h = λ got. tt
  gone_by false w h = λ got. read_slots w (refusal got) (bytes_of got) h

  ready_by : (b c : Bool) (w : Watching) (next : Program Watched) → test w.slot ≡ true → Keeps next
      → Keeps (cond b next (cond c (fails w NoDev) (ask (ReadFile w.slot (item_size w.tool * room_of w.missing)) (λ got. was_read w (refusal got) (bytes_of got)))))
  ready_by true c w next h k = k
  ready_by false c w next h k = gone_by c w h

  polled_slots : (w : Watching) (next : Program Watched) → test w.slot ≡ true → Keeps next → (r : Option Errno) (bits : ℕ) → Keeps (polled w next r bits)
  polled_slots w next h k (Some errno) bits = λ got. tt
  polled_slots w next h k None bits = ready_by (bits == 0) (has_bit bits 2) w next h k

  steps_slots : (w : Watching) (turns : ℕ) → test w.slot ≡ true → Keeps (steps w turns)
  steps_slots w zero h = h
  steps_slots w (suc turns) h = λ got. polled_slots w (steps w turns) h (steps_slots w turns h) (refusal got) (ready_of got)

  pub stepped_slots : (watched : Watched) (turns : ℕ) → WatchedPasses test watched → Keeps (steps_held watched turns)
  stepped_slots None turns h = tt
  stepped_slots (Some w) turns h = steps_slots w turns h

  pub stopped_slots : (watched : Watched) → Keeps (stops watched)
  stopped_slots None = tt
  stopped_slots (Some w) = λ got. closed_slots w (refusal got)

  watched_slots : (w : Watching) (next : Program Watched) → Keeps next → (r : Option Errno) → Keeps (watched w next r)
  watched_slots w next k (Some errno) = λ got. tt
  watched_slots w next k None = k

  watches_slots : (w : Watching) (lines : List FoundLine) → test w.slot ≡ true → Keeps (watches w lines)
  watches_slots w [] h = h
  watches_slots w (line ∷ lines) h = λ got. watched_slots w (watches w lines) (watches_slots w lines h) (refusal got)

  lines_by : (b : Bool) (w : Watching) → test w.slot ≡ true → Keeps (cond b (done (Some w)) (watches w w.lines))
  lines_by true w h = h
  lines_by false w h = watches_slots w w.lines h

  slot_by : (b : Bool) (base made : ℕ) → test base ≡ true → test made ≡ true → test (cond b made base) ≡ true
  slot_by true base made h k = k
  slot_by false base made h k = h

  started_slots : (tool : ToolName) (base made : ℕ) (opts : Options) → test base ≡ true → test made ≡ true → (o : Option (List FoundLine)) → Keeps (started tool base made opts o)
  started_slots tool base made opts h k None = tt
  started_slots tool base made opts h k (Some found) =
      let w = watching tool base made opts found opts.count in
      lines_by (requests_lines w.tool) w (slot_by (requests_lines tool) base made h k)

  begun_slots : (tool : ToolName) (base made : ℕ) (opts : Options) → test base ≡ true → test made ≡ true → Keeps (begins tool base made opts)
  begun_slots tool base made opts h k = gives_any (WatchedPasses test) (finds tool base made opts) (started tool base made opts) (started_slots tool base made opts h k)

  pub monitor_slots : (tool : SaidTool) (base : ℕ) → test base ≡ true → test (base + 1) ≡ true → Keeps (monitor_program tool base)
  monitor_slots (SaidWatch opts) base h k = begun_slots WatchName base (base + 1) opts h k
  monitor_slots (SaidNotify opts) base h k = begun_slots NotifyName base (base + 1) opts h k
  monitor_slots (SaidDetect words) base h k = tt
  monitor_slots (SaidInfo opts) base h k = tt
  monitor_slots (SaidGet opts) base h k = tt
  monitor_slots (SaidSet opts) base h k = tt
