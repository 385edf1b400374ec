-- The monitors name their own two slots alone, and leave no file open but the one that they watch.
use Rattle.std.proofs.Common.{◌≡◌, ◌≤◌, ◌+◌, ◌-◌, ◌*◌, ℕ, zero, suc, Bool, true, false, cond, List, [], ◌∷◌, length, Option, None, Some, sym, ◌∙◌, arith}
use Rattle.std.specs.Prelude.{◌==◌, nat_eq}
use Rattle.gl_base.specs.Bits.{has_bit}
use Rattle.gl_base.specs.declared.errno.Errno.{Errno}
use Rattle.gl_base.specs.declared.errno.Errno.TheVariants.{NoDev}
use Rattle.gl_base.specs.declared.operation.Do.TheVariants.{ReadFile}
use Rattle.gl_base.specs.Operation.{refusal, bytes_of, ready_of}
use Rattle.gl_args.specs.declared.names.ToolName.{ToolName}
use Rattle.gl_args.specs.declared.names.ToolName.TheVariants.{Watch as WatchName, Notify as NotifyName}
use Rattle.gl_args.specs.Names.{requests_lines}
use Rattle.gl_client.specs.OpenSlots.{AreApart, NamesOpenSlots, SameSlots, one_if, times, with_slot}
use Rattle.gl_args.specs.Options.{Options, SaidTool, SaidDetect, SaidInfo, SaidGet, SaidSet, SaidWatch, SaidNotify}
use Rattle.gl_client.specs.Program.{Program, done, ask}
use Rattle.gl_client.proofs.OpenSlots.{Follows, counts, counts_with, follows_at, follows_then, names_open}
use Rattle.gl_lines.specs.declared.found_line.FoundLine.{FoundLine}
use Rattle.gl_lines.specs.Finding.{finds}
use Rattle.gl_lines.specs.FoundSlot.{found_slot}
use Rattle.gl_lines.proofs.FindingSlots.{finds_slots}
use Rattle.gl_monitor.specs.Items.{item_size, items_in}
use Rattle.gl_monitor.specs.ItemText.{items_text}
use Rattle.gl_monitor.specs.Monitor.{Watching, Watched, begins, closed, closes, fails, goes_behind, is_complete, less_by, monitor_program, polled, room_of, shows, started, steps, steps_held, stops, was_read, watched, watched_slot, watches, watching}

-- the slot s is open n times before, and at most k times
module _ (s k n : ℕ) where
  abbrev Keeps : ℕ → Program Watched → Type 0
  Keeps m p = Follows s k (λ o. counts s (watched_slot o) + n) m p

  fails_at : (m : ℕ) (w : Watching) (errno : Errno) → m ≡ n + one_if (nat_eq s w.slot) → Keeps m (fails w errno)
  fails_at m w errno e = (omega (arith, e), λ got kept. omega (arith, e))

  closed_at : (m : ℕ) (w : Watching) (r : Option Errno) → m ≡ n → Keeps m (closed w r)
  closed_at m w (Some errno) e = omega (arith, e)
  closed_at m w None e = omega (arith, e)

  closes_at : (m : ℕ) (w : Watching) → m ≡ n + one_if (nat_eq s w.slot) → Keeps m (closes w)
  closes_at m w e = (omega (arith, e), λ got kept. closed_at (m - one_if (nat_eq s w.slot)) w (refusal got) (omega (arith, e)))

  behind_by : (b : Bool) (m : ℕ) (w : Watching) → m ≡ n + one_if (nat_eq s w.slot) → Keeps m (cond b (closes w) (done (Some w)))
  behind_by true m w e = closes_at m w e
  behind_by false m w e = omega (arith, e)

  shows_at : (m : ℕ) (text : List ℕ) (next : Program Watched) → Keeps m next → Keeps m (shows text next)
  shows_at m [] next h = h
  shows_at m (byte ∷ bytes) next h = h

  read_at : (m : ℕ) (w : Watching) (r : Option Errno) (bytes : List ℕ) → m ≡ n + one_if (nat_eq s w.slot) → Keeps m (was_read w r bytes)
  read_at m w (Some errno) bytes e = fails_at m w errno e
  read_at m w None bytes e =
      let items = items_in w.tool w.opts.edges bytes in
      let behind : Watching = record w { missing = less_by (length items) w.missing } in
      shows_at m (items_text w.tool w.opts w.lines items) (goes_behind behind) (behind_by (is_complete behind.missing) m behind e)

  gone_by : (b : Bool) (m : ℕ) (w : Watching) → m ≡ n + one_if (nat_eq s w.slot)
      → Keeps m (cond b (fails w NoDev) (ask (ReadFile w.slot (item_size w.tool * room_of w.missing)) (λ got. was_read w (refusal got) (bytes_of got))))
  gone_by true m w e = fails_at m w NoDev e
  gone_by false m w e = (omega (arith, e), λ got kept. read_at m w (refusal got) (bytes_of got) e)

  ready_by : (b c : Bool) (m : ℕ) (w : Watching) (next : Program Watched) → m ≡ n + one_if (nat_eq s w.slot) → Keeps m next
      → Keeps m (cond b next (cond c (fails w NoDev) (ask (ReadFile w.slot (item_size w.tool * room_of w.missing)) (λ got. was_read w (refusal got) (bytes_of got)))))
  ready_by true c m w next e h = h
  ready_by false c m w next e h = gone_by c m w e

  polled_at : (m : ℕ) (w : Watching) (next : Program Watched) → m ≡ n + one_if (nat_eq s w.slot) → Keeps m next → (r : Option Errno) (bits : ℕ) → Keeps m (polled w next r bits)
  polled_at m w next e h (Some errno) bits = fails_at m w errno e
  polled_at m w next e h None bits = ready_by (bits == 0) (has_bit bits 2) m w next e h

  steps_at : (w : Watching) (turns m : ℕ) → m ≡ n + one_if (nat_eq s w.slot) → Keeps m (steps w turns)
  steps_at w zero m e = omega (arith, e)
  steps_at w (suc turns) m e = (omega (arith, e), λ got kept. polled_at m w (steps w turns) e (steps_at w turns m e) (refusal got) (ready_of got))

  pub steps_held_at : (o : Watched) (turns : ℕ) → Keeps (counts s (watched_slot o) + n) (steps_held o turns)
  steps_held_at None turns = omega arith
  steps_held_at (Some w) turns = steps_at w turns (one_if (nat_eq s w.slot) + n) (omega arith)

  pub stops_at : (o : Watched) → Keeps (counts s (watched_slot o) + n) (stops o)
  stops_at None = omega arith
  stops_at (Some w) = closes_at (one_if (nat_eq s w.slot) + n) w (omega arith)

  watched_at : (m : ℕ) (w : Watching) (next : Program Watched) → m ≡ n + one_if (nat_eq s w.slot) → Keeps m next → (r : Option Errno) → Keeps m (watched w next r)
  watched_at m w next e h (Some errno) = fails_at m w errno e
  watched_at m w next e h None = h

  watches_at : (w : Watching) (lines : List FoundLine) (m : ℕ) → m ≡ n + one_if (nat_eq s w.slot) → Keeps m (watches w lines)
  watches_at w [] m e = omega (arith, e)
  watches_at w (line ∷ lines) m e = ((omega (arith, e), tt), λ got kept. watched_at m w (watches w lines) e (watches_at w lines m e) (refusal got))

  lines_by : (b : Bool) (w : Watching) → Keeps (one_if (nat_eq s w.slot) + n) (cond b (done (Some w)) (watches w w.lines))
  lines_by true w = omega arith
  lines_by false w = watches_at w w.lines (one_if (nat_eq s w.slot) + n) (omega arith)

  started_at : (tool : ToolName) (base made : ℕ) (opts : Options) (o : Option (List FoundLine)) → Keeps (counts s (found_slot tool base made o) + n) (started tool base made opts o)
  started_at tool base made opts None = omega arith
  started_at tool base made opts (Some found) = let w = watching tool base made opts found opts.count in lines_by (requests_lines w.tool) w

  begins_at : (tool : ToolName) (base made : ℕ) (opts : Options) → n + one_if (nat_eq s base) + one_if (nat_eq s made) ≤ k → Keeps n (begins tool base made opts)
  begins_at tool base made opts room =
      follows_then s k (λ o. counts s (found_slot tool base made o) + n) (λ o. counts s (watched_slot o) + n) (finds tool base made opts) (started tool base made opts) n
      (finds_slots s k n tool base made opts room) (started_at tool base made opts)

  pub monitor_at : (tool : SaidTool) (base : ℕ) → n + one_if (nat_eq s base) + one_if (nat_eq s (base + 1)) ≤ k → Keeps n (monitor_program tool base)
  monitor_at (SaidWatch opts) base room = begins_at WatchName base (base + 1) opts room
  monitor_at (SaidNotify opts) base room = begins_at NotifyName base (base + 1) opts room
  monitor_at (SaidDetect words) base room = omega arith
  monitor_at (SaidInfo opts) base room = omega arith
  monitor_at (SaidGet opts) base room = omega arith
  monitor_at (SaidSet opts) base room = omega arith

-- over all slots
module _ (slots : List ℕ) where
  abbrev LeavesOpen : Watched → List ℕ → Type 0
  LeavesOpen o now = SameSlots now (with_slot (watched_slot o) slots)

  abbrev Counts : ℕ → Watched → ℕ
  Counts s o = counts s (watched_slot o) + times s slots

  leaves : (o : Watched) (now : List ℕ) → ((s : ℕ) → times s now ≡ Counts s o) → LeavesOpen o now
  leaves o now same = λ s. same s ∙ sym (counts_with s (watched_slot o) slots)

  pub monitor_names : (tool : SaidTool) (base : ℕ) → AreApart (base ∷ (base + 1) ∷ slots) → NamesOpenSlots LeavesOpen slots (monitor_program tool base)
  monitor_names tool base apart =
      names_open (λ s. times s (base ∷ (base + 1) ∷ slots)) Counts LeavesOpen (monitor_program tool base) slots apart (λ s. omega arith)
      (λ s. monitor_at s (times s (base ∷ (base + 1) ∷ slots)) (times s slots) tool base (omega arith)) (λ o now same le. leaves o now same)

  -- a program of one that watches this
  resting : (o : Watched) (p : Program Watched) → AreApart (with_slot (watched_slot o) slots) → ((s k n : ℕ) → Follows s k (λ after. counts s (watched_slot after) + n) (counts s (watched_slot o) + n) p)
      → NamesOpenSlots LeavesOpen (with_slot (watched_slot o) slots) p
  resting o p apart h =
      names_open (λ s. times s (with_slot (watched_slot o) slots)) Counts LeavesOpen p (with_slot (watched_slot o) slots) apart (λ s. omega arith)
      (λ s. follows_at s (times s (with_slot (watched_slot o) slots)) (Counts s) p (Counts s o) (times s (with_slot (watched_slot o) slots)) (sym (counts_with s (watched_slot o) slots))
      (h s (times s (with_slot (watched_slot o) slots)) (times s slots)))
      (λ after now same le. leaves after now same)

  pub steps_names : (o : Watched) (turns : ℕ) → AreApart (with_slot (watched_slot o) slots) → NamesOpenSlots LeavesOpen (with_slot (watched_slot o) slots) (steps_held o turns)
  steps_names o turns apart = resting o (steps_held o turns) apart (λ s k n. steps_held_at s k n o turns)

  pub stop_names : (o : Watched) → AreApart (with_slot (watched_slot o) slots) → NamesOpenSlots LeavesOpen (with_slot (watched_slot o) slots) (stops o)
  stop_names o apart = resting o (stops o) apart (λ s k n. stops_at s k n o)
