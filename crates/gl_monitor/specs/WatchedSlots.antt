-- A test of the slot of the file that a monitor watches, if it watches one.
use Rattle.std.specs.Prelude.{ℕ, Bool}
use Rattle.gl_lines.specs.OwnSlots.{SlotPasses}
use Rattle.gl_monitor.specs.Monitor.{Watched, watched_slot}

abbrev pub WatchedPasses : (ℕ → Bool) → Watched → Type 0
WatchedPasses test watched = SlotPasses test (watched_slot watched)
