-- What the pass that has the turn owes to the rule when it commits an entry.
use Rattle.std.specs.Prelude.{◌≡◌, ℕ, ◌<◌, ◌≤◌, [], ◌∷◌, ◌++◌, Some, true, false, length}
use Rattle.gl_world.specs.declared.machine.Machine.{Ghosts}
use Rattle.gl_world.specs.declared.history.Entry.{Entry}
use Rattle.gl_world.specs.History.{fold}
use Rattle.gl_world.specs.Removal.{Removes}
use Rattle.gl_rule.specs.declared.held.Held.{Held}
use Rattle.gl_rule.specs.declared.view.View.{View}
use Rattle.gl_rule.specs.Sums.{times}
use Rattle.gl_rule.specs.Turn.{InSlot, owes}

module _ {M C R G : Type 0} (m : Ghosts M C R G) where
  pub record MayCommit (v : View M C R G) (h : Held M C R G) (e : Entry M C R G) : Type 0 where
    -- the entry is its own, as the machine answers it, and it lies in the slot
    pub by_pass : e.actor ≡ v.number
    pub reply : e.reply ≡ m.reply_of (fold m v.seen) e.actor e.call
    pub fits : m.FitsCall e.call
    pub slot : InSlot m (v.seen ++ e ∷ []) v.room h
    -- a second entry is owed; for another one there is room
    pub ends : m.ends e.call ≡ true → (m.begins e.call e.reply ≡ false) × (0 < owes m v)
    pub other : m.ends e.call ≡ false → (owes m v ≤ 1) × (length v.seen < v.room)
    -- it is inside the place that the call names, and knows the place closed at which the call was refused
    pub named : (p : ℕ) → m.place_of e.call ≡ Some p → 0 < times p v.inside
    pub refused : (p : ℕ) → m.refused_at e.call ≡ Some p → 0 < times p v.closed
    -- a removal's last entry: each place that this pass removes was drained
    pub last : m.is_last_removal e.call ≡ true → (p : ℕ) → Removes m (fold m v.seen) e.actor p → 0 < times p v.drained
