-- The laws of a machine over its worlds, as the trait states them. (Two more of the trait speak of calls alone.)
use Rattle.std.specs.Prelude.{◌≡◌, ℕ, ◌≤◌, true, Some, Contains}
use Rattle.gl_world.specs.declared.machine.Machine.{Ghosts}
use Rattle.gl_world.specs.History.{stage}
use Rattle.gl_world.specs.Ranks.{IsGone, IsLeaving, IsNotClosing, IsNotGone}

module _ {M C R G : Type 0} (m : Ghosts M C R G) where
  pub record Laws : Type 0 where
    -- the opening world is sound, and a call keeps a world sound
    pub opens_sound : m.Sound m.opening
    pub keeps_sound : (w : m.World) (by : ℕ) (call : C) → m.Sound w → m.FitsCall call → m.Sound (m.world_after w by call)
    -- in the opening world no place is Leaving or Gone
    pub opens_places : (p : ℕ) → IsNotClosing (stage m m.opening p)
    -- phases only go forward
    pub goes_forward : (w : m.World) (by : ℕ) (call : C) (p : ℕ) → m.Sound w → m.FitsCall call → stage m w p ≤ stage m (m.world_after w by call) p
    -- a place becomes Gone from Leaving alone, by a removal's last entry of the actor that removes it
    pub ends_place : (w : m.World) (by : ℕ) (call : C) (p : ℕ) → m.Sound w → m.FitsCall call → IsNotGone (stage m w p) → IsGone (stage m (m.world_after w by call) p)
        → IsLeaving (stage m w p) × (m.is_last_removal call ≡ true) × (m.remover_of w p ≡ Some by)
    -- a place becomes Leaving by an entry that names it, and who made this entry removes it
    pub begins_place : (w : m.World) (by : ℕ) (call : C) (p : ℕ) → m.Sound w → m.FitsCall call → IsNotClosing (stage m w p) → IsLeaving (stage m (m.world_after w by call) p)
        → (m.remover_of (m.world_after w by call) p ≡ Some by) × Contains (m.begun_places call (m.reply_of w by call) (m.bytes_of w by call)) p
    -- each place that a removal's first entry names is Leaving after it
    pub begins_removal : (w : m.World) (by : ℕ) (call : C) (p : ℕ) → m.Sound w → m.FitsCall call → Contains (m.begun_places call (m.reply_of w by call) (m.bytes_of w by call)) p
        → IsLeaving (stage m (m.world_after w by call) p) × (m.remover_of (m.world_after w by call) p ≡ Some by) × (m.awaited_call (m.world_after w by call) p ≡ m.last_call call)
    -- while a place is Leaving, it has one remover, and one call ends its removal
    pub removal_stays : (w : m.World) (by : ℕ) (call : C) (p : ℕ) → m.Sound w → m.FitsCall call → IsLeaving (stage m w p) → IsLeaving (stage m (m.world_after w by call) p)
        → (m.remover_of (m.world_after w by call) p ≡ m.remover_of w p) × (m.awaited_call (m.world_after w by call) p ≡ m.awaited_call w p)
    -- that call of the remover makes the place Gone
    pub ends_removal : (w : m.World) (by : ℕ) (call : C) (p : ℕ) → m.Sound w → m.FitsCall call → IsLeaving (stage m w p) → m.remover_of w p ≡ Some by → m.awaited_call w p ≡ call
        → IsGone (stage m (m.world_after w by call) p)
