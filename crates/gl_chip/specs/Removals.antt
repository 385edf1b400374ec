-- A removal, as a call of the device: its first entry, then each of its places closed and drained, then its last entry.
use Rattle.std.specs.Prelude.{◌≡◌, ℕ, ◌+◌, ◌<◌, ◌≤◌, Bool, true, false, ◌&&◌, List, [], ◌∷◌, ◌++◌, ◌⊎◌, Contains, Result, Ok, Err}
use Rattle.gl_base.specs.Phases.{is_gone}
use Rattle.gl_base.specs.declared.errno.Errno.{Errno}
use Rattle.gl_base.specs.declared.errno.Errno.TheVariants.{Full}
use Rattle.gl_world.specs.declared.machine.Machine.{Ghosts}
use Rattle.gl_world.specs.History.{Legal, entry, entries_of, fold}
use Rattle.gl_world.specs.Removal.{Removes}
use Rattle.gl_rule.specs.declared.view.View.{View}
use Rattle.gl_rule.specs.Turn.{owes}
use Rattle.gl_gate.specs.Calls.{KnowsAsMuch, KnowsClosed, KnowsDrained}
use Rattle.gl_gate.specs.Grown.{Grew, Moved}
use Rattle.gl_model.specs.declared.call.Call.{Call}
use Rattle.gl_model.specs.declared.call.Call.TheVariants.{Remove, Unplug}
use Rattle.gl_model.specs.declared.reply.Reply.{Reply}
use Rattle.gl_model.specs.declared.reply.Reply.TheVariants.{Done, Refused}
use Rattle.gl_model.specs.Chips.{phase_at}
use Rattle.gl_model.specs.Entries.{awaited_call, begun_places, last_call}
use Rattle.gl_model.specs.declared.device_call.DeviceCall.{DeviceCall}
use Rattle.gl_model.specs.declared.device_call.RemovalOf.{RemovalOf}
use Rattle.gl_model.specs.declared.device_call.RemovalOf.TheVariants.{OfChip, OfDevice}
use Rattle.gl_model.specs.Parts.{first_call}
use Rattle.gl_model.specs.Removal.{is_outside_tree}
use Rattle.gl_model.specs.World.{World}
use Rattle.gl_chip.specs.Called.{IsMade}
use Rattle.gl_asking.specs.Results.{done_of}
use Rattle.gl_chip.specs.Steps.{EndsWith, FoundNoRoom, deed_of}
use Rattle.gl_core.specs.Device.{OneDeed, OneEntry, core}
use Rattle.gl_chip.specs.Values.{OneView}

-- the call is the first one of a removal
abbrev pub is_first_call : Call → Bool
is_first_call (Unplug place false) = true
is_first_call (Remove device false) = true
is_first_call _ = false

-- what such a call takes away
abbrev pub removal_of : Call → RemovalOf
removal_of (Unplug place last) = OfChip place
removal_of (Remove device last) = OfDevice device
removal_of _ = OfChip 0

-- the chip of a place was removed, and is of no device of the tree
abbrev pub is_gone_outside : ℕ → World → Bool
is_gone_outside place w = is_gone (phase_at w place) && is_outside_tree w place

-- each place whose removal these deeds began is closed and drained: nobody comes in any more, and nobody is inside
abbrev pub AllDrained : List OneDeed → OneView → Type 0
AllDrained [] w = Unit {0}
AllDrained (d ∷ ds) w = ((p : ℕ) → Contains (begun_places d.entry.call d.entry.reply d.bytes) p → KnowsClosed w p × KnowsDrained w p) × AllDrained ds w

-- The first entry was made and begins, and the pass removes just so many places from this one on, by the removal that began so.
pub record HasBegun (from count : ℕ) (first : Call) (v : OneView) : Type 0 where
  pub owes_one : owes core v ≡ 1
  pub before : List OneEntry
  pub since : List OneEntry
  pub at : v.seen ≡ before ++ entry v.number first Done ∷ since
  pub since_others : entries_of v.number since ≡ []
  pub removes : (p : ℕ) → from ≤ p → p < from + count → Removes core (fold core v.seen) v.number p
  pub only : (p : ℕ) → Removes core (fold core v.seen) v.number p → (from ≤ p) × (p < from + count)
  pub awaits : (p : ℕ) → from ≤ p → p < from + count → awaited_call (fold core v.seen) p ≡ last_call first

-- its last entry was made, and each of its places is closed and drained
pub record HasEnded (from count : ℕ) (first : Call) (v : OneView) (reply : Reply) (w : OneView) : Type 0 where
  pub wrote : List ℕ
  pub grew : Grew core v (deed_of v.number (last_call first) reply wrote ∷ []) w
  pub last : EndsWith w.seen (entry v.number (last_call first) reply)
  pub done : reply ≡ Done
  pub closed : (p : ℕ) → from ≤ p → p < from + count → KnowsClosed w p
  pub drained : (p : ℕ) → from ≤ p → p < from + count → KnowsDrained w p
  pub legal : Legal core w.seen
  pub knows_as_much : KnowsAsMuch v w

module _ {M C R G : Type 0} (m : Ghosts M C R G) where
  -- The pass only closed and drained places: those from this one on, up to but not including that one.
  pub record HasDrained (from past : ℕ) (v w : View M C R G) : Type 0 where
    pub moved : Moved m v w
    pub inside : w.inside ≡ v.inside
    pub knows_as_much : KnowsAsMuch v w
    pub closed : (p : ℕ) → from ≤ p → p < past → KnowsClosed w p
    pub drained : (p : ℕ) → from ≤ p → p < past → KnowsDrained w p

-- How a removal comes out: it was made, the result is what its last reply comes to, and each place whose removal it began is closed and drained; or
-- the history was full, and then, and only then, the result says so.
abbrev pub RemovesOut : Result (Unit {0}) Errno → OneView → DeviceCall → OneView → Type 0
RemovesOut result v call w = ((bytes : List ℕ) × (made : IsMade done_of result v call bytes w) × AllDrained made.called.did w) ⊎ ((result ≡ Err Full) × FoundNoRoom core v w)

-- The entries of a removal that was made. Its first one was refused, and that is its one entry and its answer; or it was done, and then so
-- was its last one, which stands after it, and the answer is Ok.
abbrev pub EndsAsBegun : RemovalOf → Result (Unit {0}) Errno → OneView → OneView → Type 0
EndsAsBegun removal (Err errno) v w = w.mine ≡ v.mine ++ entry v.number (first_call removal) (Refused errno) ∷ []
EndsAsBegun removal (Ok done) v w = w.mine ≡ v.mine ++ entry v.number (first_call removal) Done ∷ entry v.number (last_call (first_call removal)) Done ∷ []

-- the same, by the last entry's reply
abbrev pub RemovedBy : RemovalOf → Reply → OneView → OneView → Type 0
RemovedBy removal reply v w =
    ((errno : Errno) × (reply ≡ Refused errno) × (w.mine ≡ v.mine ++ entry v.number (first_call removal) reply ∷ []))
    ⊎ ((reply ≡ Done) × (w.mine ≡ v.mine ++ entry v.number (first_call removal) Done ∷ entry v.number (last_call (first_call removal)) reply ∷ []))
