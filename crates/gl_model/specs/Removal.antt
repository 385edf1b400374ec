-- Removing chips. A removal has two calls: the first makes its chips Leaving, and the last, by the same actor, makes them
-- Gone. From the kernel's document on GPIO drivers; the two calls and their refusals are this project's choice.
use Rattle.std.specs.Prelude.{ℕ, ◌+◌, ◌/◌, Bool, false, not, ◌==◌, ◌&&◌, is_none, if◌then◌else◌, List, [], ◌∷◌, length, Option, Some, None, slice_index_or}
use Rattle.std.specs.List.{filter}
use Rattle.std.specs.Option.{option_map}
use Rattle.std.specs.Str.{bytes_eq}
use Rattle.gl_base.specs.Refusals.{first_of, when}
use Rattle.gl_base.specs.declared.errno.Errno.{Errno}
use Rattle.gl_base.specs.declared.errno.Errno.TheVariants.{Busy, NoDev, Perm}
use Rattle.gl_base.specs.declared.limits.TheConstants.{LINES_MAX}
use Rattle.gl_base.specs.declared.phase.Phase.{Phase}
use Rattle.gl_base.specs.declared.phase.Phase.TheVariants.{Absent, Up, Leaving, Gone}
use Rattle.gl_debounce.specs.Timer.{without_deadline}
use Rattle.gl_debounce.specs.declared.timer.Timer.{Timer}
use Rattle.gl_registry.specs.Chips.{moved_on}
use Rattle.gl_simtree.specs.Calls.{leaving_state, remove_refusal}
use Rattle.gl_simtree.specs.Rows.{state_of, with_state}
use Rattle.gl_simtree.specs.declared.row.State.TheVariants.{Off}
use Rattle.gl_model.specs.declared.place.Origin.{Origin}
use Rattle.gl_model.specs.Chips.{is_leaving, is_up, phase_at, place_refusal, used_places}
use Rattle.gl_model.specs.Outcome.{Outcome, done, refused_or, writes}
use Rattle.gl_model.specs.Places.{origin_at}
use Rattle.gl_model.specs.World.{World}

module _ {X : Type 0} where
  -- the rows with those changed whose number, counted from n, passes the test
  abbrev pub change_where : (ℕ → Bool) → (X → X) → ℕ → List X → List X
  change_where test f n [] = []
  change_where test f n (x ∷ xs) = (if test n then f x else x) ∷ change_where test f (n + 1) xs

-- an actor that may not be there is this one
abbrev pub is_actor : ℕ → Option ℕ → Bool
is_actor actor None = false
is_actor actor (Some other) = other == actor

-- a device that may not be there is this one
abbrev pub is_device_named : List ℕ → Option (List ℕ) → Bool
is_device_named device None = false
is_device_named device (Some other) = bytes_eq other device

-- the chip of a place is of this device
abbrev pub is_of : List ℕ → World → ℕ → Bool
is_of device w place = is_device_named device (origin_at w place).device

-- the chip of a place is of no device of the tree
abbrev pub is_outside_tree : World → ℕ → Bool
is_outside_tree w place = is_none (origin_at w place).device

-- this actor's removal of the chip of a place has begun, and hasn't ended
abbrev pub is_removing : ℕ → World → ℕ → Bool
is_removing actor w place = is_leaving (phase_at w place) && is_actor actor (origin_at w place).remover

-- the origin of a chip whose removal this actor begins
abbrev pub removed_by : ℕ → Origin → Origin
removed_by actor origin = record origin { remover = Some actor }

-- the timers of all lines of some places, with no deadline running
abbrev pub without_deadlines : (ℕ → Bool) → List (Option Timer) → List (Option Timer)
without_deadlines places timers = change_where (λ n. places (n / LINES_MAX)) (option_map without_deadline) 0 timers

-- the chips of some places become Leaving, and this actor removes them
abbrev pub leave_at : (ℕ → Bool) → ℕ → World → World
leave_at places actor w = record w {
  chips = change_where places moved_on 0 w.chips;
  origins = change_where places (removed_by actor) 0 w.origins;
}

-- the chips of some places become Gone, and no deadline of their lines runs
abbrev pub end_at : (ℕ → Bool) → World → World
end_at places w = record w {
  chips = change_where places moved_on 0 w.chips;
  timers = without_deadlines places w.timers;
}

-- what the first call of a removal writes: its first place, and how many places it has
abbrev pub removal_bytes : List ℕ → List ℕ
removal_bytes places = slice_index_or places 0 0 ∷ length places ∷ []

-- a chip that is leaving or gone can't be removed once more
abbrev pub phase_refusal : Phase → Option Errno
phase_refusal Absent = None
phase_refusal Up = None
phase_refusal Leaving = Some Busy
phase_refusal Gone = Some NoDev

-- Why an unplug is refused, first case first: no chip was made there; it is of a device of the tree; its removal has begun;
-- it was removed.
abbrev pub unplug_refusal : ℕ → World → Option Errno
unplug_refusal place w = first_of
    (place_refusal place w
    ∷ when (not (is_outside_tree w place)) Perm
    ∷ phase_refusal (phase_at w place)
    ∷ [])

-- an unplug has begun
abbrev pub unplug_begun : ℕ → ℕ → World → Outcome
unplug_begun actor place w = writes (removal_bytes (place ∷ [])) (leave_at (λ p. p == place) actor w)

-- the first call of an unplug
abbrev pub begin_unplug : ℕ → ℕ → World → Outcome
begin_unplug actor place w = refused_or (unplug_refusal place w) w (unplug_begun actor place w)

-- the place is that of an unplug which this actor has begun and not ended
abbrev pub is_unplugging : ℕ → World → ℕ → Bool
is_unplugging actor w place = is_outside_tree w place && is_removing actor w place

-- the last call of an unplug: EBUSY where this actor has begun no such unplug, or has ended it
abbrev pub end_unplug : ℕ → ℕ → World → Outcome
end_unplug actor place w =
    refused_or (when (not (is_unplugging actor w place)) Busy) w (done (end_at (λ p. p == place) w))

-- the chip of a place is of this device and is up
abbrev pub is_up_of : List ℕ → World → ℕ → Bool
is_up_of device w place = is_of device w place && is_up (phase_at w place)

-- the places of a device's chips that are up, in order
abbrev pub up_places : List ℕ → World → List ℕ
up_places device w = filter (is_up_of device w) (used_places w)

-- the removal of all chips of a device has begun: the device is leaving, and so is each of its chips that was up
abbrev pub remove_begun : ℕ → List ℕ → World → Outcome
remove_begun actor device w =
    writes (removal_bytes (up_places device w))
    (leave_at (is_up_of device w) actor (record w { tree = with_state device (leaving_state (state_of device w.tree)) w.tree }))

-- `live` to 0: the first call of the removal of all chips of a device. The refusals are those of the tree.
abbrev pub begin_remove : ℕ → List ℕ → World → Outcome
begin_remove actor device w = refused_or (remove_refusal device w.tree) w (remove_begun actor device w)

-- the chip of a place is of this device, and this actor's removal of it has begun and hasn't ended
abbrev pub is_removing_of : List ℕ → ℕ → World → ℕ → Bool
is_removing_of device actor w place = is_of device w place && is_removing actor w place

-- the places of a device's chips that this actor removes, in order
abbrev pub removed_places : List ℕ → ℕ → World → List ℕ
removed_places device actor w = filter (is_removing_of device actor w) (used_places w)

-- the removal of all chips of a device has ended: they are Gone, and the device is off
abbrev pub remove_ended : ℕ → List ℕ → World → Outcome
remove_ended actor device w = done (end_at (is_removing_of device actor w) (record w { tree = with_state device Off w.tree }))

-- the last call of that removal: EBUSY where this actor has begun no such removal, or has ended it
abbrev pub end_remove : ℕ → List ℕ → World → Outcome
end_remove actor device w =
    refused_or (when (length (removed_places device actor w) == 0) Busy) w (remove_ended actor device w)
