-- Each call keeps a world sound.
use Rattle.std.proofs.Common.{◌≡◌, ◌+◌, ◌<◌, ◌≤◌, ◌-◌, ◌⊎◌, ℕ, zero, suc, List, [], ◌∷◌, ◌++◌, length, map, refl, sym, ap, ◌∙◌, subst, Bool, true, false, cond, Option, Some, None, arith, inl, inr}
use Rattle.std.specs.Prelude.{◌==◌, ◌&&◌, nat_lt, not, is_none, slice_index_or}
use Rattle.std.specs.List.{filter}
use Rattle.std.specs.Str.{bytes_eq}
use Rattle.std.proofs.lemmas.Bool.{true≢false}
use Rattle.std.proofs.lemmas.Bool.Decides.{nat_tests}
use Rattle.std.proofs.lemmas.List.{length-append}
use Rattle.std.proofs.lemmas.Slice.Eq.{bytes_eq-Decides}
use Rattle.gl_base.specs.Refusals.{when, first_of}
use Rattle.gl_base.specs.Rows.{Each}
use Rattle.gl_base.specs.declared.errno.Errno.{Errno}
use Rattle.gl_base.specs.declared.errno.Errno.TheVariants.{Busy, Inval, NoEnt, NoSpc, Perm}
use Rattle.gl_base.specs.declared.phase.Phase.{Phase}
use Rattle.gl_base.specs.declared.phase.Phase.TheVariants.{Absent, Up, Leaving, Gone}
use Rattle.gl_pins.specs.PinRange.{is_among}
use Rattle.gl_registry.specs.Chips.{chip_at, moved_on, new_chip, no_chip}
use Rattle.gl_registry.specs.declared.registry.Chip.{Chip}
use Rattle.gl_simtree.specs.Calls.{is_leaving as is_leaving_state, is_live, leaving_state, live_refusal, mkdir_refusal, remove_refusal, rmdir_refusal, removed}
use Rattle.gl_simtree.specs.Forms.{is_device}
use Rattle.gl_simtree.specs.Nodes.{node_at}
use Rattle.gl_simtree.specs.Rows.{banks_of, has, state_of}
use Rattle.gl_simtree.specs.declared.node.Directory.TheVariants.{Device}
use Rattle.gl_simtree.specs.declared.row.TreeRow.{TreeRow}
use Rattle.gl_simtree.specs.declared.row.State.{State}
use Rattle.gl_simtree.specs.declared.row.State.TheVariants.{Off, Live as LiveState, Leaving as LeavingState}
use Rattle.gl_world.specs.Ranks.{rank}
use Rattle.gl_model.specs.declared.call.Call.{Call}
use Rattle.gl_model.specs.declared.call.Call.TheVariants.{Probe, Unplug, MakeDir, RemoveDir, Write, Read, Live, Remove, Tick, Pin, Irq, Pull, Level, Interrupt, OpenChip, Find, Ioctl, ReadEdges, ReadInfo, PollLine, PollChip, Close, Refused as RefusedCall}
use Rattle.gl_model.specs.declared.place.Origin.{Origin}
use Rattle.gl_model.specs.Chips.{is_leaving, is_up, new_origin, phase_at, places_from, places_left}
use Rattle.gl_model.specs.Outcome.{Outcome, done, refused_or}
use Rattle.gl_model.specs.Places.{no_origin, origin_at}
use Rattle.gl_model.specs.Removal.{change_where, end_at, is_actor, is_outside_tree, is_device_named, is_of, is_removing, is_removing_of, is_unplugging, is_up_of, leave_at, remove_begun, remove_ended, removed_by, removed_places, unplug_begun, unplug_refusal}
use Rattle.gl_model.specs.Sound.{HasAtMostOneDirectory, IsSound, IsSoundFor, is_leaving_of}
use Rattle.gl_model.specs.Step.{step}
use Rattle.gl_model.specs.Tree.{chip_of_bank, gone_live, origin_of_bank}
use Rattle.gl_model.specs.World.{World, opening}
use Rattle.gl_model.proofs.Boards.{Board, board, keeps, raw_edge-board, tick-board, ioctl-board, close-board, open_at-board, found-board, read_outcome-board}
use Rattle.gl_model.proofs.Columns.{length-change_where, read_before, read_behind, read_past}
use Rattle.gl_model.proofs.Phases.{both, ended, is_up_rank, left, not_ended, not_false, not_left, nothing_first, nothing_when, rank_is_leaving, removed_finds, actor_is, same_number, stage, unplug_finds}
use Rattle.gl_model.proofs.PhaseLaws.{alone_is, device_is}
use Rattle.gl_model.proofs.TreeStates.{StateKept, leaving_is_there, made_keeps, removed_keeps, set_one, state_of_another, state_same, state_set, written_keeps}

pub chosen : (b : Bool) → (b ≡ true) ⊎ (b ≡ false)
chosen true = inl refl
chosen false = inr refl

pub split : (a b : ℕ) → (a < b) ⊎ (b ≤ a)
split a zero = inr (omega arith)
split zero (suc b) = inl (omega arith)
split (suc a) (suc b) = elim (split a b) as (λ _. (suc a < suc b) ⊎ (suc b ≤ suc a)) [ inl h ↦ inl (omega arith) | inr h ↦ inr (omega arith) ]

-- a board alone decides

abbrev rebuilt : Board → World
rebuilt b = record opening { chips = b.0; origins = b.1; tree = b.2 }

to_board : (w : World) → IsSound w → IsSound (rebuilt (board w))
to_board w s = record {
  columns = s.columns;
  devices = λ device. let d = s.devices device in record {
    one_directory = d.one_directory;
    first = d.first;
    count = d.count;
    within = d.within;
    stand = d.stand;
    live_has_up = d.live_has_up;
    idle = d.idle;
    leaving = d.leaving;
    leaving_has_remover = d.leaving_has_remover;
    one_remover = d.one_remover;
  };
}

from_board : (w : World) → IsSound (rebuilt (board w)) → IsSound w
from_board w s = record {
  columns = s.columns;
  devices = λ device. let d = s.devices device in record {
    one_directory = d.one_directory;
    first = d.first;
    count = d.count;
    within = d.within;
    stand = d.stand;
    live_has_up = d.live_has_up;
    idle = d.idle;
    leaving = d.leaving;
    leaving_has_remover = d.leaving_has_remover;
    one_remover = d.one_remover;
  };
}

same_board : (w v : World) → board v ≡ board w → IsSound w → IsSound v
same_board w v e s = from_board v (subst (λ b. IsSound (rebuilt b)) (sym e) (to_board w s))

sound_unless : (r : Option Errno) (w : World) (out : Outcome) → IsSound w → (r ≡ None → IsSound out.world) → IsSound (refused_or r w out).world
sound_unless None w out s h = h refl
sound_unless (Some e) w out s h = s

-- a device that a call doesn't touch: each place has the same chip, or one that isn't of the device

data Alike (device : List ℕ) (w v : World) (p : ℕ) : Type 0 where
  Same : chip_at v.chips p ≡ chip_at w.chips p → origin_at v p ≡ origin_at w p → Alike device w v p
  Foreign : is_of device w p ≡ false → is_of device v p ≡ false → Alike device w v p

none_of : (a b : Bool) → a ≡ false → (a && b) ≡ false
none_of a b e = ap (λ x. x && b) e

up_alike : (device : List ℕ) (w v : World) (p : ℕ) → Alike device w v p → is_up_of device v p ≡ is_up_of device w p
up_alike device w v p (Same c o) = ap (λ x. is_device_named device x.device && is_up (phase_at v p)) o ∙ ap (λ (x : Chip). is_of device w p && is_up x.phase) c
up_alike device w v p (Foreign a b) = none_of (is_of device v p) (is_up (phase_at v p)) b ∙ sym (none_of (is_of device w p) (is_up (phase_at w p)) a)

leaving_alike : (device : List ℕ) (w v : World) (p : ℕ) → Alike device w v p → is_leaving_of device v p ≡ is_leaving_of device w p
leaving_alike device w v p (Same c o) = ap (λ x. is_device_named device x.device && is_leaving (phase_at v p)) o ∙ ap (λ (x : Chip). is_of device w p && is_leaving x.phase) c
leaving_alike device w v p (Foreign a b) = none_of (is_of device v p) (is_leaving (phase_at v p)) b ∙ sym (none_of (is_of device w p) (is_leaving (phase_at w p)) a)

remover_alike : (device : List ℕ) (w v : World) (p : ℕ) → Alike device w v p → is_leaving_of device w p ≡ true → (origin_at v p).remover ≡ (origin_at w p).remover
remover_alike device w v p (Same c o) h = ap (λ (x : Origin). x.remover) o
remover_alike device w v p (Foreign a b) h = absurd (true≢false (sym (both (is_of device w p) (is_leaving (phase_at w p)) h).0 ∙ a))

-- an actor that removes a chip of the device removes it still
removing_alike : (device : List ℕ) (actor : ℕ) (w v : World) (p : ℕ) → Alike device w v p → is_removing_of device actor w p ≡ true → is_removing_of device actor v p ≡ true
removing_alike device actor w v p (Same c o) h = ap (λ (x : Origin). is_device_named device x.device && (is_leaving (phase_at v p) && is_actor actor x.remover)) o
    ∙ ap (λ (x : Chip). is_of device w p && (is_leaving x.phase && is_actor actor (origin_at w p).remover)) c ∙ h
removing_alike device actor w v p (Foreign a b) h = absurd (true≢false (sym (both (is_of device w p) (is_removing actor w p) h).0 ∙ a))

untouched : (device : List ℕ) (w v : World) → ((p : ℕ) → Alike device w v p) → length w.chips ≤ length v.chips → StateKept device w.tree v.tree → IsSoundFor device w → IsSoundFor device v
untouched device w v alike longer kept s = record {
  one_directory = kept.one_directory;
  first = s.first;
  count = s.count;
  within = (let h : s.first + s.count ≤ length w.chips = s.within in omega arith);
  stand = λ p. up_alike device w v p (alike p) ∙ s.stand p;
  live_has_up = λ h. s.live_has_up (sym (ap is_live kept.same_state) ∙ h);
  idle = λ h p. up_alike device w v p (alike p) ∙ s.idle (sym (ap is_live kept.same_state) ∙ h) p;
  leaving = λ p h. ap is_leaving_state kept.same_state ∙ s.leaving p (sym (leaving_alike device w v p (alike p)) ∙ h);
  leaving_has_remover = λ h.
      (let r = s.leaving_has_remover (sym (ap is_leaving_state kept.same_state) ∙ h) in
      (r.0, r.1, removing_alike device r.0 w v r.1 (alike r.1) r.2));
  one_remover = λ p q h k.
      (let wp : is_leaving_of device w p ≡ true = sym (leaving_alike device w v p (alike p)) ∙ h in
      let wq : is_leaving_of device w q ≡ true = sym (leaving_alike device w v q (alike q)) ∙ k in
      remover_alike device w v p (alike p) wp ∙ s.one_remover p q wp wq ∙ sym (remover_alike device w v q (alike q) wq));
}

-- the tree alone changes
with_tree : (w v : World) → v.chips ≡ w.chips → v.origins ≡ w.origins → ((device : List ℕ) → HasAtMostOneDirectory device w.tree → StateKept device w.tree v.tree) → IsSound w → IsSound v
with_tree w v c o kept s = record {
  columns = ap length o ∙ s.columns ∙ sym (ap length c);
  devices = λ device. untouched device w v (λ p. Same (ap (λ cs. chip_at cs p) c) (ap (λ os. slice_index_or os p no_origin) o)) (let h : length v.chips ≡ length w.chips = ap length c in omega arith)
      (kept device (s.devices device).one_directory) (s.devices device);
}

-- chips that are made

foreign_origins : (device : List ℕ) (origins : List Origin) (k : ℕ) → Each (λ (o : Origin). is_device_named device o.device ≡ false) origins → is_device_named device (slice_index_or origins k no_origin).device ≡ false
foreign_origins device [] k h = refl
foreign_origins device (o ∷ origins) zero h = h.0
foreign_origins device (o ∷ origins) (suc k) h = foreign_origins device origins k h.1

added_alike : (device : List ℕ) (w v : World) (chips : List Chip) (origins : List Origin) → length w.origins ≡ length w.chips → v.chips ≡ w.chips ++ chips → v.origins ≡ w.origins ++ origins
    → Each (λ (o : Origin). is_device_named device o.device ≡ false) origins → (p : ℕ) → Alike device w v p
added_alike device w v chips origins columns c o foreign p = elim (split p (length w.chips)) as (λ _. Alike device w v p) [
  | inl lt ↦ Same (ap (λ cs. chip_at cs p) c ∙ read_before w.chips chips p no_chip lt) (ap (λ os. slice_index_or os p no_origin) o ∙ read_before w.origins origins p no_origin (omega arith))
  | inr le ↦ Foreign
      (ap (λ (x : Origin). is_device_named device x.device) (read_past w.origins p no_origin (omega arith)))
      (ap (λ (x : Origin). is_device_named device x.device) (ap (λ os. slice_index_or os p no_origin) o ∙ read_behind w.origins origins p no_origin (omega arith)) ∙ foreign_origins device origins (p - length w.origins) foreign)
]

pub length_added : {X : Type 0} (xs ys : List X) → length (xs ++ ys) ≡ length xs + length ys
length_added xs ys = length-append xs ys

pub length_mapped : {X Y : Type 0} (f : X → Y) (xs : List X) → length (map f xs) ≡ length xs
length_mapped f [] = refl
length_mapped f (x ∷ xs) = ap suc (length_mapped f xs)

probe_sound : (w : World) (actor : ℕ) (label : List ℕ) (lines : ℕ) (kind : _) → IsSound w → IsSound (step w actor (Probe label lines kind)).world
probe_sound w actor label lines kind s = sound_unless _ w _ s (λ e. record {
  columns = (let h = s.columns in length_added w.origins (new_origin kind None ∷ []) ∙ ap (λ n. n + 1) h ∙ sym (length_added w.chips (new_chip label lines ∷ [])));
  devices = λ device. untouched device w _ (added_alike device w _ (new_chip label lines ∷ []) (new_origin kind None ∷ []) s.columns refl refl (refl, tt))
      (let h : length (w.chips ++ new_chip label lines ∷ []) ≡ length w.chips + 1 = length_added w.chips (new_chip label lines ∷ []) in omega arith)
      (state_same device w.tree (s.devices device).one_directory) (s.devices device);
})

-- unplugs

of_alone : (device : List ℕ) (o : Option (List ℕ)) → is_none o ≡ true → is_device_named device o ≡ false
of_alone device o h = ap (is_device_named device) (alone_is o h)

length_left : (test : ℕ → Bool) (actor : ℕ) (w : World) → length w.origins ≡ length w.chips → length (leave_at test actor w).origins ≡ length (leave_at test actor w).chips
length_left test actor w h = length-change_where test (removed_by actor) 0 w.origins ∙ h ∙ sym (length-change_where test moved_on 0 w.chips)

begin_unplug_alike : (device : List ℕ) (w : World) (actor place : ℕ) → length w.origins ≡ length w.chips → (stage w place ≡ 1) × (is_outside_tree w place ≡ true) → (p : ℕ) → Alike device w (leave_at (λ k. k == place) actor w) p
begin_unplug_alike device w actor place columns finds p = elim (chosen (p == place)) as (λ _. Alike device w (leave_at (λ k. k == place) actor w) p) [
  | inl t ↦
      (let is_p : p ≡ place = same_number p place t in
      let l = left (λ k. k == place) actor w (leave_at (λ k. k == place) actor w) p columns refl refl (ap (stage w) is_p ∙ finds.0) t in
      let no : is_of device w p ≡ false = ap (is_of device w) is_p ∙ of_alone device (origin_at w place).device finds.1 in
      Foreign no (ap (is_device_named device) l.same_device ∙ no))
  | inr f ↦ (let n = not_left (λ k. k == place) actor w (leave_at (λ k. k == place) actor w) p refl refl f in Same n.0 n.1)
]

begin_unplug_sound : (w : World) (actor place : ℕ) → IsSound w → IsSound (step w actor (Unplug place false)).world
begin_unplug_sound w actor place s = sound_unless (unplug_refusal place w) w (unplug_begun actor place w) s (λ e. record {
  columns = length_left (λ k. k == place) actor w s.columns;
  devices = λ device. untouched device w (leave_at (λ k. k == place) actor w) (begin_unplug_alike device w actor place s.columns (unplug_finds w place e))
      (let h : length (change_where (λ k. k == place) moved_on 0 w.chips) ≡ length w.chips = length-change_where (λ k. k == place) moved_on 0 w.chips in omega arith)
      (state_same device w.tree (s.devices device).one_directory) (s.devices device);
})

end_alike : (test : ℕ → Bool) (device : List ℕ) (w v : World) → v.chips ≡ (end_at test w).chips → v.origins ≡ w.origins → ((k : ℕ) → test k ≡ true → is_of device w k ≡ false) → (p : ℕ) → Alike device w v p
end_alike test device w v c o foreign p = elim (chosen (test p)) as (λ _. Alike device w v p) [
  | inl t ↦ Foreign (foreign p t) (ap (λ os. is_device_named device (slice_index_or os p no_origin).device) o ∙ foreign p t)
  | inr f ↦ Same (not_ended test w v p c f) (ap (λ os. slice_index_or os p no_origin) o)
]

end_unplug_sound : (w : World) (actor place : ℕ) → IsSound w → IsSound (step w actor (Unplug place true)).world
end_unplug_sound w actor place s = sound_unless (when (not (is_unplugging actor w place)) Busy) w (done (end_at (λ k. k == place) w)) s (λ e.
    let unplugged = both (is_outside_tree w place) (is_removing actor w place) (not_false (is_unplugging actor w place) (nothing_when (not (is_unplugging actor w place)) Busy e)) in
    record {
      columns = s.columns ∙ sym (length-change_where (λ k. k == place) moved_on 0 w.chips);
      devices = λ device. untouched device w (end_at (λ k. k == place) w)
          (end_alike (λ k. k == place) device w (end_at (λ k. k == place) w) refl refl (λ k t. ap (is_of device w) (same_number k place t) ∙ of_alone device (origin_at w place).device unplugged.0))
          (let h : length (change_where (λ k. k == place) moved_on 0 w.chips) ≡ length w.chips = length-change_where (λ k. k == place) moved_on 0 w.chips in omega arith)
          (state_same device w.tree (s.devices device).one_directory) (s.devices device);
    })

-- removals of devices

none_among : (p : ℕ) → false ≡ is_among 0 0 p
none_among p = grind (arith, nat_tests)

up_no_more : (a : Bool) (phase : Phase) → rank phase ≡ 2 → (a && is_up phase) ≡ false
up_no_more a Absent e = absurd (omega arith)
up_no_more a Up e = absurd (omega arith)
up_no_more true Leaving e = refl
up_no_more false Leaving e = refl
up_no_more a Gone e = absurd (omega arith)

gone_no_more : (a : Bool) (phase : Phase) → rank phase ≡ 3 → ((a && is_up phase) ≡ false) × ((a && is_leaving phase) ≡ false)
gone_no_more a Absent e = absurd (omega arith)
gone_no_more a Up e = absurd (omega arith)
gone_no_more a Leaving e = absurd (omega arith)
gone_no_more true Gone e = (refl, refl)
gone_no_more false Gone e = (refl, refl)

live_leaves : (s : State) → is_live s ≡ true → is_leaving_state (leaving_state s) ≡ true
live_leaves Off e = absurd (true≢false (sym e))
live_leaves (LiveState first) e = refl
live_leaves (LeavingState first) e = absurd (true≢false (sym e))

not_both : (s : State) → is_live s ≡ true → is_leaving_state s ≡ true → ⊥
not_both Off a b = true≢false (sym a)
not_both (LiveState first) a b = true≢false (sym b)
not_both (LeavingState first) a b = true≢false (sym a)

leaving_not_live : (s : State) → is_leaving_state s ≡ true → is_live s ≡ false
leaving_not_live Off a = refl
leaving_not_live (LiveState first) a = absurd (true≢false (sym a))
leaving_not_live (LeavingState first) a = refl

pub remove_finds : (device : List ℕ) (tree : List TreeRow) → remove_refusal device tree ≡ None → (has (Device device) tree ≡ true) × (is_live (state_of device tree) ≡ true)
remove_finds device tree e =
    let last = first_of (when (not (is_live (state_of device tree))) Perm ∷ []) in
    let busy = first_of (when (is_leaving_state (state_of device tree)) Busy ∷ when (not (is_live (state_of device tree))) Perm ∷ []) in
    let there = first_of (when (not (has (Device device) tree)) NoEnt ∷ when (is_leaving_state (state_of device tree)) Busy ∷ when (not (is_live (state_of device tree))) Perm ∷ []) in
    let one = nothing_first (when (not (is_device device)) Inval) there e in
    let two = nothing_first (when (not (has (Device device) tree)) NoEnt) busy one.1 in
    let three = nothing_first (when (is_leaving_state (state_of device tree)) Busy) last two.1 in
    let four = nothing_first (when (not (is_live (state_of device tree))) Perm) None three.1 in (
      not_false (has (Device device) tree) (nothing_when (not (has (Device device) tree)) NoEnt two.0),
      not_false (is_live (state_of device tree)) (nothing_when (not (is_live (state_of device tree))) Perm four.0),
    )

-- a place of one device is of no other
of_other : (device other : List ℕ) (o : Option (List ℕ)) → bytes_eq device other ≡ false → is_device_named device o ≡ true → is_device_named other o ≡ false
of_other device other o ne h = ap (is_device_named other) (device_is device o h) ∙ ne

begin_remove_other : (w : World) (actor : ℕ) (device other : List ℕ) → length w.origins ≡ length w.chips → bytes_eq device other ≡ false → (p : ℕ) → Alike other w (remove_begun actor device w).world p
begin_remove_other w actor device other columns ne p = elim (chosen (is_up_of device w p)) as (λ _. Alike other w (remove_begun actor device w).world p) [
  | inl t ↦
      (let h = both (is_of device w p) (is_up (phase_at w p)) t in
      let l = left (is_up_of device w) actor w (remove_begun actor device w).world p columns refl refl (is_up_rank (phase_at w p) h.1) t in
      let no : is_of other w p ≡ false = of_other device other (origin_at w p).device ne h.0 in
      Foreign no (ap (is_device_named other) l.same_device ∙ no))
  | inr f ↦ (let n = not_left (is_up_of device w) actor w (remove_begun actor device w).world p refl refl f in Same n.0 n.1)
]

-- what stands at each place of a device whose removal has begun: nothing that is up, and what is leaving is removed by this actor
begun_places_are : (w : World) (actor : ℕ) (device : List ℕ) → IsSound w → is_live (state_of device w.tree) ≡ true → (p : ℕ)
    → (is_up_of device (remove_begun actor device w).world p ≡ false) × (is_leaving_of device (remove_begun actor device w).world p ≡ true → (origin_at (remove_begun actor device w).world p).remover ≡ Some actor)
begun_places_are w actor device s live p = elim (chosen (is_up_of device w p)) as (λ _. (is_up_of device (remove_begun actor device w).world p ≡ false) × (is_leaving_of device (remove_begun actor device w).world p ≡ true → (origin_at (remove_begun actor device w).world p).remover ≡ Some actor)) [
  | inl t ↦
      (let h = both (is_of device w p) (is_up (phase_at w p)) t in
      let l = left (is_up_of device w) actor w (remove_begun actor device w).world p s.columns refl refl (is_up_rank (phase_at w p) h.1) t in
      (up_no_more (is_of device (remove_begun actor device w).world p) (phase_at (remove_begun actor device w).world p) l.is_leaving_now, λ _. l.by_actor))
  | inr f ↦
      (let n = not_left (is_up_of device w) actor w (remove_begun actor device w).world p refl refl f in (
        up_alike device w (remove_begun actor device w).world p (Same n.0 n.1) ∙ f,
        λ g. absurd (not_both (state_of device w.tree) live ((s.devices device).leaving p (sym (leaving_alike device w (remove_begun actor device w).world p (Same n.0 n.1)) ∙ g))),
      ))
]

-- the first chip of a device whose removal has begun is removed by this actor
first_is_removed : (w : World) (actor : ℕ) (device : List ℕ) (s : IsSound w) → is_live (state_of device w.tree) ≡ true
    → is_removing_of device actor (remove_begun actor device w).world (s.devices device).first ≡ true
first_is_removed w actor device s live =
    let d = s.devices device in
    let v : World = (remove_begun actor device w).world in
    let up : is_up_of device w d.first ≡ true = d.stand d.first ∙ first_among d.first d.count (d.live_has_up live) in
    let h = both (is_of device w d.first) (is_up (phase_at w d.first)) up in
    let l = left (is_up_of device w) actor w v d.first s.columns refl refl (is_up_rank (phase_at w d.first) h.1) up in
    let of_it : is_of device v d.first ≡ true = ap (is_device_named device) l.same_device ∙ h.0 in
    ap (λ b. b && is_removing actor v d.first) of_it ∙ ap (λ b. b && is_actor actor (origin_at v d.first).remover) (rank_is_leaving (phase_at v d.first) l.is_leaving_now)
    ∙ actor_is actor (origin_at v d.first).remover l.by_actor
  where
    first_among : (first count : ℕ) → 0 < count → is_among first count first ≡ true
    first_among first count h = grind (arith, nat_tests)

begin_remove_own : (w : World) (actor : ℕ) (device : List ℕ) → IsSound w → remove_refusal device w.tree ≡ None → IsSoundFor device (remove_begun actor device w).world
begin_remove_own w actor device s e =
    let finds = remove_finds device w.tree e in
    let places = begun_places_are w actor device s finds.1 in
    let state : state_of device (remove_begun actor device w).world.tree ≡ leaving_state (state_of device w.tree) = state_set device (leaving_state (state_of device w.tree)) w.tree finds.0 in
    let leaves : is_leaving_state (state_of device (remove_begun actor device w).world.tree) ≡ true = ap is_leaving_state state ∙ live_leaves (state_of device w.tree) finds.1 in
    record {
      one_directory = set_one device device (leaving_state (state_of device w.tree)) w.tree (s.devices device).one_directory;
      first = 0;
      count = 0;
      within = omega arith;
      stand = λ p. (places p).0 ∙ none_among p;
      live_has_up = λ h. absurd (not_both (state_of device (remove_begun actor device w).world.tree) h leaves);
      idle = λ _ p. (places p).0;
      leaving = λ p _. leaves;
      leaving_has_remover = λ _. (actor, (s.devices device).first, first_is_removed w actor device s finds.1);
      one_remover = λ p q h k. (places p).1 h ∙ sym ((places q).1 k);
    }

same_length : (test : ℕ → Bool) (chips : List Chip) → length chips ≤ length (change_where test moved_on 0 chips)
same_length test chips = let h : length (change_where test moved_on 0 chips) ≡ length chips = length-change_where test moved_on 0 chips in omega arith

begin_remove_sound : (w : World) (actor : ℕ) (device : List ℕ) → IsSound w → IsSound (step w actor (Remove device false)).world
begin_remove_sound w actor device s = sound_unless (remove_refusal device w.tree) w (remove_begun actor device w) s (λ e. record {
  columns = length_left (is_up_of device w) actor w s.columns;
  devices = λ other. elim (chosen (bytes_eq device other)) as (λ _. IsSoundFor other (remove_begun actor device w).world) [
    | inl t ↦ subst (λ d. IsSoundFor d (remove_begun actor device w).world) ((bytes_eq-Decides device other).0 t) (begin_remove_own w actor device s e)
    | inr ne ↦ untouched other w (remove_begun actor device w).world (begin_remove_other w actor device other s.columns ne) (same_length (is_up_of device w) w.chips)
        (state_of_another device other (leaving_state (state_of device w.tree)) w.tree ne (s.devices other).one_directory) (s.devices other)
  ];
})

-- one that passes is among some
some_passes : (test : ℕ → Bool) (i n : ℕ) → (length (filter test (places_from i n)) == 0) ≡ false → (p : ℕ) × (test p ≡ true)
some_passes test i zero h = absurd (true≢false h)
some_passes test i (suc n) h = elim (test i) as (λ b. test i ≡ b → (length (cond b (i ∷ filter test (places_from (i + 1) n)) (filter test (places_from (i + 1) n))) == 0) ≡ false → (p : ℕ) × (test p ≡ true)) [
  | true ↦ (λ t _. (i, t))
  | false ↦ (λ _ k. some_passes test (i + 1) n k)
] refl h

end_remove_own : (w : World) (actor : ℕ) (device : List ℕ) → IsSound w → (q : ℕ) → is_removing_of device actor w q ≡ true → IsSoundFor device (remove_ended actor device w).world
end_remove_own w actor device s q removed =
    let v : World = (remove_ended actor device w).world in
    let d = s.devices device in
    let hq = both (is_of device w q) (is_removing actor w q) removed in
    let fq = removed_finds w actor q hq.1 in
    let q_leaving : is_leaving_of device w q ≡ true = ap (λ b. b && is_leaving (phase_at w q)) hq.0 ∙ rank_is_leaving (phase_at w q) fq.0 in
    let idle : is_live (state_of device w.tree) ≡ false = leaving_not_live (state_of device w.tree) (d.leaving q q_leaving) in
    let places : (p : ℕ) → (is_up_of device v p ≡ false) × (is_leaving_of device v p ≡ false) = λ p. elim (chosen (is_removing_of device actor w p)) as (λ _. (is_up_of device v p ≡ false) × (is_leaving_of device v p ≡ false)) [
      | inl t ↦
          (let h = both (is_of device w p) (is_removing actor w p) t in
          gone_no_more (is_of device v p) (phase_at v p) (ended (is_removing_of device actor w) w v p refl (removed_finds w actor p h.1).0 t))
      | inr f ↦
          (let same : Alike device w v p = Same (not_ended (is_removing_of device actor w) w v p refl f) refl in (
            up_alike device w v p same ∙ d.idle idle p,
            leaving_alike device w v p same ∙ elim (chosen (is_leaving_of device w p)) as (λ _. is_leaving_of device w p ≡ false) [
              | inl g ↦
                  (let hp = both (is_of device w p) (is_leaving (phase_at w p)) g in
                  let by : is_actor actor (origin_at w p).remover ≡ true = actor_is actor (origin_at w p).remover (d.one_remover p q g q_leaving ∙ fq.1) in
                  let yes : is_removing_of device actor w p ≡ true = ap (λ b. b && is_removing actor w p) hp.0 ∙ ap (λ b. b && is_actor actor (origin_at w p).remover) hp.1 ∙ by in
                  absurd (true≢false (sym yes ∙ f)))
              | inr isnt ↦ isnt
            ],
          ))
    ] in
    let off : state_of device v.tree ≡ Off = state_set device Off w.tree (leaving_is_there device w.tree (d.leaving q q_leaving)) in
    record {
      one_directory = set_one device device Off w.tree d.one_directory;
      first = 0;
      count = 0;
      within = omega arith;
      stand = λ p. (places p).0 ∙ none_among p;
      live_has_up = λ h. absurd (true≢false (sym h ∙ ap is_live off));
      idle = λ _ p. (places p).0;
      leaving = λ p h. absurd (true≢false (sym h ∙ (places p).1));
      leaving_has_remover = λ h. absurd (true≢false (sym h ∙ ap is_leaving_state off));
      one_remover = λ p k h _. absurd (true≢false (sym h ∙ (places p).1));
    }

end_remove_sound : (w : World) (actor : ℕ) (device : List ℕ) → IsSound w → IsSound (step w actor (Remove device true)).world
end_remove_sound w actor device s = sound_unless (when (length (removed_places device actor w) == 0) Busy) w (remove_ended actor device w) s (λ e.
    let one = some_passes (is_removing_of device actor w) 0 (length w.chips) (nothing_when (length (removed_places device actor w) == 0) Busy e) in
    record {
      columns = s.columns ∙ sym (length-change_where (is_removing_of device actor w) moved_on 0 w.chips);
      devices = λ other. elim (chosen (bytes_eq device other)) as (λ _. IsSoundFor other (remove_ended actor device w).world) [
        | inl t ↦ subst (λ d. IsSoundFor d (remove_ended actor device w).world) ((bytes_eq-Decides device other).0 t) (end_remove_own w actor device s one.0 one.1)
        | inr ne ↦ untouched other w (remove_ended actor device w).world
            (end_alike (is_removing_of device actor w) other w (remove_ended actor device w).world refl refl (λ k t. of_other device other (origin_at w k).device ne (both (is_of device w k) (is_removing actor w k) t).0))
            (same_length (is_removing_of device actor w) w.chips)
            (state_of_another device other Off w.tree ne (s.devices other).one_directory) (s.devices other)
      ];
    })

-- a device that goes live

live_finds : (device : List ℕ) (left : ℕ) (tree : List TreeRow) → live_refusal device left tree ≡ None
    → (has (Device device) tree ≡ true) × (is_leaving_state (state_of device tree) ≡ false) × (is_live (state_of device tree) ≡ false) × ((length (banks_of device tree) == 0) ≡ false)
live_finds device left tree e =
    let room = when (nat_lt left (length (banks_of device tree))) NoSpc in
    let empty = when (length (banks_of device tree) == 0) Inval in
    let live = when (is_live (state_of device tree)) Perm in
    let busy = when (is_leaving_state (state_of device tree)) Busy in
    let there = when (not (has (Device device) tree)) NoEnt in
    let one = nothing_first (when (not (is_device device)) Inval) (first_of (there ∷ busy ∷ live ∷ empty ∷ room ∷ [])) e in
    let two = nothing_first there (first_of (busy ∷ live ∷ empty ∷ room ∷ [])) one.1 in
    let three = nothing_first busy (first_of (live ∷ empty ∷ room ∷ [])) two.1 in
    let four = nothing_first live (first_of (empty ∷ room ∷ [])) three.1 in
    let five = nothing_first empty (first_of (room ∷ [])) four.1 in (
      not_false (has (Device device) tree) (nothing_when (not (has (Device device) tree)) NoEnt two.0),
      nothing_when (is_leaving_state (state_of device tree)) Busy three.0,
      nothing_when (is_live (state_of device tree)) Perm four.0,
      nothing_when (length (banks_of device tree) == 0) Inval five.0,
    )

foreign_banks : (device other : List ℕ) (banks : List TreeRow) → bytes_eq device other ≡ false → Each (λ (o : Origin). is_device_named other o.device ≡ false) (map (origin_of_bank device) banks)
foreign_banks device other [] ne = tt
foreign_banks device other (bank ∷ banks) ne = (ne, foreign_banks device other banks ne)

-- the chips of banks are up and of the device, and there is nothing after them
banks_are : (device : List ℕ) (banks : List TreeRow) (k : ℕ)
    → ((is_device_named device (slice_index_or (map (origin_of_bank device) banks) k no_origin).device && is_up (chip_at (map chip_of_bank banks) k).phase) ≡ nat_lt k (length banks))
    × (is_leaving (chip_at (map chip_of_bank banks) k).phase ≡ false)
banks_are device [] k = (sym (grind (arith, nat_tests)), refl)
banks_are device (bank ∷ banks) zero = (ap (λ b. b && true) ((bytes_eq-Decides device device).1 refl) ∙ sym (grind (arith, nat_tests)), refl)
banks_are device (bank ∷ banks) (suc k) = let ih = banks_are device banks k in (ih.0 ∙ grind (arith, nat_tests), ih.1)

-- each place of a device that has gone live: what is up are its new chips, and none is leaving
live_places : (w : World) (device : List ℕ) → IsSound w → is_live (state_of device w.tree) ≡ false → is_leaving_state (state_of device w.tree) ≡ false → (p : ℕ)
    → (is_up_of device (gone_live device w).world p ≡ is_among (length w.chips) (length (banks_of device w.tree)) p) × (is_leaving_of device (gone_live device w).world p ≡ false)
live_places w device s idle calm p = elim (split p (length w.chips)) as (λ _. (is_up_of device (gone_live device w).world p ≡ is_among (length w.chips) (length (banks_of device w.tree)) p) × (is_leaving_of device (gone_live device w).world p ≡ false)) [
  | inl lt ↦
      (let same : Alike device w (gone_live device w).world p = Same (read_before w.chips (map chip_of_bank (banks_of device w.tree)) p no_chip lt) (read_before w.origins (map (origin_of_bank device) (banks_of device w.tree)) p no_origin (let h = s.columns in omega arith)) in (
        up_alike device w (gone_live device w).world p same ∙ (s.devices device).idle idle p ∙ grind (arith, nat_tests),
        leaving_alike device w (gone_live device w).world p same ∙ quiet_place,
      ))
  | inr le ↦
      (let k : ℕ = p - length w.chips in
      let are = banks_are device (banks_of device w.tree) k in
      let chip : chip_at (gone_live device w).world.chips p ≡ chip_at (map chip_of_bank (banks_of device w.tree)) k = read_behind w.chips (map chip_of_bank (banks_of device w.tree)) p no_chip le in
      let columns : length w.origins ≡ length w.chips = s.columns in
      let origin : origin_at (gone_live device w).world p ≡ slice_index_or (map (origin_of_bank device) (banks_of device w.tree)) k no_origin =
      read_behind w.origins (map (origin_of_bank device) (banks_of device w.tree)) p no_origin (omega arith) ∙ ap (λ n. slice_index_or (map (origin_of_bank device) (banks_of device w.tree)) (p - n) no_origin) columns in (
        ap (λ (x : Origin). is_device_named device x.device && is_up (phase_at (gone_live device w).world p)) origin
            ∙ ap (λ (x : Chip). is_device_named device (slice_index_or (map (origin_of_bank device) (banks_of device w.tree)) k no_origin).device && is_up x.phase) chip
            ∙ are.0 ∙ behind k (length (banks_of device w.tree)) le,
        ap (λ (x : Chip). is_of device (gone_live device w).world p && is_leaving x.phase) chip ∙ ap (λ b. is_of device (gone_live device w).world p && b) are.1 ∙ and_false (is_of device (gone_live device w).world p),
      ))
]
  where
    and_false : (b : Bool) → (b && false) ≡ false
    and_false true = refl
    and_false false = refl

    quiet_place : is_leaving_of device w p ≡ false
    quiet_place = elim (chosen (is_leaving_of device w p)) as (λ _. is_leaving_of device w p ≡ false) [
      | inl g ↦ absurd (true≢false (sym ((s.devices device).leaving p g) ∙ calm))
      | inr isnt ↦ isnt
    ]

    behind : (k n : ℕ) → length w.chips ≤ p → nat_lt (p - length w.chips) n ≡ is_among (length w.chips) n p
    behind k n le = grind (arith, nat_tests)

live_own : (w : World) (device : List ℕ) → IsSound w → live_refusal device (places_left w) w.tree ≡ None → IsSoundFor device (gone_live device w).world
live_own w device s e =
    let finds = live_finds device (places_left w) w.tree e in
    let places = live_places w device s finds.2 finds.1 in
    let state : state_of device (gone_live device w).world.tree ≡ LiveState (length w.chips) = state_set device (LiveState (length w.chips)) w.tree finds.0 in
    let size : length (w.chips ++ map chip_of_bank (banks_of device w.tree)) ≡ length w.chips + length (banks_of device w.tree) =
    length_added w.chips (map chip_of_bank (banks_of device w.tree)) ∙ ap (λ n. length w.chips + n) (length_mapped chip_of_bank (banks_of device w.tree)) in
    record {
      one_directory = set_one device device (LiveState (length w.chips)) w.tree (s.devices device).one_directory;
      first = length w.chips;
      count = length (banks_of device w.tree);
      within = omega arith;
      stand = λ p. (places p).0;
      live_has_up = λ _. some_bank (length (banks_of device w.tree)) finds.3;
      idle = λ h p. absurd (true≢false (sym (ap is_live state) ∙ h));
      leaving = λ p h. absurd (true≢false (sym h ∙ (places p).1));
      leaving_has_remover = λ h. absurd (true≢false (sym h ∙ ap is_leaving_state state));
      one_remover = λ p q h _. absurd (true≢false (sym h ∙ (places p).1));
    }
  where
    some_bank : (n : ℕ) → (n == 0) ≡ false → 0 < n
    some_bank n h = grind (arith, nat_tests)

live_sound : (w : World) (actor : ℕ) (device : List ℕ) → IsSound w → IsSound (step w actor (Live device)).world
live_sound w actor device s = sound_unless (live_refusal device (places_left w) w.tree) w (gone_live device w) s (λ e.
    let banks : List TreeRow = banks_of device w.tree in
    record {
      columns = length_added w.origins (map (origin_of_bank device) banks) ∙ ap (λ n. n + length (map (origin_of_bank device) banks)) s.columns
          ∙ ap (λ n. length w.chips + n) (length_mapped (origin_of_bank device) banks ∙ sym (length_mapped chip_of_bank banks)) ∙ sym (length_added w.chips (map chip_of_bank banks));
      devices = λ other. elim (chosen (bytes_eq device other)) as (λ _. IsSoundFor other (gone_live device w).world) [
        | inl t ↦ subst (λ d. IsSoundFor d (gone_live device w).world) ((bytes_eq-Decides device other).0 t) (live_own w device s e)
        | inr ne ↦ untouched other w (gone_live device w).world
            (added_alike other w (gone_live device w).world (map chip_of_bank banks) (map (origin_of_bank device) banks) s.columns refl refl (foreign_banks device other banks ne))
            (let h : length (w.chips ++ map chip_of_bank banks) ≡ length w.chips + length (map chip_of_bank banks) = length_added w.chips (map chip_of_bank banks) in omega arith)
            (state_of_another device other (LiveState (length w.chips)) w.tree ne (s.devices other).one_directory) (s.devices other)
      ];
    })

-- all calls

pub opens : IsSound opening
opens = record {
  columns = refl;
  devices = λ device. record {
    one_directory = omega arith;
    first = 0;
    count = 0;
    within = omega arith;
    stand = λ p. none_among p;
    live_has_up = λ h. absurd (true≢false (sym h));
    idle = λ _ p. refl;
    leaving = λ p h. absurd (true≢false (sym h));
    leaving_has_remover = λ h. absurd (true≢false (sym h));
    one_remover = λ p q h _. absurd (true≢false (sym h));
  };
}

same : (w : World) (actor : ℕ) (call : Call) → board (step w actor call).world ≡ board w → IsSound w → IsSound (step w actor call).world
same w actor call e s = same_board w (step w actor call).world e s

pub keeps_sound : (w : World) (actor : ℕ) (call : Call) → IsSound w → IsSound (step w actor call).world
keeps_sound w actor (Probe label lines kind) s = probe_sound w actor label lines kind s
keeps_sound w actor (Unplug place false) s = begin_unplug_sound w actor place s
keeps_sound w actor (Unplug place true) s = end_unplug_sound w actor place s
keeps_sound w actor (MakeDir path) s = sound_unless (mkdir_refusal (node_at path) w.tree) w _ s (λ e. with_tree w _ refl refl (λ device one. made_keeps (node_at path) w.tree device e one) s)
keeps_sound w actor (RemoveDir path) s = sound_unless (rmdir_refusal (node_at path) w.tree) w _ s (λ e. with_tree w _ refl refl (λ device one. removed_keeps (node_at path) w.tree device e one) s)
keeps_sound w actor (Write path value) s = sound_unless _ w _ s (λ _. with_tree w _ refl refl (written_keeps (node_at path) value w.tree) s)
keeps_sound w actor (Read path) s = same w actor (Read path) (read_outcome-board _ w) s
keeps_sound w actor (Live device) s = live_sound w actor device s
keeps_sound w actor (Remove device false) s = begin_remove_sound w actor device s
keeps_sound w actor (Remove device true) s = end_remove_sound w actor device s
keeps_sound w actor (Tick mono real) s = same w actor (Tick mono real) (tick-board mono real w) s
keeps_sound w actor (Pin place what) s = same w actor (Pin place what) (keeps _ w _ refl) s
keeps_sound w actor (Irq place offset what) s = same w actor (Irq place offset what) (keeps _ w _ refl) s
keeps_sound w actor (Pull place offset up) s = same w actor (Pull place offset up) (keeps _ w _ (raw_edge-board place offset _ _)) s
keeps_sound w actor (Level place offset pull) s = same w actor (Level place offset pull) (keeps _ w _ refl) s
keeps_sound w actor (Interrupt place offset up) s = same w actor (Interrupt place offset up) (keeps _ w _ (raw_edge-board place offset _ _)) s
keeps_sound w actor (OpenChip word) s = same w actor (OpenChip word) (open_at-board _ w) s
keeps_sound w actor (Find place name) s = same w actor (Find place name) (found-board _ w) s
keeps_sound w actor (Ioctl place fd cmd len bytes part) s = same w actor (Ioctl place fd cmd len bytes part) (ioctl-board actor place fd cmd len bytes part w) s
keeps_sound w actor (ReadEdges place fd len) s = same w actor (ReadEdges place fd len) (keeps _ w _ refl) s
keeps_sound w actor (ReadInfo place fd len) s = same w actor (ReadInfo place fd len) (keeps _ w _ refl) s
keeps_sound w actor (PollLine place fd) s = same w actor (PollLine place fd) (keeps _ w _ refl) s
keeps_sound w actor (PollChip place fd) s = same w actor (PollChip place fd) (keeps _ w _ refl) s
keeps_sound w actor (Close fd) s = same w actor (Close fd) (close-board fd w) s
keeps_sound w actor (RefusedCall place poll) s = s
