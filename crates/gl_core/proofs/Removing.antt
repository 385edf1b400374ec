-- What stays where chips go on to their next phase.
use Rattle.std.proofs.Common.{drop, ◌++◌, ◌/◌, ◌≡◌, ◌≢◌, ℕ, zero, suc, ◌+◌, ◌<◌, ◌≤◌, Bool, true, false, List, [], ◌∷◌, Option, Some, None, length, refl, sym, ap, ◌∙◌, subst, arith, inl, inr}
use Rattle.std.specs.Prelude.{◌==◌, ◌&&◌, nat_lt, if◌then◌else◌, replicate, slice_index_or, slice_set, Result}
use Rattle.std.specs.List.{filter}
use Rattle.std.specs.Option.{option_map}
use Rattle.std.proofs.lemmas.Bool.{cases_eq, cases_lt, le-ltb}
use Rattle.std.proofs.lemmas.List.{get_or_past, get_or-set_other, get_or-set_same, length-replicate}
use Rattle.std.specs.Result.{result_err}
use Rattle.gl_base.specs.Refusals.{answer, when}
use Rattle.gl_base.specs.declared.errno.Errno.{Errno}
use Rattle.gl_base.specs.declared.errno.Errno.TheVariants.{Busy}
use Rattle.gl_base.specs.declared.limits.TheConstants.{LINES_MAX, PLACES}
use Rattle.gl_debounce.specs.Timer.{without_deadline}
use Rattle.gl_debounce.specs.declared.timer.Timer.{Timer}
use Rattle.gl_simtree.specs.Calls.{leaving_state, remove_refusal}
use Rattle.gl_simtree.specs.Rows.{state_of, with_state}
use Rattle.gl_simtree.specs.declared.row.State.TheVariants.{Off}
use Rattle.gl_simtree.specs.declared.row.TreeRow.{TreeRow}
use Rattle.gl_registry.specs.Chips.{chip_at, moved_on}
use Rattle.gl_registry.specs.declared.registry.Chip.{Chip}
use Rattle.gl_model.specs.declared.place.Origin.{Origin}
use Rattle.gl_model.specs.declared.place.Place.{Place}
use Rattle.gl_model.specs.Chips.{is_up, phase_at, places_from}
use Rattle.gl_model.specs.Places.{no_origin, no_place}
use Rattle.gl_model.specs.Outcome.{refused_or}
use Rattle.gl_model.specs.Removal.{begin_remove, begin_unplug, change_where, end_at, end_remove, is_device_named, is_removing, is_removing_of, is_up_of, leave_at, remove_begun, remove_ended, removed_by, removed_places, unplug_begun, unplug_refusal, up_places, without_deadlines}
use Rattle.gl_model.specs.World.{World}
use Rattle.gl_model.specs.declared.reply.Reply.TheVariants.{Done, Refused}
use Rattle.gl_core.specs.Chosen.{is_chosen, is_in_removal}
use Rattle.gl_core.specs.Kept.{Kept, StandsFor}
use Rattle.gl_core.specs.Shape.{HasLines, IsShaped}
use Rattle.gl_core.proofs.Buffers.{Comes}
use Rattle.gl_core.proofs.Choosing.{below, change_same, not_below}

pub length_where : {X : Type 0} (test : ℕ → Bool) (f : X → X) (n : ℕ) (xs : List X) → length (change_where test f n xs) ≡ length xs
length_where test f n [] = refl
length_where test f n (x ∷ xs) = ap (λ k. suc k) (length_where test f (n + 1) xs)

lines_stay : (b : Bool) (chip : Chip) → (if b then moved_on chip else chip).lines ≡ chip.lines
lines_stay true chip = refl
lines_stay false chip = refl

lines_where : (test : ℕ → Bool) (n : ℕ) (chips : List Chip) (p : ℕ) → (chip_at (change_where test moved_on n chips) p).lines ≡ (chip_at chips p).lines
lines_where test n [] p = refl
lines_where test n (chip ∷ chips) zero = lines_stay (test n) chip
lines_where test n (chip ∷ chips) (suc p) = lines_where test (n + 1) chips p

pub shape_moved : (test : ℕ → Bool) (chips : List Chip) (origins new : List Origin) (places : List Place) → length new ≡ length origins
    → IsShaped chips origins places → IsShaped (change_where test moved_on 0 chips) new places
shape_moved test chips origins new places as_many shape =
    let many : length (change_where test moved_on 0 chips) ≡ length chips = length_where test moved_on 0 chips in
    record {
      few = subst (λ n. n ≤ PLACES) (sym many) shape.few;
      origins_as_many = as_many ∙ shape.origins_as_many ∙ sym many;
      places_as_many = shape.places_as_many ∙ sym many;
      lines = λ p. subst (λ n. HasLines n (slice_index_or places p no_place)) (sym (lines_where test 0 chips p)) (shape.lines p);
    }

-- which of some places pass a test, from one place on

pub passing : (test : ℕ → Bool) (place next n m : ℕ) → next ≡ place + 1 → m ≡ suc n
    → filter test (places_from place m) ≡ (if test place then place ∷ filter test (places_from next n) else filter test (places_from next n))
passing test place next n m is many =
    ap (λ k. filter test (places_from place k)) many
    ∙ ap (λ q. if test place then place ∷ filter test (places_from q n) else filter test (places_from q n)) (sym is)

pub passing_here : (test : ℕ → Bool) (place next n m : ℕ) → next ≡ place + 1 → m ≡ suc n → test place ≡ true
    → filter test (places_from place m) ≡ place ∷ filter test (places_from next n)
passing_here test place next n m is many passes =
    passing test place next n m is many ∙ ap (λ b. if b then place ∷ filter test (places_from next n) else filter test (places_from next n)) passes

pub passing_not : (test : ℕ → Bool) (place next n m : ℕ) → next ≡ place + 1 → m ≡ suc n → test place ≡ false
    → filter test (places_from place m) ≡ filter test (places_from next n)
passing_not test place next n m is many fails =
    passing test place next n m is many ∙ ap (λ b. if b then place ∷ filter test (places_from next n) else filter test (places_from next n)) fails

nat_eq_same : (n : ℕ) → (n == n) ≡ true
nat_eq_same n = grind (arith)

nat_eq_other : (p n : ℕ) → p ≢ n → (p == n) ≡ false
nat_eq_other p n ne = grind (arith)

-- a mark for each place, and just one of them is set

pub none_marked : (n p : ℕ) → slice_index_or (replicate n false) p false ≡ false
none_marked zero p = refl
none_marked (suc n) zero = refl
none_marked (suc n) (suc p) = none_marked n p

-- before the first place nothing is marked
pub none_marked_yet : (n p : ℕ) (b : Bool) → slice_index_or (replicate n false) p false ≡ (nat_lt p 0 && b)
none_marked_yet n p b = none_marked n p ∙ sym (ap (λ t. t && b) (le-ltb p 0 (omega arith)))

pub one_marked : (n at p : ℕ) → at < n → slice_index_or (slice_set (replicate n false) at true) p false ≡ (p == at)
one_marked n at p lt = elim (cases_eq p at) as (λ _. slice_index_or (slice_set (replicate n false) at true) p false ≡ (p == at)) [
  | inl same ↦
      subst (λ (q : ℕ). slice_index_or (slice_set (replicate n false) at true) q false ≡ (q == at)) (sym same)
      (get_or-set_same (replicate n false) at true false (subst (λ k. at < k) (sym (length-replicate n false)) lt) ∙ sym (nat_eq_same at))
  | inr ne ↦ get_or-set_other (replicate n false) at p true false ne ∙ none_marked n p ∙ sym (nat_eq_other p at ne)
]

-- a place without an origin is of no device

pub no_device : (device : List ℕ) (remover : Option ℕ) (w : World) (p : ℕ) → length w.origins ≤ p → is_in_removal device remover w p ≡ false
no_device device None w p past = ap (λ (o : Origin). is_device_named device o.device && is_up (phase_at w p)) (get_or_past w.origins p no_origin past)
no_device device (Some actor) w p past = ap (λ (o : Origin). is_device_named device o.device && is_removing actor w p) (get_or_past w.origins p no_origin past)

-- the places of a removal are marked, where they are marked among the first
pub all_marked : (device : List ℕ) (remover : Option ℕ) (w : World) (marks : List Bool) (n p : ℕ) → length w.origins ≤ n
    → is_chosen marks p ≡ (nat_lt p n && is_in_removal device remover w p) → is_chosen marks p ≡ is_in_removal device remover w p
all_marked device remover w marks n p few so_far = elim (cases_lt p n) as (λ _. is_chosen marks p ≡ is_in_removal device remover w p) [
  | inl lt ↦ so_far ∙ below (is_in_removal device remover w) n p lt
  | inr past ↦ so_far ∙ not_below (is_in_removal device remover w) n p past ∙ sym (no_device device remover w p (Prim.omega arith))
]

-- the same places are those that pass the same test

filter_same : (test other : ℕ → Bool) (xs : List ℕ) → ((p : ℕ) → test p ≡ other p) → filter test xs ≡ filter other xs
filter_same test other [] same = refl
filter_same test other (x ∷ xs) same =
    ap (λ b. if b then x ∷ filter test xs else filter test xs) (same x) ∙ ap (λ l. if other x then x ∷ l else l) (filter_same test other xs same)

leave_same : (places other : ℕ → Bool) (actor : ℕ) (w : World) → ((p : ℕ) → places p ≡ other p) → leave_at places actor w ≡ leave_at other actor w
leave_same places other actor w same =
    ap (λ (l : List Chip). record w { chips = l; origins = change_where places (removed_by actor) 0 w.origins }) (change_same places other moved_on 0 w.chips (λ p _ _. same p))
    ∙ ap (λ (l : List Origin). record w { chips = change_where other moved_on 0 w.chips; origins = l }) (change_same places other (removed_by actor) 0 w.origins (λ p _ _. same p))

end_same : (places other : ℕ → Bool) (w : World) → ((p : ℕ) → places p ≡ other p) → end_at places w ≡ end_at other w
end_same places other w same =
    ap (λ (l : List Chip). record w { chips = l; timers = without_deadlines places w.timers }) (change_same places other moved_on 0 w.chips (λ p _ _. same p))
    ∙ ap (λ (l : List (Option Timer)). record w { chips = change_where other moved_on 0 w.chips; timers = l })
    (change_same (λ n. places (n / LINES_MAX)) (λ n. other (n / LINES_MAX)) (option_map without_deadline) 0 w.timers (λ n _ _. same (n / LINES_MAX)))

-- the calls of a removal

two_bytes : (out : List ℕ) (a b : ℕ) → length out ≡ 2 → slice_set (slice_set out 0 a) 1 b ≡ (a ∷ b ∷ []) ++ drop 2 out
two_bytes [] a b long = absurd (omega (arith, long))
two_bytes (x ∷ []) a b long = absurd (omega (arith, long))
two_bytes (x ∷ y ∷ []) a b long = refl
two_bytes (x ∷ y ∷ z ∷ out) a b long = absurd (omega (arith, long))

pub tree_changed : (k : Kept) (w : World) (f : List TreeRow → List TreeRow) (tree : List TreeRow) → StandsFor k w → tree ≡ f k.tree → StandsFor (record k { tree = tree }) (record w { tree = f w.tree })
tree_changed k w f tree s is = record {
  kept_so = ap (λ (z : Kept). record z { tree = f z.tree }) s.kept_so ∙ ap (λ (t : List TreeRow). record k { tree = t }) (sym is);
  sound_requests = s.sound_requests;
}

pub unplug_begins : (w : World) (new : Kept) (actor place : ℕ) (marks : List Bool) (out : List ℕ) → length out ≡ 2 → ((p : ℕ) → is_chosen marks p ≡ (p == place))
    → unplug_refusal place w ≡ None → StandsFor new (leave_at (is_chosen marks) actor w)
    → Comes (begin_unplug actor place w) new Done out (slice_set (slice_set out 0 place) 1 1)
unplug_begins w new actor place marks out long same free s =
    subst (λ r. Comes (refused_or r w (unplug_begun actor place w)) new Done out (slice_set (slice_set out 0 place) 1 1)) (sym free)
    (subst (StandsFor new) (leave_same (is_chosen marks) (λ p. p == place) actor w same) s, refl, two_bytes out place 1 long)

pub remove_begins : (w : World) (new : Kept) (actor : ℕ) (device : List ℕ) (marks : List Bool) (first count used : ℕ) (out : List ℕ) → length out ≡ 2
    → ((p : ℕ) → is_chosen marks p ≡ is_up_of device w p) → used ≡ length w.chips
    → first ≡ slice_index_or (filter (is_chosen marks) (places_from 0 used)) 0 0 → count ≡ length (filter (is_chosen marks) (places_from 0 used))
    → remove_refusal device w.tree ≡ None
    → StandsFor new (leave_at (is_chosen marks) actor (record w { tree = with_state device (leaving_state (state_of device w.tree)) w.tree }))
    → Comes (begin_remove actor device w) new Done out (slice_set (slice_set out 0 first) 1 count)
remove_begins w new actor device marks first count used out long same all is many free s =
    let up : filter (is_chosen marks) (places_from 0 used) ≡ up_places device w =
    ap (λ n. filter (is_chosen marks) (places_from 0 n)) all ∙ filter_same (is_chosen marks) (is_up_of device w) (places_from 0 (length w.chips)) same in
    subst (λ r. Comes (refused_or r w (remove_begun actor device w)) new Done out (slice_set (slice_set out 0 first) 1 count)) (sym free) (
      subst (StandsFor new) (leave_same (is_chosen marks) (is_up_of device w) actor (record w { tree = with_state device (leaving_state (state_of device w.tree)) w.tree }) same) s,
      refl,
      two_bytes out first count long
          ∙ ap (λ a. a ∷ count ∷ drop 2 out) (is ∙ ap (λ ps. slice_index_or ps 0 0) up)
          ∙ ap (λ b. slice_index_or (up_places device w) 0 0 ∷ b ∷ drop 2 out) (many ∙ ap (λ (ps : List ℕ). length ps) up),
    )

pub remove_ends : (w : World) (new : Kept) (actor : ℕ) (device : List ℕ) (marks : List Bool) (count used : ℕ)
    → ((p : ℕ) → is_chosen marks p ≡ is_removing_of device actor w p) → used ≡ length w.chips
    → count ≡ length (filter (is_chosen marks) (places_from 0 used)) → count ≢ 0
    → StandsFor new (end_at (is_chosen marks) (record w { tree = with_state device Off w.tree }))
    → StandsFor new (end_remove actor device w).world × (Done ≡ (end_remove actor device w).reply)
remove_ends w new actor device marks count used same all many some s =
    let removed : filter (is_chosen marks) (places_from 0 used) ≡ removed_places device actor w =
    ap (λ n. filter (is_chosen marks) (places_from 0 n)) all ∙ filter_same (is_chosen marks) (is_removing_of device actor w) (places_from 0 (length w.chips)) same in
    let free : when (length (removed_places device actor w) == 0) Busy ≡ None =
    ap (λ (n : ℕ). when (n == 0) Busy) (sym (many ∙ ap (λ (ps : List ℕ). length ps) removed)) ∙ ap (λ b. when b Busy) (nat_eq_other count 0 some) in
    subst (λ r. StandsFor new (refused_or r w (remove_ended actor device w)).world × (Done ≡ (refused_or r w (remove_ended actor device w)).reply)) (sym free)
    (subst (StandsFor new) (end_same (is_chosen marks) (is_removing_of device actor w) (record w { tree = with_state device Off w.tree }) same) s, refl)

-- no chip is being removed by this actor
pub remove_refused : (w : World) (new : Kept) (actor : ℕ) (device : List ℕ) (marks : List Bool) (count used : ℕ)
    → ((p : ℕ) → is_chosen marks p ≡ is_removing_of device actor w p) → used ≡ length w.chips
    → count ≡ length (filter (is_chosen marks) (places_from 0 used)) → count ≡ 0
    → StandsFor new w
    → StandsFor new (end_remove actor device w).world × (Refused Busy ≡ (end_remove actor device w).reply)
remove_refused w new actor device marks count used same all many none s =
    let removed : filter (is_chosen marks) (places_from 0 used) ≡ removed_places device actor w =
    ap (λ n. filter (is_chosen marks) (places_from 0 n)) all ∙ filter_same (is_chosen marks) (is_removing_of device actor w) (places_from 0 (length w.chips)) same in
    let busy : when (length (removed_places device actor w) == 0) Busy ≡ Some Busy =
    ap (λ (n : ℕ). when (n == 0) Busy) (sym (many ∙ ap (λ (ps : List ℕ). length ps) removed) ∙ none) in
    subst (λ r. StandsFor new (refused_or r w (remove_ended actor device w)).world × (Refused Busy ≡ (refused_or r w (remove_ended actor device w)).reply)) (sym busy)
    (s, refl)

-- the refusal of a call that was refused by it, or done
pub refusal_again : (r : Option Errno) (told : Result (Unit {0}) Errno) → told ≡ answer r tt → result_err told ≡ r
refusal_again None told is = ap (λ (t : Result (Unit {0}) Errno). result_err t) is
refusal_again (Some e) told is = ap (λ (t : Result (Unit {0}) Errno). result_err t) is
