-- Devices that go live: how many banks there is room for, and the chips that banks become.
use Rattle.std.proofs.Common.{◌≡◌, ℕ, zero, suc, ◌+◌, ◌<◌, ◌≤◌, List, [], ◌∷◌, ◌++◌, length, map, take, Option, Some, None, true, false, refl, ap, sym, subst, ◌∙◌, arith}
use Rattle.std.specs.Prelude.{cond, not, nat_lt, ◌==◌, Result, Ok, Err, IfOk, slice_get, slice_index_or}
use Rattle.std.proofs.lemmas.Bool.{ltb-false}
use Rattle.std.proofs.lemmas.List.{append_assoc, map-append, take_more}
use Rattle.std.proofs.lemmas.Option.{get_or_from_slice_get, slice_get_within}
use Rattle.gl_base.specs.Positions.{change_at}
use Rattle.gl_base.specs.Refusals.{answer, first_of, when}
use Rattle.gl_base.specs.declared.errno.Errno.{Errno}
use Rattle.gl_base.specs.declared.errno.Errno.TheVariants.{Busy, Inval, NoEnt, NoSpc, Perm}
use Rattle.gl_simtree.specs.Calls.{is_leaving, is_live, live_refusal}
use Rattle.gl_simtree.specs.Forms.{is_device}
use Rattle.gl_simtree.specs.Rows.{banks_of, has, is_row_in, is_row_of, row_with_state, state_of, with_state}
use Rattle.gl_simtree.specs.declared.node.Directory.TheVariants.{Device}
use Rattle.gl_simtree.specs.declared.row.State.{State}
use Rattle.gl_simtree.specs.declared.row.TreeRow.{TreeRow}
use Rattle.gl_simtree.specs.declared.row.TreeRow.TheVariants.{Device as DeviceRow, Bank as BankRow, Line as LineRow, Hog as HogRow}
use Rattle.gl_model.proofs.Phases.{nothing_first, nothing_when}
use Rattle.std.proofs.lemmas.List.{length-append, length-replicate}
use Rattle.gl_base.proofs.AtPositions.{length-change_at}
use Rattle.gl_base.specs.declared.limits.TheConstants.{LINES_MAX, PLACES}
use Rattle.gl_bank.specs.Level.{first_levels}
use Rattle.gl_desc.specs.Desc.{first_desc, named}
use Rattle.gl_desc.specs.declared.desc.Desc.{Desc}
use Rattle.gl_hogs.proofs.Lengths.{as_many_descs, as_many_levels}
use Rattle.gl_irq.specs.Irq.{first_irq}
use Rattle.gl_registry.specs.Chips.{chip_at}
use Rattle.gl_registry.specs.declared.registry.Chip.{Chip}
use Rattle.gl_simtree.specs.declared.row.State.TheVariants.{Live}
use Rattle.gl_model.specs.declared.place.Origin.{Origin}
use Rattle.gl_model.specs.declared.place.Place.{Place}
use Rattle.gl_model.specs.declared.reply.Reply.TheVariants.{Done, Refused}
use Rattle.gl_model.specs.Chips.{new_place, places_left}
use Rattle.gl_model.specs.Outcome.{refused_or}
use Rattle.gl_model.specs.Places.{no_place}
use Rattle.gl_model.specs.Tree.{chip_of_bank, go_live, gone_live, origin_of_bank, place_of_bank, with_banks, with_names}
use Rattle.gl_model.specs.World.{World}
use Rattle.gl_core.specs.Kept.{Kept, StandsFor, kept_of}
use Rattle.gl_core.specs.Live.{Planned, furnished, planned, with_bank_chips, with_planned}
use Rattle.gl_core.specs.Shape.{HasLines, IsShaped}

-- a device that can go live has no more banks than places are left
room_for_banks : (device : List ℕ) (left : ℕ) (tree : List TreeRow) → live_refusal device left tree ≡ None → length (banks_of device tree) ≤ left
room_for_banks device left tree e =
    let room = when (nat_lt left (length (banks_of device tree))) NoSpc in
    let empty = when (length (banks_of device tree) == 0) Inval in
    let live = when (is_live (state_of device tree)) Perm in
    let busy = when (is_leaving (state_of device tree)) Busy in
    let there = when (not (has (Device device) tree)) NoEnt in
    let one = nothing_first (when (not (is_device device)) Inval) (first_of (there ∷ busy ∷ live ∷ empty ∷ room ∷ [])) e in
    let two = nothing_first there (first_of (busy ∷ live ∷ empty ∷ room ∷ [])) one.1 in
    let three = nothing_first busy (first_of (live ∷ empty ∷ room ∷ [])) two.1 in
    let four = nothing_first live (first_of (empty ∷ room ∷ [])) three.1 in
    let five = nothing_first empty (first_of (room ∷ [])) four.1 in
    let six = nothing_first room None five.1 in
    ltb-false left (length (banks_of device tree)) (nothing_when (nat_lt left (length (banks_of device tree))) NoSpc six.0)

-- what an answer without a refusal says
if_answered : (refusal : Option Errno) (n : ℕ) (P : ℕ → Type 0) → (refusal ≡ None → P n) → IfOk (answer refusal n) P
if_answered None n P h = h refl
if_answered (Some errno) n P h = tt

pub answered_banks : (device : List ℕ) (left : ℕ) (tree : List TreeRow) (told : Result ℕ Errno) → told ≡ answer (live_refusal device left tree) (length (banks_of device tree))
    → IfOk told (λ banks. (banks ≤ left) × (banks ≡ length (banks_of device tree)))
answered_banks device left tree told is =
    let banks : ℕ = length (banks_of device tree) in
    subst (λ (r : Result ℕ Errno). IfOk r (λ n. (n ≤ left) × (n ≡ banks))) (sym is)
    (if_answered (live_refusal device left tree) banks (λ n. (n ≤ left) × (n ≡ banks)) (λ none. (room_for_banks device left tree none, refl)))

-- the banks of a device are the same whatever the state of a device
same_bank : (device other : List ℕ) (s : State) (x : TreeRow) (rows : List TreeRow) → banks_of device (row_with_state s x ∷ rows) ≡ banks_of device (x ∷ rows)
same_bank device other s (DeviceRow d state) rows = refl
same_bank device other s (BankRow d bank lines label) rows = refl
same_bank device other s (LineRow d bank line name) rows = refl
same_bank device other s (HogRow d bank line name way) rows = refl

pub banks_stay : (device other : List ℕ) (s : State) (rows : List TreeRow) → banks_of device (with_state other s rows) ≡ banks_of device rows
banks_stay device other s [] = refl
banks_stay device other s (x ∷ rows) =
    elim (is_row_of (Device other) x) as (λ b. banks_of device (cond b (row_with_state s x ∷ rows) (x ∷ with_state other s rows)) ≡ banks_of device (x ∷ rows)) [
      | true ↦ same_bank device other s x rows
      | false ↦ ap (λ l. cond (is_row_in (Device device) x) (x ∷ l) l) (banks_stay device other s rows)
    ]

-- a change of the last row
pub changed_last : {X : Type 0} (d : X) (f : X → X) (xs : List X) (x : X) → change_at d (length xs) f (xs ++ x ∷ []) ≡ xs ++ f x ∷ []
changed_last d f [] x = refl
changed_last d f (y ∷ xs) x = ap (λ l. y ∷ l) (changed_last d f xs x)

-- one item more, seen through a function
pub map_more : {X Y : Type 0} (f : X → Y) (before : List Y) (xs : List X) (i : ℕ) (x : X) → slice_get xs i ≡ Some x → (before ++ map f (take i xs)) ++ f x ∷ [] ≡ before ++ map f (take (i + 1) xs)
map_more f before xs i x at =
    append_assoc before (map f (take i xs)) (f x ∷ []) ∙ ap (λ l. before ++ l) (sym (map-append f (take i xs) (x ∷ []))
    ∙ ap (λ l. map f l) (ap (λ y. take i xs ++ y ∷ []) (sym (get_or_from_slice_get xs i x x at)) ∙ sym (take_more xs i x (slice_get_within xs i x at))))

-- there is a row at each index within
row_within : {X : Type 0} (xs : List X) (i : ℕ) → i < length xs → (x : X) × (slice_get xs i ≡ Some x)
row_within [] i within = absurd (omega arith)
row_within (x ∷ xs) zero within = (x, refl)
row_within (x ∷ xs) (suc i) within = row_within xs i (omega arith)

-- one bank more has become a chip
bank_at : (device : List ℕ) (banks : List TreeRow) (k : Kept) (i : ℕ) (x : TreeRow) → slice_get banks i ≡ Some x
    → with_planned device (planned (slice_get banks i) k.tree) (with_bank_chips device (take i banks) k) ≡ with_bank_chips device (take (i + 1) banks) k
bank_at device banks k i x at =
    let before = with_bank_chips device (take i banks) k in
    let after = with_bank_chips device (take (i + 1) banks) k in
    ap (λ b. with_planned device (planned b k.tree) before) at
    ∙ ap (λ cs. record (with_planned device (planned (Some x) k.tree) before) { chips = cs }) (map_more chip_of_bank k.chips banks i x at)
    ∙ ap (λ os. record (with_planned device (planned (Some x) k.tree) before) { chips = after.chips; origins = os }) (map_more (origin_of_bank device) k.origins banks i x at)
    ∙ ap (λ ps. record after { places = ps }) (map_more (place_of_bank k.tree) k.places banks i x at)

pub bank_more : (device : List ℕ) (k now new : Kept) (i : ℕ) → i < length (banks_of device k.tree) → now ≡ with_bank_chips device (take i (banks_of device k.tree)) k
    → new ≡ with_planned device (planned (slice_get (banks_of device now.tree) i) now.tree) now → new ≡ with_bank_chips device (take (i + 1) (banks_of device k.tree)) k
bank_more device k now new i within is made =
    let row = row_within (banks_of device k.tree) i within in
    made ∙ ap (λ (z : Kept). with_planned device (planned (slice_get (banks_of device z.tree) i) z.tree) z) is ∙ bank_at device (banks_of device k.tree) k i row.0 row.1

-- the core whose device has gone live
pub live_stands : (k : Kept) (w : World) (device : List ℕ) (first : ℕ) (tree : List TreeRow) → StandsFor k w → first ≡ length w.chips → tree ≡ with_state device (Live first) k.tree
    → StandsFor (with_bank_chips device (banks_of device tree) (record k { tree = tree })) (gone_live device w).world
live_stands k w device first tree s is now =
    let live = with_state device (Live (length w.chips)) w.tree in
    let same : tree ≡ live = now ∙ ap (λ (n : ℕ). with_state device (Live n) k.tree) is ∙ ap (λ (z : Kept). with_state device (Live (length w.chips)) z.tree) (sym s.kept_so) in
    subst (λ (t : List TreeRow). StandsFor (with_bank_chips device (banks_of device t) (record k { tree = t })) (gone_live device w).world) (sym same)
    record {
      kept_so =
          ap (λ banks. kept_of (with_banks device banks (record w { tree = live }))) (sym (banks_stay device device (Live (length w.chips)) w.tree))
          ∙ ap (λ (z : Kept). with_bank_chips device (banks_of device live) (record z { tree = live })) s.kept_so;
      sound_requests = s.sound_requests;
    }

-- why a call was refused, by what was told
abbrev error_of : Result ℕ Errno → Option Errno
error_of (Ok n) = None
error_of (Err errno) = Some errno

answered_error : (refusal : Option Errno) (n : ℕ) → error_of (answer refusal n) ≡ refusal
answered_error None n = refl
answered_error (Some errno) n = refl

refusal_told : (refusal : Option Errno) (n : ℕ) (told is : Result ℕ Errno) → told ≡ is → told ≡ answer refusal n → refusal ≡ error_of is
refusal_told refusal n told is same was = sym (answered_error refusal n) ∙ ap error_of (sym was ∙ same)

pub live_refused : (k : Kept) (w : World) (device : List ℕ) (told : Result ℕ Errno) (errno : Errno) → StandsFor k w → told ≡ Err errno
    → told ≡ answer (live_refusal device (places_left w) w.tree) (length (banks_of device w.tree)) → StandsFor k (go_live device w).world × (Refused errno ≡ (go_live device w).reply)
live_refused k w device told errno s is was =
    subst (λ (r : Option Errno). StandsFor k (refused_or r w (gone_live device w)).world × (Refused errno ≡ (refused_or r w (gone_live device w)).reply))
    (sym (refusal_told (live_refusal device (places_left w) w.tree) (length (banks_of device w.tree)) told (Err errno) is was)) (s, refl)

pub live_done : (k : Kept) (w : World) (device : List ℕ) (told : Result ℕ Errno) (banks : ℕ) → StandsFor k (gone_live device w).world → told ≡ Ok banks
    → told ≡ answer (live_refusal device (places_left w) w.tree) (length (banks_of device w.tree)) → StandsFor k (go_live device w).world × (Done ≡ (go_live device w).reply)
live_done k w device told banks s is was =
    subst (λ (r : Option Errno). StandsFor k (refused_or r w (gone_live device w)).world × (Done ≡ (refused_or r w (gone_live device w)).reply))
    (sym (refusal_told (live_refusal device (places_left w) w.tree) (length (banks_of device w.tree)) told (Ok banks) is was)) (s, refl)

-- names and hogs leave as many lines
named_as_many : (names : List (ℕ × List ℕ)) (descs : List Desc) → length (with_names names descs) ≡ length descs
named_as_many [] descs = refl
named_as_many (name ∷ names) descs = named_as_many names (change_at first_desc name.0 (named name.1) descs) ∙ length-change_at first_desc name.0 (named name.1) descs

pub furnished_lines : (plan : Planned) (lines : ℕ) → lines ≤ LINES_MAX → HasLines lines (furnished plan (new_place lines))
furnished_lines plan lines few = record {
  few = few;
  descs = as_many_descs plan.hogs (with_names plan.names (new_place lines).descs) ∙ named_as_many plan.names (new_place lines).descs ∙ length-replicate lines first_desc;
  bank = as_many_levels plan.hogs (new_place lines).bank ∙ length-replicate lines first_levels;
  irqs = length-replicate lines first_irq;
}

-- a chip more, with its origin and its tables
lines_more : (chips : List Chip) (places : List Place) (chip : Chip) (place : Place) → length places ≡ length chips → ((p : ℕ) → HasLines (chip_at chips p).lines (slice_index_or places p no_place))
    → HasLines chip.lines place → (p : ℕ) → HasLines (chip_at (chips ++ chip ∷ []) p).lines (slice_index_or (places ++ place ∷ []) p no_place)
lines_more [] [] chip place as_many lines has zero = has
lines_more [] [] chip place as_many lines has (suc p) = lines p
lines_more [] (y ∷ places) chip place as_many lines has p = absurd (omega arith)
lines_more (x ∷ chips) [] chip place as_many lines has p = absurd (omega arith)
lines_more (x ∷ chips) (y ∷ places) chip place as_many lines has zero = lines zero
lines_more (x ∷ chips) (y ∷ places) chip place as_many lines has (suc p) = lines_more chips places chip place (omega arith) (λ q. lines (suc q)) has p

pub shape_more : (chips : List Chip) (origins : List Origin) (places : List Place) (chip : Chip) (origin : Origin) (place : Place) → length chips < PLACES → HasLines chip.lines place
    → IsShaped chips origins places → IsShaped (chips ++ chip ∷ []) (origins ++ origin ∷ []) (places ++ place ∷ [])
shape_more chips origins places chip origin place room has shape = record {
  few = omega (arith, room, length-append chips (chip ∷ []));
  origins_as_many = omega (arith, shape.origins_as_many, length-append chips (chip ∷ []), length-append origins (origin ∷ []));
  places_as_many = omega (arith, shape.places_as_many, length-append chips (chip ∷ []), length-append places (place ∷ []));
  lines = lines_more chips places chip place shape.places_as_many shape.lines has;
}

-- the tables of the place that was opened last, furnished
pub opened_last : (plan : Planned) (lines place : ℕ) (places opened new : List Place) → place ≡ length places → lines ≡ plan.lines → opened ≡ places ++ new_place lines ∷ []
    → new ≡ change_at no_place place (furnished plan) opened → new ≡ places ++ furnished plan (new_place plan.lines) ∷ []
opened_last plan lines place places opened new at as_planned made is =
    is ∙ ap (λ (ps : List Place). change_at no_place place (furnished plan) ps) made ∙ ap (λ (n : ℕ). change_at no_place n (furnished plan) (places ++ new_place lines ∷ [])) at
    ∙ changed_last no_place (furnished plan) places (new_place lines) ∙ ap (λ (n : ℕ). places ++ furnished plan (new_place n) ∷ []) as_planned
