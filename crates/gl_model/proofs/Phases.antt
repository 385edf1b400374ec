-- How the phase of a place goes on by a call.
use Rattle.std.proofs.Common.{◌≡◌, ◌+◌, ◌<◌, ◌≤◌, ◌-◌, ◌⊎◌, ℕ, zero, suc, List, [], ◌∷◌, ◌++◌, length, refl, sym, ap, ◌∙◌, subst, Bool, true, false, cond, Option, Some, None, arith, map, inl, inr, eq-eqb}
use Rattle.std.specs.Prelude.{◌==◌, ◌&&◌, not, Contains, is_none, slice_index_or}
use Rattle.std.specs.List.{filter}
use Rattle.std.specs.Option.{option_or}
use Rattle.std.proofs.lemmas.Bool.{true≢false}
use Rattle.std.proofs.lemmas.Bool.Decides.{nat_tests}
use Rattle.gl_base.specs.Refusals.{when, first_of}
use Rattle.gl_base.specs.Rows.{Each}
use Rattle.gl_base.specs.declared.errno.Errno.{Errno}
use Rattle.gl_base.specs.declared.errno.Errno.TheVariants.{Busy, NoEnt, Perm}
use Rattle.gl_base.specs.declared.phase.Phase.{Phase}
use Rattle.gl_base.specs.declared.phase.Phase.TheVariants.{Absent, Up, Leaving, Gone}
use Rattle.gl_registry.specs.Chips.{chip_at, moved_on, new_chip, next_phase, no_chip}
use Rattle.gl_registry.specs.declared.registry.Chip.{Chip}
use Rattle.gl_pins.specs.PinRange.{is_among}
use Rattle.gl_simtree.specs.Calls.{live_refusal, remove_refusal}
use Rattle.gl_simtree.specs.Rows.{banks_of}
use Rattle.gl_simtree.specs.declared.row.TreeRow.{TreeRow}
use Rattle.gl_world.specs.Ranks.{rank}
use Rattle.gl_model.specs.declared.call.Call.{Call}
use Rattle.gl_model.specs.declared.call.Call.TheVariants.{Probe, Unplug, MakeDir, RemoveDir, Write, Read, Live, Remove, Tick, Pin, Irq, Pull, Level, Interrupt, OpenChip, Find, Ioctl, ReadEdges, ReadInfo, PollLine, PollChip, Close, Refused as RefusedCall}
use Rattle.gl_model.specs.declared.place.Origin.{Origin}
use Rattle.gl_model.specs.Chips.{is_absent, is_leaving, is_up, new_origin, phase_at, place_refusal, places_from, places_left}
use Rattle.gl_model.specs.Entries.{begun_places, is_last_removal, places_named}
use Rattle.gl_model.specs.Outcome.{Outcome, refused_or}
use Rattle.gl_model.specs.Places.{no_origin, origin_at}
use Rattle.gl_model.specs.Removal.{change_where, end_at, is_actor, is_outside_tree, is_of, is_removing, is_removing_of, is_unplugging, is_up_of, leave_at, phase_refusal, removal_bytes, remove_begun, remove_ended, removed_by, unplug_begun, unplug_refusal, up_places}
use Rattle.gl_model.specs.Sound.{IsSound, IsSoundFor}
use Rattle.gl_model.specs.Step.{step}
use Rattle.gl_model.specs.Tree.{chip_of_bank, gone_live, origin_of_bank}
use Rattle.gl_model.specs.World.{World}
use Rattle.gl_model.proofs.Boards.{board, keeps, raw_edge-board, tick-board, ioctl-board, close-board, open_at-board, found-board, read_outcome-board}
use Rattle.gl_model.proofs.Columns.{length-change_where, read_where, read_before, read_past}

abbrev pub stage : World → ℕ → ℕ
stage w p = rank (phase_at w p)

-- small facts

pub some_none : {A : Type 0} (x : A) → Some x ≡ None → ⊥
some_none x e = true≢false (ap (λ o. not (is_none o)) e)

pub nothing_first : (a b : Option Errno) → option_or a b ≡ None → (a ≡ None) × (b ≡ None)
nothing_first None b e = (refl, e)
nothing_first (Some x) b e = absurd (some_none x e)

pub nothing_when : (b : Bool) (e : Errno) → when b e ≡ None → b ≡ false
nothing_when true e h = absurd (some_none e h)
nothing_when false e h = refl

pub both : (a b : Bool) → (a && b) ≡ true → (a ≡ true) × (b ≡ true)
both true b e = (refl, e)
both false b e = absurd (true≢false (sym e))

pub not_false : (b : Bool) → not b ≡ false → b ≡ true
not_false true e = refl
not_false false e = absurd (true≢false e)

pub same_number : (a b : ℕ) → (a == b) ≡ true → a ≡ b
same_number a b e = grind (arith, nat_tests)

-- phases

pub is_up_rank : (phase : Phase) → is_up phase ≡ true → rank phase ≡ 1
is_up_rank Absent e = absurd (true≢false (sym e))
is_up_rank Up e = refl
is_up_rank Leaving e = absurd (true≢false (sym e))
is_up_rank Gone e = absurd (true≢false (sym e))

pub is_leaving_rank : (phase : Phase) → is_leaving phase ≡ true → rank phase ≡ 2
is_leaving_rank Absent e = absurd (true≢false (sym e))
is_leaving_rank Up e = absurd (true≢false (sym e))
is_leaving_rank Leaving e = refl
is_leaving_rank Gone e = absurd (true≢false (sym e))

pub rank_is_up : (phase : Phase) → rank phase ≡ 1 → is_up phase ≡ true
rank_is_up Absent e = absurd (omega arith)
rank_is_up Up e = refl
rank_is_up Leaving e = absurd (omega arith)
rank_is_up Gone e = absurd (omega arith)

pub rank_is_leaving : (phase : Phase) → rank phase ≡ 2 → is_leaving phase ≡ true
rank_is_leaving Absent e = absurd (omega arith)
rank_is_leaving Up e = absurd (omega arith)
rank_is_leaving Leaving e = refl
rank_is_leaving Gone e = absurd (omega arith)

pub next_of_up : (phase : Phase) → rank phase ≡ 1 → rank (next_phase phase) ≡ 2
next_of_up Absent e = absurd (omega arith)
next_of_up Up e = refl
next_of_up Leaving e = absurd (omega arith)
next_of_up Gone e = absurd (omega arith)

pub next_of_leaving : (phase : Phase) → rank phase ≡ 2 → rank (next_phase phase) ≡ 3
next_of_leaving Absent e = absurd (omega arith)
next_of_leaving Up e = absurd (omega arith)
next_of_leaving Leaving e = refl
next_of_leaving Gone e = absurd (omega arith)

-- what isn't refused an unplug is up
unplugged_is_up : (phase : Phase) → is_absent phase ≡ false → phase_refusal phase ≡ None → rank phase ≡ 1
unplugged_is_up Absent a e = absurd (true≢false a)
unplugged_is_up Up a e = refl
unplugged_is_up Leaving a e = absurd (some_none _ e)
unplugged_is_up Gone a e = absurd (some_none _ e)

-- a place whose chip was made is among the chips
pub within_chips : (chips : List Chip) (p : ℕ) → 1 ≤ rank (chip_at chips p).phase → p < length chips
within_chips [] p h = absurd (omega arith)
within_chips (c ∷ chips) zero h = omega arith
within_chips (c ∷ chips) (suc p) h = let ih : p < length chips = within_chips chips p h in omega arith

-- the places that pass a test

-- the rows with one changed where it passes, at a place that passes and at one that doesn't
pub where_true : {X : Type 0} (test : ℕ → Bool) (f : X → X) (xs : List X) (p : ℕ) (d : X) → p < length xs → test p ≡ true → slice_index_or (change_where test f 0 xs) p d ≡ f (slice_index_or xs p d)
where_true test f xs p d lt e =
    let z : 0 + p ≡ p = omega arith in
    read_where test f 0 xs p d lt ∙ ap (λ k. cond (test k) (f (slice_index_or xs p d)) (slice_index_or xs p d)) z ∙ ap (λ b. cond b (f (slice_index_or xs p d)) (slice_index_or xs p d)) e

pub where_false : {X : Type 0} (test : ℕ → Bool) (f : X → X) (xs : List X) (p : ℕ) (d : X) → test p ≡ false → slice_index_or (change_where test f 0 xs) p d ≡ slice_index_or xs p d
where_false test f xs p d e = elim (split p (length xs)) as (λ _. slice_index_or (change_where test f 0 xs) p d ≡ slice_index_or xs p d) [
  | inl lt ↦ (let z : 0 + p ≡ p = omega arith in read_where test f 0 xs p d lt ∙ ap (λ k. cond (test k) (f (slice_index_or xs p d)) (slice_index_or xs p d)) z ∙ ap (λ b. cond b (f (slice_index_or xs p d)) (slice_index_or xs p d)) e)
  | inr le ↦ (read_past (change_where test f 0 xs) p d (subst (λ n. n ≤ p) (sym (length-change_where test f 0 xs)) le) ∙ sym (read_past xs p d le))
]
  where
    split : (a b : ℕ) → (a < b) ⊎ (b ≤ a)
    split a zero = inr (omega arith)
    split zero (suc b) = inl (omega arith)
    split (suc a) (suc b) = elim (split a b) as (λ _. (suc a < suc b) ⊎ (suc b ≤ suc a)) [ inl h ↦ inl (omega arith) | inr h ↦ inr (omega arith) ]

-- what a call does to a place

pub data Goes (w : World) (out : Outcome) (actor : ℕ) (call : Call) (p : ℕ) : Type 0 where
  Stays : stage out.world p ≡ stage w p → (stage w p ≡ 2 → origin_at out.world p ≡ origin_at w p) → Goes w out actor call p
  Comes : stage w p ≡ 0 → stage out.world p ≡ 1 → Goes w out actor call p
  Goes_away : stage w p ≡ 1 → stage out.world p ≡ 2 → (origin_at out.world p).remover ≡ Some actor → (origin_at out.world p).device ≡ (origin_at w p).device
      → Contains (begun_places call out.reply out.bytes) p → Goes w out actor call p
  Ends : stage w p ≡ 2 → stage out.world p ≡ 3 → is_last_removal call ≡ true → (origin_at w p).remover ≡ Some actor → Goes w out actor call p

goes_unless : (r : Option Errno) (w : World) (out : Outcome) (actor : ℕ) (call : Call) (p : ℕ) → (r ≡ None → Goes w out actor call p) → Goes w (refused_or r w out) actor call p
goes_unless None w out actor call p h = h refl
goes_unless (Some e) w out actor call p h = Stays refl (λ _. refl)

quiet : (w : World) (out : Outcome) (actor : ℕ) (call : Call) (p : ℕ) → board out.world ≡ board w → Goes w out actor call p
quiet w out actor call p e = Stays (ap (λ b. rank (chip_at b.0 p).phase) e) (λ _. ap (λ b. slice_index_or b.1 p no_origin) e)

-- chips that are made
ups : (chips : List Chip) (p : ℕ) → Each (λ c. c.phase ≡ Up) chips → (rank (chip_at chips p).phase ≡ 0) ⊎ (rank (chip_at chips p).phase ≡ 1)
ups [] p h = inl refl
ups (c ∷ chips) zero h = inr (ap rank h.0)
ups (c ∷ chips) (suc p) h = ups chips p h.1

comes : (old new : List Chip) (p : ℕ) → Each (λ c. c.phase ≡ Up) new
    → (rank (chip_at (old ++ new) p).phase ≡ rank (chip_at old p).phase) ⊎ ((rank (chip_at old p).phase ≡ 0) × (rank (chip_at (old ++ new) p).phase ≡ 1))
comes [] new p h = elim (ups new p h) as (λ _. (rank (chip_at new p).phase ≡ 0) ⊎ ((rank Absent ≡ 0) × (rank (chip_at new p).phase ≡ 1))) [ inl e ↦ inl e | inr e ↦ inr (refl, e) ]
comes (c ∷ old) new zero h = inl refl
comes (c ∷ old) new (suc p) h = comes old new p h

added : (w : World) (out : Outcome) (actor : ℕ) (call : Call) (p : ℕ) (chips : List Chip) (origins : List Origin) → Each (λ c. c.phase ≡ Up) chips → length w.origins ≡ length w.chips
    → out.world.chips ≡ w.chips ++ chips → out.world.origins ≡ w.origins ++ origins → Goes w out actor call p
added w out actor call p chips origins h columns is_chips is_origins = elim (comes w.chips chips p h) as (λ _. Goes w out actor call p) [
  | inl e ↦ Stays (ap (λ cs. rank (chip_at cs p).phase) is_chips ∙ e)
      (λ two. let lt : p < length w.chips = within_chips w.chips p (omega arith) in
      ap (λ os. slice_index_or os p no_origin) is_origins ∙ read_before w.origins origins p no_origin (omega arith))
  | inr e ↦ Comes e.0 (ap (λ cs. rank (chip_at cs p).phase) is_chips ∙ e.1)
]

banks_up : (banks : List TreeRow) → Each (λ (c : Chip). c.phase ≡ Up) (map chip_of_bank banks)
banks_up [] = tt
banks_up (bank ∷ banks) = (refl, banks_up banks)

-- removals

-- what becomes of a place that passes when chips that are up become Leaving
pub record Left (w v : World) (actor p : ℕ) : Type 0 where
  pub was_up : stage w p ≡ 1
  pub is_leaving_now : stage v p ≡ 2
  pub by_actor : (origin_at v p).remover ≡ Some actor
  pub same_device : (origin_at v p).device ≡ (origin_at w p).device

pub left : (test : ℕ → Bool) (actor : ℕ) (w v : World) (p : ℕ) → length w.origins ≡ length w.chips
    → v.chips ≡ (leave_at test actor w).chips → v.origins ≡ (leave_at test actor w).origins → stage w p ≡ 1 → test p ≡ true → Left w v actor p
left test actor w v p columns is_chips is_origins up e =
    let lt : p < length w.chips = within_chips w.chips p (omega arith) in
    let chip : chip_at v.chips p ≡ moved_on (chip_at w.chips p) = ap (λ cs. chip_at cs p) is_chips ∙ where_true test moved_on w.chips p no_chip lt e in
    let origin : origin_at v p ≡ removed_by actor (origin_at w p) = ap (λ os. slice_index_or os p no_origin) is_origins ∙ where_true test (removed_by actor) w.origins p no_origin (omega arith) e in
    record {
      was_up = up;
      is_leaving_now = ap (λ (c : Chip). rank c.phase) chip ∙ next_of_up (phase_at w p) up;
      by_actor = ap (λ (o : Origin). o.remover) origin;
      same_device = ap (λ (o : Origin). o.device) origin;
    }

pub not_left : (test : ℕ → Bool) (actor : ℕ) (w v : World) (p : ℕ)
    → v.chips ≡ (leave_at test actor w).chips → v.origins ≡ (leave_at test actor w).origins → test p ≡ false → (chip_at v.chips p ≡ chip_at w.chips p) × (origin_at v p ≡ origin_at w p)
not_left test actor w v p is_chips is_origins e = (
  ap (λ cs. chip_at cs p) is_chips ∙ where_false test moved_on w.chips p no_chip e,
  ap (λ os. slice_index_or os p no_origin) is_origins ∙ where_false test (removed_by actor) w.origins p no_origin e,
)

pub ended : (test : ℕ → Bool) (w v : World) (p : ℕ) → v.chips ≡ (end_at test w).chips → stage w p ≡ 2 → test p ≡ true → stage v p ≡ 3
ended test w v p is_chips leaving e =
    let lt : p < length w.chips = within_chips w.chips p (omega arith) in
    let chip : chip_at v.chips p ≡ moved_on (chip_at w.chips p) = ap (λ cs. chip_at cs p) is_chips ∙ where_true test moved_on w.chips p no_chip lt e in
    ap (λ (c : Chip). rank c.phase) chip ∙ next_of_leaving (phase_at w p) leaving

pub not_ended : (test : ℕ → Bool) (w v : World) (p : ℕ) → v.chips ≡ (end_at test w).chips → test p ≡ false → chip_at v.chips p ≡ chip_at w.chips p
not_ended test w v p is_chips e = ap (λ cs. chip_at cs p) is_chips ∙ where_false test moved_on w.chips p no_chip e

-- the places that are named

pub length-places_from : (i n : ℕ) → length (places_from i n) ≡ n
length-places_from i zero = refl
length-places_from i (suc n) = ap suc (length-places_from (i + 1) n)

pub read_places : (i n k d : ℕ) → k < n → slice_index_or (places_from i n) k d ≡ i + k
read_places i zero k d lt = absurd (omega arith)
read_places i (suc n) zero d lt = omega arith
read_places i (suc n) (suc k) d lt = let ih : slice_index_or (places_from (i + 1) n) k d ≡ (i + 1) + k = read_places (i + 1) n k d (omega arith) in omega arith

-- a place is named exactly where it is among them
pub named : (first count p : ℕ) → is_among first count p ≡ true → Contains (places_from first count) p
named first count p e =
    let low : first ≤ p = grind (arith, nat_tests) in
    let high : p < first + count = grind (arith, nat_tests) in
    let is_p : first + (p - first) ≡ p = omega arith in
    (p - first, subst (λ n. p - first < n) (sym (length-places_from first count)) (omega arith), read_places first count (p - first) p (omega arith) ∙ is_p)

pub among : (first count p : ℕ) → Contains (places_from first count) p → is_among first count p ≡ true
among first count p (k, lt, e) =
    let small : k < count = subst (λ n. k < n) (length-places_from first count) lt in
    let is_p : first + k ≡ p = sym (read_places first count k p small) ∙ e in
    grind (arith, nat_tests)

-- what passes a test that a stretch of places passes
pub filtered : (test : ℕ → Bool) (i n first count : ℕ) → ((p : ℕ) → i ≤ p → test p ≡ is_among first count p) → i ≤ first → first + count ≤ i + n → filter test (places_from i n) ≡ places_from first count
filtered test i zero first zero h low high = refl
filtered test i zero first (suc count) h low high = absurd (omega arith)
filtered test i (suc n) first zero h low high =
    let no : test i ≡ false = h i (omega arith) ∙ grind (arith, nat_tests) in
    ap (λ b. cond b (i ∷ filter test (places_from (i + 1) n)) (filter test (places_from (i + 1) n))) no
    ∙ filtered test (i + 1) n (i + 1) zero (λ p le. h p (omega arith) ∙ grind (arith, nat_tests)) (omega arith) (omega arith)
filtered test i (suc n) first (suc count) h low high = elim (first_or_not i first low) as (λ _. filter test (places_from i (suc n)) ≡ places_from first (suc count)) [
  | inl same ↦
      (let yes : test i ≡ true = h i (omega arith) ∙ grind (arith, nat_tests) in
      ap (λ b. cond b (i ∷ filter test (places_from (i + 1) n)) (filter test (places_from (i + 1) n))) yes
      ∙ ap (λ ps. i ∷ ps) (filtered test (i + 1) n (i + 1) count (λ p le. h p (omega arith) ∙ grind (arith, nat_tests)) (omega arith) (omega arith))
      ∙ ap (λ k. k ∷ places_from (k + 1) count) same)
  | inr less ↦
      (let no : test i ≡ false = h i (omega arith) ∙ grind (arith, nat_tests) in
      ap (λ b. cond b (i ∷ filter test (places_from (i + 1) n)) (filter test (places_from (i + 1) n))) no
      ∙ filtered test (i + 1) n first (suc count) (λ p le. h p (omega arith)) (omega arith) (omega arith))
]
  where
    first_or_not : (a b : ℕ) → a ≤ b → (a ≡ b) ⊎ (a < b)
    first_or_not zero zero h = inl refl
    first_or_not zero (suc b) h = inr (omega arith)
    first_or_not (suc a) zero h = absurd (omega arith)
    first_or_not (suc a) (suc b) h = elim (first_or_not a b (omega arith)) as (λ _. (suc a ≡ suc b) ⊎ (suc a < suc b)) [ inl e ↦ inl (ap suc e) | inr l ↦ inr (omega arith) ]

-- the bytes of a removal name its places
pub bytes_name : (first count : ℕ) → places_named (removal_bytes (places_from first count)) ≡ places_from first count
bytes_name first zero = refl
bytes_name first (suc count) = ap (λ n. places_from first n) (length-places_from first (suc count))

pub up_places_are : (device : List ℕ) (w : World) (row : IsSoundFor device w) → up_places device w ≡ places_from row.first row.count
up_places_are device w row = filtered (is_up_of device w) 0 (length w.chips) row.first row.count (λ p le. row.stand p) (omega arith) (let h : row.first + row.count ≤ length w.chips = row.within in omega arith)

pub named_are : (device : List ℕ) (w : World) (row : IsSoundFor device w) → places_named (removal_bytes (up_places device w)) ≡ places_from row.first row.count
named_are device w row = ap (λ ps. places_named (removal_bytes ps)) (up_places_are device w row) ∙ bytes_name row.first row.count

-- the calls that make a removal

-- an unplug that isn't refused finds its chip up, and of no device
pub unplug_finds : (w : World) (place : ℕ) → unplug_refusal place w ≡ None → (stage w place ≡ 1) × (is_outside_tree w place ≡ true)
unplug_finds w place e =
    let one = nothing_first (place_refusal place w) (first_of (when (not (is_outside_tree w place)) Perm ∷ phase_refusal (phase_at w place) ∷ [])) e in
    let two = nothing_first (when (not (is_outside_tree w place)) Perm) (first_of (phase_refusal (phase_at w place) ∷ [])) one.1 in
    let three = nothing_first (phase_refusal (phase_at w place)) None two.1 in (
      unplugged_is_up (phase_at w place) (nothing_when (is_absent (phase_at w place)) NoEnt one.0) three.0,
      not_false (is_outside_tree w place) (nothing_when (not (is_outside_tree w place)) Perm two.0),
    )

-- an actor that may not be there
pub is_that_actor : (actor : ℕ) (o : Option ℕ) → is_actor actor o ≡ true → o ≡ Some actor
is_that_actor actor None e = absurd (true≢false (sym e))
is_that_actor actor (Some other) e = ap Some (same_number other actor e)

pub actor_is : (actor : ℕ) (o : Option ℕ) → o ≡ Some actor → is_actor actor o ≡ true
actor_is actor o e = ap (is_actor actor) e ∙ eq-eqb actor actor refl

pub removed_finds : (w : World) (actor p : ℕ) → is_removing actor w p ≡ true → (stage w p ≡ 2) × ((origin_at w p).remover ≡ Some actor)
removed_finds w actor p e =
    let h = both (is_leaving (phase_at w p)) (is_actor actor (origin_at w p).remover) e in
    (is_leaving_rank (phase_at w p) h.0, is_that_actor actor (origin_at w p).remover h.1)

chosen : (b : Bool) → (b ≡ true) ⊎ (b ≡ false)
chosen true = inl refl
chosen false = inr refl

begin_unplug_goes : (w : World) (actor place p : ℕ) → length w.origins ≡ length w.chips → Goes w (step w actor (Unplug place false)) actor (Unplug place false) p
begin_unplug_goes w actor place p columns = goes_unless (unplug_refusal place w) w (unplug_begun actor place w) actor (Unplug place false) p (λ e. elim (chosen (p == place)) as (λ _. Goes w (unplug_begun actor place w) actor (Unplug place false) p) [
  | inl t ↦
      (let is_p : p ≡ place = same_number p place t in
      let l = left (λ k. k == place) actor w (leave_at (λ k. k == place) actor w) p columns refl refl (ap (stage w) is_p ∙ (unplug_finds w place e).0) t in
      Goes_away l.was_up l.is_leaving_now l.by_actor l.same_device (0, omega arith, sym is_p))
  | inr f ↦
      (let n = not_left (λ k. k == place) actor w (leave_at (λ k. k == place) actor w) p refl refl f in
      Stays (ap (λ (c : Chip). rank c.phase) n.0) (λ _. n.1))
])

end_goes : (test : ℕ → Bool) (w : World) (out : Outcome) (actor : ℕ) (call : Call) (p : ℕ) → ((k : ℕ) → test k ≡ true → is_removing actor w k ≡ true)
    → out.world.chips ≡ (end_at test w).chips → out.world.origins ≡ w.origins → is_last_removal call ≡ true → Goes w out actor call p
end_goes test w out actor call p removed is_chips is_origins last = elim (chosen (test p)) as (λ _. Goes w out actor call p) [
  | inl t ↦
      (let r = removed_finds w actor p (removed p t) in
      Ends r.0 (ended test w out.world p is_chips r.0 t) last r.1)
  | inr f ↦ Stays (ap (λ (c : Chip). rank c.phase) (not_ended test w out.world p is_chips f)) (λ _. ap (λ os. slice_index_or os p no_origin) is_origins)
]

end_unplug_goes : (w : World) (actor place p : ℕ) → Goes w (step w actor (Unplug place true)) actor (Unplug place true) p
end_unplug_goes w actor place p = goes_unless (when (not (is_unplugging actor w place)) Busy) w _ actor (Unplug place true) p (λ e.
    end_goes (λ k. k == place) w _ actor (Unplug place true) p
    (λ k t. let is_k : k ≡ place = same_number k place t in
    ap (is_removing actor w) is_k ∙ (both (is_outside_tree w place) (is_removing actor w place) (not_false (is_unplugging actor w place) (nothing_when (not (is_unplugging actor w place)) Busy e))).1)
    refl refl refl)

begin_remove_goes : (w : World) (actor : ℕ) (device : List ℕ) (p : ℕ) → IsSound w → Goes w (step w actor (Remove device false)) actor (Remove device false) p
begin_remove_goes w actor device p sound = goes_unless (remove_refusal device w.tree) w (remove_begun actor device w) actor (Remove device false) p (λ e. elim (chosen (is_up_of device w p)) as (λ _. Goes w (remove_begun actor device w) actor (Remove device false) p) [
  | inl t ↦
      (let up : stage w p ≡ 1 = is_up_rank (phase_at w p) (both (is_of device w p) (is_up (phase_at w p)) t).1 in
      let l = left (is_up_of device w) actor w (leave_at (is_up_of device w) actor w) p sound.columns refl refl up t in
      let row = sound.devices device in
      Goes_away l.was_up l.is_leaving_now l.by_actor l.same_device
      (subst (λ ps. Contains ps p) (sym (named_are device w row)) (named row.first row.count p (sym (row.stand p) ∙ t))))
  | inr f ↦
      (let n = not_left (is_up_of device w) actor w (leave_at (is_up_of device w) actor w) p refl refl f in
      Stays (ap (λ (c : Chip). rank c.phase) n.0) (λ _. n.1))
])

end_remove_goes : (w : World) (actor : ℕ) (device : List ℕ) (p : ℕ) → Goes w (step w actor (Remove device true)) actor (Remove device true) p
end_remove_goes w actor device p = goes_unless _ w (remove_ended actor device w) actor (Remove device true) p (λ e.
    end_goes (is_removing_of device actor w) w (remove_ended actor device w) actor (Remove device true) p
    (λ k t. (both (is_of device w k) (is_removing actor w k) t).1)
    refl refl refl)

pub goes : (w : World) (actor : ℕ) (call : Call) (p : ℕ) → IsSound w → Goes w (step w actor call) actor call p
goes w actor (Probe label lines kind) p sound = goes_unless _ w _ actor (Probe label lines kind) p (λ e. added w _ actor (Probe label lines kind) p (new_chip label lines ∷ []) (new_origin kind None ∷ []) (refl, tt) sound.columns refl refl)
goes w actor (Unplug place false) p sound = begin_unplug_goes w actor place p sound.columns
goes w actor (Unplug place true) p sound = end_unplug_goes w actor place p
goes w actor (MakeDir path) p sound = goes_unless _ w _ actor (MakeDir path) p (λ _. Stays refl (λ _. refl))
goes w actor (RemoveDir path) p sound = goes_unless _ w _ actor (RemoveDir path) p (λ _. Stays refl (λ _. refl))
goes w actor (Write path value) p sound = goes_unless _ w _ actor (Write path value) p (λ _. Stays refl (λ _. refl))
goes w actor (Read path) p sound = quiet w _ actor (Read path) p (read_outcome-board _ w)
goes w actor (Live device) p sound = goes_unless (live_refusal device (places_left w) w.tree) w (gone_live device w) actor (Live device) p (λ e. added w (gone_live device w) actor (Live device) p (map chip_of_bank (banks_of device w.tree)) (map (origin_of_bank device) (banks_of device w.tree)) (banks_up (banks_of device w.tree)) sound.columns refl refl)
goes w actor (Remove device false) p sound = begin_remove_goes w actor device p sound
goes w actor (Remove device true) p sound = end_remove_goes w actor device p
goes w actor (Tick mono real) p sound = quiet w _ actor (Tick mono real) p (tick-board mono real w)
goes w actor (Pin place what) p sound = quiet w _ actor (Pin place what) p (keeps _ w _ refl)
goes w actor (Irq place offset what) p sound = quiet w _ actor (Irq place offset what) p (keeps _ w _ refl)
goes w actor (Pull place offset up) p sound = quiet w _ actor (Pull place offset up) p (keeps _ w _ (raw_edge-board place offset _ _))
goes w actor (Level place offset pull) p sound = quiet w _ actor (Level place offset pull) p (keeps _ w _ refl)
goes w actor (Interrupt place offset up) p sound = quiet w _ actor (Interrupt place offset up) p (keeps _ w _ (raw_edge-board place offset _ _))
goes w actor (OpenChip word) p sound = quiet w _ actor (OpenChip word) p (open_at-board _ w)
goes w actor (Find place name) p sound = quiet w _ actor (Find place name) p (found-board _ w)
goes w actor (Ioctl place fd cmd len bytes part) p sound = quiet w _ actor (Ioctl place fd cmd len bytes part) p (ioctl-board actor place fd cmd len bytes part w)
goes w actor (ReadEdges place fd len) p sound = quiet w _ actor (ReadEdges place fd len) p (keeps _ w _ refl)
goes w actor (ReadInfo place fd len) p sound = quiet w _ actor (ReadInfo place fd len) p (keeps _ w _ refl)
goes w actor (PollLine place fd) p sound = quiet w _ actor (PollLine place fd) p (keeps _ w _ refl)
goes w actor (PollChip place fd) p sound = quiet w _ actor (PollChip place fd) p (keeps _ w _ refl)
goes w actor (Close fd) p sound = quiet w _ actor (Close fd) p (close-board fd w)
goes w actor (RefusedCall place poll) p sound = Stays refl (λ _. refl)
