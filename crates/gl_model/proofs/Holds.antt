-- No two holds are of one line.
use Rattle.std.proofs.Common.{◌≡◌, ◌+◌, ◌<◌, ℕ, zero, suc, List, [], ◌∷◌, ◌++◌, map, take, refl, sym, ap, ◌∙◌, Bool, true, false, cond, Some, arith, inl, inr}
use Rattle.std.specs.Prelude.{nat_eq, ◌==◌, ◌&&◌, ◌||◌, slice_index, slice_index_or}
use Rattle.std.specs.List.{AllByRecursion, IsDistinct, flat_map, list_any}
use Rattle.std.proofs.lemmas.Bool.{true≢false}
use Rattle.std.proofs.lemmas.Bool.Decides.{nat_tests}
use Rattle.gl_base.specs.Lines.{offsets_of}
use Rattle.gl_base.specs.Rows.{Each}
use Rattle.gl_desc.specs.Desc.{desc_at}
use Rattle.gl_desc.specs.declared.desc.Desc.{Desc}
use Rattle.gl_desc.specs.declared.desc.Holder.{Holder}
use Rattle.gl_desc.specs.declared.desc.Holder.TheVariants.{Free, Claimed, Held, Hog}
use Rattle.gl_world.specs.History.{fold_from}
use Rattle.gl_world.specs.declared.history.Entry.{Entry}
use Rattle.gl_model.specs.declared.call.Call.{Call}
use Rattle.gl_model.specs.declared.gift.Gift.{Gift}
use Rattle.gl_model.specs.declared.place.Place.{Place}
use Rattle.gl_model.specs.declared.reply.Reply.{Reply}
use Rattle.gl_model.specs.Holders.{HasItsLines, HoldersAgree, holder_at, holder_of, taken_by}
use Rattle.gl_model.specs.Holds.{HasOneHolder, Hold, OneHolder, hold_of, holds_of, hogs_at, hogs_from, is_hog, is_same_line}
use Rattle.gl_model.specs.Machine.{machine, world_of}
use Rattle.gl_model.specs.Places.{no_place, place_at}
use Rattle.gl_model.specs.SoundRequests.{HasSoundRequests, IsSoundRequest}
use Rattle.gl_model.specs.Step.{step}
use Rattle.gl_model.specs.World.{World, Request, opening}
use Rattle.gl_model.proofs.HoldersLaw.{holders_always_agree}
use Rattle.gl_model.proofs.Ledger.{equals_itself, none_some, some_is}
use Rattle.gl_model.proofs.MachineLaws.{always}
use Rattle.gl_model.proofs.Phases.{both, same_number}
use Rattle.gl_model.proofs.SoundRequests.{requests_stay_sound}
use Rattle.gl_model.proofs.Soundness.{chosen}

-- x is of no line of these
abbrev NoneIs : Hold → List Hold → Type 0
NoneIs x ys = AllByRecursion (λ y. is_same_line x y ≡ false) ys

none_append : (x : Hold) (ys zs : List Hold) → NoneIs x ys → NoneIs x zs → NoneIs x (ys ++ zs)
none_append x [] zs h k = k
none_append x (y ∷ ys) zs h k = (h.0, none_append x ys zs h.1 k)

distinct_append : (xs ys : List Hold) → IsDistinct is_same_line xs → IsDistinct is_same_line ys → Each (λ x. NoneIs x ys) xs → IsDistinct is_same_line (xs ++ ys)
unfolding IsDistinct
distinct_append [] ys dx dy apart = dy
distinct_append (x ∷ xs) ys dx dy apart = (none_append x xs ys dx.0 apart.0, distinct_append xs ys dx.1 dy apart.1)

each_append : (P : Hold → Type 0) (xs ys : List Hold) → Each P xs → Each P ys → Each P (xs ++ ys)
each_append P [] ys h k = k
each_append P (x ∷ xs) ys h k = (h.0, each_append P xs ys h.1 k)

each_mono : (P Q : Hold → Type 0) (xs : List Hold) → ((x : Hold) → P x → Q x) → Each P xs → Each Q xs
each_mono P Q [] f h = tt
each_mono P Q (x ∷ xs) f h = (f x h.0, each_mono P Q xs f h.1)

-- A line has one row in the table of its chip, so holds of one line that the tables tell have one holder.

abbrev IsTold : World → Hold → Type 0
IsTold w hold = holder_at w hold.place hold.offset ≡ hold.holder

one_line : (w : World) (x y : Hold) → IsTold w x → IsTold w y → is_same_line x y ≡ true → x.holder ≡ y.holder
one_line w x y told_x told_y same =
    let two = both (x.place == y.place) (x.offset == y.offset) same in
    sym told_x ∙ ap (λ p. holder_at w p x.offset) (same_number x.place y.place two.0) ∙ ap (holder_at w y.place) (same_number x.offset y.offset two.1) ∙ told_y

apart_from : (w : World) (x : Hold) (ys : List Hold) → IsTold w x → Each (λ y. IsTold w y × (x.holder ≡ y.holder → ⊥)) ys → NoneIs x ys
apart_from w x [] told h = tt
apart_from w x (y ∷ ys) told h = (
  elim (chosen (is_same_line x y)) as (λ _. is_same_line x y ≡ false) [ inl same ↦ absurd (h.0.1 (one_line w x y told h.0.0 same)) | inr other ↦ other ],
  apart_from w x ys told h.1,
)

-- the lines of one request

none_same : (o : ℕ) (os : List ℕ) (n : ℕ) → ((j : ℕ) → j < n → o ≡ slice_index os j → ⊥) → AllByRecursion (λ y. nat_eq o y ≡ false) (take n os)
none_same o [] zero apart = tt
none_same o [] (suc n) apart = tt
none_same o (x ∷ os) zero apart = tt
none_same o (x ∷ os) (suc n) apart = (
  elim (chosen (nat_eq o x)) as (λ _. nat_eq o x ≡ false) [ inl same ↦ absurd (apart 0 (omega arith) (same_number o x same)) | inr other ↦ other ],
  none_same o os n (λ j lt e. apart (suc j) (omega arith) e),
)

pub offsets_differ : (os : List ℕ) (n : ℕ) → ((i j : ℕ) → i < n → j < n → slice_index os i ≡ slice_index os j → i ≡ j) → IsDistinct nat_eq (take n os)
unfolding IsDistinct
offsets_differ [] zero differ = tt
offsets_differ [] (suc n) differ = tt
offsets_differ (o ∷ os) zero differ = tt
offsets_differ (o ∷ os) (suc n) differ = (
  none_same o os n (λ j lt e. let same : 0 ≡ suc j = differ 0 (suc j) (omega arith) (omega arith) e in absurd (omega arith)),
  offsets_differ os n (λ i j lt less e. let same : suc i ≡ suc j = differ (suc i) (suc j) (omega arith) (omega arith) e in omega arith),
)

other_line : (places : List Place) (place : ℕ) (holder : Holder) (o : ℕ) (os : List ℕ) → AllByRecursion (λ y. nat_eq o y ≡ false) os
    → NoneIs (hold_of places place holder o) (map (hold_of places place holder) os)
other_line places place holder o [] apart = tt
other_line places place holder o (x ∷ os) apart = (
  elim (place == place) as (λ b. (b && nat_eq o x) ≡ false) [ true ↦ apart.0 | false ↦ refl ],
  other_line places place holder o os apart.1,
)

own_apart : (places : List Place) (place : ℕ) (holder : Holder) (os : List ℕ) → IsDistinct nat_eq os → IsDistinct is_same_line (map (hold_of places place holder) os)
unfolding IsDistinct
own_apart places place holder [] d = tt
own_apart places place holder (o ∷ os) d = (other_line places place holder o os d.0, own_apart places place holder os d.1)

-- what the tables tell of the lines of a request

each_member : (P : ℕ → Type 0) (os : List ℕ) → ((o : ℕ) → list_any (nat_eq o) os ≡ true → P o) → Each P os
each_member P [] h = tt
each_member P (o ∷ os) h = (
  h o (ap (λ b. b || list_any (nat_eq o) os) (equals_itself o)),
  each_member P os (λ x any. h x (elim (nat_eq x o) as (λ b. (b || list_any (nat_eq x) os) ≡ true) [ true ↦ refl | false ↦ any ])),
)

each_hold : (P : Hold → Type 0) (f : ℕ → Hold) (os : List ℕ) → Each (λ o. P (f o)) os → Each P (map f os)
each_hold P f [] h = tt
each_hold P f (o ∷ os) h = (h.0, each_hold P f os h.1)

-- holds that the tables tell, of this holder
abbrev AreOf : World → Holder → List Hold → Type 0
AreOf w holder = Each (λ y. IsTold w y × (y.holder ≡ holder))

told_of : (w : World) (request : Request) → HasItsLines w request → AreOf w (holder_of request) (holds_of w.places request)
told_of w request has =
    each_hold (λ y. IsTold w y × (y.holder ≡ holder_of request)) (hold_of w.places request.place (holder_of request)) (offsets_of request.lines)
    (each_member (λ o. (holder_at w request.place o ≡ holder_of request) × (holder_of request ≡ holder_of request)) (offsets_of request.lines) (λ o any. ((has o any).1, refl)))

-- holds that the tables tell, none of this holder
abbrev AreNotOf : World → Holder → List Hold → Type 0
AreNotOf w holder = Each (λ y. IsTold w y × (holder ≡ y.holder → ⊥))

not_of : (w : World) (holder other : Holder) (ys : List Hold) → (holder ≡ other → ⊥) → AreOf w other ys → AreNotOf w holder ys
not_of w holder other ys ne are =
    each_mono (λ y. IsTold w y × (y.holder ≡ other)) (λ y. IsTold w y × (holder ≡ y.holder → ⊥)) ys (λ y h. (h.0, λ e. ne (e ∙ h.1))) are

all_apart : (w : World) (holder : Holder) (xs ys : List Hold) → AreOf w holder xs → AreNotOf w holder ys → Each (λ x. NoneIs x ys) xs
all_apart w holder xs ys are nots =
    each_mono (λ x. IsTold w x × (x.holder ≡ holder)) (λ x. NoneIs x ys) xs
    (λ x h. apart_from w x ys h.0 (each_mono (λ y. IsTold w y × (holder ≡ y.holder → ⊥)) (λ y. IsTold w y × (x.holder ≡ y.holder → ⊥)) ys (λ y k. (k.0, λ e. k.1 (sym h.1 ∙ e))) nots)) are

-- two requests

number_taken : (request : Request) → taken_by (holder_of request) ≡ Some request.fd
number_taken request = elim request.held as (λ b. taken_by (cond b (Held request.fd) (Claimed request.fd)) ≡ Some request.fd) [ true ↦ refl | false ↦ refl ]

holders_differ : (x y : Request) → nat_eq x.fd y.fd ≡ false → holder_of x ≡ holder_of y → ⊥
holders_differ x y ne e =
    let same : x.fd ≡ y.fd = some_is x.fd y.fd (sym (number_taken x) ∙ ap taken_by e ∙ number_taken y) in
    true≢false (sym (equals_itself x.fd) ∙ ap (nat_eq x.fd) same ∙ ne)

others_not : (w : World) (x : Request) (rows : List Request) (files : List ℕ) → AllByRecursion (λ n. nat_eq x.fd n ≡ false) (map (λ (request : Request). request.fd) rows ++ files)
    → Each (HasItsLines w) rows → AreNotOf w (holder_of x) (flat_map (holds_of w.places) rows)
others_not w x [] files ne has = tt
others_not w x (y ∷ rows) files ne has =
    each_append (λ h. IsTold w h × (holder_of x ≡ h.holder → ⊥)) (holds_of w.places y) (flat_map (holds_of w.places) rows)
    (not_of w (holder_of x) (holder_of y) (holds_of w.places y) (holders_differ x y ne.0) (told_of w y has.0)) (others_not w x rows files ne.1 has.1)

requests_apart : (w : World) (rows : List Request) (files : List ℕ) → IsDistinct nat_eq (map (λ (request : Request). request.fd) rows ++ files)
    → Each (HasItsLines w) rows → Each IsSoundRequest rows → IsDistinct is_same_line (flat_map (holds_of w.places) rows)
unfolding IsDistinct
requests_apart w [] files d has sound = tt
requests_apart w (x ∷ rows) files d has sound =
    distinct_append (holds_of w.places x) (flat_map (holds_of w.places) rows)
    (own_apart w.places x.place (holder_of x) (offsets_of x.lines) (offsets_differ x.lines.offsets x.lines.count sound.0.lines_differ))
    (requests_apart w rows files d.1 has.1 sound.1)
    (all_apart w (holder_of x) (holds_of w.places x) (flat_map (holds_of w.places) rows) (told_of w x has.0) (others_not w x rows files d.0 has.1))

-- the hogs: each is another line of the tables

right_false : (a b : Bool) → b ≡ false → (a && b) ≡ false
right_false true b e = e
right_false false b e = refl

left_false : (a b : Bool) → a ≡ false → (a && b) ≡ false
left_false a b e = ap (λ x. x && b) e

abbrev hog : ℕ → ℕ → Desc → Hold
hog place offset line = record { place = place; offset = offset; consumer = line.consumer; holder = Hog }

later : (x : Hold) (place k : ℕ) (lines : List Desc) → x.offset < k → NoneIs x (hogs_from place k lines)
later x place k [] lt = tt
later x place k (line ∷ lines) lt = elim (is_hog line.holder) as (λ b. NoneIs x (cond b (hog place k line ∷ hogs_from place (k + 1) lines) (hogs_from place (k + 1) lines))) [
  | true ↦ (let ne : (x.offset == k) ≡ false = grind (arith, nat_tests) in right_false (x.place == place) (x.offset == k) ne, later x place (k + 1) lines (omega arith))
  | false ↦ later x place (k + 1) lines (omega arith)
]

elsewhere : (x : Hold) (place k : ℕ) (lines : List Desc) → x.place < place → NoneIs x (hogs_from place k lines)
elsewhere x place k [] lt = tt
elsewhere x place k (line ∷ lines) lt = elim (is_hog line.holder) as (λ b. NoneIs x (cond b (hog place k line ∷ hogs_from place (k + 1) lines) (hogs_from place (k + 1) lines))) [
  | true ↦ (let ne : (x.place == place) ≡ false = grind (arith, nat_tests) in left_false (x.place == place) (x.offset == k) ne, elsewhere x place (k + 1) lines lt)
  | false ↦ elsewhere x place (k + 1) lines lt
]

in_later_places : (x : Hold) (place : ℕ) (places : List Place) → x.place < place → NoneIs x (hogs_at place places)
in_later_places x place [] lt = tt
in_later_places x place (tables ∷ places) lt =
    none_append x (hogs_from place 0 tables.descs) (hogs_at (place + 1) places) (elsewhere x place 0 tables.descs lt) (in_later_places x (place + 1) places (omega arith))

hogs_apart : (place k : ℕ) (lines : List Desc) → IsDistinct is_same_line (hogs_from place k lines)
unfolding IsDistinct
hogs_apart place k [] = tt
hogs_apart place k (line ∷ lines) = elim (is_hog line.holder) as (λ b. IsDistinct is_same_line (cond b (hog place k line ∷ hogs_from place (k + 1) lines) (hogs_from place (k + 1) lines))) [
  | true ↦ (later (hog place k line) place (k + 1) lines (omega arith), hogs_apart place (k + 1) lines)
  | false ↦ hogs_apart place (k + 1) lines
]

before_places : (place k : ℕ) (lines : List Desc) (places : List Place) → Each (λ x. NoneIs x (hogs_at (place + 1) places)) (hogs_from place k lines)
before_places place k [] places = tt
before_places place k (line ∷ lines) places = elim (is_hog line.holder) as (λ b. Each (λ x. NoneIs x (hogs_at (place + 1) places)) (cond b (hog place k line ∷ hogs_from place (k + 1) lines) (hogs_from place (k + 1) lines))) [
  | true ↦ (in_later_places (hog place k line) (place + 1) places (omega arith), before_places place (k + 1) lines places)
  | false ↦ before_places place (k + 1) lines places
]

all_hogs_apart : (place : ℕ) (places : List Place) → IsDistinct is_same_line (hogs_at place places)
unfolding IsDistinct
all_hogs_apart place [] = tt
all_hogs_apart place (tables ∷ places) =
    distinct_append (hogs_from place 0 tables.descs) (hogs_at (place + 1) places) (hogs_apart place 0 tables.descs) (all_hogs_apart (place + 1) places) (before_places place 0 tables.descs places)

-- and the tables tell each hog

is_hog_then : (holder : Holder) → is_hog holder ≡ true → holder ≡ Hog
is_hog_then Free e = absurd (true≢false (sym e))
is_hog_then (Claimed fd) e = absurd (true≢false (sym e))
is_hog_then (Held fd) e = absurd (true≢false (sym e))
is_hog_then Hog e = refl

told_hogs_from : (w : World) (place k : ℕ) (lines : List Desc) → ((i : ℕ) → holder_at w place (k + i) ≡ (desc_at lines i).holder) → AreOf w Hog (hogs_from place k lines)
told_hogs_from w place k [] look = tt
told_hogs_from w place k (line ∷ lines) look =
    let rest : AreOf w Hog (hogs_from place (k + 1) lines) =
    told_hogs_from w place (k + 1) lines (λ i. let next : k + 1 + i ≡ k + suc i = omega arith in ap (holder_at w place) next ∙ look (suc i)) in
    let here : k ≡ k + 0 = omega arith in
    elim (is_hog line.holder) as (λ b. is_hog line.holder ≡ b → AreOf w Hog (cond b (hog place k line ∷ hogs_from place (k + 1) lines) (hogs_from place (k + 1) lines))) [
      | true ↦ (λ is. ((ap (holder_at w place) here ∙ look 0 ∙ is_hog_then line.holder is, refl), rest))
      | false ↦ (λ _. rest)
    ] refl

told_hogs_at : (w : World) (place : ℕ) (places : List Place) → ((i : ℕ) → place_at w (place + i) ≡ slice_index_or places i no_place) → AreOf w Hog (hogs_at place places)
told_hogs_at w place [] look = tt
told_hogs_at w place (tables ∷ places) look =
    let here : place ≡ place + 0 = omega arith in
    each_append (λ y. IsTold w y × (y.holder ≡ Hog)) (hogs_from place 0 tables.descs) (hogs_at (place + 1) places)
    (told_hogs_from w place 0 tables.descs (λ i. let same : 0 + i ≡ i = omega arith in ap (holder_at w place) same ∙ ap (λ (t : Place). (desc_at t.descs i).holder) (ap (place_at w) here ∙ look 0)))
    (told_hogs_at w (place + 1) places (λ i. let next : place + 1 + i ≡ place + suc i = omega arith in ap (place_at w) next ∙ look (suc i)))

-- a request is no hog
no_hog : (request : Request) → Hog ≡ holder_of request → ⊥
no_hog request e = none_some request.fd (ap taken_by e ∙ number_taken request)

none_hogs : (w : World) (rows : List Request) → Each (HasItsLines w) rows → AreNotOf w Hog (flat_map (holds_of w.places) rows)
none_hogs w [] has = tt
none_hogs w (x ∷ rows) has =
    each_append (λ h. IsTold w h × (Hog ≡ h.holder → ⊥)) (holds_of w.places x) (flat_map (holds_of w.places) rows)
    (not_of w Hog (holder_of x) (holds_of w.places x) (no_hog x) (told_of w x has.0)) (none_hogs w rows has.1)

-- so no two holds are of one line

pub has_one_holder : (w : World) → HoldersAgree w → HasSoundRequests w → HasOneHolder w
has_one_holder w agree sound =
    let requests : List Hold = flat_map (holds_of w.places) w.requests in
    distinct_append (hogs_at 0 w.places) requests (all_hogs_apart 0 w.places)
    (requests_apart w w.requests (map (λ file. file.fd) w.files) agree.numbers_differ agree.requests_have sound)
    (all_apart w Hog (hogs_at 0 w.places) requests (told_hogs_at w 0 w.places (λ i. let same : 0 + i ≡ i = omega arith in ap (place_at w) same)) (none_hogs w w.requests agree.requests_have))

module _ {K : Type 0} (stands_for : K → World → Type 0) where
  all_sound : (w : World) (history : List (Entry K Call Reply Gift)) → HasSoundRequests w → HasSoundRequests (fold_from (machine stands_for) w history)
  all_sound w [] sound = sound
  all_sound w (e ∷ history) sound = all_sound (step w e.actor e.call).world history (requests_stay_sound.stay w e.actor e.call sound)

  pub one_holder : OneHolder stands_for
  one_holder = always stands_for (λ history. HasOneHolder (world_of stands_for history))
      (λ history legal. has_one_holder (world_of stands_for history) (holders_always_agree stands_for history legal) (all_sound opening history requests_stay_sound.opens))
