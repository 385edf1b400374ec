-- Each way in which requests, chip files and lines change keeps them agreeing on who has which line.
use Rattle.std.proofs.Common.{◌≡◌, ◌+◌, ◌<◌, ℕ, List, [], ◌∷◌, ◌++◌, length, map, refl, sym, ap, ◌∙◌, subst, Bool, true, false, cond, Some, arith, inl, inr}
use Rattle.std.specs.Prelude.{nat_eq, ◌==◌, ◌&&◌, slice_index_or}
use Rattle.std.specs.List.{AllByRecursion, IsDistinct, find, list_any}
use Rattle.std.proofs.lemmas.Bool.{true≢false}
use Rattle.gl_base.specs.Positions.{change_at, change_each}
use Rattle.gl_base.specs.Rows.{change_first, without_first}
use Rattle.gl_desc.specs.Desc.{claimed, first_desc, freed, is_free, settled, settled_holder}
use Rattle.gl_desc.specs.declared.desc.Desc.{Desc}
use Rattle.gl_desc.specs.declared.desc.Holder.{Holder}
use Rattle.gl_desc.specs.declared.desc.Holder.TheVariants.{Free, Claimed, Held, Hog}
use Rattle.gl_watch.specs.declared.file.ChipFile.{ChipFile}
use Rattle.gl_model.specs.Holders.{taken_by}
use Rattle.gl_model.proofs.Ledger.{Agrees, HasSeat, Ledger, NobodyHas, Seat, all_insert, all_mono, all_push, all_without_file, all_without_seat, distinct_insert, distinct_push}
use Rattle.gl_model.proofs.Ledger.{distinct_without_file, distinct_without_seat, each_changed, each_found, each_map, each_pushed, each_without, equals_itself, file_number, find_without}
use Rattle.gl_model.proofs.Ledger.{free_holds_not, holder_in, holder_touched, holder_untouched, is_seat, more_tables, none_some, numbers_in, numbers_pushed, seat_holder, seat_number}
use Rattle.gl_model.proofs.Ledger.{seat_taken_by, some_is, touched_before, touched_by, touched_changed, touched_last, touches}
use Rattle.gl_model.proofs.Phases.{same_number}
use Rattle.gl_model.proofs.Soundness.{chosen}

-- the tables with the lines of a seat changed
abbrev pub tables_with : (Desc → Desc) → Seat → List (List Desc) → List (List Desc)
tables_with f s tables = change_at [] s.place (change_each first_desc s.offsets f) tables

abbrev taken : ℕ → Holder → Holder
taken fd holder = Claimed fd

abbrev let_go : Holder → Holder
let_go holder = Free

-- a seat that had its lines still has them where none of them is touched
kept_seat : (tables after : List (List Desc)) (s x : Seat) → ((place offset : ℕ) → touches s place offset ≡ false → holder_in after place offset ≡ holder_in tables place offset)
    → ((offset : ℕ) → list_any (nat_eq offset) x.offsets ≡ true → touches s x.place offset ≡ true → ⊥) → HasSeat tables x → HasSeat after x
kept_seat tables after s x same apart has offset any = elim (chosen (touches s x.place offset)) as (λ _. holder_in after x.place offset ≡ seat_holder x) [
  | inl t ↦ absurd (apart offset any t)
  | inr f ↦ same x.place offset f ∙ has offset any
]

-- the lines that a seat touches are its own
own : (tables : List (List Desc)) (s : Seat) → HasSeat tables s → (place offset : ℕ) → touches s place offset ≡ true → holder_in tables place offset ≡ seat_holder s
own tables s has place offset t = elim (s.place == place) as (λ b. (s.place == place) ≡ b → (b && list_any (nat_eq offset) s.offsets) ≡ true → holder_in tables place offset ≡ seat_holder s) [
  | true ↦ (λ e any. subst (λ k. holder_in tables k offset ≡ seat_holder s) (same_number s.place place e) (has offset any))
  | false ↦ (λ _ no. absurd (true≢false (sym no)))
] refl t

-- two seats of different numbers touch no line both
pub apart : (tables : List (List Desc)) (s x : Seat) → HasSeat tables s → HasSeat tables x → is_seat s.fd x ≡ false → (offset : ℕ) → list_any (nat_eq offset) x.offsets ≡ true → touches s x.place offset ≡ true → ⊥
apart tables s x has_s has_x ne offset any t =
    let same : seat_holder s ≡ seat_holder x = sym (own tables s has_s x.place offset t) ∙ has_x offset any in
    let number : s.fd ≡ x.fd = some_is s.fd x.fd (sym (seat_taken_by s) ∙ ap taken_by same ∙ seat_taken_by x) in
    true≢false (sym (equals_itself s.fd) ∙ ap (λ k. nat_eq k s.fd) number ∙ ne)

-- a chip file more

abbrev pub opened : Ledger → Ledger
opened l = record l { files = l.files ++ l.next ∷ []; next = l.next + 1 }

pub opened_agrees : (l : Ledger) → Agrees l → Agrees (opened l)
opened_agrees l a = record {
  differ = distinct_push l.next (map seat_number l.seats) l.files a.below a.differ;
  below = all_push (λ n. n < l.next + 1) l.next (map seat_number l.seats) l.files (omega arith) (all_mono (λ n. n < l.next) (λ n. n < l.next + 1) (numbers_in l) (λ n lt. omega arith) a.below);
  had = a.had;
  named = a.named;
}

-- a chip file less

pub file_closed_agrees : (l : Ledger) (files : List ChipFile) (test : ChipFile → Bool) → l.files ≡ map file_number files → Agrees l → Agrees (record l { files = map file_number (without_first test files) })
file_closed_agrees l files test e a = record {
  differ = distinct_without_file test (map seat_number l.seats) files (subst (λ fs. IsDistinct nat_eq (map seat_number l.seats ++ fs)) e a.differ);
  below = all_without_file (λ n. n < l.next) test (map seat_number l.seats) files (subst (λ fs. AllByRecursion (λ n. n < l.next) (map seat_number l.seats ++ fs)) e a.below);
  had = a.had;
  named = a.named;
}

-- more tables

abbrev pub extended : List (List Desc) → Ledger → Ledger
extended more l = record l { tables = l.tables ++ more }

pub extended_agrees : (more : List (List Desc)) (l : Ledger) → NobodyHas more → Agrees l → Agrees (extended more l)
extended_agrees more l nobody a = record {
  differ = a.differ;
  below = a.below;
  had = each_map (HasSeat l.tables) (HasSeat (l.tables ++ more)) l.seats (λ x has offset any. elim (more_tables l.tables more x.place offset nobody) as (λ _. holder_in (l.tables ++ more) x.place offset ≡ seat_holder x) [
    | inl same ↦ same ∙ has offset any
    | inr past ↦ absurd (free_holds_not x (ap is_free (sym (has offset any) ∙ past.1)))
  ]) a.had;
  named = λ place offset fd e. elim (more_tables l.tables more place offset nobody) as (λ _. touched_by place offset (find (is_seat fd) l.seats) ≡ true) [
    | inl same ↦ a.named place offset fd (ap taken_by (sym same) ∙ e)
    | inr past ↦ absurd (none_some fd (sym past.0 ∙ e))
  ];
}

-- a claim

abbrev pub with_claim : List ℕ → Seat → Ledger → Ledger
with_claim consumer s l = record l {
  seats = l.seats ++ s ∷ [];
  next = l.next + 1;
  tables = tables_with (claimed s.fd consumer) s l.tables;
}

pub claim_agrees : (consumer : List ℕ) (s : Seat) (l : Ledger) → s.fd ≡ l.next → s.held ≡ false
    → ((offset : ℕ) → list_any (nat_eq offset) s.offsets ≡ true → (offset < length (slice_index_or l.tables s.place [])) × (is_free (holder_in l.tables s.place offset) ≡ true))
    → Agrees l → Agrees (with_claim consumer s l)
claim_agrees consumer s l new unheld free a = record {
  differ = subst (IsDistinct nat_eq) (sym (numbers_pushed l.seats s l.files)) (distinct_insert s.fd (map seat_number l.seats) l.files low a.differ);
  below = subst (AllByRecursion (λ n. n < l.next + 1)) (sym (numbers_pushed l.seats s l.files))
      (all_insert (λ n. n < l.next + 1) s.fd (map seat_number l.seats) l.files (omega arith) (all_mono (λ n. n < l.next) (λ n. n < l.next + 1) (numbers_in l) (λ n lt. omega arith) a.below));
  had = each_pushed (HasSeat l.tables) (HasSeat (tables_with (claimed s.fd consumer) s l.tables)) l.seats s
      (λ x has. kept_seat l.tables (tables_with (claimed s.fd consumer) s l.tables) s x untouched
      (λ offset any t. free_holds_not x (ap is_free (sym (has offset any)) ∙ free_at x.place offset t)) has)
      (λ offset any. touched s.place offset (ap (λ b. b && list_any (nat_eq offset) s.offsets) (equals_itself s.place) ∙ any) ∙ sym (ap (λ b. cond b (Held s.fd) (Claimed s.fd)) unheld))
      a.had;
  named = λ place offset fd e. elim (chosen (touches s place offset)) as (λ _. touched_by place offset (find (is_seat fd) (l.seats ++ s ∷ [])) ≡ true) [
    | inl t ↦
        (let number : s.fd ≡ fd = some_is s.fd fd (ap taken_by (sym (touched place offset t)) ∙ e) in
        subst (λ k. touched_by place offset (find (is_seat k) (l.seats ++ s ∷ [])) ≡ true) number (touched_last place offset s l.seats l.files low ∙ t))
    | inr other_line ↦ touched_before place offset fd s l.seats (a.named place offset fd (ap taken_by (sym (untouched place offset other_line)) ∙ e))
  ];
}
  where
    untouched : (place offset : ℕ) → touches s place offset ≡ false → holder_in (tables_with (claimed s.fd consumer) s l.tables) place offset ≡ holder_in l.tables place offset
    untouched = holder_untouched (claimed s.fd consumer) (taken s.fd) (λ line. refl) (λ h. refl) l.tables s

    low : AllByRecursion (λ n. n < s.fd) (numbers_in l)
    low = subst (λ k. AllByRecursion (λ n. n < k) (numbers_in l)) (sym new) a.below

    at_its_place : (P : ℕ → ℕ → Type 0) → ((offset : ℕ) → list_any (nat_eq offset) s.offsets ≡ true → P s.place offset) → (place offset : ℕ) → touches s place offset ≡ true → P place offset
    at_its_place P h place offset t = elim (s.place == place) as (λ b. (s.place == place) ≡ b → (b && list_any (nat_eq offset) s.offsets) ≡ true → P place offset) [
      | true ↦ (λ e any. subst (λ k. P k offset) (same_number s.place place e) (h offset any))
      | false ↦ (λ _ no. absurd (true≢false (sym no)))
    ] refl t

    free_at : (place offset : ℕ) → touches s place offset ≡ true → is_free (holder_in l.tables place offset) ≡ true
    free_at = at_its_place (λ place offset. is_free (holder_in l.tables place offset) ≡ true) (λ offset any. (free offset any).1)

    within : (place offset : ℕ) → touches s place offset ≡ true → offset < length (slice_index_or l.tables place [])
    within = at_its_place (λ place offset. offset < length (slice_index_or l.tables place [])) (λ offset any. (free offset any).0)

    touched : (place offset : ℕ) → touches s place offset ≡ true → holder_in (tables_with (claimed s.fd consumer) s l.tables) place offset ≡ Claimed s.fd
    touched place offset t = holder_touched (claimed s.fd consumer) (taken s.fd) (λ line. refl) (λ h. refl) l.tables s place offset t (λ le. let lt = within place offset t in absurd (omega arith))

-- a claim that is finished

abbrev pub seat_held : Seat → Seat
seat_held s = record s { held = true }

abbrev pub with_hold : Seat → Ledger → Ledger
with_hold s l = record l {
  seats = change_first (is_seat s.fd) seat_held l.seats;
  tables = tables_with settled s l.tables;
}

same_numbers : (n : ℕ) (seats : List Seat) → map seat_number (change_first (is_seat n) seat_held seats) ≡ map seat_number seats
same_numbers n [] = refl
same_numbers n (x ∷ seats) = elim (is_seat n x) as (λ b. map seat_number (cond b (seat_held x ∷ seats) (x ∷ change_first (is_seat n) seat_held seats)) ≡ map seat_number (x ∷ seats)) [
  | true ↦ refl
  | false ↦ ap (λ ns. x.fd ∷ ns) (same_numbers n seats)
]

settles_again : (h : Holder) → settled_holder (settled_holder h) ≡ settled_holder h
settles_again Free = refl
settles_again (Claimed fd) = refl
settles_again (Held fd) = refl
settles_again Hog = refl

settles_number : (h : Holder) → taken_by (settled_holder h) ≡ taken_by h
settles_number Free = refl
settles_number (Claimed fd) = refl
settles_number (Held fd) = refl
settles_number Hog = refl

seat_settles : (s : Seat) → settled_holder (seat_holder s) ≡ Held s.fd
seat_settles s = elim s.held as (λ b. settled_holder (cond b (Held s.fd) (Claimed s.fd)) ≡ Held s.fd) [ true ↦ refl | false ↦ refl ]

pub hold_agrees : (s : Seat) (l : Ledger) → find (is_seat s.fd) l.seats ≡ Some s → Agrees l → Agrees (with_hold s l)
hold_agrees s l found a = record {
  differ = subst (λ ns. IsDistinct nat_eq (ns ++ l.files)) (sym (same_numbers s.fd l.seats)) a.differ;
  below = subst (λ ns. AllByRecursion (λ n. n < l.next) (ns ++ l.files)) (sym (same_numbers s.fd l.seats)) a.below;
  had = each_changed (HasSeat l.tables) (HasSeat (tables_with settled s l.tables)) s.fd seat_held s l.seats l.files found a.differ
      (λ x ne has. kept_seat l.tables (tables_with settled s l.tables) s x untouched (apart l.tables s x has_s has ne) has)
      (λ has offset any. touched s.place offset (ap (λ b. b && list_any (nat_eq offset) s.offsets) (equals_itself s.place) ∙ any) ∙ ap settled_holder (has offset any) ∙ seat_settles s)
      a.had;
  named = λ place offset fd e. touched_changed place offset fd s.fd seat_held l.seats (λ x. refl) (λ x. refl) ∙ a.named place offset fd (sym (number place offset) ∙ e);
}
  where
    untouched : (place offset : ℕ) → touches s place offset ≡ false → holder_in (tables_with settled s l.tables) place offset ≡ holder_in l.tables place offset
    untouched = holder_untouched settled settled_holder (λ line. refl) settles_again l.tables s

    has_s : HasSeat l.tables s
    has_s = each_found (HasSeat l.tables) (is_seat s.fd) s l.seats found a.had

    touched : (place offset : ℕ) → touches s place offset ≡ true → holder_in (tables_with settled s l.tables) place offset ≡ settled_holder (holder_in l.tables place offset)
    touched place offset t = holder_touched settled settled_holder (λ line. refl) settles_again l.tables s place offset t (λ le. refl)

    number : (place offset : ℕ) → taken_by (holder_in (tables_with settled s l.tables) place offset) ≡ taken_by (holder_in l.tables place offset)
    number place offset = elim (chosen (touches s place offset)) as (λ _. taken_by (holder_in (tables_with settled s l.tables) place offset) ≡ taken_by (holder_in l.tables place offset)) [
      | inl t ↦ ap taken_by (touched place offset t) ∙ settles_number (holder_in l.tables place offset)
      | inr other_line ↦ ap taken_by (untouched place offset other_line)
    ]

-- a request that is gone

abbrev pub without_seat : Seat → Ledger → Ledger
without_seat s l = record l {
  seats = without_first (is_seat s.fd) l.seats;
  tables = tables_with freed s l.tables;
}

pub gone_agrees : (s : Seat) (l : Ledger) → find (is_seat s.fd) l.seats ≡ Some s → Agrees l → Agrees (without_seat s l)
gone_agrees s l found a = record {
  differ = distinct_without_seat (is_seat s.fd) l.seats l.files a.differ;
  below = all_without_seat (λ n. n < l.next) (is_seat s.fd) l.seats l.files a.below;
  had = each_without (HasSeat l.tables) (HasSeat (tables_with freed s l.tables)) s.fd l.seats l.files a.differ
      (λ x ne has. kept_seat l.tables (tables_with freed s l.tables) s x untouched (apart l.tables s x has_s has ne) has)
      a.had;
  named = λ place offset fd e. elim (chosen (touches s place offset)) as (λ _. touched_by place offset (find (is_seat fd) (without_first (is_seat s.fd) l.seats)) ≡ true) [
    | inl t ↦ absurd (none_some fd (ap taken_by (sym (touched place offset t)) ∙ e))
    | inr other_line ↦
        (let before : touched_by place offset (find (is_seat fd) l.seats) ≡ true = a.named place offset fd (ap taken_by (sym (untouched place offset other_line)) ∙ e) in
        elim (chosen (nat_eq fd s.fd)) as (λ _. touched_by place offset (find (is_seat fd) (without_first (is_seat s.fd) l.seats)) ≡ true) [
          | inl is ↦ absurd (true≢false (sym (subst (λ k. touched_by place offset (find (is_seat k) l.seats) ≡ true) (same_number fd s.fd is) before) ∙ ap (touched_by place offset) found ∙ other_line))
          | inr other ↦ ap (touched_by place offset) (find_without fd s.fd l.seats other) ∙ before
        ])
  ];
}
  where
    untouched : (place offset : ℕ) → touches s place offset ≡ false → holder_in (tables_with freed s l.tables) place offset ≡ holder_in l.tables place offset
    untouched = holder_untouched freed let_go (λ line. refl) (λ h. refl) l.tables s

    has_s : HasSeat l.tables s
    has_s = each_found (HasSeat l.tables) (is_seat s.fd) s l.seats found a.had

    touched : (place offset : ℕ) → touches s place offset ≡ true → holder_in (tables_with freed s l.tables) place offset ≡ Free
    touched place offset t = holder_touched freed let_go (λ line. refl) (λ h. refl) l.tables s place offset t (λ le. refl)
