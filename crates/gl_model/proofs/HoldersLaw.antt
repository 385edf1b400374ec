-- Requests and lines agree in each world that a history leads to, and so no line is shared.
use Rattle.std.proofs.Common.{◌≡◌, ◌<◌, ℕ, List, [], ◌∷◌, ◌++◌, map, refl, sym, ap, ◌∙◌, subst, Bool, true, false, Option, Some, None, arith, inl, inr}
use Rattle.std.specs.Prelude.{nat_eq, ◌==◌, ◌&&◌, ◌||◌}
use Rattle.std.specs.List.{AllByRecursion, IsDistinct, find, list_any}
use Rattle.std.specs.Option.{option_map}
use Rattle.std.proofs.lemmas.Bool.{true≢false}
use Rattle.std.proofs.lemmas.Bool.Decides.{nat_tests}
use Rattle.gl_base.specs.Lines.{offsets_of}
use Rattle.gl_base.specs.Rows.{Each}
use Rattle.gl_desc.specs.Desc.{desc_at, is_free}
use Rattle.gl_desc.specs.declared.desc.Desc.{Desc}
use Rattle.gl_world.specs.History.{fold_from}
use Rattle.gl_world.specs.declared.history.Entry.{Entry}
use Rattle.gl_model.specs.declared.call.Call.{Call}
use Rattle.gl_model.specs.declared.gift.Gift.{Gift}
use Rattle.gl_model.specs.declared.reply.Reply.{Reply}
use Rattle.gl_model.specs.Holders.{HasItsLines, HoldersAgree, HoldersAlwaysAgree, HoldersStayAgreed, NoLineIsShared, has_line, has_line_at, holder_at, share_line, taken_by}
use Rattle.gl_model.specs.Machine.{machine, world_of}
use Rattle.gl_model.specs.Places.{place_at}
use Rattle.gl_model.specs.Step.{step}
use Rattle.gl_model.specs.World.{World, Request, opening, request_at}
use Rattle.gl_model.proofs.Agreeing.{apart}
use Rattle.gl_model.proofs.Holders.{found_seat, keeps, read_descs}
use Rattle.gl_model.proofs.Ledger.{Agrees, HasSeat, descs_of, equals_itself, file_number, free_holds_not, holder_in, in_range, is_seat, ledger, none_some, seat, seat_number, touched_by}
use Rattle.gl_model.proofs.Phases.{both}
use Rattle.gl_model.proofs.Soundness.{chosen}

-- what a ledger says, of the world, and back

numbers_same : (rows : List Request) → map seat_number (map seat rows) ≡ map (λ (request : Request). request.fd) rows
numbers_same [] = refl
numbers_same (x ∷ rows) = ap (λ ns. x.fd ∷ ns) (numbers_same rows)

pub holder_same : (w : World) (place offset : ℕ) → holder_in (map descs_of w.places) place offset ≡ holder_at w place offset
holder_same w place offset = ap (λ lines. (desc_at lines offset).holder) (read_descs w.places place)

have_lines : (w : World) (rows : List Request) → Each (HasSeat (map descs_of w.places)) (map seat rows) → Each (HasItsLines w) rows
have_lines w [] e = tt
have_lines w (x ∷ rows) e = (
  λ offset any.
      (let is = sym (holder_same w x.place offset) ∙ e.0 offset any in
      (in_range (place_at w x.place).descs offset (λ free. free_holds_not (seat x) (ap is_free (sym is) ∙ free)), is)),
  have_lines w rows e.1,
)

have_seats : (w : World) (rows : List Request) → Each (HasItsLines w) rows → Each (HasSeat (map descs_of w.places)) (map seat rows)
have_seats w [] e = tt
have_seats w (x ∷ rows) e = (λ offset any. holder_same w x.place offset ∙ (e.0 offset any).1, have_seats w rows e.1)

touched_same : (place offset : ℕ) (o : Option Request) → touched_by place offset (option_map seat o) ≡ has_line_at place offset o
touched_same place offset None = refl
touched_same place offset (Some request) = refl

found_same : (w : World) (place offset fd : ℕ) → touched_by place offset (find (is_seat fd) (map seat w.requests)) ≡ has_line_at place offset (request_at w.requests fd)
found_same w place offset fd = ap (touched_by place offset) (found_seat fd w.requests) ∙ touched_same place offset (request_at w.requests fd)

each_of : (P : ℕ → Type 0) (xs : List ℕ) → AllByRecursion P xs → Each P xs
each_of P [] all = tt
each_of P (x ∷ xs) all = (all.0, each_of P xs all.1)

all_of : (P : ℕ → Type 0) (xs : List ℕ) → Each P xs → AllByRecursion P xs
all_of P [] each = tt
all_of P (x ∷ xs) each = (each.0, all_of P xs each.1)

from_ledger : (w : World) → Agrees (ledger w) → HoldersAgree w
from_ledger w a = record {
  numbers_differ = subst (λ ns. IsDistinct nat_eq (ns ++ map file_number w.files)) (numbers_same w.requests) a.differ;
  numbers_below = subst (λ ns. Each (λ fd. fd < w.next) (ns ++ map file_number w.files)) (numbers_same w.requests) (each_of (λ fd. fd < w.next) (map seat_number (map seat w.requests) ++ map file_number w.files) a.below);
  requests_have = have_lines w w.requests a.had;
  requests_name = λ place offset fd e. sym (found_same w place offset fd) ∙ a.named place offset fd (ap taken_by (holder_same w place offset) ∙ e);
}

to_ledger : (w : World) → HoldersAgree w → Agrees (ledger w)
to_ledger w h = record {
  differ = subst (λ ns. IsDistinct nat_eq (ns ++ map file_number w.files)) (sym (numbers_same w.requests)) h.numbers_differ;
  below = all_of (λ fd. fd < w.next) (map seat_number (map seat w.requests) ++ map file_number w.files) (subst (λ ns. Each (λ fd. fd < w.next) (ns ++ map file_number w.files)) (sym (numbers_same w.requests)) h.numbers_below);
  had = have_seats w w.requests h.requests_have;
  named = λ place offset fd e. found_same w place offset fd ∙ h.requests_name place offset fd (ap taken_by (sym (holder_same w place offset)) ∙ e);
}

-- each call and so every history keeps it

pub holders_stay_agreed : HoldersStayAgreed
holders_stay_agreed w actor call h = from_ledger (step w actor call).world (keeps w actor call (to_ledger w h))

pub opens : HoldersAgree opening
unfolding IsDistinct
opens = record { numbers_differ = tt; numbers_below = tt; requests_have = tt; requests_name = λ place offset fd e. absurd (none_some fd e) }

-- no line is shared

witness : (p : ℕ → Bool) (xs : List ℕ) → list_any p xs ≡ true → (o : ℕ) × (p o ≡ true) × (list_any (nat_eq o) xs ≡ true)
witness p [] e = absurd (true≢false (sym e))
witness p (x ∷ xs) e = elim (p x) as (λ b. p x ≡ b → (b || list_any p xs) ≡ true → (o : ℕ) × (p o ≡ true) × (list_any (nat_eq o) (x ∷ xs) ≡ true)) [
  | true ↦ (λ t _. (x, t, ap (λ b. b || list_any (nat_eq x) xs) (equals_itself x)))
  | false ↦ (λ _ later.
      let o = witness p xs later in
      (o.0, o.1, elim (nat_eq o.0 x) as (λ b. (b || list_any (nat_eq o.0) xs) ≡ true) [ true ↦ refl | false ↦ o.2 ]))
] refl e

unshared : (tables : List (List Desc)) (x y : Request) → HasSeat tables (seat x) → HasSeat tables (seat y) → nat_eq x.fd y.fd ≡ false → share_line x y ≡ false
unshared tables x y has_x has_y ne = elim (chosen (share_line x y)) as (λ _. share_line x y ≡ false) [
  | inl t ↦
      (let two = both (x.place == y.place) (list_any (λ offset. has_line offset y) (offsets_of x.lines)) t in
      let o = witness (λ offset. has_line offset y) (offsets_of x.lines) two.1 in
      let other : is_seat x.fd (seat y) ≡ false = grind (arith, nat_tests) in
      absurd (apart tables (seat x) (seat y) has_x has_y other o.0 o.1 (ap (λ b. b && list_any (nat_eq o.0) (offsets_of x.lines)) two.0 ∙ o.2)))
  | inr f ↦ f
]

unshared_each : (tables : List (List Desc)) (x : Request) (rows : List Request) (ys : List ℕ) → AllByRecursion (λ n. nat_eq x.fd n ≡ false) (map seat_number (map seat rows) ++ ys)
    → HasSeat tables (seat x) → Each (HasSeat tables) (map seat rows) → AllByRecursion (λ y. share_line x y ≡ false) rows
unshared_each tables x [] ys all has e = tt
unshared_each tables x (y ∷ rows) ys all has e = (unshared tables x y has e.0 all.0, unshared_each tables x rows ys all.1 has e.1)

distinct_lines : (tables : List (List Desc)) (rows : List Request) (ys : List ℕ) → IsDistinct nat_eq (map seat_number (map seat rows) ++ ys) → Each (HasSeat tables) (map seat rows) → IsDistinct share_line rows
unfolding IsDistinct
distinct_lines tables [] ys d e = tt
distinct_lines tables (x ∷ rows) ys d e = (unshared_each tables x rows ys d.0 e.0 e.1, distinct_lines tables rows ys d.1 e.1)

module _ {K : Type 0} (stands_for : K → World → Type 0) where
  all_agree : (w : World) (history : List (Entry K Call Reply Gift)) → HoldersAgree w → HoldersAgree (fold_from (machine stands_for) w history)
  all_agree w [] h = h
  all_agree w (e ∷ history) h = all_agree (step w e.actor e.call).world history (holders_stay_agreed w e.actor e.call h)

  pub holders_always_agree : HoldersAlwaysAgree stands_for
  holders_always_agree history legal = all_agree opening history opens

  pub no_line_is_shared : NoLineIsShared stands_for
  no_line_is_shared history legal =
      let w : World = world_of stands_for history in
      let a : Agrees (ledger w) = to_ledger w (all_agree opening history opens) in
      distinct_lines (map descs_of w.places) w.requests (map file_number w.files) a.differ a.had
