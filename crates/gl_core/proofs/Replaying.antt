-- A history that is made again: how it goes on with an entry, and where it stops being legal.
use Rattle.std.proofs.Common.{◌≡◌, ℕ, ◌+◌, ◌<◌, List, [], ◌∷◌, ◌++◌, length, take, drop, min, Option, Some, None, IfSome, ap, sym, subst, refl, ◌∙◌, slice_index_or, inl, inr, arith}
use Rattle.std.proofs.lemmas.Bool.{cases_lt}
use Rattle.std.proofs.lemmas.List.{append-nil, drop_all, length-take, take-append-le, take_all, take_more}
use Rattle.std.proofs.Math.Nat.{min-eq_left, min-eq_right}
use Rattle.gl_world.specs.declared.history.Entry.{Entry}
use Rattle.gl_world.proofs.Histories.{answered_rest, answered_snoc, fold_snoc, placed_rest, placed_snoc}
use Rattle.gl_model.specs.declared.call.Call.{Call}
use Rattle.gl_model.specs.declared.gift.Gift.{Gift}
use Rattle.gl_model.specs.declared.reply.Reply.{Reply}
use Rattle.gl_model.specs.Machine.{IsLegal, machine, world_after, world_of}
use Rattle.gl_model.specs.World.{World, opening}
use Rattle.gl_core.specs.Legal.{GoesOn, StopsAt}

-- what is true of what an option has
named : (o : Option ℕ) (P : ℕ → Type 0) → ((p : ℕ) → o ≡ Some p → P p) → IfSome o P
named None P h = tt
named (Some p) P h = h p refl

of_named : (o : Option ℕ) (P : ℕ → Type 0) → IfSome o P → (p : ℕ) → o ≡ Some p → P p
of_named o P h p is = subst (λ (x : Option ℕ). IfSome x P) is h

module _ {K : Type 0} (stands_for : K → World → Type 0) where
  -- a legal history with an entry that it may go on with is legal
  pub legal_more : (history : List (Entry K Call Reply Gift)) (e : Entry K Call Reply Gift) → IsLegal stands_for history
      → GoesOn (world_of stands_for history) e.actor e.call e.reply → IsLegal stands_for (history ++ e ∷ [])
  legal_more history e legal goes = (
    answered_snoc (machine stands_for) opening history e legal.0 goes.replied goes.fits,
    placed_snoc (machine stands_for) opening history e legal.1 (of_named _ _ goes.finds.guarded) (of_named _ _ goes.finds.refused),
  )

  -- a history that is legal with a last entry may go on with it
  pub legal_last : (history : List (Entry K Call Reply Gift)) (e : Entry K Call Reply Gift) → IsLegal stands_for (history ++ e ∷ [])
      → GoesOn (world_of stands_for history) e.actor e.call e.reply
  legal_last history e legal =
      let answered = answered_rest (machine stands_for) opening history (e ∷ []) legal.0 in
      let placed = placed_rest (machine stands_for) opening history (e ∷ []) legal.1 in
      record {
        fits = answered.1;
        finds = record { guarded = named _ _ placed.0; refused = named _ _ placed.1 };
        replied = answered.0;
      }

  -- the world after a history that went on with an entry
  pub world_more : (history : List (Entry K Call Reply Gift)) (e : Entry K Call Reply Gift)
      → world_of stands_for (history ++ e ∷ []) ≡ world_after (world_of stands_for history) e.actor e.call
  world_more history e = fold_snoc (machine stands_for) opening history e

module _ {K : Type 0} (stands_for : K → World → Type 0) where
  -- one entry more
  pub legal_with : (history : List (Entry K Call Reply Gift)) (n : ℕ) (e : Entry K Call Reply Gift) → n < length history → e ≡ slice_index_or history n e
      → IsLegal stands_for (take n history) → GoesOn (world_of stands_for (take n history)) e.actor e.call e.reply → IsLegal stands_for (take (n + 1) history)
  legal_with history n e within at legal goes =
      subst (IsLegal stands_for) (sym (take_more history n e within ∙ ap (λ x. take n history ++ x ∷ []) (sym at))) (legal_more stands_for (take n history) e legal goes)

  pub world_with : (history : List (Entry K Call Reply Gift)) (n : ℕ) (e : Entry K Call Reply Gift) → n < length history → e ≡ slice_index_or history n e
      → world_of stands_for (take (n + 1) history) ≡ world_after (world_of stands_for (take n history)) e.actor e.call
  world_with history n e within at =
      ap (world_of stands_for) (take_more history n e within ∙ ap (λ x. take n history ++ x ∷ []) (sym at)) ∙ world_more stands_for (take n history) e

  -- a history stops at the first entry that it may not go on with
  pub stops_at : (history : List (Entry K Call Reply Gift)) (n : ℕ) (e : Entry K Call Reply Gift) → n < length history → e ≡ slice_index_or history n e
      → IsLegal stands_for (take n history) → (GoesOn (world_of stands_for (take n history)) e.actor e.call e.reply → ⊥) → StopsAt stands_for history n
  stops_at history n e within at legal bad = record {
    within = within;
    legal_before = legal;
    not_with_it = λ more. bad (legal_last stands_for (take n history) e (subst (IsLegal stands_for) (take_more history n e within ∙ ap (λ x. take n history ++ x ∷ []) (sym at)) more));
  }

-- the start of a buffer of which as many bytes were copied as there is room for
pub start_copied : (size count : ℕ) (copied bytes out : List ℕ) → count ≡ min (length out) size → copied ≡ take count bytes → length bytes ≡ size
    → take size (copied ++ drop count out) ≡ take (length out) bytes
start_copied size count copied bytes out is was whole = elim (cases_lt size (length out)) as (λ _. take size (copied ++ drop count out) ≡ take (length out) bytes) [
  | inl longer ↦
      let all : count ≡ size = is ∙ min-eq_right (omega (arith, longer)) in
      let same : copied ≡ bytes = was ∙ take_all count bytes (omega (arith, all, whole)) in
      ap (λ (xs : List ℕ). take size (xs ++ drop count out)) same ∙ take-append-le size bytes (drop count out) (omega (arith, whole)) ∙ take_all size bytes (omega (arith, whole))
      ∙ sym (take_all (length out) bytes (omega (arith, longer, whole)))
  | inr within ↦
      let all : count ≡ length out = is ∙ min-eq_left within in
      let none : drop count out ≡ [] = drop_all count out (omega (arith, all)) in
      ap (λ (ys : List ℕ). take size (copied ++ ys)) none ∙ ap (λ (xs : List ℕ). take size xs) (append-nil copied ∙ was ∙ ap (λ (n : ℕ). take n bytes) all)
      ∙ take_all size (take (length out) bytes) (omega (arith, length-take (length out) bytes, min-eq_left {n = length out} {m = length bytes} (omega (arith, within, whole)), whole))
]
