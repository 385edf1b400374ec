-- Histories that grow, and their beginnings.
use Rattle.std.proofs.Common.{◌≡◌, ℕ, ◌+◌, ◌≤◌, ◌<◌, ◌≢◌, List, [], ◌∷◌, ◌++◌, length, sym, refl, ap, ◌∙◌, arith, eq-eqb, ne_eqb, Bool, true, false, Some}
use Rattle.std.specs.Prelude.{cond, ◌==◌}
use mathlib.Core.Logic.{dite}
use native.Mathlib.Decide.{ℕ_discrete}
use Rattle.gl_world.specs.declared.machine.Machine.{Ghosts}
use Rattle.gl_world.specs.declared.history.Entry.{Entry}
use Rattle.gl_world.specs.History.{entries_of, fold_from, stage, AnsweredFrom, PlacedFrom, begun_in, ended_in, owed}

module _ {M C R G : Type 0} where
  -- one more entry of this actor
  pub entries_same : (n : ℕ) (xs : List (Entry M C R G)) (e : Entry M C R G) → e.actor ≡ n → entries_of n (xs ++ e ∷ []) ≡ entries_of n xs ++ e ∷ []
  entries_same n [] e is = ap (λ b. cond b (e ∷ []) []) (eq-eqb e.actor n is)
  entries_same n (x ∷ xs) e is = let h = entries_same n xs e is in elim (x.actor == n) as (λ b. cond b (x ∷ entries_of n (xs ++ e ∷ [])) (entries_of n (xs ++ e ∷ [])) ≡ cond b (x ∷ entries_of n xs) (entries_of n xs) ++ e ∷ [])
      [ true ↦ ap (λ l. x ∷ l) h | false ↦ h ]

  -- one more entry of another
  pub entries_other : (n : ℕ) (xs : List (Entry M C R G)) (e : Entry M C R G) → e.actor ≢ n → entries_of n (xs ++ e ∷ []) ≡ entries_of n xs
  entries_other n [] e is = ap (λ b. cond b (e ∷ []) []) (ne_eqb e.actor n is)
  entries_other n (x ∷ xs) e is = let h = entries_other n xs e is in λ i. cond (x.actor == n) (x ∷ h i) (h i)

  pub entries_append : (n : ℕ) (xs ys : List (Entry M C R G)) → entries_of n (xs ++ ys) ≡ entries_of n xs ++ entries_of n ys
  entries_append n [] ys = refl
  entries_append n (x ∷ xs) ys = let h = entries_append n xs ys in elim (x.actor == n) as (λ b. cond b (x ∷ entries_of n (xs ++ ys)) (entries_of n (xs ++ ys)) ≡ cond b (x ∷ entries_of n xs) (entries_of n xs) ++ entries_of n ys)
      [ true ↦ ap (λ l. x ∷ l) h | false ↦ h ]

  nothing_before : (xs ys : List (Entry M C R G)) → xs ++ ys ≡ [] → xs ≡ []
  nothing_before [] ys e = refl
  nothing_before (x ∷ xs) ys e = let z : length (x ∷ (xs ++ ys)) ≡ 0 = ap (λ l. length l) e in absurd (omega arith)

  -- who has no entry in a history has none in its beginning
  pub entries_none : (n : ℕ) (xs ys : List (Entry M C R G)) → entries_of n (xs ++ ys) ≡ [] → entries_of n xs ≡ []
  entries_none n xs ys e = nothing_before (entries_of n xs) (entries_of n ys) (sym (entries_append n xs ys) ∙ e)

  -- where none of the entries is of this actor, the first isn't, nor is any of the others
  pub none_of : (a : ℕ) (e : Entry M C R G) (es : List (Entry M C R G)) → entries_of a (e ∷ es) ≡ [] → (e.actor ≢ a) × (entries_of a es ≡ [])
  none_of a e es none = dite (ℕ_discrete e.actor a)
      (λ is. let z : length (cond true (e ∷ entries_of a es) (entries_of a es)) ≡ 0 = ap (λ l. length l) (sym (ap (λ b. cond b (e ∷ entries_of a es) (entries_of a es)) (eq-eqb e.actor a is)) ∙ none) in absurd (omega arith))
      (λ ne. (ne, sym (ap (λ b. cond b (e ∷ entries_of a es) (entries_of a es)) (ne_eqb e.actor a ne)) ∙ none))

module _ {M C R G : Type 0} (m : Ghosts M C R G) where
  pub fold_snoc : (w : m.World) (xs : List (Entry M C R G)) (e : Entry M C R G) → fold_from m w (xs ++ e ∷ []) ≡ m.world_after (fold_from m w xs) e.actor e.call
  fold_snoc w [] e = refl
  fold_snoc w (x ∷ xs) e = fold_snoc (m.world_after w x.actor x.call) xs e

  pub fold_append : (w : m.World) (xs ys : List (Entry M C R G)) → fold_from m w (xs ++ ys) ≡ fold_from m (fold_from m w xs) ys
  fold_append w [] ys = refl
  fold_append w (x ∷ xs) ys = fold_append (m.world_after w x.actor x.call) xs ys

  pub answered_snoc : (w : m.World) (xs : List (Entry M C R G)) (e : Entry M C R G) → AnsweredFrom m w xs → e.reply ≡ m.reply_of (fold_from m w xs) e.actor e.call → m.FitsCall e.call → AnsweredFrom m w (xs ++ e ∷ [])
  answered_snoc w [] e h is fits = (is, fits, tt)
  answered_snoc w (x ∷ xs) e h is fits = (h.0, h.1, answered_snoc (m.world_after w x.actor x.call) xs e h.2 is fits)

  pub answered_prefix : (w : m.World) (xs ys : List (Entry M C R G)) → AnsweredFrom m w (xs ++ ys) → AnsweredFrom m w xs
  answered_prefix w [] ys h = tt
  answered_prefix w (x ∷ xs) ys h = (h.0, h.1, answered_prefix (m.world_after w x.actor x.call) xs ys h.2)

  pub answered_rest : (w : m.World) (xs ys : List (Entry M C R G)) → AnsweredFrom m w (xs ++ ys) → AnsweredFrom m (fold_from m w xs) ys
  answered_rest w [] ys h = h
  answered_rest w (x ∷ xs) ys h = answered_rest (m.world_after w x.actor x.call) xs ys h.2

  pub placed_snoc : (w : m.World) (xs : List (Entry M C R G)) (e : Entry M C R G) → PlacedFrom m w xs → ((p : ℕ) → m.place_of e.call ≡ Some p → stage m (fold_from m w xs) p < 3) → ((p : ℕ) → m.refused_at e.call ≡ Some p → 2 ≤ stage m (fold_from m w xs) p)
      → PlacedFrom m w (xs ++ e ∷ [])
  placed_snoc w [] e h named refused = (named, refused, tt)
  placed_snoc w (x ∷ xs) e h named refused = (h.0, h.1, placed_snoc (m.world_after w x.actor x.call) xs e h.2 named refused)

  pub placed_prefix : (w : m.World) (xs ys : List (Entry M C R G)) → PlacedFrom m w (xs ++ ys) → PlacedFrom m w xs
  placed_prefix w [] ys h = tt
  placed_prefix w (x ∷ xs) ys h = (h.0, h.1, placed_prefix (m.world_after w x.actor x.call) xs ys h.2)

  pub placed_rest : (w : m.World) (xs ys : List (Entry M C R G)) → PlacedFrom m w (xs ++ ys) → PlacedFrom m (fold_from m w xs) ys
  placed_rest w [] ys h = h
  placed_rest w (x ∷ xs) ys h = placed_rest (m.world_after w x.actor x.call) xs ys h.2

  -- how many begin and how many end, after one more entry
  pub begun_snoc : (xs : List (Entry M C R G)) (e : Entry M C R G) → begun_in m (xs ++ e ∷ []) ≡ begun_in m xs + cond (m.begins e.call e.reply) 1 0
  begun_snoc [] e = omega arith
  begun_snoc (x ∷ xs) e = let h = begun_snoc xs e in omega arith

  pub ended_snoc : (xs : List (Entry M C R G)) (e : Entry M C R G) → ended_in m (xs ++ e ∷ []) ≡ ended_in m xs + cond (m.ends e.call) 1 0
  ended_snoc [] e = omega arith
  ended_snoc (x ∷ xs) e = let h = ended_snoc xs e in omega arith

  at_most_one : (b : Bool) → cond {A = ℕ} b 1 0 ≤ 1
  at_most_one true = omega arith
  at_most_one false = omega arith

  -- an entry that ends pays one
  pub owed_ends : (xs : List (Entry M C R G)) (e : Entry M C R G) → m.ends e.call ≡ true → m.begins e.call e.reply ≡ false → 0 < owed m xs → owed m (xs ++ e ∷ []) + 1 ≡ owed m xs
  owed_ends xs e ends begins some = let b = begun_snoc xs e in let d = ended_snoc xs e in let p : cond {A = ℕ} (m.ends e.call) 1 0 ≡ 1 = ap (λ (x : Bool). cond {A = ℕ} x 1 0) ends in
      let q : cond {A = ℕ} (m.begins e.call e.reply) 1 0 ≡ 0 = ap (λ (x : Bool). cond {A = ℕ} x 1 0) begins in omega arith

  -- another one makes one more owed at most
  pub owed_more : (xs : List (Entry M C R G)) (e : Entry M C R G) → owed m (xs ++ e ∷ []) ≤ owed m xs + 1
  owed_more xs e = let b = begun_snoc xs e in let d = ended_snoc xs e in let p = at_most_one (m.begins e.call e.reply) in omega arith
