-- The history of a device whose first actor made all calls.
use Rattle.std.proofs.Common.{◌≡◌, ℕ, zero, suc, ◌≤◌, List, [], ◌∷◌, ◌++◌, length, sym, refl, ap, ◌∙◌, subst, arith, eq-eqb, Bool, true, false}
use Rattle.std.specs.Prelude.{cond, ◌==◌}
use mathlib.Core.Logic.{dite}
use native.Mathlib.Decide.{ℕ_discrete}
use Rattle.gl_world.specs.Deeds.{deeds_of, entries_in}
use Rattle.gl_world.specs.History.{entries_of}
use Rattle.gl_world.proofs.Deeds.{deeds_stay}
use Rattle.gl_gate.specs.Calls.{HasItsOwn}
use Rattle.gl_gate.proofs.Grown.{grown_has_its_own}
use Rattle.gl_core.specs.Device.{OneEntry, core}
use Rattle.gl_chip.specs.Values.{OneView}
use Rattle.gl_session.specs.Alone.{FirstActorIsAlone, FirstActorSeesItself}

-- a history of actor 0 alone is its entries
only_zero : (history : List OneEntry) → ((n : ℕ) → 1 ≤ n → entries_of n history ≡ []) → entries_of 0 history ≡ history
only_zero [] none = refl
only_zero (e ∷ es) none = dite (ℕ_discrete e.actor 0)
    (λ is. ap (λ b. cond b (e ∷ entries_of 0 es) (entries_of 0 es)) (eq-eqb e.actor 0 is) ∙ ap (λ l. e ∷ l) (only_zero es (λ n positive. others n positive)))
    (λ other. absurd (full e.actor refl other))
  where
    both : (n : ℕ) → (b : Bool) → cond b (e ∷ entries_of n es) (entries_of n es) ≡ [] → entries_of n es ≡ []
    both n true h = let z : length (e ∷ entries_of n es) ≡ 0 = ap (λ l. length l) h in absurd (omega arith)
    both n false h = h

    others : (n : ℕ) → 1 ≤ n → entries_of n es ≡ []
    others n positive = both n (e.actor == n) (none n positive)

    full : (k : ℕ) → e.actor ≡ k → (e.actor ≡ 0 → ⊥) → ⊥
    full zero is other = other is
    full (suc k) is other = let h = sym (ap (λ b. cond b (e ∷ entries_of (suc k) es) (entries_of (suc k) es)) (eq-eqb e.actor (suc k) is)) ∙ none (suc k) (omega arith) in
        let z : length (e ∷ entries_of (suc k) es) ≡ 0 = ap (λ l. length l) h in absurd (omega arith)

pub first_actor_is_alone : FirstActorIsAlone
first_actor_is_alone room v w did history new grew legal begins mine others =
    let number : w.number ≡ 0 = grew.number ∙ ap (λ (x : OneView). x.number) new in
    let made : w.made ≡ 1 = grew.made ∙ ap (λ (x : OneView). x.made) new in
    let alone : (n : ℕ) → 1 ≤ n → entries_of n history ≡ [] = λ n positive. others n (subst (λ k. k ≤ n) (sym made) positive) in
    let own : HasItsOwn v = subst (λ (x : OneView). HasItsOwn x) (sym new) refl in
    let own_then : entries_of 0 w.seen ≡ w.mine = ap (λ k. entries_of k w.seen) (sym number) ∙ grown_has_its_own core v w did own grew in
    let seen : deeds_of core 0 w.seen ≡ did = ap (λ k. deeds_of core k w.seen) (sym (ap (λ (x : OneView). x.number) new)) ∙ grew.deeds ∙ ap (λ (x : OneView). deeds_of core x.number x.seen ++ did) new in
    let mine_is : w.mine ≡ entries_in did = grew.mine ∙ ap (λ (x : OneView). x.mine ++ entries_in did) new in record {
      legal = legal;
      entries = sym (only_zero history alone) ∙ mine ∙ mine_is;
      deeds = deeds_stay core 0 history w.seen begins (mine ∙ sym own_then) ∙ seen;
    }

pub first_actor_sees_itself : FirstActorSeesItself
first_actor_sees_itself room v w did new grew strangers =
    let number : w.number ≡ 0 = grew.number ∙ ap (λ (x : OneView). x.number) new in
    let made : w.made ≡ 1 = grew.made ∙ ap (λ (x : OneView). x.made) new in
    let alone : (n : ℕ) → 1 ≤ n → entries_of n w.seen ≡ [] = λ n positive. (strangers number).1 n (subst (λ k. k ≤ n) (sym made) positive) in
    let own : HasItsOwn v = subst (λ (x : OneView). HasItsOwn x) (sym new) refl in
    let own_then : entries_of 0 w.seen ≡ w.mine = ap (λ k. entries_of k w.seen) (sym number) ∙ grown_has_its_own core v w did own grew in
    sym (only_zero w.seen alone) ∙ own_then ∙ grew.mine ∙ ap (λ (x : OneView). x.mine ++ entries_in did) new
