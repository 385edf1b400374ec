-- A gate at its making, and at its end.
use Rattle.std.proofs.Common.{◌≡◌, ℕ, zero, suc, ◌+◌, ◌<◌, ◌≤◌, List, [], ◌∷◌, length, get_or, sym, refl, ap, ◌∙◌, subst, arith, eq-eqb, ne_eqb, Some, None, true, false}
use Rattle.std.specs.Prelude.{cond}
use Rattle.std.proofs.lemmas.Bool.{true≢false}
use mathlib.Core.Logic.{dite}
use native.Mathlib.Decide.{ℕ_discrete}
use mathlib.Core.Option.{some, some-injective, some-ne-none}
use lib.ListN.{get_elem?}
use Rattle.atomic_table.specs.Table.{State, opening}
use Rattle.gl_world.specs.declared.machine.Machine.{Ghosts}
use Rattle.gl_rule.specs.declared.held.Held.{Held}
use Rattle.gl_rule.specs.declared.view.View.{View}
use Rattle.gl_rule.specs.Views.{newcomer}
use Rattle.gl_rule.specs.Sums.{total, times, count_some}
use Rattle.gl_rule.specs.Turn.{is_live, owes, InSlot, Knows, TurnRule}
use Rattle.gl_rule.specs.Rule.{Rule}
use Rattle.gl_rule.proofs.Sums.{total_at, total_two}
use Rattle.gl_world.specs.History.{fold, stage}
use Rattle.gl_world.specs.Laws.{Laws}
use Rattle.gl_rule.specs.Guards.{at_guard, times_inside}
use Rattle.gl_rule.proofs.Change.{whole}
use Rattle.gl_rule.proofs.Turns.{is_live_in_turn, at_home}

-- the one element of a list
one_of : {A : Type 0} (a b : A) (j : ℕ) → get_elem? (a ∷ []) j ≡ some b → (j ≡ 0) × (a ≡ b)
one_of a b zero e = (refl, some-injective a b e)
one_of a b (suc j) e = absurd (some-ne-none b (sym e))

module _ {M C R G : Type 0} (m : Ghosts M C R G) (laws : Laws m) (places : ℕ) where
  abbrev V : Type 0
  V = View M C R G

  pub opens : (room : ℕ) (h : Held M C R G) (words : List ℕ) → length words ≡ places + 2 → ((i : ℕ) → get_or words i 0 ≡ 0) → InSlot m [] room h → Rule m places (opening words (h ∷ []) (newcomer 0 room [] 1 [] []))
  opens room h words wide zeros slot = let u : V = newcomer 0 room [] 1 [] [] in let by_cases : (Q : ℕ → V → Type 0) → Q 0 u → (j : ℕ) (x : V) → get_elem? (u ∷ []) j ≡ some x → Q j x
      = λ Q q j x e. let o = one_of u x j e in subst (λ (y : ℕ × V). Q y.0 y.1) (λ i. (sym o.0 i, o.1 i)) q in whole m places _ [] (
        record {
          log = [];
          room = room;
          merged = λ _. false;
          holder = None;
          answered = tt;
          two_words = omega arith;
          serving = zeros 1;
          next_ticket = zeros 0;
          few_passes = omega arith;
          each = by_cases (λ j x. x.spent ≡ false → Knows m [] 0 0 room (λ _. false) j x) (λ _. record {
            number = refl;
            room_is = refl;
            seen = ([], refl);
            had_seen = ([], refl);
            mine = refl;
            seen_mine = refl;
            ticket = tt;
            turn = λ g. absurd (true≢false (sym g));
            few = omega arith;
            joined = λ k j e. absurd (some-ne-none j (sym e));
          });
          spent = by_cases (λ j x. x.spent ≡ false) refl;
          idle = by_cases (λ j x. x.spent ≡ true → (x.ticket ≡ None) × (x.turn ≡ false) × (owes m x ≡ 0)) (λ g. absurd (true≢false (sym g)));
          others = λ n l. (refl, refl, ap (λ b. (cond {A = ℕ} b 1 0 + 0) + 0) (ne_eqb 0 n (λ e. omega arith)));
          first = λ x e. by_cases (λ j x. (x.spent ≡ false) × (x.made ≡ 1)) (refl, refl) 0 x e;
          apart = λ i j a b t ea eb ha hb. (one_of u a i ea).0 ∙ sym (one_of u b j eb).0;
          only = by_cases (λ j x. x.turn ≡ true → None ≡ Some j) (λ g. absurd (true≢false (sym g)));
          has = λ j g. let z : count_some (Some j) ≡ count_some None = ap count_some (sym g) in absurd (omega arith);
          slot = (h, refl, slot);
          once = λ n l. ap (λ b. (cond {A = ℕ} b 1 0 + 0) + 0) (eq-eqb 0 n (omega arith));
          counted = refl;
          roomy = omega arith;
        },
        refl,
      ) record {
        shut = λ _. false;
        width = wide;
        word = λ p l. zeros (p + 2);
        once = λ j x p. by_cases (λ j x. at_guard p x ≤ 1) (omega arith) j x;
        knows_closed = λ j x p. by_cases (λ j x. 0 < times p x.closed → false ≡ true) (λ h. absurd (omega arith)) j x;
        knows_drained = λ j x p. by_cases (λ j x. 0 < times p x.drained → (false ≡ true) × (total (times_inside p) (u ∷ []) ≡ 0)) (λ h. absurd (omega arith)) j x;
        closing = λ p h. absurd (true≢false (sym h));
        placed = tt;
        gone_closed = λ p h. let o = laws.opens_places p in absurd (omega arith);
        stands = λ j x p. by_cases (λ j x. 0 < times p x.inside → stage m (fold m []) p < 3) (λ h. absurd (omega arith)) j x;
        nowhere = λ j x e h. by_cases (λ j x. x.inside ≡ []) refl j x e;
      }

  -- the first pass, into which all others were joined, finds the slot at home
  pub ends : (s : State (Held M C R G) V) (r : TurnRule m s) (id : ℕ) (v : V) → get_elem? s.views id ≡ some v → v.spent ≡ false → v.turn ≡ false → v.number ≡ 0 → length v.joined + 1 ≡ v.made
      → (h : Held M C R G) × (s.homes ≡ some h ∷ []) × InSlot m r.log r.room h
  ends s r id v at live resting first all = let old = r.each id v at live in let is_first : id ≡ 0 = sym old.number ∙ first in
      let made = (r.first v (subst (λ k. get_elem? s.views k ≡ some v) is_first at)).1 in let counted = r.counted in
      let joined = total_at (λ (u : V). length u.joined) s.views id v at in
      let one : is_live v ≡ 1 = ap (λ b. cond {A = ℕ} b 0 1) live in
      at_home m laws places r.log r.room r.holder s.homes (λ k g. let o = r.has k g in let u : V = o.0 in dite (ℕ_discrete k id)
      (λ e. let same : v ≡ u = some-injective v u (sym at ∙ (ap (λ j. get_elem? s.views j) (sym e) ∙ o.1)) in true≢false (sym o.2 ∙ (ap (λ (x : V). x.turn) (sym same) ∙ resting)))
      (λ ne. let alive : is_live u ≡ 1 = ap (λ b. cond {A = ℕ} b 0 1) (is_live_in_turn m laws places s r k u o.1 o.2) in let two = total_two is_live s.views k id u v o.1 at ne in absurd (omega arith))) r.slot
