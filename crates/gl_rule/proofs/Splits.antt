-- A pass is cut in two, and two are put together.
use Rattle.std.proofs.Common.{◌≡◌, ℕ, zero, suc, ◌+◌, ◌%◌, ◌<◌, ◌≤◌, ◌≢◌, ◌⊎◌, List, [], ◌∷◌, ◌++◌, length, set, sym, refl, ap, ◌∙◌, subst, ⊎_elim, inl, inr, arith, le_refl, length-set, length-append, eq-eqb, ne_eqb, Some, None, true, false}
use Rattle.std.specs.Prelude.{cond}
use Rattle.std.proofs.lemmas.List.{append-nil}
use Rattle.std.proofs.lemmas.Bool.{true≢false}
use mathlib.Core.Logic.{dite}
use native.Mathlib.Decide.{ℕ_discrete}
use mathlib.Core.Option.{some, some-injective, some-ne-none}
use lib.ListN.{get_elem?}
use Rattle.atomic_table.specs.Table.{State, Splits}
use Rattle.atomic_table.proofs.Lists.{at_set, at_longer}
use Rattle.gl_world.specs.declared.machine.Machine.{Ghosts}
use Rattle.gl_world.specs.History.{entries_of}
use Rattle.gl_rule.specs.declared.held.Held.{Held}
use Rattle.gl_rule.specs.declared.view.View.{View}
use Rattle.gl_rule.specs.Views.{newcomer, with_one_more}
use Rattle.gl_rule.specs.Sums.{total, count_some}
use Rattle.gl_rule.specs.Turn.{tickets, passed_on, times_held, is_live, owes, Knows}
use Rattle.gl_rule.specs.Rule.{Rule}
use Rattle.gl_rule.proofs.Sums.{total_set, total_snoc}
use Rattle.gl_rule.proofs.Change.{inside_of, whole}
use Rattle.gl_rule.proofs.Guards.{guards_split}
use Rattle.gl_world.specs.Laws.{Laws}
use Rattle.gl_rule.proofs.Turns.{another_has}
use Rattle.gl_world.proofs.Histories.{entries_none}

-- what stands in a list that is one longer
pub longer_at : {A : Type 0} (l : List A) (a b : A) (j : ℕ) → get_elem? (l ++ a ∷ []) j ≡ some b → (get_elem? l j ≡ some b) ⊎ ((j ≡ length l) × (a ≡ b))
longer_at [] a b zero e = inr (refl, some-injective a b e)
longer_at [] a b (suc j) e = absurd (some-ne-none b (sym e))
longer_at (x ∷ xs) a b zero e = inl e
longer_at (x ∷ xs) a b (suc j) e = ⊎_elim inl (λ t. inr (ap suc t.0, t.1)) (longer_at xs a b j e)

not_some : (t : ℕ) → Some t ≡ None → ⊥
not_some t e = let z : count_some (Some t) ≡ count_some None = ap count_some e in absurd (omega arith)

module _ {M C R G : Type 0} (m : Ghosts M C R G) (laws : Laws m) (places : ℕ) where
  abbrev V : Type 0
  V = View M C R G

  abbrev St : Type 0
  St = State (Held M C R G) V

  pub splits : (id : ℕ) (v : V) → v.number ≡ 0 → v.turn ≡ false → v.spent ≡ false → v.made < 256 → Splits (Rule m places) id v (with_one_more v) (newcomer v.made v.room v.seen 0 v.closed v.drained)
  splits id v first resting live few s all at = let r = all.0 in let g = all.1 in let n : ℕ = length s.views in let w : V = with_one_more v in let u : V = newcomer v.made v.room v.seen 0 v.closed v.drained in let vs : List V = set s.views id w in let L : List V = vs ++ u ∷ [] in
      let old = r.each id v at live in let is_first : id ≡ 0 = sym old.number ∙ first in let made : v.made ≡ n = (r.first v (subst (λ k. get_elem? s.views k ≡ some v) is_first at)).1 in
      let same_length : length vs ≡ n = length-set s.views id w in let longer : length L ≡ n + 1 = length-append vs (u ∷ []) ∙ ap (λ k. k + 1) same_length in
      let new = r.others n (le_refl n) in
      let P = total_set (λ (u : V). u.passed) s.views id v w at in let P' = total_snoc (λ (u : V). u.passed) vs u in
      let T = total_set (λ (u : V). count_some u.ticket) s.views id v w at in let T' = total_snoc (λ (u : V). count_some u.ticket) vs u in
      let O = total_set (owes m) s.views id v w at in let O' = total_snoc (owes m) vs u in
      let B = total_set is_live s.views id v w at in let B' = total_snoc is_live vs u in
      let J = total_set (λ (u : V). length u.joined) s.views id v w at in let J' = total_snoc (λ (u : V). length u.joined) vs u in
      let as_passed : passed_on L ≡ passed_on s.views = omega arith in
      let as_many : tickets L ≡ tickets s.views = omega arith in
      let roomy = r.roomy in let most = r.few_passes in let counted = r.counted in
      let served : ℕ = length r.log + passed_on L in let issued : ℕ = served + tickets L in
      let K : ℕ → V → Type 0 = λ j x. Knows m r.log served issued r.room r.merged j x in
      let over : (j : ℕ) (x : V) → Knows m r.log (length r.log + passed_on s.views) ((length r.log + passed_on s.views) + tickets s.views) r.room r.merged j x → K j x
      = λ j x k. subst (λ (p : ℕ × ℕ). Knows m r.log (length r.log + p.0) ((length r.log + p.0) + p.1) r.room r.merged j x) (λ i. (sym as_passed i, sym as_many i)) k in
      let by_cases : (Q : ℕ → V → Type 0) → Q id w → ((j : ℕ) (x : V) → j ≢ id → get_elem? s.views j ≡ some x → Q j x) → Q n u → (j : ℕ) (x : V) → get_elem? L j ≡ some x → Q j x
      = λ Q mine rest last j x e. ⊎_elim
      (λ h. ⊎_elim (λ (t : (j ≡ id) × (w ≡ x)). subst (λ (y : ℕ × V). Q y.0 y.1) (λ i. (sym t.0 i, t.1 i)) mine) (λ (t : (j ≢ id) × (get_elem? s.views j ≡ some x)). rest j x t.0 t.1) (at_set s.views id j w x h))
      (λ (t : (j ≡ length vs) × (u ≡ x)). subst (λ (y : ℕ × V). Q y.0 y.1) (λ i. ((sym same_length ∙ sym t.0) i, t.1 i)) last) (longer_at vs u x j e) in
      let inside : id < n = inside_of s.views id v at in
      let mine : K id w = record {
        number = old.number;
        room_is = old.room_is;
        seen = old.seen;
        had_seen = old.had_seen;
        mine = old.mine;
        seen_mine = old.seen_mine;
        ticket = (over id v old).ticket;
        turn = (over id v old).turn;
        few = old.few;
        joined = old.joined;
      } in
      let last : K n u = record {
        number = made;
        room_is = old.room_is;
        seen = old.seen;
        had_seen = ([], sym (append-nil v.seen));
        mine = new.0;
        seen_mine = entries_none n v.seen old.seen.0 (ap (λ l. entries_of n l) (sym old.seen.1) ∙ new.0);
        ticket = tt;
        turn = λ g. absurd (true≢false (sym g));
        few = omega arith;
        joined = λ k j e. absurd (some-ne-none j (sym e));
      } in whole m places _ r.log (
        record {
          log = r.log;
          room = r.room;
          merged = r.merged;
          holder = r.holder;
          answered = r.answered;
          two_words = r.two_words;
          serving = r.serving ∙ ap (λ k. (length r.log + k) % 18446744073709551616) (sym as_passed);
          next_ticket = r.next_ticket ∙ (λ i. ((length r.log + sym as_passed i) + sym as_many i) % 18446744073709551616);
          few_passes = omega arith;
          each = by_cases (λ j x. x.spent ≡ false → K j x) (λ _. mine) (λ j x ne e l. over j x (r.each j x e l)) (λ _. last);
          spent = by_cases (λ j x. x.spent ≡ r.merged j) (r.spent id v at) (λ j x _ e. r.spent j x e) (sym new.1);
          idle = by_cases (λ j x. x.spent ≡ true → (x.ticket ≡ None) × (x.turn ≡ false) × (owes m x ≡ 0)) (λ g. r.idle id v at g) (λ j x _ e. r.idle j x e) (λ g. absurd (true≢false (sym g)));
          others = λ k l. let far : n ≤ k = omega arith in let o = r.others k far in let sum = total_set (times_held k) s.views id v w at in let sum' = total_snoc (times_held k) vs u in let zero = o.2 in
              let not_it : times_held k u ≡ 0 = ap (λ b. cond {A = ℕ} b 1 0 + 0) (ne_eqb v.made k (λ e. omega arith)) in (o.0, o.1, omega arith);
          first = λ x e. by_cases (λ j x. j ≡ 0 → (x.spent ≡ false) × (x.made ≡ length L)) (λ _. (live, omega arith)) (λ j x ne e z. absurd (ne (z ∙ sym is_first))) (λ z. absurd (omega arith)) 0 x e refl;
          apart = λ i j a b t ea eb ha hb. by_cases (λ i a. a.ticket ≡ Some t → i ≡ j)
              (λ hv. by_cases (λ j b. b.ticket ≡ Some t → id ≡ j) (λ _. refl) (λ j b ne e h. r.apart id j v b t at e hv h) (λ h. absurd (not_some t (sym h))) j b eb hb)
              (λ i a ne e h. by_cases (λ j b. b.ticket ≡ Some t → i ≡ j) (λ hv. r.apart i id a v t e at h hv) (λ j b _ e' h'. r.apart i j a b t e e' h h') (λ h. absurd (not_some t (sym h))) j b eb hb)
              (λ h. absurd (not_some t (sym h))) i a ea ha;
          only = by_cases (λ j x. x.turn ≡ true → r.holder ≡ Some j) (λ g. r.only id v at g) (λ j x _ e. r.only j x e) (λ g. absurd (true≢false (sym g)));
          has = λ j g. let o = another_has m laws places s r id v w at resting j g in (o.0, at_longer vs (u ∷ []) j o.0 o.1, o.2);
          slot = r.slot;
          once = λ k l. let sum = total_set (times_held k) s.views id v w at in let sum' = total_snoc (times_held k) vs u in dite (ℕ_discrete k n)
              (λ e. let zero : total (times_held k) s.views ≡ 0 = (r.others k (subst (λ x. n ≤ x) (sym e) (le_refl n))).2 in let it : times_held k u ≡ 1 = ap (λ b. cond {A = ℕ} b 1 0 + 0) (eq-eqb v.made k (made ∙ sym e)) in omega arith)
              (λ ne. let one = r.once k (omega arith) in let not_it : times_held k u ≡ 0 = ap (λ b. cond {A = ℕ} b 1 0 + 0) (ne_eqb v.made k (λ e. ne (sym e ∙ made))) in omega arith);
          counted = omega arith;
          roomy = omega arith;
        },
        refl,
      ) (guards_split m places s r.log g id v w u at refl refl refl refl refl refl refl refl refl)
