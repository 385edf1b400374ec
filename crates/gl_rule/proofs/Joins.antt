-- A pass takes in another.
use Rattle.std.proofs.Common.{◌≡◌, ℕ, zero, suc, ◌+◌, ◌%◌, ◌<◌, ◌≤◌, ltb, ◌≢◌, ◌⊎◌, List, [], ◌∷◌, ◌++◌, length, set, sym, refl, ap, ◌∙◌, subst, ⊎_elim, inl, inr, arith, length-set, length-append, eq-eqb, ne_eqb, Some, None, Bool, true, false}
use Rattle.std.specs.Prelude.{cond, ◌==◌}
use Rattle.std.proofs.lemmas.List.{append-nil}
use Rattle.std.proofs.lemmas.Bool.Decides.{nat_tests}
use Rattle.std.proofs.lemmas.Bool.{true≢false}
use mathlib.Core.Option.{some, some-injective}
use lib.ListN.{get_elem?}
use Rattle.atomic_table.specs.Table.{State, Joins}
use Rattle.atomic_table.proofs.Lists.{at_set, set_else}
use Rattle.gl_world.specs.declared.machine.Machine.{Ghosts}
use Rattle.gl_world.specs.declared.history.Entry.{Entry}
use Rattle.gl_world.specs.History.{StartsWith, entries_of}
use Rattle.gl_world.proofs.Histories.{entries_append}
use Rattle.gl_rule.specs.declared.held.Held.{Held}
use Rattle.gl_rule.specs.declared.view.View.{View}
use Rattle.gl_rule.specs.declared.view.Joined.{Joined}
use Rattle.gl_rule.specs.Views.{as_joined, joined_into_another, taking_in}
use Rattle.gl_rule.specs.Sums.{total, count_some}
use Rattle.gl_rule.specs.Turn.{tickets, passed_on, times_joined, times_held, is_live, owes, Knows, TurnRule}
use Rattle.gl_rule.specs.Rule.{Rule}
use Rattle.gl_rule.proofs.Sums.{total_set, total_append}
use Rattle.gl_rule.proofs.Change.{inside_of, whole}
use Rattle.gl_rule.proofs.Guards.{guards_join}

-- what stands in two lists, one after the other
at_either : {A : Type 0} (xs ys : List A) (k : ℕ) (a : A) → get_elem? (xs ++ ys) k ≡ some a → (get_elem? xs k ≡ some a) ⊎ ((i : ℕ) × (get_elem? ys i ≡ some a))
at_either [] ys k a e = inr (k, e)
at_either (x ∷ xs) ys zero a e = inl e
at_either (x ∷ xs) ys (suc k) a e = at_either xs ys k a e

prefix_same : {A : Type 0} (xs ys : List A) → length (xs ++ ys) ≡ length xs → ys ≡ []
prefix_same xs [] e = refl
prefix_same xs (y ∷ ys) e = let l = length-append xs (y ∷ ys) in absurd (omega arith)

abbrev tail_of : {A : Type 0} → List A → List A
tail_of [] = []
tail_of (x ∷ xs) = xs

prefix_split : {A : Type 0} (xs a ys b : List A) → xs ++ a ≡ ys ++ b → length xs ≤ length ys → (c : List A) × (a ≡ c ++ b)
prefix_split [] a ys b e le = (ys, e)
prefix_split (x ∷ xs) a [] b e le = absurd (omega arith)
prefix_split (x ∷ xs) a (y ∷ ys) b e le = prefix_split xs a ys b (ap tail_of e) (omega arith)

abbrev first_or : {A : Type 0} → A → List A → A
first_or d [] = d
first_or d (x ∷ xs) = x

begins_both : {A : Type 0} (xs a ys b : List A) → xs ++ a ≡ ys ++ b → length xs ≤ length ys → StartsWith ys xs
begins_both [] a ys b e le = (ys, refl)
begins_both (x ∷ xs) a [] b e le = absurd (omega arith)
begins_both (x ∷ xs) a (y ∷ ys) b e le = let h = begins_both xs a ys b (ap tail_of e) (omega arith) in (h.0, λ i. first_or y (sym e i) ∷ h.1 i)

-- the shorter of two beginnings of a list is a beginning of the longer
pub begins_of : {A : Type 0} (log xs ys : List A) → StartsWith log xs → StartsWith log ys → length xs ≤ length ys → StartsWith ys xs
begins_of log xs ys a b le = begins_both xs a.0 ys b.0 (sym a.1 ∙ b.1) le

module _ {M C R G : Type 0} where
  -- two beginnings of one history have as many entries of a pass, where one has all of them
  pub as_many_in : (n : ℕ) (log xs ys : List (Entry M C R G)) → StartsWith log xs → StartsWith log ys → length xs ≤ length ys → entries_of n log ≡ entries_of n xs → entries_of n log ≡ entries_of n ys
  as_many_in n log xs ys a b le e = let split = prefix_split xs a.0 ys b.0 (sym a.1 ∙ b.1) le in let one = ap (λ l. entries_of n l) a.1 ∙ entries_append n xs a.0 in
      let none : entries_of n a.0 ≡ [] = prefix_same (entries_of n xs) (entries_of n a.0) (ap (λ l. length l) (sym one ∙ e)) in
      let parts = sym none ∙ (ap (λ l. entries_of n l) split.1 ∙ entries_append n split.0 b.0) in
      let last : entries_of n b.0 ≡ [] = let l = ap (λ l. length l) parts in let k = length-append (entries_of n split.0) (entries_of n b.0) in prefix_same [] (entries_of n b.0) (omega arith) in
      ap (λ l. entries_of n l) b.1 ∙ (entries_append n ys b.0 ∙ (ap (λ l. entries_of n ys ++ l) last ∙ append-nil (entries_of n ys)))

shorter : (a b : ℕ) → ltb a b ≡ true → a ≤ b
shorter a b e = grind (arith, nat_tests)

not_shorter : (a b : ℕ) → ltb a b ≡ false → b ≤ a
not_shorter a b e = grind (arith, nat_tests)

not_some : (t : ℕ) → Some t ≡ None → ⊥
not_some t e = let z : count_some (Some t) ≡ count_some None = ap count_some e in absurd (omega arith)

module _ {M C R G : Type 0} (m : Ghosts M C R G) (places : ℕ) where
  abbrev V : Type 0
  V = View M C R G

  still : (merged : ℕ → Bool) (other n : ℕ) → merged n ≡ true → cond (n == other) true (merged n) ≡ true
  still merged other n e = elim (n == other) as (λ b. cond b true (merged n) ≡ true) [ true ↦ refl | false ↦ e ]

  from_other : (log : List (Entry M C R G)) (merged : ℕ → Bool) (other : ℕ) (w : V) (i : ℕ) (j : Joined M C R G) → merged w.number ≡ true → entries_of w.number log ≡ w.mine
      → ((k : ℕ) (j : Joined M C R G) → get_elem? w.joined k ≡ some j → (merged j.number ≡ true) × (entries_of j.number log ≡ j.mine)) → get_elem? (as_joined w ∷ w.joined) i ≡ some j
      → (merged j.number ≡ true) × (entries_of j.number log ≡ j.mine)
  from_other log merged other w zero j g e rest at = subst (λ j. (merged j.number ≡ true) × (entries_of j.number log ≡ j.mine)) (some-injective (as_joined w) j at) (g, e)
  from_other log merged other w (suc i) j g e rest at = rest i j at

  not_holder : (s : State (Held M C R G) V) (r : TurnRule m s) (i : ℕ) (x : V) → get_elem? s.views i ≡ some x → x.turn ≡ false → (j : ℕ) → r.holder ≡ Some j → j ≢ i
  not_holder s r i x at resting j g e = let o = r.has j g in let same : x ≡ o.0 = some-injective x o.0 (sym at ∙ (ap (λ k. get_elem? s.views k) (sym e) ∙ o.1)) in
      true≢false (sym o.2 ∙ (ap (λ (u : V). u.turn) (sym same) ∙ resting))

  pub joins : (id : ℕ) (v : V) (other : ℕ) (w : V) → v.turn ≡ false → v.spent ≡ false → w.turn ≡ false → w.ticket ≡ None → w.spent ≡ false → w.number ≢ 0 → w.inside ≡ [] → w.knocking ≡ []
      → Joins (Rule m places) id v other w (taking_in v w) joined_into_another
  joins id v other w resting live resting' none live' not_first w_inside w_knocking s all at apart at' = let r = all.0 in let g = all.1 in let b : V = taking_in v w in let z : V = joined_into_another in let vs : List V = set s.views id b in let L : List V = set vs other z in
      let there : get_elem? s.views other ≡ some w = sym (set_else s.views id other b apart) ∙ at' in
      let old = r.each id v at live in let old' = r.each other w there live' in
      let P = total_set (λ (u : V). u.passed) s.views id v b at in let P' = total_set (λ (u : V). u.passed) vs other w z at' in
      let T = total_set (λ (u : V). count_some u.ticket) s.views id v b at in let T' = total_set (λ (u : V). count_some u.ticket) vs other w z at' in
      let O = total_set (owes m) s.views id v b at in let O' = total_set (owes m) vs other w z at' in
      let B = total_set is_live s.views id v b at in let B' = total_set is_live vs other w z at' in
      let J = total_set (λ (u : V). length u.joined) s.views id v b at in let J' = total_set (λ (u : V). length u.joined) vs other w z at' in
      let joined_length = length-append v.joined (as_joined w ∷ w.joined) in
      let no_ticket : count_some w.ticket ≡ 0 = ap count_some none in
      let alive : is_live w ≡ 1 = ap (λ b. cond {A = ℕ} b 0 1) live' in
      let as_passed : passed_on L ≡ passed_on s.views = omega arith in
      let as_many : tickets L ≡ tickets s.views = omega arith in
      let same_length : length L ≡ length s.views = length-set vs other z ∙ length-set s.views id b in
      let roomy = r.roomy in let counted = r.counted in
      let as_often : (k : ℕ) → total (times_held k) L ≡ total (times_held k) s.views = λ k. let A = total_set (times_held k) s.views id v b at in let A' = total_set (times_held k) vs other w z at' in
      let both : times_joined k (v.joined ++ as_joined w ∷ w.joined) ≡ times_joined k v.joined + (cond {A = ℕ} (w.number == k) 1 0 + times_joined k w.joined) = total_append (λ (j : Joined M C R G). cond (j.number == k) 1 0) v.joined (as_joined w ∷ w.joined) in
      let its : times_held k w ≡ cond {A = ℕ} (w.number == k) 1 0 + times_joined k w.joined = ap (λ b. cond {A = ℕ} b 0 (cond (w.number == k) 1 0) + times_joined k w.joined) live' in omega arith in
      let merged : ℕ → Bool = λ n. cond (n == other) true (r.merged n) in
      let served : ℕ = length r.log + passed_on L in let issued : ℕ = served + tickets L in
      let K : ℕ → V → Type 0 = λ j x. Knows m r.log served issued r.room merged j x in
      let over : (j : ℕ) (x : V) → Knows m r.log (length r.log + passed_on s.views) ((length r.log + passed_on s.views) + tickets s.views) r.room r.merged j x → K j x
      = λ j x k. let k' : Knows m r.log served issued r.room r.merged j x = subst (λ (p : ℕ × ℕ). Knows m r.log (length r.log + p.0) ((length r.log + p.0) + p.1) r.room r.merged j x) (λ i. (sym as_passed i, sym as_many i)) k in record {
        number = k'.number;
        room_is = k'.room_is;
        seen = k'.seen;
        had_seen = k'.had_seen;
        mine = k'.mine;
        seen_mine = k'.seen_mine;
        ticket = k'.ticket;
        turn = k'.turn;
        few = k'.few;
        joined = λ n x e. let o = k'.joined n x e in (still r.merged other x.number o.0, o.1);
      } in
      let by_cases : (Q : ℕ → V → Type 0) → Q id b → Q other z → ((j : ℕ) (x : V) → j ≢ id → j ≢ other → get_elem? s.views j ≡ some x → Q j x) → (j : ℕ) (x : V) → get_elem? L j ≡ some x → Q j x
      = λ Q mine its rest j x e. ⊎_elim (λ (t : (j ≡ other) × (z ≡ x)). subst (λ (y : ℕ × V). Q y.0 y.1) (λ i. (sym t.0 i, t.1 i)) its)
      (λ (t : (j ≢ other) × (get_elem? vs j ≡ some x)). ⊎_elim (λ (t' : (j ≡ id) × (b ≡ x)). subst (λ (y : ℕ × V). Q y.0 y.1) (λ i. (sym t'.0 i, t'.1 i)) mine)
      (λ (t' : (j ≢ id) × (get_elem? s.views j ≡ some x)). rest j x t'.0 t.0 t'.1) (at_set s.views id j b x t.1)) (at_set vs other j z x e) in
      let mine' = over id v old in
      let number' : w.number ≡ other = old'.number in
      let longer_seen : (c : Bool) → ltb (length v.seen) (length w.seen) ≡ c → StartsWith r.log (cond c w.seen v.seen) × (entries_of id (cond c w.seen v.seen) ≡ v.mine) × StartsWith (cond c w.seen v.seen) (cond c v.seen w.seen)
      = λ c e. elim c as (λ c. ltb (length v.seen) (length w.seen) ≡ c → StartsWith r.log (cond c w.seen v.seen) × (entries_of id (cond c w.seen v.seen) ≡ v.mine) × StartsWith (cond c w.seen v.seen) (cond c v.seen w.seen)) [
        | true ↦ (λ e. let le = shorter (length v.seen) (length w.seen) e in (old'.seen, sym (as_many_in id r.log v.seen w.seen old.seen old'.seen le (old.mine ∙ sym old.seen_mine)) ∙ old.mine, begins_of r.log v.seen w.seen old.seen old'.seen le))
        | false ↦ (λ e. (old.seen, old.seen_mine, begins_of r.log w.seen v.seen old'.seen old.seen (not_shorter (length v.seen) (length w.seen) e)))
      ] e in
      let seen = longer_seen (ltb (length v.seen) (length w.seen)) refl in
      let its' = over other w old' in
      let in_other : (i : ℕ) (j : Joined M C R G) → get_elem? (as_joined w ∷ w.joined) i ≡ some j → (merged j.number ≡ true) × (entries_of j.number r.log ≡ j.mine) = λ i j e. from_other r.log merged other w i j (ap (λ b. cond b true (r.merged w.number)) (eq-eqb w.number other number')) (ap (λ k. entries_of k r.log) number' ∙ old'.mine) its'.joined e in
      let mine : K id b = record {
        number = old.number;
        room_is = old.room_is;
        seen = seen.0;
        had_seen = seen.2;
        mine = old.mine;
        seen_mine = seen.1;
        ticket = mine'.ticket;
        turn = λ g. absurd (true≢false (sym g ∙ resting));
        few = old.few;
        joined = λ k j e. ⊎_elim (λ h. mine'.joined k j h)
            (λ (t : (i : ℕ) × (get_elem? (as_joined w ∷ w.joined) i ≡ some j)). in_other t.0 j t.1) (at_either v.joined (as_joined w ∷ w.joined) k j e);
      } in whole m places _ r.log (
        record {
          log = r.log;
          room = r.room;
          merged = merged;
          holder = r.holder;
          answered = r.answered;
          two_words = r.two_words;
          serving = r.serving ∙ ap (λ k. (length r.log + k) % 18446744073709551616) (sym as_passed);
          next_ticket = r.next_ticket ∙ (λ i. ((length r.log + sym as_passed i) + sym as_many i) % 18446744073709551616);
          few_passes = subst (λ n. n ≤ 256) (sym same_length) r.few_passes;
          each = by_cases (λ j x. x.spent ≡ false → K j x) (λ _. mine) (λ g. absurd (true≢false g)) (λ j x ne ne' e l. over j x (r.each j x e l));
          spent = by_cases (λ j x. x.spent ≡ merged j) (r.spent id v at ∙ sym (ap (λ b. cond b true (r.merged id)) (ne_eqb id other (λ e. apart (sym e))))) (sym (ap (λ b. cond b true (r.merged other)) (eq-eqb other other refl)))
              (λ j x _ ne e. r.spent j x e ∙ sym (ap (λ b. cond b true (r.merged j)) (ne_eqb j other ne)));
          idle = by_cases (λ j x. x.spent ≡ true → (x.ticket ≡ None) × (x.turn ≡ false) × (owes m x ≡ 0)) (λ g. r.idle id v at g) (λ _. (refl, refl, omega arith)) (λ j x _ _ e. r.idle j x e);
          others = λ k l. let far : length s.views ≤ k = subst (λ n. n ≤ k) same_length l in let o = r.others k far in let inside : other < length s.views = inside_of s.views other w there in
              (o.0, ap (λ b. cond b true (r.merged k)) (ne_eqb k other (λ e. omega arith)) ∙ o.1, as_often k ∙ o.2);
          first = λ x e. by_cases (λ j x. j ≡ 0 → (x.spent ≡ false) × (x.made ≡ length L)) (λ h. let f = r.first v (subst (λ k. get_elem? s.views k ≡ some v) h at) in (f.0, f.1 ∙ sym same_length))
              (λ h. absurd (not_first (number' ∙ h))) (λ j x _ _ e h. let f = r.first x (subst (λ k. get_elem? s.views k ≡ some x) h e) in (f.0, f.1 ∙ sym same_length)) 0 x e refl;
          apart = λ i j a c t ea ec ha hc. by_cases (λ i a. a.ticket ≡ Some t → i ≡ j)
              (λ hv. by_cases (λ j c. c.ticket ≡ Some t → id ≡ j) (λ _. refl) (λ h. absurd (not_some t (sym h))) (λ j c _ _ e h. r.apart id j v c t at e hv h) j c ec hc)
              (λ h. absurd (not_some t (sym h)))
              (λ i a _ _ e h. by_cases (λ j c. c.ticket ≡ Some t → i ≡ j) (λ hv. r.apart i id a v t e at h hv) (λ h. absurd (not_some t (sym h))) (λ j c _ _ e' h'. r.apart i j a c t e e' h h') j c ec hc) i a ea ha;
          only = by_cases (λ j x. x.turn ≡ true → r.holder ≡ Some j) (λ g. absurd (true≢false (sym g ∙ resting))) (λ g. absurd (true≢false (sym g))) (λ j x _ _ e. r.only j x e);
          has = λ j g. let o = r.has j g in let ne = not_holder s r id v at resting j g in let ne' = not_holder s r other w there resting' j g in
              (o.0, set_else vs other j z ne' ∙ (set_else s.views id j b ne ∙ o.1), o.2);
          slot = r.slot;
          once = λ k l. as_often k ∙ r.once k (subst (λ n. k < n) same_length l);
          counted = omega arith;
          roomy = omega arith;
        },
        refl,
      ) (guards_join m places s r.log g id v b other w z at apart there at' refl refl refl refl refl w_inside w_knocking refl refl refl refl)
