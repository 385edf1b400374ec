-- A step keeps the rule of the guard words, where it meets what `GuardChange` asks.
use Rattle.std.proofs.Common.{◌≡◌, ℕ, zero, suc, ◌+◌, ◌<◌, ◌≤◌, ◌≢◌, List, [], ◌∷◌, ◌++◌, length, get_or, set, sym, refl, ap, ◌∙◌, subst, ⊎_elim, arith, Bool, true}
use Rattle.std.specs.Prelude.{cond, ◌==◌}
use mathlib.Core.Option.{some}
use mathlib.Core.Option as maybe
use lib.ListN.{get_elem?}
use Rattle.atomic_table.specs.Table.{State}
use Rattle.atomic_table.proofs.Lists.{at_set, set_here, at_snoc}
use Rattle.gl_rule.proofs.Change.{inside_of}
use Rattle.gl_world.specs.declared.machine.Machine.{Ghosts}
use Rattle.gl_world.specs.declared.history.Entry.{Entry}
use Rattle.gl_world.specs.History.{fold, stage, Placed}
use Rattle.gl_rule.specs.declared.held.Held.{Held}
use Rattle.gl_rule.specs.declared.view.View.{View}
use Rattle.gl_rule.specs.Sums.{total, times}
use Rattle.gl_rule.specs.Guards.{at_guard, times_inside, guard_word, GuardRule}
use Rattle.gl_rule.proofs.Sums.{total_set, total_snoc, total_append}

module _ {M C R G : Type 0} (m : Ghosts M C R G) (places : ℕ) where
  abbrev V : Type 0
  V = View M C R G

  abbrev St : Type 0
  St = State (Held M C R G) V

  pub record GuardChange (s : St) (log : List (Entry M C R G)) (g : GuardRule m places log s) (id : ℕ) (v w : V) (log' : List (Entry M C R G)) (words : List ℕ) (shut : ℕ → Bool) : Type 0 where
    pub at : get_elem? s.views id ≡ some v
    pub long : length words ≡ length s.words
    pub word : (p : ℕ) → p + 2 < length words → get_or words (p + 2) 0 ≡ guard_word (shut p) (total (at_guard p) (set s.views id w))
    pub once : (p : ℕ) → at_guard p w ≤ 1
    pub closed : (p : ℕ) → 0 < times p w.closed → shut p ≡ true
    pub drained : (p : ℕ) → 0 < times p w.drained → (shut p ≡ true) × (total (times_inside p) (set s.views id w) ≡ 0)
    pub wider : (p : ℕ) → g.shut p ≡ true → shut p ≡ true
    pub nobody : (p : ℕ) → g.shut p ≡ true → total (times_inside p) (set s.views id w) ≤ total (times_inside p) s.views
    pub closing : (p : ℕ) → shut p ≡ true → 2 ≤ stage m (fold m log') p
    pub gone_closed : (p : ℕ) → stage m (fold m log') p ≡ 3 → shut p ≡ true
    pub placed : Placed m log'
    pub stands : (p : ℕ) → 0 < times p w.inside → stage m (fold m log') p < 3
    pub others_stand : (j : ℕ) (u : V) (p : ℕ) → j ≢ id → get_elem? s.views j ≡ some u → 0 < times p u.inside → stage m (fold m log') p < 3
    pub nowhere : w.spent ≡ true → w.inside ≡ []

  pub guards_change : (s : St) (log : List (Entry M C R G)) (g : GuardRule m places log s) (id : ℕ) (v w : V) (log' : List (Entry M C R G)) (words : List ℕ) (homes : List (maybe.Option (Held M C R G))) (shut : ℕ → Bool)
      → GuardChange s log g id v w log' words shut → GuardRule m places log' record { words = words; homes = homes; views = set s.views id w }
  guards_change s log g id v w log' words homes shut c =
      let by_cases : (Q : ℕ → V → Type 0) → Q id w → ((j : ℕ) (u : V) → j ≢ id → get_elem? s.views j ≡ some u → Q j u) → (j : ℕ) (u : V) → get_elem? (set s.views id w) j ≡ some u → Q j u
      = λ Q mine rest j u e. ⊎_elim (λ (t : (j ≡ id) × (w ≡ u)). subst (λ (x : ℕ × V). Q x.0 x.1) (λ i. (sym t.0 i, t.1 i)) mine)
      (λ (t : (j ≢ id) × (get_elem? s.views j ≡ some u)). rest j u t.0 t.1) (at_set s.views id j w u e) in record {
        shut = shut;
        width = c.long ∙ g.width;
        word = c.word;
        once = λ j u p e. by_cases (λ j u. at_guard p u ≤ 1) (c.once p) (λ j u _ e. g.once j u p e) j u e;
        knows_closed = λ j u p e. by_cases (λ j u. 0 < times p u.closed → shut p ≡ true) (c.closed p) (λ j u _ e h. c.wider p (g.knows_closed j u p e h)) j u e;
        knows_drained = λ j u p e. by_cases (λ j u. 0 < times p u.drained → (shut p ≡ true) × (total (times_inside p) (set s.views id w) ≡ 0)) (c.drained p)
            (λ j u _ e h. let o = g.knows_drained j u p e h in let less = c.nobody p o.0 in let none = o.1 in (c.wider p o.0, omega arith)) j u e;
        placed = c.placed;
        closing = c.closing;
        gone_closed = c.gone_closed;
        stands = λ j u p e. by_cases (λ j u. 0 < times p u.inside → stage m (fold m log') p < 3) (c.stands p) (λ j u ne e h. c.others_stand j u p ne e h) j u e;
        nowhere = by_cases (λ j u. u.spent ≡ true → u.inside ≡ []) c.nowhere (λ j u _ e. g.nowhere j u e);
      }

  -- a step that touches no guard
  pub guards_stay : (s : St) (log : List (Entry M C R G)) (g : GuardRule m places log s) (id : ℕ) (v w : V) (words : List ℕ) (homes : List (maybe.Option (Held M C R G))) → get_elem? s.views id ≡ some v
      → w.inside ≡ v.inside → w.knocking ≡ v.knocking → w.closed ≡ v.closed → w.drained ≡ v.drained → w.spent ≡ v.spent → length words ≡ length s.words → ((p : ℕ) → get_or words (p + 2) 0 ≡ get_or s.words (p + 2) 0)
      → (log' : List (Entry M C R G)) → Placed m log' → ((p : ℕ) → g.shut p ≡ true → 2 ≤ stage m (fold m log') p) → ((p : ℕ) → stage m (fold m log') p ≡ 3 → g.shut p ≡ true)
      → ((j : ℕ) (u : V) (p : ℕ) → get_elem? s.views j ≡ some u → 0 < times p u.inside → stage m (fold m log') p < 3)
      → GuardRule m places log' record { words = words; homes = homes; views = set s.views id w }
  guards_stay s log g id v w words homes at inside knocking closed drained spent long same log' standing closing gone stands =
      let still : (p : ℕ) → at_guard p w ≡ at_guard p v = λ p i. times p (inside i) + times p (knocking i) in let still_in : (p : ℕ) → times_inside p w ≡ times_inside p v = λ p i. times p (inside i) in
      let sum : (p : ℕ) → total (at_guard p) (set s.views id w) ≡ total (at_guard p) s.views = λ p. let t = total_set (at_guard p) s.views id v w at in let e = still p in omega arith in
      let sum_in : (p : ℕ) → total (times_inside p) (set s.views id w) ≡ total (times_inside p) s.views = λ p. let t = total_set (times_inside p) s.views id v w at in let e = still_in p in omega arith in
      guards_change s log g id v w log' words homes g.shut record {
        at = at;
        long = long;
        word = λ p l. same p ∙ (g.word p (subst (λ k. p + 2 < k) long l) ∙ ap (guard_word (g.shut p)) (sym (sum p)));
        once = λ p. let e = still p in let o = g.once id v p at in omega arith;
        closed = λ p h. g.knows_closed id v p at (subst (λ l. 0 < times p l) closed h);
        drained = λ p h. let o = g.knows_drained id v p at (subst (λ l. 0 < times p l) drained h) in (o.0, sum_in p ∙ o.1);
        wider = λ p h. h;
        nobody = λ p h. let e = sum_in p in omega arith;
        placed = standing;
        closing = closing;
        gone_closed = gone;
        stands = λ p h. stands id v p at (subst (λ l. 0 < times p l) inside h);
        others_stand = λ j u p ne e h. stands j u p e h;
        nowhere = λ h. inside ∙ g.nowhere id v at (sym spent ∙ h);
      }

  -- one more pass, at no guard, which knows no more
  pub guards_split : (s : St) (log : List (Entry M C R G)) (g : GuardRule m places log s) (id : ℕ) (v w u : V) → get_elem? s.views id ≡ some v → w.inside ≡ v.inside → w.knocking ≡ v.knocking → w.closed ≡ v.closed → w.drained ≡ v.drained → w.spent ≡ v.spent
      → u.inside ≡ [] → u.knocking ≡ [] → u.closed ≡ v.closed → u.drained ≡ v.drained
      → GuardRule m places log record { words = s.words; homes = s.homes; views = set s.views id w ++ u ∷ [] }
  guards_split s log g id v w u at inside knocking closed drained spent inside' knocking' closed' drained' = let g' = guards_stay s log g id v w s.words s.homes at inside knocking closed drained spent refl (λ p. refl) log g.placed g.closing g.gone_closed g.stands in
      let vs : List V = set s.views id w in
      let none : (p : ℕ) → at_guard p u ≡ 0 = λ p i. times p (inside' i) + times p (knocking' i) in let nowhere : (p : ℕ) → times_inside p u ≡ 0 = λ p i. times p (inside' i) in
      let sum : (p : ℕ) → total (at_guard p) (vs ++ u ∷ []) ≡ total (at_guard p) vs = λ p. let t = total_snoc (at_guard p) vs u in let z = none p in omega arith in
      let sum_in : (p : ℕ) → total (times_inside p) (vs ++ u ∷ []) ≡ total (times_inside p) vs = λ p. let t = total_snoc (times_inside p) vs u in let z = nowhere p in omega arith in
      let same : total (times_inside 0) vs ≡ total (times_inside 0) vs = refl in
      let wid : get_elem? vs id ≡ some w = set_here s.views id w (inside_of s.views id v at) in
      let by_cases : (Q : V → Type 0) → ((j : ℕ) (x : V) → get_elem? vs j ≡ some x → Q x) → Q u → (j : ℕ) (x : V) → get_elem? (vs ++ u ∷ []) j ≡ some x → Q x = λ Q old new j x e. ⊎_elim (λ h. old j x h) (λ (h : u ≡ x). subst Q h new) (at_snoc vs u x j e) in record {
        shut = g'.shut;
        width = g'.width;
        word = λ p l. g'.word p l ∙ ap (guard_word (g'.shut p)) (sym (sum p));
        once = λ j x p e. by_cases (λ x. at_guard p x ≤ 1) (λ j x e. g'.once j x p e) (let z = none p in omega arith) j x e;
        knows_closed = λ j x p e. by_cases (λ x. 0 < times p x.closed → g'.shut p ≡ true) (λ j x e. g'.knows_closed j x p e) (λ h. g'.knows_closed id w p wid (subst (λ l. 0 < times p l) (closed' ∙ sym closed) h)) j x e;
        knows_drained = λ j x p e. by_cases (λ x. 0 < times p x.drained → (g'.shut p ≡ true) × (total (times_inside p) (vs ++ u ∷ []) ≡ 0)) (λ j x e h. let o = g'.knows_drained j x p e h in (o.0, sum_in p ∙ o.1))
            (λ h. let o = g'.knows_drained id w p wid (subst (λ l. 0 < times p l) (drained' ∙ sym drained) h) in (o.0, sum_in p ∙ o.1)) j x e;
        placed = g'.placed;
        closing = g'.closing;
        gone_closed = g'.gone_closed;
        stands = λ j x p e. by_cases (λ x. 0 < times p x.inside → stage m (fold m log) p < 3) (λ j x e. g'.stands j x p e) (λ h. let z = nowhere p in absurd (omega arith)) j x e;
        nowhere = λ j x e. by_cases (λ x. x.spent ≡ true → x.inside ≡ []) (λ j x e. g'.nowhere j x e) (λ _. inside') j x e;
      }

  either_times : (a b : ℕ) (K : Type 0) → (0 < a → K) → (0 < b → K) → 0 < a + b → K
  either_times zero b K f g h = g (omega arith)
  either_times (suc a) b K f g h = f (omega arith)

  -- a pass knows what another knew, which was at no guard
  pub guards_join : (s : St) (log : List (Entry M C R G)) (g : GuardRule m places log s) (id : ℕ) (v b : V) (other : ℕ) (w z : V) → get_elem? s.views id ≡ some v → ¬ (other ≡ id) → get_elem? s.views other ≡ some w → get_elem? (set s.views id b) other ≡ some w
      → b.inside ≡ v.inside → b.knocking ≡ v.knocking → b.closed ≡ v.closed ++ w.closed → b.drained ≡ v.drained ++ w.drained → b.spent ≡ v.spent → w.inside ≡ [] → w.knocking ≡ []
      → z.inside ≡ [] → z.knocking ≡ [] → z.closed ≡ [] → z.drained ≡ []
      → GuardRule m places log record { words = s.words; homes = s.homes; views = set (set s.views id b) other z }
  guards_join s log g id v b other w z at apart there there' inside knocking closed drained spent w_inside w_knocking z_inside z_knocking z_closed z_drained =
      let vs : List V = set s.views id b in let L : List V = set vs other z in
      let sum : (p : ℕ) → total (at_guard p) L ≡ total (at_guard p) s.views = λ p. let t = total_set (at_guard p) s.views id v b at in let t' = total_set (at_guard p) vs other w z there' in
      let e : at_guard p b ≡ at_guard p v = (λ i. times p (inside i) + times p (knocking i)) in let f : at_guard p w ≡ 0 = (λ i. times p (w_inside i) + times p (w_knocking i)) in let h : at_guard p z ≡ 0 = (λ i. times p (z_inside i) + times p (z_knocking i)) in omega arith in
      let sum_in : (p : ℕ) → total (times_inside p) L ≡ total (times_inside p) s.views = λ p. let t = total_set (times_inside p) s.views id v b at in let t' = total_set (times_inside p) vs other w z there' in
      let e : times_inside p b ≡ times_inside p v = (λ i. times p (inside i)) in let f : times_inside p w ≡ 0 = (λ i. times p (w_inside i)) in let h : times_inside p z ≡ 0 = (λ i. times p (z_inside i)) in omega arith in
      let by_cases : (Q : V → Type 0) → Q b → Q z → ((j : ℕ) (x : V) → get_elem? s.views j ≡ some x → Q x) → (j : ℕ) (x : V) → get_elem? L j ≡ some x → Q x
      = λ Q mine its rest j x e. ⊎_elim (λ (t : (j ≡ other) × (z ≡ x)). subst Q t.1 its)
      (λ (t : (j ≢ other) × (get_elem? vs j ≡ some x)). ⊎_elim (λ (t' : (j ≡ id) × (b ≡ x)). subst Q t'.1 mine) (λ (t' : (j ≢ id) × (get_elem? s.views j ≡ some x)). rest j x t'.1) (at_set s.views id j b x t.1)) (at_set vs other j z x e) in
      let empty : (p : ℕ) (l : List ℕ) → l ≡ [] → 0 < times p l → ⊥ = λ p l e h. let k : times p l ≡ 0 = ap (times p) e in absurd (omega arith) in
      let drained_one : (p : ℕ) (j : ℕ) (x : V) → get_elem? s.views j ≡ some x → 0 < times p x.drained → (g.shut p ≡ true) × (total (times_inside p) L ≡ 0) = λ p j x e h. let o = g.knows_drained j x p e h in (o.0, sum_in p ∙ o.1) in record {
        shut = g.shut;
        width = g.width;
        word = λ p l. g.word p l ∙ ap (guard_word (g.shut p)) (sym (sum p));
        once = λ j x p e. by_cases (λ x. at_guard p x ≤ 1) (let e : at_guard p b ≡ at_guard p v = (λ i. times p (inside i) + times p (knocking i)) in let o = g.once id v p at in omega arith)
            (let h : at_guard p z ≡ 0 = (λ i. times p (z_inside i) + times p (z_knocking i)) in omega arith) (λ j x e. g.once j x p e) j x e;
        knows_closed = λ j x p e. by_cases (λ x. 0 < times p x.closed → g.shut p ≡ true)
            (λ h. let k : times p b.closed ≡ times p v.closed + times p w.closed = ap (times p) closed ∙ total_append (λ q. cond {A = ℕ} (q == p) 1 0) v.closed w.closed in
            either_times (times p v.closed) (times p w.closed) (g.shut p ≡ true) (λ h. g.knows_closed id v p at h) (λ h. g.knows_closed other w p there h) (omega arith))
            (λ h. absurd (empty p z.closed z_closed h)) (λ j x e h. g.knows_closed j x p e h) j x e;
        knows_drained = λ j x p e. by_cases (λ x. 0 < times p x.drained → (g.shut p ≡ true) × (total (times_inside p) L ≡ 0))
            (λ h. let k : times p b.drained ≡ times p v.drained + times p w.drained = ap (times p) drained ∙ total_append (λ q. cond {A = ℕ} (q == p) 1 0) v.drained w.drained in
            either_times (times p v.drained) (times p w.drained) ((g.shut p ≡ true) × (total (times_inside p) L ≡ 0)) (λ h. drained_one p id v at h) (λ h. drained_one p other w there h) (omega arith))
            (λ h. absurd (empty p z.drained z_drained h)) (drained_one p) j x e;
        placed = g.placed;
        closing = g.closing;
        gone_closed = g.gone_closed;
        stands = λ j x p e. by_cases (λ x. 0 < times p x.inside → stage m (fold m log) p < 3) (λ h. g.stands id v p at (subst (λ l. 0 < times p l) inside h)) (λ h. absurd (empty p z.inside z_inside h)) (λ j x e h. g.stands j x p e h) j x e;
        nowhere = λ j x e. by_cases (λ x. x.spent ≡ true → x.inside ≡ []) (λ h. inside ∙ g.nowhere id v at (sym spent ∙ h)) (λ _. z_inside) (λ j x e. g.nowhere j x e) j x e;
      }
