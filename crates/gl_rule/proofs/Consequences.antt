-- What the rule says of the history and of places.
use Rattle.std.proofs.Common.{◌≡◌, ℕ, suc, ◌<◌, ◌≤◌, List, [], ◌∷◌, set, sym, refl, ap, arith, subst, inl, inr}
use mathlib.Core.Logic.{dite}
use native.Mathlib.Decide.{dec_lt, ℕ_discrete}
use mathlib.Core.Option.{some}
use lib.ListN.{get_elem?}
use Rattle.atomic_table.specs.Table.{State}
use Rattle.atomic_table.proofs.Lists.{set_else}
use Rattle.gl_rule.specs.declared.held.Held.{Held}
use Rattle.gl_rule.specs.declared.view.View.{View}
use Rattle.gl_rule.specs.Sums.{times, total, number_or_zero}
use Rattle.gl_rule.specs.Words.{closed_bit, word_values}
use Rattle.gl_rule.specs.Turn.{Seated}
use Rattle.gl_rule.specs.Views.{newcomer, joined_into_another, with_one_more, taking_in}
use Rattle.gl_rule.specs.Rule.{Rule}
use Rattle.gl_rule.specs.Steps.{Move, TakeTicket, FindTurn, Commit, PassOn, Enter, Knock, BackOut, Leave, Close, Count, Drain, ViewStep, Moves, Splits, Joins, moved, IsStep, ComesOf}
use Rattle.gl_world.specs.declared.machine.Machine.{Ghosts}
use Rattle.std.specs.Prelude.{cond, ◌==◌, ◌%◌, ◌-◌}
use Rattle.gl_rule.specs.Guards.{times_inside}
use Rattle.gl_rule.specs.Laws.{DrainedIsEmpty, PlaysAreMoves, KnownDrainedStaysEmpty, ClosedIsLeaving, InsideIsNotGone, OneHistory}
use Rattle.gl_rule.proofs.Sums.{total_set, total_snoc, total_at, total_append}

-- where a sum over a list isn't 0, one of the list adds to it
one_adds : {V : Type 0} (f : V → ℕ) (vs : List V) → 0 < total f vs → (i : ℕ) × (v : V) × (get_elem? vs i ≡ some v) × (0 < f v)
one_adds f [] more = absurd (omega arith)
one_adds f (x ∷ xs) more = dite (dec_lt 0 (f x)) (λ here. (0, x, refl, here)) (λ none. let there = one_adds f xs (omega arith) in (suc there.0, there.1, there.2, there.3))

module _ {M C R G : Type 0} where
  -- how often a pass knows a place drained
  abbrev times_drained : ℕ → View M C R G → ℕ
  times_drained p v = times p v.drained

  -- no move of a pass makes it forget what it knows drained
  knows_on : (p : ℕ) (v : View M C R G) (move : Move M C R G) → times_drained p v ≤ times_drained p (moved v move)
  knows_on p v (TakeTicket t) = omega arith
  knows_on p v (FindTurn log) = omega arith
  knows_on p v (Commit e) = omega arith
  knows_on p v PassOn = omega arith
  knows_on p v (Enter q) = omega arith
  knows_on p v (Knock q) = omega arith
  knows_on p v (BackOut q) = omega arith
  knows_on p v (Leave q) = omega arith
  knows_on p v (Close q) = omega arith
  knows_on p v (Count n) = omega arith
  knows_on p v (Drain q) = omega arith

  -- nor does any step, for all passes together
  known_on : (p : ℕ) (before after : List (View M C R G)) (step : ViewStep M C R G) → IsStep before step after → total (times_drained p) before ≤ total (times_drained p) after
  known_on p before after (Moves i move) (v, at, is) = let more = total_set (times_drained p) before i v (moved v move) at in let on = knows_on p v move in
      subst (λ l. total (times_drained p) before ≤ total (times_drained p) l) (sym is) (omega arith)
  known_on p before after (Splits i) (v, at, is) = let new : View M C R G = newcomer v.made v.room v.seen 0 v.closed v.drained in
      let more = total_set (times_drained p) before i v (with_one_more v) at in let last = total_snoc (times_drained p) (set before i (with_one_more v)) new in
      subst (λ l. total (times_drained p) before ≤ total (times_drained p) l) (sym is) (omega arith)
  known_on p before after (Joins i j) (v, w, at, apart, there, is) = let both : View M C R G = taking_in v w in let spent : View M C R G = joined_into_another in
      let more = total_set (times_drained p) before i v both at in
      let less = total_set (times_drained p) (set before i both) j w spent (subst (λ o. o ≡ some w) (sym (set_else before i j both apart)) there) in
      let sum = total_append (λ q. cond {A = ℕ} (q == p) 1 0) v.drained w.drained in
      subst (λ l. total (times_drained p) before ≤ total (times_drained p) l) (sym is) (omega arith)

module _ {M C R G : Type 0} (m : Ghosts M C R G) where
  pub one_history : OneHistory m
  one_history places s rule = (rule.0.log, (rule.0.answered, rule.1.placed), λ i v at live. (rule.0.each i v at live).seen)

  pub drained_is_empty : DrainedIsEmpty m
  drained_is_empty places s rule i j p v w at there knows inside = let d = rule.1.knows_drained i v p at knows in let none = d.1 in let one = total_at (times_inside p) s.views j w there in absurd (omega arith)

  abbrev knows_of : Seated M C R G → View M C R G
  knows_of a = a.0

  pub plays_are_moves : PlaysAreMoves m
  plays_are_moves = record {
    takes_ticket = λ st a b found told. inr (TakeTicket told.0, ap knows_of told.2);
    finds_turn = λ st a b found told. dite (ℕ_discrete found (number_or_zero a.0.ticket % word_values))
        (λ mine. let finds = told.0 mine in inr (FindTurn finds.0, ap knows_of finds.2)) (λ not_yet. inl (ap knows_of (told.1 not_yet)));
    commits = λ st a b found h e slot last told. inr (Commit e, ap knows_of (told h e slot last));
    passes_on = λ st a b found told. inr (PassOn, ap knows_of told);
    learns = λ st a b found told. inl (ap knows_of told.0);
    enters = λ st a b found told. dite (dec_lt found closed_bit) (λ less. inr (Enter (st.word - 2), ap knows_of (told.0 less))) (λ more. inr (Knock (st.word - 2), ap knows_of (told.1 (omega arith))));
    backs_out = λ st a b found told. inr (BackOut (st.word - 2), ap knows_of told);
    leaves = λ st a b found told. inr (Leave (st.word - 2), ap knows_of told);
    closes = λ st a b found told. inr (Close (st.word - 2), ap knows_of told);
    counts = λ st a b found told. dite (ℕ_discrete found closed_bit) (λ drained. inr (Drain (st.word - 2), ap knows_of (told.0 drained))) (λ not. inr (Count (found % closed_bit), ap knows_of (told.1 not)));
  }

  -- in each state that comes of one that meets the rule, a place that was known drained still is, and the rule holds
  still_drained : (places p : ℕ) (s t : State (Held M C R G) (View M C R G)) (steps : List (ViewStep M C R G)) → Rule m places s → ComesOf m places s steps t → 0 < total (times_drained p) s.views
      → Rule m places t × (0 < total (times_drained p) t.views)
  still_drained places p s t [] rule is known = subst (λ (x : State (Held M C R G) (View M C R G)). Rule m places x × (0 < total (times_drained p) x.views)) (sym is) (rule, known)
  still_drained places p s t (step ∷ steps) rule (next, rule', is, on) known = let more = known_on p s.views next.views step is in still_drained places p next t steps rule' on (omega arith)

  pub known_drained_stays_empty : KnownDrainedStaysEmpty m
  known_drained_stays_empty places s t steps rule comes i j p v w at there knows = let one = total_at (times_drained p) s.views i v at in let still = still_drained places p s t steps rule comes (omega arith) in
      let by = one_adds (times_drained p) t.views still.1 in let none = (still.0.1.knows_drained by.0 by.1 p by.2 by.3).1 in let most = total_at (times_inside p) t.views j w there in omega arith

  pub closed_is_leaving : ClosedIsLeaving m
  closed_is_leaving places s rule i p v at knows = rule.1.closing p (rule.1.knows_closed i v p at knows)

  pub inside_is_not_gone : InsideIsNotGone m
  inside_is_not_gone places s rule i p v at inside = rule.1.stands i v p at inside
