-- What the steps on guard words share.
use Rattle.std.proofs.Common.{◌≡◌, ℕ, ◌+◌, ◌-◌, ◌%◌, ◌<◌, ◌≤◌, ◌≢◌, List, [], ◌∷◌, length, get_or, set, sym, refl, ap, ◌∙◌, subst, arith, length-set, get_or-set_other, get_or-set_same, eq-eqb, ne_eqb, Some, Bool, false}
use Rattle.std.specs.Prelude.{cond, ◌==◌}
use Rattle.std.proofs.lemmas.List.{append-nil}
use Rattle.std.proofs.lemmas.Bool.{true≢false}
use mathlib.Core.Logic.{dite}
use native.Mathlib.Decide.{ℕ_discrete}
use mathlib.Core.Option.{some}
use lib.ListN.{get_elem?}
use Rattle.atomic_table.specs.Table.{State}
use Rattle.gl_world.specs.declared.machine.Machine.{Ghosts}
use Rattle.gl_world.specs.declared.history.Entry.{Entry}
use Rattle.gl_world.specs.History.{fold, stage}
use Rattle.gl_world.specs.Laws.{Laws}
use Rattle.gl_world.proofs.Phases.{most_three}
use Rattle.gl_rule.specs.declared.held.Held.{Held}
use Rattle.gl_rule.specs.declared.view.View.{View}
use Rattle.gl_rule.specs.Sums.{total, times, without, count_some}
use Rattle.gl_rule.specs.Turn.{InTurn, tickets, passed_on, owes, TurnRule}
use Rattle.gl_rule.specs.Guards.{at_guard, times_inside, guard_word, GuardRule}
use Rattle.gl_rule.specs.Rule.{Rule}
use Rattle.gl_rule.proofs.Sums.{total_set, total_bounded}
use Rattle.gl_rule.proofs.Change.{changed}
use Rattle.gl_rule.proofs.Turns.{has_ticket, is_live_with, is_live_in_turn, another_has}

pub times_same : (p : ℕ) (qs : List ℕ) → times p (p ∷ qs) ≡ 1 + times p qs
times_same p qs = ap (λ b. cond {A = ℕ} b 1 0 + times p qs) (eq-eqb p p refl)

pub times_other : (p q : ℕ) (qs : List ℕ) → q ≢ p → times p (q ∷ qs) ≡ times p qs
times_other p q qs ne = let e : cond {A = ℕ} (q == p) 1 0 ≡ 0 = ap (λ b. cond {A = ℕ} b 1 0) (ne_eqb q p ne) in omega arith

pub without_same : (p : ℕ) (qs : List ℕ) → 0 < times p qs → times p (without p qs) + 1 ≡ times p qs
without_same p [] h = absurd (omega arith)
without_same p (q ∷ qs) h = dite (ℕ_discrete q p)
    (λ e. let a : times p (without p (q ∷ qs)) ≡ times p qs = ap (λ b. times p (cond b qs (q ∷ without p qs))) (eq-eqb q p e) in let c : cond {A = ℕ} (q == p) 1 0 ≡ 1 = ap (λ b. cond {A = ℕ} b 1 0) (eq-eqb q p e) in omega arith)
    (λ ne. let o = times_other p q qs ne in let a : times p (without p (q ∷ qs)) ≡ times p (q ∷ without p qs) = ap (λ b. times p (cond b qs (q ∷ without p qs))) (ne_eqb q p ne) in let o' = times_other p q (without p qs) ne in
    let r = without_same p qs (omega arith) in omega arith)

pub without_other : (p r : ℕ) (qs : List ℕ) → r ≢ p → times r (without p qs) ≡ times r qs
without_other p r [] ne = refl
without_other p r (q ∷ qs) ne = dite (ℕ_discrete q p)
    (λ e. ap (λ b. times r (cond b qs (q ∷ without p qs))) (eq-eqb q p e) ∙ sym (times_other r q qs (λ f. ne (sym f ∙ e))))
    (λ other. ap (λ b. times r (cond b qs (q ∷ without p qs))) (ne_eqb q p other) ∙ ap (λ k. cond {A = ℕ} (q == r) 1 0 + k) (without_other p r qs ne))

-- the place of a guard word
pub back : (p : ℕ) → (p + 2) - 2 ≡ p
back p = omega arith

module _ {M C R G : Type 0} (m : Ghosts M C R G) (laws : Laws m) (places : ℕ) where
  abbrev V : Type 0
  V = View M C R G

  abbrev St : Type 0
  St = State (Held M C R G) V

  -- a view whose places are others
  abbrev pub placed_at : V → List ℕ → List ℕ → List ℕ → List ℕ → ℕ → V
  placed_at v i k c d n = record v { inside = i; knocking = k; closed = c; drained = d; counted = n }

  pub within : (s : St) (all : Rule m places s) {p : ℕ} → p < places → p + 2 < length s.words
  within s all l = let w = all.1.width in omega arith

  pub total_below : (p : ℕ) (vs : List V) → total (times_inside p) vs ≤ total (at_guard p) vs
  total_below p [] = omega arith
  total_below p (x ∷ xs) = let h = total_below p xs in omega arith

  -- the turn's part of the rule stays where a guard word and the places of one pass change
  pub turn_stays : (s : St) (r : TurnRule m s) (id : ℕ) (v : V) (i k c d : List ℕ) (n : ℕ) (words : List ℕ) → get_elem? s.views id ≡ some v → v.spent ≡ false → v.turn ≡ false → length words ≡ length s.words
      → get_or words 0 0 ≡ get_or s.words 0 0 → get_or words 1 0 ≡ get_or s.words 1 0
      → (kept : TurnRule m record { words = words; homes = s.homes; views = set s.views id (placed_at v i k c d n) }) × (kept.log ≡ r.log)
  turn_stays s r id v i k c d n words at live resting long next serving = let w : V = placed_at v i k c d n in let served : ℕ = length r.log + passed_on s.views in let old = r.each id v at live in
      let P = total_set (λ (u : V). u.passed) s.views id v w at in
      let T = total_set (λ (u : V). count_some u.ticket) s.views id v w at in
      let O = total_set (owes m) s.views id v w at in
      let as_passed : passed_on (set s.views id w) ≡ passed_on s.views = omega arith in
      let as_many : tickets (set s.views id w) ≡ tickets s.views = omega arith in
      let same : length r.log + passed_on (set s.views id w) ≡ served = omega arith in
      let two = r.two_words in let roomy = r.roomy in
      changed m s r id v w r.log words s.homes r.holder record {
        at = at;
        live = live;
        live_after = live;
        number = refl;
        room_is = refl;
        joined = refl;
        made = refl;
        answered = r.answered;
        grows = ([], sym (append-nil r.log));
        two_words = omega arith;
        serving = serving ∙ (r.serving ∙ ap (λ k. k % 18446744073709551616) (sym same));
        next_ticket = next ∙ (r.next_ticket ∙ (λ i. ((length r.log + sym as_passed i) + sym as_many i) % 18446744073709551616));
        others_entries = λ j _. refl;
        mine = old.mine;
        seen_mine = old.seen_mine;
        seen = old.seen;
        had_seen = old.had_seen;
        ticket = subst (λ (t : ℕ × ℕ). InTurn (length r.log + t.0) ((length r.log + t.0) + t.1) v.ticket) (λ i. (sym as_passed i, sym as_many i)) old.ticket;
        turn = λ g. absurd (true≢false (sym g ∙ resting));
        few = old.few;
        others_tickets = λ j u k ne e has. let o = has_ticket m laws places served (served + tickets s.views) u.ticket k has (r.each j u e (is_live_with m laws places s r j u k e has)).ticket in (omega arith, omega arith);
        others_turns = λ j u ne e g. let o = (r.each j u e (is_live_in_turn m laws places s r j u e g)).turn g in (o.0 ∙ ap Some (sym same), o.1);
        apart = λ j u k ne e has mine. ne (r.apart j id u v k e at has mine);
        only = λ g. absurd (true≢false (sym g ∙ resting));
        others_only = λ j u _ e g. r.only j u e g;
        has = another_has m laws places s r id v w at resting;
        slot = r.slot;
        roomy = omega arith;
      }

  -- at most as many as there are passes
  pub few_there : (s : St) (r : TurnRule m s) (g : GuardRule m places r.log s) (p : ℕ) → total (at_guard p) s.views ≤ 256
  few_there s r g p = let b = total_bounded (at_guard p) 1 s.views (λ i v e. g.once i v p e) in let few = r.few_passes in omega arith

  pub open_stage : (s : St) (r : TurnRule m s) (g : GuardRule m places r.log s) (p : ℕ) → g.shut p ≡ false → stage m (fold m r.log) p < 3
  open_stage s r g p open_yet = let t = most_three (m.phase_of (fold m r.log) p) in dite (ℕ_discrete (stage m (fold m r.log) p) 3) (λ e. absurd (true≢false (sym (g.gone_closed p e) ∙ open_yet))) (λ ne. omega arith)

  -- a step on the guard of p, after which w is there d more or fewer times: what the words and the sums of the other guards are
  pub word_at : (s : St) (log : List (Entry M C R G)) (g : GuardRule m places log s) (id p : ℕ) (v w : V) (n : ℕ) (shut : ℕ → Bool) → get_elem? s.views id ≡ some v → p + 2 < length s.words
      → ((q : ℕ) → q ≢ p → at_guard q w ≡ at_guard q v) → ((q : ℕ) → q ≢ p → shut q ≡ g.shut q) → n ≡ guard_word (shut p) (total (at_guard p) (set s.views id w))
      → (q : ℕ) → q + 2 < length (set s.words (p + 2) n) → get_or (set s.words (p + 2) n) (q + 2) 0 ≡ guard_word (shut q) (total (at_guard q) (set s.views id w))
  word_at s log g id p v w n shut at wide elsewhere others is q l = let words : List ℕ = set s.words (p + 2) n in let t = total_set (at_guard q) s.views id v w at in dite (ℕ_discrete q p)
      (λ e. subst (λ k. get_or words (k + 2) 0 ≡ guard_word (shut k) (total (at_guard k) (set s.views id w))) (sym e) (get_or-set_same s.words (p + 2) n 0 wide ∙ is))
      (λ ne. let e = elsewhere q ne in let same : total (at_guard q) (set s.views id w) ≡ total (at_guard q) s.views = omega arith in
      get_or-set_other s.words (p + 2) (q + 2) n 0 (λ e. ne (omega arith)) ∙ (g.word q (subst (λ k. q + 2 < k) (length-set s.words (p + 2) n) l) ∙ (λ i. guard_word (sym (others q ne) i) (sym same i))))
