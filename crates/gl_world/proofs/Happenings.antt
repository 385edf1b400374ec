-- What holds after every list of events.
use Rattle.std.proofs.Common.{◌<◌, ◌≡◌, ◌≢◌, ℕ, ◌≤◌, List, [], ◌∷◌, ◌++◌, sym, refl, ap, ◌∙◌, arith, subst, Bool, true, false, Some, ne_eqb}
use Rattle.std.specs.Prelude.{cond, ◌==◌, ◌&&◌}
use Rattle.std.proofs.lemmas.List.{append_assoc, append-nil}
use Rattle.std.proofs.lemmas.Bool.{true≢false}
use Rattle.std.proofs.lemmas.Bool.Decides.{nat_tests}
use mathlib.Core.Logic.{dite}
use native.Mathlib.Decide.{ℕ_discrete, dec_lt}
use Rattle.gl_world.specs.declared.machine.Machine.{Ghosts}
use Rattle.gl_world.specs.declared.history.Entry.{Entry}
use Rattle.gl_world.specs.History.{StartsWith, fold, stage, Legal}
use Rattle.gl_world.specs.Laws.{Laws}
use Rattle.gl_world.specs.Events.{Event, Enter, Commit, Leave, Close, Drain, with_pair, without_pair, Moment, beginning, world, next_entry, after, CanHappen, BegunBy, after_all, CanAllHappen, AlwaysLegal, PhasesGoForward, DrainedStaysEmpty, NothingAfterGone}
use Rattle.gl_world.proofs.Histories.{fold_snoc, answered_snoc, answered_prefix, placed_snoc, placed_prefix, placed_rest}
use Rattle.gl_world.proofs.Phases.{most_three, fold_sound, stage_since}

-- two numbers that pass a test together
same_place : (a b : ℕ) (t : Bool) → (t && (a == b)) ≡ true → a ≡ b
same_place a b true e = grind (arith, nat_tests)
same_place a b false e = absurd (true≢false (sym e))

-- a pair that stands after one was put in is that pair or stood before
put_in : (f : ℕ → ℕ → Bool) (pass place a p : ℕ) (K : Type 0) → with_pair f pass place a p ≡ true → (p ≡ place → K) → (f a p ≡ true → K) → K
put_in f pass place a p K e new old = elim ((a == pass) && (p == place)) as (λ b. ((a == pass) && (p == place)) ≡ b → cond b true (f a p) ≡ true → K) [
  | true ↦ (λ t _. new (same_place p place (a == pass) t))
  | false ↦ (λ _ h. old h)
] refl e

put_elsewhere : (f : ℕ → ℕ → Bool) (pass place a p : ℕ) → p ≢ place → with_pair f pass place a p ≡ f a p
put_elsewhere f pass place a p ne = elim ((a == pass) && (p == place)) as (λ b. ((a == pass) && (p == place)) ≡ b → cond b true (f a p) ≡ f a p) [
  | true ↦ (λ t. absurd (ne (same_place p place (a == pass) t)))
  | false ↦ (λ _. refl)
] refl

taken_out : (f : ℕ → ℕ → Bool) (pass place a p : ℕ) → without_pair f pass place a p ≡ true → f a p ≡ true
taken_out f pass place a p e = elim ((a == pass) && (p == place)) as (λ b. cond b false (f a p) ≡ true → f a p ≡ true) [
  | true ↦ (λ h. absurd (true≢false (sym h)))
  | false ↦ (λ h. h)
] e

stays_out : (f : ℕ → ℕ → Bool) (pass place a p : ℕ) → f a p ≡ false → without_pair f pass place a p ≡ false
stays_out f pass place a p e = elim ((a == pass) && (p == place)) as (λ b. cond b false (f a p) ≡ false) [ true ↦ refl | false ↦ e ]

module _ {M C R G : Type 0} (m : Ghosts M C R G) (laws : Laws m) where
  -- what each event keeps
  record Holds (s : Moment m) : Type 0 where
    pub legal : Legal m s.history
    pub closing : (p : ℕ) → s.closed p ≡ true → 2 ≤ stage m (world m s) p
    pub gone_closed : (p : ℕ) → stage m (world m s) p ≡ 3 → s.closed p ≡ true
    pub stands : (a p : ℕ) → s.inside a p ≡ true → stage m (world m s) p < 3
    pub empty : (b p : ℕ) → s.drained b p ≡ true → (s.closed p ≡ true) × ((a : ℕ) → s.inside a p ≡ false)

  open_stage : (s : Moment m) → Holds s → (p : ℕ) → s.closed p ≡ false → stage m (world m s) p < 3
  open_stage s h p open_yet = let most = most_three (m.phase_of (world m s) p) in dite (ℕ_discrete (stage m (world m s) p) 3) (λ gone. absurd (true≢false (sym (h.gone_closed p gone) ∙ open_yet))) (λ ne. omega arith)

  enters : (s : Moment m) (pass place : ℕ) (inside : ℕ → ℕ → Bool) → Holds s → (b : Bool) → s.closed place ≡ b → inside ≡ cond b s.inside (with_pair s.inside pass place) → Holds (record s { inside = inside })
  enters s pass place inside h true shut is = record {
    legal = h.legal;
    closing = h.closing;
    gone_closed = h.gone_closed;
    stands = λ a p e. h.stands a p (sym (ap (λ f. f a p) is) ∙ e);
    empty = λ b p e. let d = h.empty b p e in (d.0, λ a. ap (λ f. f a p) is ∙ d.1 a);
  }
  enters s pass place inside h false open_yet is = record {
    legal = h.legal;
    closing = h.closing;
    gone_closed = h.gone_closed;
    stands = λ a p e. put_in s.inside pass place a p (stage m (world m s) p < 3) (sym (ap (λ f. f a p) is) ∙ e) (λ same. open_stage s h p (ap s.closed same ∙ open_yet)) (λ old. h.stands a p old);
    empty = λ b p e. let d = h.empty b p e in (d.0, λ a. ap (λ f. f a p) is ∙ (put_elsewhere s.inside pass place a p (λ same. true≢false (sym d.0 ∙ (ap s.closed same ∙ open_yet))) ∙ d.1 a));
  }

  commits : (s : Moment m) (pass : ℕ) (call : C) → Holds s → CanHappen m s (Commit pass call) → Holds (after m s (Commit pass call))
  commits s pass call h can = let w : m.World = world m s in let w' : m.World = m.world_after w pass call in let e : Entry M C R G = next_entry m s pass call in
      let sound = fold_sound m laws m.opening s.history laws.opens_sound h.legal.0 in
      let is : fold m (s.history ++ e ∷ []) ≡ w' = fold_snoc m m.opening s.history e in record {
        legal = (answered_snoc m m.opening s.history e h.legal.0 refl can.0, placed_snoc m m.opening s.history e h.legal.1 (λ p named. h.stands pass p (can.1 p named)) (λ p refused. h.closing p (can.2 p refused)));
        closing = λ p shut. subst (λ x. 2 ≤ stage m x p) (sym is) (let b = h.closing p shut in let f = laws.goes_forward w pass call p sound can.0 in omega arith);
        gone_closed = λ p gone. let gone' : stage m w' p ≡ 3 = ap (λ x. stage m x p) (sym is) ∙ gone in let most = most_three (m.phase_of w p) in dite (dec_lt (stage m w p) 3)
            (λ less. let d = can.3 p less gone' in (h.empty d.0 p d.1).0) (λ more. h.gone_closed p (omega arith));
        stands = λ a p inside. subst (λ x. stage m x p < 3) (sym is) (let before = h.stands a p inside in let most = most_three (m.phase_of w' p) in dite (dec_lt (stage m w' p) 3) (λ less. less)
            (λ more. let d = can.3 p before (omega arith) in absurd (true≢false (sym inside ∙ (h.empty d.0 p d.1).1 a))));
        empty = h.empty;
      }

  closes : (s : Moment m) (pass place : ℕ) → Holds s → BegunBy m s.history pass place → Holds (after m s (Close pass place))
  closes s pass place h begun = let wider : (p : ℕ) → s.closed p ≡ true → cond (p == place) true (s.closed p) ≡ true = λ p e. elim (p == place) as (λ b. cond b true (s.closed p) ≡ true) [ true ↦ refl | false ↦ e ] in
      let since = stage_since m laws s.history (begun.0 ++ begun.1 ∷ []) place h.legal.0 (begun.2, begun.3) in let two = begun.6 in record {
        legal = h.legal;
        closing = λ p e. dite (ℕ_discrete p place) (λ same. subst (λ k. 2 ≤ stage m (world m s) k) (sym same) (omega arith))
            (λ ne. h.closing p (sym (ap (λ b. cond b true (s.closed p)) (ne_eqb p place ne)) ∙ e));
        gone_closed = λ p gone. wider p (h.gone_closed p gone);
        stands = h.stands;
        empty = λ b p e. let d = h.empty b p e in (wider p d.0, d.1);
      }

  happens : (s : Moment m) (e : Event C) → Holds s → CanHappen m s e → Holds (after m s e)
  happens s (Enter pass place) h can = enters s pass place (after m s (Enter pass place)).inside h (s.closed place) refl refl
  happens s (Commit pass call) h can = commits s pass call h can
  happens s (Leave pass place) h can = record {
    legal = h.legal;
    closing = h.closing;
    gone_closed = h.gone_closed;
    stands = λ a p e. h.stands a p (taken_out s.inside pass place a p e);
    empty = λ b p e. let d = h.empty b p e in (d.0, λ a. stays_out s.inside pass place a p (d.1 a));
  }
  happens s (Close pass place) h can = closes s pass place h can
  happens s (Drain pass place) h can = record {
    legal = h.legal;
    closing = h.closing;
    gone_closed = h.gone_closed;
    stands = h.stands;
    empty = λ b p e. put_in s.drained pass place b p ((s.closed p ≡ true) × ((a : ℕ) → s.inside a p ≡ false)) e (λ same. subst (λ k. (s.closed k ≡ true) × ((a : ℕ) → s.inside a k ≡ false)) (sym same) can) (λ old. h.empty b p old);
  }

  all_happen : (s : Moment m) (es : List (Event C)) → Holds s → CanAllHappen m s es → Holds (after_all m s es)
  all_happen s [] h can = h
  all_happen s (e ∷ es) h can = all_happen (after m s e) es (happens s e h can.0) can.1

  at_first : Holds (beginning m)
  at_first = record {
    legal = (tt, tt);
    closing = λ p e. absurd (true≢false (sym e));
    gone_closed = λ p e. let low = laws.opens_places p in absurd (omega arith);
    stands = λ a p e. absurd (true≢false (sym e));
    empty = λ b p e. absurd (true≢false (sym e));
  }

  pub always_legal : AlwaysLegal m
  always_legal events can = (all_happen (beginning m) events at_first can).legal

  grows_once : (s : Moment m) (e : Event C) → StartsWith (after m s e).history s.history
  grows_once s (Enter pass place) = ([], sym (append-nil s.history))
  grows_once s (Commit pass call) = (next_entry m s pass call ∷ [], refl)
  grows_once s (Leave pass place) = ([], sym (append-nil s.history))
  grows_once s (Close pass place) = ([], sym (append-nil s.history))
  grows_once s (Drain pass place) = ([], sym (append-nil s.history))

  grows : (s : Moment m) (es : List (Event C)) → StartsWith (after_all m s es).history s.history
  grows s [] = ([], sym (append-nil s.history))
  grows s (e ∷ es) = let more = grows (after m s e) es in let one = grows_once s e in (one.0 ++ more.0, more.1 ∙ (ap (λ l. l ++ more.0) one.1 ∙ append_assoc s.history one.0 more.0))

  after_both : (s : Moment m) (xs ys : List (Event C)) → after_all m s (xs ++ ys) ≡ after_all m (after_all m s xs) ys
  after_both s [] ys = refl
  after_both s (x ∷ xs) ys = after_both (after m s x) xs ys

  can_first : (s : Moment m) (xs ys : List (Event C)) → CanAllHappen m s (xs ++ ys) → CanAllHappen m s xs
  can_first s [] ys can = tt
  can_first s (x ∷ xs) ys can = (can.0, can_first (after m s x) xs ys can.1)

  pub phases_go_forward : PhasesGoForward m
  phases_go_forward earlier later can p = let s : Moment m = after_all m (beginning m) earlier in let all = always_legal (earlier ++ later) can in
      let more : StartsWith (after_all m (beginning m) (earlier ++ later)).history s.history = subst (λ (x : Moment m). StartsWith x.history s.history) (sym (after_both (beginning m) earlier later)) (grows s later) in
      (stage_since m laws (after_all m (beginning m) (earlier ++ later)).history s.history p all.0 more, (all_happen (beginning m) earlier at_first (can_first (beginning m) earlier later can)).closing p)

  drained_once : (s : Moment m) (e : Event C) (b p : ℕ) → s.drained b p ≡ true → (after m s e).drained b p ≡ true
  drained_once s (Enter pass place) b p is = is
  drained_once s (Commit pass call) b p is = is
  drained_once s (Leave pass place) b p is = is
  drained_once s (Close pass place) b p is = is
  drained_once s (Drain pass place) b p is = elim ((b == pass) && (p == place)) as (λ t. cond t true (s.drained b p) ≡ true) [ true ↦ refl | false ↦ is ]

  drained_on : (s : Moment m) (es : List (Event C)) (b p : ℕ) → s.drained b p ≡ true → (after_all m s es).drained b p ≡ true
  drained_on s [] b p is = is
  drained_on s (e ∷ es) b p is = drained_on (after m s e) es b p (drained_once s e b p is)

  pub drained_stays_empty : DrainedStaysEmpty m
  drained_stays_empty earlier later can b p is a = let s : Moment m = after_all m (beginning m) earlier in
      let still : (after_all m (beginning m) (earlier ++ later)).drained b p ≡ true = ap (λ (x : Moment m). x.drained b p) (after_both (beginning m) earlier later) ∙ drained_on s later b p is in
      ((all_happen (beginning m) (earlier ++ later) at_first can).empty b p still).1 a

  -- a guarded call of a legal history finds its place not Gone
  pub legal_named : (earlier between later : List (Entry M C R G)) (e : Entry M C R G) (p : ℕ) → Legal m (((earlier ++ between) ++ e ∷ []) ++ later) → stage m (fold m earlier) p ≡ 3 → m.place_of e.call ≡ Some p → ⊥
  legal_named earlier between later e p h gone named = let before : List (Entry M C R G) = earlier ++ between in
      let placed = placed_rest m m.opening before (e ∷ []) (placed_prefix m m.opening (before ++ e ∷ []) later h.1) in
      let answered = answered_prefix m m.opening before (e ∷ []) (answered_prefix m m.opening (before ++ e ∷ []) later h.0) in
      let low = placed.0 p named in let since = stage_since m laws before earlier p answered (between, refl) in absurd (omega arith)

  pub nothing_after_gone : NothingAfterGone m
  nothing_after_gone events can earlier between later e p is gone named = legal_named earlier between later e p (subst (λ l. Legal m l) is (always_legal events can)) gone named
