-- A pass draws a ticket, finds its turn, and learns of its own view.
use Rattle.std.proofs.Common.{◌≡◌, ℕ, ◌+◌, ◌%◌, ◌<◌, ◌≤◌, List, [], ◌∷◌, ◌++◌, length, get_or, set, sym, refl, ap, ◌∙◌, subst, arith, length-set, get_or-set_other, get_or-set_same, Option, Some, None, true, false}
use Rattle.std.proofs.lemmas.List.{append-nil}
use Rattle.std.proofs.lemmas.Bool.{true≢false, false_from_ne_true}
use mathlib.Core.Logic.{dite}
use native.Mathlib.Decide.{ℕ_discrete}
use mathlib.Core.Option.{some, some-injective}
use mathlib.Core.Option as maybe
use lib.ListN.{get_elem?}
use lib.Seq.{set-get_or}
use Rattle.atomic_table.specs.Table.{State, step, keeps, takes, Allows}
use Rattle.atomic_table.proofs.Lists.{one_turn, set_here, set_else, set_again}
use Rattle.gl_world.specs.declared.machine.Machine.{Ghosts}
use Rattle.gl_world.specs.declared.history.Entry.{Entry}
use Rattle.gl_world.specs.History.{Answered, Placed, entries_of}
use Rattle.gl_world.specs.Laws.{Laws}
use Rattle.gl_world.proofs.Histories.{answered_prefix, placed_prefix, entries_none}
use Rattle.gl_rule.specs.declared.held.Held.{Held}
use Rattle.gl_rule.specs.declared.view.View.{View}
use Rattle.gl_rule.specs.Sums.{number_or_zero, count_some}
use Rattle.gl_rule.specs.Views.{with_ticket, with_turn}
use Rattle.gl_rule.specs.Turn.{InTurn, Seated, tickets, passed_on, owes, InSlot, NoStrangers, SlotIs, TurnRule}
use Rattle.gl_rule.specs.Rule.{Rule}
use Rattle.gl_rule.specs.Plays.{TicketTaken, TurnSought, ViewLearnt}
use Rattle.gl_rule.proofs.Sums.{total_set, total_few, total_at}
use Rattle.gl_rule.proofs.Change.{changed, whole, inside_of, starts_further}
use Rattle.gl_rule.proofs.Guards.{guards_stay}

some_not_none : (t : ℕ) → Some t ≡ None → ⊥
some_not_none t e = let z : count_some (Some t) ≡ count_some None = ap count_some e in absurd (omega arith)

module _ {M C R G : Type 0} (m : Ghosts M C R G) (laws : Laws m) (places : ℕ) where
  abbrev V : Type 0
  V = View M C R G

  abbrev St : Type 0
  St = State (Held M C R G) V

  -- a ticket of a pass lies in turn
  pub has_ticket : (served issued : ℕ) (o : Option ℕ) (t : ℕ) → o ≡ Some t → InTurn served issued o → (served ≤ t) × (t < issued)
  has_ticket served issued o t e h = subst (InTurn served issued) e h

  -- a pass other than a joined one has a ticket
  pub is_live_with : (s : St) (r : TurnRule m s) (j : ℕ) (u : V) (t : ℕ) → get_elem? s.views j ≡ some u → u.ticket ≡ Some t → u.spent ≡ false
  is_live_with s r j u t e h = false_from_ne_true u.spent (λ g. let i = r.idle j u e g in some_not_none t (sym h ∙ i.0))

  pub is_live_in_turn : (s : St) (r : TurnRule m s) (j : ℕ) (u : V) → get_elem? s.views j ≡ some u → u.turn ≡ true → u.spent ≡ false
  is_live_in_turn s r j u e h = false_from_ne_true u.spent (λ g. let i = r.idle j u e g in true≢false (sym h ∙ i.1))

  -- the pass that has the turn is another than one that has not
  pub another_has : (s : St) (r : TurnRule m s) (id : ℕ) (v w : V) → get_elem? s.views id ≡ some v → v.turn ≡ false → (j : ℕ) → r.holder ≡ Some j
      → (u : V) × (get_elem? (set s.views id w) j ≡ some u) × (u.turn ≡ true)
  another_has s r id v w at resting j g = let o = r.has j g in dite (ℕ_discrete j id)
      (λ e. let same : v ≡ o.0 = some-injective v o.0 (sym at ∙ (ap (λ k. get_elem? s.views k) (sym e) ∙ o.1)) in absurd (true≢false (sym o.2 ∙ (ap (λ (u : V). u.turn) (sym same) ∙ resting))))
      (λ ne. (o.0, set_else s.views id j w ne ∙ o.1, o.2))

  pub takes_ticket : (slots id : ℕ) (me : Seated M C R G) → me.0.ticket ≡ None → me.0.turn ≡ false → me.0.spent ≡ false
      → Allows (Rule m places) slots id me 0 (λ n. (n + 1) % 18446744073709551616) (TicketTaken (step slots 0 1 0 maybe.none) me)
  takes_ticket slots id me none resting live s all _ at small = let r = all.0 in let g = all.1 in let v : V = me.0 in let served : ℕ = length r.log + passed_on s.views in let t : ℕ = served + tickets s.views in let w : V = with_ticket v t in
      let x : ℕ = (get_or s.words 0 0 + 1) % 18446744073709551616 in
      let P = total_set (λ (u : V). u.passed) s.views id v w at in
      let T = total_set (λ (u : V). count_some u.ticket) s.views id v w at in
      let O = total_set (owes m) s.views id v w at in
      let zero_before : count_some v.ticket ≡ 0 = ap count_some none in
      let old = r.each id v at live in
      let same : length r.log + passed_on (set s.views id w) ≡ served = omega arith in
      let more : tickets (set s.views id w) ≡ tickets s.views + 1 = omega arith in
      let two = r.two_words in
      let next = r.next_ticket in
      let room = r.roomy in (
        w,
        keeps,
        tt,
        whole m places _ r.log (changed m s r id v w r.log (set s.words 0 x) s.homes r.holder record {
          at = at;
          live = live;
          live_after = live;
          number = refl;
          room_is = refl;
          joined = refl;
          made = refl;
          answered = r.answered;
          grows = ([], sym (append-nil r.log));
          two_words = let l = length-set s.words 0 x in omega arith;
          serving = get_or-set_other s.words 0 1 x 0 (λ e. omega arith) ∙ (r.serving ∙ ap (λ k. k % 18446744073709551616) (sym same));
          next_ticket = get_or-set_same s.words 0 x 0 (omega arith) ∙ omega arith;
          others_entries = λ j _. refl;
          mine = old.mine;
          seen_mine = old.seen_mine;
          seen = old.seen;
          had_seen = old.had_seen;
          ticket = (omega arith, omega arith);
          turn = λ g. absurd (true≢false (sym g ∙ resting));
          few = old.few;
          others_tickets = λ j u k ne e has. let o = has_ticket served t u.ticket k has (r.each j u e (is_live_with s r j u k e has)).ticket in (omega arith, omega arith);
          others_turns = λ j u ne e g. let o = (r.each j u e (is_live_in_turn s r j u e g)).turn g in (o.0 ∙ ap Some (sym same), o.1);
          apart = λ j u k ne e has mine. let o = has_ticket served t u.ticket k has (r.each j u e (is_live_with s r j u k e has)).ticket in let same : t ≡ k = ap number_or_zero mine in absurd (omega arith);
          only = λ g. absurd (true≢false (sym g ∙ resting));
          others_only = λ j u _ e g. r.only j u e g;
          has = another_has s r id v w at resting;
          slot = r.slot;
          roomy = omega arith;
        }) (guards_stay m places s r.log g id v w (set s.words 0 x) s.homes at refl refl refl refl refl (length-set s.words 0 x) (λ p. get_or-set_other s.words 0 (p + 2) x 0 (λ e. omega arith)) r.log g.placed g.closing g.gone_closed g.stands),
        (t, next, refl),
      )

  -- where nobody has the turn, the slot is at home
  pub at_home : (log : List (Entry M C R G)) (room : ℕ) (holder : Option ℕ) (homes : List (maybe.Option (Held M C R G))) → ((k : ℕ) → holder ≡ Some k → ⊥) → SlotIs m log room holder homes
      → (h : Held M C R G) × (homes ≡ some h ∷ []) × InSlot m log room h
  at_home log room None homes nobody h = h
  at_home log room (Some k) homes nobody h = absurd (nobody k refl)

  at_most_one : (o : Option ℕ) → count_some o ≤ 1
  at_most_one (Some t) = omega arith
  at_most_one None = omega arith

  few_tickets : (views : List V) → tickets views ≤ length views
  few_tickets views = total_few (λ (v : V). count_some v.ticket) (λ v. at_most_one v.ticket) views

  -- the first pass knows how many passes were made, and no other number has an entry
  no_strangers : (s : St) (r : TurnRule m s) (id : ℕ) (v : V) → get_elem? s.views id ≡ some v → v.spent ≡ false → NoStrangers v r.log
  no_strangers s r id v at live zero_is = let first : get_elem? s.views 0 ≡ some v = subst (λ k. get_elem? s.views k ≡ some v) (sym (r.each id v at live).number ∙ zero_is) at in
      let made : v.made ≡ length s.views = (r.first v first).1 in let some_made = inside_of s.views 0 v first in
      (omega arith, λ n far. (r.others n (subst (λ k. k ≤ n) made far)).0)

  -- what holds of the history holds of each beginning of it
  no_strangers_before : (v : V) (seen rest : List (Entry M C R G)) → NoStrangers v (seen ++ rest) → NoStrangers v seen
  no_strangers_before v seen rest all zero_is = let a = all zero_is in (a.0, λ n far. entries_none n seen rest (a.1 n far))

  -- who finds its ticket served finds the turn free
  free_turn : (s : St) (r : TurnRule m s) (id t : ℕ) (v : V) → get_elem? s.views id ≡ some v → v.spent ≡ false → v.turn ≡ false → v.ticket ≡ Some t → get_or s.words 1 0 ≡ t % 18446744073709551616
      → (length r.log + passed_on s.views ≡ t) × ((k : ℕ) → r.holder ≡ Some k → ⊥)
  free_turn s r id t v at live resting has found = let served : ℕ = length r.log + passed_on s.views in let issued : ℕ = served + tickets s.views in
      let mine = has_ticket served issued v.ticket t has (r.each id v at live).ticket in let few = few_tickets s.views in let most = r.few_passes in
      let is : served ≡ t = one_turn served t 18446744073709551616 mine.0 (omega arith) (sym r.serving ∙ found) in (
        is,
        λ k g. let o = r.has k g in let u : V = o.0 in let turn = (r.each k u o.1 (is_live_in_turn s r k u o.1 o.2)).turn o.2 in
            let same : k ≡ id = r.apart k id u v t o.1 at (turn.0 ∙ ap Some is) has in
            let one : u ≡ v = some-injective u v (sym o.1 ∙ (ap (λ j. get_elem? s.views j) same ∙ at)) in true≢false (sym o.2 ∙ (ap (λ (x : V). x.turn) one ∙ resting)),
      )

  pub seeks_turn : (slots id t : ℕ) (me : Seated M C R G) → me.0.ticket ≡ Some t → me.0.turn ≡ false → me.0.spent ≡ false → me.1 ≡ [] → Allows (Rule m places) slots id me 1 (λ n. n) (TurnSought m (step slots 1 0 0 maybe.none) me)
  seeks_turn slots id t me has resting live bare s all _ at small = let r = all.0 in let g = all.1 in let v : V = me.0 in let x : ℕ = get_or s.words 1 0 in let served : ℕ = length r.log + passed_on s.views in
      let right : number_or_zero v.ticket ≡ t = ap number_or_zero has in
      dite (ℕ_discrete x (t % 18446744073709551616))
      (λ yes. let free = free_turn s r id t v at live resting has yes in let home = at_home r.log r.room r.holder s.homes free.1 r.slot in let h : Held M C R G = home.0 in let w : V = with_turn v r.log in
      let old = r.each id v at live in
      let P = total_set (λ (u : V). u.passed) s.views id v w at in
      let T = total_set (λ (u : V). count_some u.ticket) s.views id v w at in
      let O = total_set (owes m) s.views id v w at in
      let mine_owed = total_at (owes m) s.views id v at in
      let same : length r.log + passed_on (set s.views id w) ≡ served = omega arith in
      let both : passed_on (set s.views id w) ≡ passed_on s.views = omega arith in
      let as_many : tickets (set s.views id w) ≡ tickets s.views = omega arith in
      let two = r.two_words in let roomy = r.roomy in
      let mine = has_ticket served (served + tickets s.views) v.ticket t has old.ticket in (
        w,
        takes 0 h,
        ap (λ l. get_elem? l 0) home.1,
        whole m places _ r.log (changed m s r id v w r.log (set s.words 1 x) (set s.homes 0 maybe.none) (Some id) record {
          at = at;
          live = live;
          live_after = live;
          number = refl;
          room_is = refl;
          joined = refl;
          made = refl;
          answered = r.answered;
          grows = ([], sym (append-nil r.log));
          two_words = let l = length-set s.words 1 x in omega arith;
          serving = get_or-set_same s.words 1 x 0 (omega arith) ∙ (r.serving ∙ ap (λ k. k % 18446744073709551616) (sym same));
          next_ticket = get_or-set_other s.words 1 0 x 0 (λ e. omega arith) ∙ (r.next_ticket ∙ (λ i. ((length r.log + sym both i) + sym as_many i) % 18446744073709551616));
          others_entries = λ j _. refl;
          mine = old.mine;
          seen_mine = old.mine;
          seen = ([], sym (append-nil r.log));
          had_seen = starts_further r.log v.seen v.had_seen old.seen old.had_seen;
          ticket = subst (InTurn (length r.log + passed_on (set s.views id w)) ((length r.log + passed_on (set s.views id w)) + tickets (set s.views id w))) (sym has) (omega arith, omega arith);
          turn = λ _. (has ∙ ap Some (sym free.0 ∙ sym same), refl);
          few = old.few;
          others_tickets = λ j u k ne e g. let o = has_ticket served (served + tickets s.views) u.ticket k g (r.each j u e (is_live_with s r j u k e g)).ticket in (omega arith, omega arith);
          others_turns = λ j u ne e g. absurd (free.1 j (r.only j u e g));
          apart = λ j u k ne e g mine. ne (r.apart j id u v k e at g mine);
          only = λ _. refl;
          others_only = λ j u _ e g. absurd (free.1 j (r.only j u e g));
          has = λ j g. let is : id ≡ j = ap number_or_zero g in (w, ap (λ k. get_elem? (set s.views id w) k) (sym is) ∙ set_here s.views id w (inside_of s.views id v at), refl);
          slot = ap (λ l. set l 0 maybe.none) home.1;
          roomy = omega arith;
        }) (guards_stay m places s r.log g id v w (set s.words 1 x) (set s.homes 0 maybe.none) at refl refl refl refl refl (length-set s.words 1 x) (λ p. get_or-set_other s.words 1 (p + 2) x 0 (λ e. omega arith)) r.log g.placed g.closing g.gone_closed g.stands),
        (
          (λ _. (
            r.log,
            h,
            ap (λ l. (w, (0, h) ∷ l)) bare,
            record {
              begins = old.seen;
              legal = (r.answered, g.placed);
              in_slot = subst (λ k. InSlot m r.log k h) (sym old.room_is) home.2;
              own = ap (λ k. entries_of k r.log) old.number ∙ old.mine;
              strangers = no_strangers s r id v at live;
              room_left = let is = old.room_is in omega arith;
              closed = λ p h. g.closing p (g.knows_closed id v p at h);
              drained = λ p h. g.closing p (g.knows_drained id v p at h).0;
              inside = λ p h. g.stands id v p at h;
            },
          )),
          λ no. absurd (no (yes ∙ ap (λ k. k % 18446744073709551616) (sym right))),
        ),
      ))
      (λ no. (
        v,
        keeps,
        tt,
        subst (Rule m places) (λ i. record { words = sym (set-get_or s.words 1 0) i; homes = s.homes; views = sym (set_again s.views id v at) i }) all,
        ((λ yes. absurd (no (yes ∙ ap (λ k. k % 18446744073709551616) right))), λ _. refl),
      ))

  pub learns : (slots id : ℕ) (me : Seated M C R G) → me.0.spent ≡ false → Allows (Rule m places) slots id me 1 (λ n. n) (ViewLearnt m (step slots 1 0 0 maybe.none) me)
  learns slots id me live s all _ at small = let r = all.0 in let g = all.1 in let old = r.each id me.0 at live in (
    me.0,
    keeps,
    tt,
    subst (Rule m places) (λ i. record { words = sym (set-get_or s.words 1 0) i; homes = s.homes; views = sym (set_again s.views id me.0 at) i }) all,
    (
      refl,
      record {
        own = ap (λ k. entries_of k me.0.seen) old.number ∙ old.seen_mine;
        legal = (answered_prefix m m.opening me.0.seen old.seen.0 (subst (λ l. Answered m l) old.seen.1 r.answered), placed_prefix m m.opening me.0.seen old.seen.0 (subst (λ l. Placed m l) old.seen.1 g.placed));
        few = old.few;
        had_seen = old.had_seen;
        strangers = no_strangers_before me.0 me.0.seen old.seen.0 (subst (λ l. NoStrangers me.0 l) old.seen.1 (no_strangers s r id me.0 at live));
      },
    ),
  )
