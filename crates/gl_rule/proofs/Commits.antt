-- A pass that has the turn commits an entry, or passes the turn on.
use Rattle.std.proofs.Common.{◌≡◌, ℕ, suc, ◌+◌, ◌-◌, ◌%◌, ◌<◌, ◌≤◌, ◌≢◌, List, [], ◌∷◌, ◌++◌, length, get_or, set, sym, refl, ap, ◌∙◌, subst, ⊎_elim, arith, length-set, length-append, get_or-set_other, get_or-set_same, Some, None, Bool, true, false}
use Rattle.std.proofs.lemmas.List.{append-nil}
use Rattle.std.proofs.lemmas.Bool.{true≢false}
use mathlib.Core.Logic.{dite}
use native.Mathlib.Decide.{dec_lt}
use mathlib.Core.Option.{some, some-injective}
use mathlib.Core.Option as maybe
use lib.ListN.{get_elem?}
use Rattle.atomic_table.specs.Table.{State, step, gives, put_back, rest, Allows}
use Rattle.atomic_table.proofs.Lists.{at_set}
use Rattle.gl_world.specs.declared.machine.Machine.{Ghosts}
use Rattle.gl_world.specs.declared.history.Entry.{Entry}
use Rattle.gl_world.specs.History.{Answered, fold, stage, owed}
use Rattle.gl_world.specs.Laws.{Laws}
use Rattle.gl_world.specs.Removal.{Removes}
use Rattle.gl_world.proofs.Histories.{entries_same, entries_other, fold_snoc, answered_snoc, placed_snoc, owed_ends, owed_more}
use Rattle.gl_world.proofs.Phases.{most_three, fold_sound}
use Rattle.gl_rule.specs.declared.held.Held.{Held}
use Rattle.gl_rule.specs.declared.view.View.{View}
use Rattle.gl_rule.specs.Sums.{total, times, number_or_zero, count_some}
use Rattle.gl_rule.specs.Views.{with_entry, with_turn_passed}
use Rattle.gl_rule.specs.Turn.{Seated, tickets, passed_on, owes, InSlot, SlotIs, TurnRule}
use Rattle.gl_rule.specs.Guards.{times_inside, GuardRule}
use Rattle.gl_rule.specs.Rule.{Rule}
use Rattle.gl_rule.specs.Plays.{EntryCommitted, TurnPassedOn}
use Rattle.gl_rule.specs.Commit.{MayCommit}
use Rattle.gl_rule.proofs.Sums.{total_set, total_at, total_bounded}
use Rattle.gl_rule.proofs.Change.{changed, whole, starts_further}
use Rattle.gl_rule.proofs.Guards.{guards_stay}
use Rattle.gl_rule.proofs.Turns.{has_ticket, is_live_with}

abbrev pub last_or : {A : Type 0} → A → List A → A
last_or d [] = d
last_or d (x ∷ xs) = last_or x xs

last_snoc : {A : Type 0} (l : List A) (d a : A) → last_or d (l ++ a ∷ []) ≡ a
last_snoc [] d a = refl
last_snoc (x ∷ xs) d a = last_snoc xs x a

abbrev pub slot_or : {S : Type 0} → S → List (ℕ × S) → S
slot_or d [] = d
slot_or d (x ∷ xs) = x.1

some_not_none : (t : ℕ) → Some t ≡ None → ⊥
some_not_none t e = let z : count_some (Some t) ≡ count_some None = ap count_some e in absurd (omega arith)

module _ {M C R G : Type 0} (m : Ghosts M C R G) (laws : Laws m) (places : ℕ) where
  abbrev V : Type 0
  V = View M C R G

  abbrev St : Type 0
  St = State (Held M C R G) V

  -- the pass that has the turn: the slot is out with it, it has seen the log, and its ticket is served
  pub record HasTurn (s : St) (r : TurnRule m s) (id : ℕ) (v : V) : Type 0 where
    pub held : r.holder ≡ Some id
    pub ticket : v.ticket ≡ Some (length r.log + passed_on s.views)
    pub saw : v.seen ≡ r.log
    pub away : s.homes ≡ maybe.none ∷ []
    pub nobody : (j : ℕ) (u : V) → j ≢ id → get_elem? s.views j ≡ some u → u.turn ≡ true → ⊥
    pub later : (j : ℕ) (u : V) (t : ℕ) → j ≢ id → get_elem? s.views j ≡ some u → u.ticket ≡ Some t
        → (length r.log + passed_on s.views < t) × (t < (length r.log + passed_on s.views) + tickets s.views)

  has_turn : (s : St) (r : TurnRule m s) (id : ℕ) (v : V) → get_elem? s.views id ≡ some v → v.spent ≡ false → v.turn ≡ true → HasTurn s r id v
  has_turn s r id v at live turn = let old = r.each id v at live in let o = old.turn turn in let held = r.only id v at turn in let served : ℕ = length r.log + passed_on s.views in record {
    held = held;
    ticket = o.0;
    saw = o.1;
    away = subst (λ k. SlotIs m r.log r.room k s.homes) held r.slot;
    nobody = λ j u ne e g. ne (ap number_or_zero (sym (r.only j u e g) ∙ held));
    later = λ j u t ne e g. let a = has_ticket m laws places served (served + tickets s.views) u.ticket t g (r.each j u e (is_live_with m laws places s r j u t e g)).ticket in
        let apart : served ≢ t = λ is. ne (r.apart j id u v t e at g (o.0 ∙ ap Some is)) in (omega arith, a.1);
  }

  few_after : (v : V) (h : Held M C R G) (e : Entry M C R G) → MayCommit m v h e → owes m v ≤ 2 → (b : Bool) → m.ends e.call ≡ b → owed m (v.mine ++ e ∷ []) ≤ 2
  few_after v h e c few true is = let o = c.ends is in let p = owed_ends m v.mine e is o.0 o.1 in omega arith
  few_after v h e c few false is = let o = c.other is in let p = owed_more m v.mine e in omega arith

  room_after : (v : V) (h : Held M C R G) (e : Entry M C R G) → MayCommit m v h e → (before after : ℕ) → (length v.seen - v.room) + before ≤ 512 → after ≤ 512
      → after + owes m v ≡ before + owed m (v.mine ++ e ∷ []) → (b : Bool) → m.ends e.call ≡ b → (suc (length v.seen) - v.room) + after ≤ 512
  room_after v h e c before after roomy most sum true is = let o = c.ends is in let p = owed_ends m v.mine e is o.0 o.1 in omega arith
  room_after v h e c before after roomy most sum false is = let o = c.other is in omega arith

  -- all that is owed is no more than 512
  most_owed : (s : St) (r : TurnRule m s) (id : ℕ) (v w : V) → get_elem? s.views id ≡ some v → owes m w ≤ 2 → total (owes m) (set s.views id w) ≤ 512
  most_owed s r id v w at few = let each : (j : ℕ) (u : V) → get_elem? (set s.views id w) j ≡ some u → owes m u ≤ 2 = λ j u e. ⊎_elim (λ (t : (j ≡ id) × (w ≡ u)). subst (λ x. owes m x ≤ 2) t.1 few)
      (λ (t : (j ≢ id) × (get_elem? s.views j ≡ some u)). elim u.spent as (λ b. u.spent ≡ b → owes m u ≤ 2) [ true ↦ (λ g. let i = r.idle j u t.1 g in let z = i.2 in omega arith) | false ↦ (λ g. (r.each j u t.1 g).few) ] refl)
      (at_set s.views id j w u e) in
      let b = total_bounded (owes m) 2 (set s.views id w) each in let l = length-set s.views id w in let most = r.few_passes in omega arith

  -- an entry keeps the rule of the guards
  guards_commit : (s : St) (log : List (Entry M C R G)) (g : GuardRule m places log s) (id : ℕ) (v w : V) (e : Entry M C R G) (x : ℕ) (homes : List (maybe.Option (Held M C R G))) → get_elem? s.views id ≡ some v
      → w.inside ≡ v.inside → w.knocking ≡ v.knocking → w.closed ≡ v.closed → w.drained ≡ v.drained → w.spent ≡ v.spent
      → Answered m log → m.FitsCall e.call → (m.is_last_removal e.call ≡ true → (p : ℕ) → Removes m (fold m v.seen) e.actor p → 0 < times p v.drained) → ((p : ℕ) → m.place_of e.call ≡ Some p → 0 < times p v.inside) → ((p : ℕ) → m.refused_at e.call ≡ Some p → 0 < times p v.closed) → v.seen ≡ log
      → GuardRule m places (log ++ e ∷ []) record { words = set s.words 1 x; homes = homes; views = set s.views id w }
  guards_commit s log g id v w e x homes at inside knocking closed drained spent answered fits last named refused saw = let world : m.World = fold m log in let world' : m.World = m.world_after world e.actor e.call in
      let sound = fold_sound m laws m.opening log laws.opens_sound answered in let is : fold m (log ++ e ∷ []) ≡ world' = fold_snoc m m.opening log e in
      let becomes : (p : ℕ) → stage m world p < 3 → stage m world' p ≡ 3 → 0 < times p v.drained
      = λ p before after. let o = laws.ends_place world e.actor e.call p sound fits before after in last o.1 p (ap (λ l. stage m (fold m l) p) saw ∙ o.0, ap (λ l. m.remover_of (fold m l) p) saw ∙ o.2) in
      guards_stay m places s log g id v w (set s.words 1 x) homes at inside knocking closed drained spent (length-set s.words 1 x) (λ p. get_or-set_other s.words 1 (p + 2) x 0 (λ e. omega arith)) (log ++ e ∷ [])
      (placed_snoc m m.opening log e g.placed (λ p h. g.stands id v p at (named p h)) (λ p h. g.closing p (g.knows_closed id v p at (refused p h))))
      (λ p h. subst (λ y. 2 ≤ stage m y p) (sym is) (let b = g.closing p h in let f = laws.goes_forward world e.actor e.call p sound fits in omega arith))
      (λ p h. let h' : stage m world' p ≡ 3 = ap (λ y. stage m y p) (sym is) ∙ h in dite (dec_lt (stage m world p) 3)
      (λ less. (g.knows_drained id v p at (becomes p less h')).0) (λ more. let t = most_three (m.phase_of world p) in g.gone_closed p (omega arith)))
      (λ j u p a h. subst (λ y. stage m y p < 3) (sym is) (let before = g.stands j u p a h in let t = most_three (m.phase_of world' p) in dite (dec_lt (stage m world' p) 3) (λ less. less)
      (λ more. let d = g.knows_drained id v p at (becomes p before (omega arith)) in let none = d.1 in let one = total_at (times_inside p) s.views j u a in absurd (omega arith))))

  pub commits : (slots id : ℕ) (me : Seated M C R G) (h : Held M C R G) (e : Entry M C R G) → me.0.turn ≡ true → me.0.spent ≡ false → me.1 ≡ (0, h) ∷ [] → h.history.items ≡ me.0.seen ++ e ∷ [] → MayCommit m me.0 h e
      → Allows (Rule m places) slots id me 1 (λ n. (n + 1) % 18446744073709551616) (EntryCommitted (step slots 1 1 0 maybe.none) me)
  commits slots id me h e turn live holds items may s all _ at small = let r = all.0 in let g = all.1 in let v : V = me.0 in let x : ℕ = (get_or s.words 1 0 + 1) % 18446744073709551616 in let served : ℕ = length r.log + passed_on s.views in
      let w : V = with_entry v e in let old = r.each id v at live in let has = has_turn s r id v at live turn in let log : List (Entry M C R G) = r.log ++ e ∷ [] in
      let P = total_set (λ (u : V). u.passed) s.views id v w at in
      let T = total_set (λ (u : V). count_some u.ticket) s.views id v w at in
      let O = total_set (owes m) s.views id v w at in
      let one_before : count_some v.ticket ≡ 1 = ap count_some has.ticket in
      let longer : length log ≡ length r.log + 1 = length-append r.log (e ∷ []) in
      let as_long : length v.seen ≡ length r.log = ap (λ l. length l) has.saw in
      let same : length log + passed_on (set s.views id w) ≡ served + 1 = omega arith in
      let issued : (length log + passed_on (set s.views id w)) + tickets (set s.views id w) ≡ served + tickets s.views = omega arith in
      let two = r.two_words in let roomy = r.roomy in let serving = r.serving in let room_is = old.room_is in
      let actor : e.actor ≡ id = may.by_pass ∙ old.number in
      let few : owes m w ≤ 2 = few_after v h e may old.few (m.ends e.call) refl in
      let seen_is : v.seen ++ e ∷ [] ≡ log = ap (λ l. l ++ e ∷ []) has.saw in
      let after = room_after v h e may (total (owes m) s.views) (total (owes m) (set s.views id w)) (omega arith) (most_owed s r id v w at few) O (m.ends e.call) refl in (
        w,
        gives,
        tt,
        whole m places _ log (changed m s r id v w log (set s.words 1 x) (put_back s.homes me.1) None record {
          at = at;
          live = live;
          live_after = live;
          number = refl;
          room_is = refl;
          joined = refl;
          made = refl;
          answered = answered_snoc m m.opening r.log e r.answered (may.reply ∙ ap (λ l. m.reply_of (fold m l) e.actor e.call) has.saw) may.fits;
          grows = (e ∷ [], refl);
          two_words = let l = length-set s.words 1 x in omega arith;
          serving = get_or-set_same s.words 1 x 0 (omega arith) ∙ omega arith;
          next_ticket = get_or-set_other s.words 1 0 x 0 (λ e. omega arith) ∙ (r.next_ticket ∙ ap (λ k. k % 18446744073709551616) (sym issued));
          others_entries = λ j ne. entries_other j r.log e (λ is. ne (sym is ∙ actor));
          mine = entries_same id r.log e actor ∙ ap (λ l. l ++ e ∷ []) old.mine;
          seen_mine = entries_same id v.seen e actor ∙ ap (λ l. l ++ e ∷ []) old.seen_mine;
          seen = ([], sym seen_is ∙ sym (append-nil (v.seen ++ e ∷ [])));
          had_seen = starts_further (v.seen ++ e ∷ []) v.seen v.had_seen (e ∷ [], refl) old.had_seen;
          ticket = tt;
          turn = λ g. absurd (true≢false (sym g));
          few = few;
          others_tickets = λ j u k ne e g. let o = has.later j u k ne e g in (omega arith, omega arith);
          others_turns = λ j u ne e g. absurd (has.nobody j u ne e g);
          apart = λ j u k ne e g mine. some_not_none k (sym mine);
          only = λ g. absurd (true≢false (sym g));
          others_only = λ j u ne e g. absurd (has.nobody j u ne e g);
          has = λ j g. absurd (some_not_none j (sym g));
          slot = (h, (λ i. put_back (has.away i) (holds i)), subst (λ (x : List (Entry M C R G) × ℕ). InSlot m x.0 x.1 h) (λ i. (seen_is i, old.room_is i)) may.slot);
          roomy = omega arith;
        }) (guards_commit s r.log g id v w e x (put_back s.homes me.1) at refl refl refl refl refl r.answered may.fits may.last may.named may.refused has.saw),
        λ h' e' holds' items'. let same : h ≡ h' = ap (slot_or h) (sym holds ∙ holds') in
            let is : e ≡ e' = sym (last_snoc v.seen e e) ∙ (ap (last_or e) (sym items ∙ (ap (λ (k : Held M C R G). k.history.items) same ∙ items')) ∙ last_snoc v.seen e e') in (λ i. (with_entry v (is i), rest (holds i))),
      )

  pub passes_on : (slots id : ℕ) (me : Seated M C R G) (h : Held M C R G) → me.0.turn ≡ true → me.0.spent ≡ false → me.1 ≡ (0, h) ∷ [] → InSlot m me.0.seen me.0.room h
      → Allows (Rule m places) slots id me 1 (λ n. (n + 1) % 18446744073709551616) (TurnPassedOn (step slots 1 1 0 maybe.none) me)
  passes_on slots id me h turn live holds in_slot s all _ at small = let r = all.0 in let g = all.1 in let v : V = me.0 in let x : ℕ = (get_or s.words 1 0 + 1) % 18446744073709551616 in let served : ℕ = length r.log + passed_on s.views in
      let w : V = with_turn_passed v in let old = r.each id v at live in let has = has_turn s r id v at live turn in
      let P = total_set (λ (u : V). u.passed) s.views id v w at in
      let T = total_set (λ (u : V). count_some u.ticket) s.views id v w at in
      let O = total_set (owes m) s.views id v w at in
      let one_before : count_some v.ticket ≡ 1 = ap count_some has.ticket in
      let same : length r.log + passed_on (set s.views id w) ≡ served + 1 = omega arith in
      let issued : (length r.log + passed_on (set s.views id w)) + tickets (set s.views id w) ≡ served + tickets s.views = omega arith in
      let two = r.two_words in let roomy = r.roomy in let serving = r.serving in (
        w,
        gives,
        tt,
        whole m places _ r.log (changed m s r id v w r.log (set s.words 1 x) (put_back s.homes me.1) None record {
          at = at;
          live = live;
          live_after = live;
          number = refl;
          room_is = refl;
          joined = refl;
          made = refl;
          answered = r.answered;
          grows = ([], sym (append-nil r.log));
          two_words = let l = length-set s.words 1 x in omega arith;
          serving = get_or-set_same s.words 1 x 0 (omega arith) ∙ omega arith;
          next_ticket = get_or-set_other s.words 1 0 x 0 (λ e. omega arith) ∙ (r.next_ticket ∙ ap (λ k. k % 18446744073709551616) (sym issued));
          others_entries = λ j ne. refl;
          mine = old.mine;
          seen_mine = old.seen_mine;
          seen = old.seen;
          had_seen = old.had_seen;
          ticket = tt;
          turn = λ g. absurd (true≢false (sym g));
          few = old.few;
          others_tickets = λ j u k ne e g. let o = has.later j u k ne e g in (omega arith, omega arith);
          others_turns = λ j u ne e g. absurd (has.nobody j u ne e g);
          apart = λ j u k ne e g mine. some_not_none k (sym mine);
          only = λ g. absurd (true≢false (sym g));
          others_only = λ j u ne e g. absurd (has.nobody j u ne e g);
          has = λ j g. absurd (some_not_none j (sym g));
          slot = (h, (λ i. put_back (has.away i) (holds i)), subst (λ (x : List (Entry M C R G) × ℕ). InSlot m x.0 x.1 h) (λ i. (has.saw i, old.room_is i)) in_slot);
          roomy = omega arith;
        }) (guards_stay m places s r.log g id v w (set s.words 1 x) (put_back s.homes me.1) at refl refl refl refl refl (length-set s.words 1 x) (λ p. get_or-set_other s.words 1 (p + 2) x 0 (λ e. omega arith)) r.log g.placed g.closing g.gone_closed g.stands),
        λ i. (w, rest (holds i)),
      )
