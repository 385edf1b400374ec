-- A step that changes one view, the words, the slot and perhaps the log keeps the rule, where it meets what `Change` asks.
use Rattle.std.proofs.Common.{◌≡◌, ℕ, zero, suc, ◌+◌, ◌-◌, ◌%◌, ◌<◌, ◌≤◌, ◌≢◌, List, [], ◌∷◌, ◌++◌, length, get_or, set, sym, refl, ap, ◌∙◌, subst, ⊎_elim, arith, length-set, Option, Some, None, true, false}
use Rattle.std.proofs.lemmas.List.{append_assoc}
use Rattle.std.proofs.lemmas.Bool.{true≢false}
use Rattle.std.specs.Prelude.{cond, ◌==◌}
use mathlib.Core.Option.{some, some-ne-none}
use mathlib.Core.Option as maybe
use lib.ListN.{get_elem?}
use Rattle.atomic_table.specs.Table.{State}
use Rattle.atomic_table.proofs.Lists.{at_set}
use Rattle.gl_world.specs.declared.machine.Machine.{Ghosts}
use Rattle.gl_world.specs.declared.history.Entry.{Entry}
use Rattle.gl_world.specs.History.{StartsWith, Answered, entries_of}
use Rattle.gl_rule.specs.declared.held.Held.{Held}
use Rattle.gl_rule.specs.declared.view.View.{View}
use Rattle.gl_rule.specs.declared.view.Joined.{Joined}
use Rattle.gl_rule.specs.Sums.{total}
use Rattle.gl_rule.specs.Turn.{InTurn, tickets, passed_on, times_held, is_live, owes, Knows, SlotIs, TurnRule}
use Rattle.gl_rule.specs.Guards.{GuardRule}
use Rattle.gl_rule.specs.Rule.{Rule}
use Rattle.gl_rule.proofs.Sums.{total_set}

pub starts_further : {A : Type 0} (more whole seen : List A) → StartsWith more whole → StartsWith whole seen → StartsWith more seen
starts_further more whole seen a b = (b.0 ++ a.0, a.1 ∙ (ap (λ l. l ++ a.0) b.1 ∙ append_assoc seen b.0 a.0))

pub inside_of : {A : Type 0} (l : List A) (i : ℕ) (a : A) → get_elem? l i ≡ some a → i < length l
inside_of [] i a e = absurd (some-ne-none a (sym e))
inside_of (x ∷ xs) zero a e = omega arith
inside_of (x ∷ xs) (suc i) a e = let h = inside_of xs i a e in omega arith

pub in_turn : (served issued : ℕ) (o : Option ℕ) → ((t : ℕ) → o ≡ Some t → (served ≤ t) × (t < issued)) → InTurn served issued o
in_turn served issued None f = tt
in_turn served issued (Some t) f = f t refl

module _ {M C R G : Type 0} (m : Ghosts M C R G) where
  abbrev pub V : Type 0
  V = View M C R G

  abbrev pub E : Type 0
  E = Entry M C R G

  abbrev pub St : Type 0
  St = State (Held M C R G) V

  pub record Change (s : St) (r : TurnRule m s) (id : ℕ) (v w : V) (log : List E) (words : List ℕ) (homes : List (maybe.Option (Held M C R G))) (holder : Option ℕ) : Type 0 where
    pub at : get_elem? s.views id ≡ some v
    pub live : v.spent ≡ false
    pub live_after : w.spent ≡ false
    pub number : w.number ≡ v.number
    pub room_is : w.room ≡ v.room
    pub joined : w.joined ≡ v.joined
    pub made : w.made ≡ v.made
    pub answered : Answered m log
    pub grows : StartsWith log r.log
    pub two_words : 2 ≤ length words
    pub serving : get_or words 1 0 ≡ (length log + passed_on (set s.views id w)) % 18446744073709551616
    pub next_ticket : get_or words 0 0 ≡ ((length log + passed_on (set s.views id w)) + tickets (set s.views id w)) % 18446744073709551616
    pub others_entries : (j : ℕ) → j ≢ id → entries_of j log ≡ entries_of j r.log
    pub mine : entries_of id log ≡ w.mine
    pub seen_mine : entries_of id w.seen ≡ w.mine
    pub seen : StartsWith log w.seen
    pub had_seen : StartsWith w.seen w.had_seen
    pub ticket : InTurn (length log + passed_on (set s.views id w)) ((length log + passed_on (set s.views id w)) + tickets (set s.views id w)) w.ticket
    pub turn : w.turn ≡ true → (w.ticket ≡ Some (length log + passed_on (set s.views id w))) × (w.seen ≡ log)
    pub few : owes m w ≤ 2
    pub others_tickets : (j : ℕ) (u : V) (t : ℕ) → j ≢ id → get_elem? s.views j ≡ some u → u.ticket ≡ Some t
        → (length log + passed_on (set s.views id w) ≤ t) × (t < (length log + passed_on (set s.views id w)) + tickets (set s.views id w))
    pub others_turns : (j : ℕ) (u : V) → j ≢ id → get_elem? s.views j ≡ some u → u.turn ≡ true → (u.ticket ≡ Some (length log + passed_on (set s.views id w))) × (u.seen ≡ log)
    pub apart : (j : ℕ) (u : V) (t : ℕ) → j ≢ id → get_elem? s.views j ≡ some u → u.ticket ≡ Some t → w.ticket ≡ Some t → ⊥
    pub only : w.turn ≡ true → holder ≡ Some id
    pub others_only : (j : ℕ) (u : V) → j ≢ id → get_elem? s.views j ≡ some u → u.turn ≡ true → holder ≡ Some j
    pub has : (j : ℕ) → holder ≡ Some j → (u : V) × (get_elem? (set s.views id w) j ≡ some u) × (u.turn ≡ true)
    pub slot : SlotIs m log r.room holder homes
    pub roomy : (length log - r.room) + total (owes m) (set s.views id w) ≤ 512

  pub changed : (s : St) (r : TurnRule m s) (id : ℕ) (v w : V) (log : List E) (words : List ℕ) (homes : List (maybe.Option (Held M C R G))) (holder : Option ℕ)
      → Change s r id v w log words homes holder → (kept : TurnRule m record { words = words; homes = homes; views = set s.views id w }) × (kept.log ≡ log)
  changed s r id v w log words homes holder c = let inside : id < length s.views = inside_of s.views id v c.at in let same_length = length-set s.views id w in
      let served : ℕ = length log + passed_on (set s.views id w) in let issued : ℕ = served + tickets (set s.views id w) in
      let spent_is : w.spent ≡ v.spent = c.live_after ∙ sym c.live in
      let old = r.each id v c.at c.live in
      let not_me : (n : ℕ) → r.merged n ≡ true → n ≢ id = λ n g e. true≢false (sym g ∙ (ap r.merged e ∙ (sym (r.spent id v c.at) ∙ c.live))) in
      let as_often : (n : ℕ) → times_held n w ≡ times_held n v = λ n i. cond (spent_is i) 0 (cond (c.number i == n) 1 0) + total (λ (j : Joined M C R G). cond (j.number == n) 1 0) (c.joined i) in
      let K : ℕ → V → Type 0 = λ j u. Knows m log served issued r.room r.merged j u in
      let me : K id w = record {
        number = c.number ∙ old.number;
        room_is = c.room_is ∙ old.room_is;
        seen = c.seen;
        had_seen = c.had_seen;
        mine = c.mine;
        seen_mine = c.seen_mine;
        ticket = c.ticket;
        turn = c.turn;
        few = c.few;
        joined = λ k j e. let o = old.joined k j (subst (λ l. get_elem? l k ≡ some j) c.joined e) in (o.0, c.others_entries j.number (not_me j.number o.0) ∙ o.1);
      } in
      let others : (j : ℕ) (u : V) → j ≢ id → get_elem? s.views j ≡ some u → u.spent ≡ false → K j u = λ j u ne e l. let k = r.each j u e l in record {
        number = k.number;
        room_is = k.room_is;
        seen = starts_further log r.log u.seen c.grows k.seen;
        had_seen = k.had_seen;
        mine = c.others_entries j ne ∙ k.mine;
        seen_mine = k.seen_mine;
        ticket = in_turn served issued u.ticket (λ t has. c.others_tickets j u t ne e has);
        turn = c.others_turns j u ne e;
        few = k.few;
        joined = λ n x g. let o = k.joined n x g in (o.0, c.others_entries x.number (not_me x.number o.0) ∙ o.1);
      } in
      let by_cases : (P : ℕ → V → Type 0) → P id w → ((j : ℕ) (u : V) → j ≢ id → get_elem? s.views j ≡ some u → P j u) → (j : ℕ) (u : V) → get_elem? (set s.views id w) j ≡ some u → P j u
      = λ P mine rest j u e. ⊎_elim (λ (t : (j ≡ id) × (w ≡ u)). subst (λ (x : ℕ × V). P x.0 x.1) (λ i. (sym t.0 i, t.1 i)) mine)
      (λ (t : (j ≢ id) × (get_elem? s.views j ≡ some u)). rest j u t.0 t.1) (at_set s.views id j w u e) in (
        record {
          log = log;
          room = r.room;
          merged = r.merged;
          holder = holder;
          answered = c.answered;
          two_words = c.two_words;
          serving = c.serving;
          next_ticket = c.next_ticket;
          few_passes = subst (λ n. n ≤ 256) (sym same_length) r.few_passes;
          each = by_cases (λ j u. u.spent ≡ false → K j u) (λ _. me) others;
          spent = by_cases (λ j u. u.spent ≡ r.merged j) (spent_is ∙ r.spent id v c.at) (λ j u _ e. r.spent j u e);
          idle = by_cases (λ j u. u.spent ≡ true → (u.ticket ≡ None) × (u.turn ≡ false) × (owes m u ≡ 0)) (λ g. absurd (true≢false (sym g ∙ c.live_after))) (λ j u _ e. r.idle j u e);
          others = λ n l. let far : length s.views ≤ n = subst (λ k. k ≤ n) same_length l in let o = r.others n far in let sum = total_set (times_held n) s.views id v w c.at in let none = o.2 in
              (c.others_entries n (λ e. omega arith) ∙ o.0, o.1, (let same = as_often n in omega arith));
          first = λ u e. by_cases (λ j u. j ≡ 0 → (u.spent ≡ false) × (u.made ≡ length (set s.views id w)))
              (λ z. let o = r.first v (subst (λ k. get_elem? s.views k ≡ some v) z c.at) in (c.live_after, c.made ∙ (o.1 ∙ sym same_length)))
              (λ j u _ e z. let o = r.first u (subst (λ k. get_elem? s.views k ≡ some u) z e) in (o.0, o.1 ∙ sym same_length)) 0 u e refl;
          apart = λ i j a b t ea eb ha hb. by_cases (λ i a. a.ticket ≡ Some t → i ≡ j)
              (λ hw. by_cases (λ j b. b.ticket ≡ Some t → id ≡ j) (λ _. refl) (λ j b ne e h. absurd (c.apart j b t ne e h hw)) j b eb hb)
              (λ i a ne e h. by_cases (λ j b. b.ticket ≡ Some t → i ≡ j) (λ hw. absurd (c.apart i a t ne e h hw)) (λ j b _ e' h'. r.apart i j a b t e e' h h') j b eb hb) i a ea ha;
          only = by_cases (λ j u. u.turn ≡ true → holder ≡ Some j) c.only c.others_only;
          has = c.has;
          slot = c.slot;
          once = λ n l. let near : n < length s.views = subst (λ k. n < k) same_length l in let sum = total_set (times_held n) s.views id v w c.at in let o = r.once n near in
              let same = as_often n in omega arith;
          counted = let sum = total_set is_live s.views id v w c.at in let more = total_set (λ (u : V). length u.joined) s.views id v w c.at in
              let same : is_live w ≡ is_live v = ap (λ b. cond b 0 1) spent_is in let as_long : length w.joined ≡ length v.joined = ap (λ l. length l) c.joined in let o = r.counted in omega arith;
          roomy = c.roomy;
        },
        refl,
      )

  -- both parts of the rule
  pub whole : (places : ℕ) (s : St) (log : List E) → (kept : TurnRule m s) × (kept.log ≡ log) → GuardRule m places log s → Rule m places s
  whole places s log k g = (k.0, subst (λ l. GuardRule m places l s) (sym k.1) g)
