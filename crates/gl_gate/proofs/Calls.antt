-- From the turn to what the call tells.
use Rattle.std.proofs.Common.{◌≡◌, ℕ, ◌+◌, ◌≤◌, ◌<◌, List, [], ◌∷◌, ◌++◌, length, length-append, ltb, drop, sym, refl, ap, ◌∙◌, subst, arith, Bool, true, false}
use Rattle.std.proofs.lemmas.List.{append_assoc, append-nil}
use Rattle.std.specs.Prelude.{cond}
use mathlib.Core.Option as maybe
use Rattle.atomic_table.specs.Table.{step}
use Rattle.gl_world.specs.declared.machine.Machine.{Ghosts}
use Rattle.gl_world.specs.declared.history.Entry.{Entry}
use Rattle.gl_world.specs.History.{StartsWith, Answered, Legal, fold, fold_from, begun_in, ended_in, owed, entry, entries_of}
use Rattle.gl_world.specs.Laws.{Laws}
use Rattle.gl_world.specs.Removal.{Removes}
use Rattle.gl_world.proofs.Histories.{fold_snoc, fold_append, answered_snoc, answered_prefix, answered_rest, placed_snoc, entries_same, entries_other, entries_append, begun_snoc, ended_snoc, owed_ends, owed_more}
use Rattle.gl_world.proofs.Phases.{fold_sound, removal_before, removal_after, stage_since}
use Rattle.gl_world.proofs.Removals.{own_removals, strangers}
use Rattle.gl_rule.specs.declared.held.Held.{Held}
use Rattle.gl_rule.specs.declared.view.View.{View}
use Rattle.gl_rule.specs.Sums.{times}
use Rattle.gl_rule.specs.Turn.{Seated, owes}
use Rattle.gl_rule.specs.Plays.{EntryCommitted, Learnt}
use Rattle.gl_rule.specs.Views.{with_entry, with_turn_passed, taking_in}
use Rattle.gl_gate.specs.Rests.{AtRest, Keeps}
use Rattle.gl_gate.specs.Calls.{SamePass, HasItsOwn, MayCall, MayName, MayEndRemoval, RemovesNothing, Acts, Refuses}
use Rattle.gl_gate.specs.Turns.{Made, MayCommitSeat, Reached}

nothing_more : {A : Type 0} (xs ys : List A) → xs ++ ys ≡ xs → ys ≡ []
nothing_more xs [] e = refl
nothing_more xs (y ∷ ys) e = let l = length-append xs (y ∷ ys) in let k : length (xs ++ y ∷ ys) ≡ length xs = ap (λ l. length l) e in absurd (omega arith)

begins_with_both : {A : Type 0} (xs ys : List A) (c : Bool) → StartsWith (cond c ys xs) (cond c xs ys) → StartsWith (cond c ys xs) xs × StartsWith (cond c ys xs) ys
begins_with_both xs ys true h = (h, ([], sym (append-nil ys)))
begins_with_both xs ys false h = (([], sym (append-nil xs)), h)

module _ {M C R G : Type 0} where
  -- what came between two beginnings of the history that have the same entries of an actor has none of them
  pub none_between : (n : ℕ) (seen later between mine : List (Entry M C R G)) → later ≡ seen ++ between → entries_of n later ≡ mine → entries_of n seen ≡ mine → entries_of n between ≡ []
  none_between n seen later between mine is after before = nothing_more (entries_of n seen) (entries_of n between) (sym (entries_append n seen between) ∙ (ap (λ l. entries_of n l) (sym is) ∙ (after ∙ sym before)))

module _ {M C R G : Type 0} (m : Ghosts M C R G) where
  -- what a pass owes after one more entry
  owed_after : (mine : List (Entry M C R G)) (e : Entry M C R G) → ended_in m mine ≤ begun_in m mine → (m.ends e.call ≡ true → 0 < owed m mine) → (b : Bool) → m.ends e.call ≡ b
      → (owed m (mine ++ e ∷ []) + cond {A = ℕ} b 1 0 ≡ owed m mine + cond (m.begins e.call e.reply) 1 0) × (ended_in m (mine ++ e ∷ []) ≤ begun_in m (mine ++ e ∷ []))
  owed_after mine e paid may true is = let b = begun_snoc m mine e in let d = ended_snoc m mine e in let some = may is in let one : cond {A = ℕ} (m.ends e.call) 1 0 ≡ 1 = ap (λ (x : Bool). cond {A = ℕ} x 1 0) is in (omega arith, omega arith)
  owed_after mine e paid may false is = let b = begun_snoc m mine e in let d = ended_snoc m mine e in let none : cond {A = ℕ} (m.ends e.call) 1 0 ≡ 0 = ap (λ (x : Bool). cond {A = ℕ} x 1 0) is in (omega arith, omega arith)

  -- the longer of what two passes have seen begins with what each of them has seen
  taken_in : (v w b : View M C R G) → b ≡ taking_in v w → Learnt m b → StartsWith b.seen v.seen × StartsWith b.seen w.seen
  taken_in v w b is learnt = subst (λ (x : View M C R G). StartsWith x.seen v.seen × StartsWith x.seen w.seen) (sym is)
      (begins_with_both v.seen w.seen (ltb (length v.seen) (length w.seen)) (subst (λ (x : View M C R G). StartsWith x.seen x.had_seen) is learnt.had_seen))

  -- what a pass had seen before a join is a beginning of what it has seen after it
  pub join_seen : (v' v w b b' : View M C R G) → v ≡ v' → b ≡ taking_in v w → b' ≡ b → Learnt m b → StartsWith b'.seen v'.seen
  join_seen v' v w b b' e is same learnt = subst (λ (x : View M C R G × View M C R G). StartsWith x.1.seen x.0.seen) (λ i. (e i, sym same i)) ((taken_in v w b is learnt).0)

  -- what the other pass had seen before a join is a beginning of what the pass has seen after it
  pub join_seen_other : (v w w' b b' : View M C R G) → w ≡ w' → b ≡ taking_in v w → b' ≡ b → Learnt m b → StartsWith b'.seen w'.seen
  join_seen_other v w w' b b' e is same learnt = subst (λ (x : View M C R G × View M C R G). StartsWith x.1.seen x.0.seen) (λ i. (e i, sym same i)) (taken_in v w b is learnt).1

module _ {M C R G : Type 0} (m : Ghosts M C R G) (laws : Laws m) where
  -- what an actor removes stays as it is while its own entries stay
  pub removals_stay : (n : ℕ) (seen later mine : List (Entry M C R G)) → StartsWith later seen → Answered m later → entries_of n later ≡ mine → entries_of n seen ≡ mine → (p : ℕ)
      → (Removes m (fold m later) n p → Removes m (fold m seen) n p) × (Removes m (fold m seen) n p → Removes m (fold m later) n p)
  removals_stay n seen later mine begins answered after before p = let between : List (Entry M C R G) = begins.0 in let none = none_between n seen later between mine begins.1 after before in
      let all = subst (λ l. Answered m l) begins.1 answered in let sound = fold_sound m laws m.opening seen laws.opens_sound (answered_prefix m m.opening seen between all) in
      let rest = answered_rest m m.opening seen between all in let is : fold m later ≡ fold_from m (fold m seen) between = ap (λ l. fold m l) begins.1 ∙ fold_append m m.opening seen between in
      ((λ at. removal_before m laws n (fold m seen) between p sound rest none (subst (λ w. Removes m w n p) is at)), λ at. subst (λ w. Removes m w n p) (sym is) (removal_after m laws n (fold m seen) between p sound rest none at).0)

  -- what the pass had drained before the call is what it has to have drained at its turn
  may_end : (a b : Seated M C R G) (call : C) → Reached m a b → HasItsOwn a.0 → MayEndRemoval m a.0 call → MayEndRemoval m b.0 call
  may_end a b call at own last is_last p removes = let n : ℕ = a.0.number in
      let after : entries_of n b.0.seen ≡ a.0.mine = ap (λ k. entries_of k b.0.seen) (sym at.same.number) ∙ (at.own ∙ at.mine) in
      let before = (removals_stay n a.0.seen b.0.seen a.0.mine at.seen at.legal.0 after own p).0 (subst (λ k. Removes m (fold m b.0.seen) k p) at.same.number removes) in
      subst (λ l. 0 < times p l) (sym at.same.drained) (last is_last p before)

  pub may_commit : (a b d : Seated M C R G) (actor : ℕ) (call : C) (reply : R) (old new : List ℕ) → Reached m a b → Made m b actor call reply old new d → a.0.number ≡ actor → m.FitsCall call → MayCall m a.0 call
      → (m.ends call ≡ true → m.begins call reply ≡ false) → (m.ends call ≡ false → length b.0.seen < b.0.room) → HasItsOwn a.0 → MayEndRemoval m a.0 call → MayName m a.0 call → MayCommitSeat m d
  may_commit a b d actor call reply old new at made is fits may not_both room own last named = let h : Held M C R G = made.held in let number : actor ≡ b.0.number = sym is ∙ sym at.same.number in
      subst (λ x. MayCommitSeat m x) (sym made.seat) record {
        held = h;
        own_entry = entry actor call reply;
        slot = refl;
        turn = at.turn.turn;
        live = at.turn.live;
        may = record {
          by_pass = number;
          reply = made.answer;
          fits = fits;
          slot = made.in_slot;
          ends = λ e. (not_both e, subst (λ l. 0 < owed m l) (sym at.mine) (may.ends e));
          other = λ e. (subst (λ l. owed m l ≤ 1) (sym at.mine) (may.begins e), room e);
          named = λ p e. subst (λ l. 0 < times p l) (sym at.same.inside) (named.named p e);
          refused = λ p e. subst (λ l. 0 < times p l) (sym at.same.closed) (named.refused p e);
          last = λ is_last p removes. may_end a b call at own last is_last p (subst (λ k. Removes m (fold m b.0.seen) k p) number removes);
        };
      }

  pub acts : (a b d f : Seated M C R G) (actor : ℕ) (call : C) (reply : R) (old new : List ℕ) → Reached m a b → Made m b actor call reply old new d → AtRest a → HasItsOwn a.0 → ended_in m a.0.mine ≤ begun_in m a.0.mine → MayCall m a.0 call → a.0.number ≡ actor → m.FitsCall call → MayName m a.0 call
      → (m.ends call ≡ false → length b.0.seen < b.0.room) → EntryCommitted (step 1 1 1 0 maybe.none) d 0 f → Acts m a.0 call reply old new f.0 × AtRest f × SamePass a.0 f.0
  acts a b d f actor call reply old new at made rests own paid may is fits named room told = let e : Entry M C R G = entry actor call reply in let h : Held M C R G = made.held in let w : View M C R G = with_entry b.0 e in
      let between : List (Entry M C R G) = at.seen.0 in let before : List (Entry M C R G) = a.0.seen ++ between in let e' : Entry M C R G = entry a.0.number call reply in
      let told' = subst (λ x. EntryCommitted (step 1 1 1 0 maybe.none) x 0 f) made.seat told in let end : f ≡ (w, []) = told' h e refl made.in_slot.kept in
      let whole : b.0.seen ≡ before = at.seen.1 in
      let after : entries_of a.0.number b.0.seen ≡ a.0.mine = ap (λ k. entries_of k b.0.seen) (sym at.same.number) ∙ (at.own ∙ at.mine) in
      let none = none_between a.0.number a.0.seen b.0.seen between a.0.mine whole after own in
      let legal : Legal m w.seen = (answered_snoc m m.opening b.0.seen e at.legal.0 made.answer fits, placed_snoc m m.opening b.0.seen e at.legal.1 (λ p n. at.named p (named.named p n)) (λ p r. at.closed p (named.refused p r))) in
      let seen_is : w.seen ≡ before ++ e' ∷ [] = λ i. whole i ++ entry (sym is i) call reply ∷ [] in
      let begins : StartsWith w.seen a.0.seen = (between ++ e' ∷ [], seen_is ∙ append_assoc a.0.seen between (e' ∷ [])) in
      subst (λ x. Acts m a.0 call reply old new x.0 × AtRest x × SamePass a.0 x.0) (sym end) (
        record {
          between = between;
          seen = seen_is;
          mine = λ i. at.mine i ++ entry (sym is i) call reply ∷ [];
          others = none;
          strangers = λ zero_is. let no = at.strangers zero_is in (no.0, λ n far. entries_other n b.0.seen e (λ same. let own_number : a.0.number ≡ n = is ∙ same in absurd (omega arith)) ∙ no.1 n far);
          world = ap (λ l. fold m l) seen_is ∙ fold_snoc m m.opening before e';
          answer = made.answer ∙ (λ i. m.reply_of (fold m (whole i)) (sym is i) call);
          bytes = made.bytes ∙ (λ i. m.bytes_of (fold m (whole i)) (sym is i) call ++ drop (length (m.bytes_of (fold m (whole i)) (sym is i) call)) old);
          owed = subst (λ l. owed m l + cond (m.ends call) 1 0 ≡ owed m a.0.mine + cond (m.begins call reply) 1 0) (λ i. sym at.mine i ++ entry actor call reply ∷ []) (owed_after m a.0.mine (entry actor call reply) paid may.ends (m.ends call) refl).0;
          passed = at.passed;
          room = λ g. let p = room g in subst (λ (x : List (Entry M C R G) × ℕ). length x.0 < x.1) (λ i. (whole i, at.same.room i)) p;
          legal = legal;
          forward = λ p. stage_since m laws w.seen a.0.seen p legal.0 begins;
          closed = λ p knows. let low = at.closed p knows in let more = stage_since m laws w.seen b.0.seen p legal.0 (e ∷ [], refl) in omega arith;
          removals = own_removals m laws a.0.number a.0.seen between call reply (subst (λ l. Answered m l) seen_is legal.0) none;
        },
        record { no_slot = refl; no_ticket = refl; no_turn = refl; no_knock = at.no_knock ∙ rests.no_knock; live = at.turn.live },
        record { number = at.same.number; room = at.same.room; joined = at.same.joined; made = at.same.made; inside = at.same.inside; closed = at.same.closed; drained = at.same.drained },
      )

  pub refuses : (a b f : Seated M C R G) (call : C) → Reached m a b → AtRest a → HasItsOwn a.0 → b.0.room ≤ length b.0.seen → m.ends call ≡ false → f ≡ (with_turn_passed b.0, []) → Refuses m a.0 call f.0 × AtRest f × SamePass a.0 f.0
  refuses a b f call at rests own full ends is = let after : entries_of a.0.number b.0.seen ≡ a.0.mine = ap (λ k. entries_of k b.0.seen) (sym at.same.number) ∙ (at.own ∙ at.mine) in
      subst (λ x. Refuses m a.0 call x.0 × AtRest x × SamePass a.0 x.0) (sym is) (
        record {
          seen = at.seen;
          mine = at.mine;
          full = subst (λ k. k ≤ length b.0.seen) at.same.room full;
          not_second = ends;
          passed = ap (λ n. n + 1) at.passed;
          legal = at.legal;
          strangers = at.strangers;
          removes = λ p removes. (removals_stay a.0.number a.0.seen b.0.seen a.0.mine at.seen at.legal.0 after own p).0 removes;
        },
        record { no_slot = refl; no_ticket = refl; no_turn = refl; no_knock = at.no_knock ∙ rests.no_knock; live = at.turn.live },
        record { number = at.same.number; room = at.same.room; joined = at.same.joined; made = at.same.made; inside = at.same.inside; closed = at.same.closed; drained = at.same.drained },
      )

  -- after a call the pass owes two entries at most
  few_owed : (v : View M C R G) (call : C) (reply : R) (actor : ℕ) → MayCall m v call → owes m v ≤ 2 → (m.ends call ≡ true → m.begins call reply ≡ false) → (b : Bool) → m.ends call ≡ b → owed m (v.mine ++ entry actor call reply ∷ []) ≤ 2
  few_owed v call reply actor may few not_both true is = let p = owed_ends m v.mine (entry actor call reply) is (not_both is) (may.ends is) in omega arith
  few_owed v call reply actor may few not_both false is = let o = may.begins is in let p = owed_more m v.mine (entry actor call reply) in omega arith

  few_after : (v w : View M C R G) (call : C) (reply : R) (old new : List ℕ) → Acts m v call reply old new w → MayCall m v call → owes m v ≤ 2 → (m.ends call ≡ true → m.begins call reply ≡ false) → owes m w ≤ 2
  few_after v w call reply old new acts may few not_both = subst (λ l. owed m l ≤ 2) (sym acts.mine) (few_owed v call reply v.number may few not_both (m.ends call) refl)

  -- after a call it has its own entries in what it has seen
  own_after : (v w : View M C R G) (call : C) (reply : R) (old new : List ℕ) → Acts m v call reply old new w → HasItsOwn v → w.number ≡ v.number → HasItsOwn w
  own_after v w call reply old new acts own same = let e : Entry M C R G = entry v.number call reply in let before : List (Entry M C R G) = v.seen ++ acts.between in
      let none : entries_of v.number before ≡ v.mine = entries_append v.number v.seen acts.between ∙ (ap (λ l. entries_of v.number v.seen ++ l) acts.others ∙ (append-nil (entries_of v.number v.seen) ∙ own)) in
      (λ i. entries_of (same i) (acts.seen i)) ∙ (entries_same v.number before e refl ∙ (ap (λ l. l ++ e ∷ []) none ∙ sym acts.mine))

  pub keeps_acted : (a f : Seated M C R G) (number made : ℕ) (call : C) (reply : R) (old new : List ℕ) → Keeps m a number made → MayCall m a.0 call → (m.ends call ≡ true → m.begins call reply ≡ false) → Acts m a.0 call reply old new f.0 → AtRest f → SamePass a.0 f.0 → Keeps m f number made
  keeps_acted a f number made call reply old new keeps may not_both acts rests same = record {
    rests = rests;
    number_is = same.number ∙ keeps.number_is;
    made_is = same.made ∙ keeps.made_is;
    few_made = keeps.few_made;
    own = own_after a.0 f.0 call reply old new acts keeps.own same.number;
    legal = acts.legal;
    strangers = λ zero_is. let no = acts.strangers (sym same.number ∙ zero_is) in (subst (λ k. 1 ≤ k) (sym same.made) no.0, λ n far. no.1 n (subst (λ k. k ≤ n) same.made far));
    few_owed = few_after a.0 f.0 call reply old new acts may keeps.few_owed not_both;
    paid = subst (λ l. ended_in m l ≤ begun_in m l) (sym acts.mine) (owed_after m a.0.mine (entry a.0.number call reply) keeps.paid may.ends (m.ends call) refl).1;
  }

  pub keeps_refused : (a b f : Seated M C R G) (number made : ℕ) (call : C) → Keeps m a number made → Reached m a b → f ≡ (with_turn_passed b.0, []) → Refuses m a.0 call f.0 → AtRest f → SamePass a.0 f.0 → Keeps m f number made
  keeps_refused a b f number made call keeps at is refused rests same = record {
    rests = rests;
    number_is = same.number ∙ keeps.number_is;
    made_is = same.made ∙ keeps.made_is;
    few_made = keeps.few_made;
    own = subst (λ (x : Seated M C R G). entries_of x.0.number x.0.seen ≡ x.0.mine) (sym is) at.own;
    legal = refused.legal;
    strangers = λ zero_is. let no = refused.strangers (sym same.number ∙ zero_is) in (subst (λ k. 1 ≤ k) (sym same.made) no.0, λ n far. no.1 n (subst (λ k. k ≤ n) same.made far));
    few_owed = subst (λ l. owed m l ≤ 2) (sym refused.mine) keeps.few_owed;
    paid = subst (λ l. ended_in m l ≤ begun_in m l) (sym refused.mine) keeps.paid;
  }

  -- joining changes nothing of what the pass removes. The view v' is the pass's before, as its callers see it.
  pub join_removals : (v' v w b b' : View M C R G) → v ≡ v' → b ≡ taking_in v w → b' ≡ b → Learnt m b → HasItsOwn v → (p : ℕ)
      → (Removes m (fold m b'.seen) v'.number p → Removes m (fold m v'.seen) v'.number p) × (Removes m (fold m v'.seen) v'.number p → Removes m (fold m b'.seen) v'.number p)
  join_removals v' v w b b' e is same learnt own p = let T : View M C R G → View M C R G → Type 0 = λ x y. (Removes m (fold m y.seen) x.number p → Removes m (fold m x.seen) x.number p) × (Removes m (fold m x.seen) x.number p → Removes m (fold m y.seen) x.number p) in
      let number : b.number ≡ v.number = ap (λ (x : View M C R G). x.number) is in let mine : b.mine ≡ v.mine = ap (λ (x : View M C R G). x.mine) is in let begins : StartsWith b.seen v.seen = (taken_in m v w b is learnt).0 in
      subst (λ (x : View M C R G × View M C R G). T x.0 x.1) (λ i. (e i, sym same i)) (removals_stay v.number v.seen b.seen v.mine begins learnt.legal.0 (ap (λ k. entries_of k b.seen) (sym number) ∙ (learnt.own ∙ mine)) own p)

  -- a pass that made no entry removes nothing
  pub new_removes : (v v' : View M C R G) → v.mine ≡ [] → v' ≡ v → Learnt m v → RemovesNothing m v'
  new_removes v v' none same learnt = subst (λ x. RemovesNothing m x) (sym same) (λ p removes. strangers m laws v.number v.seen p learnt.legal.0 (learnt.own ∙ none) removes)
