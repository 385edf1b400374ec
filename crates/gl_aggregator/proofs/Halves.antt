-- A visit in two halves, with the call of the driver behind between them.
use Rattle.std.proofs.Common.{◌≡◌, ℕ, ◌<◌, ◌≤◌, List, [], ◌∷◌, ◌++◌, length, Bool, true, false, Option, Some, None, inl, inr, sym, refl, ap, ◌∙◌, subst, arith}
use Rattle.std.specs.Prelude.{cond}
use Rattle.std.proofs.lemmas.Bool.{true≢false}
use Rattle.gl_base.specs.declared.op.Op.{Op}
use Rattle.gl_driver.proofs.Backs.{call_is_own, one_after_another, owes_at, refusal_is_none}
use Rattle.gl_driver.specs.Calls.{IsBack}
use Rattle.gl_driver.specs.OwnEntries.{made_deed}
use Rattle.gl_driver.specs.Told.{Told, with_call}
use Rattle.gl_gate.proofs.Grown.{acts_are_deeds, grows_on}
use Rattle.gl_gate.specs.Calls.{Acts, HasItsOwn, HoldsNoTurn, KnowsAsMuch, Refuses, SamePass}
use Rattle.gl_rule.specs.Sums.{times, without}
use Rattle.gl_rule.specs.Turn.{owes}
use Rattle.gl_rule.specs.Views.{with_closed, with_inside, without_inside}
use Rattle.gl_rule.specs.declared.view.View.{View}
use Rattle.gl_world.proofs.Histories.{answered_prefix, placed_prefix}
use Rattle.gl_world.specs.Deeds.{Deed, entries_in}
use Rattle.gl_world.specs.History.{Legal, ended_in, entry}
use Rattle.gl_world.specs.declared.machine.Machine.{Ghosts}
use Rattle.gl_aggregator.specs.Course.{Came, CountsMore, Stopped}
use Rattle.gl_aggregator.specs.Own.{AskedFor, BehindAsk, BehindTell, Own, Visit, ending, if_done, is_whole, lacks_room}
use Rattle.gl_aggregator.specs.Visiting.{IsAskAt, IsRecordOf, IsRefusal, IsTellAt, WasAsked, WasRefused, WasTold}
use Rattle.gl_aggregator.proofs.Backs.{back_closed, back_inside, knows_on, knows_same, left_grew, regrew}
use Rattle.gl_aggregator.proofs.Counts.{counts_none, counts_one}

-- What one call of the gate comes to, in the first half.
module _ {M C R G : Type 0} (m : Ghosts M C R G) (refused ask : C) where
  pub full_refused : (call : C) (v w : View M C R G) → HasItsOwn v → HasItsOwn w → SamePass v w → HoldsNoTurn w → Refuses m v call w → WasRefused m refused ask v w
  full_refused call v w own own' same no_turn refuses = record {
    did = [];
    back = refusal_is_none m v call w refuses same no_turn own own';
    is_refusal = subst (λ r. r ≤ length w.seen) (sym same.room) refuses.full;
  }

  pub record_made : (place : ℕ) (v : View M C R G) (reply : R) (old new : List ℕ) (w : View M C R G) → IsRecordOf m place refused → SamePass v w → HoldsNoTurn w → Acts m v refused reply old new w → WasRefused m refused ask v w
  record_made place v reply old new w is same no_turn acts = record {
    did = made_deed m v refused reply old new w acts ∷ [];
    back = call_is_own m v refused reply old new w acts same no_turn (is.begins_not reply) is.ends_not;
    is_refusal = inl refl;
  }

  pub ask_refused : (place : ℕ) (v : View M C R G) (reply : R) (old new : List ℕ) (w : View M C R G) → IsAskAt m place ask → SamePass v w → HoldsNoTurn w → Acts m v ask reply old new w → m.begins ask reply ≡ false → WasRefused m refused ask v w
  ask_refused place v reply old new w is same no_turn acts begins_not = record {
    did = made_deed m v ask reply old new w acts ∷ [];
    back = call_is_own m v ask reply old new w acts same no_turn begins_not is.ends_not;
    is_refusal = inr (refl, begins_not);
  }

  -- behind a closed place
  pub shut_out : (v : View M C R G) (p : ℕ) (shut w : View M C R G) → HoldsNoTurn v → shut ≡ with_closed v p → WasRefused m refused ask shut w → WasRefused m refused ask v w
  shut_out v p shut w no_turn is r = let s : WasRefused m refused ask (with_closed v p) w = subst (λ u. WasRefused m refused ask u w) is r in record {
    did = s.did;
    back = one_after_another m v (with_closed v p) w [] s.did (back_closed m v p no_turn) s.back;
    is_refusal = s.is_refusal;
  }

  -- inside a place, and out again
  pub visited : (v : View M C R G) (p : ℕ) (went w left : View M C R G) → went ≡ with_inside v p → without p went.inside ≡ v.inside → left ≡ without_inside w p → WasRefused m refused ask went w → WasRefused m refused ask v left
  visited v p went w left is back_out is_left r =
      let s : WasRefused m refused ask (with_inside v p) w = subst (λ u. WasRefused m refused ask u w) is r in
      let out : without p (p ∷ v.inside) ≡ v.inside = subst (λ (u : View M C R G). without p u.inside ≡ v.inside) is back_out in
      subst (λ u. WasRefused m refused ask v u) (sym is_left) (record { did = s.did; back = back_inside m v p s.did w out s.back; is_refusal = s.is_refusal })

module _ {M C R G : Type 0} (m : Ghosts M C R G) where
  pub ask_made : (place : ℕ) (ask : C) (v went w : View M C R G) (reply : R) (a b : List ℕ) → IsAskAt m place ask → went ≡ with_inside v place → 0 < times place went.inside → without place went.inside ≡ v.inside → KnowsAsMuch v went
      → Acts m went ask reply a b w → SamePass went w → HoldsNoTurn w → m.begins ask reply ≡ true → WasAsked m place ask v w
  ask_made place ask v went w reply a b at is inside back_out knows acts same no_turn begins =
      let b1 : cond {A = ℕ} (m.begins ask reply) 1 0 ≡ 1 = ap (λ (c : Bool). cond {A = ℕ} c 1 0) begins in
      let e1 : cond {A = ℕ} (m.ends ask) 1 0 ≡ 0 = ap (λ (c : Bool). cond {A = ℕ} c 1 0) at.ends_not in
      let o = acts.owed in let e : owes m went ≡ owes m v = ap (λ u. owes m u) is in record {
        first = made_deed m went ask reply a b w acts;
        asks = refl;
        begins = begins;
        ends_not = at.ends_not;
        grew = regrew m v place went w (made_deed m went ask reply a b w acts ∷ []) is (acts_are_deeds m went ask reply a b w acts same);
        inside = subst (λ l. 0 < times place l) (sym same.inside) inside;
        asked_here = owes_at m v w (made_deed m went ask reply a b w acts) place (regrew m v place went w (made_deed m went ask reply a b w acts ∷ []) is (acts_are_deeds m went ask reply a b w acts same)).mine at.named;
        back_out = ap (λ l. without place l) same.inside ∙ back_out;
        no_turn = no_turn;
        owed = omega arith;
        knows = knows_on v went w knows (knows_same went w same.closed same.drained);
      }

  pub tell_made : (place : ℕ) (tell : C) (u x left : View M C R G) (reply : R) (c d : List ℕ) → IsTellAt m place tell → left ≡ without_inside x place
      → Acts m u tell reply c d x → SamePass u x → HoldsNoTurn x → WasTold m place tell u left reply c d
  tell_made place tell u x left reply c d at is acts same no_turn =
      let b1 : cond {A = ℕ} (m.begins tell reply) 1 0 ≡ 0 = ap (λ (b : Bool). cond {A = ℕ} b 1 0) (at.begins_not reply) in
      let e1 : cond {A = ℕ} (m.ends tell) 1 0 ≡ 1 = ap (λ (b : Bool). cond {A = ℕ} b 1 0) at.ends_it in
      let whole : Legal m ((u.seen ++ acts.between) ++ entry u.number tell reply ∷ []) = subst (λ l. Legal m l) acts.seen acts.legal in
      let o = acts.owed in let e : owes m left ≡ owes m x = ap (λ w. owes m w) is in record {
        second = made_deed m u tell reply c d x acts;
        tells = refl;
        replies = refl;
        ends_it = at.ends_it;
        writes = acts.bytes;
        before = u.seen ++ acts.between;
        legal = (answered_prefix m m.opening (u.seen ++ acts.between) _ whole.0, placed_prefix m m.opening (u.seen ++ acts.between) _ whole.1);
        reply_is = acts.answer;
        bytes_are = refl;
        grew = left_grew m u place x left (made_deed m u tell reply c d x acts ∷ []) is (acts_are_deeds m u tell reply c d x acts same);
        inside = ap (λ (w : View M C R G). w.inside) is ∙ ap (λ l. without place l) same.inside;
        no_turn = subst (λ (w : View M C R G). HoldsNoTurn w) (sym is) no_turn;
        owed = omega arith;
        knows = subst (λ (w : View M C R G). KnowsAsMuch u w) (sym is) (record { closed = λ p h. (knows_same u x same.closed same.drained).closed p h; drained = λ p h. (knows_same u x same.closed same.drained).drained p h });
      }

-- What the halves come to.
module _ {M C R G : Type 0} (m : Ghosts M C R G) (is_go is_done : R → Bool) (Follows : ℕ → Option Told → Op → Option ℕ → Type 0) (visit : Visit C) where
  -- the driver isn't asked
  pub refused_came : (v w : View M C R G) (t : Option Told) → ((r : R) → m.begins visit.ask r ≡ is_go r) → m.ends visit.ask ≡ false → m.ends visit.refused ≡ false → WasRefused m visit.refused visit.ask v w
      → Came m is_go is_done Follows visit v w None t t
  refused_came v w t goes ends_not ends_not' r = record { did = r.did; back = r.back; comes = λ vs. by vs r.did r.is_refusal } where
    none : (d : Deed M C R G) (call : C) → d.entry.call ≡ call → m.ends call ≡ false → ended_in m (entries_in (d ∷ [])) ≡ 0
    none d call is ends = let e : cond {A = ℕ} (m.ends d.entry.call) 1 0 ≡ 0 = ap (λ c. cond {A = ℕ} (m.ends c) 1 0) is ∙ ap (λ (b : Bool). cond {A = ℕ} b 1 0) ends in omega arith

    by : (vs : List (Option (Visit C))) (did : List (Deed M C R G)) → IsRefusal m visit.refused visit.ask w.room (length w.seen) did → Stopped m is_go is_done Follows (Some visit ∷ vs) did w t t
    by vs [] full = record { own = tt; not_whole = refl; full = λ _. full; asked = refl; counts = counts_none t }
    by vs (d ∷ []) (inl is) = record {
      own = inl (is, refl);
      not_whole = refl;
      full = λ e. absurd (true≢false (sym e));
      asked = refl;
      counts = subst (λ n. CountsMore n t t) (sym (none d visit.refused is ends_not')) (counts_none t);
    }
    by vs (d ∷ []) (inr is) = record {
      own = inr (is.0, subst (λ (b : Bool). BehindAsk {M = M} {G = G} is_go is_done visit (Own is_go is_done vs) b []) (sym (sym (goes d.entry.reply) ∙ is.1)) refl);
      not_whole = refl;
      full = λ e. absurd (true≢false (sym e));
      asked = refl;
      counts = subst (λ n. CountsMore n t t) (sym (none d visit.ask is.0 ends_not)) (counts_none t);
    }
    by vs (d ∷ e ∷ ds) h = absurd h

  module _ (place : ℕ) (op : Op) (answer : Option ℕ) (v w u x : View M C R G) (reply : R) (old new : List ℕ) (t after : Option Told) where
    -- the two entries, and the pass after them
    whole : (a : WasAsked m place visit.ask v w) → IsBack m w [] u → (b : WasTold m place (visit.tell answer) u x reply old new) → IsBack m v (a.first ∷ b.second ∷ []) x
    whole a between b = let o1 = a.owed in let o2 = between.owed in let o3 = b.owed in record {
      grew = grows_on m v w x (a.first ∷ []) (b.second ∷ []) a.grew (grows_on m w u x [] (b.second ∷ []) between.grew b.grew);
      inside = b.inside ∙ (ap (λ l. without place l) between.inside ∙ a.back_out);
      no_turn = b.no_turn;
      owed = omega arith;
      knows = knows_on v w x a.knows (knows_on w u x between.knows b.knows);
    }

    one_tell : (a : WasAsked m place visit.ask v w) (b : WasTold m place (visit.tell answer) u x reply old new) → ended_in m (entries_in (a.first ∷ b.second ∷ [])) ≡ 1
    one_tell a b =
        let e1 : cond {A = ℕ} (m.ends a.first.entry.call) 1 0 ≡ 0 = ap (λ c. cond {A = ℕ} (m.ends c) 1 0) a.asks ∙ ap (λ (c : Bool). cond {A = ℕ} c 1 0) a.ends_not in
        let e2 : cond {A = ℕ} (m.ends b.second.entry.call) 1 0 ≡ 1 = ap (λ c. cond {A = ℕ} (m.ends c) 1 0) b.tells ∙ ap (λ (c : Bool). cond {A = ℕ} c 1 0) b.ends_it in omega arith

    -- the target was passed
    pub passed_came : ((r : R) → m.begins visit.ask r ≡ is_go r) → visit.op ≡ Some op → WasAsked m place visit.ask v w → IsBack m w [] u → (b : WasTold m place (visit.tell answer) u x reply old new)
        → Follows (length x.seen) t op answer → after ≡ with_call op answer t → is_done reply ≡ true → Came m is_go is_done Follows visit v x (Some b.second.bytes) t after
    passed_came goes op_is a between b follows after_is done = record {
      did = a.first ∷ b.second ∷ [];
      back = whole a between b;
      comes = record {
        first = a.first;
        second = b.second;
        are = refl;
        asks = a.asks;
        go = sym (goes a.first.entry.reply) ∙ a.begins;
        op = op;
        answer = answer;
        op_is = op_is;
        tells = b.tells;
        done = ap (λ r. is_done r) b.replies ∙ done;
        wrote_is = refl;
        follows = follows;
        after_is = after_is;
        one_ended = one_tell a b;
      };
    }

    -- the tell was refused
    pub failed_came : ((r : R) → m.begins visit.ask r ≡ is_go r) → visit.op ≡ Some op → WasAsked m place visit.ask v w → IsBack m w [] u → (b : WasTold m place (visit.tell answer) u x reply old new)
        → Follows (length x.seen) t op answer → after ≡ with_call op answer t → is_done reply ≡ false → Came m is_go is_done Follows visit v x None t after
    failed_came goes op_is a between b follows after_is not_done =
        let go : is_go a.first.entry.reply ≡ true = sym (goes a.first.entry.reply) ∙ a.begins in
        let failed : is_done b.second.entry.reply ≡ false = ap (λ r. is_done r) b.replies ∙ not_done in record {
          did = a.first ∷ b.second ∷ [];
          back = whole a between b;
          comes = λ vs. record {
            own = inr (
              a.asks,
              subst (λ (g : Bool). BehindAsk {M = M} {G = G} is_go is_done visit (Own is_go is_done vs) g (b.second.entry ∷ [])) (sym go)
                  (answer, b.tells, subst (λ (d : Bool). BehindTell {M = M} {C = C} {R = R} {G = G} is_go is_done (Own is_go is_done vs) d []) (sym failed) refl),
            );
            not_whole = ap (λ (d : Bool). is_whole (if_done d (ending {M = M} {G = G} is_go is_done vs []))) failed;
            full = λ e. absurd (true≢false (sym (sym (ap (λ (d : Bool). lacks_room (if_done d (ending {M = M} {G = G} is_go is_done vs []))) failed) ∙ e)));
            asked = (op, answer, op_is, b.tells, follows, at_end vs);
            counts = subst (λ n. CountsMore n t after) (sym (one_tell a b)) (subst (λ (o : Option Told). CountsMore 1 t o) (sym after_is) (counts_one op answer t));
          };
        } where
          at_end : (vs : List (Option (Visit C))) → AskedFor {M = M} {R = R} {G = G} (Follows (length x.seen)) (with_call op answer t) vs [] after
          at_end [] = after_is
          at_end (None ∷ vs) = after_is
          at_end (Some v ∷ vs) = after_is
