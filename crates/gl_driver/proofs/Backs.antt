-- How calls of the gate inside a driver's call leave a pass, and where a pass owes a second entry.
use Rattle.std.proofs.Common.{◌≡◌, ℕ, ◌<◌, sym, refl, ap, ◌∙◌, subst, arith, Bool, true, List, [], ◌∷◌, ◌++◌, Option, Some, None}
use Rattle.std.specs.Prelude.{cond, IfSome}
use Rattle.gl_world.specs.declared.machine.Machine.{Ghosts}
use Rattle.gl_world.specs.declared.history.Entry.{Entry}
use Rattle.gl_world.specs.Deeds.{Deed, entries_in}
use Rattle.gl_world.specs.History.{owed}
use Rattle.gl_rule.specs.declared.view.View.{View}
use Rattle.gl_rule.specs.Sums.{times}
use Rattle.gl_gate.specs.Calls.{KnowsAsMuch}
use Rattle.gl_gate.proofs.Grown.{acts_are_deeds, grows_on, moves_do_nothing, refusals_do_nothing}
use Rattle.gl_driver.specs.Calls.{OwesAt, last_of}
use Rattle.gl_driver.specs.OwnEntries.{CallIsOwn, NothingIsNone, OneAfterAnother, RefusalIsNone}

module _ {M C R G : Type 0} where
  knows_same : (v w : View M C R G) → w.closed ≡ v.closed → w.drained ≡ v.drained → KnowsAsMuch v w
  knows_same v w closed drained = record {
    closed = λ p h. subst (λ l. 0 < times p l) (sym closed) h;
    drained = λ p h. subst (λ l. 0 < times p l) (sym drained) h;
  }

module _ {M C R G : Type 0} (m : Ghosts M C R G) where
  pub call_is_own : CallIsOwn m
  call_is_own v call reply old new w acts same no_turn begins ends =
      let none_ended : cond {A = ℕ} (m.ends call) 1 0 ≡ 0 = ap (λ (b : Bool). cond {A = ℕ} b 1 0) ends in
      let none_begun : cond {A = ℕ} (m.begins call reply) 1 0 ≡ 0 = ap (λ (b : Bool). cond {A = ℕ} b 1 0) begins in
      let owed = acts.owed in record {
        grew = acts_are_deeds m v call reply old new w acts same;
        inside = same.inside;
        no_turn = no_turn;
        owed = omega arith;
        knows = knows_same v w same.closed same.drained;
      }

  pub refusal_is_none : RefusalIsNone m
  refusal_is_none v call w refuses same no_turn before after = record {
    grew = refusals_do_nothing m v call w refuses same before after;
    inside = same.inside;
    no_turn = no_turn;
    owed = ap (λ l. owed m l) refuses.mine;
    knows = knows_same v w same.closed same.drained;
  }

  pub nothing_is_none : NothingIsNone m
  nothing_is_none v no_turn = record {
    grew = moves_do_nothing m v v (record { number = refl; room = refl; made = refl; joined = refl; seen = refl; mine = refl });
    inside = refl;
    no_turn = no_turn;
    owed = refl;
    knows = record { closed = λ p h. h; drained = λ p h. h };
  }

  pub one_after_another : OneAfterAnother m
  one_after_another v w u first later a b = record {
    grew = grows_on m v w u first later a.grew b.grew;
    inside = b.inside ∙ a.inside;
    no_turn = b.no_turn;
    owed = b.owed ∙ a.owed;
    knows = record { closed = λ p h. b.knows.closed p (a.knows.closed p h); drained = λ p h. b.knows.drained p (a.knows.drained p h) };
  }

last_of_more : {A : Type 0} (xs : List A) (x : A) → last_of (xs ++ x ∷ []) ≡ Some x
last_of_more [] x = refl
last_of_more (y ∷ []) x = refl
last_of_more (y ∷ z ∷ zs) x = last_of_more (z ∷ zs) x

module _ {M C R G : Type 0} (m : Ghosts M C R G) where
  abbrev OwedAt : ℕ → Entry M C R G → Type 0
  OwedAt place e = m.begins e.call e.reply ≡ true → (p : ℕ) → m.place_of e.call ≡ Some p → p ≡ place

  -- a pass whose last deed is a call at this place
  pub owes_at : (v w : View M C R G) (d : Deed M C R G) (place : ℕ) → w.mine ≡ v.mine ++ entries_in (d ∷ []) → ((p : ℕ) → m.place_of d.entry.call ≡ Some p → p ≡ place) → OwesAt m w place
  owes_at v w d place mine named = subst (λ (l : List (Entry M C R G)). IfSome (last_of l) (OwedAt place)) (sym mine) (subst (λ (o : Option (Entry M C R G)). IfSome o (OwedAt place)) (sym (last_of_more v.mine d.entry)) (λ begins. named))

  -- a machine whose calls name no place
  pub owes_nowhere : (v : View M C R G) (place : ℕ) → ((c : C) → m.place_of c ≡ None) → OwesAt m v place
  owes_nowhere v place none = by (last_of v.mine) where
    by : (o : Option (Entry M C R G)) → IfSome o (OwedAt place)
    by None = tt
    by (Some e) = λ begins p at. let n = none e.call in cc
