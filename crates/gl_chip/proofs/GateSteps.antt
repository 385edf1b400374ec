-- Calls of the gate as steps of one call of the device.
use Rattle.std.proofs.Common.{◌≡◌, ℕ, ◌<◌, ◌≤◌, List, [], ◌∷◌, ◌++◌, length, sym, refl, ap, ◌∙◌, subst, arith, Bool, true, false, Result, Ok, Err, IfOk, IfErr}
use Rattle.std.specs.Prelude.{cond}
use Rattle.std.proofs.lemmas.Bool.{true≢false}
use Rattle.std.proofs.lemmas.List.{append-nil}
use Rattle.gl_world.specs.declared.machine.Machine.{Ghosts}
use Rattle.gl_world.specs.declared.history.Entry.{Entry}
use Rattle.gl_world.specs.History.{Legal, Answered, entry, entries_of, fold, owed}
use Rattle.gl_world.specs.Deeds.{Deed, entries_in}
use Rattle.gl_world.specs.Removal.{Removes, AllQuiet, QuietEntriesKeepRemovals}
use Rattle.gl_driver.specs.Calls.{IsBack}
use Rattle.gl_world.proofs.Histories.{answered_prefix, entries_append, placed_prefix}
use Rattle.gl_rule.specs.declared.view.View.{View}
use Rattle.gl_rule.specs.Sums.{times}
use Rattle.gl_rule.specs.Turn.{owes}
use Rattle.gl_rule.specs.Views.{with_closed, with_inside, without_inside}
use Rattle.gl_gate.specs.Values.{PassValue, knowing}
use Rattle.gl_gate.specs.Calls.{KnowsClosed, KnowsAsMuch, SamePass, HasItsOwn, Acts, Refuses}
use Rattle.gl_gate.specs.Grown.{Grew, Moved, IsFree}
use Rattle.gl_gate.proofs.Grown.{acts_are_deeds, grown_has_its_own, grows_on, moves_do_nothing, refusals_do_nothing, still_removes_nothing}
use Rattle.gl_chip.specs.Steps.{CalledGuarded, CalledOnce, FoundNoRoom, IsAsk, IsTell, IsWhole, Owes, StoodFull, deed_of}

-- what is true of a result's value
pub if_ok : {X E : Type 0} (r : Result X E) (P Q : X → Type 0) → ((x : X) → P x → Q x) → IfOk r P → IfOk r Q
if_ok (Ok x) P Q f h = f x h
if_ok (Err e) P Q f h = tt

pub if_err : {X E : Type 0} (r : Result X E) (P Q : E → Type 0) → ((x : E) → P x → Q x) → IfErr r P → IfErr r Q
if_err (Ok x) P Q f h = tt
if_err (Err e) P Q f h = f e h

abbrev tail_of : {A : Type 0} → List A → List A
tail_of [] = []
tail_of (x ∷ xs) = xs

rest_is : {A : Type 0} (xs ys zs : List A) → xs ++ ys ≡ xs ++ zs → ys ≡ zs
rest_is [] ys zs e = e
rest_is (x ∷ xs) ys zs e = rest_is xs ys zs (ap tail_of e)

module _ {M C R G : Type 0} where
  pub knows_same : (v w : View M C R G) → w.closed ≡ v.closed → w.drained ≡ v.drained → KnowsAsMuch v w
  knows_same v w closed drained = record {
    closed = λ p h. subst (λ l. 0 < times p l) (sym closed) h;
    drained = λ p h. subst (λ l. 0 < times p l) (sym drained) h;
  }

  pub knows_on : (v w u : View M C R G) → KnowsAsMuch v w → KnowsAsMuch w u → KnowsAsMuch v u
  knows_on v w u a b = record { closed = λ p h. b.closed p (a.closed p h); drained = λ p h. b.drained p (a.drained p h) }

module _ {M C R G : Type 0} (m : Ghosts M C R G) where
  -- the own entries in front of the next one are those from before
  pub own_in_front : (v : View M C R G) (between : List (Entry M C R G)) → HasItsOwn v → entries_of v.number between ≡ [] → entries_of v.number (v.seen ++ between) ≡ v.mine
  own_in_front v between own others = entries_append v.number v.seen between ∙ (ap (λ l. l ++ entries_of v.number between) own ∙ (ap (λ l. v.mine ++ l) others ∙ append-nil v.mine))

  -- one call was made
  pub called_once : (v : View M C R G) (call : C) (reply : R) (old new : List ℕ) (w : View M C R G) → HasItsOwn v → SamePass v w → Acts m v call reply old new w → CalledOnce m v call reply old new w
  called_once v call reply old new w own same acts = record {
    wrote = m.bytes_of (fold m (v.seen ++ acts.between)) v.number call;
    grew = acts_are_deeds m v call reply old new w acts same;
    last = (v.seen ++ acts.between, acts.seen);
    had_room = acts.room;
    own_before = own_in_front v acts.between own acts.others;
    bytes = acts.bytes;
    same = same;
    legal = acts.legal;
    answered = let whole : Legal m ((v.seen ++ acts.between) ++ entry v.number call reply ∷ []) = subst (λ l. Legal m l) acts.seen acts.legal in record {
      before = v.seen ++ acts.between;
      legal_before = (answered_prefix m m.opening (v.seen ++ acts.between) _ whole.0, placed_prefix m m.opening (v.seen ++ acts.between) _ whole.1);
      reply_is = acts.answer;
      bytes_are = refl;
    };
  }

  -- what a call that is whole by itself leaves to be owed
  pub owes_after : (v : View M C R G) (call : C) (reply : R) (old new : List ℕ) (w : View M C R G) → IsWhole m call → SamePass v w → Acts m v call reply old new w → (n : ℕ) → Owes m v n → Owes m w n
  owes_after v call reply old new w whole same acts n owes = record {
    owed = let o = acts.owed in let z = owes.owed in let e : cond {A = ℕ} (m.ends call) 1 0 ≡ 0 = ap (λ (b : Bool). cond {A = ℕ} b 1 0) whole.ends_not in
        let b : cond {A = ℕ} (m.begins call reply) 1 0 ≡ 0 = ap (λ (b : Bool). cond {A = ℕ} b 1 0) (whole.begins_not reply) in omega arith;
    removes_nothing = still_removes_nothing m v call reply old new w acts same (whole.begins_no_removal reply) owes.removes_nothing;
  }

  pub stood_full : (v : View M C R G) (call : C) (w : View M C R G) → HasItsOwn v → HasItsOwn w → SamePass v w → Refuses m v call w → StoodFull m v w
  stood_full v call w own own' same refuses = record {
    grew = refusals_do_nothing m v call w refuses same own own';
    same = same;
    full = refuses.full;
    legal = refuses.legal;
  }

  pub owes_refused : (v : View M C R G) (call : C) (w : View M C R G) → SamePass v w → Refuses m v call w → (n : ℕ) → Owes m v n → Owes m w n
  owes_refused v call w same refuses n owes = record {
    owed = ap (λ l. owed m l) refuses.mine ∙ owes.owed;
    removes_nothing = λ p r. owes.removes_nothing p (refuses.removes p (subst (λ k. Removes m (fold m w.seen) k p) same.number r));
  }

  -- who only moved owes and removes as much as before
  pub owes_moved : (v w : View M C R G) → Moved m v w → (n : ℕ) → Owes m v n → Owes m w n
  owes_moved v w moved n owes = record {
    owed = ap (λ l. owed m l) moved.mine ∙ owes.owed;
    removes_nothing = λ p r. owes.removes_nothing p (subst (λ (x : List (Entry M C R G) × ℕ). Removes m (fold m x.0) x.1 p) (λ i. (moved.seen i, moved.number i)) r);
  }

  pub free_owes : (v : View M C R G) → IsFree m v → Owes m v 0
  free_owes v free = record { owed = free.owes_nothing; removes_nothing = free.removes_nothing }

  pub is_free : (v : View M C R G) → v.inside ≡ [] → Owes m v 0 → IsFree m v
  is_free v outside owes = record { inside = outside; owes_nothing = owes.owed; removes_nothing = owes.removes_nothing }

  -- a pass that found its place closed, entered it, or left it
  pub found_closed : (place : ℕ) (x y : PassValue M C R G) → y ≡ knowing x (with_closed x.view place) → Moved m x.view y.view × (y.view.inside ≡ x.view.inside)
  found_closed place x y is = subst (λ (z : PassValue M C R G). Moved m x.view z.view × (z.view.inside ≡ x.view.inside)) (sym is) (record { number = refl; room = refl; made = refl; joined = refl; seen = refl; mine = refl }, refl)

  pub came_in : (place : ℕ) (x y : PassValue M C R G) → y ≡ knowing x (with_inside x.view place) → Moved m x.view y.view
  came_in place x y is = subst (λ (z : PassValue M C R G). Moved m x.view z.view) (sym is) record { number = refl; room = refl; made = refl; joined = refl; seen = refl; mine = refl }

  pub went_out : (place : ℕ) (x y : PassValue M C R G) → y ≡ knowing x (without_inside x.view place) → Moved m x.view y.view × (y.view.closed ≡ x.view.closed) × (y.view.drained ≡ x.view.drained)
  went_out place x y is = subst (λ (z : PassValue M C R G). Moved m x.view z.view × (z.view.closed ≡ x.view.closed) × (z.view.drained ≡ x.view.drained)) (sym is)
      (record { number = refl; room = refl; made = refl; joined = refl; seen = refl; mine = refl }, refl, refl)

  -- what is told of a pass's number
  same_deed : (n k : ℕ) (w u : View M C R G) (call : C) (reply : R) (wrote : List ℕ) → k ≡ n → Grew m w (deed_of k call reply wrote ∷ []) u → Grew m w (deed_of n call reply wrote ∷ []) u
  same_deed n k w u call reply wrote same grew = subst (λ j. Grew m w (deed_of j call reply wrote ∷ []) u) same grew

  -- at a closed guard
  pub refused_there : (place : ℕ) (v w u : View M C R G) (call refused : C) (reply : R) (old new : List ℕ) → m.ends refused ≡ false → Moved m v w → KnowsClosed w place → KnowsAsMuch v w → CalledOnce m w refused reply old new u
      → CalledGuarded m place refused v call reply old new u
  refused_there place v w u call refused reply old new ends_not moved closed knows step = record {
    closed = true;
    wrote = step.wrote;
    grew = grows_on m v w u [] (deed_of v.number refused reply step.wrote ∷ []) (moves_do_nothing m v w moved) (same_deed v.number w.number w u refused reply step.wrote moved.number step.grew);
    last = (step.last.0, subst (λ n. u.seen ≡ step.last.0 ++ entry n refused reply ∷ []) moved.number step.last.1);
    had_room = subst (λ n. length step.last.0 < n) moved.room (step.had_room ends_not);
    own_before = ap (λ n. entries_of n step.last.0) (sym moved.number) ∙ (step.own_before ∙ moved.mine);
    bytes = step.bytes;
    legal = step.legal;
    answered = let a = step.answered in record { before = a.before; legal_before = a.legal_before; reply_is = subst (λ n. reply ≡ m.reply_of (fold m a.before) n refused) moved.number a.reply_is; bytes_are = subst (λ n. step.wrote ≡ m.bytes_of (fold m a.before) n refused) moved.number a.bytes_are };
    known = λ _. refl;
    knows = λ _. subst (λ l. 0 < times place l) (sym step.same.closed) closed;
    knows_as_much = knows_on v w u knows (knows_same w u step.same.closed step.same.drained);
  }

  -- inside its place
  pub called_inside : (place : ℕ) (v w u x : View M C R G) (call refused : C) (reply : R) (old new : List ℕ) → m.ends call ≡ false → Moved m v w → KnowsAsMuch v w → (KnowsClosed v place → ⊥) → CalledOnce m w call reply old new u → Moved m u x → x.closed ≡ u.closed → x.drained ≡ u.drained
      → CalledGuarded m place refused v call reply old new x
  called_inside place v w u x call refused reply old new ends_not moved knows unknown step left closed drained = record {
    closed = false;
    wrote = step.wrote;
    grew = grows_on m v u x (deed_of v.number call reply step.wrote ∷ []) []
        (grows_on m v w u [] (deed_of v.number call reply step.wrote ∷ []) (moves_do_nothing m v w moved) (same_deed v.number w.number w u call reply step.wrote moved.number step.grew)) (moves_do_nothing m u x left);
    last = (step.last.0, left.seen ∙ subst (λ n. u.seen ≡ step.last.0 ++ entry n call reply ∷ []) moved.number step.last.1);
    had_room = subst (λ n. length step.last.0 < n) moved.room (step.had_room ends_not);
    own_before = ap (λ n. entries_of n step.last.0) (sym moved.number) ∙ (step.own_before ∙ moved.mine);
    bytes = step.bytes;
    legal = subst (λ l. Legal m l) (sym left.seen) step.legal;
    answered = let a = step.answered in record { before = a.before; legal_before = a.legal_before; reply_is = subst (λ n. reply ≡ m.reply_of (fold m a.before) n call) moved.number a.reply_is; bytes_are = subst (λ n. step.wrote ≡ m.bytes_of (fold m a.before) n call) moved.number a.bytes_are };
    known = λ k. absurd (unknown k);
    knows = λ e. absurd (true≢false (sym e));
    knows_as_much = knows_on v u x (knows_on v w u knows (knows_same w u step.same.closed step.same.drained)) (knows_same u x closed drained);
  }

  pub no_room : (v w u : View M C R G) → Moved m v w → KnowsAsMuch v w → StoodFull m w u → FoundNoRoom m v u
  no_room v w u moved knows full = record {
    grew = grows_on m v w u [] [] (moves_do_nothing m v w moved) full.grew;
    full = subst (λ k. k ≤ length u.seen) moved.room full.full;
    legal = full.legal;
    knows_as_much = knows_on v w u knows (knows_same w u full.same.closed full.same.drained);
  }

  pub no_room_left : (v u x : View M C R G) → FoundNoRoom m v u → Moved m u x → x.closed ≡ u.closed → x.drained ≡ u.drained → FoundNoRoom m v x
  no_room_left v u x full left closed drained = record {
    grew = grows_on m v u x [] [] full.grew (moves_do_nothing m u x left);
    full = subst (λ l. v.room ≤ length l) (sym left.seen) full.full;
    legal = subst (λ l. Legal m l) (sym left.seen) full.legal;
    knows_as_much = knows_on v u x full.knows_as_much (knows_same u x closed drained);
  }

  -- what the first call of a command leaves to be owed
  pub owes_asked : (v : View M C R G) (call : C) (reply : R) (old new : List ℕ) (w : View M C R G) → IsAsk m call → SamePass v w → Acts m v call reply old new w → Owes m v 0 → Owes m w (cond (m.begins call reply) 1 0)
  owes_asked v call reply old new w ask same acts owes = record {
    owed = let o = acts.owed in let z = owes.owed in let e : cond {A = ℕ} (m.ends call) 1 0 ≡ 0 = ap (λ (b : Bool). cond {A = ℕ} b 1 0) ask.ends_not in omega arith;
    removes_nothing = still_removes_nothing m v call reply old new w acts same (ask.begins_no_removal reply) owes.removes_nothing;
  }

  -- and the second one
  pub owes_told : (v : View M C R G) (call : C) (reply : R) (old new : List ℕ) (w : View M C R G) → IsTell m call → SamePass v w → Acts m v call reply old new w → Owes m v 1 → Owes m w 0
  owes_told v call reply old new w tell same acts owes = record {
    owed = let o = acts.owed in let z = owes.owed in let e : cond {A = ℕ} (m.ends call) 1 0 ≡ 1 = ap (λ (b : Bool). cond {A = ℕ} b 1 0) tell.ends_it in
        let b : cond {A = ℕ} (m.begins call reply) 1 0 ≡ 0 = ap (λ (b : Bool). cond {A = ℕ} b 1 0) (tell.begins_not reply) in omega arith;
    removes_nothing = still_removes_nothing m v call reply old new w acts same (tell.begins_no_removal reply) owes.removes_nothing;
  }

  -- the pass's entries after what it had seen are the driver's own
  own_behind : (v w : View M C R G) (did : List (Deed M C R G)) (back : IsBack m v did w) → HasItsOwn v → entries_of v.number back.grew.seen.0 ≡ entries_in did
  own_behind v w did back before =
      let rest : List (Entry M C R G) = back.grew.seen.0 in
      let after : entries_of v.number w.seen ≡ v.mine ++ entries_in did = ap (λ k. entries_of k w.seen) (sym back.grew.number) ∙ (grown_has_its_own m v w did before back.grew ∙ back.grew.mine) in
      let parts : entries_of v.number w.seen ≡ v.mine ++ entries_of v.number rest = ap (λ l. entries_of v.number l) back.grew.seen.1 ∙ (entries_append v.number v.seen rest ∙ ap (λ l. l ++ entries_of v.number rest) before) in
      rest_is v.mine (entries_of v.number rest) (entries_in did) (sym parts ∙ after)

  -- what is owed and removed after a driver's call
  pub owes_driven : (v w : View M C R G) (did : List (Deed M C R G)) → IsBack m v did w → HasItsOwn v → Owes m v 1 → Legal m w.seen → AllQuiet m (entries_in did) → QuietEntriesKeepRemovals m → Owes m w 1
  owes_driven v w did back before owes legal quiet law = record {
    owed = back.owed ∙ owes.owed;
    removes_nothing = λ p r. owes.removes_nothing p ((law v.number v.seen back.grew.seen.0 (subst (λ l. Answered m l) back.grew.seen.1 legal.0) (subst (λ l. AllQuiet m l) (sym (own_behind v w did back before)) quiet) p).1
        (subst (λ (x : List (Entry M C R G) × ℕ). Removes m (fold m x.0) x.1 p) (λ i. (back.grew.seen.1 i, back.grew.number i)) r));
  }
