-- Target by target: how what one comes to and what is left make the whole.
use Rattle.std.proofs.Common.{◌≡◌, ℕ, ◌+◌, ◌*◌, ◌≤◌, List, [], ◌∷◌, ◌++◌, length, Bool, true, false, Option, Some, None, inl, inr, sym, refl, ap, ◌∙◌, subst, arith}
use Rattle.std.proofs.lemmas.Bool.{true≢false}
use Rattle.std.proofs.lemmas.List.{append_assoc, append-nil, length-append}
use Rattle.gl_base.specs.declared.op.Op.{Op}
use Rattle.gl_driver.proofs.Backs.{one_after_another}
use Rattle.gl_driver.specs.Calls.{IsBack}
use Rattle.gl_driver.specs.Told.{Told}
use Rattle.gl_rule.specs.declared.view.View.{View}
use Rattle.gl_world.proofs.Deeds.{entries_in_append}
use Rattle.gl_world.specs.Deeds.{Deed, entries_in}
use Rattle.gl_world.specs.History.{StartsWith, ended_in}
use Rattle.gl_world.specs.declared.history.Entry.{Entry}
use Rattle.gl_world.specs.declared.machine.Machine.{Ghosts}
use Rattle.gl_aggregator.specs.Course.{Called, CountsMore, FollowsOn, Passed, SoFar, Stopped}
use Rattle.gl_aggregator.specs.Own.{AskedFor, AtRefusal, BehindAsk, BehindTell, Ending, NoRoom, OfVisit, Own, Unspelled, Visit, Whole, by_ending, ending, if_done, is_whole, lacks_room, told_bytes}
use Rattle.gl_aggregator.proofs.Counts.{counts_none, counts_on, counts_one, ended_append}

module _ {M C R G : Type 0} (m : Ghosts M C R G) (is_go is_done : R → Bool) (Follows : ℕ → Option Told → Op → Option ℕ → Type 0) where
  -- a pass sees no less later
  pub sees_on : (v w : View M C R G) → StartsWith w.seen v.seen → length v.seen ≤ length w.seen
  sees_on v w (rest, is) = let l : length w.seen ≡ length (v.seen ++ rest) = ap (λ es. length es) is in let k = length-append v.seen rest in omega (arith, l, k)

  -- nothing was passed yet
  pub at_first : (vs : List (Option (Visit C))) (t : Option Told) (seen : ℕ) → SoFar m is_go is_done Follows vs t [] [] vs t seen
  at_first vs t seen = record { own = λ more h. h; ends = λ more. refl; tells = λ more. refl; asked = λ most le more after h. h; counts = counts_none t }

  -- the two entries of a target that was passed
  own_two : (v : Visit C) (left : List (Option (Visit C))) (first second : Deed M C R G) (answer : Option ℕ) → first.entry.call ≡ v.ask → is_go first.entry.reply ≡ true → second.entry.call ≡ v.tell answer → is_done second.entry.reply ≡ true
      → (more : List (Entry M C R G)) → Own is_go is_done left more → Own is_go is_done (Some v ∷ left) (first.entry ∷ second.entry ∷ more)
  own_two v left first second answer asks go tells done more h =
      inr (
        asks,
        subst (λ (b : Bool). BehindAsk {M = M} {G = G} is_go is_done v (Own is_go is_done left) b (second.entry ∷ more)) (sym go)
            (answer, tells, subst (λ (b : Bool). BehindTell {M = M} {C = C} {R = R} {G = G} is_go is_done (Own is_go is_done left) b more) (sym done) h),
      )

  -- one target more was passed
  pub one_more : (v : Visit C) (left vs : List (Option (Visit C))) (before t u : Option Told) (did : List (Deed M C R G)) (told : List (List ℕ)) (now : List (Deed M C R G)) (wrote : List ℕ) (seen then : ℕ) → FollowsOn Follows → seen ≤ then
      → SoFar m is_go is_done Follows vs before did told (Some v ∷ left) t seen → Passed m is_go is_done Follows v now wrote t u then → SoFar m is_go is_done Follows vs before (did ++ now) (told ++ wrote ∷ []) left u then
  one_more v left vs before t u did told now wrote seen then follows_on less s p = subst (λ (l : List (Deed M C R G)). SoFar m is_go is_done Follows vs before (did ++ l) (told ++ wrote ∷ []) left u then) (sym p.are) (record {
    own = λ more h. subst (λ l. Own is_go is_done vs l) (sym (joined more)) (s.own (p.first.entry ∷ p.second.entry ∷ more) (own_two v left p.first p.second p.answer p.asks p.go p.tells p.done more h));
    ends = λ more. ap (λ l. ending is_go is_done vs l) (joined more) ∙ (s.ends (p.first.entry ∷ p.second.entry ∷ more) ∙ ap (λ (b : Bool). if_done b (ending is_go is_done left more)) p.done);
    tells = λ more. ap (λ (l : List (Deed M C R G)). told_bytes l) (append_assoc did (p.first ∷ p.second ∷ []) more) ∙ (s.tells (p.first ∷ p.second ∷ more)
        ∙ (ap (λ (b : List ℕ). told ++ b ∷ told_bytes more) p.wrote_is ∙ sym (append_assoc told (wrote ∷ []) (told_bytes more))));
    asked = λ most le more after h. subst (λ l. AskedFor (Follows most) before vs l after) (sym (joined more)) (s.asked most (omega (arith, less, le)) (p.first.entry ∷ p.second.entry ∷ more) after
        (p.op, p.answer, p.op_is, p.tells, follows_on then most t p.op p.answer le p.follows, subst (λ (x : Option Told). AskedFor (Follows most) x left more after) p.after_is h));
    counts = subst (λ n. CountsMore n before u) (sym both) (counts_on (ended_in m (entries_in did)) 1 before t u s.counts (subst (λ (x : Option Told). CountsMore 1 t x) (sym p.after_is) (counts_one p.op p.answer t)));
  }) where
    joined : (more : List (Entry M C R G)) → entries_in (did ++ p.first ∷ p.second ∷ []) ++ more ≡ entries_in did ++ p.first.entry ∷ p.second.entry ∷ more
    joined more = ap (λ l. l ++ more) (entries_in_append did (p.first ∷ p.second ∷ [])) ∙ append_assoc (entries_in did) (p.first.entry ∷ p.second.entry ∷ []) more

    one : ended_in m (entries_in (p.first ∷ p.second ∷ [])) ≡ 1
    one = subst (λ (l : List (Deed M C R G)). ended_in m (entries_in l) ≡ 1) p.are p.one_ended

    both : ended_in m (entries_in (did ++ p.first ∷ p.second ∷ [])) ≡ ended_in m (entries_in did) + 1
    both = ended_append m did (p.first ∷ p.second ∷ []) ∙ ap (λ n. ended_in m (entries_in did) + n) one

  not_gathered : (gather : List (List ℕ) → ℕ) (told : List (List ℕ)) (e : Ending) → is_whole e ≡ false → by_ending gather told e ≡ None
  not_gathered gather told Whole h = absurd (true≢false h)
  not_gathered gather told AtRefusal h = refl
  not_gathered gather told Unspelled h = refl
  not_gathered gather told NoRoom h = refl

  -- the next target stopped the call
  pub stopped : (gather : List (List ℕ) → ℕ) (left vs : List (Option (Visit C))) (before t u : Option Told) (did : List (Deed M C R G)) (told : List (List ℕ)) (now : List (Deed M C R G)) (v w x : View M C R G)
      → SoFar m is_go is_done Follows vs before did told left t (length w.seen) → IsBack m v did w → IsBack m w now x → Stopped m is_go is_done Follows left now x t u → Called m is_go is_done Follows gather vs before u v x None
  stopped gather left vs before t u did told now v w x s back then stop =
      let whole = entries_in_append did now in
      let ends = ap (λ l. ending is_go is_done vs l) whole ∙ s.ends (entries_in now) in record {
        did = did ++ now;
        back = one_after_another m v w x did now back then;
        own = subst (λ l. Own is_go is_done vs l) (sym whole) (s.own (entries_in now) stop.own);
        gathers = record {
          answer_is = sym (not_gathered gather (told_bytes (did ++ now)) (ending is_go is_done vs (entries_in (did ++ now))) (ap (λ (e : Ending). is_whole e) ends ∙ stop.not_whole));
          full = λ h. stop.full (sym (ap (λ (e : Ending). lacks_room e) ends) ∙ h);
        };
        asked = subst (λ l. AskedFor (Follows (length x.seen)) before vs l u) (sym whole) (s.asked (length x.seen) (sees_on w x then.grew.seen) (entries_in now) u stop.asked);
        counts = subst (λ n. CountsMore n before u) (sym (ended_append m did now)) (counts_on (ended_in m (entries_in did)) (ended_in m (entries_in now)) before t u s.counts stop.counts);
      }

  -- no target is left
  pub finished : (gather : List (List ℕ) → ℕ) (vs : List (Option (Visit C))) (before t : Option Told) (did : List (Deed M C R G)) (told : List (List ℕ)) (v w : View M C R G) (bits : ℕ)
      → SoFar m is_go is_done Follows vs before did told [] t (length w.seen) → IsBack m v did w → bits ≡ gather told → Called m is_go is_done Follows gather vs before t v w (Some bits)
  finished gather vs before t did told v w bits s back is =
      let ends = ap (λ l. ending is_go is_done vs l) (sym (append-nil (entries_in did))) ∙ s.ends [] in
      let tells = ap (λ (l : List (Deed M C R G)). told_bytes l) (sym (append-nil did)) ∙ (s.tells [] ∙ append-nil told) in record {
        did = did;
        back = back;
        own = subst (λ l. Own is_go is_done vs l) (append-nil (entries_in did)) (s.own [] refl);
        gathers = record {
          answer_is = ap Some is ∙ sym (ap (λ (e : Ending). by_ending gather (told_bytes did) e) ends ∙ ap (λ l. Some (gather l)) tells);
          full = λ h. absurd (true≢false (sym (sym (ap (λ (e : Ending). lacks_room e) ends) ∙ h)));
        };
        asked = subst (λ l. AskedFor (Follows (length w.seen)) before vs l t) (append-nil (entries_in did)) (s.asked (length w.seen) (omega arith) [] t refl);
        counts = s.counts;
      }

  -- the next target can't be asked
  pub unspelled : (vs : List (Option (Visit C))) (w : View M C R G) (t : Option Told) → Stopped m is_go is_done Follows (None ∷ vs) [] w t t
  unspelled vs w t = record { own = refl; not_whole = refl; full = λ e. absurd (true≢false (sym e)); asked = refl; counts = counts_none t }

  -- two entries a target at most
  behind_tell : (n : ℕ) (later : List (Entry M C R G) → Type 0) → ((es : List (Entry M C R G)) → later es → length es ≤ n) → (b : Bool) (es : List (Entry M C R G)) → BehindTell {M = M} {C = C} {R = R} {G = G} is_go is_done later b es → length es ≤ n
  behind_tell n later few true es h = few es h
  behind_tell n later few false es h = let none : length es ≡ 0 = ap (λ l. length l) h in omega arith

  behind_ask : (v : Visit C) (n : ℕ) (later : List (Entry M C R G) → Type 0) → ((es : List (Entry M C R G)) → later es → length es ≤ n) → (b : Bool) (es : List (Entry M C R G)) → BehindAsk {M = M} {G = G} is_go is_done v later b es → length es ≤ n + 1
  behind_ask v n later few false es h = let none : length es ≡ 0 = ap (λ l. length l) h in omega arith
  behind_ask v n later few true [] h = absurd h
  behind_ask v n later few true (e ∷ es) h = let l = behind_tell n later few (is_done e.reply) es h.2 in omega arith

  of_visit : (v : Visit C) (n : ℕ) (later : List (Entry M C R G) → Type 0) → ((es : List (Entry M C R G)) → later es → length es ≤ n) → (es : List (Entry M C R G)) → OfVisit {M = M} {G = G} is_go is_done v later es → length es ≤ n + 2
  of_visit v n later few [] h = omega arith
  of_visit v n later few (e ∷ es) (inl h) = let none : length es ≡ 0 = ap (λ l. length l) h.1 in omega arith
  of_visit v n later few (e ∷ es) (inr h) = let l = behind_ask v n later few (is_go e.reply) es h.1 in omega arith

  pub own_is_few : (vs : List (Option (Visit C))) (es : List (Entry M C R G)) → Own is_go is_done vs es → length es ≤ 2 * length vs
  own_is_few [] es own = let none : length es ≡ 0 = ap (λ l. length l) own in omega arith
  own_is_few (None ∷ vs) es own = let none : length es ≡ 0 = ap (λ l. length l) own in omega arith
  own_is_few (Some v ∷ vs) es own = let l = of_visit v (2 * length vs) (Own is_go is_done vs) (λ es h. own_is_few vs es h) es own in omega arith
