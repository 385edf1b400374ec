-- What a call at a place with a map comes to.
use Rattle.std.proofs.Common.{◌≡◌, ℕ, ◌≤◌, List, [], ◌∷◌, length, Bool, true, false, Option, Some, None, suc, inl, inr, sym, refl, subst}
use Rattle.std.specs.Prelude.{◌↔◌, ◌⊎◌, IfSome}
use Rattle.gl_base.specs.declared.op.Op.{Op}
use Rattle.gl_driver.specs.Told.{Told, with_call}
use Rattle.gl_driver.specs.declared.map.Map.{Map}
use Rattle.gl_model.specs.Entries.{is_done, is_go}
use Rattle.gl_model.specs.declared.call.Call.{Call}
use Rattle.gl_model.specs.declared.gift.Gift.{Gift}
use Rattle.gl_model.specs.declared.reply.Reply.{Reply}
use Rattle.gl_rule.specs.declared.view.View.{View}
use Rattle.gl_world.specs.Deeds.{entries_in}
use Rattle.gl_world.specs.declared.history.Entry.{Entry}
use Rattle.gl_world.specs.declared.machine.Machine.{Ghosts}
use Rattle.gl_aggregator.specs.Aggregating.{Aggregates, Fails, TellsLast, TellsMore, last_tell, tells_among}
use Rattle.gl_aggregator.specs.Commands.{visits}
use Rattle.gl_aggregator.specs.Course.{Called}
use Rattle.gl_aggregator.specs.Gather.{gather}
use Rattle.gl_aggregator.specs.Own.{AskedFor, AtRefusal, BehindAsk, BehindTell, Ending, NoRoom, Own, Unspelled, Visit, Whole, by_ending, ending, lacks_room, told_bytes}

tells_none : (t u : Option Told) → u ≡ t → TellsMore 0 t u
tells_none None u is = is
tells_none (Some t) u is = (t, is, refl)

one_earlier : (op : Op) (answer : Option ℕ) (n : ℕ) (t u : Option Told) → TellsMore n (with_call op answer t) u → TellsMore (suc n) t u
one_earlier op answer n None u h = h
one_earlier op answer n (Some t) u h = h

pub not_none : {A : Type 0} (x : A) (xs : List A) → x ∷ xs ≡ [] → ⊥
not_none {A = A} x xs e = subst (λ (l : List A). is_cons l) e tt where
  is_cons : List A → Type 0
  is_cons [] = ⊥
  is_cons (y ∷ ys) = Unit {0}

module _ {M C R G : Type 0} (is_go is_done : R → Bool) (Follows : Option Told → Op → Option ℕ → Type 0) where
  -- what comes behind two entries
  behind_tell : (later : List (Entry M C R G) → Type 0) (b : Bool) (es : List (Entry M C R G)) → BehindTell {M = M} {C = C} {R = R} {G = G} is_go is_done later b es → later es ⊎ (es ≡ [])
  behind_tell later true es h = inl h
  behind_tell later false es h = inr h

  behind_ask : (v : Visit C) (later : List (Entry M C R G) → Type 0) (b : Bool) (f : Entry M C R G) (es : List (Entry M C R G)) → BehindAsk {M = M} {G = G} is_go is_done v later b (f ∷ es) → later es ⊎ (es ≡ [])
  behind_ask v later true f es h = behind_tell later (is_done f.reply) es h.2
  behind_ask v later false f es h = absurd (not_none f es h)

  pub behind_two : (v : Visit C) (vs : List (Option (Visit C))) (e f : Entry M C R G) (es : List (Entry M C R G)) → Own is_go is_done (Some v ∷ vs) (e ∷ f ∷ es) → Own is_go is_done vs es ⊎ (es ≡ [])
  behind_two v vs e f es (inl h) = absurd (not_none f es h.1)
  behind_two v vs e f es (inr h) = behind_ask v (Own is_go is_done vs) (is_go e.reply) f es h.1

  at_end : (vs : List (Option (Visit C))) (es : List (Entry M C R G)) (t u : Option Told) → es ≡ [] → AskedFor Follows t vs es u → u ≡ t
  at_end [] es t u none h = h
  at_end (None ∷ vs) es t u none h = h
  at_end (Some v ∷ vs) [] t u none h = h
  at_end (Some v ∷ vs) (e ∷ es) t u none h = absurd (not_none e es none)

  pub tells_more : (vs : List (Option (Visit C))) (es : List (Entry M C R G)) (t u : Option Told) → Own is_go is_done vs es → AskedFor Follows t vs es u → TellsMore (tells_among es) t u
  tells_more [] es t u own asked = subst (λ (l : List (Entry M C R G)). TellsMore (tells_among l) t u) (sym own) (tells_none t u asked)
  tells_more (None ∷ vs) es t u own asked = subst (λ (l : List (Entry M C R G)). TellsMore (tells_among l) t u) (sym own) (tells_none t u asked)
  tells_more (Some v ∷ vs) [] t u own asked = tells_none t u asked
  tells_more (Some v ∷ vs) (e ∷ []) t u own asked = tells_none t u asked
  tells_more (Some v ∷ vs) (e ∷ f ∷ es) t u own (op, answer, op_is, tells, follows, asked) = one_earlier op answer (tells_among es) t u (elim (behind_two v vs e f es own) as (λ _. TellsMore (tells_among es) (with_call op answer t) u) [
    | inl later ↦ tells_more vs es (with_call op answer t) u later asked
    | inr none ↦ subst (λ (l : List (Entry M C R G)). TellsMore (tells_among l) (with_call op answer t) u) (sym none) (tells_none (with_call op answer t) u (at_end vs es (with_call op answer t) u none asked))
  ])

  -- what holds of the last tell so far, of the port then
  last_now : (op : Op) (answer : Option ℕ) (v : Visit C) (f : Entry M C R G) (t : Option Told) → v.op ≡ Some op → f.call ≡ v.tell answer → TellsLast (Some (v, f)) (with_call op answer t)
  last_now op answer v f None op_is tells = (op, answer, op_is, tells, tt)
  last_now op answer v f (Some t) op_is tells = (op, answer, op_is, tells, refl)

  pub tells_last : (last : Option (Visit C × Entry M C R G)) (vs : List (Option (Visit C))) (es : List (Entry M C R G)) (t u : Option Told) → TellsLast last t → AskedFor Follows t vs es u → TellsLast (last_tell last vs es) u
  tells_last last [] es t u h asked = subst (λ x. TellsLast last x) (sym asked) h
  tells_last last (None ∷ vs) es t u h asked = subst (λ x. TellsLast last x) (sym asked) h
  tells_last last (Some v ∷ vs) [] t u h asked = subst (λ x. TellsLast last x) (sym asked) h
  tells_last last (Some v ∷ vs) (e ∷ []) t u h asked = subst (λ x. TellsLast last x) (sym asked) h
  tells_last last (Some v ∷ vs) (e ∷ f ∷ es) t u h (op, answer, op_is, tells, follows, asked) = tells_last (Some (v, f)) vs es (with_call op answer t) u (last_now op answer v f t op_is tells) asked

-- it fails in just these cases
pub some_is_not_none : (n : ℕ) → Some n ≡ None → ⊥
some_is_not_none n e = subst (λ (o : Option ℕ). is_some o) e tt where
  is_some : Option ℕ → Type 0
  is_some None = ⊥
  is_some (Some x) = Unit {0}

pub fails_in : (gather : List (List ℕ) → ℕ) (told : List (List ℕ)) (e : Ending) (room seen : ℕ) → (lacks_room e ≡ true → room ≤ seen) → (by_ending gather told e ≡ None) ↔ Fails e room seen
fails_in gather told Whole room seen full = ((λ e. absurd (some_is_not_none (gather told) e)), (λ h. absurd h))
fails_in gather told AtRefusal room seen full = ((λ e. tt), (λ h. refl))
fails_in gather told Unspelled room seen full = ((λ e. tt), (λ h. refl))
fails_in gather told NoRoom room seen full = ((λ e. full refl), (λ h. refl))

pub aggregated : {K : Type 0} (m : Ghosts K Call Reply Gift) (Follows : ℕ → Option Told → Op → Option ℕ → Type 0) (map : Map) (op : Op) (before after : Option Told) (v w : View K Call Reply Gift) (answer : Option ℕ)
    → Called m is_go is_done Follows (gather map op) (visits map op) before after v w answer → Aggregates m (Follows (length w.seen)) map op before after v w answer
aggregated m Follows map op before after v w answer called = record {
  did = called.did;
  in_history = called.back.grew;
  own = called.own;
  gathers = called.gathers.answer_is;
  fails = subst (λ (o : Option ℕ). (o ≡ None) ↔ Fails (ending is_go is_done (visits map op) (entries_in called.did)) w.room (length w.seen)) (sym called.gathers.answer_is)
      (fails_in (gather map op) (told_bytes called.did) (ending is_go is_done (visits map op) (entries_in called.did)) w.room (length w.seen) called.gathers.full);
  asked = called.asked;
  calls = tells_more is_go is_done (Follows (length w.seen)) (visits map op) (entries_in called.did) before after called.own called.asked;
  last = tells_last is_go is_done (Follows (length w.seen)) None (visits map op) (entries_in called.did) before after tt called.asked;
}

-- at the place of a call
pub aggregates_at : {K : Type 0} (m : Ghosts K Call Reply Gift) (Follows : ℕ → Option Told → Op → Option ℕ → Type 0) (map : Map) (op : Op) (before after : Option Told) (v w : View K Call Reply Gift) (answer said : Option ℕ) (found : Option Map)
    → found ≡ Some map → said ≡ answer → Called m is_go is_done Follows (gather map op) (visits map op) before after v w answer → IfSome found (λ map. Aggregates m (Follows (length w.seen)) map op before after v w said)
aggregates_at m Follows map op before after v w answer said found found_is said_is called =
    subst (λ (o : Option Map). IfSome o (λ map. Aggregates m (Follows (length w.seen)) map op before after v w said)) (sym found_is)
    (subst (λ (x : Option ℕ). Aggregates m (Follows (length w.seen)) map op before after v w x) (sym said_is) (aggregated m Follows map op before after v w answer called))

pub none_aggregates : (P : Map → Type 0) (found : Option Map) → found ≡ None → IfSome found P
none_aggregates P found is = subst (λ (o : Option Map). IfSome o P) (sym is) tt
