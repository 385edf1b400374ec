-- The program's driver may do one thing only at a place with a map, since an aggregator over a planned driver may.
use Rattle.std.proofs.Common.{◌≡◌, ℕ, true, false, List, [], ◌∷◌, map, Option, Some, None, inl, inr, sym, refl, ap, ◌∙◌, subst, arith}
use Rattle.std.specs.Prelude.{◌⊎◌}
use Rattle.std.proofs.lemmas.Bool.{true≢false}
use Rattle.gl_base.specs.Rows.{Each}
use Rattle.gl_base.specs.declared.op.Op.{Op}
use Rattle.gl_base.specs.declared.phase.Phase.{Phase}
use Rattle.gl_base.specs.declared.phase.Phase.TheVariants.{Absent, Up, Leaving, Gone}
use Rattle.gl_world.specs.Deeds.{entries_in}
use Rattle.gl_world.specs.Ranks.{IsGone, IsNotGone, rank}
use Rattle.gl_model.specs.Chips.{phase_at}
use Rattle.gl_model.specs.Entries.{guarded_place, refused_place}
use Rattle.gl_model.specs.Step.{step}
use Rattle.gl_model.specs.World.{World}
use Rattle.gl_model.specs.declared.call.Call.{Call}
use Rattle.gl_model.specs.declared.call.Call.TheVariants.{Refused as RefusedCall}
use Rattle.gl_core.specs.Device.{OneDeed, core}
use Rattle.gl_driver.specs.Told.{Told, new_port}
use Rattle.gl_driver.specs.declared.map.Map.{Map}
use Rattle.gl_script.specs.Cost.{session_cost}
use Rattle.gl_script.specs.Section.{SaidSection}
use Rattle.gl_check.specs.Lawful.{IsLawfulCall, IsLetInOrRefused, deed_of}
use Rattle.gl_check.specs.One.{Answering, is_closed, is_gone, place_of_guard, steps_of}
use Rattle.gl_check.specs.Seats.{is_refusal}
use Rattle.gl_check.specs.Settled.{IsGiven, IsGivenOneList, IsSettledOnMaps, asked_in}
use Rattle.gl_aggregator.specs.Aggregating.{FollowsAt, OwnAt}
use Rattle.gl_aggregator.specs.Settled.{DidAlone, DoesAlone, DoesOneThing, IsAtGuard}
use Rattle.gpiosess.specs.Program.{simulated, simulated_answer, simulated_over}

-- a call is the record of a closed guard, or is let in
kind_of : (call : Call) → ((is_refusal call ≡ true) × (refused_place call ≡ place_of_guard call) × (guarded_place call ≡ None)) ⊎ ((is_refusal call ≡ false) × (refused_place call ≡ None) × (guarded_place call ≡ place_of_guard call))
kind_of (RefusedCall place poll) = inl (refl, refl, refl)
kind_of _ = inr (refl, refl, refl)

gone : (phase : Phase) → is_gone phase ≡ true → IsGone (rank phase)
gone Absent is = absurd (true≢false (sym is))
gone Up is = absurd (true≢false (sym is))
gone Leaving is = absurd (true≢false (sym is))
gone Gone is = refl

not_gone : (phase : Phase) → is_gone phase ≡ false → IsNotGone (rank phase)
not_gone Absent is = omega arith
not_gone Up is = omega arith
not_gone Leaving is = omega arith
not_gone Gone is = absurd (true≢false is)

no_place : (place : ℕ) → None ≡ Some place → ⊥
no_place place is = subst is_none is tt where
  is_none : Option ℕ → Type 0
  is_none None = Unit {0}
  is_none (Some x) = ⊥

at_guard : (w : World) (call : Call) → is_refusal call ≡ is_closed (place_of_guard call) w → IsAtGuard core w call
at_guard w call is = elim (kind_of call) as (λ _. IsAtGuard core w call) [
  | inl h ↦ record {
    let_in = λ place at. absurd (no_place place (sym h.2 ∙ at));
    refused = λ place at. gone (phase_at w place) (ap (λ (o : Option ℕ). is_closed o w) (sym at ∙ h.1) ∙ (sym is ∙ h.0));
  }
  | inr h ↦ record {
    let_in = λ place at. not_gone (phase_at w place) (ap (λ (o : Option ℕ). is_closed o w) (sym at ∙ h.2) ∙ (sym is ∙ h.0));
    refused = λ place at. absurd (no_place place (sym h.1 ∙ at));
  }
]

alone : (w : World) (own : List Call) → Each IsLetInOrRefused (steps_of w own) → DidAlone core w (map deed_of (steps_of w own))
alone w [] h = tt
alone w (call ∷ own) h = (refl, at_guard w call h.0, alone (step w 0 call).world own h.1)

abbrev calls_in : List OneDeed → List Call
calls_in [] = []
calls_in (d ∷ did) = d.entry.call ∷ calls_in did

calls_back : (w : World) (own : List Call) → own ≡ calls_in (map deed_of (steps_of w own))
calls_back w [] = refl
calls_back w (call ∷ own) = ap (λ (l : List Call). call ∷ l) (calls_back (step w 0 call).world own)

abbrev op_or : Op → Option Op → Op
op_or op None = op
op_or op (Some x) = x

module _ (one_thing : DoesOneThing true simulated_answer) (room : ℕ) (w : World) (by : Map) (op : Op) (t : Told) where
  does : (this : Answering) → IsLawfulCall simulated room (asked_in w (Some by) (Some op) (Some t) this) → DoesAlone simulated_answer w by op t room (map deed_of (steps_of w this.own)) this.answer
  does this a = let same : a.op ≡ op = sym (ap (λ (o : Option Op). op_or op o) a.asked_for) in
      record {
        alone = alone w this.own a.guards;
        own = subst (λ (o : Op). OwnAt (Some by) o (entries_in (map deed_of (steps_of w this.own)))) same a.may_make;
        seen = a.gives.0;
        within = a.gives.1;
        follows = subst (λ (o : Op). FollowsAt simulated_answer (Some by) (Some t) o (map deed_of (steps_of w this.own)) room a.gives.0 this.answer) same a.gives.2;
      }

  does_one : (this other : Answering) → IsLawfulCall simulated room (asked_in w (Some by) (Some op) (Some t) this) → IsLawfulCall simulated room (asked_in w (Some by) (Some op) (Some t) other) → this ≡ other
  does_one this other a b =
      let same = one_thing refl w by op t room (map deed_of (steps_of w this.own)) (map deed_of (steps_of w other.own)) this.answer other.answer (does this a) (does other b) in
      λ i. record { own = (calls_back w this.own ∙ (ap (λ (l : List OneDeed). calls_in l) same.0 ∙ sym (calls_back w other.own))) i; answer = same.1 i }

settled : DoesOneThing true simulated_answer → (room : ℕ) → IsSettledOnMaps simulated room
settled one_thing room w by op t this other a b = does_one one_thing room w by op t this other a b

-- So through a new port a session is given one list.
pub is_given_one : DoesOneThing true simulated_answer → IsGivenOneList simulated_over → (sections : List SaidSection) (given other : List Answering)
    → IsGiven simulated_over (session_cost sections) sections (Some new_port) given → IsGiven simulated_over (session_cost sections) sections (Some new_port) other → given ≡ other
is_given_one one_thing one_list sections given other a b = one_list refl (session_cost sections) (settled one_thing (session_cost sections)) sections new_port given other a b
