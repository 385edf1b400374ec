-- The loop over the routes of an operation.
use Rattle.std.proofs.Common.{◌≡◌, ℕ, ◌+◌, ◌<◌, ◌≤◌, List, [], ◌∷◌, ◌++◌, length, drop, Option, Some, None, sym, refl, ap, ◌∙◌, subst}
use Rattle.std.specs.Prelude.{get_or}
use Rattle.std.proofs.lemmas.List.{append_assoc, append-nil, drop_all, drop_more}
use Rattle.gl_base.specs.declared.op.Op.{Op}
use Rattle.gl_driver.proofs.Backs.{nothing_is_none, one_after_another}
use Rattle.gl_driver.specs.Told.{Told}
use Rattle.gl_gate.specs.Calls.{HoldsNoTurn}
use Rattle.gl_model.specs.Entries.{is_done, is_go}
use Rattle.gl_model.specs.Values.{bits_in}
use Rattle.gl_model.specs.declared.call.Call.{Call}
use Rattle.gl_model.specs.declared.gift.Gift.{Gift}
use Rattle.gl_model.specs.declared.reply.Reply.{Reply}
use Rattle.gl_rule.specs.declared.view.View.{View}
use Rattle.gl_world.specs.declared.machine.Machine.{Ghosts}
use Rattle.gl_aggregator.specs.Calling.{Calling}
use Rattle.gl_aggregator.specs.Commands.{visit_on, visits_on}
use Rattle.gl_aggregator.specs.Course.{Came, Called, FollowsOn, SoFar}
use Rattle.gl_aggregator.specs.Gather.{gather_on, with_bits_from}
use Rattle.gl_aggregator.specs.Own.{Visit}
use Rattle.gl_aggregator.specs.Routes.{lines_on}
use Rattle.gl_aggregator.specs.declared.routes.Route.{Route}
use Rattle.gl_aggregator.proofs.Course.{at_first, finished, one_more, sees_on, stopped, unspelled}

module _ {K : Type 0} (m : Ghosts K Call Reply Gift) (Follows : ℕ → Option Told → Op → Option ℕ → Type 0) (op : Op) (routes : List Route) where
  pub first : (t : Option Told) (v : View K Call Reply Gift) → HoldsNoTurn v → Calling m Follows op routes 0 t t v v 0
  first t v no_turn = record { did = []; back = nothing_is_none m v no_turn; told = []; so_far = at_first m is_go is_done Follows (visits_on op routes) t (length v.seen); gathers = λ more. refl }

  module _ (before now : Option Told) (at : ℕ) (d : Route) (v w : View K Call Reply Gift) (bits : ℕ) (less : at < length routes) (calling : Calling m Follows op routes at before now v w bits) where
    -- what is left begins with the next target
    next_left : (visit : Option (Visit Call)) → visit ≡ visit_on op (get_or routes at d) → visits_on op (drop at routes) ≡ visit ∷ visits_on op (drop (at + 1) routes)
    next_left visit is = ap (λ l. visits_on op l) (drop_more routes at d less) ∙ ap (λ (x : Option (Visit Call)). x ∷ visits_on op (drop (at + 1) routes)) (sym is)

    left_with : (visit : Option (Visit Call)) → visit ≡ visit_on op (get_or routes at d)
        → SoFar m is_go is_done Follows (visits_on op routes) before calling.did calling.told (visit ∷ visits_on op (drop (at + 1) routes)) now (length w.seen)
    left_with visit is = subst (λ l. SoFar m is_go is_done Follows (visits_on op routes) before calling.did calling.told l now (length w.seen)) (next_left visit is) calling.so_far

    -- it can't be asked
    pub ends_unspelled : None ≡ visit_on op (get_or routes at d) → Called m is_go is_done Follows (gather_on op 0 routes) (visits_on op routes) before now v w None
    ends_unspelled is = subst (λ (u : View K Call Reply Gift). Called m is_go is_done Follows (gather_on op 0 routes) (visits_on op routes) before now v u None) refl
        (stopped m is_go is_done Follows (gather_on op 0 routes) (None ∷ visits_on op (drop (at + 1) routes)) (visits_on op routes) before now now calling.did calling.told [] v w w
        (left_with None is) calling.back (nothing_is_none m w calling.back.no_turn) (unspelled m is_go is_done Follows (visits_on op (drop (at + 1) routes)) w now))

    -- it stopped the call
    pub ends_stopped : (visit : Visit Call) (x : View K Call Reply Gift) (after : Option Told) → Some visit ≡ visit_on op (get_or routes at d) → Came m is_go is_done Follows visit w x None now after
        → Called m is_go is_done Follows (gather_on op 0 routes) (visits_on op routes) before after v x None
    ends_stopped visit x after is came = stopped m is_go is_done Follows (gather_on op 0 routes) (Some visit ∷ visits_on op (drop (at + 1) routes)) (visits_on op routes) before now after calling.did calling.told came.did v w x
        (left_with (Some visit) is) calling.back came.back (came.comes (visits_on op (drop (at + 1) routes)))

    -- it was passed
    pub goes_on : (visit : Visit Call) (x : View K Call Reply Gift) (after : Option Told) (wrote : List ℕ) (next : ℕ) → FollowsOn Follows → Some visit ≡ visit_on op (get_or routes at d) → Came m is_go is_done Follows visit w x (Some wrote) now after
        → next ≡ with_bits_from op bits (bits_in wrote) (lines_on op (get_or routes at d)) → Calling m Follows op routes (at + 1) before after v x next
    goes_on visit x after wrote next follows_on is came next_is = record {
      did = calling.did ++ came.did;
      back = one_after_another m v w x calling.did came.did calling.back came.back;
      told = calling.told ++ wrote ∷ [];
      so_far = one_more m is_go is_done Follows visit (visits_on op (drop (at + 1) routes)) (visits_on op routes) before now after calling.did calling.told came.did wrote (length w.seen) (length x.seen) follows_on (sees_on m is_go is_done Follows w x came.back.grew.seen) (left_with (Some visit) is) came.comes;
      gathers = λ more. ap (λ l. gather_on op 0 routes l) (append_assoc calling.told (wrote ∷ []) more) ∙ (calling.gathers (wrote ∷ more)
          ∙ (ap (λ l. gather_on op bits l (wrote ∷ more)) (drop_more routes at d less) ∙ ap (λ n. gather_on op n (drop (at + 1) routes) more) (sym next_is)));
    }

  -- no target is left
  pub done : (before now : Option Told) (at : ℕ) (v w : View K Call Reply Gift) (bits : ℕ) → length routes ≤ at → Calling m Follows op routes at before now v w bits
      → Called m is_go is_done Follows (gather_on op 0 routes) (visits_on op routes) before now v w (Some bits)
  done before now at v w bits more calling =
      let none : drop at routes ≡ [] = drop_all at routes more in
      finished m is_go is_done Follows (gather_on op 0 routes) (visits_on op routes) before now calling.did calling.told v w bits
      (subst (λ l. SoFar m is_go is_done Follows (visits_on op routes) before calling.did calling.told (visits_on op l) now (length w.seen)) none calling.so_far) calling.back
      (sym (ap (λ l. gather_on op 0 routes l) (sym (append-nil calling.told)) ∙ (calling.gathers [] ∙ ap (λ l. gather_on op bits l []) none)))
