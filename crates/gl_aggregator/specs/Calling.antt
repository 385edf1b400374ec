-- How far the aggregator's call is: the loop over the routes of an operation.
use Rattle.std.specs.Prelude.{◌≡◌, ℕ, List, ◌++◌, length, drop, Option}
use Rattle.gl_base.specs.declared.op.Op.{Op}
use Rattle.gl_driver.specs.Calls.{IsBack}
use Rattle.gl_driver.specs.Told.{Told}
use Rattle.gl_model.specs.Entries.{is_done, is_go}
use Rattle.gl_model.specs.declared.call.Call.{Call}
use Rattle.gl_model.specs.declared.gift.Gift.{Gift}
use Rattle.gl_model.specs.declared.reply.Reply.{Reply}
use Rattle.gl_rule.specs.declared.view.View.{View}
use Rattle.gl_world.specs.Deeds.{Deed}
use Rattle.gl_world.specs.declared.machine.Machine.{Ghosts}
use Rattle.gl_aggregator.specs.Commands.{visits_on}
use Rattle.gl_aggregator.specs.Course.{SoFar}
use Rattle.gl_aggregator.specs.Gather.{gather_on}
use Rattle.gl_aggregator.specs.declared.routes.Route.{Route}

module _ {K : Type 0} (m : Ghosts K Call Reply Gift) (Follows : ℕ → Option Told → Op → Option ℕ → Type 0) where
  -- the routes from a position on are left
  pub record Calling (op : Op) (routes : List Route) (at : ℕ) (before now : Option Told) (v w : View K Call Reply Gift) (bits : ℕ) : Type 0 where
    pub did : List (Deed K Call Reply Gift)
    pub back : IsBack m v did w
    pub told : List (List ℕ)
    pub so_far : SoFar m is_go is_done Follows (visits_on op routes) before did told (visits_on op (drop at routes)) now (length w.seen)
    pub gathers : (more : List (List ℕ)) → gather_on op 0 routes (told ++ more) ≡ gather_on op bits (drop at routes) more
