-- The last call of a removal, by the actor that has begun it. That a removal has two calls is this project's choice.
use Rattle.std.specs.Prelude.{◌≡◌, ℕ, List, ◌∷◌, ◌++◌}
use Rattle.gl_world.specs.History.{entries_of, entry}
use Rattle.gl_world.specs.Removal.{AllQuiet, Removes}
use Rattle.gl_world.specs.declared.history.Entry.{Entry}
use Rattle.gl_model.specs.declared.call.Call.{Call}
use Rattle.gl_model.specs.declared.gift.Gift.{Gift}
use Rattle.gl_model.specs.declared.reply.Reply.{Reply}
use Rattle.gl_model.specs.declared.reply.Reply.TheVariants.{Done}
use Rattle.gl_model.specs.Entries.{awaited_call, last_call}
use Rattle.gl_model.specs.Machine.{Always, machine, world_of}
use Rattle.gl_model.specs.declared.device_call.RemovalOf.{RemovalOf}
use Rattle.gl_model.specs.Parts.{first_call}
use Rattle.gl_model.specs.Step.{step}
use Rattle.gl_model.specs.World.{World}

module _ {K : Type 0} (stands_for : K → World → Type 0) where
  -- an actor's first call of a removal was answered Done, and its entries since have nothing to do with removals
  pub record HasBegun (history : List (Entry K Call Reply Gift)) (actor : ℕ) (removal : RemovalOf) : Type 0 where
    pub before : List (Entry K Call Reply Gift)
    pub since : List (Entry K Call Reply Gift)
    pub is_behind : history ≡ before ++ entry actor (first_call removal) Done ∷ since
    pub quiet : AllQuiet (machine stands_for) (entries_of actor since)

  -- The call that the removal of a place awaits is answered Done, if the place's remover makes it: in every world. And so is the
  -- last call of a removal that an actor has begun, after every legal history.
  pub record LastCallsAreDone : Type 0 where
    pub of_a_place : (w : World) (actor place : ℕ) → Removes (machine stands_for) w actor place → (step w actor (awaited_call w place)).reply ≡ Done
    pub of_a_removal : Always stands_for (λ history. (actor : ℕ) (removal : RemovalOf) → HasBegun history actor removal
        → (step (world_of stands_for history) actor (last_call (first_call removal))).reply ≡ Done)
