-- An actor that calls the device, one call after another, has at most one unfinished removal, and a device that is leaving has one.
use Rattle.std.proofs.Common.{◌≡◌, Option, Some, None, ℕ, List, ◌++◌, sym, ◌∙◌, false, arith, inl, inr}
use Rattle.gl_simtree.specs.Calls.{is_leaving}
use Rattle.gl_simtree.specs.Rows.{state_of}
use Rattle.gl_world.specs.History.{entries_of}
use Rattle.gl_world.specs.declared.history.Entry.{Entry}
use Rattle.gl_model.specs.declared.call.Call.{Call}
use Rattle.gl_model.specs.declared.gift.Gift.{Gift}
use Rattle.gl_model.specs.declared.reply.Reply.{Reply}
use Rattle.gl_model.specs.Calling.{AreOfCalls}
use Rattle.gl_model.specs.Machine.{IsLegal, machine, world_of}
use Rattle.gl_model.specs.OneRemoval.{HasNoRemoval, HasAtMostOneRemoval, OneRemoval}
use Rattle.gl_model.specs.World.{World, opening}
use Rattle.gl_model.proofs.Awaiting.{Awaits, Leads, Moves, leads_awaited}
use Rattle.gl_model.proofs.Calling.{all_lead}
use Rattle.gl_model.proofs.Leading.{leads_to}
use Rattle.gl_model.proofs.Devices.{removed_by_one, sound_world}
use Rattle.gl_model.proofs.MachineLaws.{machine_laws}
use Rattle.gl_model.proofs.Soundness.{chosen}

module _ {K : Type 0} (stands_for : K → World → Type 0) where
  -- at first nobody removes anything
  opens_free : (actor : ℕ) → Awaits (machine stands_for) actor opening None
  opens_free actor p at = let low = (machine_laws stands_for).opens_places p in let two = at.0 in absurd (omega arith)

  after : (history : List (Entry K Call Reply Gift)) (actor : ℕ) (new : Option Call) → IsLegal stands_for history → Leads (machine stands_for) None (entries_of actor history) new → Awaits (machine stands_for) actor (world_of stands_for history) new
  after history actor new legal leads = leads_awaited (machine stands_for) (machine_laws stands_for) actor opening history None new (machine_laws stands_for).opens_sound legal.0 leads (opens_free actor)

  one_awaited : (actor : ℕ) (w : World) (awaited : Option Call) → Awaits (machine stands_for) actor w awaited → HasAtMostOneRemoval stands_for actor w
  one_awaited actor w None awaits place other at too = absurd (awaits place at)
  one_awaited actor w (Some call) awaits place other at too = awaits place at ∙ sym (awaits other too)

  none_between : (history : List (Entry K Call Reply Gift)) → IsLegal stands_for history → (actor : ℕ) → AreOfCalls stands_for actor (entries_of actor history) → HasNoRemoval stands_for actor (world_of stands_for history)
  none_between history legal actor calls = after history actor None legal (all_lead stands_for actor (entries_of actor history) calls)

  pub one_removal : OneRemoval stands_for
  one_removal = record {
    during_a_call = λ history legal actor calls.
        let leads = leads_to (Moves (machine stands_for)) None None (entries_of actor history) calls.to_come (all_lead stands_for actor (entries_of actor history ++ calls.to_come) calls.whole) in
        one_awaited actor (world_of stands_for history) leads.0 (after history actor leads.0 legal leads.1);
    between_calls = λ history legal actor calls. none_between history legal actor calls;
    is_removed_by_one = λ history legal device leaving. removed_by_one stands_for device (world_of stands_for history) ((sound_world stands_for history).devices device) leaving;
    none_is_leaving = λ history legal calls device. elim (chosen (is_leaving (state_of device (world_of stands_for history).tree))) as (λ _. is_leaving (state_of device (world_of stands_for history).tree) ≡ false) [
      | inl t ↦
          (let one = removed_by_one stands_for device (world_of stands_for history) ((sound_world stands_for history).devices device) t in
          absurd (none_between history legal one.actor (calls one.actor) one.place one.removes))
      | inr f ↦ f
    ];
  }
