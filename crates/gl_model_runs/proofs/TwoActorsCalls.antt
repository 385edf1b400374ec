-- The calls of the device that two actors made, in both orders.
use Rattle.std.proofs.Common.{[], ◌∷◌, refl, take, None, true, false}
use Rattle.std.specs.Prelude.{codes}
use Rattle.gl_base.specs.declared.errno.Errno.TheVariants.{NoDev}
use Rattle.gl_uapi.specs.Fields.{zeros}
use Rattle.gl_uapi.specs.declared.commands.Command.TheVariants.{ChipInfo}
use Rattle.gl_world.specs.History.{entries_of, entry}
use Rattle.gl_model.specs.declared.call.Call.TheVariants.{Close, OpenChip, Refused as RefusedCall, Unplug}
use Rattle.gl_model.specs.declared.call.Part.TheVariants.{Whole}
use Rattle.gl_model.specs.declared.reply.Reply.TheVariants.{Done, Number, Refused}
use Rattle.gl_model.specs.Calling.{AreOfCalls, AreOfCallsSoFar, Called}
use Rattle.gl_model.specs.declared.device_call.DeviceCall.TheVariants.{Once, Removing, Commanding}
use Rattle.gl_model.specs.declared.device_call.RemovalOf.TheVariants.{OfChip}
use Rattle.gl_model.specs.declared.device_call.CommandIn.{CommandIn}
use Rattle.gl_model_runs.specs.Rows.Histories.{history}
use Rattle.gl_model_runs.specs.Rows.Structures.{ioctl}
use Rattle.gl_model_runs.specs.Rows.TwoActorsBefore.{run as run_before, given as given_before}
use Rattle.gl_model_runs.specs.Rows.TwoActorsBehind.{run as run_behind, given as given_behind}
use Rattle.gl_uapi.specs.Command.{number_of}
use Rattle.gl_base.specs.Padded.{padded}
use Rattle.gl_model.specs.World.{World}

module _ {K : Type 0} (stands_for : K → World → Type 0) where
  -- a call that makes one entry, which is answered so
  opened : Called K
  opened = record { closed = false; call = Once (OpenChip (codes "0")); answer = None; own = []; made = entry 1 (OpenChip (codes "0")) (Number 3) ∷ [] }

  closed : Called K
  closed = record { closed = false; call = Once (Close 3); answer = None; own = []; made = entry 1 (Close 3) Done ∷ [] }

  asked : CommandIn
  asked = record { place = 0; fd = 3; of_chip = true; cmd = number_of ChipInfo; len = 68; bytes = padded 592 (zeros 68) }

  informed : Called K
  informed = record { closed = false; call = Commanding asked; answer = None; own = []; made = entry 1 (ioctl 0 3 ChipInfo (zeros 68) Whole) Done ∷ [] }

  refused : Called K
  refused = record { closed = true; call = Commanding asked; answer = None; own = []; made = entry 1 (RefusedCall 0 false) (Refused NoDev) ∷ [] }

  removed : Called K
  removed = record { closed = false; call = Removing (OfChip 0); answer = None; own = []; made = entry 2 (Unplug 0 false) Done ∷ entry 2 (Unplug 0 true) Done ∷ [] }

  pub first_before : AreOfCalls stands_for 1 (entries_of 1 (history run_before given_before))
  unfolding history run_before given_before opened closed asked informed zeros
  first_before = record {
    calls = opened ∷ informed ∷ closed ∷ [];
    each = (record { makes = (refl, ((Number 3, refl), refl)); quiet = tt; no_claims = tt }, (record { makes = (refl, ((Done, refl), refl)); quiet = tt; no_claims = tt }, (record { makes = (refl, ((Done, refl), refl)); quiet = tt; no_claims = tt }, tt)));
    are = refl;
  }

  pub first_behind : AreOfCalls stands_for 1 (entries_of 1 (history run_behind given_behind))
  unfolding history run_behind given_behind opened closed asked refused zeros
  first_behind = record {
    calls = opened ∷ refused ∷ closed ∷ [];
    each = (record { makes = (refl, ((Number 3, refl), refl)); quiet = tt; no_claims = tt }, (record { makes = (refl, (refl, refl)); quiet = tt; no_claims = tt }, (record { makes = (refl, ((Done, refl), refl)); quiet = tt; no_claims = tt }, tt)));
    are = refl;
  }

  pub second_before : AreOfCalls stands_for 2 (entries_of 2 (history run_before given_before))
  unfolding history run_before given_before removed
  second_before = record {
    calls = removed ∷ [];
    each = (record { makes = (refl, ((Done, entry 2 (Unplug 0 true) Done ∷ [], refl, (Done, refl)), refl)); quiet = tt; no_claims = tt }, tt);
    are = refl;
  }

  pub second_behind : AreOfCalls stands_for 2 (entries_of 2 (history run_behind given_behind))
  unfolding history run_behind given_behind removed
  second_behind = record {
    calls = removed ∷ [];
    each = (record { makes = (refl, ((Done, entry 2 (Unplug 0 true) Done ∷ [], refl, (Done, refl)), refl)); quiet = tt; no_claims = tt }, tt);
    are = refl;
  }

  pub second_so_far : AreOfCallsSoFar stands_for 2 (entries_of 2 (history (take 4 run_behind) given_behind))
  unfolding history run_behind given_behind removed
  second_so_far = record {
    to_come = entry 2 (Unplug 0 true) Done ∷ [];
    whole = record {
      calls = removed ∷ [];
      each = (record { makes = (refl, ((Done, entry 2 (Unplug 0 true) Done ∷ [], refl, (Done, refl)), refl)); quiet = tt; no_claims = tt }, tt);
      are = refl;
    };
  }
