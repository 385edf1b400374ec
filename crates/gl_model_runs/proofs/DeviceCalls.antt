-- The calls of the device that one actor made, each with the entries that it made.
use Rattle.std.proofs.Common.{ℕ, Bool, List, [], ◌∷◌, ◌++◌, refl, Some, None, true, false, arith}
use Rattle.std.specs.Fmt.{digits}
use Rattle.std.specs.Prelude.{codes, length}
use Rattle.gl_base.specs.Padded.{padded}
use Rattle.gl_base.specs.Positions.{table_from}
use Rattle.gl_base.specs.declared.errno.Errno.TheVariants.{Busy, Fault, Io, NoDev, Perm}
use Rattle.gl_debounce.specs.Timer.{no_timers}
use Rattle.gl_uapi.specs.Command.{number_of}
use Rattle.gl_uapi.specs.Fields.{number_at, number_bytes, stretch, stretches, zeros}
use Rattle.gl_uapi.specs.declared.commands.Command.{Command}
use Rattle.gl_uapi.specs.declared.commands.Command.TheVariants.{GetLine, GetValues}
use Rattle.gl_watch.specs.Files.{no_lines}
use Rattle.gl_world.specs.History.{entries_of, entry}
use Rattle.gl_world.specs.declared.history.Entry.{Entry}
use Rattle.gl_model.specs.declared.call.Call.{Call}
use Rattle.gl_model.specs.declared.call.Call.TheVariants.{Close, Level, Live, MakeDir, OpenChip, PollLine, Pull, Refused as RefusedCall, Remove, Unplug}
use Rattle.gl_model.specs.declared.call.Part.TheVariants.{Whole, Ask, Tell}
use Rattle.gl_model.specs.declared.gift.Gift.{Gift}
use Rattle.gl_model.specs.declared.reply.Reply.{Reply}
use Rattle.gl_model.specs.declared.reply.Reply.TheVariants.{Done, Go, Number, Ready, Refused}
use Rattle.gl_model.specs.Bits.{bits_where}
use Rattle.gl_model.specs.Calling.{AreOfCalls, Called, IsCalled}
use Rattle.gl_model.specs.Machine.{IsLegal}
use Rattle.gl_model.specs.declared.device_call.DeviceCall.TheVariants.{Once, Removing, Commanding}
use Rattle.gl_model.specs.declared.device_call.RemovalOf.TheVariants.{OfChip, OfDevice}
use Rattle.gl_model.specs.declared.device_call.CommandIn.{CommandIn}
use Rattle.gl_model_runs.specs.Rows.DeviceCalls.{asked, run, given}
use Rattle.gl_model_runs.specs.Rows.Histories.{history}
use Rattle.gl_model_runs.specs.Rows.Structures.{ioctl, values}
use Rattle.gl_model_runs.proofs.TwoActors.{at_place, none_is_some}
use Rattle.gl_model.specs.World.{World}

-- a command on a chip's file or on a request's
abbrev commanded : Bool → ℕ → Command → List ℕ → CommandIn
commanded of_chip fd name structure =
    record { place = 0; fd = fd; of_chip = of_chip; cmd = number_of name; len = length structure; bytes = padded 592 structure }

module _ {K : Type 0} (stands_for : K → World → Type 0) where
  -- a call that is let in and makes one entry, which is answered so
  abbrev once : Call → Reply → Called K
  once call reply = record { closed = false; call = Once call; answer = None; own = []; made = entry 0 call reply ∷ [] }

  -- what the driver made itself
  abbrev of_driver : List (Entry K Call Reply Gift)
  of_driver = entry 0 (Pull 0 0 true) Done ∷ entry 0 (Level 0 0 false) (Number 1) ∷ []

  requested : Called K
  requested = record {
    closed = false;
    call = Commanding (commanded true 3 GetLine (asked 0));
    answer = Some 0;
    own = of_driver;
    made = entry 0 (ioctl 0 3 GetLine (asked 0) Ask) (Go 4) ∷ of_driver ++ entry 0 (ioctl 0 3 GetLine (asked 0) (Tell (Some 0))) (Number 4) ∷ [];
  }

  requested_is_called : IsCalled stands_for 0 requested
  unfolding requested number_bytes zeros
  requested_is_called = record {
    makes = (refl, (Go 4, of_driver ++ entry 0 (ioctl 0 3 GetLine (asked 0) (Tell (Some 0))) (Number 4) ∷ [], refl, (Number 4, refl)));
    quiet = ((λ bytes. refl, refl), ((λ bytes. refl, refl), tt));
    no_claims = (refl, (refl, tt));
  }

  asked_again : Called K
  asked_again = record {
    closed = false;
    call = Commanding (commanded true 3 GetLine (asked 0));
    answer = None;
    own = [];
    made = entry 0 (ioctl 0 3 GetLine (asked 0) Ask) (Refused Busy) ∷ [];
  }

  asked_again_is_called : IsCalled stands_for 0 asked_again
  unfolding asked_again number_bytes zeros
  asked_again_is_called = record { makes = (refl, (Refused Busy, [], refl, (refl, refl))); quiet = tt; no_claims = tt }

  too_short : Called K
  too_short = record {
    closed = false;
    call = Commanding (commanded false 4 GetValues (zeros 15));
    answer = None;
    own = [];
    made = entry 0 (ioctl 0 4 GetValues (zeros 15) Whole) (Refused Fault) ∷ [];
  }

  too_short_is_called : IsCalled stands_for 0 too_short
  unfolding too_short number_bytes zeros
  too_short_is_called = record { makes = (refl, ((Refused Fault, refl), refl)); quiet = tt; no_claims = tt }

  failed : Called K
  failed = record {
    closed = false;
    call = Commanding (commanded false 4 GetValues (values 0 0x1));
    answer = None;
    own = [];
    made = entry 0 (ioctl 0 4 GetValues (values 0 0x1) Ask) (Go 0) ∷ entry 0 (ioctl 0 4 GetValues (values 0 0x1) (Tell None)) (Refused Io) ∷ [];
  }

  failed_is_called : IsCalled stands_for 0 failed
  unfolding failed number_bytes zeros
  failed_is_called = record { makes = (refl, (Go 0, entry 0 (ioctl 0 4 GetValues (values 0 0x1) (Tell None)) (Refused Io) ∷ [], refl, (Refused Io, refl))); quiet = tt; no_claims = tt }

  unplugged : Called K
  unplugged = record { closed = false; call = Removing (OfChip 0); answer = None; own = []; made = entry 0 (Unplug 0 false) (Refused Perm) ∷ [] }

  unplugged_is_called : IsCalled stands_for 0 unplugged
  unfolding unplugged number_bytes zeros
  unplugged_is_called = record { makes = (refl, ((Refused Perm, [], refl, (refl, refl)), refl)); quiet = tt; no_claims = tt }

  removed : Called K
  removed = record {
    closed = false;
    call = Removing (OfDevice (codes "d"));
    answer = None;
    own = [];
    made = entry 0 (Remove (codes "d") false) Done ∷ entry 0 (Remove (codes "d") true) Done ∷ [];
  }

  removed_is_called : IsCalled stands_for 0 removed
  unfolding removed number_bytes zeros
  removed_is_called = record { makes = (refl, ((Done, entry 0 (Remove (codes "d") true) Done ∷ [], refl, (Done, refl)), refl)); quiet = tt; no_claims = tt }

  removed_again : Called K
  removed_again = record { closed = false; call = Removing (OfDevice (codes "d")); answer = None; own = []; made = entry 0 (Remove (codes "d") false) (Refused Perm) ∷ [] }

  removed_again_is_called : IsCalled stands_for 0 removed_again
  unfolding removed_again number_bytes zeros
  removed_again_is_called = record { makes = (refl, ((Refused Perm, [], refl, (refl, refl)), refl)); quiet = tt; no_claims = tt }

  polled : Called K
  polled = record { closed = true; call = Once (PollLine 0 4); answer = None; own = []; made = entry 0 (RefusedCall 0 true) (Ready 6) ∷ [] }

  polled_is_called : IsCalled stands_for 0 polled
  unfolding polled number_bytes zeros
  polled_is_called = record { makes = (refl, (refl, refl)); quiet = tt; no_claims = tt }

  commanded_behind : Called K
  commanded_behind = record {
    closed = true;
    call = Commanding (commanded false 4 GetValues (values 0 0x1));
    answer = None;
    own = [];
    made = entry 0 (RefusedCall 0 false) (Refused NoDev) ∷ [];
  }

  commanded_behind_is_called : IsCalled stands_for 0 commanded_behind
  unfolding commanded_behind number_bytes zeros
  commanded_behind_is_called = record { makes = (refl, (refl, refl)); quiet = tt; no_claims = tt }

  pub of_calls : AreOfCalls stands_for 0 (entries_of 0 (history run given))
  unfolding history run given requested asked_again too_short failed unplugged removed removed_again polled commanded_behind number_bytes zeros
  of_calls = record {
    calls =
        once (MakeDir (codes "d")) Done ∷ once (MakeDir (codes "d/b")) Done ∷ once (Live (codes "d")) Done ∷ once (OpenChip (codes "0")) (Number 3)
        ∷ requested ∷ asked_again ∷ too_short ∷ failed ∷ once (PollLine 0 4) (Ready 0)
        ∷ unplugged ∷ removed ∷ polled ∷ commanded_behind ∷ removed_again ∷ once (Close 4) Done ∷ once (Close 3) Done ∷ [];
    each = (record { makes = (refl, ((Done, refl), refl)); quiet = tt; no_claims = tt }, (record { makes = (refl, ((Done, refl), refl)); quiet = tt; no_claims = tt }, (record { makes = (refl, ((Done, refl), refl)); quiet = tt; no_claims = tt }, (record { makes = (refl, ((Number 3, refl), refl)); quiet = tt; no_claims = tt }, (requested_is_called, (asked_again_is_called, (too_short_is_called, (failed_is_called, (record { makes = (refl, ((Ready 0, refl), refl)); quiet = tt; no_claims = tt }, (unplugged_is_called, (removed_is_called, (polled_is_called, (commanded_behind_is_called, (removed_again_is_called, (record { makes = (refl, ((Done, refl), refl)); quiet = tt; no_claims = tt }, (record { makes = (refl, ((Done, refl), refl)); quiet = tt; no_claims = tt }, tt))))))))))))))));
    are = refl;
  }

  -- the history is one that the machine can have: each entry's call is in range and answered so, and its place lets it in
  pub is_legal : IsLegal stands_for (history run given)
  unfolding history run given digits table_from no_timers number_at number_bytes stretch stretches zeros no_lines bits_where
  is_legal = (
    (refl, tt, (refl, tt, (refl, tt, (refl, tt, (refl, (omega arith, record { whole = refl; zeros = refl }), (refl, omega arith, (refl, omega arith, (refl, (omega arith, record { whole = refl; zeros = refl }), (refl, (omega arith, record { whole = refl; zeros = refl }), (refl, (omega arith, record { whole = refl; zeros = refl }), (refl, (omega arith, record { whole = refl; zeros = refl }), (refl, (omega arith, record { whole = refl; zeros = refl }), (refl, omega arith, (refl, omega arith, (refl, tt, (refl, tt, (refl, omega arith, (refl, omega arith, (refl, tt, (refl, tt, (refl, tt, tt))))))))))))))))))))),
    (λ p e. absurd (none_is_some p e), λ p e. absurd (none_is_some p e), (λ p e. absurd (none_is_some p e), λ p e. absurd (none_is_some p e), (λ p e. absurd (none_is_some p e), λ p e. absurd (none_is_some p e), (λ p e. absurd (none_is_some p e), λ p e. absurd (none_is_some p e), (at_place _ 0 (omega arith), λ p e. absurd (none_is_some p e), (at_place _ 0 (omega arith), λ p e. absurd (none_is_some p e), (at_place _ 0 (omega arith), λ p e. absurd (none_is_some p e), (at_place _ 0 (omega arith), λ p e. absurd (none_is_some p e), (at_place _ 0 (omega arith), λ p e. absurd (none_is_some p e), (at_place _ 0 (omega arith), λ p e. absurd (none_is_some p e), (at_place _ 0 (omega arith), λ p e. absurd (none_is_some p e), (at_place _ 0 (omega arith), λ p e. absurd (none_is_some p e), (at_place _ 0 (omega arith), λ p e. absurd (none_is_some p e), (λ p e. absurd (none_is_some p e), λ p e. absurd (none_is_some p e), (λ p e. absurd (none_is_some p e), λ p e. absurd (none_is_some p e), (λ p e. absurd (none_is_some p e), λ p e. absurd (none_is_some p e), (λ p e. absurd (none_is_some p e), at_place _ 0 (omega arith), (λ p e. absurd (none_is_some p e), at_place _ 0 (omega arith), (λ p e. absurd (none_is_some p e), λ p e. absurd (none_is_some p e), (λ p e. absurd (none_is_some p e), λ p e. absurd (none_is_some p e), (λ p e. absurd (none_is_some p e), λ p e. absurd (none_is_some p e), tt))))))))))))))))))))),
  )
