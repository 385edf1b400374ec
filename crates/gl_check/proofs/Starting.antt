-- What comes of an operation that is asked for, by what it asks.
use Rattle.std.proofs.Common.{◌≡◌, ℕ, ◌<◌, ◌^◌, List, map, Option, sym, ap, subst, ◌∙◌, arith}
use Rattle.gl_base.specs.declared.errno.Errno.{Errno}
use Rattle.gl_base.specs.declared.operation.Do.{Do}
use Rattle.gl_base.specs.declared.operation.Do.TheVariants.{Ioctl}
use Rattle.gl_base.specs.declared.operation.Got.{Got}
use Rattle.gl_base.specs.declared.operation.Got.TheVariants.{Done as GotDone, Refused as GotRefused}
use Rattle.gl_client.specs.Program.{Left}
use Rattle.gl_model.specs.declared.call.Call.{Call}
use Rattle.gl_model.specs.declared.device_call.DeviceCall.{DeviceCall}
use Rattle.gl_model.specs.Written.{number_answered}
use Rattle.gl_model.specs.declared.reply.Reply.{Reply}
use Rattle.gl_model.specs.declared.reply.Reply.TheVariants.{Done, Number, Refused}
use Rattle.gl_talk.specs.Open.{Names}
use Rattle.gl_asking.specs.Asking.{asking, files_behind}
use Rattle.gl_asking.specs.Changes.{NamesMade, OpensWithin}
use Rattle.gl_asking.specs.Files.{OpenFile}
use Rattle.gl_asking.specs.Rows.{row_file}
use Rattle.gl_asking.specs.declared.kinds.Answered.{Answered}
use Rattle.gl_asking.specs.declared.kinds.Asking.{Asking}
use Rattle.gl_asking.specs.declared.kinds.Asking.TheVariants.{Calls, Plans, Accepts, Refuses}
use Rattle.gl_asking.specs.declared.kinds.FileRow.{FileRow}
use Rattle.gl_asking.proofs.Told.{accepted_got, planned_got, refused_got}
use Rattle.gl_check.specs.One.{PlannedPort, from_plan}
use Rattle.gl_check.specs.Seating.{IsAsked, bearing_by, port_in}
use Rattle.gl_check.specs.Seats.{Bearing, Seat, first_inside, goes_by, seat}
use Rattle.gl_check.specs.declared.port.Planned.{Planned}
use Rattle.gl_check.specs.declared.stand.Stand.TheVariants.{Before}
use Rattle.gl_check.proofs.Handing.{opens_nothing}

module _ (what : Do) (l : Left Names) (text : List ℕ) (on : Got → Bearing → Seat) (rows : List FileRow) (port : Planned) (asked : Asking) (told : asked ≡ asking (map row_file rows) what) where
  pub goes_call : (call : DeviceCall) (first : Call) (more : List FileRow) → asked ≡ Calls call → first ≡ first_inside call → map row_file more ≡ map row_file rows
      → goes_by (asking (map row_file rows) what) what l (bearing_by rows port) text on ≡ seat (Before what first) l (bearing_by more port) text
  goes_call call first more is first_is same =
      ap (λ (a : Asking). goes_by a what l (bearing_by rows port) text on) (sym told ∙ is)
      ∙ ap (λ (x : Call × List OpenFile). seat (Before what x.0) l (record { files = x.1; port = port_in port }) text) (λ i. (sym first_is i, sym same i))

  pub goes_planned : (nth : ℕ) (more : List FileRow) (then : Planned) → asked ≡ Plans nth → port_in then ≡ from_plan.planned nth (port_in port) → map row_file more ≡ files_behind what Done (map row_file rows)
      → goes_by (asking (map row_file rows) what) what l (bearing_by rows port) text on ≡ on GotDone (bearing_by more then)
  goes_planned nth more then is ported kept =
      ap (λ (a : Asking). goes_by a what l (bearing_by rows port) text on) (sym told ∙ is)
      ∙ ap (λ (x : Got × List OpenFile × PlannedPort). on x.0 (record { files = x.1; port = x.2 })) (λ i. (sym (planned_got (map row_file rows) what nth (sym is ∙ told)) i, sym kept i, sym ported i))

  pub goes_accepted : (bits : ℕ) (more : List FileRow) (then : Planned) → asked ≡ Accepts bits → port_in then ≡ from_plan.accepted bits (port_in port) → map row_file more ≡ files_behind what Done (map row_file rows)
      → goes_by (asking (map row_file rows) what) what l (bearing_by rows port) text on ≡ on GotDone (bearing_by more then)
  goes_accepted bits more then is ported kept =
      ap (λ (a : Asking). goes_by a what l (bearing_by rows port) text on) (sym told ∙ is)
      ∙ ap (λ (x : Got × List OpenFile × PlannedPort). on x.0 (record { files = x.1; port = x.2 })) (λ i. (sym (accepted_got (map row_file rows) what bits (sym is ∙ told)) i, sym kept i, sym ported i))

  pub goes_refused : (errno : Errno) (more : List FileRow) → asked ≡ Refuses errno → map row_file more ≡ files_behind what (Refused errno) (map row_file rows)
      → goes_by (asking (map row_file rows) what) what l (bearing_by rows port) text on ≡ on (GotRefused errno) (bearing_by more port)
  goes_refused errno more is kept =
      ap (λ (a : Asking). goes_by a what l (bearing_by rows port) text on) (sym told ∙ is)
      ∙ ap (λ (x : Got × List OpenFile). on x.0 (record { files = x.1; port = port_in port })) (λ i. (sym (refused_got what errno) i, sym kept i))

-- the call that an operation is, as what is asked for
pub asked_as : (what : Do) (files : List OpenFile) (asked : Asking) (call : DeviceCall) (first : Call) → asked ≡ asking files what → asked ≡ Calls call → first ≡ first_inside call → IsAsked what first
asked_as what files asked call first told is first_is = record { files = files; call = call; calls = sym is ∙ told; first_is = first_is }

-- what is answered without a number opens nothing, and names no lines
done_small : (r : Reply) → r ≡ Done → number_answered r < 2 ^ 32
done_small r is = subst (λ (s : Reply). number_answered s < 2 ^ 32) (sym is) (omega arith)

done_no_number : (r : Reply) → r ≡ Done → (n : ℕ) → r ≡ Number n → ⊥
done_no_number r is n e = no_done n (sym is ∙ e)
  where
    no_done : (n : ℕ) → Done ≡ Number n → ⊥
    no_done n e = cc

refusal_small : (r : Reply) (errno : Errno) → r ≡ Refused errno → number_answered r < 2 ^ 32
refusal_small r errno is = subst (λ (s : Reply). number_answered s < 2 ^ 32) (sym is) (omega arith)

refusal_no_number : (r : Reply) (errno : Errno) → r ≡ Refused errno → (n : ℕ) → r ≡ Number n → ⊥
refusal_no_number r errno is n e = no_refusal n (sym is ∙ e)
  where
    no_refusal : (n : ℕ) → Refused errno ≡ Number n → ⊥
    no_refusal n e = cc

names_nothing : (what : Do) (row : Option FileRow) (answered : Answered) → ((n : ℕ) → answered.reply ≡ Number n → ⊥) → NamesMade what row answered
names_nothing (Ioctl slot cmd len bytes made) row answered none = λ is fd e on. absurd (none fd e)
names_nothing _ row answered none = tt

pub done_opens : (what : Do) (r : Reply) → r ≡ Done → OpensWithin what r
done_opens what r is = opens_nothing what r (done_small r is) (done_no_number r is)

pub refusal_opens : (what : Do) (r : Reply) (errno : Errno) → r ≡ Refused errno → OpensWithin what r
refusal_opens what r errno is = opens_nothing what r (refusal_small r errno is) (refusal_no_number r errno is)

pub done_names : (what : Do) (row : Option FileRow) (answered : Answered) → answered.reply ≡ Done → NamesMade what row answered
done_names what row answered is = names_nothing what row answered (done_no_number answered.reply is)

pub refusal_names : (what : Do) (row : Option FileRow) (answered : Answered) (errno : Errno) → answered.reply ≡ Refused errno → NamesMade what row answered
refusal_names what row answered errno is = names_nothing what row answered (refusal_no_number answered.reply errno is)
