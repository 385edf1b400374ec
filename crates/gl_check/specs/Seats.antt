-- An actor in the midst of a history: its program goes on by itself up to its next call of the device, and then an entry at a time,
-- each of which has to be the one that this call makes next. This project's choice.
use Rattle.std.specs.Prelude.{◌≡◌, ℕ, Bool, true, false, if◌then◌else◌, List, [], ◌∷◌, ◌++◌, Option, Some, None}
use Rattle.gl_base.specs.declared.operation.Do.{Do}
use Rattle.gl_base.specs.declared.operation.Got.{Got}
use Rattle.gl_uapi.specs.Command.{command_of}
use Rattle.gl_client.specs.Program.{Left, Program, ask, done, given, goes_on, print, waits}
use Rattle.gl_model.specs.Entries.{begins, guarded_place, last_call}
use Rattle.gl_model.specs.Parts.{first_call, in_ask, in_whole, is_driver_asked, is_poll}
use Rattle.gl_model.specs.Step.{guard_reply}
use Rattle.gl_model.specs.declared.call.Call.{Call}
use Rattle.gl_model.specs.declared.call.Call.TheVariants.{Ioctl, Refused as RefusedCall}
use Rattle.gl_model.specs.declared.call.Part.TheVariants.{Tell}
use Rattle.gl_model.specs.declared.device_call.DeviceCall.{DeviceCall}
use Rattle.gl_model.specs.declared.device_call.DeviceCall.TheVariants.{Once, Removing, Commanding}
use Rattle.gl_model.specs.declared.reply.Reply.TheVariants.{Done, Refused}
use Rattle.gl_talk.specs.Open.{Names}
use Rattle.gl_core.specs.Device.{OneDeed, OneEntry}
use Rattle.gl_asking.specs.declared.kinds.Asking.{Asking}
use Rattle.gl_asking.specs.declared.kinds.Asking.TheVariants.{Calls, Plans, Accepts, Refuses}
use Rattle.gl_asking.specs.Asking.{asking, files_behind, got_of}
use Rattle.gl_asking.specs.Driving.{applies}
use Rattle.gl_asking.specs.Files.{OpenFile}
use Rattle.gl_check.specs.One.{PlannedPort, from_plan}
use Rattle.gl_check.specs.Ports.{after_answer, next_answer, unplanned}
use Rattle.gl_check.specs.declared.stand.Stand.{Stand}
use Rattle.gl_check.specs.declared.stand.Stand.TheVariants.{Ended, Before, Between}

-- the open files of an actor, and what a planned driver goes by at its port
pub record Bearing : Type 0 where
  pub files : List OpenFile
  pub port : PlannedPort

abbrev pub new_bearing : Bearing
new_bearing = record { files = []; port = unplanned }

-- Where an actor stands: at its end, before the first entry of its next call of the device, or between the two entries of one (`Stand`).
-- The first entry's call says which call of the device it is. What is left of the program, and what was printed so far.
pub record Seat : Type 0 where
  pub stand : Stand
  pub left : Left Names
  pub bearing : Bearing
  pub text : List ℕ

abbrev pub seat : Stand → Left Names → Bearing → List ℕ → Seat
seat stand left bearing text = record { stand = stand; left = left; bearing = bearing; text = text }

abbrev pub is_ended : Stand → Bool
is_ended Ended = true
is_ended (Before what first) = false
is_ended (Between what first) = false

-- the first entry's call of a call of the device that its guard let in
abbrev pub first_inside : DeviceCall → Call
first_inside (Once call) = call
first_inside (Removing removal) = first_call removal
first_inside (Commanding c) = if is_driver_asked c.of_chip c.len (command_of c.cmd) then in_ask c else in_whole c

-- the entry records a closed guard
abbrev pub is_refusal : Call → Bool
is_refusal (RefusedCall place poll) = true
is_refusal _ = false

-- the entry of a closed guard of this place, if there is one
abbrev pub IsRefusedAt : Option ℕ → Bool → OneEntry → Type 0
IsRefusedAt None poll e = ⊥
IsRefusedAt (Some place) poll e = (e.call ≡ RefusedCall place poll) × (e.reply ≡ guard_reply poll)

-- the entry is the first one of a call of the device: that of its closed guard, or the first one behind an open one
abbrev pub SuitsFirst : Bool → Call → OneEntry → Type 0
SuitsFirst true first e = IsRefusedAt (guarded_place first) (is_poll (Once first)) e
SuitsFirst false first e = e.call ≡ first

-- the second entry's call after a first one that begins: a removal's last call, or a tell of what a planned driver answers
abbrev pub second_of : Call → PlannedPort → Call
second_of (Ioctl place fd cmd len bytes part) port = Ioctl place fd cmd len bytes (Tell (next_answer (applies (command_of cmd)) port))
second_of call port = last_call call

-- after the second entry: a tell is one more call through the port
abbrev pub called : Call → Bearing → Bearing
called (Ioctl place fd cmd len bytes part) b = record b { port = after_answer b.port }
called _ b = b

-- the entry is the next one of an actor that stands so
abbrev pub SuitsStand : Stand → PlannedPort → OneEntry → Type 0
SuitsStand Ended port e = ⊥
SuitsStand (Before what first) port e = SuitsFirst (is_refusal e.call) first e
SuitsStand (Between what first) port e = e.call ≡ second_of first port

abbrev pub Suits : Seat → OneEntry → Type 0
Suits s e = SuitsStand s.stand s.bearing.port e

-- what asks for no call of the device is done at once
abbrev pub goes_by : Asking → Do → Left Names → Bearing → List ℕ → (Got → Bearing → Seat) → Seat
goes_by (Calls call) what left b text on = seat (Before what (first_inside call)) left b text
goes_by (Plans nth) what left b text on = on (got_of what Done []) (record { files = files_behind what Done b.files; port = from_plan.planned nth b.port })
goes_by (Accepts bits) what left b text on = on (got_of what Done []) (record { files = files_behind what Done b.files; port = from_plan.accepted bits b.port })
goes_by (Refuses errno) what left b text on = on (got_of what (Refused errno) []) (record { files = files_behind what (Refused errno) b.files; port = b.port })

-- how an actor stands that goes on with a program
abbrev pub settles : Program Names → Bearing → List ℕ → Seat
settles (done value) b text = seat Ended (goes_on (done value)) b text
settles (print more p) b text = settles p b (text ++ more)
settles (ask what rest) b text = goes_by (asking b.files what) what (waits rest) b text (λ got later. settles (rest got) later text)

-- an entry, and what was written there
abbrev pub deed : OneEntry → List ℕ → OneDeed
deed e bytes = record { entry = e; bytes = bytes }

-- a call of the device was answered by this deed
abbrev pub answers : Do → Left Names → Bearing → List ℕ → OneDeed → Seat
answers what left b text d =
    settles (given left (Some (got_of what d.entry.reply d.bytes))) (record { files = files_behind what d.entry.reply b.files; port = b.port }) text

abbrev pub moved_by : Stand → Left Names → Bearing → List ℕ → OneDeed → Seat
moved_by Ended left b text d = seat Ended left b text
moved_by (Before what first) left b text d = if begins d.entry.call d.entry.reply then seat (Between what first) left b text else answers what left b text d
moved_by (Between what first) left b text d = answers what left (called first b) text d

-- how an actor stands after a deed of its own
abbrev pub moved : Seat → OneDeed → Seat
moved s d = moved_by s.stand s.left s.bearing s.text d

-- deeds lead from one seat to another
abbrev pub Passes : Seat → List OneDeed → Seat → Type 0
Passes s [] t = s ≡ t
Passes s (d ∷ ds) t = Suits s d.entry × Passes (moved s d) ds t
