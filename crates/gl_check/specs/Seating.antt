-- What the seats of the code stand for, and what is true of them at every moment.
use Rattle.std.specs.Prelude.{◌≡◌, ℕ, ◌≤◌, Bool, true, false, List, length, map, drop, Option}
use Rattle.gl_base.specs.Lines.{IsLineCount}
use Rattle.gl_base.specs.Rows.{Each}
use Rattle.gl_base.specs.Words.{Span}
use Rattle.gl_base.specs.declared.command.TheConstants.{GET_LINE}
use Rattle.gl_base.specs.declared.operation.Do.{Do}
use Rattle.gl_base.specs.declared.operation.Do.TheVariants.{Ioctl}
use Rattle.gl_base.specs.declared.operation.Got.{Got}
use Rattle.gl_client.specs.Program.{Left, done, given, goes_on, then_left}
use Rattle.gl_model.specs.Entries.{begins}
use Rattle.gl_model.specs.declared.call.Call.{Call}
use Rattle.gl_model.specs.declared.device_call.DeviceCall.{DeviceCall}
use Rattle.gl_talk.specs.Open.{Names, no_names, setup_names}
use Rattle.gl_talk.specs.Talk.{Does, left, names_in, quits, says}
use Rattle.gl_talk.specs.declared.talk.Talk.{Talk}
use Rattle.gl_core.specs.Device.{OneEntry}
use Rattle.gl_asking.specs.Asking.{asking, buffer_of, lines_named}
use Rattle.gl_asking.specs.Changes.{IsFilled, OpensWithin}
use Rattle.gl_asking.specs.Files.{OpenFile}
use Rattle.gl_asking.specs.Rows.{IsRow, row_file}
use Rattle.gl_asking.specs.declared.kinds.Asking.TheVariants.{Calls}
use Rattle.gl_asking.specs.declared.kinds.FileRow.{FileRow}
use Rattle.gl_check.specs.One.{PlannedPort}
use Rattle.gl_check.specs.Seats.{Bearing, Seat as SeatOf, first_inside, is_ended, seat, settles}
use Rattle.gl_check.specs.declared.started.Started.{Started}
use Rattle.gl_check.specs.declared.started.Started.TheVariants.{Done, Calls as CallsFirst}
use Rattle.gl_check.specs.declared.port.Planned.{Planned}
use Rattle.gl_check.specs.declared.seat.Seat.{Seat}
use Rattle.gl_check.specs.declared.stand.Stand.{Stand}
use Rattle.gl_check.specs.declared.stand.Stand.TheVariants.{Ended, Before, Between}

-- what the code keeps of a planned driver's port
abbrev pub port_in : Planned → PlannedPort
port_in port = record { calls = port.calls; plan = port.plan; bits = port.bits }

-- the open files by the code's rows, and the port
abbrev pub bearing_by : List FileRow → Planned → Bearing
bearing_by rows port = record { files = map row_file rows; port = port_in port }

-- What comes after the statement that is under way: the statements after it, and after these the closing of what is open, where the
-- actor quits at its end. Once it closes, nothing.
abbrev pub comes_behind : Bool → Bool → ℕ → List (List Span) → Names → Does
comes_behind true quit begun statements = done
comes_behind false true begun statements = says begun statements quits
comes_behind false false begun statements = says begun statements done

-- what is left of an actor's program, by all its statements
abbrev pub left_by : Bool → List (List Span) → Talk → Bool → Left Names
left_by quit statements talk closes = then_left (left talk) (comes_behind closes quit talk.begun (drop talk.begun statements))

-- the names as an actor begins: only one in `setup` doesn't quit at its end
abbrev pub first_names : Bool → Names
first_names true = no_names
first_names false = setup_names

module _ (quit : Bool) (statements : List (List Span)) where
  -- the seat that a seat of the code stands for
  abbrev pub seat_in : Seat → SeatOf
  seat_in s = seat s.stand (left_by quit statements s.talk s.closes) (bearing_by s.rows.items s.port) s.text.items

  -- where the actor comes to that goes on with this result
  abbrev pub settled_from : Seat → Option Got → SeatOf
  settled_from s got = settles (given (left_by quit statements s.talk s.closes) got) (bearing_by s.rows.items s.port) s.text.items

-- the first entry's call is that of a call of the device that the operation is
pub record IsAsked (what : Do) (first : Call) : Type 0 where
  pub files : List OpenFile
  pub call : DeviceCall
  pub calls : Calls call ≡ asking files what
  pub first_is : first ≡ first_inside call

-- a request of lines whose ask went on names as many lines as one may have
abbrev pub NamesLines : Do → Type 0
NamesLines (Ioctl slot cmd len bytes made) = cmd ≡ GET_LINE → IsLineCount (lines_named (buffer_of len bytes)).count
NamesLines _ = Unit {0}

-- what is known of an actor by where it stands
abbrev pub IsAskedAt : Stand → Type 0
IsAskedAt Ended = Unit {0}
IsAskedAt (Before what first) = IsAsked what first
IsAskedAt (Between what first) = IsAsked what first × NamesLines what

-- what is known of an entry that suits an actor which stands so: where it begins a call of the device, of the stand after it; else that
-- its reply opens files as replies do
abbrev pub OpensBefore : Bool → Do → Call → OneEntry → Type 0
OpensBefore true what first e = NamesLines what
OpensBefore false what first e = OpensWithin what e.reply

abbrev pub OpensAt : Stand → OneEntry → Type 0
OpensAt Ended e = Unit {0}
OpensAt (Before what first) e = OpensBefore (begins e.call e.reply) what first e
OpensAt (Between what first) e = OpensWithin what e.reply

-- the buffer of an actor's entry that wrote this
abbrev pub IsFilledAt : Stand → List ℕ → List ℕ → Type 0
IsFilledAt Ended wrote buffer = Unit {0}
IsFilledAt (Before what first) wrote buffer = IsFilled what wrote buffer
IsFilledAt (Between what first) wrote buffer = IsFilled what wrote buffer

-- an operation that is asked for: it is done at once, with this result; or the actor stands before its first entry
abbrev pub goes_as : Started → Do → Left Names → Bearing → List ℕ → (Got → Bearing → SeatOf) → SeatOf
goes_as (Done got) what l b text on = on got b
goes_as (CallsFirst first) what l b text on = seat (Before what first) l b text

abbrev pub IsAskedAs : Do → Started → Type 0
IsAskedAs what (Done got) = Unit {0}
IsAskedAs what (CallsFirst first) = IsAsked what first

module _ (quit : Bool) (statements : List (List Span)) (s : Seat) where
  -- What is true of an actor while it goes on: its rows are rows, it began no more statements than there are, and it closes its files only
  -- where it quits at its end.
  pub record IsGoing : Type 0 where
    pub rows : Each IsRow s.rows.items
    pub begun : s.talk.begun ≤ length statements
    pub stays_open : quit ≡ false → s.closes ≡ false

  -- where it has ended, nothing is left of its talk; where it didn't quit, it began all its statements
  pub record HasEnded : Type 0 where
    pub rests : left s.talk ≡ goes_on (done (names_in s.talk))
    pub all : s.closes ≡ false → s.talk.begun ≡ length statements

  -- what is true of it wherever it stands
  pub record IsKept : Type 0 where
    pub going : IsGoing
    pub asked : IsAskedAt s.stand
    pub ended : is_ended s.stand ≡ true → HasEnded

-- what an actor printed
abbrev pub text_in : Seat → List ℕ
text_in s = s.text.items
