-- One: what a session with fewer than two actors does, as a function of what it says and of what the driver does where it is asked. All of
-- it is actor 0's, one call of the device after another, and within such a call those that the driver makes of its own; each is answered by
-- the machine's step in the world of those before it. This project's choice.
use Rattle.std.specs.Prelude.{ℕ, ◌+◌, Bool, true, false, ◌&&◌, not, if◌then◌else◌, List, [], ◌∷◌, ◌++◌, length, map, Option, Some, None}
use Rattle.gl_base.specs.Count.{counted_up}
use Rattle.gl_base.specs.Planned.{bits_for, planned_answer, planned_call}
use Rattle.gl_base.specs.Words.{Span}
use Rattle.gl_base.specs.declared.operation.Do.{Do}
use Rattle.gl_base.specs.declared.operation.Got.{Got}
use Rattle.gl_base.specs.declared.phase.Phase.{Phase}
use Rattle.gl_base.specs.declared.phase.Phase.TheVariants.{Absent, Up, Leaving, Gone}
use Rattle.gl_uapi.specs.Command.{command_of}
use Rattle.gl_client.specs.Program.{Program, done, print, ask}
use Rattle.gl_driver.specs.Maps.{map_for}
use Rattle.gl_driver.specs.Told.{Told, counts_for, new_port, with_bits, with_call_counting, with_plan}
use Rattle.gl_driver.specs.declared.map.Map.{Map}
use Rattle.gl_base.specs.declared.op.Op.{Op}
use Rattle.gl_script.specs.Columns.{columns}
use Rattle.gl_script.specs.Section.{SaidSection}
use Rattle.gl_script.specs.declared.section.SectionKind.{SectionKind}
use Rattle.gl_script.specs.declared.section.SectionKind.TheVariants.{Setup, Actor, After}
use Rattle.gl_model.specs.Chips.{phase_at}
use Rattle.gl_model.specs.Entries.{begins, guarded_place, last_call}
use Rattle.gl_model.specs.Outcome.{Outcome}
use Rattle.gl_model.specs.declared.device_call.DeviceCall.{DeviceCall}
use Rattle.gl_model.specs.declared.device_call.DeviceCall.TheVariants.{Once, Removing, Commanding}
use Rattle.gl_model.specs.Parts.{first_call, guard_of, in_ask, in_tell, in_whole, is_driver_asked, is_poll}
use Rattle.gl_model.specs.Step.{step}
use Rattle.gl_model.specs.World.{World, opening}
use Rattle.gl_model.specs.declared.call.Call.{Call}
use Rattle.gl_model.specs.declared.call.Call.TheVariants.{Refused as RefusedCall}
use Rattle.gl_model.specs.declared.reply.Reply.{Reply}
use Rattle.gl_model.specs.declared.reply.Reply.TheVariants.{Done as DoneReply, Refused as RefusedReply}
use Rattle.gl_talk.specs.Open.{Names, left_setup, no_names, setup_names}
use Rattle.gl_talk.specs.Talk.{quits, says, talks}
use Rattle.gl_asking.specs.declared.kinds.Asking.{Asking}
use Rattle.gl_asking.specs.declared.kinds.Asking.TheVariants.{Calls, Plans, Accepts, Refuses}
use Rattle.gl_asking.specs.Asking.{files_behind, got_of}
use Rattle.gl_asking.specs.Driving.{op_asked}
use Rattle.gl_asking.specs.Files.{OpenFile}
use Rattle.gl_check.specs.Joining.{Maps, asking_with, maps_behind, no_maps}
use Rattle.gl_core.specs.Device.{call_tells}

abbrev pub is_gone : Phase → Bool
is_gone Absent = false
is_gone Up = false
is_gone Leaving = false
is_gone Gone = true

-- the first entry of a call of the device begins the second
abbrev pub goes_on : World → Call → Bool
goes_on w first = begins first (step w 0 first).reply

-- What a driver does in a call that asks it: the calls that it makes of its own, one after another, and then its answer.
pub record Answering : Type 0 where
  pub own : List Call
  pub answer : Option ℕ

-- an answer without a call of its own
abbrev pub at_once : Option ℕ → Answering
at_once answer = record { own = []; answer = answer }

abbrev pub answer_in : Answering → Option ℕ
answer_in a = a.answer

-- the guard of a call is closed: its place is gone
abbrev pub is_closed : Option ℕ → World → Bool
is_closed None w = false
is_closed (Some place) w = is_gone (phase_at w place)

-- the place whose guard a call came to, be it let in or refused there
abbrev pub place_of_guard : Call → Option ℕ
place_of_guard (RefusedCall place poll) = Some place
place_of_guard call = guarded_place call

-- a call that was made: the call, whether its guard was closed, its reply, and what was written
pub record StepDone : Type 0 where
  pub call : Call
  pub closed : Bool
  pub reply : Reply
  pub bytes : List ℕ

abbrev pub step_done : World → Call → StepDone
step_done w call = record { call = call; closed = is_closed (place_of_guard call) w; reply = (step w 0 call).reply; bytes = (step w 0 call).bytes }

abbrev pub steps_of : World → List Call → List StepDone
steps_of w [] = []
steps_of w (call ∷ calls) = step_done w call ∷ steps_of (step w 0 call).world calls

-- the world behind calls, one after another
abbrev pub world_behind : World → List Call → World
world_behind w [] = w
world_behind w (call ∷ calls) = world_behind (step w 0 call).world calls

-- the two entries of a call of the device, the second where the first begins it, and between them these calls
abbrev pub two_around : World → Call → List Call → Call → Outcome
two_around w first own second = if goes_on w first then step (world_behind (step w 0 first).world own) 0 second else step w 0 first

-- the same with none between them
abbrev pub two : World → Call → Call → Outcome
two w first second = two_around w first [] second

-- what a call of the device comes to behind its guard, where the driver does this if it is asked
abbrev pub inside_by : World → DeviceCall → Answering → Outcome
inside_by w (Once call) a = step w 0 call
inside_by w (Removing removal) a = two w (first_call removal) (last_call (first_call removal))
inside_by w (Commanding c) a =
    if is_driver_asked c.of_chip c.len (command_of c.cmd) then two_around w (in_ask c) a.own (in_tell a.answer c) else step w 0 (in_whole c)

-- the same with an answer at once
abbrev pub inside : World → DeviceCall → Option ℕ → Outcome
inside w call answer = inside_by w call (at_once answer)

-- the guard of a place is closed where its chip is gone: one actor is never between the two calls of a removal
abbrev pub at_guard : Option ℕ → Bool → World → Outcome → Outcome
at_guard None poll w out = out
at_guard (Some place) poll w out = if is_gone (phase_at w place) then step w 0 (RefusedCall place poll) else out

-- what a call of the device comes to, and what it comes to with an answer at once
abbrev pub comes_by : World → DeviceCall → Answering → Outcome
comes_by w call a = at_guard (guard_of call) (is_poll call) w (inside_by w call a)

abbrev pub comes_to : World → DeviceCall → Option ℕ → Outcome
comes_to w call answer = comes_by w call (at_once answer)

-- How many entries a call of the device makes in which the driver makes so many of its own if it is asked: one at a closed guard; behind an
-- open guard one, or where the first begins the second, these two and the driver's own.
abbrev pub one_or_more : World → Call → ℕ → ℕ
one_or_more w first own = if goes_on w first then 2 + own else 1

abbrev pub count_inside : World → DeviceCall → ℕ → ℕ
count_inside w (Once call) own = 1
count_inside w (Removing removal) own = one_or_more w (first_call removal) 0
count_inside w (Commanding c) own = if is_driver_asked c.of_chip c.len (command_of c.cmd) then one_or_more w (in_ask c) own else 1

abbrev pub entry_count : World → DeviceCall → ℕ → ℕ
entry_count w call own = if is_closed (guard_of call) w then 1 else count_inside w call own

-- a call of the device asks the driver: a command of the handle's kind that is long enough, and that the machine answers with Go
abbrev pub is_asked : World → DeviceCall → Bool
is_asked w (Once call) = false
is_asked w (Removing removal) = false
is_asked w (Commanding c) = is_driver_asked c.of_chip c.len (command_of c.cmd)
    && (not (is_gone (phase_at w c.place)) && goes_on w (in_ask c))

-- Where a driver's answers come from: what it does next where it is asked this, at a place where it goes by this map; what is left after that,
-- after a plan of its port, and after bits that its port accepted; and what its port tells, where that is known.
pub record Answers (X : Type 0) : Type 0 where
  pub next : Option Map → Option Op → X → Answering
  pub behind : Option Map → Option Op → X → X
  pub planned : ℕ → X → X
  pub accepted : ℕ → X → X
  pub tells : X → Option Told

-- in the order of a list; where none is left, a failure at once
abbrev pub first_of_list : List Answering → Answering
first_of_list [] = at_once None
first_of_list (a ∷ given) = a

abbrev pub rest_of_list : List Answering → List Answering
rest_of_list [] = []
rest_of_list (a ∷ given) = given

abbrev pub from_list : Answers (List Answering)
from_list = record {
  next = λ map op given. first_of_list given;
  behind = λ map op given. rest_of_list given;
  planned = λ nth given. given;
  accepted = λ bits given. given;
  tells = λ given. None;
}

-- in the order of a list, through a port that may tell
pub record TellingPort : Type 0 where
  pub left : List Answering
  pub told : Option Told

-- how many calls were told among calls
abbrev pub tells_among : List Call → ℕ
tells_among [] = 0
tells_among (call ∷ calls) = length (call_tells call) + tells_among calls

abbrev pub told_of : Option Map → Option Op → Answering → Option Told → Option Told
told_of map None a told = told
told_of map (Some op) a told = with_call_counting (counts_for map (tells_among a.own)) op a.answer told

abbrev pub from_port : Answers TellingPort
from_port = record {
  next = λ map op port. first_of_list port.left;
  behind = λ map op port. record { left = rest_of_list port.left; told = told_of map op (first_of_list port.left) port.told };
  planned = λ nth port. record { left = port.left; told = with_plan nth port.told };
  accepted = λ bits port. record { left = port.left; told = with_bits bits port.told };
  tells = λ port. port.told;
}

-- what a planned driver answers, by how many calls its port's plan counts, the call that the plan names, and the accepted bits
pub record PlannedPort : Type 0 where
  pub calls : ℕ
  pub plan : Option ℕ
  pub bits : ℕ

-- what a planned driver answers where it doesn't fail; where it is asked nothing no answer counts
abbrev pub bits_asked : Option Op → ℕ → ℕ
bits_asked None bits = bits
bits_asked (Some op) bits = bits_for op bits

abbrev pub from_plan : Answers PlannedPort
from_plan = record {
  next = λ map op port. at_once (planned_answer (bits_asked op port.bits) port.plan (counted_up port.calls));
  behind = λ map op port. record { calls = counted_up port.calls; plan = port.plan; bits = port.bits };
  planned = λ nth port. record { calls = port.calls; plan = planned_call port.calls nth; bits = port.bits };
  accepted = λ bits port. record { calls = port.calls; plan = port.plan; bits = bits };
  tells = λ port. None;
}

-- One call of the driver: by which map it went, what it was asked, what its port told before; the calls that it made of its own, each with its
-- reply and what was written; and what it answered.
pub record DriverAsked : Type 0 where
  pub map : Option Map
  pub op : Option Op
  pub before : Option Told
  pub did : List StepDone
  pub answer : Option ℕ

-- how a session stands: the world, the open files of the talk, the maps of the port, where the driver's next answers come from, those that were
-- taken, the calls of the driver, and how many entries were made
pub record Standing (X : Type 0) : Type 0 where
  pub world : World
  pub files : List OpenFile
  pub maps : Maps
  pub source : X
  pub took : List Answering
  pub asked : List DriverAsked
  pub entries : ℕ

-- so many entries more
abbrev pub with_entries : {X : Type 0} → ℕ → Standing X → Standing X
with_entries count s = record s { entries = s.entries + count }

-- a program that was run: its text, the value that it gives, and how the session stands then
pub record Ran (X A : Type 0) : Type 0 where
  pub text : List ℕ
  pub value : A
  pub behind : Standing X

abbrev pub behind_text : {X A : Type 0} → List ℕ → Ran X A → Ran X A
behind_text text ran = record ran { text = text ++ ran.text }

-- the map by which a driver goes that makes so many entries at most, for a call with these maps
abbrev pub map_by : ℕ → Maps → DeviceCall → Option Map
map_by limit m (Once call) = None
map_by limit m (Removing removal) = None
map_by limit m (Commanding c) = map_for limit c.place m.kept

-- the world in which a driver is asked for a call: that behind the ask
abbrev pub world_asked : World → DeviceCall → World
world_asked w (Once call) = w
world_asked w (Removing removal) = w
world_asked w (Commanding c) = (step w 0 (in_ask c)).world

-- `limit`: how many entries of its own the driver makes for a call at most; one that makes none goes by no map.
module _ {X : Type 0} (limit : ℕ) (answers : Answers X) where
  -- the driver is asked this for a call, and an answer is taken, or it isn't asked
  abbrev pub with_answer : DeviceCall → Option Op → Bool → Standing X → Standing X
  with_answer call op false s = s
  with_answer call op true s =
      let by = map_by limit s.maps call in
      let a = answers.next by op s.source in
      record s {
        source = answers.behind by op s.source;
        took = s.took ++ a ∷ [];
        asked = s.asked ++ record {
          map = by;
          op = op;
          before = answers.tells s.source;
          did = steps_of (world_asked s.world call) a.own;
          answer = a.answer;
        } ∷ [];
      }

  -- an operation with this reply and these bytes
  abbrev pub answered : Do → Reply → List ℕ → Standing X → Got × Standing X
  answered what reply wrote s = (got_of what reply wrote, record s { files = files_behind what reply s.files; maps = maps_behind what reply s.files s.maps })

  abbrev pub came_to : Do → Outcome → Standing X → Got × Standing X
  came_to what out s = answered what out.reply out.bytes (record s { world = out.world })

  -- an operation, and how the session stands after it
  abbrev pub performs_as : Asking → Option Op → Do → Standing X → Got × Standing X
  performs_as (Calls call) op what s =
      let a = answers.next (map_by limit s.maps call) op s.source in
      came_to what (comes_by s.world call a) (with_entries (entry_count s.world call (length a.own)) (with_answer call op (is_asked s.world call) s))
  performs_as (Plans nth) op what s = answered what DoneReply [] (record s { source = answers.planned nth s.source })
  performs_as (Accepts bits) op what s = answered what DoneReply [] (record s { source = answers.accepted bits s.source })
  performs_as (Refuses errno) op what s = answered what (RefusedReply errno) [] s

  abbrev pub performs : Do → Standing X → Got × Standing X
  performs what s = performs_as (asking_with s.maps s.files what) (op_asked s.files what) what s

  -- a program, each of its operations answered by the device as it then stands
  abbrev pub run : {A : Type 0} → Program A → Standing X → Ran X A
  run (done value) s = record { text = []; value = value; behind = s }
  run (print text p) s = behind_text text (run p s)
  run (ask what p) s = run (p (performs what s).0) (performs what s).1

abbrev pub is_kind : SectionKind → SectionKind → Bool
is_kind Setup Setup = true
is_kind Actor Actor = true
is_kind After After = true
is_kind _ _ = false

-- the words of the statements in the sections of a kind, in order
abbrev pub said_in_kind : SectionKind → List SaidSection → List (List Span)
said_in_kind kind [] = []
said_in_kind kind (section ∷ sections) =
    if is_kind kind section.kind then map (λ line. columns line.text) section.statements ++ said_in_kind kind sections else said_in_kind kind sections

-- `left`: how many maps the port takes at the beginning
module _ {X : Type 0} (limit left : ℕ) (answers : Answers X) where
  -- `setup`, then the actor, then `after`. The first and the last are one talk, which waits in between with its files and names;
  -- the actor's section is a talk of its own.
  abbrev pub run_setup : List SaidSection → X → Ran X Names
  run_setup sections source = run limit answers (says 0 (said_in_kind Setup sections) done setup_names) (record { world = opening; files = []; maps = no_maps left; source = source; took = []; asked = []; entries = 0 })

  abbrev pub run_actor : List SaidSection → Standing X → Ran X Names
  run_actor sections s = run limit answers (talks 0 (said_in_kind Actor sections) no_names) (record s { files = [] })

  abbrev pub run_after : List SaidSection → Ran X Names → Standing X → Ran X Names
  run_after sections setup s = run limit answers (says (length (said_in_kind Setup sections)) (said_in_kind After sections) quits (left_setup setup.value)) (record s { files = setup.behind.files })

  abbrev pub behind_setup : List SaidSection → Ran X Names → Ran X Names
  behind_setup sections setup =
      let actor = run_actor sections setup.behind in
      behind_text (setup.text ++ actor.text) (run_after sections setup actor.behind)

  abbrev pub run_session : List SaidSection → X → Ran X Names
  run_session sections source = behind_setup sections (run_setup sections source)

module _ (limit left : ℕ) where
  -- One: the text of a session's sections, over what its driver does where it is asked
  abbrev pub one_over : List SaidSection → List Answering → List ℕ
  one_over sections given = (run_session limit left from_list sections given).text

  -- what of this a session takes: just what was given where there is neither too much nor too little
  abbrev pub taken_over : List SaidSection → List Answering → List Answering
  taken_over sections given = (run_session limit left from_list sections given).behind.took

  -- how many entries it makes then
  abbrev pub entries_over : List SaidSection → List Answering → ℕ
  entries_over sections given = (run_session limit left from_list sections given).behind.entries

  -- the maps that the port keeps then, and how many more it takes
  abbrev pub maps_over : List SaidSection → List Answering → Maps
  maps_over sections given = (run_session limit left from_list sections given).behind.maps

  -- the calls of the driver, through a port that told this before, and what it tells then
  abbrev pub asked_over : List SaidSection → List Answering → Option Told → List DriverAsked
  asked_over sections given before = (run_session limit left from_port sections (record { left = given; told = before })).behind.asked

  abbrev pub told_over : List SaidSection → List Answering → Option Told → Option Told
  told_over sections given before = (run_session limit left from_port sections (record { left = given; told = before })).behind.source.told

-- The same over answers of a driver that makes no calls of its own, and a port that takes no maps. A session without `aggregate` needs none.
abbrev pub one : List SaidSection → List (Option ℕ) → List ℕ
one sections answers = one_over 0 0 sections (map at_once answers)

abbrev pub taken : List SaidSection → List (Option ℕ) → List (Option ℕ)
taken sections answers = map answer_in (taken_over 0 0 sections (map at_once answers))

abbrev pub entries_made : List SaidSection → List (Option ℕ) → ℕ
entries_made sections answers = entries_over 0 0 sections (map at_once answers)

-- what a port tells after a session over such answers, by what it told before: all that statements and calls make of it
abbrev pub told_behind : List SaidSection → List (Option ℕ) → Option Told → Option Told
told_behind sections answers before = told_over 0 0 sections (map at_once answers) before

-- the answers that a planned driver gives to a session through a port that told this
abbrev pub planned_over : Told → List SaidSection → List (Option ℕ)
planned_over t sections = map answer_in (run_session 0 0 from_plan sections (record { calls = t.counted; plan = t.plan; bits = t.bits })).behind.took

-- Planned: those that it gives through a new port
abbrev pub planned : List SaidSection → List (Option ℕ)
planned sections = planned_over new_port sections
