-- What a player does for an operation, step by step: the file that it hands in, what it is answered, and what it keeps then. This project's choice.
use Rattle.std.specs.Prelude.{◌≡◌, ◌⊎◌, ◌<◌, ◌≤◌, ℕ, false, List, length, take, Option, None, Result, Ok, Err}
use Rattle.std.specs.List.{list_any}
use Rattle.gl_base.specs.declared.errno.Errno.{Errno}
use Rattle.gl_base.specs.declared.errno.Errno.TheVariants.{Full, NoMemory}
use Rattle.gl_base.specs.declared.limits.TheConstants.{PLACES}
use Rattle.gl_base.specs.declared.operation.Do.{Do}
use Rattle.gl_base.specs.declared.operation.Do.TheVariants.{Aggregate, Close}
use Rattle.gl_driver.specs.Maps.{map_at}
use Rattle.gl_driver.specs.Told.{Told}
use Rattle.gl_driver.specs.declared.map.Target.{Target}
use Rattle.gl_model.specs.declared.device_call.DeviceCall.{DeviceCall}
use Rattle.gl_model.specs.declared.reply.Reply.{Reply}
use Rattle.gl_model.specs.declared.reply.Reply.TheVariants.{Number}
use Rattle.gl_core.specs.Device.{OneEntry}
use Rattle.gl_asking.specs.declared.kinds.Asking.TheVariants.{Calls}
use Rattle.gl_asking.specs.declared.kinds.Change.{Change}
use Rattle.gl_asking.specs.declared.kinds.FileRow.{FileRow}
use Rattle.gl_asking.specs.Asking.{file_for, files_behind, got_of}
use Rattle.gl_asking.specs.Changes.{IsFilled}
use Rattle.gl_asking.specs.Files.{OpenFile, file_in, without_file}
use Rattle.gl_asking.specs.Rows.{file_of}
use Rattle.gl_chip.specs.Values.{OneView}
use Rattle.gl_check.specs.Drivers.{DriverKind}
use Rattle.gl_check.specs.Joining.{Maps, asking_with, maps_behind, targets_in}
use Rattle.gl_check.specs.Turns.{Carried, carried}
use Rattle.gl_session.specs.Performed.{HasPerformed, MetFull}
use Rattle.gl_session.specs.Placed.{IsPlaced}
use Rattle.gl_session.specs.Targets.{is_target_at}

-- the file that an operation gives up, which is the one that it closes, and the files that are left while its call is made
abbrev pub given_up_by : Do → List OpenFile → Option OpenFile
given_up_by (Close slot) files = file_in slot files
given_up_by what files = None

abbrev pub left_for : Do → List OpenFile → List OpenFile
left_for (Close slot) files = without_file slot files
left_for what files = files

-- what is carried, with these files open
abbrev pub with_files : List OpenFile → Carried → Carried
with_files files s = carried files s.told s.maps

-- what is carried behind an operation with this reply, where the port reports this then
abbrev pub behind : Do → Reply → Option Told → Carried → Carried
behind what reply told s = carried (files_behind what reply s.files) told (maps_behind what reply s.files s.maps)

-- the call is what an operation on the file of this row is, among some open files and with some maps
abbrev pub IsAsked : Do → Option FileRow → DeviceCall → Type 0
IsAsked what row call = (m : Maps) × (files : List OpenFile) × (file_for what files ≡ file_of row) × (Calls call ≡ asking_with m files what)

-- An operation was answered so, with this in its buffer: it is carried out once its files and its maps are kept.
abbrev pub HasAnswered : DriverKind → Do → OneView → Carried → Reply → List ℕ → OneView → Option Told → Type 0
HasAnswered driver what v s reply buffer w told = (wrote : List ℕ) × HasPerformed driver what v s (got_of what reply wrote) w (behind what reply told s) × IsFilled what wrote buffer

-- or memory was wanted, or the history was full
abbrev pub AnswersSo : DriverKind → Do → Result (Reply × Change FileRow) Errno → OneView → Carried → List ℕ → OneView → Option Told → Type 0
AnswersSo driver what (Ok asked) v s buffer w told = HasAnswered driver what v s asked.0 buffer w told
AnswersSo driver what (Err errno) v s buffer w told = (errno ≡ NoMemory) ⊎ ((errno ≡ Full) × MetFull what v s w)

-- The port may learn the map of a chip over these requests: it is at a new place, and there is room.
pub record MayJoin (place : ℕ) (targets : List Target) (m : Maps) (seen : List OneEntry) : Type 0 where
  pub room : 1 ≤ m.left
  pub some : 1 ≤ length targets
  pub within : place < PLACES
  pub apart : list_any (is_target_at place) targets ≡ false
  pub new : map_at place m.kept ≡ None
  pub placed : IsPlaced seen place

abbrev pub JoinsAt : ℕ → Do → List OpenFile → Maps → List OneEntry → Type 0
JoinsAt place (Aggregate label slots count) files m seen = MayJoin place (targets_in (take count slots) files) m seen
JoinsAt place what files m seen = Unit {0}

-- so it may where the reply teaches it one
abbrev pub MayLearn : Reply → Do → List OpenFile → Maps → List OneEntry → Type 0
MayLearn (Number place) what files m seen = JoinsAt place what files m seen
MayLearn reply what files m seen = Unit {0}
