-- What an actor has open, by its names: files, and tools that were started. This project's choice.
use Rattle.std.specs.Prelude.{ℕ, Bool, true, false, nat_lt, ◌||◌, List, [], ◌∷◌, ◌++◌, map, find, is_some, Option, Some, None, option_map}
use Rattle.std.specs.Str.{bytes_eq}
use Rattle.gl_base.specs.Ordered.{ordered}
use Rattle.gl_base.specs.Rows.{without_first}
use Rattle.gl_client.specs.OpenSlots.{with_slot}
use Rattle.gl_monitor.specs.Monitor.{Watched, watched_by, watched_slot}
use Rattle.gl_values.specs.Client.{held_by}
use Rattle.gl_values.specs.Set.{Held}
use Rattle.gl_v1.specs.declared.commands.KindV1.TheVariants.{Event}
use Rattle.gl_talk.specs.declared.files.TalkFileKind.{TalkFileKind}
use Rattle.gl_talk.specs.declared.files.TalkFileKind.TheVariants.{Chip, Request, Old}
use Rattle.gl_talk.specs.declared.files.TalkFile.{TalkFile}
use Rattle.gl_talk.specs.declared.held.MonitorRow.{MonitorRow}
use Rattle.gl_talk.specs.declared.held.SetRow.{SetRow}
use Rattle.gl_talk.specs.Words.{name_word}

-- an open file: its name, the slot that its operations name, and what kind of file it is
pub record File : Type 0 where
  pub name : List ℕ
  pub slot : ℕ
  pub kind : TalkFileKind

-- it is a chip's file, a request of v2, a request for edges of the first uAPI
abbrev pub is_chip : TalkFileKind → Bool
is_chip Chip = true
is_chip _ = false

abbrev pub is_request : TalkFileKind → Bool
is_request Request = true
is_request _ = false

abbrev pub is_old_event : TalkFileKind → Bool
is_old_event (Old Event) = true
is_old_event _ = false

-- a gpioset that was started: its name, and the slot of the request that it holds
pub record SetTool : Type 0 where
  pub name : List ℕ
  pub held : Held

-- a gpiomon or gpionotify that was started: its name, and what it watches
pub record MonitorTool : Type 0 where
  pub name : List ℕ
  pub watched : Watched

-- what an actor has open, by name; names of files and names of tools are apart. And whether the statements under way are those of `setup`.
pub record Names : Type 0 where
  pub files : List File
  pub sets : List SetTool
  pub monitors : List MonitorTool
  pub in_setup : Bool

abbrev pub no_names : Names
no_names = record { files = []; sets = []; monitors = []; in_setup = false }

-- as `setup` begins, and as another section goes on with what it left
abbrev pub setup_names : Names
setup_names = record no_names { in_setup = true }

abbrev pub left_setup : Names → Names
left_setup names = record names { in_setup = false }

abbrev pub is_file : List ℕ → File → Bool
is_file name file = bytes_eq file.name name

abbrev pub is_set : List ℕ → SetTool → Bool
is_set name tool = bytes_eq tool.name name

abbrev pub is_monitor : List ℕ → MonitorTool → Bool
is_monitor name tool = bytes_eq tool.name name

-- there is a file, and it is a chip's
abbrev pub is_chip_file : Option File → Bool
is_chip_file None = false
is_chip_file (Some file) = is_chip file.kind

-- the file of a name, if there is one
abbrev pub file_of : List ℕ → List File → Option File
file_of name files = find (is_file name) files

-- what the gpioset of a name holds, and what the monitor of a name watches, if there is one
abbrev pub held_of_name : List ℕ → List SetTool → Option Held
held_of_name name tools = option_map (λ tool. tool.held) (find (is_set name) tools)

abbrev pub watched_of_name : List ℕ → List MonitorTool → Option Watched
watched_of_name name tools = option_map (λ tool. tool.watched) (find (is_monitor name) tools)

-- a tool has the name
abbrev pub has_tool : List ℕ → Names → Bool
has_tool name names = is_some (held_of_name name names.sets) || is_some (watched_of_name name names.monitors)

-- A file more, and a file less. Names of files and tools are kept as names: of a word that is none no byte is kept.
abbrev pub with_file : File → Names → Names
with_file file names = record names { files = names.files ++ file ∷ [] }

abbrev pub without_file : List ℕ → Names → Names
without_file name names = record names { files = without_first (is_file name) names.files }

-- a tool more, where it holds or watches something; where it doesn't it has ended, and its name is free
abbrev pub with_set : List ℕ → Held → Names → Names
with_set name None names = names
with_set name (Some slot) names = record names { sets = names.sets ++ record { name = name_word name; held = Some slot } ∷ [] }

abbrev pub with_monitor : List ℕ → Watched → Names → Names
with_monitor name None names = names
with_monitor name (Some watching) names = record names { monitors = names.monitors ++ record { name = name_word name; watched = Some watching } ∷ [] }

-- a tool less
abbrev pub without_set : List ℕ → Names → Names
without_set name names = record names { sets = without_first (is_set name) names.sets }

abbrev pub without_monitor : List ℕ → Names → Names
without_monitor name names = record names { monitors = without_first (is_monitor name) names.monitors }

-- the slots of open files; those of tools are among them
abbrev pub set_slots : List SetTool → List ℕ
set_slots [] = []
set_slots (tool ∷ tools) = with_slot tool.held (set_slots tools)

abbrev pub monitor_slots : List MonitorTool → List ℕ
monitor_slots [] = []
monitor_slots (tool ∷ tools) = with_slot (watched_slot tool.watched) (monitor_slots tools)

abbrev pub open_slots : Names → List ℕ
open_slots names = map (λ file. file.slot) names.files ++ (set_slots names.sets ++ monitor_slots names.monitors)

-- The slots in their order, which is that in which the files were opened: each statement has slots of its own, greater than
-- those of the statements before it. The device numbers files as they are opened, so it is the order of their numbers too.
abbrev pub slots_in_order : Names → List ℕ
slots_in_order names = ordered nat_lt (open_slots names)

-- the rows of the code stand for these
abbrev pub file_in : TalkFile → File
file_in row = record { name = row.name; slot = row.slot; kind = row.kind }

abbrev pub set_in : SetRow → SetTool
set_in row = record { name = row.name; held = held_by row.client }

abbrev pub monitor_in : MonitorRow → MonitorTool
monitor_in row = record { name = row.name; watched = watched_by row.monitor }

abbrev pub is_row : List ℕ → TalkFile → Bool
is_row name row = bytes_eq row.name name

abbrev pub is_set_row : List ℕ → SetRow → Bool
is_set_row name row = bytes_eq row.name name

abbrev pub is_monitor_row : List ℕ → MonitorRow → Bool
is_monitor_row name row = bytes_eq row.name name
