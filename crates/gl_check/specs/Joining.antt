-- A chip whose lines are those of requests: what asks for it comes to, by the open files of whoever asks and by the maps of its port; and the map
-- that the port keeps then. A slot in which no request is open is left out, which no statement asks for. This project's choice.
use Rattle.std.specs.List.{list_any}
use Rattle.std.specs.Prelude.{ℕ, ◌-◌, Bool, not, nat_eq, if◌then◌else◌, List, [], ◌∷◌, ◌++◌, take, replicate, length, sum_by, is_some, Option, Some, None}
use Rattle.gl_base.specs.Refusals.{first_of, when}
use Rattle.gl_base.specs.declared.errno.Errno.{Errno}
use Rattle.gl_base.specs.declared.errno.Errno.TheVariants.{Inval, NoSpc}
use Rattle.gl_base.specs.declared.kind.Kind.TheVariants.{Remote}
use Rattle.gl_base.specs.declared.operation.Do.{Do}
use Rattle.gl_base.specs.declared.operation.Do.TheVariants.{Aggregate}
use Rattle.gl_driver.specs.Maps.{left_behind, map_at, with_map}
use Rattle.gl_driver.specs.declared.map.Map.{Map}
use Rattle.gl_driver.specs.declared.map.Target.{Target}
use Rattle.gl_model.specs.declared.call.Call.TheVariants.{Probe}
use Rattle.gl_model.specs.declared.reply.Reply.{Reply}
use Rattle.gl_model.specs.declared.reply.Reply.TheVariants.{Number}
use Rattle.gl_asking.specs.Asking.{asking, has_lines, once}
use Rattle.gl_asking.specs.Files.{OpenFile, file_in}
use Rattle.gl_asking.specs.declared.kinds.Asking.{Asking}
use Rattle.gl_asking.specs.declared.kinds.Asking.TheVariants.{Refuses}

-- the maps of a port: those that it keeps, in the order in which it learned them, and how many more it takes
pub record Maps : Type 0 where
  pub kept : List Map
  pub left : ℕ

abbrev pub maps : List Map → ℕ → Maps
maps kept left = record { kept = kept; left = left }

-- a port without a map, which takes so many
abbrev pub no_maps : ℕ → Maps
no_maps left = maps [] left

-- a map more, and maps one after another
abbrev pub with_one : Map → Maps → Maps
with_one map m = maps (with_map m.left map m.kept) (left_behind m.left)

abbrev pub taught : List Map → Maps → Maps
taught [] m = m
taught (map ∷ more) m = taught more (with_one map m)

-- the requests in slots, in order
abbrev pub target_of : OpenFile → Target
target_of file = record { place = file.place; fd = file.fd; lines = file.lines }

abbrev pub target_in : Option OpenFile → List Target
target_in None = []
target_in (Some file) = if file.of_chip then [] else target_of file ∷ []

abbrev pub targets_in : List ℕ → List OpenFile → List Target
targets_in [] files = []
targets_in (slot ∷ slots) files = target_in (file_in slot files) ++ targets_in slots files

-- how many lines they have
abbrev pub line_count : List Target → ℕ
line_count targets = sum_by (λ target. target.lines.count) targets

-- a request is one of lines that are those of others
abbrev pub is_joined : List Map → Target → Bool
is_joined kept target = is_some (map_at target.place kept)

-- Why these requests can't be joined, the first that holds: one is of a chip with a map; the port takes no map more; they have no lines, or more than
-- a chip may have.
abbrev pub joining_fault : Maps → List Target → Option Errno
joining_fault m targets = first_of (when (list_any (is_joined m.kept) targets) Inval ∷ when (nat_eq m.left 0) NoSpc ∷ when (not (has_lines (line_count targets))) Inval ∷ [])

-- else a remote chip with as many lines is made
abbrev pub joins : Option Errno → List ℕ → List Target → Asking
joins (Some errno) label targets = Refuses errno
joins None label targets = once (Probe label (line_count targets) Remote)

-- what an operation is, with these files open, of an actor whose port has these maps
abbrev pub asking_with : Maps → List OpenFile → Do → Asking
asking_with m files (Aggregate label slots count) = let targets = targets_in (take count slots) files in joins (joining_fault m targets) label targets
asking_with m files what = asking files what

-- the map of a chip at a place; a map has room for four targets
abbrev pub no_target : Target
no_target = record { place = 0; fd = 0; lines = record { count = 0; offsets = replicate 64 0 } }

abbrev pub joined_at : ℕ → List Target → Map
joined_at place targets = record { place = place; count = length targets; targets = targets ++ replicate (4 - length targets) no_target }

-- behind the number of the chip's place the port keeps its map
abbrev pub learned : Reply → List Target → Maps → Maps
learned (Number place) targets m = with_one (joined_at place targets) m
learned reply targets m = m

-- the maps after an operation with this reply
abbrev pub maps_behind : Do → Reply → List OpenFile → Maps → Maps
maps_behind (Aggregate label slots count) reply files m = learned reply (targets_in (take count slots) files) m
maps_behind what reply files m = m
