-- The open chip files, in order of their opening: which lines each watches, and what waits for it
-- (the kernel's GPIO character device, line information watches).
use Rattle.std.specs.Prelude.{ℕ, ◌≡◌, Bool, false, ◌&&◌, ◌==◌, if◌then◌else◌, List, [], drop, replicate, slice_set, slice_index_or, Option, Some, None}
use Rattle.std.specs.List.{find, position}
use Rattle.gl_base.specs.Refusals.{when}
use Rattle.gl_base.specs.declared.limits.TheConstants.{LINES_MAX}
use Rattle.gl_base.specs.declared.errno.Errno.{Errno}
use Rattle.gl_base.specs.declared.errno.Errno.TheVariants.{Busy}
use Rattle.gl_uapi.specs.declared.info_changes.Changed.{Changed}
use Rattle.gl_watch.specs.declared.file.ChipFile.{ChipFile}
use Rattle.gl_watch.specs.declared.file.FileAt.{FileAt}
use Rattle.gl_watch.specs.Queue.{appended}

-- the file has this number
abbrev pub is_file : ℕ → ChipFile → Bool
is_file fd file = file.fd == fd

abbrev pub file_at : ℕ → List ChipFile → Option ChipFile
file_at fd files = find (is_file fd) files

-- the file of this number stands there
abbrev pub StandsAt : FileAt → List ChipFile → Type 0
StandsAt found files = position (is_file found.fd) files ≡ Some found.at

-- a file, where there is one, is of a chip at this place
abbrev pub is_open_at : ℕ → Option ChipFile → Bool
is_open_at place None = false
is_open_at place (Some file) = file.place == place

-- no line
unfoldable pub no_lines : List Bool
no_lines = replicate LINES_MAX false

-- a file that was just opened: it watches no line
abbrev pub new_file : ℕ → ℕ → List Changed → ChipFile
new_file fd place changes = record { fd = fd; place = place; watched = no_lines; changes = changes }

-- the file watches the line
abbrev pub is_watching : ℕ → ChipFile → Bool
is_watching offset file = slice_index_or file.watched offset false

-- the file with the line watched, or not
abbrev pub with_watch : ℕ → Bool → ChipFile → ChipFile
with_watch offset watch file = record file { watched = slice_set file.watched offset watch }

-- a line is watched by a file once at most, and isn't watched no more by a file that doesn't
abbrev pub watch_refusal : ℕ → Option ChipFile → Option Errno
watch_refusal offset None = None
watch_refusal offset (Some file) = when (is_watching offset file) Busy

abbrev pub unwatch_refusal : ℕ → Option ChipFile → Option Errno
unwatch_refusal offset None = None
unwatch_refusal offset (Some file) = if is_watching offset file then None else Some Busy

-- the file after a change of a line of a place: it has the change behind the others where it watches the line and has room
abbrev pub notified : ℕ → Changed → ChipFile → ChipFile
notified place changed file =
    if file.place == place && is_watching changed.info.offset file then record file { changes = appended changed file.changes } else file

-- the changes that wait for a file
abbrev pub waiting_in : Option ChipFile → List Changed
waiting_in None = []
waiting_in (Some file) = file.changes

-- the file without the first changes
abbrev pub without_changes : ℕ → ChipFile → ChipFile
without_changes count file = record file { changes = drop count file.changes }
