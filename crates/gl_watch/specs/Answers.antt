-- What the calls on open files answer.
use Rattle.std.specs.Prelude.{ℕ, List, Option, Some, None}
use Rattle.gl_uapi.specs.declared.info_changes.Changed.{Changed}
use Rattle.gl_watch.specs.declared.file.ChipFile.{ChipFile}

abbrev pub changes_of : Option ChipFile → Option (List Changed)
changes_of None = None
changes_of (Some file) = Some file.changes

abbrev pub place_of : Option ChipFile → Option ℕ
place_of None = None
place_of (Some file) = Some file.place
