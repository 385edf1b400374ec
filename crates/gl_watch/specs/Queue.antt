-- The changes that wait for a file, in order (the kernel's GPIO character device). A full queue drops the newest
-- change, as gpiolib's does.
use Rattle.std.specs.Prelude.{if◌then◌else◌, nat_lt, List, [], ◌∷◌, ◌++◌, length}
use Rattle.gl_uapi.specs.declared.info_changes.Changed.{Changed}
use Rattle.gl_watch.specs.declared.queue.TheConstants.{QUEUE_CHANGES_MAX}

-- with one change more, where there is room
abbrev pub appended : Changed → List Changed → List Changed
appended changed changes = if nat_lt (length changes) QUEUE_CHANGES_MAX then (changes ++ changed ∷ []) else changes
