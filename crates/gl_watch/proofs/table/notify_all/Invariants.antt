use Rattle.std.proofs.Common.{◌≡◌, ◌++◌, length, map, take, drop}
use Rattle.std.specs.VecDeque.{deque_capacity}
use Rattle.gl_watch.specs.Files.{notified}
use Rattle.gl_watch.proofs.table.notify_all.Given as goal

-- the first files have been told
abbrev pub invariant-loop-i : goal.invariant-loop-i
invariant-loop-i l =
    (l.files.items ≡ map (notified l.place l.changed) (take l.i l.initial.files.items) ++ drop l.i l.initial.files.items)
    × (length l.files.items ≡ length l.initial.files.items)
    × (deque_capacity l.files ≡ deque_capacity l.initial.files)
