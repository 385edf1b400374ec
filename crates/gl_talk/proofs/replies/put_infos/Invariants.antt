use Rattle.std.proofs.Common.{◌≡◌, ◌++◌, ◌-◌, ◌/◌, length}
use Rattle.gl_talk.specs.Replies.{info_lines}
use Rattle.gl_talk.proofs.replies.put_infos.Given as goal

abbrev pub invariant-loop-i : goal.invariant-loop-i
invariant-loop-i l =
    (l.i-end ≡ length l.bytes / 288)
    × (l.text.items ++ info_lines l.bytes l.i (length l.bytes / 288 - l.i) ≡ l.fn.text.items ++ info_lines l.bytes 0 (length l.bytes / 288))
