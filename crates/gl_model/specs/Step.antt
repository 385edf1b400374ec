-- The step: what each call does, a case a call. Each case cites the definition of its call.
use Rattle.std.specs.Prelude.{ℕ, Bool, true, false}
use Rattle.gl_base.specs.declared.errno.Errno.TheVariants.{NoDev}
use Rattle.gl_model.specs.declared.call.Call.{Call}
use Rattle.gl_model.specs.declared.call.Call.TheVariants.{Probe, Unplug, MakeDir, RemoveDir, Write, Read, Live, Remove, Tick, Pin, Irq, Pull, Level, Interrupt, OpenChip, Find, Ioctl, ReadEdges, ReadInfo, PollLine, PollChip, Close, Refused as RefusedCall}
use Rattle.gl_model.specs.declared.reply.Reply.{Reply}
use Rattle.gl_model.specs.declared.reply.Reply.TheVariants.{Ready, Refused}
use Rattle.gl_model.specs.Chips.{probe}
use Rattle.gl_model.specs.Clock.{tick}
use Rattle.gl_model.specs.Ioctl.{ioctl}
use Rattle.gl_model.specs.Opening.{close, find_lines, open_chip}
use Rattle.gl_model.specs.Outcome.{Outcome, replies}
use Rattle.gl_model.specs.Interrupts.{irq}
use Rattle.gl_model.specs.Pins.{pin}
use Rattle.gl_model.specs.Pulls.{interrupt, pull, read_level}
use Rattle.gl_model.specs.Reading.{poll_chip, poll_line, read_edges, read_info}
use Rattle.gl_model.specs.Removal.{begin_remove, begin_unplug, end_remove, end_unplug}
use Rattle.gl_model.specs.Tree.{go_live, make_dir, read_file, remove_dir, write_file}
use Rattle.gl_model.specs.World.{World}

-- what a call is answered that was refused at a closed guard: ENODEV, and a poll HUP and ERR
abbrev pub guard_reply : Bool → Reply
guard_reply true = Ready 6
guard_reply false = Refused NoDev

abbrev pub step : World → ℕ → Call → Outcome
step w actor (Probe label lines kind) = probe label lines kind w
step w actor (Unplug place false) = begin_unplug actor place w
step w actor (Unplug place true) = end_unplug actor place w
step w actor (MakeDir path) = make_dir path w
step w actor (RemoveDir path) = remove_dir path w
step w actor (Write path value) = write_file path value w
step w actor (Read path) = read_file path w
step w actor (Live device) = go_live device w
step w actor (Remove device false) = begin_remove actor device w
step w actor (Remove device true) = end_remove actor device w
step w actor (Tick mono real) = tick mono real w
step w actor (Pin place what) = pin place what w
step w actor (Irq place offset what) = irq place offset what w
step w actor (Pull place offset up) = pull place offset up w
step w actor (Level place offset of_pull) = read_level place offset of_pull w
step w actor (Interrupt place offset up) = interrupt place offset up w
step w actor (OpenChip word) = open_chip word w
step w actor (Find place name) = find_lines place name w
step w actor (Ioctl place fd cmd len bytes part) = ioctl actor place fd cmd len bytes part w
step w actor (ReadEdges place fd len) = read_edges place fd len w
step w actor (ReadInfo place fd len) = read_info place fd len w
step w actor (PollLine place fd) = poll_line place fd w
step w actor (PollChip place fd) = poll_chip place fd w
step w actor (Close fd) = close fd w
step w actor (RefusedCall place is_poll) = replies (guard_reply is_poll) w
