use Rattle.std.proofs.Common.{refl}
use Rattle.gl_model.proofs.Written.{replies_tell_lengths}
use Rattle.gl_model.specs.declared.call.Call.{Call}
use Rattle.gl_model.specs.declared.call.Call.TheVariants.{Probe, Unplug, MakeDir, RemoveDir, Write, Read, Live, Remove, Tick, Pin, Irq, Pull, Level, Interrupt, OpenChip, Find, Ioctl, ReadEdges, ReadInfo, PollLine, PollChip, Close}
use Rattle.gl_core.proofs.Silent.{leaves_known, step_known, step_told}
use Rattle.gl_core.proofs.state.State.step.Goals as goal

pub returns-in-MakeDir-clause-steps : goal.returns-in-MakeDir-clause-steps
returns-in-MakeDir-clause-steps c =
    let call : Call = MakeDir c.in-MakeDir.path in
    step_told c.args.actor c.args.call.now call c.args.self.now c.make_dir.new.self c.make_dir.result c.args.out.now c.in-MakeDir.is (λ w. replies_tell_lengths w c.args.actor call tt) c.make_dir.ensures

pub returns-in-RemoveDir-clause-steps : goal.returns-in-RemoveDir-clause-steps
returns-in-RemoveDir-clause-steps c =
    let call : Call = RemoveDir c.in-RemoveDir.path in
    step_told c.args.actor c.args.call.now call c.args.self.now c.remove_dir.new.self c.remove_dir.result c.args.out.now c.in-RemoveDir.is (λ w. replies_tell_lengths w c.args.actor call tt) c.remove_dir.ensures

pub returns-in-Write-clause-steps : goal.returns-in-Write-clause-steps
returns-in-Write-clause-steps c =
    let call : Call = Write c.in-Write.path c.in-Write.value in
    step_told c.args.actor c.args.call.now call c.args.self.now c.write_file.new.self c.write_file.result c.args.out.now c.in-Write.is (λ w. replies_tell_lengths w c.args.actor call tt) c.write_file.ensures

pub returns-in-Read-clause-steps : goal.returns-in-Read-clause-steps
returns-in-Read-clause-steps c =
    let call : Call = Read c.in-Read.path in
    step_told c.args.actor c.args.call.now call c.args.self.now c.args.self.now c.read_file.result c.args.out.now c.in-Read.is (λ w. replies_tell_lengths w c.args.actor call tt) c.read_file.ensures

pub returns-in-Live-clause-steps : goal.returns-in-Live-clause-steps
returns-in-Live-clause-steps c =
    let call : Call = Live c.in-Live.device in
    step_told c.args.actor c.args.call.now call c.args.self.now c.go_live.new.self c.go_live.result c.args.out.now c.in-Live.is (λ w. replies_tell_lengths w c.args.actor call tt) c.go_live.ensures

pub returns-in-Irq-clause-steps : goal.returns-in-Irq-clause-steps
returns-in-Irq-clause-steps c =
    let call : Call = Irq c.in-Irq.place c.in-Irq.offset c.in-Irq.what in
    step_told c.args.actor c.args.call.now call c.args.self.now c.irq.new.self c.irq.result c.args.out.now c.in-Irq.is (λ w. replies_tell_lengths w c.args.actor call tt) c.irq.ensures

pub returns-in-Level-clause-steps : goal.returns-in-Level-clause-steps
returns-in-Level-clause-steps c =
    let call : Call = Level c.in-Level.place c.in-Level.offset c.in-Level.pull in
    step_told c.args.actor c.args.call.now call c.args.self.now c.args.self.now c.read_level.result c.args.out.now c.in-Level.is (λ w. replies_tell_lengths w c.args.actor call tt) c.read_level.ensures

pub returns-in-OpenChip-clause-steps : goal.returns-in-OpenChip-clause-steps
returns-in-OpenChip-clause-steps c =
    let call : Call = OpenChip c.in-OpenChip.word in
    step_told c.args.actor c.args.call.now call c.args.self.now c.open_chip.new.self c.open_chip.result c.args.out.now c.in-OpenChip.is (λ w. replies_tell_lengths w c.args.actor call tt) c.open_chip.ensures.steps

pub returns-in-PollLine-clause-steps : goal.returns-in-PollLine-clause-steps
returns-in-PollLine-clause-steps c =
    let call : Call = PollLine c.in-PollLine.place c.in-PollLine.fd in
    step_told c.args.actor c.args.call.now call c.args.self.now c.args.self.now c.poll_line.result c.args.out.now c.in-PollLine.is (λ w. replies_tell_lengths w c.args.actor call tt) c.poll_line.ensures

pub returns-in-PollChip-clause-steps : goal.returns-in-PollChip-clause-steps
returns-in-PollChip-clause-steps c =
    let call : Call = PollChip c.in-PollChip.place c.in-PollChip.fd in
    step_told c.args.actor c.args.call.now call c.args.self.now c.args.self.now c.poll_chip.result c.args.out.now c.in-PollChip.is (λ w. replies_tell_lengths w c.args.actor call tt) c.poll_chip.ensures

pub returns-in-Probe-clause-steps : goal.returns-in-Probe-clause-steps
returns-in-Probe-clause-steps c =
    let call : Call = Probe c.in-Probe.label c.in-Probe.lines c.in-Probe.kind in
    step_told c.args.actor c.args.call.now call c.args.self.now c.probe.new.self c.probe.result c.args.out.now c.in-Probe.is (λ w. replies_tell_lengths w c.args.actor call tt) c.probe.ensures

pub returns-in-Probe-clause-gift : goal.returns-in-Probe-clause-gift
returns-in-Probe-clause-gift c =
    let call : Call = Probe c.in-Probe.label c.in-Probe.lines c.in-Probe.kind in
    leaves_known c.args.call.now call c.probe.result c.args.gift.now c.args.gift.now c.in-Probe.is refl

pub returns-in-Unplug-clause-steps : goal.returns-in-Unplug-clause-steps
returns-in-Unplug-clause-steps c =
    let call : Call = Unplug c.in-Unplug.place c.in-Unplug.last in
    step_known c.args.actor c.args.call.now call c.args.self.now c.unplug.new.self c.unplug.result c.args.out.now c.unplug.new.out c.in-Unplug.is c.unplug.ensures

pub returns-in-Unplug-clause-gift : goal.returns-in-Unplug-clause-gift
returns-in-Unplug-clause-gift c =
    let call : Call = Unplug c.in-Unplug.place c.in-Unplug.last in
    leaves_known c.args.call.now call c.unplug.result c.args.gift.now c.args.gift.now c.in-Unplug.is refl

pub returns-in-MakeDir-clause-gift : goal.returns-in-MakeDir-clause-gift
returns-in-MakeDir-clause-gift c =
    let call : Call = MakeDir c.in-MakeDir.path in
    leaves_known c.args.call.now call c.make_dir.result c.args.gift.now c.args.gift.now c.in-MakeDir.is refl

pub returns-in-RemoveDir-clause-gift : goal.returns-in-RemoveDir-clause-gift
returns-in-RemoveDir-clause-gift c =
    let call : Call = RemoveDir c.in-RemoveDir.path in
    leaves_known c.args.call.now call c.remove_dir.result c.args.gift.now c.args.gift.now c.in-RemoveDir.is refl

pub returns-in-Write-clause-gift : goal.returns-in-Write-clause-gift
returns-in-Write-clause-gift c =
    let call : Call = Write c.in-Write.path c.in-Write.value in
    leaves_known c.args.call.now call c.write_file.result c.args.gift.now c.args.gift.now c.in-Write.is refl

pub returns-in-Read-clause-gift : goal.returns-in-Read-clause-gift
returns-in-Read-clause-gift c =
    let call : Call = Read c.in-Read.path in
    leaves_known c.args.call.now call c.read_file.result c.args.gift.now c.args.gift.now c.in-Read.is refl

pub returns-in-Live-clause-gift : goal.returns-in-Live-clause-gift
returns-in-Live-clause-gift c =
    let call : Call = Live c.in-Live.device in
    leaves_known c.args.call.now call c.go_live.result c.args.gift.now c.args.gift.now c.in-Live.is refl

pub returns-in-Remove-clause-steps : goal.returns-in-Remove-clause-steps
returns-in-Remove-clause-steps c =
    let call : Call = Remove c.in-Remove.device c.in-Remove.last in
    step_known c.args.actor c.args.call.now call c.args.self.now c.remove.new.self c.remove.result c.args.out.now c.remove.new.out c.in-Remove.is c.remove.ensures

pub returns-in-Remove-clause-gift : goal.returns-in-Remove-clause-gift
returns-in-Remove-clause-gift c =
    let call : Call = Remove c.in-Remove.device c.in-Remove.last in
    leaves_known c.args.call.now call c.remove.result c.args.gift.now c.args.gift.now c.in-Remove.is refl

pub returns-in-Tick-clause-steps : goal.returns-in-Tick-clause-steps
returns-in-Tick-clause-steps c =
    let call : Call = Tick c.in-Tick.mono c.in-Tick.real in
    step_told c.args.actor c.args.call.now call c.args.self.now c.tick.new.self c.tick.result c.args.out.now c.in-Tick.is (λ w. replies_tell_lengths w c.args.actor call tt) c.tick.ensures

pub returns-in-Tick-clause-gift : goal.returns-in-Tick-clause-gift
returns-in-Tick-clause-gift c =
    let call : Call = Tick c.in-Tick.mono c.in-Tick.real in
    leaves_known c.args.call.now call c.tick.result c.args.gift.now c.args.gift.now c.in-Tick.is refl

pub returns-in-Pin-clause-steps : goal.returns-in-Pin-clause-steps
returns-in-Pin-clause-steps c =
    let call : Call = Pin c.in-Pin.place c.in-Pin.what in
    step_told c.args.actor c.args.call.now call c.args.self.now c.pin.new.self c.pin.result c.args.out.now c.in-Pin.is (λ w. replies_tell_lengths w c.args.actor call tt) c.pin.ensures

pub returns-in-Pin-clause-gift : goal.returns-in-Pin-clause-gift
returns-in-Pin-clause-gift c =
    let call : Call = Pin c.in-Pin.place c.in-Pin.what in
    leaves_known c.args.call.now call c.pin.result c.args.gift.now c.args.gift.now c.in-Pin.is refl

pub returns-in-Irq-clause-gift : goal.returns-in-Irq-clause-gift
returns-in-Irq-clause-gift c =
    let call : Call = Irq c.in-Irq.place c.in-Irq.offset c.in-Irq.what in
    leaves_known c.args.call.now call c.irq.result c.args.gift.now c.args.gift.now c.in-Irq.is refl

pub returns-in-Pull-clause-steps : goal.returns-in-Pull-clause-steps
returns-in-Pull-clause-steps c =
    let call : Call = Pull c.in-Pull.place c.in-Pull.offset c.in-Pull.up in
    step_told c.args.actor c.args.call.now call c.args.self.now c.pull.new.self c.pull.result c.args.out.now c.in-Pull.is (λ w. replies_tell_lengths w c.args.actor call tt) c.pull.ensures

pub returns-in-Pull-clause-gift : goal.returns-in-Pull-clause-gift
returns-in-Pull-clause-gift c =
    let call : Call = Pull c.in-Pull.place c.in-Pull.offset c.in-Pull.up in
    leaves_known c.args.call.now call c.pull.result c.args.gift.now c.args.gift.now c.in-Pull.is refl

pub returns-in-Level-clause-gift : goal.returns-in-Level-clause-gift
returns-in-Level-clause-gift c =
    let call : Call = Level c.in-Level.place c.in-Level.offset c.in-Level.pull in
    leaves_known c.args.call.now call c.read_level.result c.args.gift.now c.args.gift.now c.in-Level.is refl

pub returns-in-Interrupt-clause-steps : goal.returns-in-Interrupt-clause-steps
returns-in-Interrupt-clause-steps c =
    let call : Call = Interrupt c.in-Interrupt.place c.in-Interrupt.offset c.in-Interrupt.up in
    step_told c.args.actor c.args.call.now call c.args.self.now c.interrupt.new.self c.interrupt.result c.args.out.now c.in-Interrupt.is (λ w. replies_tell_lengths w c.args.actor call tt) c.interrupt.ensures

pub returns-in-Interrupt-clause-gift : goal.returns-in-Interrupt-clause-gift
returns-in-Interrupt-clause-gift c =
    let call : Call = Interrupt c.in-Interrupt.place c.in-Interrupt.offset c.in-Interrupt.up in
    leaves_known c.args.call.now call c.interrupt.result c.args.gift.now c.args.gift.now c.in-Interrupt.is refl

pub returns-in-OpenChip-clause-gift : goal.returns-in-OpenChip-clause-gift
returns-in-OpenChip-clause-gift c =
    let call : Call = OpenChip c.in-OpenChip.word in
    leaves_known c.args.call.now call c.open_chip.result c.args.gift.now c.open_chip.new.gift c.in-OpenChip.is c.open_chip.ensures.leaves

pub returns-in-Find-clause-steps : goal.returns-in-Find-clause-steps
returns-in-Find-clause-steps c =
    let call : Call = Find c.in-Find.place c.in-Find.name in
    step_told c.args.actor c.args.call.now call c.args.self.now c.args.self.now c.find_lines.result c.args.out.now c.in-Find.is (λ w. replies_tell_lengths w c.args.actor call tt) c.find_lines.ensures

pub returns-in-Find-clause-gift : goal.returns-in-Find-clause-gift
returns-in-Find-clause-gift c =
    let call : Call = Find c.in-Find.place c.in-Find.name in
    leaves_known c.args.call.now call c.find_lines.result c.args.gift.now c.args.gift.now c.in-Find.is refl

pub returns-in-Ioctl-clause-steps : goal.returns-in-Ioctl-clause-steps
returns-in-Ioctl-clause-steps c =
    let call : Call = Ioctl c.in-Ioctl.place c.in-Ioctl.fd c.in-Ioctl.cmd c.in-Ioctl.len c.in-Ioctl.bytes c.in-Ioctl.part in
    step_known c.args.actor c.args.call.now call c.args.self.now c.ioctl.new.self c.ioctl.result c.args.out.now c.ioctl.new.out c.in-Ioctl.is c.ioctl.ensures.steps

pub returns-in-Ioctl-clause-gift : goal.returns-in-Ioctl-clause-gift
returns-in-Ioctl-clause-gift c =
    let call : Call = Ioctl c.in-Ioctl.place c.in-Ioctl.fd c.in-Ioctl.cmd c.in-Ioctl.len c.in-Ioctl.bytes c.in-Ioctl.part in
    leaves_known c.args.call.now call c.ioctl.result c.args.gift.now c.ioctl.new.gift c.in-Ioctl.is c.ioctl.ensures.gift

pub returns-in-ReadEdges-clause-steps : goal.returns-in-ReadEdges-clause-steps
returns-in-ReadEdges-clause-steps c =
    let call : Call = ReadEdges c.in-ReadEdges.place c.in-ReadEdges.fd c.in-ReadEdges.len in
    step_known c.args.actor c.args.call.now call c.args.self.now c.read_edges.new.self c.read_edges.result c.args.out.now c.read_edges.new.out c.in-ReadEdges.is c.read_edges.ensures

pub returns-in-ReadEdges-clause-gift : goal.returns-in-ReadEdges-clause-gift
returns-in-ReadEdges-clause-gift c =
    let call : Call = ReadEdges c.in-ReadEdges.place c.in-ReadEdges.fd c.in-ReadEdges.len in
    leaves_known c.args.call.now call c.read_edges.result c.args.gift.now c.args.gift.now c.in-ReadEdges.is refl

pub returns-in-ReadInfo-clause-steps : goal.returns-in-ReadInfo-clause-steps
returns-in-ReadInfo-clause-steps c =
    let call : Call = ReadInfo c.in-ReadInfo.place c.in-ReadInfo.fd c.in-ReadInfo.len in
    step_known c.args.actor c.args.call.now call c.args.self.now c.read_info.new.self c.read_info.result c.args.out.now c.read_info.new.out c.in-ReadInfo.is c.read_info.ensures

pub returns-in-ReadInfo-clause-gift : goal.returns-in-ReadInfo-clause-gift
returns-in-ReadInfo-clause-gift c =
    let call : Call = ReadInfo c.in-ReadInfo.place c.in-ReadInfo.fd c.in-ReadInfo.len in
    leaves_known c.args.call.now call c.read_info.result c.args.gift.now c.args.gift.now c.in-ReadInfo.is refl

pub returns-in-PollLine-clause-gift : goal.returns-in-PollLine-clause-gift
returns-in-PollLine-clause-gift c =
    let call : Call = PollLine c.in-PollLine.place c.in-PollLine.fd in
    leaves_known c.args.call.now call c.poll_line.result c.args.gift.now c.args.gift.now c.in-PollLine.is refl

pub returns-in-PollChip-clause-gift : goal.returns-in-PollChip-clause-gift
returns-in-PollChip-clause-gift c =
    let call : Call = PollChip c.in-PollChip.place c.in-PollChip.fd in
    leaves_known c.args.call.now call c.poll_chip.result c.args.gift.now c.args.gift.now c.in-PollChip.is refl

pub returns-in-Close-clause-steps : goal.returns-in-Close-clause-steps
returns-in-Close-clause-steps c =
    let call : Call = Close c.in-Close.fd in
    step_told c.args.actor c.args.call.now call c.args.self.now c.close.new.self c.close.result c.args.out.now c.in-Close.is (λ w. replies_tell_lengths w c.args.actor call tt) c.close.ensures

pub returns-in-Close-clause-gift : goal.returns-in-Close-clause-gift
returns-in-Close-clause-gift c =
    let call : Call = Close c.in-Close.fd in
    leaves_known c.args.call.now call c.close.result c.args.gift.now c.args.gift.now c.in-Close.is refl
