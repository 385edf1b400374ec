use Rattle.std.proofs.Common.{◌<◌, length, arith}
use Rattle.gl_debounce.specs.Timer.{still}
use Rattle.gl_debounce.proofs.Padding.{started}
use Rattle.gl_debounce.proofs.table.Timers.start.Goals as goal

pub returns : goal.returns
returns c =
    let within : c.number_of-line.result < length c.make.new.self = omega (arith, c.make.ensures.enough) in
    started c.self.inside.rows c.make.new.self c.put.new.self c.args.self.now c.args.place c.args.offset c.number_of-line.result (still c.args.level c.args.hard) c.still.result
    c.self.view_is c.make.ensures.same c.number_of-line.ensures.number within c.still.ensures c.put.ensures
