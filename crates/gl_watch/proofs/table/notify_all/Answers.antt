use Rattle.std.proofs.Common.{List, ◌∙◌, length-set, arith}
use Rattle.gl_watch.specs.declared.file.ChipFile.{ChipFile}
use Rattle.gl_watch.specs.Files.{notified}
use Rattle.gl_watch.proofs.Telling.{told_more}
use Rattle.gl_watch.proofs.table.notify_all.Goals as goal

pub loop-i-preserved : goal.loop-i-preserved
loop-i-preserved c =
    let tell = notified c.args.place c.args.changed.now in
    let files : List ChipFile = c.args.files.now.items in
    (told_more tell files c.loop-i.files.items c.loop-i.i c.index_mut.result.now c.notify.new.self (omega arith) c.loop-i.invariant.0 c.index_mut.ensures.value c.notify.ensures, length-set c.loop-i.files.items c.loop-i.i c.notify.new.self ∙ c.loop-i.invariant.1, c.loop-i.invariant.2)
