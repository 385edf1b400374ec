use Rattle.std.proofs.Common.{[], ◌∷◌, ◌∙◌}
use Rattle.gl_script.specs.declared.table.Form.TheVariants.{FileName, Command}
use Rattle.gl_script.specs.declared.table.Keyword.TheVariants.{Ioctl}
use Rattle.gl_script.specs.Faults.{makes_file, tail_fault}
use Rattle.gl_script.specs.Left.{left_in}
use Rattle.gl_script.specs.Table.{Tail, Pieces}
use Rattle.gl_script.proofs.OneByOne.{itself, misread_here, passed_on, read_on}
use Rattle.gl_script.proofs.rows.ioctl_said.Goals as goal

pub command-requires : goal.command-requires
command-requires c = c.in_ok-text.ensures.short

pub pieces-requires : goal.pieces-requires
pieces-requires c = c.in_ok-command.ensures.short

pub returns-in_err-text : goal.returns-in_err-text
returns-in_err-text c =
    let tail : Tail = Pieces (makes_file Ioctl (left_in c.args.words.now).words) in
    passed_on _ _ c.from_residual.result _ c.from_residual.ensures.1
    (misread_here FileName (Command ∷ []) (tail_fault tail) c.args.words.now.end (left_in c.args.words.now).words _ c.in_err-text.ensures.read)

pub returns-in_err-command : goal.returns-in_err-command
returns-in_err-command c =
    let tail : Tail = Pieces (makes_file Ioctl (left_in c.args.words.now).words) in
    passed_on _ _ c.from_residual-in_err-command.result _ c.from_residual-in_err-command.ensures.1
    (read_on FileName (Command ∷ []) (tail_fault tail) itself _ _ _ c.in_ok-text.ensures.read
    ∙ misread_here Command [] (tail_fault tail) c.text.new.self.end (left_in c.text.new.self).words _ c.in_err-command.ensures.read)
