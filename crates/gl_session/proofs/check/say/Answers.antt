use Rattle.std.proofs.Common.{sym, ◌∙◌}
use Rattle.gl_session.proofs.Judgments.{no_write_fault}
use Rattle.gl_session.proofs.check.say.Goals as goal

pub finish-requires : goal.finish-requires
finish-requires g c = λ e. no_write_fault c.args.verdict (sym c.status.ensures ∙ e)
