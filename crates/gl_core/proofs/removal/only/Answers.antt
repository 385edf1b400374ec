use Rattle.gl_core.proofs.Removing.{one_marked}
use Rattle.gl_core.proofs.removal.only.Goals as goal
use Rattle.gl_base.specs.declared.limits.TheConstants.{PLACES}

pub returns : goal.returns
returns c p = rw (c.from.ensures) (one_marked PLACES c.args.place p c.requires)
