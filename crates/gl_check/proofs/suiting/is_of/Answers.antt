use Rattle.std.proofs.Common.{Bool, ◌≡◌, sym, subst}
use Rattle.std.specs.Bool.{Decides}
use Rattle.gl_check.proofs.SameCalls.{same_call}
use Rattle.gl_check.proofs.suiting.is_of.Goals as goal

pub returns : goal.returns
returns c = subst (λ (b : Bool). Decides b (c.args.entry.now.call ≡ c.args.call.now)) (sym c.eq.ensures) (same_call c.args.entry.now.call c.args.call.now)
