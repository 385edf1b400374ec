use Rattle.std.proofs.Common.{◌∙◌}
use Rattle.gl_session.proofs.Asked.{plain_asking}
use Rattle.gl_session.proofs.player.Player.asking.Goals as goal

pub returns-in_default : goal.returns-in_default
returns-in_default g c = record {
  told = λ all left found. c.asking_of.ensures.told all found ∙ plain_asking c.args.what.now c.in_default.not-Aggregate c.args.self.now.carried.maps all;
  on = c.asking_of.ensures.on;
  fits = c.asking_of.ensures.fits;
}
