use Rattle.std.proofs.Common.{◌+◌, map}
use Rattle.gl_world.specs.Deeds.{deed_in}
use Rattle.gl_core.specs.Device.{core}
use Rattle.gl_core.specs.Legal.{GoesOn}
use Rattle.gl_talk.specs.Over.{columns_in}
use Rattle.gl_check.specs.Seats.{moved}
use Rattle.gl_check.proofs.Moves.{moved_at, seats_more, suits_at}
use Rattle.gl_check.proofs.judge.enter_at.Goals as goal

pub returns-in-Ok-clause-fits : goal.returns-in-Ok-clause-fits
returns-in-Ok-clause-fits c = λ sections others same are w stands.
    suits_at sections c.args.seats.now others c.args.at c.index-seats-at.result (map columns_in c.args.statements.now) c.in-Ok.good c.args.entry.now
    (GoesOn w c.args.entry.now.actor c.args.entry.now.call c.args.entry.now.reply) c.requires.within same are (c.in-Ok.ensures.fits w stands)

pub returns-in-Ok-clause-others : goal.returns-in-Ok-clause-others
returns-in-Ok-clause-others c = λ sections others same are w stands so.
    seats_more sections c.args.seats.now others c.args.at c.enter.new.seat (moved (others (c.args.at + 1)) (deed_in core w c.args.entry.now)) c.requires.within are
    (moved_at sections c.args.seats.now others c.args.at c.index-seats-at.result c.enter.new.seat (map columns_in c.args.statements.now) (deed_in core w c.args.entry.now) c.requires.within same are
    (c.in-Ok.ensures.moved w stands so) (c.in-Ok.ensures.kept so))
