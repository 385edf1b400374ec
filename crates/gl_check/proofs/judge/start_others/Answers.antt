use Rattle.std.proofs.Common.{rules, map}
use Rattle.gl_script.specs.Script.{sections_of}
use Rattle.gl_talk.specs.Over.{columns_in}
use Rattle.gl_check.proofs.Moves.{seats_pushed}
use Rattle.gl_check.proofs.judge.start_others.Goals as goal

pub loop-i-preserved : goal.loop-i-preserved
loop-i-preserved c = record {
  seats = seats_pushed (sections_of c.args.script.now) c.loop-i.seats.items c.push.new.self.items c.in_ok-seat.seat (map columns_in c.actor_statements.result.now) c.loop-i.i c.loop-i.invariant.as_many c.in_ok-push.ensures.items
      c.loop-i.invariant.seats c.actor_statements.ensures c.in_ok-seat.ensures.seat c.in_ok-seat.ensures.kept;
  as_many = search rules;
}
