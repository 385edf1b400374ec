-- where the actor comes to from here is where it comes to from the beginning
use Rattle.std.proofs.Common.{◌≡◌, map}
use Rattle.gl_talk.specs.Over.{columns_in}
use Rattle.gl_check.specs.Seating.{IsGoing, settled_from}
use Rattle.gl_check.proofs.seat.Seat.settle.Given as goal

abbrev pub invariant-loop : goal.invariant-loop
invariant-loop l = record {
  going : IsGoing l.quit (map columns_in l.statements) l.self;
  same : settled_from l.quit (map columns_in l.statements) l.self l.got ≡ settled_from l.quit (map columns_in l.statements) l.initial.self l.initial.got;
}
