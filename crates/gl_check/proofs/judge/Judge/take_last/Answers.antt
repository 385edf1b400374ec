use Rattle.std.proofs.Common.{◌≡◌, List, refl, subst, true}
use Rattle.std.proofs.lemmas.Bool.{false≢true}
use Rattle.gl_base.specs.Words.{Span}
use Rattle.gl_world.specs.Deeds.{deed_in}
use Rattle.gl_core.specs.Device.{core}
use Rattle.gl_check.specs.Seating.{IsKept, seat_in}
use Rattle.gl_check.specs.Seats.{moved}
use Rattle.gl_check.proofs.Moves.{all_told, last_early, last_fits, last_goes}
use Rattle.gl_check.proofs.judge.Judge.take_last.Goals as goal

pub returns-then-not-all_ended-clause-taken : goal.returns-then-not-all_ended-clause-taken
returns-then-not-all_ended-clause-taken c = λ setup sections m is_setup is_all judges. record {
  fits = last_early sections c.args.self.now m c.args.entry.now judges c.requires.actor c.all_ended.result c.requires.phase
      (all_told sections c.args.self.now m judges c.deref.result.now c.all_ended.result c.deref.ensures.value (c.all_ended.ensures sections m.others)) c.if-not-all_ended.true;
  goes = λ so. absurd (false≢true so);
}

pub returns-in-Ok-clause-taken : goal.returns-in-Ok-clause-taken
returns-in-Ok-clause-taken c = λ setup sections m is_setup is_all judges. record {
  fits = last_fits sections c.args.self.now m c.args.entry.now judges c.requires.actor c.in-Ok.good c.all_ended.result c.requires.phase
      (all_told sections c.args.self.now m judges c.deref.result.now c.all_ended.result c.deref.ensures.value (c.all_ended.ensures sections m.others)) c.if-not-all_ended.false
      (c.in-Ok.ensures.fits m.world judges.world);
  goes = λ so. last_goes sections c.args.self.now m c.args.entry.now judges c.requires.actor _ c.requires.phase (c.in-Ok.ensures.world m.world judges.world so)
      (subst (λ (words : List (List Span)). seat_in true words c.enter.new.seat ≡ moved (seat_in true words c.args.self.now.first) (deed_in core m.world c.args.entry.now)) is_all
      (c.in-Ok.ensures.moved m.world judges.world so))
      (subst (λ (words : List (List Span)). IsKept true words c.enter.new.seat) is_all (c.in-Ok.ensures.kept so)) refl refl refl;
}
