use Rattle.std.proofs.Common.{◌≡◌, List, false, refl, subst, sym, ◌∙◌}
use Rattle.std.proofs.lemmas.Bool.{false≢true}
use Rattle.gl_base.specs.Words.{Span}
use Rattle.gl_world.specs.Deeds.{deed_in}
use Rattle.gl_core.specs.Device.{core}
use Rattle.gl_check.specs.Seating.{IsKept, seat_in}
use Rattle.gl_check.specs.Seats.{moved}
use Rattle.gl_check.proofs.Moves.{setup_fits, setup_goes}
use Rattle.gl_check.proofs.judge.Judge.take_setup.Goals as goal

pub returns-in-Ok-clause-taken : goal.returns-in-Ok-clause-taken
returns-in-Ok-clause-taken c = λ sections m is_setup is_all judges.
    let good = c.in-Ok-true.field-0-test in record {
      fits = (λ _. (setup_fits sections c.args.self.now m c.args.entry.now judges c.requires.actor c.in-Ok-true.field-0 c.requires.phase (c.in-Ok-true.ensures.fits m.world judges.world)).0 good, λ _. refl);
      goes = λ _. setup_goes sections c.args.self.now m c.args.entry.now judges c.requires.actor c.enter.new.seat c.begin_after.new.first c.args.self.now.setup.items _ c.requires.phase
          (c.in-Ok-true.ensures.world m.world judges.world good)
          (subst (λ (words : List (List Span)). seat_in false words c.enter.new.seat ≡ moved (seat_in false words c.args.self.now.first) (deed_in core m.world c.args.entry.now)) is_setup
          (c.in-Ok-true.ensures.moved m.world judges.world good))
          (subst (λ (words : List (List Span)). IsKept false words c.enter.new.seat) is_setup (c.in-Ok-true.ensures.kept good)) (λ n. c.in-Ok.ensures.first sections n is_all) c.in-Ok.ensures.after refl;
    }

pub returns-in-Ok-false-clause-taken : goal.returns-in-Ok-false-clause-taken
returns-in-Ok-false-clause-taken c = λ sections m is_setup is_all judges. record {
  fits = (
    λ never. absurd (false≢true never),
    λ fits. sym c.in-Ok-false.field-0-test
        ∙ (setup_fits sections c.args.self.now m c.args.entry.now judges c.requires.actor c.in-Ok-false.field-0 c.requires.phase (c.in-Ok-false.ensures.fits m.world judges.world)).1 fits,
  );
  goes = λ never. absurd (false≢true never);
}
