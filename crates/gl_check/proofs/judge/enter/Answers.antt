use Rattle.std.proofs.Common.{rules, ◌≡◌, List, ℕ, length, refl, ap, subst, sym, ◌∙◌}
use Rattle.std.proofs.lemmas.Bool.{false≢true}
use Rattle.std.proofs.lemmas.List.{with_items_is}
use Rattle.gl_model.specs.Fits.{FitsBuffer}
use Rattle.gl_core.specs.Device.{core}
use Rattle.gl_check.specs.Seating.{port_in}
use Rattle.gl_check.proofs.Handing.{filled_at, fits_at, opens_at}
use Rattle.gl_check.proofs.Numbers.{bounds_of}
use Rattle.gl_check.proofs.judge.enter.Goals as goal

pub goes_on_into-requires : goal.goes_on_into-requires
goes_on_into-requires c =
    subst (λ (b : List ℕ). FitsBuffer c.args.entry.now.call b) (sym (c.deref_mut.ensures.value ∙ c.in_ok-buffer.ensures.ok))
    (fits_at c.args.seat.now.stand (port_in c.args.seat.now.port) c.args.entry.now c.requires.kept.asked (c.suits.ensures.0 c.if-not-suits.false))

pub take-requires-clause-opens : goal.take-requires-clause-opens
take-requires-clause-opens c =
    let kept = c.core_is_well_kept.ensures in
    let goes = (c.in-Ok-true.ensures.told kept.world kept.stands).0 (search rules) in
    opens_at kept.world (bounds_of c.args.core.now kept) c.args.entry.now goes.replied c.args.seat.now.stand (port_in c.args.seat.now.port) c.requires.kept.asked (c.suits.ensures.0 c.if-not-suits.false)

pub returns-in-Ok-clause-moved : goal.returns-in-Ok-clause-moved
returns-in-Ok-clause-moved c = λ w stands so.
    let as_long : length c.goes_on_into.new.out ≡ c.in_ok-buffer.buffer.len = c.goes_on_into.auto.out ∙ ap (λ (l : List ℕ). length l) c.deref_mut.ensures.value ∙ sym c.in_ok-buffer.buffer.ok.0 in
    c.in-Ok.ensures.seat (core.bytes_of w c.args.entry.now.actor c.args.entry.now.call)
    (filled_at c.args.seat.now.stand (core.bytes_of w c.args.entry.now.actor c.args.entry.now.call) _ c.deref_mut.result.now (c.deref_mut.ensures.value ∙ c.in_ok-buffer.ensures.ok)
    (with_items_is c.in_ok-buffer.buffer c.goes_on_into.new.out as_long ∙ c.in-Ok-true.ensures.bytes w stands c.in-Ok-true.field-0-test))

pub returns-in-Ok-clause-fits : goal.returns-in-Ok-clause-fits
returns-in-Ok-clause-fits c =
    λ w stands. (λ _. ((c.in-Ok-true.ensures.told w stands).0 c.in-Ok-true.field-0-test, c.suits.ensures.0 c.if-not-suits.false), λ _. refl)

pub returns-in-Ok-false-clause-fits : goal.returns-in-Ok-false-clause-fits
returns-in-Ok-false-clause-fits c =
    λ w stands. (λ never. absurd (false≢true never), λ fits. sym c.in-Ok-false.field-0-test ∙ (c.in-Ok-false.ensures.told w stands).1 fits.0)

pub returns-in-Ok-clause-world : goal.returns-in-Ok-clause-world
returns-in-Ok-clause-world c = λ w stands so. c.in-Ok-true.ensures.world w stands c.in-Ok-true.field-0-test

pub returns-in-Ok-false-clause-moved : goal.returns-in-Ok-false-clause-moved
returns-in-Ok-false-clause-moved c = λ w stands never. absurd (false≢true never)

pub returns-in-Ok-false-clause-world : goal.returns-in-Ok-false-clause-world
returns-in-Ok-false-clause-world c = λ w stands never. absurd (false≢true never)

pub returns-then-not-suits-clause-fits : goal.returns-then-not-suits-clause-fits
returns-then-not-suits-clause-fits c = λ w stands. (λ never. absurd (false≢true never), λ fits. sym c.if-not-suits.true ∙ c.suits.ensures.1 fits.1)
