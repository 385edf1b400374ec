use Rattle.std.proofs.Common.{◌≡◌, ℕ, ◌+◌, ◌*◌, Bool, Option, None, ap, ◌∙◌, arith}
use Rattle.std.specs.Prelude.{◌/◌, ◌==◌, if◌then◌else◌}
use Rattle.std.specs.Option.{option_map}
use Rattle.gl_base.specs.Positions.{change_at}
use Rattle.gl_base.specs.declared.limits.TheConstants.{LINES_MAX}
use Rattle.gl_debounce.specs.Timer.{without_deadline}
use Rattle.gl_debounce.specs.declared.timer.Timer.{Timer}
use Rattle.gl_model.specs.Removal.{change_where}
use Rattle.gl_core.proofs.Choosing.{all_changed, front, one_more}
use Rattle.gl_core.proofs.ClearingDeadlines.{before_place, behind_place, in_place}
use Rattle.gl_core.proofs.chosen.clear_place.Goals as goal

pub loop-offset-init : goal.loop-offset-init
loop-offset-init c = before_place c.args.place c.args.timers.now

pub loop-offset-preserved : goal.loop-offset-preserved
loop-offset-preserved c =
    let place : ℕ = c.args.place in
    let test : ℕ → Bool = λ n. n / LINES_MAX == place in
    let line : ℕ = place * LINES_MAX + c.loop-offset.offset in
    let next : line + 1 ≡ place * LINES_MAX + (c.loop-offset.offset + 1) = omega arith in
    let f : Option Timer → Option Timer = option_map without_deadline in
    c.clear.ensures
    ∙ ap (λ b. if b then change_at None line f c.loop-offset.timers else c.loop-offset.timers) (in_place place c.loop-offset.offset c.loop-offset-test.true)
    ∙ one_more test f None line c.args.timers.now c.loop-offset.timers c.loop-offset.invariant
    ∙ ap (λ n. change_where (front n test) f 0 c.args.timers.now) next

pub returns : goal.returns
returns c =
    let place : ℕ = c.args.place in
    let test : ℕ → Bool = λ n. n / LINES_MAX == place in
    let line : ℕ = place * LINES_MAX + c.loop-offset.offset in
    all_changed test (option_map without_deadline) line c.args.timers.now c.loop-offset.timers
    (λ p past _. behind_place place line p (omega (arith, c.loop-offset-test.false)) past) c.loop-offset.invariant
