use Rattle.std.proofs.Common.{rules, ◌≡◌, ◌≤◌, length, refl, sym, ◌∙◌, subst, arith}
use Rattle.gl_model.specs.World.{World}
use Rattle.gl_core.specs.Kept.{StandsFor}
use Rattle.gl_core.specs.LineByLine.{drive_masked}
use Rattle.gl_core.proofs.LineByLine.{drive_end, drive_more}
use Rattle.gl_core.proofs.state.State.drive_each.Goals as goal

pub loop-i-init : goal.loop-i-init
loop-i-init c = (c.requires.lines, λ w s. (w, s, refl))

pub loop-i-preserved : goal.loop-i-preserved
loop-i-preserved c = (
  λ k lt. c.drive_masked.ensures.lines _ _ (c.loop-i.invariant.0 k lt),
  λ w s.
      let so_far = c.loop-i.invariant.1 w s in
      let size : length c.args.lines.now.offsets ≡ 64 = search rules in
      let few : c.args.lines.now.count ≤ length c.args.lines.now.offsets = omega (arith, size, c.requires.count.1) in (
        drive_masked c.args.place c.args.lines.now c.args.mask c.args.bits c.loop-i.i so_far.0,
        c.drive_masked.ensures.follows so_far.0 so_far.1,
        sym (drive_more c.args.place c.args.mask c.args.bits c.args.lines.now c.loop-i.i so_far.0 c.loop-i-test.true few) ∙ so_far.2,
      ),
)

pub returns : goal.returns
returns c w s =
    let so_far = c.loop-i.invariant.1 w s in
    subst (λ (v : World). StandsFor c.loop-i.self v) (sym (drive_end c.args.place c.args.mask c.args.bits c.args.lines.now c.loop-i.i so_far.0 c.loop-i-test.false) ∙ so_far.2) so_far.1
