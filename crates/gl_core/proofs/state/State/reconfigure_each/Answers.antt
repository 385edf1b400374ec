use Rattle.std.proofs.Common.{rules, ◌≡◌, ◌≤◌, length, refl, sym, ◌∙◌, subst, arith}
use Rattle.gl_model.specs.World.{World}
use Rattle.gl_core.specs.Kept.{StandsFor}
use Rattle.gl_core.specs.LineByLine.{reconfigure_at}
use Rattle.gl_core.proofs.LineByLine.{reconfigure_end, reconfigure_more}
use Rattle.gl_core.proofs.state.State.reconfigure_each.Goals as goal

pub loop-i-init : goal.loop-i-init
loop-i-init c = (λ place offset line. line, λ w s. (w, s, refl))

pub reconfigure_at-requires-clause-line : goal.reconfigure_at-requires-clause-line
reconfigure_at-requires-clause-line c = c.loop-i.invariant.0 _ _ (c.requires.lines c.loop-i.i c.loop-i-test.true)

pub loop-i-preserved : goal.loop-i-preserved
loop-i-preserved c = (
  λ place offset line. c.reconfigure_at.ensures.lines place offset (c.loop-i.invariant.0 place offset line),
  λ w s.
      let so_far = c.loop-i.invariant.1 w s in
      let size : length c.args.lines.now.offsets ≡ 64 = search rules in
      let few : c.args.lines.now.count ≤ length c.args.lines.now.offsets = omega (arith, size, c.requires.count.1) in (
        reconfigure_at c.args.place c.args.lines.now c.args.settings.now c.args.bits c.loop-i.i so_far.0,
        c.reconfigure_at.ensures.follows so_far.0 so_far.1,
        sym (reconfigure_more c.args.place c.args.settings.now c.args.bits c.args.lines.now c.loop-i.i so_far.0 c.loop-i-test.true few) ∙ so_far.2,
      ),
)

pub returns : goal.returns
returns c w s =
    let so_far = c.loop-i.invariant.1 w s in
    subst (λ (v : World). StandsFor c.loop-i.self v) (sym (reconfigure_end c.args.place c.args.settings.now c.args.bits c.args.lines.now c.loop-i.i so_far.0 c.loop-i-test.false) ∙ so_far.2) so_far.1
