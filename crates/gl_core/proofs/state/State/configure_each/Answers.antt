use Rattle.std.proofs.Common.{rules, ◌≡◌, ◌≤◌, List, Some, length, refl, sym, ◌∙◌, subst, arith}
use Rattle.gl_request.specs.Request.{StandsAt, request_at as row_at}
use Rattle.gl_request.specs.declared.row.RequestRow.{RequestRow}
use Rattle.gl_model.specs.World.{World}
use Rattle.gl_core.specs.Kept.{StandsFor}
use Rattle.gl_core.specs.LineByLine.{configure_at}
use Rattle.gl_core.proofs.LineByLine.{configure_end, configure_more}
use Rattle.gl_core.proofs.state.State.configure_each.Goals as goal

pub loop-i-init : goal.loop-i-init
loop-i-init c = (refl, λ place offset line. line, λ row is w s. (w, s, refl))

pub configure_found-requires-clause-line : goal.configure_found-requires-clause-line
configure_found-requires-clause-line c = c.loop-i.invariant.1 _ _ (c.requires.lines c.loop-i.i c.loop-i-test.true)

pub configure_found-requires-clause-stands : goal.configure_found-requires-clause-stands
configure_found-requires-clause-stands c = subst (λ (rows : List RequestRow). StandsAt c.args.found rows) (sym c.loop-i.invariant.0) c.requires.stands

pub loop-i-preserved : goal.loop-i-preserved
loop-i-preserved c = (
  c.configure_found.ensures.requests ∙ c.loop-i.invariant.0,
  λ place offset line. c.configure_found.ensures.lines place offset (c.loop-i.invariant.1 place offset line),
  λ row is w s.
      let so_far = c.loop-i.invariant.2 row is w s in
      let there : row_at c.loop-i.self.requests c.args.found.fd ≡ Some row = subst (λ (rows : List RequestRow). row_at rows c.args.found.fd ≡ Some row) (sym c.loop-i.invariant.0) is in
      let size : length c.args.lines.now.offsets ≡ 64 = search rules in
      let few : c.args.lines.now.count ≤ length c.args.lines.now.offsets = omega (arith, size, c.requires.count.1) in (
        configure_at c.args.place c.args.lines.now row.settings c.args.bits c.loop-i.i so_far.0,
        c.configure_found.ensures.follows row there so_far.0 so_far.1,
        sym (configure_more c.args.place row.settings c.args.bits c.args.lines.now c.loop-i.i so_far.0 c.loop-i-test.true few) ∙ so_far.2,
      ),
)

pub returns-clause-follows : goal.returns-clause-follows
returns-clause-follows c row is w s =
    let so_far = c.loop-i.invariant.2 row is w s in
    subst (λ (v : World). StandsFor c.loop-i.self v) (sym (configure_end c.args.place row.settings c.args.bits c.args.lines.now c.loop-i.i so_far.0 c.loop-i-test.false) ∙ so_far.2) so_far.1
