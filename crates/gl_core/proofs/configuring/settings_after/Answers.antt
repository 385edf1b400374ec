use Rattle.std.proofs.Common.{◌≡◌, refl, ap, ◌∙◌, arith}
use Rattle.std.proofs.lemmas.List.{get_or-replicate}
use Rattle.gl_base.proofs.AtPositions.{table_from-filled}
use Rattle.gl_model.specs.Configuring.{settings_after}
use Rattle.gl_core.specs.LineByLine.{line_after}
use Rattle.gl_core.proofs.configuring.settings_after.Goals as goal

pub returns : goal.returns
returns c =
    ap (λ ls. record (settings_after c.args.before.now c.args.after.now c.args.count) { lines = ls })
    (table_from-filled c.loop-i.lines (line_after c.args.before.now c.args.after.now) 64 c.loop-i.invariant.0 (λ k d lt. c.loop-i.invariant.1 k d (omega arith)))

pub loop-i-init : goal.loop-i-init
loop-i-init c = (
  refl,
  λ k d lt.
      let first : 0 ≡ k = omega arith in
      get_or-replicate 64 k c.line_after-first.result d (omega arith) ∙ c.line_after-first.ensures ∙ ap (line_after c.args.before.now c.args.after.now) first,
)
