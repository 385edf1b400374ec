use Rattle.std.proofs.Common.{◌≡◌, ◌+◌, ◌≤◌, length, ap, ◌∙◌, arith}
use Rattle.std.proofs.lemmas.Result.{IfOk-weaker}
use Rattle.gl_base.specs.declared.limits.TheConstants.{PLACES}
use Rattle.gl_simtree.specs.Rows.{banks_of}
use Rattle.gl_core.specs.Kept.{Kept}
use Rattle.gl_core.proofs.GoingLive.{answered_banks}
use Rattle.gl_core.proofs.state.State.check_live.Goals as goal

pub returns-clause-room : goal.returns-clause-room
returns-clause-room c =
    let chips : length c.self.inside.chips ≡ length c.args.self.now.chips = ap (λ (k : Kept). length k.chips) c.self.view_is in
    IfOk-weaker c.check_live.result (λ banks. (banks ≤ c.left.result) × (banks ≡ length (banks_of c.args.device.now c.self.inside.tree))) (λ banks. length c.args.self.now.chips + banks ≤ PLACES)
    (λ banks h. omega (arith, h.0, chips, c.left.ensures))
    (answered_banks c.args.device.now c.left.result c.self.inside.tree c.check_live.result c.check_live.ensures)

pub returns-clause-all : goal.returns-clause-all
returns-clause-all c =
    IfOk-weaker c.check_live.result (λ banks. (banks ≤ c.left.result) × (banks ≡ length (banks_of c.args.device.now c.self.inside.tree))) (λ banks. banks ≡ length (banks_of c.args.device.now c.args.self.now.tree))
    (λ banks h. h.1 ∙ ap (λ (k : Kept). length (banks_of c.args.device.now k.tree)) c.self.view_is)
    (answered_banks c.args.device.now c.left.result c.self.inside.tree c.check_live.result c.check_live.ensures)
