use Rattle.std.proofs.Common.{◌≡◌, ◌++◌, drop, length, take, Option, subst}
use Rattle.gl_base.specs.declared.errno.Errno.{Errno}
use Rattle.gl_uapi.specs.declared.layout.TheConstants.{LINE_REQUEST_SIZE}
use Rattle.gl_model.specs.Claiming.{get_line_ask}
use Rattle.gl_model.specs.Outcome.{refused_or}
use Rattle.gl_core.specs.Kept.{StandsFor}
use Rattle.gl_core.proofs.Silent.{ask_silent, silent}
use Rattle.gl_core.proofs.state.State.ask_for_lines.Goals as goal

pub returns-in-Ok-clause-steps : goal.returns-in-Ok-clause-steps
returns-in-Ok-clause-steps c w s =
    let its = c.args.commanded.now in
    let bytes = take LINE_REQUEST_SIZE its.bytes.now in
    subst (λ (refusal : Option Errno). let out = refused_or refusal w (get_line_ask its.place c.args.actor bytes w) in
    StandsFor c.get_line_ask.new.self out.world × (c.get_line_ask.result ≡ out.reply) × (c.args.out.now ≡ out.bytes ++ drop (length out.bytes) c.args.out.now)) (c.in-Ok.ensures.passed w s)
    (silent (get_line_ask its.place c.args.actor bytes) c.args.self.now c.get_line_ask.new.self c.get_line_ask.result c.args.out.now (ask_silent its.place c.args.actor bytes) c.get_line_ask.ensures.steps w s)
