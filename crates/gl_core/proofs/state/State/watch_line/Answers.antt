use Rattle.std.proofs.Common.{take, sym, subst, ap, ◌∙◌}
use Rattle.gl_model.specs.Commands.{info_refusal, offset_named}
use Rattle.gl_core.specs.Kept.{StandsFor}
use Rattle.gl_core.specs.View.{view_of}
use Rattle.gl_core.proofs.Watching.{watch_done}
use Rattle.gl_core.proofs.state.State.watch_line.Goals as goal

pub returns-in-Ok : goal.returns-in-Ok
returns-in-Ok c w s =
    watch_done (view_of c.self.inside) w c.args.place c.args.found.fd c.offset-offset.result (take 256 c.args.bytes.now) c.watch_at.new.self c.watch_at.result c.in-Ok.field-0 (view_of (record c.self.inside { files = c.watch_at.new.self })) c.write_info.result c.args.out.now c.write_info.new.out
    (subst (λ k. StandsFor k w) (sym c.self.view_is) s) (c.in-None.ensures.told w s ∙ ap (λ bytes. info_refusal c.args.place bytes w) c.asked_info-asked.ensures) c.in-Ok.is (c.offset-offset.ensures ∙ ap offset_named c.asked_info-asked.ensures)
    c.watch_at.ensures.answer c.watch_at.ensures.files c.write_info.ensures
