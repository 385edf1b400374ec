use Rattle.std.proofs.Common.{ℕ, ◌*◌, length, ap, sym, subst, ◌∙◌}
use Rattle.std.specs.Prelude.{min}
use Rattle.gl_watch.specs.Files.{file_at, waiting_in}
use Rattle.gl_model.specs.declared.reply.Reply.TheVariants.{Number}
use Rattle.gl_core.specs.Kept.{StandsFor}
use Rattle.gl_core.specs.View.{view_of}
use Rattle.gl_core.proofs.TakingChanges.{take_done}
use Rattle.gl_core.proofs.state.State.take_changes.Goals as goal

pub returns : goal.returns
returns c w s =
    let comes = take_done (view_of c.self.inside) w c.args.found.fd c.args.len c.read_at-count.result c.read_at-count.new.self c.args.out.now c.read_at-count.new.out (subst (λ k. StandsFor k w) (sym c.self.view_is) s)
    (c.read_at-count.ensures.count ∙ ap (λ (n : ℕ). min n (length (waiting_in (file_at c.args.found.fd c.self.inside.files)))) c.room_for.ensures) c.read_at-count.ensures.files c.requires.room c.read_at-count.auto.out c.read_at-count.ensures.out in
    (comes.0, ap (λ (n : ℕ). Number (288 * n)) c.from.ensures ∙ comes.1, comes.2)
