use Rattle.std.proofs.Common.{◌≡◌, ◌++◌, List, ℕ, length, take, drop, sym, subst, ap, ◌∙◌}
use Rattle.gl_uapi.specs.Fields.{number_bytes}
use Rattle.gl_uapi.proofs.Reading.{length-number_bytes}
use Rattle.gl_model.specs.declared.reply.Reply.TheVariants.{Done, Refused}
use Rattle.gl_model.specs.Commands.{unwatch_line}
use Rattle.gl_core.specs.Kept.{Kept, StandsFor}
use Rattle.gl_core.specs.View.{view_of}
use Rattle.gl_core.proofs.Buffers.{Comes}
use Rattle.gl_core.proofs.Watching.{unwatch_done, unwatch_refused}
use Rattle.gl_core.proofs.state.State.unwatch_line.Goals as goal
use Rattle.gl_core.proofs.state.State.unwatch_line.Goals.{in-Err, in-Ok}

pub returns-after-unwatch_at : goal.returns-after-unwatch_at
returns-after-unwatch_at c w s =
    let before : StandsFor (view_of c.self.inside) w = subst (λ k. StandsFor k w) (sym c.self.view_is) s in
    let new : Kept = view_of (record c.self.inside { files = c.unwatch_at.new.self }) in
    let bytes : List ℕ = take 4 c.args.bytes.now in
    elim c.match-unwatch_at.branch [
      | in-Err w' ↦
          (let comes : Comes (unwatch_line c.args.place c.args.found.fd bytes w) new (Refused w'.in-Err.errno) c.args.out.now c.args.out.now =
          unwatch_refused (view_of c.self.inside) w c.args.place c.args.found.fd c.asked_offset-offset.result bytes c.unwatch_at.new.self c.unwatch_at.result w'.in-Err.errno c.args.out.now before
          (c.in-None.ensures.told w s) w'.in-Err.is c.asked_offset-offset.ensures c.unwatch_at.ensures.answer c.unwatch_at.ensures.files in
          (comes.0, w'.result-is ∙ comes.1, w'.out-is ∙ comes.2))
      | in-Ok w' ↦
          (let wrote : w'.write_offset.new.out ≡ number_bytes 4 c.asked_offset-offset.result ++ drop (length (number_bytes 4 c.asked_offset-offset.result)) c.args.out.now =
          w'.write_offset.ensures.out
          ∙ ap (λ (n : ℕ). number_bytes 4 n ++ drop 4 c.args.out.now) (sym c.asked_offset-offset.ensures)
          ∙ ap (λ (n : ℕ). number_bytes 4 c.asked_offset-offset.result ++ drop n c.args.out.now) (sym (length-number_bytes 4 c.asked_offset-offset.result)) in
          let comes : Comes (unwatch_line c.args.place c.args.found.fd bytes w) new Done c.args.out.now w'.write_offset.new.out =
          unwatch_done (view_of c.self.inside) w c.args.place c.args.found.fd c.asked_offset-offset.result bytes c.unwatch_at.new.self c.unwatch_at.result w'.in-Ok.field-0 c.args.out.now w'.write_offset.new.out before
          (c.in-None.ensures.told w s) w'.in-Ok.is c.asked_offset-offset.ensures c.unwatch_at.ensures.answer c.unwatch_at.ensures.files wrote in
          (comes.0, w'.result-is ∙ w'.write_offset.ensures.done ∙ comes.1, w'.out-is ∙ comes.2))
    ]
