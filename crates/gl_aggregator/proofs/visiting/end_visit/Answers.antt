use Rattle.std.proofs.Common.{refl, subst, sym, ◌∙◌, ◌++◌, take, drop}
use Rattle.gl_core.specs.Device.{core}
use Rattle.gl_model.specs.Fits.{Fits}
use Rattle.gl_uapi.specs.declared.layout.TheConstants.{LINE_VALUES_SIZE}
use Rattle.gl_aggregator.specs.Visiting.{WasTold}
use Rattle.gl_aggregator.proofs.Asks.{tell_fits}
use Rattle.gl_aggregator.proofs.Told.{gives_word}
use Rattle.gl_aggregator.proofs.visiting.end_visit.Goals as goal

pub end-reply-requires-clause-fits : goal.end-reply-requires-clause-fits
end-reply-requires-clause-fits g c κs within = subst (λ call. Fits call c.nothing-gift.result (take c.args.asking.now.command.len c.args.asking.now.command.bytes)) (sym c.in_part-tell.ensures.part) (tell_fits c.args.asking.now c.args.answer c.nothing-gift.result (take c.args.asking.now.command.len c.args.asking.now.command.bytes) c.requires.place c.requires.asking refl)

pub returns-then-is_done-clause-told : goal.returns-then-is_done-clause-told
returns-then-is_done-clause-told g c = gives_word c.replies_tell_lengths.ensures.behind_a_history c.args.asking.now c.args.answer c.args.pass.now.view c.end-reply.new.pass.view c.end-reply.result (take c.args.asking.now.command.len c.args.asking.now.command.bytes) c.end-reply.new.out
    c.requires.place c.requires.asking (subst (λ call. WasTold core c.args.asking.now.command.place call c.args.pass.now.view c.end-reply.new.pass.view c.end-reply.result (take c.args.asking.now.command.len c.args.asking.now.command.bytes) c.end-reply.new.out) c.in_part-tell.ensures.part c.end-reply.ensures.told)
    (sym c.is_done.ensures ∙ c.if-is_done.true) (c.end-reply.new.out ++ (drop c.args.asking.now.command.len c.args.asking.now.command.bytes)) (drop c.args.asking.now.command.len c.args.asking.now.command.bytes) (take LINE_VALUES_SIZE (c.end-reply.new.out ++ (drop c.args.asking.now.command.len c.args.asking.now.command.bytes))) c.word_in.result refl refl c.word_in.ensures
