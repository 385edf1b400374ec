use Rattle.std.proofs.Common.{[], ◌∷◌, ◌++◌}
use Rattle.std.specs.Prelude.{codes}
use Rattle.gl_base.specs.Decimal.{decimal}
use Rattle.gl_trace.specs.CallText.{call_words}
use Rattle.gl_trace.specs.ReplyText.{reply_text}
use Rattle.gl_trace.proofs.Putting.{put_end}
use Rattle.gl_trace.proofs.put.put_text_of.Goals as goal

pub returns-clause-ok : goal.returns-clause-ok
returns-clause-ok c =
    let e = c.args.entry.now in
    put_end c.put_result.result c.args.out.now.items c.put_front.new.out.items c.put_call.new.out.items c.put_result.new.out.items
    (decimal c.args.index ∷ decimal e.actor ∷ []) (call_words e.call) (codes "-> " ++ reply_text e.reply)
    c.in_ok-put_front.ensures.ok c.in_ok-put_call.ensures.ok c.put_result.ensures.ok
