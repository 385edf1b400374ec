use Rattle.std.proofs.Common.{◌+◌, [], map, drop, ap, sym, ◌∙◌, arith}
use Rattle.gl_args.specs.Items.{item_in, item_given, to_list, with_front, reads, texts, step_in}
use Rattle.gl_args.proofs.Fronts.{front_of_front, one_more}
use Rattle.gl_args.proofs.items.put_items.Goals as goal

pub loop-word-preserved : goal.loop-word-preserved
loop-word-preserved c =
    let rest = reads c.args.tool (texts (drop (c.loop-word.word-index + 1) c.args.words.now)) c.in-Some.step.ended c.in-Some.step.wanted in
    let before = map item_in c.loop-word.items.items in
    ap (λ front. with_front front rest) c.in_ok-push_item-in-Some.ensures.ok
    ∙ front_of_front before (to_list (item_given c.in-Some.step.item)) rest
    ∙ ap (with_front before) (sym (one_more c.args.tool c.args.words.now c.loop-word.word-index record { ref_ptr = (0, 0); now = [] } c.loop-word.ended c.loop-word.wanted (step_in c.in-Some.step) (omega arith) c.in-Some.ensures))
    ∙ c.loop-word.invariant
