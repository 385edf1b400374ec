use Rattle.std.proofs.Common.{[]}
use Rattle.gl_chip.proofs.OpenedChips.{file_place, named_within, opened_in, opened_no_dev}
use Rattle.gl_chip.proofs.SameActors.{knows_itself, same_actor}
use Rattle.gl_chip.proofs.gpio.Gpio.open_chip.Goals as goal

pub opened-requires-clause-place : goal.opened-requires-clause-place
opened-requires-clause-place g c = named_within _ _ c.args.word.now c.in-Ok-plain.reply (opened_in 0 _ _ c.args.word.now c.in-Ok-plain.reply [] c.in-Ok-plain.ensures.called)

pub returns-in-Ok-plain-clause-place : goal.returns-in-Ok-plain-clause-place
returns-in-Ok-plain-clause-place g c = file_place _ _ c.args.word.now c.in-Ok-plain.reply c.opened.result (opened_in 0 _ _ c.args.word.now c.in-Ok-plain.reply [] c.in-Ok-plain.ensures.called) c.in-Ok-plain.ensures.form c.opened.ensures

pub returns-in-Ok-plain-clause-leaving : goal.returns-in-Ok-plain-clause-leaving
returns-in-Ok-plain-clause-leaving g c = λ not_memory not_full. opened_no_dev _ _ c.args.word.now c.in-Ok-plain.reply c.opened.result (opened_in 0 _ _ c.args.word.now c.in-Ok-plain.reply [] c.in-Ok-plain.ensures.called) c.opened.ensures

pub returns-in-Err-clause-same : goal.returns-in-Err-clause-same
returns-in-Err-clause-same g c = same_actor c.args.actor.now.pass.view

pub returns-in-Err-clause-places : goal.returns-in-Err-clause-places
returns-in-Err-clause-places g c = knows_itself c.args.actor.now.pass.view
