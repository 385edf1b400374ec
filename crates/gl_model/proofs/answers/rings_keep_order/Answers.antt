use Rattle.gl_model.proofs.Rings as rings
use Rattle.gl_model.proofs.answers.rings_keep_order.Goals as goal

pub returns : goal.returns
returns g c = record { order = rings.reads_in_order g.K.Image.stands_for; gaps = rings.gaps_are_oldest g.K.Image.stands_for; spelled = rings.reads_spell_events }
