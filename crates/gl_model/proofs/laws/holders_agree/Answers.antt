use Rattle.gl_model.proofs.HoldersLaw.{holders_always_agree, holders_stay_agreed, no_line_is_shared}
use Rattle.gl_model.proofs.laws.holders_agree.Goals as goal

pub returns : goal.returns
returns g c = record { stay = holders_stay_agreed; agree = holders_always_agree g.K.Image.stands_for; apart = no_line_is_shared g.K.Image.stands_for }
