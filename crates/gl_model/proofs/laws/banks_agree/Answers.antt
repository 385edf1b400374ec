use Rattle.gl_model.proofs.Banks.{banks_always_agree, banks_stay_agreed}
use Rattle.gl_model.proofs.laws.banks_agree.Goals as goal

pub returns : goal.returns
returns g c = record { stay = banks_stay_agreed; reached = banks_always_agree g.K.Image.stands_for }
