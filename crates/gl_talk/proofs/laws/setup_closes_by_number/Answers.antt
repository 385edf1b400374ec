use Rattle.gl_talk.proofs.FileNumbers.{setup_closes_by_number}
use Rattle.gl_talk.proofs.laws.setup_closes_by_number.Goals as goal

pub returns : goal.returns
returns c = setup_closes_by_number
