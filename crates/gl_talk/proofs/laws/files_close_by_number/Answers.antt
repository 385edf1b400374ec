use Rattle.gl_talk.proofs.FileNumbers.{files_close_by_number}
use Rattle.gl_talk.proofs.laws.files_close_by_number.Goals as goal

pub returns : goal.returns
returns c = files_close_by_number
