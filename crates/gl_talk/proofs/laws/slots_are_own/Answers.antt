use Rattle.gl_talk.proofs.OwnSlots.{slots_are_own}
use Rattle.gl_talk.proofs.laws.slots_are_own.Goals as goal

pub returns : goal.returns
returns c = slots_are_own
