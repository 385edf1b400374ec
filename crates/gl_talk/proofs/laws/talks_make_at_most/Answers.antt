use Rattle.gl_talk.proofs.TalkFiles.{talks_make_at_most}
use Rattle.gl_talk.proofs.laws.talks_make_at_most.Goals as goal

pub returns : goal.returns
returns c = talks_make_at_most
