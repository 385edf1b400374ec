use Rattle.std.proofs.Common.{refl}
use Rattle.gl_talk.proofs.talk.Talk.begin.Goals as goal

pub returns-clause-whole : goal.returns-clause-whole
returns-clause-whole c = λ statements. rw c.in_ok-line.ensures.ok refl
