use Rattle.std.proofs.Common.{ap, refl, sym}
use Rattle.std.proofs.lemmas.List.{append-nil}
use Rattle.gl_script.specs.Served.{kind_in, opened}
use Rattle.gl_script.specs.declared.served.LineKind.{LineKind}
use Rattle.gl_script.specs.declared.served.Stage.TheVariants.{Headed}
use Rattle.gl_served.specs.Served.{accepted_after, text_of}
use Rattle.gl_served.proofs.Answering.{opened_up, reached}
use Rattle.gl_served.proofs.served.Served.accept.Goals as goal

pub returns-in-Passed : goal.returns-in-Passed
returns-in-Passed c = λ said line keeps. (said, (refl, sym (ap (λ (k : LineKind). accepted_after (kind_in k) line said) c.in-Passed.is), sym (append-nil (text_of said))), keeps)

pub returns-in-Header : goal.returns-in-Header
returns-in-Header c = λ said line keeps. (
  record { stage = Headed c.in-Header.version; statements = said.statements },
  (refl, sym (ap (λ (k : LineKind). accepted_after (kind_in k) line said) c.in-Header.is), sym (append-nil (text_of said))),
  reached c.self.inside.stage (Headed c.in-Header.version) c.self.inside.talk c.self.inside.count c.self.inside.alone c.self.inside.under_way c.args.self.now said c.self.view_is keeps,
)

pub returns-in-Setup : goal.returns-in-Setup
returns-in-Setup c = λ said line keeps. (
  record { stage = opened said.stage; statements = said.statements },
  (refl, sym (ap (λ (k : LineKind). accepted_after (kind_in k) line said) c.in-Setup.is), sym (append-nil (text_of said))),
  opened_up c.self.inside.stage c.stage_after-self-inside.result c.self.inside.talk c.self.inside.count c.self.inside.alone c.self.inside.under_way c.args.self.now said c.self.view_is c.stage_after-self-inside.ensures keeps,
)
