use Rattle.std.proofs.Common.{◌≡◌, length, rules, refl, arith}
use Rattle.gl_served.proofs.CutLines.{byte_added}
use Rattle.gl_served.proofs.serving.Reading.add.Goals as goal

pub returns-then-len-gt-LINE_MAX-clause-added : goal.returns-then-len-gt-LINE_MAX-clause-added
returns-then-len-gt-LINE_MAX-clause-added c = λ served before written has.
    let size : c.len.result ≡ length c.args.self.now.line.items = search rules in
    byte_added served _ _ before written c.args.byte _ has c.requires (λ long. refl) (λ short. absurd (omega (arith, size)))

pub returns-in-Ok-clause-added : goal.returns-in-Ok-clause-added
returns-in-Ok-clause-added c = λ served before written has.
    byte_added served _ _ before written c.args.byte _ has c.requires (λ long. search rules) (λ short. search rules)
