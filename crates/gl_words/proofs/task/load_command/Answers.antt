use Rattle.std.proofs.Common.{◌≡◌, ◌∙◌, ap, ap₂, rules}
use Rattle.std.proofs.lemmas.Result.{IfOk-weaker}
use Rattle.clap.specs.Words.{app_of, rule_of, with_rule}
use Rattle.clap.specs.Simple.{app_of_fields}
use Rattle.gl_words.specs.Command.{generate_option, unnamed}
use Rattle.gl_words.proofs.task.load_command.Goals as goal

pub returns : goal.returns
returns c =
    let option_is : rule_of c.long-generate.result ≡ generate_option = search rules in
    let command_is : app_of c.no_binary_name.result ≡ unnamed (app_of c.new-2.result) = λ i. app_of_fields (c.no_binary_name.ensures i) in
    IfOk-weaker c.arg.result _ _ (λ command added. added.shape (search rules) ∙ ap₂ with_rule (command_is ∙ ap unnamed c.new-2.ensures.app) option_is) c.arg.ensures
