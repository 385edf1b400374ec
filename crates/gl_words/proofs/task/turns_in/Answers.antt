use Rattle.std.proofs.Common.{◌≡◌, ◌∙◌, is_some, option_map, ap, sym}
use Rattle.clap.specs.Words.{kind_of}
use Rattle.clap.specs.declared.error.kind.ErrorKind.TheVariants.{OutOfMemory}
use Rattle.clap.proofs.TakesLemmas.{passed_up}
use Rattle.gl_words.specs.declared.task.Task.TheVariants.{Load}
use Rattle.gl_words.proofs.Loads.{takes_load, turns_found}
use Rattle.gl_words.proofs.task.turns_in.Goals as goal

pub returns-in_err-matches-clause-memory_alone : goal.returns-in_err-matches-clause-memory_alone
returns-in_err-matches-clause-memory_alone c =
    passed_up c.from_residual-in_err-matches.result c.in_err-matches.field-0.0 (λ error. kind_of error ≡ OutOfMemory) c.from_residual-in_err-matches.ensures.1
    (c.in_err-matches.ensures.passes (takes_load _ _ _ c.in_ok-command.ensures c.requires.1))

pub unwrap-requires : goal.unwrap-requires
unwrap-requires c =
    let found = turns_found _ _ _ _ c.get_one.result c.in_ok-command.ensures c.requires.1 c.in_ok-matches.ensures.matches c.get_one.ensures.value in
    ap is_some found

pub returns-clause-ok : goal.returns-clause-ok
returns-clause-ok c =
    let found = turns_found _ _ _ _ c.get_one.result c.in_ok-command.ensures c.requires.1 c.in_ok-matches.ensures.matches c.get_one.ensures.value in
    c.requires.1 ∙ ap (option_map Load) (sym found ∙ c.unwrap.ensures)
