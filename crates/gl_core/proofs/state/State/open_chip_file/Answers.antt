use Rattle.std.proofs.Common.{ap, ◌∙◌}
use Rattle.gl_watch.specs.Files.{file_at, is_open_at}
use Rattle.gl_core.specs.Kept.{Kept}
use Rattle.gl_core.proofs.OpenRequests.{file_passed, file_refused}
use Rattle.gl_core.proofs.state.State.open_chip_file.Goals as goal

pub returns-in-Some-clause-passed : goal.returns-in-Some-clause-passed
returns-in-Some-clause-passed c =
    file_passed c.args.self.now c.args.place c.args.fd (c.in-Some.ensures.open ∙ ap (λ (k : Kept). is_open_at c.args.place (file_at c.args.fd k.files)) c.self.view_is)

pub returns-in-None-clause-refused : goal.returns-in-None-clause-refused
returns-in-None-clause-refused c =
    file_refused c.args.self.now c.args.place c.args.fd c.no_chip_file.result
    (c.in-None.ensures.open ∙ ap (λ (k : Kept). is_open_at c.args.place (file_at c.args.fd k.files)) c.self.view_is) c.no_chip_file.ensures
