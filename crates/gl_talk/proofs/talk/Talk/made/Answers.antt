use Rattle.std.proofs.Common.{map, ap, ◌∙◌, List}
use Rattle.gl_talk.specs.Open.{File, file_in}
use Rattle.gl_talk.specs.Talk.{names_in}
use Rattle.gl_talk.proofs.Continuing.{row_added, shows_same}
use Rattle.gl_talk.proofs.talk.Talk.made.Goals as goal

pub returns-clause-goes : goal.returns-clause-goes
returns-clause-goes c =
    let names = names_in c.args.self.now in
    shows_same c.in_ok-text.text _ _ _ _ _ c.in_ok-text.ensures.ok
    (ap (λ (files : List File). record names { files = files }) (ap (map file_in) c.in_ok-push.ensures.items ∙ row_added file_in c.args.self.now.files.items _))
    c.show.ensures.goes
