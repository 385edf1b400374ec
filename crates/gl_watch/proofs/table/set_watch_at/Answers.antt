use Rattle.std.proofs.Common.{Bool, ◌≡◌, List, Some, ap, set, sym, ◌∙◌}
use Rattle.std.specs.List.{position}
use Rattle.gl_watch.specs.declared.file.ChipFile.{ChipFile}
use Rattle.gl_watch.specs.Files.{is_file, with_watch}
use Rattle.gl_watch.proofs.Found.{change_first-read}
use Rattle.gl_watch.proofs.table.set_watch_at.Goals as goal

pub returns-clause-files : goal.returns-clause-files
returns-clause-files c =
    let files : List ChipFile = c.args.files.now.items in
    let file : ChipFile = c.index_mut.result.now in
    let test : ChipFile → Bool = is_file c.args.found.fd in
    let at : position test files ≡ Some c.args.found.at = c.requires.stands in
    ap (set files c.args.found.at) c.set_watch.ensures
    ∙ sym (change_first-read test (with_watch c.args.offset c.args.watch) files c.args.found.at file at c.index_mut.ensures.value)
