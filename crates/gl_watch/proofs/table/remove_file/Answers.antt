use Rattle.std.proofs.Common.{◌≡◌, Some, sym, ◌∙◌, ap}
use Rattle.std.specs.List.{position}
use Rattle.gl_base.proofs.FirstRows.{find-position, find-no_position, without_first-position, without_first-no_position}
use Rattle.gl_watch.specs.declared.file.ChipFile.{ChipFile}
use Rattle.gl_watch.specs.Files.{is_file}
use Rattle.gl_watch.specs.Answers.{changes_of}
use Rattle.gl_watch.proofs.table.remove_file.Goals as goal

pub returns-in-Some-clause-queue : goal.returns-in-Some-clause-queue
returns-in-Some-clause-queue c =
    let test = is_file c.args.fd in
    let at : position test c.args.files.now.items ≡ Some c.in-Some.at = sym c.in-Some.ensures in
    ap (λ (file : ChipFile). changes_of (Some file)) c.take_at.ensures.file ∙ sym (ap changes_of (find-position test c.args.files.now.items c.in-Some.at c.take_at.result at))

pub returns-in-Some-clause-files : goal.returns-in-Some-clause-files
returns-in-Some-clause-files c =
    let test = is_file c.args.fd in
    c.take_at.ensures.files ∙ sym (without_first-position test c.args.files.now.items c.in-Some.at c.take_at.result (sym c.in-Some.ensures))

pub returns-in-None-clause-queue : goal.returns-in-None-clause-queue
returns-in-None-clause-queue c =
    let test = is_file c.args.fd in
    sym (ap changes_of (find-no_position test c.args.files.now.items (sym c.in-None.ensures)))

pub returns-in-None-clause-files : goal.returns-in-None-clause-files
returns-in-None-clause-files c =
    let test = is_file c.args.fd in
    sym (without_first-no_position test c.args.files.now.items (sym c.in-None.ensures))
