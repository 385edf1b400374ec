use Rattle.std.proofs.Common.{map, not, Option}
use Rattle.std.specs.Prelude.{is_some}
use Rattle.gl_base.specs.Words.{words_at}
use Rattle.gl_talk.specs.Open.{File, file_in, is_chip_file}
use Rattle.gl_talk.proofs.FewNames.{all_any, all_slots}
use Rattle.gl_talk.proofs.joining.all_named.Goals as goal

pub returns-clause-missing : goal.returns-clause-missing
returns-clause-missing c =
    let l = c.loop-found in
    all_any (λ (file : Option File). not (is_some file)) l.named.one_missing (words_at l.at l.rest.now) (words_at c.args.at c.args.line.now) (map file_in c.args.files.now) c.in_default.ensures.words c.requires.few l.invariant.missing

pub returns-clause-chip : goal.returns-clause-chip
returns-clause-chip c =
    let l = c.loop-found in
    all_any is_chip_file l.named.one_a_chip (words_at l.at l.rest.now) (words_at c.args.at c.args.line.now) (map file_in c.args.files.now) c.in_default.ensures.words c.requires.few l.invariant.chip

pub returns-clause-slots : goal.returns-clause-slots
returns-clause-slots c =
    let l = c.loop-found in
    all_slots l.named.slots (words_at l.at l.rest.now) (words_at c.args.at c.args.line.now) (map file_in c.args.files.now) c.in_default.ensures.words c.requires.few l.invariant.slots
