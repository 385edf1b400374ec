use Rattle.std.proofs.Common.{◌≡◌, ◌+◌, ◌≤◌, ◌++◌, ◌||◌, length, map, not, Option}
use Rattle.std.specs.List.{list_any}
use Rattle.std.specs.Prelude.{is_some}
use Rattle.gl_base.specs.Words.{words_at}
use Rattle.gl_script.specs.declared.limits.TheConstants.{JOINED_MAX}
use Rattle.gl_talk.specs.Actions.{slots_of}
use Rattle.gl_talk.specs.Open.{File, file_in, is_chip_file}
use Rattle.gl_talk.proofs.FewNames.{files_of}
use Rattle.gl_talk.proofs.joining.all_named.Given as goal

-- what the names so far come to, and those of what is left
abbrev pub invariant-loop-found : goal.invariant-loop-found
invariant-loop-found l =
    record {
      missing : (l.named.one_missing || list_any (λ (file : Option File). not (is_some file)) (files_of (words_at l.at l.rest) (map file_in l.files)))
          ≡ list_any (λ (file : Option File). not (is_some file)) (files_of (words_at l.fn.at l.line) (map file_in l.files));
      chip : (l.named.one_a_chip || list_any is_chip_file (files_of (words_at l.at l.rest) (map file_in l.files)))
          ≡ list_any is_chip_file (files_of (words_at l.fn.at l.line) (map file_in l.files));
      slots : l.named.slots ++ slots_of (files_of (words_at l.at l.rest) (map file_in l.files)) ≡ slots_of (files_of (words_at l.fn.at l.line) (map file_in l.files));
      few : length l.named.slots + length (words_at l.at l.rest) ≤ JOINED_MAX;
      within : l.at + length l.rest ≤ l.fn.at + length l.line;
    }

abbrev pub decreases-loop-found : goal.decreases-loop-found
decreases-loop-found l = length (words_at l.at l.rest)
