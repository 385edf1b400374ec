-- The numbers of a talk's files. Whoever carries a talk out gives each file that it opens a number above those of the files that are
-- open then, as the device does. This project's choice.
use Rattle.std.specs.Prelude.{◌≡◌, ℕ, ◌<◌, Bool, nat_eq, nat_lt, if◌then◌else◌, List, [], ◌∷◌, ◌++◌, length, map, Option, None, Some}
use Rattle.gl_base.specs.Operation.{refusal}
use Rattle.gl_base.specs.Ordered.{ordered}
use Rattle.gl_base.specs.Rows.{Each, without_first}
use Rattle.gl_base.specs.Words.{Span}
use Rattle.gl_base.specs.declared.command.TheConstants.{GET_LINE}
use Rattle.gl_base.specs.declared.errno.Errno.{Errno}
use Rattle.gl_base.specs.declared.operation.Do.{Do}
use Rattle.gl_base.specs.declared.operation.Do.TheVariants.{OpenChip, Ioctl, Close}
use Rattle.gl_base.specs.declared.operation.Got.{Got}
use Rattle.gl_client.specs.Entries.{IsKept}
use Rattle.gl_client.specs.Program.{Program, done, print, ask}
use Rattle.gl_talk.specs.Open.{Names, left_setup, no_names, setup_names, slots_in_order}
use Rattle.gl_talk.specs.Talk.{says}

-- an open file: its slot, and its number
pub record Numbered : Type 0 where
  pub slot : ℕ
  pub number : ℕ

abbrev pub has_slot : ℕ → Numbered → Bool
has_slot slot file = nat_eq slot file.slot

-- the files after an operation: what succeeds in opening adds a file, which is given this number, and a closing takes one away
abbrev pub with_number : Option Errno → ℕ → ℕ → List Numbered → List Numbered
with_number None slot number files = files ++ record { slot = slot; number = number } ∷ []
with_number (Some errno) slot number files = files

abbrev pub numbered_behind : List Numbered → Do → Got → ℕ → List Numbered
numbered_behind files (OpenChip slot word) got number = with_number (refusal got) slot number files
numbered_behind files (Ioctl slot command len bytes made) got number = if nat_eq command GET_LINE then with_number (refusal got) made number files else files
numbered_behind files (Close slot) got number = without_first (has_slot slot) files
numbered_behind files _ got number = files

-- P holds of the value that a program gives and of the files that are open then, whatever it is answered but that no closing is
-- refused, and whatever numbers its files are given, each above those of the files that are open.
abbrev pub NumbersFiles : {A : Type 0} → (A → List Numbered → Type 0) → List Numbered → Program A → Type 0
NumbersFiles P files (done value) = P value files
NumbersFiles P files (print text p) = NumbersFiles P files p
NumbersFiles P files (ask what p) =
    (got : Got) (number : ℕ) → IsKept what got → Each (λ file. file.number < number) files → NumbersFiles P (numbered_behind files what got number) (p got)

abbrev pub has_less : Numbered → Numbered → Bool
has_less file other = nat_lt file.number other.number

-- The slots, in the order in which the end closes them, are those of the files in the order of their numbers.
abbrev pub CloseByNumber : Names → List Numbered → Type 0
CloseByNumber names files = slots_in_order names ≡ map (λ file. file.slot) (ordered has_less files)

-- So it is after the statements of each talk.
abbrev pub FilesCloseByNumber : Type 0
FilesCloseByNumber = (statements : List (List Span)) → NumbersFiles CloseByNumber [] (says 0 statements done no_names)

-- So it is after the statements of `setup`, and then those of another section, in one talk.
abbrev pub SetupClosesByNumber : Type 0
SetupClosesByNumber = (setup later : List (List Span)) → NumbersFiles CloseByNumber [] (says 0 setup (λ names. says (length setup) later done (left_setup names)) setup_names)
