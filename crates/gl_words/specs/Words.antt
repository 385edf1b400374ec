-- What the words after the program's name ask for: none ask for a session, `check` for a check, and `--generate N` for a load of N
-- turns. All others ask for nothing. This project's choice.
use Rattle.std.specs.Prelude.{◌≡◌, ℕ, if◌then◌else◌, List, [], ◌∷◌, map, option_map, codes, Option, Some, None}
use Rattle.std.specs.Borrow.{Bor}
use Rattle.std.specs.Str.{bytes_eq}
use Rattle.gl_base.specs.Decimal.{plain_number_of_text}
use Rattle.gl_script.specs.Forms.{within}
use Rattle.gl_script.specs.declared.limits.TheConstants.{TURNS_MAX}
use Rattle.gl_words.specs.declared.task.Task.{Task}
use Rattle.gl_words.specs.declared.task.Task.TheVariants.{Session, Load, Check}

-- the texts of words that are lent
abbrev pub texts : List (Bor (List ℕ)) → List (List ℕ)
texts words = map (λ word. word.now) words

-- the number of turns that a word asks for: a decimal without a leading zero, from 1 to the greatest load
abbrev pub turns_of : List ℕ → Option ℕ
turns_of number = within 1 TURNS_MAX (plain_number_of_text number)

-- what an option asks for, with its value
abbrev pub load_of : List ℕ → List ℕ → Option Task
load_of option number = if bytes_eq option (codes "--generate") then option_map Load (turns_of number) else None

-- what a word alone asks for
abbrev pub check_of : List ℕ → Option Task
check_of word = if bytes_eq word (codes "check") then Some Check else None

-- what words ask for
abbrev pub asks : List (List ℕ) → Option Task
asks [] = Some Session
asks (word ∷ []) = check_of word
asks (option ∷ number ∷ []) = load_of option number
asks _ = None

-- words ask for a load
abbrev pub AskForLoad : List (List ℕ) → Type 0
AskForLoad words = (n : ℕ) × (asks words ≡ Some (Load n))
