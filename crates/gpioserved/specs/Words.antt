-- What the words behind the program's name ask for. This project's choice.
use Rattle.std.specs.Prelude.{ℕ, if◌then◌else◌, List, [], ◌∷◌, map, codes}
use Rattle.std.specs.Borrow.{Bor}
use Rattle.std.specs.Str.{bytes_eq}
use Rattle.gpioserved.specs.declared.words.Task.{Task}
use Rattle.gpioserved.specs.declared.words.Task.TheVariants.{Serve, Help, Version, Nothing}

-- the texts of words that are lent
abbrev pub texts : List (Bor (List ℕ)) → List (List ℕ)
texts words = map (λ word. word.now) words

-- no words ask for a session, `--help` alone for the help, and `--version` alone for the version; all others ask for nothing
abbrev pub task_of : List (List ℕ) → Task
task_of [] = Serve
task_of (word ∷ []) = if bytes_eq word (codes "--help") then Help else if bytes_eq word (codes "--version") then Version else Nothing
task_of _ = Nothing
