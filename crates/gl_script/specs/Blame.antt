-- Want of memory is no fault of a text.
use Rattle.std.specs.Prelude.{◌≡◌, ◌≢◌, ℕ, List, Some}
use Rattle.gl_script.specs.Sentence.{first_fault}
use Rattle.gl_script.specs.declared.refusal.Refusal.{Refusal}
use Rattle.gl_script.specs.declared.refusal.RefusalKind.TheVariants.{NoMemory}

-- the first fault of bytes is never want of memory
abbrev pub FaultsAreOfTheText : Type 0
FaultsAreOfTheText = (bytes : List ℕ) (refusal : Refusal) → first_fault bytes ≡ Some refusal → refusal.kind ≢ NoMemory
