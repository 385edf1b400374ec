-- The history of a session of several actors can be written, and what was written is its output.
use Rattle.std.proofs.Common.{arith, ℕ, ◌≤◌, nat_lt, Bool, false, List, Option, Result, Ok, Err, IfOk, OnOk, subst, sym, ◌≡◌}
use Rattle.std.proofs.lemmas.Bool.Decides.{nat_tests}
use Rattle.gl_base.specs.Rows.{Each}
use Rattle.gl_core.specs.Kept.{StandsFor}
use Rattle.gl_driver.specs.Told.{Told}
use Rattle.gl_script.specs.Section.{SaidSection}
use Rattle.gl_trace.specs.EntryText.{HasText}
use Rattle.gl_trace.proofs.Legal.{legal_entries_have_texts}
use Rattle.gl_core.specs.Device.{OneEntry}
use Rattle.gl_session.specs.Many.{CameToMany}
use Rattle.gl_session.specs.Output.{AreTold, output}
use Rattle.gl_session.specs.Run.{CameBy}
use Rattle.gl_check.specs.Drivers.{DriverOver}
use Rattle.gl_check.specs.Joining.{Maps}
use Rattle.gl_check.specs.Many.{Texts}

-- each entry has a text
pub entries_told : (driver : DriverOver) (sections : List SaidSection) (before left : ℕ → Option Told) (m : Maps) (history items : List OneEntry) (texts : Texts) → items ≡ history → CameToMany driver sections before left m history texts
    → Each (λ (e : OneEntry). HasText e) items
entries_told driver sections before left m history items texts same came =
    subst (λ (l : List OneEntry). Each (λ (e : OneEntry). HasText e) l) (sym same) ((legal_entries_have_texts StandsFor).behind_a_history history came.many.legal)

-- two or more are not fewer than two
pub not_few : (n : ℕ) → 2 ≤ n → nat_lt n 2 ≡ false
not_few n several = grind (arith, nat_tests, several)

-- what was written of two or more actors is the output of their texts and their history
pub came_to_output : {O E : Type 0} (items : O → List ℕ) (result : Result O E) (driver : DriverOver) (sections : List SaidSection) (before left : ℕ → Option Told) (m : Maps) (history : List OneEntry) (texts : Texts) (few : Bool) → few ≡ false
    → CameToMany driver sections before left m history texts → IfOk result (λ out. items out ≡ output sections texts history) → OnOk result (AreTold 0 history) → IfOk result (λ out. CameBy few driver sections before left m (items out))
came_to_output items (Ok out) driver sections before left m history texts few several came prints told = subst (λ (b : Bool). CameBy b driver sections before left m (items out)) (sym several) (record {
  history = history;
  texts = texts;
  came = came;
  prints = prints;
  told = told;
})
came_to_output items (Err e) driver sections before left m history texts few several came prints told = tt
