-- What contracts see of a gate and of a pass.
use Rattle.std.specs.Prelude.{◌≡◌, ℕ}
use Rattle.atomic_table.specs.Seated.{TableId}
use Rattle.gl_rule.specs.declared.view.View.{View}

-- a gate: which one it is, and how many places it guards
pub record GateValue : Type 0 where
  pub id : TableId
  pub places : ℕ

-- a pass: the gate that it is of, and what it knows. M C R G: the machine, its calls, its replies and its gifts
pub record PassValue (M C R G : Type 0) : Type 0 where
  pub gate : TableId
  pub view : View M C R G

module _ {M C R G : Type 0} where
  -- the pass is one of this gate
  abbrev pub IsPassOf : GateValue → PassValue M C R G → Type 0
  IsPassOf gate pass = pass.gate ≡ gate.id

  -- the same pass, which knows something else
  abbrev pub knowing : PassValue M C R G → View M C R G → PassValue M C R G
  knowing pass v = record pass { view = v }
