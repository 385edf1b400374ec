-- The whole rule of a gate's table.
use Rattle.std.specs.Prelude.{ℕ}
use Rattle.atomic_table.specs.Table.{State}
use Rattle.gl_world.specs.declared.machine.Machine.{Ghosts}
use Rattle.gl_rule.specs.declared.held.Held.{Held}
use Rattle.gl_rule.specs.declared.view.View.{View}
use Rattle.gl_rule.specs.Turn.{TurnRule}
use Rattle.gl_rule.specs.Guards.{GuardRule}

module _ {M C R G : Type 0} (m : Ghosts M C R G) (places : ℕ) where
  abbrev pub Rule : State (Held M C R G) (View M C R G) → Type 0
  Rule s = (turn : TurnRule m s) × GuardRule m places turn.log s
