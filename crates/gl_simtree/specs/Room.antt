-- Plans with room, so that filling one takes no memory.
use Rattle.std.specs.Prelude.{◌≡◌, vec_capacity}
use Rattle.gl_base.specs.declared.limits.TheConstants.{LINES_MAX}
use Rattle.gl_simtree.specs.declared.plan.BankPlan.{BankPlan}

-- a plan has room for the names and hogs of any bank, and no more: no call but the maker takes memory
abbrev pub HasRoom : BankPlan → Type 0
HasRoom plan = (vec_capacity plan.names ≡ LINES_MAX) × (vec_capacity plan.hogs ≡ LINES_MAX)
