-- The phases of a place, each as a test.
use Rattle.std.specs.Prelude.{Bool, true, false}
use Rattle.gl_base.specs.declared.phase.Phase.{Phase}
use Rattle.gl_base.specs.declared.phase.Phase.TheVariants.{Absent, Up, Leaving, Gone}

-- no chip was ever made
abbrev pub is_absent : Phase → Bool
is_absent Absent = true
is_absent Up = false
is_absent Leaving = false
is_absent Gone = false

-- the chip is there, and its removal hasn't begun
abbrev pub is_up : Phase → Bool
is_up Absent = false
is_up Up = true
is_up Leaving = false
is_up Gone = false

-- the chip's removal has begun, and hasn't ended
abbrev pub is_leaving : Phase → Bool
is_leaving Absent = false
is_leaving Up = false
is_leaving Leaving = true
is_leaving Gone = false

-- the chip was removed
abbrev pub is_gone : Phase → Bool
is_gone Absent = false
is_gone Up = false
is_gone Leaving = false
is_gone Gone = true
