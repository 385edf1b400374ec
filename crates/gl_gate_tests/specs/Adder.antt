-- The kinds of call of the adder.
use Rattle.std.specs.Prelude.{Bool, true, false}
use Rattle.gl_gate_tests.specs.declared.adder_call.AdderCall.{AdderCall}
use Rattle.gl_gate_tests.specs.declared.adder_call.AdderCall.TheVariants.{Alone, First, Second}

abbrev pub is_first : AdderCall → Bool
is_first Alone = false
is_first First = true
is_first Second = false

abbrev pub is_second : AdderCall → Bool
is_second Alone = false
is_second First = false
is_second Second = true
