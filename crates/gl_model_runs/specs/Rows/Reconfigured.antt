-- What a new configuration changes, and what it leaves. A level that is to settle stays as it was told, whatever level the
-- configuration gives the line meanwhile, and its deadline stays where the period does. The edges that are monitored are the
-- new ones alone. The value of a debounced line is that of the level at which it has settled, inverted on an active-low line. And
-- values are set only on lines that are outputs still when the driver has answered.
use Rattle.std.specs.Prelude.{List, [], ◌∷◌, ◌++◌, true, false, Some}
use Rattle.gl_base.specs.declared.errno.Errno.TheVariants.{Again, Perm}
use Rattle.gl_uapi.specs.declared.commands.Command.TheVariants.{SetValues}
use Rattle.gl_model.specs.declared.call.Call.TheVariants.{ReadEdges}
use Rattle.gl_model.specs.declared.call.Part.TheVariants.{Ask, Tell}
use Rattle.gl_model.specs.declared.reply.Reply.TheVariants.{Done, Go, Refused}
use Rattle.gl_model_runs.specs.Rows.Structures.{answers_in, attribute, by, calls_in, command, config, configures, debounced, event, fails, four_lines, four_lines_given, gives, has_level, has_value, pulls, requests, ticks, values}
use Rattle.gl_model_runs.specs.Run.{Answer, Made, says}

-- Line 0 rises, and is pulled down by a new configuration of the same period. At its deadline it is high all the same, which is
-- an event. With another period it settles at its level at once, which is no event.
abbrev pub settling : List (Made × Answer)
settling =
    requests 0 (debounced 0x34) 4
    ++ pulls 0 true
    ∷ ticks 999_999 0
    ∷ configures 4 (debounced 0x234)
    ++ has_level 0 0
    ∷ has_value 4 0x0
    ++ ticks 1_000_000 0
    ∷ (by 0 (ReadEdges 0 4 480), gives 48 (event 1_000_000 1 0 1 1))
    ∷ has_value 4 0x1
    ++ configures 4 (config 0x34 (attribute 3 2000 0x1 ∷ []))
    ++ has_value 4 0x0
    ++ ticks 9_000_000 0
    ∷ fails (ReadEdges 0 4 480) Again
    ∷ []

-- line 1 with both edges, and then with its falling edges alone: it rises, falls, rises and falls
abbrev pub monitored : List (Made × Answer)
monitored =
    requests 1 (config 0x34 []) 5
    ++ pulls 1 true
    ∷ configures 5 (config 0x24 [])
    ++ pulls 1 false
    ∷ pulls 1 true
    ∷ pulls 1 false
    ∷ (by 0 (ReadEdges 0 5 480), gives 144 (event 9_000_000 1 1 1 1 ++ event 9_000_000 2 1 2 2 ++ event 9_000_000 2 1 3 3))
    ∷ []

-- Line 2 is active low and debounced. It is low, so that its value is 1; it rises, and at its deadline its value is 0, which
-- is a falling event.
abbrev pub active_low : List (Made × Answer)
active_low =
    requests 2 (debounced 0x36) 6
    ++ has_value 6 0x1
    ++ pulls 2 true
    ∷ has_value 6 0x1
    ++ ticks 10_000_000 0
    ∷ has_value 6 0x0
    ++ (by 0 (ReadEdges 0 6 480), gives 48 (event 10_000_000 2 2 1 1))
    ∷ []

-- Line 3 is an output. Its value is set, and before the driver's answer is told it is configured as an input; as an output again
-- it can be set.
abbrev pub set_between : List (Made × Answer)
set_between =
    requests 3 (config 0x8 []) 7
    ++ (command 7 SetValues (values 0x1 0x1) Ask, says (Go 0))
    ∷ configures 7 (config 0x4 [])
    ++ (command 7 SetValues (values 0x1 0x1) (Tell (Some 0)), says (Refused Perm))
    ∷ configures 7 (config 0x8 [])
    ++ has_level 3 0
    ∷ (command 7 SetValues (values 0x1 0x1) Ask, says (Go 0))
    ∷ (command 7 SetValues (values 0x1 0x1) (Tell (Some 0)), says Done)
    ∷ has_level 3 1
    ∷ []

abbrev pub exchanges : List (Made × Answer)
exchanges = settling ++ monitored ++ active_low ++ set_between

unfoldable pub run : List Made
run = four_lines ++ calls_in exchanges

unfoldable pub given : List Answer
given = four_lines_given ++ answers_in exchanges
