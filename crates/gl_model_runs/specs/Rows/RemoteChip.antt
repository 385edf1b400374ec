-- A remote chip's levels come from its driver alone. Its pulls and levels can't be set or read from outside, and a bias
-- of a request changes none. An interrupt tells the level of a line, and where a request holds the line and watches for that
-- edge it is an event. The values of a request are the bits that the driver answered, as they are; but a debounced line
-- has the level at which it has settled. A simulated chip has no interrupts of a driver.
use Rattle.std.specs.Prelude.{ℕ, Bool, List, [], ◌∷◌, ◌++◌, codes, true, false, Some, None}
use Rattle.gl_base.specs.declared.errno.Errno.TheVariants.{Again, Inval, Io, NoEnt}
use Rattle.gl_base.specs.declared.kind.Kind.TheVariants.{Simulated, Remote}
use Rattle.gl_uapi.specs.declared.commands.Command.TheVariants.{GetLine, GetValues, SetConfig}
use Rattle.gl_model.specs.declared.call.Call.TheVariants.{Interrupt, Level, OpenChip, Probe, Pull, ReadEdges}
use Rattle.gl_model.specs.declared.call.Part.TheVariants.{Ask, Tell}
use Rattle.gl_model.specs.declared.reply.Reply.TheVariants.{Done, Go, Number, Refused}
use Rattle.gl_model_runs.specs.Rows.Structures.{answers_in, attribute, by, calls_in, command, config, event, gives, request, ticks, values}
use Rattle.gl_model_runs.specs.Run.{Answer, Made, says, shows}

-- Lines 0 to 2 with their rising edges. Lines 0 and 1 are pulled up, and line 2 is active low instead; line 1 is debounced
-- with 1000 microseconds.
abbrev pub asked : ℕ → List ℕ
asked fd = request (0 ∷ 1 ∷ 2 ∷ []) (config 0x114 (attribute 1 0x16 0x4 ∷ attribute 3 1000 0x2 ∷ [])) 3 0 fd

-- The lines of a mask are read, the driver answers these bits, and the values are these.
abbrev pub got : ℕ → ℕ → ℕ → List (Made × Answer)
got mask answered bits =
    (command 4 GetValues (values 0 mask) Ask, says (Go 0))
    ∷ (command 4 GetValues (values 0 mask) (Tell (Some answered)), shows (values bits mask))
    ∷ []

-- the driver of place 0 tells the level of a line
abbrev pub interrupts : ℕ → Bool → Made × Answer
interrupts offset up = (by 0 (Interrupt 0 offset up), says Done)

-- What isn't for a remote chip: a pull, a level, and the pull that was set. And what an interrupt isn't for: a simulated chip,
-- whose level stays, a line that isn't there, a place without a chip.
abbrev pub strange : List (Made × Answer)
strange =
    (by 0 (Probe (codes "far") 3 Remote), says (Number 0))
    ∷ (by 0 (OpenChip (codes "0")), says (Number 3))
    ∷ (by 0 (Probe (codes "demo") 4 Simulated), says (Number 1))
    ∷ (by 0 (Pull 0 0 true), says (Refused Inval))
    ∷ (by 0 (Level 0 0 false), says (Refused Inval))
    ∷ (by 0 (Level 0 0 true), says (Refused Inval))
    ∷ (by 0 (Interrupt 1 0 true), says (Refused Inval))
    ∷ (by 0 (Level 1 0 false), says (Number 0))
    ∷ (by 0 (Interrupt 0 3 true), says (Refused Inval))
    ∷ (by 0 (Interrupt 2 0 true), says (Refused NoEnt))
    ∷ []

-- The lines are requested. The driver's bits are the values of lines 0 and 2, active low or not. Line 1 has settled at its
-- first level, which is low although it is to be pulled up. Where the driver fails there are no values.
abbrev pub requested : List (Made × Answer)
requested =
    (command 3 GetLine (asked 0) Ask, says (Go 4))
    ∷ (command 3 GetLine (asked 0) (Tell (Some 0)), gives 4 (asked 4))
    ∷ got 0x7 0x0 0x0
    ++ got 0x7 0x7 0x5
    ++ got 0x6 0x7 0x4
    ++ (command 4 GetValues (values 0 0x7) Ask, says (Go 0))
    ∷ (command 4 GetValues (values 0 0x7) (Tell None), says (Refused Io))
    ∷ []

-- Line 0 rises, which is an event, as no bias had raised it; that it is high once more is none. Line 2 rises, which is a
-- falling event that nobody watches for, and falls, which is a rising one. Line 1 rises, and settles later. No level that was
-- told is a value of a line that isn't debounced.
abbrev pub told : List (Made × Answer)
told =
    ticks 100 900
    ∷ interrupts 0 true
    ∷ interrupts 0 true
    ∷ interrupts 2 true
    ∷ ticks 200 900
    ∷ interrupts 2 false
    ∷ interrupts 1 true
    ∷ (by 0 (ReadEdges 0 4 480), gives 96 (event 100 1 0 1 1 ++ event 200 1 2 2 1))
    ∷ got 0x7 0x0 0x0
    ++ ticks 2_000_000 900
    ∷ (by 0 (ReadEdges 0 4 480), gives 48 (event 1_000_200 1 1 3 1))
    ∷ got 0x7 0x0 0x2
    ++ interrupts 0 false
    ∷ (by 0 (ReadEdges 0 4 480), says (Refused Again))
    ∷ []

-- all lines pulled down, and debounced with 2000 microseconds
abbrev pub pulled_down : List ℕ
pulled_down = config 0x204 (attribute 3 2000 0x7 ∷ [])

-- Line 0 rises and line 1 falls, and before line 1 has settled the lines are configured anew with another period. So each
-- settles at the level that it has now: line 0 is high, and the others are low.
abbrev pub configured : List (Made × Answer)
configured =
    interrupts 0 true
    ∷ interrupts 1 false
    ∷ (command 4 SetConfig pulled_down Ask, says (Go 0))
    ∷ (command 4 SetConfig pulled_down (Tell (Some 0)), says Done)
    ∷ got 0x7 0x7 0x1

abbrev pub exchanges : List (Made × Answer)
exchanges = strange ++ requested ++ told ++ configured

unfoldable pub run : List Made
run = calls_in exchanges

unfoldable pub given : List Answer
given = answers_in exchanges
