-- What outputs are driven with, and what a line without a direction flag keeps. A hogged output is driven high or low, as its
-- device says. A value is inverted on an active-low line. A new configuration leaves a line without a direction flag as it is,
-- and tells of none; a request keeps its direction, and drives an output with its pull.
use Rattle.std.specs.Prelude.{ℕ, List, [], ◌∷◌, ◌++◌, codes, true, false, Some}
use Rattle.gl_base.specs.Padded.{padded}
use Rattle.gl_base.specs.declared.errno.Errno.TheVariants.{Again, Perm}
use Rattle.gl_uapi.specs.Fields.{number_bytes, zeros}
use Rattle.gl_uapi.specs.declared.commands.Command.TheVariants.{GetLine, GetValues, LineInfo, SetValues, Watch}
use Rattle.gl_model.specs.declared.call.Call.TheVariants.{Close, Level, Live, MakeDir, OpenChip, ReadEdges, ReadInfo, Write}
use Rattle.gl_model.specs.declared.call.Part.TheVariants.{Whole, Ask, Tell}
use Rattle.gl_model.specs.declared.reply.Reply.TheVariants.{Done, Go, Number, Refused}
use Rattle.gl_model_runs.specs.Rows.Structures.{answers_in, attribute, by, calls_in, change, command, config, configures, does, event, fails, gives, has_level, has_value, info, pulls, request, requests, ticks, values}
use Rattle.gl_model_runs.specs.Run.{Answer, Made, says, shows}

-- a line has these flags, and a consumer without a name
abbrev pub has_flags : ℕ → ℕ → Made × Answer
has_flags offset flags = (command 3 LineInfo (info [] offset 0) Whole, shows (info (codes "?") offset flags))

-- the value of a request's one line is set
abbrev pub sets : ℕ → ℕ → List (Made × Answer)
sets fd bit =
    (command fd SetValues (values bit 0x1) Ask, says (Go 0)) ∷ (command fd SetValues (values bit 0x1) (Tell (Some 0)), says Done) ∷ []

-- a device goes live with a chip of eight lines, of which line 0 is hogged as an output that is high, line 1 as one that is low,
-- and line 2 as an input
abbrev pub built : List (Made × Answer)
built =
    does (MakeDir (codes "d"))
    ∷ does (MakeDir (codes "d/b"))
    ∷ does (Write (codes "d/b/num_lines") (codes "8"))
    ∷ does (MakeDir (codes "d/b/line0"))
    ∷ does (MakeDir (codes "d/b/line0/hog"))
    ∷ does (Write (codes "d/b/line0/hog/direction") (codes "output-high"))
    ∷ does (MakeDir (codes "d/b/line1"))
    ∷ does (MakeDir (codes "d/b/line1/hog"))
    ∷ does (Write (codes "d/b/line1/hog/direction") (codes "output-low"))
    ∷ does (MakeDir (codes "d/b/line2"))
    ∷ does (MakeDir (codes "d/b/line2/hog"))
    ∷ does (Live (codes "d"))
    ∷ (by 0 (OpenChip (codes "0")), says (Number 3))
    ∷ []

-- the hogs are pulled down, and then up: the input alone follows
abbrev pub hogged : List (Made × Answer)
hogged =
    has_flags 0 0x9
    ∷ has_flags 1 0x9
    ∷ has_flags 2 0x5
    ∷ has_level 0 1
    ∷ has_level 1 0
    ∷ has_level 2 0
    ∷ pulls 0 true
    ∷ pulls 1 true
    ∷ pulls 2 true
    ∷ has_level 0 1
    ∷ has_level 1 0
    ∷ has_level 2 1
    ∷ (by 0 (Level 0 1 true), says (Number 1))
    ∷ []

-- line 3 as an output that is driven 1, line 4 as an input with both edges that is debounced with 1000 microseconds, and line 5 as
-- an input
abbrev pub asked : ℕ → List ℕ
asked fd = request
    (3 ∷ 4 ∷ 5 ∷ [])
    (config 0x34 (attribute 1 0x8 0x1 ∷ attribute 2 0x1 0x1 ∷ attribute 3 1000 0x2 ∷ attribute 1 0x4 0x4 ∷ []))
    3 0 fd

-- the information on line 4
abbrev pub info_debounced : List ℕ
info_debounced =
    zeros 32 ++ padded 32 (codes "?") ++ number_bytes 4 4 ++ number_bytes 4 1 ++ number_bytes 8 0x35 ++ attribute 3 1000 0 ++ zeros 152

-- The three lines are watched, and line 4 rises. A new configuration is active low without a direction, and has line 5 alone as an
-- input with its falling edges: line 3 stays high, line 4 settles at its deadline, and neither is told of. Then no line of a new
-- configuration has a direction.
abbrev pub left : List (Made × Answer)
left =
    (command 3 GetLine (asked 0) Ask, says (Go 4))
    ∷ (command 3 GetLine (asked 0) (Tell (Some 0)), gives 4 (asked 4))
    ∷ (command 3 Watch (info [] 3 0) Whole, shows (info (codes "?") 3 0x9))
    ∷ (command 3 Watch (info [] 4 0) Whole, shows info_debounced)
    ∷ (command 3 Watch (info [] 5 0) Whole, shows (info (codes "?") 5 0x5))
    ∷ pulls 4 true
    ∷ configures 4 (config 0x2 (attribute 1 0x24 0x4 ∷ []))
    ++ (by 0 (ReadInfo 0 3 9216), gives 288 (change (info (codes "?") 5 0x25) 0 3))
    ∷ has_flags 3 0x9
    ∷ (command 3 LineInfo (info [] 4 0) Whole, shows info_debounced)
    ∷ has_level 3 1
    ∷ (command 4 GetValues (values 0 0x7) Ask, says (Go 0))
    ∷ (command 4 GetValues (values 0 0x7) (Tell (Some 0)), shows (values 0x1 0x7))
    ∷ pulls 5 true
    ∷ pulls 5 false
    ∷ ticks 1_000_000 0
    ∷ (by 0 (ReadEdges 0 4 480), gives 96 (event 0 2 5 1 1 ++ event 1_000_000 1 4 2 1))
    ∷ configures 4 (config 0x0 [])
    ++ fails (ReadInfo 0 3 9216) Again
    ∷ has_level 3 1
    ∷ pulls 4 false
    ∷ pulls 5 true
    ∷ pulls 5 false
    ∷ ticks 2_000_000 0
    ∷ (by 0 (ReadEdges 0 4 480), gives 96 (event 1_000_000 2 5 3 2 ++ event 2_000_000 2 4 4 2))
    ∷ []

-- line 6 is an active-low output, and is set to 1 and to 0
abbrev pub inverted : List (Made × Answer)
inverted =
    requests 6 (config 0xA []) 5
    ++ has_level 6 1
    ∷ has_value 5 0x0
    ++ sets 5 0x1
    ++ has_level 6 0
    ∷ has_value 5 0x1
    ++ sets 5 0x0
    ++ has_level 6 1
    ∷ has_value 5 0x0

-- Line 7 is an output that is driven 1, and is closed; requested without a direction it is one that is driven 0, as it is pulled
-- down, and stays so when it is pulled up. Driven 0, closed and requested so again it is driven 1, though it is active low now.
abbrev pub kept : List (Made × Answer)
kept =
    requests 7 (config 0x8 (attribute 2 0x1 0x1 ∷ [])) 6
    ++ has_level 7 1
    ∷ does (Close 6)
    ∷ has_level 7 0
    ∷ requests 7 (config 0x0 []) 7
    ++ has_flags 7 0x9
    ∷ has_level 7 0
    ∷ pulls 7 true
    ∷ has_level 7 0
    ∷ sets 7 0x1
    ++ has_level 7 1
    ∷ does (Close 7)
    ∷ requests 7 (config 0x8 []) 8
    ++ has_level 7 0
    ∷ does (Close 8)
    ∷ requests 7 (config 0x2 []) 9
    ++ has_flags 7 0xB
    ∷ has_level 7 1
    ∷ has_value 9 0x0
    ++ pulls 7 false
    ∷ has_level 7 1
    ∷ []

-- line 5 was an input, and requested without a direction it is one
abbrev pub kept_input : List (Made × Answer)
kept_input =
    does (Close 4)
    ∷ requests 5 (config 0x0 []) 10
    ++ has_flags 5 0x5
    ∷ (command 10 SetValues (values 0x1 0x1) Ask, says (Refused Perm))
    ∷ pulls 5 true
    ∷ has_level 5 1
    ∷ []

abbrev pub exchanges : List (Made × Answer)
exchanges = built ++ hogged ++ left ++ inverted ++ kept ++ kept_input

unfoldable pub run : List Made
run = calls_in exchanges

unfoldable pub given : List Answer
given = answers_in exchanges
