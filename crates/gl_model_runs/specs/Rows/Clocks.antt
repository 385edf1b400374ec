-- Two clocks. An event has the time of the monotonic clock, or on a line that asks for it that of the real clock; a change of a
-- watched line has that of the monotonic clock. The monotonic clock doesn't go back and the real one may; both stay
-- below 2^63, and clocks that are refused change nothing. Debounced lines whose deadlines have come with one tick settle in
-- order of deadline, and those of one deadline in order of offset; the deadline is the time of the event, or on a line that
-- asks for the real clock this clock as the tick has set it. A poll tells whether something waits.
use Rattle.std.specs.Prelude.{ℕ, List, [], ◌∷◌, ◌++◌, codes, true, false, Some}
use Rattle.gl_base.specs.declared.errno.Errno.TheVariants.{Again, BadF, Inval}
use Rattle.gl_uapi.specs.declared.commands.Command.TheVariants.{GetLine, Watch}
use Rattle.gl_model.specs.declared.call.Call.{Call}
use Rattle.gl_model.specs.declared.call.Call.TheVariants.{PollChip, PollLine, ReadEdges, ReadInfo, Tick}
use Rattle.gl_model.specs.declared.call.Part.TheVariants.{Whole, Ask, Tell}
use Rattle.gl_model.specs.declared.reply.Reply.TheVariants.{Go, Ready}
use Rattle.gl_model_runs.specs.Rows.Structures.{answers_in, attribute, by, calls_in, change, command, config, event, fails, four_lines, four_lines_given, gives, info, pulls, request, ticks}
use Rattle.gl_model_runs.specs.Run.{Answer, Made, says, shows}

-- both edges of lines 0 and 1, and line 0 by the real clock
abbrev pub plain : ℕ → List ℕ
plain fd = request (0 ∷ 1 ∷ []) (config 0x34 (attribute 1 0x834 0x1 ∷ [])) 2 0 fd

-- both edges of lines 3 and 2, which are debounced with 1000 microseconds, and line 2 by the real clock
abbrev pub debounced : ℕ → List ℕ
debounced fd = request (3 ∷ 2 ∷ []) (config 0x34 (attribute 1 0x834 0x2 ∷ attribute 3 1000 0x3 ∷ [])) 2 0 fd

-- a request is asked for and told, and has this number
abbrev pub requests : (ℕ → List ℕ) → ℕ → List (Made × Answer)
requests asked fd =
    (command 3 GetLine (asked 0) Ask, says (Go fd))
    ∷ (command 3 GetLine (asked 0) (Tell (Some 0)), gives fd (asked fd))
    ∷ []

-- something waits for a request or for a chip file (1), or nothing (0)
abbrev pub polls : Call → ℕ → Made × Answer
polls call ready = (by 0 call, says (Ready ready))

-- line 0 is watched, and requested with line 1 when the clocks are 1000 and 5000
abbrev pub watched : List (Made × Answer)
watched =
    (command 3 Watch (info [] 0 0) Whole, shows (info [] 0 0x4))
    ∷ polls (PollChip 0 3) 0
    ∷ fails (PollLine 0 3) Inval
    ∷ fails (PollLine 0 4) BadF
    ∷ fails (PollChip 0 4) BadF
    ∷ ticks 1000 5000
    ∷ requests plain 4
    ++ polls (PollChip 0 3) 1
    ∷ fails (PollChip 0 4) Inval
    ∷ polls (PollLine 0 4) 0
    ∷ []

-- Both lines rise; they fall when the real clock has gone back, and rise once more after clocks that were refused: one that
-- goes back, and two that are 2^63. The monotonic clock may stay.
abbrev pub at_once : List (Made × Answer)
at_once =
    pulls 0 true
    ∷ pulls 1 true
    ∷ polls (PollLine 0 4) 1
    ∷ ticks 2000 3000
    ∷ pulls 0 false
    ∷ pulls 1 false
    ∷ fails (Tick 1999 9000) Inval
    ∷ fails (Tick 9_223_372_036_854_775_808 9000) Inval
    ∷ fails (Tick 9000 9_223_372_036_854_775_808) Inval
    ∷ pulls 0 true
    ∷ pulls 1 true
    ∷ ticks 2000 4000
    ∷ (
      by 0 (ReadEdges 0 4 480),
      gives 288
          (event 5000 1 0 1 1 ++ event 1000 1 1 2 1 ++ event 3000 2 0 3 2 ++ event 2000 2 1 4 2 ++ event 3000 1 0 5 3
          ++ event 2000 1 1 6 3),
    )
    ∷ polls (PollLine 0 4) 0
    ∷ (by 0 (ReadInfo 0 3 9216), gives 288 (change (info (codes "?") 0 0x835) 1000 1))
    ∷ polls (PollChip 0 3) 0
    ∷ []

-- Line 3 rises at 2000, and line 2 at 3000: a tick just before the first deadline settles none of them, and one behind both
-- deadlines settles both, line 3 first.
abbrev pub by_deadline : List (Made × Answer)
by_deadline =
    requests debounced 5
    ++ pulls 3 true
    ∷ ticks 3000 4000
    ∷ pulls 2 true
    ∷ polls (PollLine 0 5) 0
    ∷ ticks 1_001_999 7000
    ∷ polls (PollLine 0 5) 0
    ∷ ticks 2_000_000 8000
    ∷ polls (PollLine 0 5) 1
    ∷ (by 0 (ReadEdges 0 5 480), gives 96 (event 1_002_000 1 3 1 1 ++ event 8000 1 2 2 1))
    ∷ fails (ReadEdges 0 5 480) Again
    ∷ []

-- Line 3 falls, and then line 2, at one time; a tick at the very deadline settles both, line 2 first. The last clocks are the
-- largest.
abbrev pub by_offset : List (Made × Answer)
by_offset =
    pulls 3 false
    ∷ pulls 2 false
    ∷ ticks 2_999_999 8400
    ∷ polls (PollLine 0 5) 0
    ∷ ticks 3_000_000 8500
    ∷ polls (PollLine 0 5) 1
    ∷ (by 0 (ReadEdges 0 5 480), gives 96 (event 8500 2 2 3 2 ++ event 3_000_000 2 3 4 2))
    ∷ ticks 9_223_372_036_854_775_807 9_223_372_036_854_775_807
    ∷ fails (Tick 9_223_372_036_854_775_806 0) Inval
    ∷ []

abbrev pub exchanges : List (Made × Answer)
exchanges = watched ++ at_once ++ by_deadline ++ by_offset

unfoldable pub run : List Made
run = four_lines ++ calls_in exchanges

unfoldable pub given : List Answer
given = four_lines_given ++ answers_in exchanges
