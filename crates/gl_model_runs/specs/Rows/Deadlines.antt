-- Which deadlines don't run any more. That of a line whose debounce period is changed: the line has settled at the level that it
-- has then. Those of a request's lines when it is closed, whoever requests them next, and those of a chip's lines when it is gone;
-- while it is leaving they run. Other lines' deadlines go on. The last read is one that no legal history has, since its chip is
-- gone: the step answers it all the same, and without such a call nothing tells what became of the deadlines of a chip that is gone.
use Rattle.std.specs.Prelude.{ℕ, List, [], ◌∷◌, ◌++◌, codes, true, false, Some}
use Rattle.gl_base.specs.declared.errno.Errno.TheVariants.{Again}
use Rattle.gl_base.specs.declared.kind.Kind.TheVariants.{Simulated}
use Rattle.gl_uapi.specs.declared.commands.Command.TheVariants.{GetLine}
use Rattle.gl_model.specs.declared.call.Call.TheVariants.{Close, OpenChip, Probe, Pull, ReadEdges, Unplug}
use Rattle.gl_model.specs.declared.call.Part.TheVariants.{Ask, Tell}
use Rattle.gl_model.specs.declared.reply.Reply.TheVariants.{Go, Number}
use Rattle.gl_model_runs.specs.Rows.Structures.{answers_in, attribute, by, calls_in, config, configures, debounced, does, event, fails, four_lines, four_lines_given, gives, has_value, ioctl, pulls, request, requests, ticks}
use Rattle.gl_model_runs.specs.Run.{Answer, Made, says, shows}

-- two lines are requested with this configuration, at a place by its chip's file, and their request has this number
abbrev pub requests_two : ℕ → ℕ → List ℕ → List ℕ → ℕ → List (Made × Answer)
requests_two place file offsets configuration fd =
    let asked : ℕ → List ℕ = request offsets configuration 2 0 in
    (by 0 (ioctl place file GetLine (asked 0) Ask), says (Go fd))
    ∷ (by 0 (ioctl place file GetLine (asked 0) (Tell (Some 0))), gives fd (asked fd))
    ∷ []

-- no event of a request waits, and one does
abbrev pub waits_not : ℕ → ℕ → Made × Answer
waits_not place fd = fails (ReadEdges place fd 480) Again

abbrev pub waits : ℕ → ℕ → List ℕ → Made × Answer
waits place fd one = (by 0 (ReadEdges place fd 480), gives 48 one)

-- Line 0 rises, and gets another period: it has settled high, and at the old deadline nothing happens. It falls, and gets another
-- period and is pulled up: it has settled high. It falls, and gets no period: it is low. Its next edge is its first event.
abbrev pub period_changed : List (Made × Answer)
period_changed =
    requests 0 (debounced 0x34) 4
    ++ pulls 0 true
    ∷ has_value 4 0x0
    ++ configures 4 (config 0x34 (attribute 3 2000 0x1 ∷ []))
    ++ has_value 4 0x1
    ++ ticks 1_000_000 0
    ∷ waits_not 0 4
    ∷ pulls 0 false
    ∷ configures 4 (config 0x134 (attribute 3 3000 0x1 ∷ []))
    ++ has_value 4 0x1
    ++ ticks 3_000_000 0
    ∷ waits_not 0 4
    ∷ has_value 4 0x1
    ++ pulls 0 false
    ∷ configures 4 (config 0x34 [])
    ++ has_value 4 0x0
    ++ ticks 6_000_000 0
    ∷ waits_not 0 4
    ∷ pulls 0 true
    ∷ waits 0 4 (event 6_000_000 1 0 1 1)
    ∷ []

-- Lines 1 and 2 rise, and so does line 3. The request of the two is closed, and they are requested without a period: at the old
-- deadline line 3 alone is an event.
abbrev pub closed : List (Made × Answer)
closed =
    requests_two 0 3 (1 ∷ 2 ∷ []) (config 0x34 (attribute 3 1000 0x3 ∷ [])) 5
    ++ requests 3 (debounced 0x34) 6
    ++ pulls 1 true
    ∷ pulls 2 true
    ∷ pulls 3 true
    ∷ does (Close 5)
    ∷ requests_two 0 3 (1 ∷ 2 ∷ []) (config 0x34 []) 7
    ++ ticks 7_000_000 0
    ∷ waits_not 0 7
    ∷ waits 0 6 (event 7_000_000 1 3 1 1)
    ∷ pulls 2 false
    ∷ waits 0 7 (event 7_000_000 2 2 1 1)
    ∷ does (Close 7)
    ∷ []

-- Line 1, which is high, is requested and falls. Its request is closed, and it is requested with the same period: it has settled
-- low, and at the old deadline nothing happens.
abbrev pub closed_again : List (Made × Answer)
closed_again =
    requests 1 (debounced 0x34) 8
    ++ has_value 8 0x1
    ++ pulls 1 false
    ∷ has_value 8 0x1
    ++ does (Close 8)
    ∷ requests 1 (debounced 0x34) 9
    ++ has_value 9 0x0
    ++ ticks 8_000_000 0
    ∷ waits_not 0 9
    ∷ pulls 1 true
    ∷ ticks 9_000_000 0
    ∷ waits 0 9 (event 9_000_000 1 1 1 1)
    ∷ []

-- A second chip has two lines, which are debounced with 1000 and 2000 microseconds and rise. It is leaving when line 0 settles, and
-- gone at the deadline of its line 1, which is that of the first chip's line 3 too.
abbrev pub gone : List (Made × Answer)
gone =
    (by 0 (Probe (codes "demo") 2 Simulated), says (Number 1))
    ∷ (by 0 (OpenChip (codes "1")), says (Number 10))
    ∷ requests_two 1 10 (0 ∷ 1 ∷ []) (config 0x34 (attribute 3 1000 0x1 ∷ attribute 3 2000 0x2 ∷ [])) 11
    ++ does (Pull 1 0 true)
    ∷ does (Pull 1 1 true)
    ∷ (by 0 (Unplug 1 false), shows (1 ∷ 1 ∷ []))
    ∷ ticks 10_000_000 0
    ∷ waits 1 11 (event 10_000_000 1 0 1 1)
    ∷ pulls 3 false
    ∷ does (Unplug 1 true)
    ∷ ticks 11_000_000 0
    ∷ waits 0 6 (event 11_000_000 2 3 2 2)
    ∷ waits_not 1 11
    ∷ []

abbrev pub exchanges : List (Made × Answer)
exchanges = period_changed ++ closed ++ closed_again ++ gone

unfoldable pub run : List Made
run = four_lines ++ calls_in exchanges

unfoldable pub given : List Answer
given = four_lines_given ++ answers_in exchanges
