-- What gpioget and gpioset cost, and all four tools.
use Rattle.std.proofs.Common.{◌+◌, ◌-◌, ℕ, List, length, Option, None, Some, refl, arith}
use Rattle.gl_base.specs.declared.errno.Errno.{Errno}
use Rattle.gl_base.specs.Operation.{refusal, bytes_of}
use Rattle.gl_args.specs.declared.names.ToolName.TheVariants.{Get as GetName, Set as SetName}
use Rattle.gl_args.specs.Options.{Options, SaidTool, SaidDetect, SaidInfo, SaidGet, SaidSet, SaidWatch, SaidNotify}
use Rattle.gl_client.specs.Program.{Program, done}
use Rattle.gl_client.specs.Costs.{CostsAtMost}
use Rattle.gl_client.proofs.Costs.{costs_more, costs_then}
use Rattle.gl_lines.specs.declared.found_line.FoundLine.{FoundLine}
use Rattle.gl_lines.specs.Finding.{finds}
use Rattle.gl_lines.proofs.FindingCosts.{finds_requesting}
use Rattle.gl_values.specs.declared.set.Hold.{Hold}
use Rattle.gl_values.specs.declared.set.Hold.TheVariants.{No, Yes}
use Rattle.gl_values.specs.Client.{holding_nothing, tool_program, held_program}
use Rattle.gl_values.specs.Costs.{detect_cost, info_cost, tool_cost, held_cost}
use Rattle.gl_values.specs.Detect.{detects}
use Rattle.gl_values.specs.Info.{infos}
use Rattle.gl_values.specs.Get.{closed, asked, get, gets}
use Rattle.gl_values.specs.Set.{Held, behind, sets, closes, stops}
use Rattle.gl_values.specs.Set.{closed as set_closed}
use Rattle.gl_values.proofs.DetectCosts.{detects_within}
use Rattle.gl_values.proofs.InfoCosts.{infos_within}

got_closed : (n : ℕ) (opts : Options) (bits : ℕ) (r : Option Errno) → CostsAtMost n (closed opts bits r)
got_closed n opts bits (Some errno) = tt
got_closed n opts bits None = tt

got_asked : (n made : ℕ) (opts : Options) (r : Option Errno) (bytes : List ℕ) → CostsAtMost n (asked made opts r bytes)
got_asked n made opts (Some errno) bytes = (omega arith, λ got. tt)
got_asked n made opts None bytes = (omega arith, λ got. got_closed (n - 0) opts _ (refusal got))

get_within : (made : ℕ) (opts : Options) (o : Option (List FoundLine)) → CostsAtMost 2 (get made opts o)
get_within made opts None = tt
get_within made opts (Some found) = (omega arith, λ got. got_asked (2 - 2) made opts (refusal got) (bytes_of got))

gets_within : (base made : ℕ) (opts : Options) → CostsAtMost (length opts.lines + 7) (gets base made opts)
gets_within base made opts =
    costs_more (gets base made opts) (length opts.lines + 5 + 2) (length opts.lines + 7) (omega arith)
    (costs_then (finds GetName base made opts) (get made opts) (length opts.lines + 5) 2 (finds_requesting GetName base made opts refl) (get_within made opts))

set_closed_within : (n : ℕ) (r : Option Errno) → CostsAtMost n (set_closed r)
set_closed_within n (Some errno) = tt
set_closed_within n None = tt

closes_within : (made : ℕ) → CostsAtMost 0 (closes made)
closes_within made = (omega arith, λ got. set_closed_within (0 - 0) (refusal got))

behind_within : (hold : Hold) (made : ℕ) (o : Option (List FoundLine)) → CostsAtMost 0 (behind hold made o)
behind_within hold made None = tt
behind_within No made (Some found) = closes_within made
behind_within Yes made (Some found) = tt

sets_within : (hold : Hold) (base made : ℕ) (opts : Options) → CostsAtMost (length opts.lines + 5) (sets hold base made opts)
sets_within hold base made opts =
    costs_more (sets hold base made opts) (length opts.lines + 5 + 0) (length opts.lines + 5) (omega arith)
    (costs_then (finds SetName base made opts) (behind hold made) (length opts.lines + 5) 0 (finds_requesting SetName base made opts refl) (behind_within hold made))

holding_within : (p : Program (Unit {0})) (n : ℕ) → CostsAtMost n p → CostsAtMost n (holding_nothing p)
holding_within p n h = costs_more (holding_nothing p) (n + 0) n (omega arith) (costs_then p (λ _. done None) n 0 h (λ value. tt))

pub tool_within : (tool : SaidTool) (base : ℕ) → CostsAtMost (tool_cost tool) (tool_program tool base)
tool_within (SaidDetect words) base = holding_within (detects base words) (detect_cost (length words)) (detects_within base words)
tool_within (SaidInfo opts) base = holding_within (infos base opts) (info_cost opts.chip) (infos_within base opts)
tool_within (SaidGet opts) base = holding_within (gets base (base + 1) opts) (length opts.lines + 7) (gets_within base (base + 1) opts)
tool_within (SaidSet opts) base = sets_within No base (base + 1) opts
tool_within (SaidWatch opts) base = tt
tool_within (SaidNotify opts) base = tt

pub held_within : (tool : SaidTool) (base : ℕ) → CostsAtMost (held_cost tool) (held_program tool base)
held_within (SaidDetect words) base = tt
held_within (SaidInfo opts) base = tt
held_within (SaidGet opts) base = tt
held_within (SaidSet opts) base = sets_within Yes base (base + 1) opts
held_within (SaidWatch opts) base = tt
held_within (SaidNotify opts) base = tt

pub stops_within : (held : Held) → CostsAtMost 0 (stops held)
stops_within None = tt
stops_within (Some slot) = closes_within slot
