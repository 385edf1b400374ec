-- gpioget and gpioset ask for no chip over requests, and none of the four tools does.
use Rattle.std.proofs.Common.{◌+◌, ℕ, List, Option, None, Some}
use Rattle.gl_base.specs.declared.errno.Errno.{Errno}
use Rattle.gl_base.specs.Operation.{refusal, bytes_of}
use Rattle.gl_args.specs.declared.names.ToolName.TheVariants.{Get as GetName, Set as SetName}
use Rattle.gl_args.specs.Options.{Options, SaidTool, SaidDetect, SaidInfo, SaidGet, SaidSet, SaidWatch, SaidNotify}
use Rattle.gl_client.specs.Chips.{AsksNoChips}
use Rattle.gl_client.specs.Program.{Program, done}
use Rattle.gl_client.proofs.Chips.{asks_then}
use Rattle.gl_lines.specs.declared.found_line.FoundLine.{FoundLine}
use Rattle.gl_lines.specs.Finding.{finds}
use Rattle.gl_lines.proofs.FindingChips.{finds_none}
use Rattle.gl_values.specs.declared.set.Hold.{Hold}
use Rattle.gl_values.specs.declared.set.Hold.TheVariants.{No, Yes}
use Rattle.gl_values.specs.Client.{held_program, holding_nothing, tool_program}
use Rattle.gl_values.specs.Detect.{detects}
use Rattle.gl_values.specs.Get.{asked, bits_in, closed, get, gets, tool}
use Rattle.gl_values.specs.Info.{infos}
use Rattle.gl_values.specs.Set.{Held, behind, closes, sets, stops}
use Rattle.gl_values.specs.Set.{closed as set_closed, tool as set_tool}
use Rattle.gl_values.proofs.DetectChips.{detects_none}
use Rattle.gl_values.proofs.InfoChips.{infos_none}

got_closed : (opts : Options) (bits : ℕ) (r : Option Errno) → AsksNoChips (closed opts bits r)
got_closed opts bits (Some errno) = tt
got_closed opts bits None = tt

got_asked : (made : ℕ) (opts : Options) (r : Option Errno) (bytes : List ℕ) → AsksNoChips (asked made opts r bytes)
got_asked made opts (Some errno) bytes = (tt, λ got. tt)
got_asked made opts None bytes = (tt, λ got. got_closed opts (bits_in bytes) (refusal got))

get_none : (made : ℕ) (opts : Options) (o : Option (List FoundLine)) → AsksNoChips (get made opts o)
get_none made opts None = tt
get_none made opts (Some found) = (tt, λ got. got_asked made opts (refusal got) (bytes_of got))

gets_none : (base made : ℕ) (opts : Options) → AsksNoChips (gets base made opts)
gets_none base made opts = asks_then (finds GetName base made opts) (get made opts) (finds_none GetName base made opts) (get_none made opts)

set_closed_none : (r : Option Errno) → AsksNoChips (set_closed r)
set_closed_none (Some errno) = tt
set_closed_none None = tt

closes_none : (made : ℕ) → AsksNoChips (closes made)
closes_none made = (tt, λ got. set_closed_none (refusal got))

behind_none : (hold : Hold) (made : ℕ) (o : Option (List FoundLine)) → AsksNoChips (behind hold made o)
behind_none hold made None = tt
behind_none No made (Some found) = closes_none made
behind_none Yes made (Some found) = tt

sets_none : (hold : Hold) (base made : ℕ) (opts : Options) → AsksNoChips (sets hold base made opts)
sets_none hold base made opts = asks_then (finds SetName base made opts) (behind hold made) (finds_none SetName base made opts) (behind_none hold made)

holding_none : (p : Program (Unit {0})) → AsksNoChips p → AsksNoChips (holding_nothing p)
holding_none p h = asks_then p (λ _. done None) h (λ value. tt)

pub tool_none : (tool : SaidTool) (base : ℕ) → AsksNoChips (tool_program tool base)
tool_none (SaidDetect words) base = holding_none (detects base words) (detects_none base words)
tool_none (SaidInfo opts) base = holding_none (infos base opts) (infos_none base opts)
tool_none (SaidGet opts) base = holding_none (gets base (base + 1) opts) (gets_none base (base + 1) opts)
tool_none (SaidSet opts) base = sets_none No base (base + 1) opts
tool_none (SaidWatch opts) base = tt
tool_none (SaidNotify opts) base = tt

pub held_none : (tool : SaidTool) (base : ℕ) → AsksNoChips (held_program tool base)
held_none (SaidDetect words) base = tt
held_none (SaidInfo opts) base = tt
held_none (SaidGet opts) base = tt
held_none (SaidSet opts) base = sets_none Yes base (base + 1) opts
held_none (SaidWatch opts) base = tt
held_none (SaidNotify opts) base = tt

pub stops_none : (held : Held) → AsksNoChips (stops held)
stops_none None = tt
stops_none (Some slot) = closes_none slot
