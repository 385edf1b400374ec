-- gpioget and gpioset print whole lines, and all four tools.
use Rattle.std.proofs.Common.{◌+◌, ℕ, List, Option, None, Some}
use Rattle.gl_base.specs.declared.errno.Errno.{Errno}
use Rattle.gl_base.specs.Operation.{refusal, bytes_of}
use Rattle.gl_args.specs.declared.names.ToolName.TheVariants.{Get as GetName, Set as SetName}
use Rattle.gl_args.specs.Options.{Options, SaidTool, SaidDetect, SaidInfo, SaidGet, SaidSet, SaidWatch, SaidNotify}
use Rattle.gl_client.specs.Printing.{PrintsLines}
use Rattle.gl_client.specs.Program.{Program, done}
use Rattle.gl_client.proofs.Printing.{prints_then}
use Rattle.gl_lines.specs.declared.found_line.FoundLine.{FoundLine}
use Rattle.gl_lines.specs.Finding.{finds}
use Rattle.gl_lines.proofs.FindingPrints.{failed_ended, finds_lines, line_ended}
use Rattle.gl_values.specs.declared.set.Hold.{Hold}
use Rattle.gl_values.specs.declared.set.Hold.TheVariants.{No, Yes}
use Rattle.gl_values.specs.Client.{held_program, holding_nothing, tool_program}
use Rattle.gl_values.specs.Detect.{detects}
use Rattle.gl_values.specs.Get.{asked, bits_in, closed, get, gets, tool}
use Rattle.gl_values.specs.GetText.{values_text}
use Rattle.gl_values.specs.Info.{infos}
use Rattle.gl_values.specs.Set.{Held, behind, closes, sets, stops}
use Rattle.gl_values.specs.Set.{closed as set_closed, tool as set_tool}
use Rattle.gl_values.proofs.DetectPrints.{detects_lines}
use Rattle.gl_values.proofs.InfoPrints.{infos_lines}

got_closed : (opts : Options) (bits : ℕ) (r : Option Errno) → PrintsLines (closed opts bits r)
got_closed opts bits (Some errno) = (failed_ended tool errno, tt)
got_closed opts bits None = (line_ended (values_text opts bits 0 opts.lines), tt)

got_asked : (made : ℕ) (opts : Options) (r : Option Errno) (bytes : List ℕ) → PrintsLines (asked made opts r bytes)
got_asked made opts (Some errno) bytes = (failed_ended tool errno, λ got. tt)
got_asked made opts None bytes = λ got. got_closed opts (bits_in bytes) (refusal got)

get_lines : (made : ℕ) (opts : Options) (o : Option (List FoundLine)) → PrintsLines (get made opts o)
get_lines made opts None = tt
get_lines made opts (Some found) = λ got. got_asked made opts (refusal got) (bytes_of got)

gets_lines : (base made : ℕ) (opts : Options) → PrintsLines (gets base made opts)
gets_lines base made opts = prints_then (finds GetName base made opts) (get made opts) (finds_lines GetName base made opts) (get_lines made opts)

set_closed_lines : (r : Option Errno) → PrintsLines (set_closed r)
set_closed_lines (Some errno) = (failed_ended set_tool errno, tt)
set_closed_lines None = tt

closes_lines : (made : ℕ) → PrintsLines (closes made)
closes_lines made = λ got. set_closed_lines (refusal got)

behind_lines : (hold : Hold) (made : ℕ) (o : Option (List FoundLine)) → PrintsLines (behind hold made o)
behind_lines hold made None = tt
behind_lines No made (Some found) = closes_lines made
behind_lines Yes made (Some found) = tt

sets_lines : (hold : Hold) (base made : ℕ) (opts : Options) → PrintsLines (sets hold base made opts)
sets_lines hold base made opts = prints_then (finds SetName base made opts) (behind hold made) (finds_lines SetName base made opts) (behind_lines hold made)

holding_lines : (p : Program (Unit {0})) → PrintsLines p → PrintsLines (holding_nothing p)
holding_lines p h = prints_then p (λ _. done None) h (λ value. tt)

pub tool_lines : (tool : SaidTool) (base : ℕ) → PrintsLines (tool_program tool base)
tool_lines (SaidDetect words) base = holding_lines (detects base words) (detects_lines base words)
tool_lines (SaidInfo opts) base = holding_lines (infos base opts) (infos_lines base opts)
tool_lines (SaidGet opts) base = holding_lines (gets base (base + 1) opts) (gets_lines base (base + 1) opts)
tool_lines (SaidSet opts) base = sets_lines No base (base + 1) opts
tool_lines (SaidWatch opts) base = tt
tool_lines (SaidNotify opts) base = tt

pub held_lines : (tool : SaidTool) (base : ℕ) → PrintsLines (held_program tool base)
held_lines (SaidDetect words) base = tt
held_lines (SaidInfo opts) base = tt
held_lines (SaidGet opts) base = tt
held_lines (SaidSet opts) base = sets_lines Yes base (base + 1) opts
held_lines (SaidWatch opts) base = tt
held_lines (SaidNotify opts) base = tt

pub stops_lines : (held : Held) → PrintsLines (stops held)
stops_lines None = tt
stops_lines (Some slot) = closes_lines slot
