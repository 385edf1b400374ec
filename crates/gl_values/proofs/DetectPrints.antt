-- gpiodetect prints whole lines.
use Rattle.std.proofs.Common.{ℕ, Bool, true, false, cond, ◌&&◌, not, List, [], ◌∷◌, ◌++◌, Option, None, Some}
use Rattle.std.specs.Prelude.{codes}
use Rattle.gl_base.specs.declared.errno.Errno.{Errno}
use Rattle.gl_base.specs.Decimal.{decimal}
use Rattle.gl_base.specs.Operation.{refusal, bytes_of}
use Rattle.gl_client.specs.Printing.{PrintsLines}
use Rattle.gl_client.specs.Program.{Program, done, print}
use Rattle.gl_lines.specs.Texts.{failed_line}
use Rattle.gl_lines.proofs.FindingPrints.{failed_ended, line_ended}
use Rattle.gl_values.specs.declared.chip.Chip.{Chip}
use Rattle.gl_values.specs.Chips.{chip_told, is_absent, is_named_by, words_from}
use Rattle.gl_values.specs.Detect.{asked, chips, closed, detects, opened, told, tool}

module _ (next : Program (Unit {0})) (later : PrintsLines next) (base : ℕ) where
  closed_lines : (chip : Chip) (r : Option Errno) → PrintsLines (closed chip next r)
  closed_lines chip (Some errno) = (failed_ended tool errno, tt)
  closed_lines chip None = (line_ended (chip.name ++ codes " [" ++ chip.label ++ codes "] (" ++ decimal chip.lines ++ codes " lines)"), later)

  told_lines : (o : Option Chip) → PrintsLines (told base next o)
  told_lines None = λ got. tt
  told_lines (Some chip) = λ got. closed_lines chip (refusal got)

  asked_lines : (r : Option Errno) (bytes : List ℕ) → PrintsLines (asked base next r bytes)
  asked_lines (Some errno) bytes = (failed_ended tool errno, λ got. tt)
  asked_lines None bytes = told_lines (chip_told bytes)

  passed_by : (b : Bool) (errno : Errno) → PrintsLines (cond b next (print (failed_line tool errno) (done tt)))
  passed_by true errno = later
  passed_by false errno = (failed_ended tool errno, tt)

  opened_lines : (named : Bool) (r : Option Errno) → PrintsLines (opened base next named r)
  opened_lines named (Some errno) = passed_by (is_absent errno && not named) errno
  opened_lines named None = λ got. asked_lines (refusal got) (bytes_of got)

chips_lines : (base : ℕ) (named : Bool) (words : List (List ℕ)) → PrintsLines (chips base named words)
chips_lines base named [] = tt
chips_lines base named (word ∷ words) = λ got. opened_lines (chips base named words) (chips_lines base named words) base named (refusal got)

pub detects_lines : (base : ℕ) (words : List (List ℕ)) → PrintsLines (detects base words)
detects_lines base words = chips_lines base (is_named_by words) (words_from words 0)
