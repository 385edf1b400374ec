-- gpiodetect asks for no chip over requests.
use Rattle.std.proofs.Common.{ℕ, Bool, true, false, cond, ◌&&◌, not, List, [], ◌∷◌, ◌++◌, Option, None, Some}
use Rattle.gl_base.specs.declared.errno.Errno.{Errno}
use Rattle.gl_base.specs.Operation.{refusal, bytes_of}
use Rattle.gl_client.specs.Chips.{AsksNoChips}
use Rattle.gl_client.specs.Program.{Program, done, print}
use Rattle.gl_lines.specs.Texts.{failed_line}
use Rattle.gl_values.specs.declared.chip.Chip.{Chip}
use Rattle.gl_values.specs.Chips.{chip_told, is_absent, is_named_by, words_from}
use Rattle.gl_values.specs.Detect.{asked, chips, closed, detects, opened, told, tool}

module _ (next : Program (Unit {0})) (later : AsksNoChips next) (base : ℕ) where
  closed_none : (chip : Chip) (r : Option Errno) → AsksNoChips (closed chip next r)
  closed_none chip (Some errno) = tt
  closed_none chip None = later

  told_none : (o : Option Chip) → AsksNoChips (told base next o)
  told_none None = (tt, λ got. tt)
  told_none (Some chip) = (tt, λ got. closed_none chip (refusal got))

  asked_none : (r : Option Errno) (bytes : List ℕ) → AsksNoChips (asked base next r bytes)
  asked_none (Some errno) bytes = (tt, λ got. tt)
  asked_none None bytes = told_none (chip_told bytes)

  passed_by : (b : Bool) (errno : Errno) → AsksNoChips (cond b next (print (failed_line tool errno) (done tt)))
  passed_by true errno = later
  passed_by false errno = tt

  opened_none : (named : Bool) (r : Option Errno) → AsksNoChips (opened base next named r)
  opened_none named (Some errno) = passed_by (is_absent errno && not named) errno
  opened_none named None = (tt, λ got. asked_none (refusal got) (bytes_of got))

chips_none : (base : ℕ) (named : Bool) (words : List (List ℕ)) → AsksNoChips (chips base named words)
chips_none base named [] = tt
chips_none base named (word ∷ words) = (tt, λ got. opened_none (chips base named words) (chips_none base named words) base named (refusal got))

pub detects_none : (base : ℕ) (words : List (List ℕ)) → AsksNoChips (detects base words)
detects_none base words = chips_none base (is_named_by words) (words_from words 0)
