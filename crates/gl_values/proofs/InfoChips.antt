-- gpioinfo asks for no chip over requests.
use Rattle.std.proofs.Common.{◌-◌, min, ℕ, zero, suc, Bool, true, false, cond, ◌&&◌, not, List, [], ◌∷◌, ◌++◌, Option, None, Some}
use Rattle.std.specs.Prelude.{is_some}
use Rattle.gl_base.specs.declared.errno.Errno.{Errno}
use Rattle.gl_base.specs.declared.limits.TheConstants.{LINES_MAX}
use Rattle.gl_base.specs.Operation.{refusal, bytes_of}
use Rattle.gl_uapi.specs.declared.line_infos.Info.{Info}
use Rattle.gl_args.specs.Options.{Options}
use Rattle.gl_client.specs.Chips.{AsksNoChips}
use Rattle.gl_client.specs.Program.{Program, done, print}
use Rattle.gl_lines.specs.Texts.{failed_line}
use Rattle.gl_values.specs.declared.chip.Chip.{Chip}
use Rattle.gl_values.specs.Chips.{chip_head, chip_told, is_absent, to_words, words_from}
use Rattle.gl_values.specs.Info.{asked, chips, closed, info_told, infos, line_read, line_told, lines_from, opened, told_by, tool}
use Rattle.gl_values.specs.InfoText.{line_text}

module _ (next : Program (Unit {0})) (later : AsksNoChips next) (base : ℕ) (opts : Options) where
  closed_none : (text : List ℕ) (r : Option Errno) → AsksNoChips (closed next text r)
  closed_none text (Some errno) = tt
  closed_none text None = later

  read_none : (rest : List ℕ → Program (Unit {0})) → ((text : List ℕ) → AsksNoChips (rest text)) → (offset : ℕ) (text : List ℕ) (o : Option Info) → AsksNoChips (line_read base opts rest offset text o)
  read_none rest h offset text None = (tt, λ got. tt)
  read_none rest h offset text (Some info) = h (text ++ line_text opts.unquoted offset info)

  told_none : (rest : List ℕ → Program (Unit {0})) → ((text : List ℕ) → AsksNoChips (rest text)) → (total left : ℕ) (text : List ℕ) (r : Option Errno) (bytes : List ℕ)
      → AsksNoChips (line_told base opts rest total left text r bytes)
  told_none rest h total left text (Some errno) bytes = (tt, λ got. tt)
  told_none rest h total left text None bytes = read_none rest h (total - left - 1) text (info_told bytes)

  all_none : (total left : ℕ) (text : List ℕ) → AsksNoChips (lines_from base opts next total left text)
  all_none total zero text = (tt, λ got. closed_none text (refusal got))
  all_none total (suc left) text = (tt, λ got. told_none (lines_from base opts next total left) (all_none total left) total left text (refusal got) (bytes_of got))

  chip_none : (o : Option Chip) → AsksNoChips (told_by base opts next o)
  chip_none None = (tt, λ got. tt)
  chip_none (Some chip) = all_none (min chip.lines LINES_MAX) (min chip.lines LINES_MAX) (chip_head chip)

  asked_none : (r : Option Errno) (bytes : List ℕ) → AsksNoChips (asked base opts next r bytes)
  asked_none (Some errno) bytes = (tt, λ got. tt)
  asked_none None bytes = chip_none (chip_told bytes)

  passed_by : (b : Bool) (errno : Errno) → AsksNoChips (cond b next (print (failed_line tool errno) (done tt)))
  passed_by true errno = later
  passed_by false errno = tt

  opened_none : (r : Option Errno) → AsksNoChips (opened base opts next r)
  opened_none (Some errno) = passed_by (is_absent errno && not (is_some opts.chip)) errno
  opened_none None = (tt, λ got. asked_none (refusal got) (bytes_of got))

chips_none : (base : ℕ) (opts : Options) (words : List (List ℕ)) → AsksNoChips (chips base opts words)
chips_none base opts [] = tt
chips_none base opts (word ∷ words) = (tt, λ got. opened_none (chips base opts words) (chips_none base opts words) base opts (refusal got))

pub infos_none : (base : ℕ) (opts : Options) → AsksNoChips (infos base opts)
infos_none base opts = chips_none base opts (words_from (to_words opts.chip) 0)
