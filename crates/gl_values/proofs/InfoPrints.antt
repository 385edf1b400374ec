-- gpioinfo prints whole lines.
use Rattle.std.proofs.Common.{◌≡◌, ◌-◌, min, ℕ, zero, suc, Bool, true, false, cond, ◌&&◌, not, List, [], ◌∷◌, ◌++◌, Option, None, Some, refl}
use Rattle.std.specs.Prelude.{codes, is_some}
use Rattle.gl_base.specs.declared.errno.Errno.{Errno}
use Rattle.gl_base.specs.declared.limits.TheConstants.{LINES_MAX}
use Rattle.gl_base.specs.Decimal.{decimal}
use Rattle.gl_base.specs.Operation.{refusal, bytes_of}
use Rattle.gl_uapi.specs.declared.line_infos.Info.{Info}
use Rattle.gl_args.specs.Options.{Options}
use Rattle.gl_base.specs.TextLines.{ends_lines}
use Rattle.gl_base.proofs.TextLines.{lines_end}
use Rattle.gl_client.specs.Printing.{PrintsLines}
use Rattle.gl_client.specs.Program.{Program, done, print}
use Rattle.gl_lines.specs.Texts.{failed_line}
use Rattle.gl_lines.proofs.FindingPrints.{failed_ended, line_ended}
use Rattle.gl_values.specs.declared.chip.Chip.{Chip}
use Rattle.gl_values.specs.Chips.{chip_head, chip_told, is_absent, to_words, words_from}
use Rattle.gl_values.specs.Info.{asked, chips, closed, info_told, infos, line_read, line_told, lines_from, opened, told_by, tool}
use Rattle.gl_values.specs.InfoText.{left_justified, line_text, name_text, offset_text, words_text}

-- the line of a line, by its parts
words_end : (byte : ℕ) (words : List ℕ) → ends_lines (byte ∷ words ++ (10 ∷ [])) ≡ true
words_end byte [] = refl
words_end byte (next ∷ words) = words_end next words

name_ends : (byte : ℕ) (name words : List ℕ) → ends_lines (byte ∷ name ++ (9 ∷ []) ++ words ++ (10 ∷ [])) ≡ true
name_ends byte [] words = words_end 9 words
name_ends byte (next ∷ name) words = name_ends next name words

parts_end : (byte : ℕ) (front offset name words : List ℕ) → ends_lines (byte ∷ front ++ offset ++ (58 ∷ 9 ∷ []) ++ name ++ (9 ∷ []) ++ words ++ (10 ∷ [])) ≡ true
parts_end byte [] [] name words = name_ends 9 name words
parts_end byte [] (next ∷ offset) name words = parts_end next [] offset name words
parts_end byte (next ∷ front) offset name words = parts_end next front offset name words

line_text_ends : (unquoted : Bool) (offset : ℕ) (info : Info) → ends_lines (line_text unquoted offset info) ≡ true
line_text_ends unquoted offset info = parts_end 9 (codes "line ") (offset_text offset) (left_justified 16 (name_text unquoted info.name)) (words_text unquoted info)

module _ (next : Program (Unit {0})) (later : PrintsLines next) (base : ℕ) (opts : Options) where
  closed_lines : (text : List ℕ) → ends_lines text ≡ true → (r : Option Errno) → PrintsLines (closed next text r)
  closed_lines text e (Some errno) = (failed_ended tool errno, tt)
  closed_lines text e None = (e, later)

  read_lines : (rest : List ℕ → Program (Unit {0})) → ((text : List ℕ) → ends_lines text ≡ true → PrintsLines (rest text)) → (offset : ℕ) (text : List ℕ)
      → ends_lines text ≡ true → (o : Option Info) → PrintsLines (line_read base opts rest offset text o)
  read_lines rest h offset text e None = λ got. tt
  read_lines rest h offset text e (Some info) =
      h (text ++ line_text opts.unquoted offset info) (lines_end text (line_text opts.unquoted offset info) e (line_text_ends opts.unquoted offset info))

  told_lines : (rest : List ℕ → Program (Unit {0})) → ((text : List ℕ) → ends_lines text ≡ true → PrintsLines (rest text)) → (total left : ℕ) (text : List ℕ)
      → ends_lines text ≡ true → (r : Option Errno) (bytes : List ℕ) → PrintsLines (line_told base opts rest total left text r bytes)
  told_lines rest h total left text e (Some errno) bytes = (failed_ended tool errno, λ got. tt)
  told_lines rest h total left text e None bytes = read_lines rest h (total - left - 1) text e (info_told bytes)

  all_lines : (total left : ℕ) (text : List ℕ) → ends_lines text ≡ true → PrintsLines (lines_from base opts next total left text)
  all_lines total zero text e = λ got. closed_lines text e (refusal got)
  all_lines total (suc left) text e = λ got. told_lines (lines_from base opts next total left) (all_lines total left) total left text e (refusal got) (bytes_of got)

  chip_lines : (o : Option Chip) → PrintsLines (told_by base opts next o)
  chip_lines None = λ got. tt
  chip_lines (Some chip) =
      all_lines (min chip.lines LINES_MAX) (min chip.lines LINES_MAX) (chip_head chip) (line_ended (chip.name ++ codes " - " ++ decimal chip.lines ++ codes " lines:"))

  asked_lines : (r : Option Errno) (bytes : List ℕ) → PrintsLines (asked base opts next r bytes)
  asked_lines (Some errno) bytes = (failed_ended tool errno, λ got. tt)
  asked_lines None bytes = chip_lines (chip_told bytes)

  passed_by : (b : Bool) (errno : Errno) → PrintsLines (cond b next (print (failed_line tool errno) (done tt)))
  passed_by true errno = later
  passed_by false errno = (failed_ended tool errno, tt)

  opened_lines : (r : Option Errno) → PrintsLines (opened base opts next r)
  opened_lines (Some errno) = passed_by (is_absent errno && not (is_some opts.chip)) errno
  opened_lines None = λ got. asked_lines (refusal got) (bytes_of got)

chips_lines : (base : ℕ) (opts : Options) (words : List (List ℕ)) → PrintsLines (chips base opts words)
chips_lines base opts [] = tt
chips_lines base opts (word ∷ words) = λ got. opened_lines (chips base opts words) (chips_lines base opts words) base opts (refusal got)

pub infos_lines : (base : ℕ) (opts : Options) → PrintsLines (infos base opts)
infos_lines base opts = chips_lines base opts (words_from (to_words opts.chip) 0)
