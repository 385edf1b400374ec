-- gpioinfo: it opens the chip of `-c` or the chips of all places, asks each and each of its lines, closes it, and then prints
-- its text (libgpiod's manual page; the order of the calls is this project's choice). Without `-c` places without a chip are
-- passed over.
use Rattle.std.specs.Prelude.{ℕ, zero, suc, ◌-◌, min, nat_le, is_some, if◌then◌else◌, List, [], ◌∷◌, ◌++◌, length, take, Option, Some, None}
use Rattle.gl_base.specs.declared.command.TheConstants.{GET_LINEINFO}
use Rattle.gl_base.specs.declared.errno.Errno.{Errno}
use Rattle.gl_base.specs.declared.limits.TheConstants.{LINES_MAX}
use Rattle.gl_base.specs.declared.operation.Do.TheVariants.{OpenChip, Ioctl, Close}
use Rattle.gl_base.specs.Operation.{refusal, bytes_of}
use Rattle.gl_uapi.specs.declared.layout.TheConstants.{LINE_INFO_SIZE}
use Rattle.gl_uapi.specs.declared.line_infos.Info.{Info}
use Rattle.gl_uapi.specs.LineInfo.{info_in}
use Rattle.gl_args.specs.declared.names.ToolName.TheVariants.{Info as InfoName}
use Rattle.gl_args.specs.Names.{tool_text}
use Rattle.gl_args.specs.Options.{options_in, Options}
use Rattle.gl_client.specs.Program.{Program, print, ask, Left, goes_on, waits}
use Rattle.gl_lines.specs.Bytes.{info_sent}
use Rattle.gl_lines.specs.Texts.{failed_line}
use Rattle.gl_values.specs.declared.chip.Chip.{Chip}
use Rattle.gl_values.specs.declared.info.InfoTool.{InfoTool}
use Rattle.gl_values.specs.declared.info.InfoStage.{InfoStage}
use Rattle.gl_values.specs.declared.info.InfoStage.TheVariants.{Next, Opening, Asking, Line, Closing, Failed, Leaving, Ended}
use Rattle.gl_values.specs.Chips.{chip_told, chip_head, chip_query, ends, leaves, passes_over, words_from, to_words}
use Rattle.gl_values.specs.InfoText.{line_text}

abbrev pub tool : List ℕ
tool = tool_text InfoName

-- the information that bytes tell, where there are enough of them
abbrev pub info_told : List ℕ → Option Info
info_told bytes = if nat_le LINE_INFO_SIZE (length bytes) then Some (info_in (take LINE_INFO_SIZE bytes)) else None

-- the chip was closed: its text is printed, and then comes what follows
abbrev pub closed : Program (Unit {0}) → List ℕ → Option Errno → Program (Unit {0})
closed next text (Some errno) = print (failed_line tool errno) ends
closed next text None = print text next

module _ (base : ℕ) (opts : Options) where
  abbrev pub line_read : (List ℕ → Program (Unit {0})) → ℕ → List ℕ → Option Info → Program (Unit {0})
  line_read rest offset text None = leaves base
  line_read rest offset text (Some info) = rest (text ++ line_text opts.unquoted offset info)

  -- the line before the last `left` of `total` was asked; rest goes on with the chip's text
  abbrev pub line_told : (List ℕ → Program (Unit {0})) → ℕ → ℕ → List ℕ → Option Errno → List ℕ → Program (Unit {0})
  line_told rest total left text (Some errno) bytes = print (failed_line tool errno) (leaves base)
  line_told rest total left text None bytes = line_read rest (total - left - 1) text (info_told bytes)

  -- the last lines of so many are asked, after the chip's text so far
  abbrev pub lines_from : Program (Unit {0}) → ℕ → ℕ → List ℕ → Program (Unit {0})
  lines_from next total zero text = ask (Close base) (λ got. closed next text (refusal got))
  lines_from next total (suc left) text =
      ask (Ioctl base GET_LINEINFO 256 (info_sent (total - left - 1)) 0) (λ got. line_told (lines_from next total left) total left text (refusal got) (bytes_of got))

  -- the chip told of itself; a chip has at most `LINES_MAX` lines
  abbrev pub told : Program (Unit {0}) → Chip → Program (Unit {0})
  told next chip = lines_from next (min chip.lines LINES_MAX) (min chip.lines LINES_MAX) (chip_head chip)

  abbrev pub told_by : Program (Unit {0}) → Option Chip → Program (Unit {0})
  told_by next None = leaves base
  told_by next (Some chip) = told next chip

  -- the chip was asked, and answered these bytes
  abbrev pub asked : Program (Unit {0}) → Option Errno → List ℕ → Program (Unit {0})
  asked next (Some errno) bytes = print (failed_line tool errno) (leaves base)
  asked next None bytes = told_by next (chip_told bytes)

  -- the chip was opened, or not
  abbrev pub opened : Program (Unit {0}) → Option Errno → Program (Unit {0})
  opened next (Some errno) = if passes_over errno (is_some opts.chip) then next else print (failed_line tool errno) ends
  opened next None = ask (chip_query base) (λ got. asked next (refusal got) (bytes_of got))

  -- one chip after the other
  abbrev pub chips : List (List ℕ) → Program (Unit {0})
  chips [] = ends
  chips (word ∷ words) = ask (OpenChip base word) (λ got. opened (chips words) (refusal got))

  -- what is left after the chips before `next`
  abbrev pub chips_from : ℕ → Program (Unit {0})
  chips_from next = chips (words_from (to_words opts.chip) next)

  -- gpioinfo
  abbrev pub infos : Program (Unit {0})
  infos = chips_from 0

-- what is left; one line a stage
abbrev pub left_at : ℕ → Options → ℕ → ℕ → ℕ → List ℕ → InfoStage → Left (Unit {0})
left_at base opts next total left text Next = goes_on (chips_from base opts next)
left_at base opts next total left text Opening = waits (λ got. opened base opts (chips_from base opts next) (refusal got))
left_at base opts next total left text Asking = waits (λ got. asked base opts (chips_from base opts next) (refusal got) (bytes_of got))
left_at base opts next total left text Line = waits (λ got. line_told base opts (lines_from base opts (chips_from base opts next) total left) total left text (refusal got) (bytes_of got))
left_at base opts next total left text Closing = waits (λ got. closed (chips_from base opts next) text (refusal got))
left_at base opts next total left text Failed = goes_on (leaves base)
left_at base opts next total left text Leaving = waits (λ _. ends)
left_at base opts next total left text Ended = goes_on ends

abbrev pub info_left : InfoTool → Left (Unit {0})
info_left i = left_at i.base (options_in i.opts) i.next i.total i.left i.text i.stage
