-- gpiodetect: it opens, asks and closes each chip, and prints a line for it (libgpiod's manual page; the order of the calls
-- is this project's choice). Without words it tries all places, and passes over those without a chip.
use Rattle.std.specs.Prelude.{ℕ, Bool, if◌then◌else◌, List, [], ◌∷◌, Option, Some, None}
use Rattle.gl_base.specs.declared.errno.Errno.{Errno}
use Rattle.gl_base.specs.declared.operation.Do.TheVariants.{OpenChip, Close}
use Rattle.gl_base.specs.Operation.{refusal, bytes_of}
use Rattle.gl_args.specs.declared.names.ToolName.TheVariants.{Detect as DetectName}
use Rattle.gl_args.specs.Names.{tool_text}
use Rattle.gl_client.specs.Program.{Program, print, ask, Left, goes_on, waits}
use Rattle.gl_lines.specs.Texts.{failed_line}
use Rattle.gl_values.specs.declared.chip.Chip.{Chip}
use Rattle.gl_values.specs.declared.detect.Detect.{Detect}
use Rattle.gl_values.specs.declared.detect.DetectStage.{DetectStage}
use Rattle.gl_values.specs.declared.detect.DetectStage.TheVariants.{Next, Opening, Asking, Closing, Failed, Leaving, Ended}
use Rattle.gl_values.specs.Chips.{chip_told, chip_line, chip_query, ends, is_named_by, leaves, passes_over, words_from}

abbrev pub tool : List ℕ
tool = tool_text DetectName

-- the chip was closed; then comes what follows
abbrev pub closed : Chip → Program (Unit {0}) → Option Errno → Program (Unit {0})
closed chip next (Some errno) = print (failed_line tool errno) ends
closed chip next None = print (chip_line chip) next

abbrev pub told : ℕ → Program (Unit {0}) → Option Chip → Program (Unit {0})
told base next None = leaves base
told base next (Some chip) = ask (Close base) (λ got. closed chip next (refusal got))

-- the chip was asked, and answered these bytes
abbrev pub asked : ℕ → Program (Unit {0}) → Option Errno → List ℕ → Program (Unit {0})
asked base next (Some errno) bytes = print (failed_line tool errno) (leaves base)
asked base next None bytes = told base next (chip_told bytes)

-- the chip was opened, or not
abbrev pub opened : ℕ → Program (Unit {0}) → Bool → Option Errno → Program (Unit {0})
opened base next is_named (Some errno) = if passes_over errno is_named then next else print (failed_line tool errno) ends
opened base next is_named None = ask (chip_query base) (λ got. asked base next (refusal got) (bytes_of got))

-- one chip after the other
abbrev pub chips : ℕ → Bool → List (List ℕ) → Program (Unit {0})
chips base is_named [] = ends
chips base is_named (word ∷ words) = ask (OpenChip base word) (λ got. opened base (chips base is_named words) is_named (refusal got))

-- what is left after the chips before `next`
abbrev pub chips_from : List (List ℕ) → ℕ → ℕ → Program (Unit {0})
chips_from words next base = chips base (is_named_by words) (words_from words next)

-- gpiodetect with these chip words
abbrev pub detects : ℕ → List (List ℕ) → Program (Unit {0})
detects base words = chips_from words 0 base

-- what is left; one line a stage
abbrev pub left_at : List (List ℕ) → ℕ → ℕ → DetectStage → Left (Unit {0})
left_at words next base Next = goes_on (chips_from words next base)
left_at words next base Opening = waits (λ got. opened base (chips_from words next base) (is_named_by words) (refusal got))
left_at words next base Asking = waits (λ got. asked base (chips_from words next base) (refusal got) (bytes_of got))
left_at words next base (Closing chip) = waits (λ got. closed chip (chips_from words next base) (refusal got))
left_at words next base Failed = goes_on (leaves base)
left_at words next base Leaving = waits (λ _. ends)
left_at words next base Ended = goes_on ends

abbrev pub left : Detect → Left (Unit {0})
left d = left_at d.words.items d.next d.base d.stage
