-- The commands on a chip file that ask no driver, from `linux/gpio.h` and the kernel's document on the GPIO character
-- device. Which refusal comes first is this project's choice.
use Rattle.std.specs.Prelude.{ℕ, Bool, true, false, not, nat_le, List, [], ◌∷◌, Option}
use Rattle.gl_base.specs.ChipWord.{chip_name}
use Rattle.gl_base.specs.Refusals.{first_of, when}
use Rattle.gl_base.specs.Rows.{change_first}
use Rattle.gl_base.specs.declared.errno.Errno.{Errno}
use Rattle.gl_base.specs.declared.errno.Errno.TheVariants.{Inval}
use Rattle.gl_registry.specs.Chips.{chip_at}
use Rattle.gl_uapi.specs.ChipInfo.{chip_bytes}
use Rattle.gl_uapi.specs.Fields.{is_zero_at, number_at, number_bytes}
use Rattle.gl_uapi.specs.LineInfo.{info_bytes}
use Rattle.gl_uapi.specs.declared.layout.TheConstants.{INFO_OFFSET, INFO_PADDING, INFO_PADDING_SIZE}
use Rattle.gl_watch.specs.Files.{file_at, is_file, unwatch_refusal, watch_refusal, with_watch}
use Rattle.gl_model.specs.Information.{info_of, line_at}
use Rattle.gl_model.specs.Outcome.{Outcome, refused_or, writes}
use Rattle.gl_model.specs.Places.{lines_at, place_at}
use Rattle.gl_model.specs.World.{World}

-- GET_CHIPINFO: the chip's name, its label and its number of lines
abbrev pub get_chip_info : ℕ → World → Outcome
get_chip_info place w = writes (chip_bytes (chip_name place) (chip_at w.chips place).label (lines_at w place)) w

-- the offset that a line's information, as it was handed in, names
abbrev pub offset_named : List ℕ → ℕ
offset_named bytes = number_at 4 INFO_OFFSET bytes

-- why the information on a line is refused, first case first: the padding isn't zero; the chip has no such line
abbrev pub info_refusal : ℕ → List ℕ → World → Option Errno
info_refusal place bytes w = first_of
    (when (not (is_zero_at INFO_PADDING INFO_PADDING_SIZE bytes)) Inval
    ∷ when (nat_le (lines_at w place) (offset_named bytes)) Inval
    ∷ [])

-- the information on a line is written
abbrev pub write_info : ℕ → ℕ → World → Outcome
write_info place offset w = writes (info_bytes (info_of offset (line_at (place_at w place) offset))) w

-- GET_LINEINFO
abbrev pub get_line_info : ℕ → List ℕ → World → Outcome
get_line_info place bytes w = refused_or (info_refusal place bytes w) w (write_info place (offset_named bytes) w)

-- the world in which a chip file watches a line, or doesn't
abbrev pub with_watched : ℕ → ℕ → Bool → World → World
with_watched fd offset watch w = record w { files = change_first (is_file fd) (with_watch offset watch) w.files }

-- GET_LINEINFO_WATCH: refused besides where this file watches the line; the file watches it from now on, and its
-- information is written
abbrev pub watch_line : ℕ → ℕ → List ℕ → World → Outcome
watch_line place fd bytes w =
    refused_or (first_of (info_refusal place bytes w ∷ watch_refusal (offset_named bytes) (file_at fd w.files) ∷ [])) w
    (write_info place (offset_named bytes) (with_watched fd (offset_named bytes) true w))

-- GET_LINEINFO_UNWATCH, whose structure is the offset alone: refused where the chip has no such line, or where this file
-- doesn't watch it; the file watches it no more, and the offset is written, as it was handed in
abbrev pub unwatch_line : ℕ → ℕ → List ℕ → World → Outcome
unwatch_line place fd bytes w =
    let offset = number_at 4 0 bytes in
    refused_or (first_of (when (nat_le (lines_at w place) offset) Inval ∷ unwatch_refusal offset (file_at fd w.files) ∷ [])) w
    (writes (number_bytes 4 offset) (with_watched fd offset false w))
