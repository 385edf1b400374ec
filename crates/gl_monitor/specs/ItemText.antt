-- How a monitor prints an item. The words and the directives follow libgpiod's gpiomon and gpionotify; which directives there
-- are, and how a line is printed, is this project's choice.
use Rattle.gl_args.specs.Options.{Options}
use Rattle.std.specs.Prelude.{ℕ, ◌==◌, Bool, is_some, not, if◌then◌else◌, List, [], ◌∷◌, ◌++◌, find, codes, Option, Some, None}
use Rattle.gl_base.specs.ChipWord.{chip_name, chip_number_of}
use Rattle.gl_base.specs.Decimal.{decimal}
use Rattle.gl_base.specs.Seconds.{seconds_text}
use Rattle.gl_args.specs.declared.names.ToolName.{ToolName}
use Rattle.gl_args.specs.declared.names.ToolName.TheVariants.{Notify}
use Rattle.gl_lines.specs.declared.found_line.FoundLine.{FoundLine}
use Rattle.gl_lines.specs.FoundLines.{place_of}
use Rattle.gl_lines.specs.Texts.{line, quoted}
use Rattle.gl_monitor.specs.declared.item.Item.{Item}

-- the words of edges and of kinds of change, by their numbers in `linux/gpio.h`
abbrev pub event_word : ℕ → List ℕ
event_word id = if id == 1 then codes "rising" else codes "falling"

abbrev pub change_word : ℕ → List ℕ
change_word kind = if kind == 1 then codes "requested" else if kind == 2 then codes "released" else codes "reconfigured"

abbrev pub word_of : ToolName → ℕ → List ℕ
word_of Notify number = change_word number
word_of _ number = event_word number

abbrev pub has_offset : ℕ → FoundLine → Bool
has_offset offset line = line.offset == offset

abbrev pub name_of_line : Option FoundLine → Option (List ℕ)
name_of_line None = None
name_of_line (Some line) = line.name

-- the word by which the line at an offset was found, if it was found by its name
abbrev pub name_at : List FoundLine → ℕ → Option (List ℕ)
name_at found offset = name_of_line (find (has_offset offset) found)

abbrev pub name_or_unnamed : Option (List ℕ) → List ℕ
name_or_unnamed None = codes "unnamed"
name_or_unnamed (Some name) = name

abbrev pub number_or_zero : Option ℕ → ℕ
number_or_zero None = 0
number_or_zero (Some number) = number

abbrev pub number_by : Option (List ℕ) → List FoundLine → ℕ
number_by None found = place_of found
number_by (Some chip) found = number_or_zero (chip_number_of chip)

-- the number of the chip of the lines: by the chip word, or by the place where they were found
abbrev pub number_of_chip : Options → List FoundLine → ℕ
number_of_chip opts found = number_by opts.chip found

-- `CHIP OFFSET`
abbrev pub given_text : Options → List FoundLine → ℕ → List ℕ
given_text opts found offset = chip_name (number_of_chip opts found) ++ (32 ∷ decimal offset)

-- the word of a line that was found by its name, after `CHIP OFFSET` where the chip was named
abbrev pub named_text : Options → List FoundLine → ℕ → List ℕ → List ℕ
named_text opts found offset name =
    if not (is_some opts.chip) then quoted opts.unquoted name else given_text opts found offset ++ (32 ∷ quoted opts.unquoted name)

abbrev pub line_text_by : Options → List FoundLine → ℕ → Option (List ℕ) → List ℕ
line_text_by opts found offset None = given_text opts found offset
line_text_by opts found offset (Some name) = named_text opts found offset name

-- a line as it is printed without a format
abbrev pub line_text : Options → List FoundLine → ℕ → List ℕ
line_text opts found offset = line_text_by opts found offset (name_at found offset)

module _ (tool : ToolName) (opts : Options) (found : List FoundLine) where
  -- what stands for the letter after a percent sign; a pair that isn't here stands for itself
  abbrev pub expansion : Item → ℕ → List ℕ
  expansion item letter =
      if letter == 111 then decimal item.offset
      else if letter == 108 then name_or_unnamed (name_at found item.offset)
      else if letter == 99 then chip_name (number_of_chip opts found)
      else if letter == 101 then decimal item.number
      else if letter == 69 then word_of tool item.number
      else if letter == 83 then seconds_text item.time
      else if letter == 37 then codes "%"
      else 37 ∷ letter ∷ []

  -- an item by a format; a percent sign at the end stands for itself
  abbrev pub formatted : Item → List ℕ → List ℕ
  formatted item [] = []
  formatted item (byte ∷ []) = byte ∷ []
  formatted item (byte ∷ letter ∷ rest) =
      if byte == 37 then expansion item letter ++ formatted item rest else byte ∷ formatted item (letter ∷ rest)

  -- `SECONDS`, a tab, the word of the event, a tab, and the line
  abbrev pub plain_text : Item → List ℕ
  plain_text item = seconds_text item.time ++ (9 ∷ []) ++ word_of tool item.number ++ (9 ∷ []) ++ line_text opts found item.offset

  abbrev pub text_by : Option (List ℕ) → Item → List ℕ
  text_by None item = plain_text item
  text_by (Some format) item = formatted item format

  abbrev pub item_text : Item → List ℕ
  item_text item = text_by opts.format item

  abbrev pub item_line : Item → List ℕ
  item_line item = line (item_text item)

  -- the lines of items
  abbrev pub items_text : List Item → List ℕ
  items_text [] = []
  items_text (item ∷ items) = item_line item ++ items_text items
