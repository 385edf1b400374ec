-- The words of a tool as the tool with its options (libgpiod's manual pages; which options are taken, and what is refused,
-- is this project's choice).
use Rattle.std.specs.Prelude.{ℕ, ◌+◌, ◌^◌, Bool, false, not, ◌&&◌, nat_le, if◌then◌else◌, List, [], ◌∷◌, length, map, is_some, Option, Some, None}
use Rattle.std.specs.List.{list_all}
use Rattle.gl_base.specs.Name.{name_of}
use Rattle.gl_base.specs.declared.flag.TheConstants.{EDGE_RISING, EDGE_FALLING}
use Rattle.gl_args.specs.declared.names.ToolName.{ToolName}
use Rattle.gl_args.specs.declared.names.ToolName.TheVariants.{Detect, Info, Get, Set, Watch, Notify}
use Rattle.gl_args.specs.declared.names.OptionName.{OptionName}
use Rattle.gl_args.specs.declared.names.OptionName.TheVariants.{Chip, ByName, Strict, Unquoted, Numeric, ActiveLow, Bias, Drive, Period, Edges, Event, Count, Format, Consumer}
use Rattle.gl_args.specs.Items.{Item, items_of}
use Rattle.gl_args.specs.LookUps.{has, value_of, has_twice}
use Rattle.gl_args.specs.Names.{tool_text, tool_named}
use Rattle.gl_args.specs.Options.{Options, SaidTool, SaidDetect, SaidInfo, SaidGet, SaidSet, SaidWatch, SaidNotify}
use Rattle.gl_args.specs.Values.{Line, is_short_text, bias_of, drive_of, edges_of, changes_of, period_of, count_of, is_right, line_said}

-- a line word, as a tool takes it: gpiodetect's are chip words
abbrev pub word_is_right : ToolName → List ℕ → Bool
word_is_right Detect word = is_short_text word
word_is_right tool word = is_some (line_said tool word)

abbrev pub is_right_by : ToolName → Option OptionName → List ℕ → Bool
is_right_by tool None text = word_is_right tool text
is_right_by tool (Some option) text = is_right option text

-- an item is right: the option's value, or the line word
abbrev pub item_is_right : ToolName → Item → Bool
item_is_right tool item = is_right_by tool item.option item.text

-- the line words among items
abbrev pub with_line : Option OptionName → List ℕ → List (List ℕ) → List (List ℕ)
with_line None text rest = text ∷ rest
with_line (Some option) text rest = rest

abbrev pub line_words : List Item → List (List ℕ)
line_words [] = []
line_words (item ∷ items) = with_line item.option item.text (line_words items)

-- a tool takes so many line words
abbrev pub is_line_count : ToolName → ℕ → Bool
is_line_count Detect count = nat_le count 16
is_line_count Info count = nat_le count 0
is_line_count _ count = nat_le 1 count && nat_le count 64

-- items are right: each is, no option comes twice, and the number of line words is right
abbrev pub are_right : ToolName → List Item → Bool
are_right tool items = list_all (item_is_right tool) items && (not (has_twice items) && is_line_count tool (length (line_words items)))

abbrev pub right_items : ToolName → Option (List Item) → Option (List Item)
right_items tool None = None
right_items tool (Some items) = if are_right tool items then Some items else None

-- the items of a tool's words, where they are right
abbrev pub right_said : ToolName → List (List ℕ) → Option (List Item)
right_said tool words = right_items tool (items_of tool words)

abbrev pub name_given : Option (List ℕ) → Option (List ℕ)
name_given None = None
name_given (Some text) = name_of text

-- what a value says by a reading of it, or else where there is none
abbrev pub said_or : ℕ → Option ℕ → ℕ
said_or other None = other
said_or other (Some number) = number

abbrev pub read_or : ℕ → (List ℕ → Option ℕ) → Option (List ℕ) → ℕ
read_or other reading None = other
read_or other reading (Some text) = said_or other (reading text)

-- both edges, or all kinds of change, where none is given
abbrev pub edges_given : ToolName → List Item → ℕ
edges_given Notify items = read_or 14 changes_of (value_of Event items)
edges_given _ items = read_or (2 ^ EDGE_RISING + 2 ^ EDGE_FALLING) edges_of (value_of Edges items)

abbrev pub count_given : Option (List ℕ) → Option ℕ
count_given None = None
count_given (Some text) = count_of text

-- the tool's name, where no consumer is given
abbrev pub text_or : List ℕ → Option (List ℕ) → List ℕ
text_or other None = other
text_or other (Some text) = text

abbrev pub consumer_given : ToolName → Option (List ℕ) → List ℕ
consumer_given tool given = text_or (tool_text tool) (name_given given)

abbrev pub line_or_none : Option Line → Line
line_or_none None = ([], false)
line_or_none (Some line) = line

-- the lines that line words say
abbrev pub lines_from : ToolName → List (List ℕ) → List Line
lines_from tool words = map (λ word. line_or_none (line_said tool word)) words

abbrev pub name_or_none : List ℕ → List ℕ
name_or_none text = text_or [] (name_of text)

-- the options that items say; each is looked up
abbrev pub options_of : ToolName → List Item → Options
options_of tool items = record {
  chip = name_given (value_of Chip items);
  by_name = has ByName items;
  strict = has Strict items;
  unquoted = has Unquoted items;
  numeric = has Numeric items;
  active_low = has ActiveLow items;
  bias = read_or 0 bias_of (value_of Bias items);
  drive = read_or 0 drive_of (value_of Drive items);
  edges = edges_given tool items;
  period_us = read_or 0 period_of (value_of Period items);
  count = count_given (value_of Count items);
  format = value_of Format items;
  consumer = consumer_given tool (value_of Consumer items);
  lines = lines_from tool (line_words items);
}

-- the tool of that name that items say
abbrev pub tool_by : ToolName → List Item → SaidTool
tool_by Detect items = SaidDetect (map name_or_none (line_words items))
tool_by Info items = SaidInfo (options_of Info items)
tool_by Get items = SaidGet (options_of Get items)
tool_by Set items = SaidSet (options_of Set items)
tool_by Watch items = SaidWatch (options_of Watch items)
tool_by Notify items = SaidNotify (options_of Notify items)

abbrev pub tool_of : ToolName → Option (List Item) → Option SaidTool
tool_of name None = None
tool_of name (Some items) = Some (tool_by name items)

abbrev pub tool_behind : Option ToolName → List (List ℕ) → Option SaidTool
tool_behind None words = None
tool_behind (Some name) words = tool_of name (right_said name words)

-- the tool that words say, if they are those of a tool: its name first
abbrev pub tool_said : List (List ℕ) → Option SaidTool
tool_said [] = None
tool_said (word ∷ words) = tool_behind (tool_named word) words
