-- The words of a tool as items, in their order. That long options take `=`, that `--` ends the options, and that a
-- value in a word of its own doesn't begin with `-` unless it is `-`: this project's choice, after getopt.
use Rattle.std.specs.Prelude.{ℕ, Bool, true, false, not, ◌&&◌, ◌||◌, ◌==◌, nat_lt, nat_eq, if◌then◌else◌, List, [], ◌∷◌, ◌++◌, length, map, option_map, is_some, codes, Option, Some, None}
use Rattle.std.specs.List.{starts_with}
use Rattle.std.specs.Borrow.{Bor}
use Rattle.std.specs.Str.{bytes_eq}
use Rattle.gl_args.specs.declared.names.ToolName.{ToolName}
use Rattle.gl_args.specs.declared.names.OptionName.{OptionName}
use Rattle.gl_args.specs.declared.items.WordKind.{WordKind}
use Rattle.gl_args.specs.declared.items.WordKind.TheVariants.{Ends, Line, Wrong, Flag, Wants, Holds}
use Rattle.gl_args.specs.declared.items.Item.{Item as LentItem}
use Rattle.gl_args.specs.declared.items.Step.{Step as LentStep}
use Rattle.gl_args.specs.Cuts.{before, behind}
use Rattle.gl_args.specs.Names.{takes_value, long_option, short_option}

-- the texts of words that are lent
abbrev pub texts : List (Bor (List ℕ)) → List (List ℕ)
texts words = map (λ word. word.now) words

-- an option with its value, which is empty where it takes none; or a line word, which has no option
pub record Item : Type 0 where
  pub option : Option OptionName
  pub text : List ℕ

abbrev pub given : OptionName → List ℕ → Item
given option text = record { option = Some option; text = text }

abbrev pub line_word : List ℕ → Item
line_word text = record { option = None; text = text }

abbrev pub begins_with_dash : List ℕ → Bool
begins_with_dash [] = false
begins_with_dash (byte ∷ bytes) = byte == 45

-- a word of two bytes that begins with `-`
abbrev pub looks_short : List ℕ → Bool
looks_short word = begins_with_dash word && nat_eq (length word) 2

-- a long option, and whether `=` stands in its word
abbrev pub long_kind : Option OptionName → Bool → WordKind
long_kind None holds = Wrong
long_kind (Some option) holds =
    if takes_value option then (if holds then Holds option else Wants option) else (if holds then Wrong else Flag option)

abbrev pub short_kind : Option OptionName → WordKind
short_kind None = Wrong
short_kind (Some option) = if takes_value option then Wants option else Flag option

-- what a word is, before `--` and where no value is wanted
abbrev pub kind_of : ToolName → List ℕ → WordKind
kind_of tool word =
    if bytes_eq word (codes "--") then Ends
    else if starts_with nat_eq word (codes "--") then long_kind (long_option tool (before 61 word)) (is_some (behind 61 word))
    else if looks_short word then short_kind (short_option tool word)
    else if begins_with_dash word && nat_lt 2 (length word) then Wrong
    else Line

-- what one word gives: an item or none, whether the options have ended, and an option that wants the next word as its
-- value
pub record Step : Type 0 where
  pub item : Option Item
  pub ended : Bool
  pub wanted : Option OptionName

abbrev pub step : Option Item → Bool → Option OptionName → Step
step item ended wanted = record { item = item; ended = ended; wanted = wanted }

-- a word may be the value of the option before it
abbrev pub is_value : List ℕ → Bool
is_value word = not (begins_with_dash word) || bytes_eq word (codes "-")

abbrev pub text_of : Option (List ℕ) → List ℕ
text_of None = []
text_of (Some text) = text

abbrev pub kind_step : WordKind → List ℕ → Option Step
kind_step Ends word = Some (step None true None)
kind_step Line word = Some (step (Some (line_word word)) false None)
kind_step Wrong word = None
kind_step (Flag option) word = Some (step (Some (given option [])) false None)
kind_step (Wants option) word = Some (step None false (Some option))
kind_step (Holds option) word = Some (step (Some (given option (text_of (behind 61 word)))) false None)

-- what a word gives, after `--` or not, and where an option wants a value or not
abbrev pub step_of : ToolName → List ℕ → Bool → Option OptionName → Option Step
step_of tool word ended (Some option) = if is_value word then Some (step (Some (given option word)) false None) else None
step_of tool word true None = Some (step (Some (line_word word)) true None)
step_of tool word false None = kind_step (kind_of tool word) word

abbrev pub to_list : Option Item → List Item
to_list None = []
to_list (Some item) = item ∷ []

-- items in front of others
abbrev pub with_front : List Item → Option (List Item) → Option (List Item)
with_front front rest = option_map (λ items. front ++ items) rest

abbrev pub behind_step : Option Step → (Bool → Option OptionName → Option (List Item)) → Option (List Item)
behind_step None rest = None
behind_step (Some s) rest = with_front (to_list s.item) (rest s.ended s.wanted)

-- the items of the words that are left; where the last of them wants a value, there are none
abbrev pub reads : ToolName → List (List ℕ) → Bool → Option OptionName → Option (List Item)
reads tool [] ended None = Some []
reads tool [] ended (Some option) = None
reads tool (word ∷ words) ended wanted = behind_step (step_of tool word ended wanted) (reads tool words)

-- the items of a tool's words, if they have some
abbrev pub items_of : ToolName → List (List ℕ) → Option (List Item)
items_of tool words = reads tool words false None

abbrev pub item_in : LentItem → Item
item_in item = record { option = item.option; text = item.text.now }

abbrev pub item_given : Option LentItem → Option Item
item_given None = None
item_given (Some item) = Some (item_in item)

abbrev pub step_in : LentStep → Step
step_in s = record { item = item_given s.item; ended = s.ended; wanted = s.wanted }
