-- What the options say, in whatever order they come: each is looked up among the items.
use Rattle.std.specs.Prelude.{ℕ, Bool, false, ◌||◌, List, [], ◌∷◌, find, option_map, Option, Some, None}
use Rattle.std.specs.List.{list_any}
use Rattle.std.specs.Str.{bytes_eq}
use Rattle.gl_args.specs.declared.names.OptionName.{OptionName}
use Rattle.gl_args.specs.Items.{Item}
use Rattle.gl_args.specs.Names.{long_name}

-- options are told apart by their long names
abbrev pub same_option : OptionName → OptionName → Bool
same_option a b = bytes_eq (long_name a) (long_name b)

abbrev pub is_option : OptionName → Option OptionName → Bool
is_option option None = false
is_option option (Some other) = same_option option other

abbrev pub gives : OptionName → Item → Bool
gives option item = is_option option item.option

-- an option is given
abbrev pub has : OptionName → List Item → Bool
has option items = list_any (gives option) items

-- the value of an option, if it is given
abbrev pub value_of : OptionName → List Item → Option (List ℕ)
value_of option items = option_map (λ item. item.text) (find (gives option) items)

-- an item is given again
abbrev pub is_again : Option OptionName → List Item → Bool
is_again None items = false
is_again (Some option) items = has option items

-- an option is given twice
abbrev pub has_twice : List Item → Bool
has_twice [] = false
has_twice (item ∷ items) = is_again item.option items || has_twice items
