-- gpiodetect without chip words.
use Rattle.std.proofs.Common.{◌≡◌, ℕ, Bool, true, false, cond, ◌&&◌, List, [], ◌∷◌, length, map, Option, None, Some, refl, ap, sym, ◌∙◌, arith}
use Rattle.std.specs.Prelude.{find, codes, is_some, nat_lt, nat_eq}
use Rattle.std.specs.List.{starts_with}
use Rattle.std.specs.Str.{bytes_eq}
use Rattle.std.proofs.lemmas.List.{length-map}
use Rattle.gl_args.specs.declared.names.ToolName.{ToolName}
use Rattle.gl_args.specs.declared.names.ToolName.TheVariants.{Detect, Info, Get, Set, Watch, Notify}
use Rattle.gl_args.specs.declared.names.OptionName.{OptionName}
use Rattle.gl_args.specs.declared.names.OptionName.TheVariants.{Chip, ByName, Strict, Unquoted, Numeric, ActiveLow, Bias, Drive, Period, Edges, Event, Count, Format, Consumer}
use Rattle.gl_args.specs.declared.names.TheConstants.{OPTIONS}
use Rattle.gl_args.specs.declared.items.WordKind.TheVariants.{Ends, Line, Wrong}
use Rattle.gl_args.specs.Counts.{are_none, is_bare, IsBareDetect}
use Rattle.gl_args.specs.Cuts.{before, behind}
use Rattle.gl_args.specs.Items.{Item, line_word, with_front, behind_step, kind_step, long_kind, short_kind, looks_short, begins_with_dash, reads, items_of}
use Rattle.gl_args.specs.Names.{has_option, is_long, is_short, long_name, short_name, long_option, short_option, tool_named}
use Rattle.gl_args.specs.Options.{SaidTool, SaidDetect}
use Rattle.gl_args.specs.Tools.{line_words, name_or_none, right_items, right_said, are_right, tool_by, tool_of, tool_behind, tool_said}
use Rattle.gl_args.proofs.Fronts.{no_front}

and_no : (b : Bool) → (b && false) ≡ false
and_no true = refl
and_no false = refl

find_none : (test : OptionName → Bool) (options : List OptionName) → ((o : OptionName) → test o ≡ false) → find test options ≡ None
find_none test [] h = refl
find_none test (o ∷ os) h = ap (λ b. cond b (Some o) (find test os)) (h o) ∙ find_none test os h

has_none : (o : OptionName) → has_option Detect o ≡ false
has_none Chip = refl
has_none ByName = refl
has_none Strict = refl
has_none Unquoted = refl
has_none Numeric = refl
has_none ActiveLow = refl
has_none Bias = refl
has_none Drive = refl
has_none Period = refl
has_none Edges = refl
has_none Event = refl
has_none Count = refl
has_none Format = refl
has_none Consumer = refl

no_long : (name : List ℕ) → long_option Detect name ≡ None
no_long name = find_none (is_long Detect name) OPTIONS (λ o. ap (λ b. bytes_eq (long_name o) name && b) (has_none o) ∙ and_no (bytes_eq (long_name o) name))

no_short : (name : List ℕ) → short_option Detect name ≡ None
no_short name = find_none (is_short Detect name) OPTIONS (λ o. ap (λ b. bytes_eq (short_name o) name && b) (has_none o) ∙ and_no (bytes_eq (short_name o) name))

-- a line word in front isn't none
line_front : (word : List ℕ) (r : Option (List Item)) (items : List Item) → with_front (line_word word ∷ []) r ≡ Some items → line_words items ≡ [] → ⊥
line_front word None items e none = cc
line_front word (Some xs) items e none =
    let same : line_word word ∷ xs ≡ items = cc in
    let there : word ∷ line_words xs ≡ [] = ap line_words same ∙ none in
    cc

ended_none : (words : List (List ℕ)) (items : List Item) → reads Detect words true None ≡ Some items → line_words items ≡ [] → are_none words ≡ true
ended_none [] items e none = refl
ended_none (word ∷ words) items e none = absurd (line_front word (reads Detect words true None) items e none)

bare_by : (b c d f holds : Bool) (long short : Option OptionName) (word : List ℕ) (words : List (List ℕ)) (items : List Item) → long ≡ None → short ≡ None
    → behind_step (kind_step (cond b Ends (cond c (long_kind long holds) (cond d (short_kind short) (cond f Wrong Line)))) word) (reads Detect words) ≡ Some items
    → line_words items ≡ [] → cond b (are_none words) false ≡ true
bare_by true c d f holds long short word words items l s e none = ended_none words items (sym (no_front (reads Detect words true None)) ∙ e) none
bare_by false true d f holds None short word words items l s e none = cc
bare_by false true d f holds (Some o) short word words items l s e none = cc
bare_by false false true f holds long None word words items l s e none = cc
bare_by false false true f holds long (Some o) word words items l s e none = cc
bare_by false false false true holds long short word words items l s e none = cc
bare_by false false false false holds long short word words items l s e none = absurd (line_front word (reads Detect words false None) items e none)

bare_words : (words : List (List ℕ)) (items : List Item) → items_of Detect words ≡ Some items → line_words items ≡ [] → is_bare words ≡ true
bare_words [] items e none = refl
bare_words (word ∷ words) items e none =
    bare_by (bytes_eq word (codes "--")) (starts_with nat_eq word (codes "--")) (looks_short word) (begins_with_dash word && nat_lt 2 (length word)) (is_some (behind 61 word))
    (long_option Detect (before 61 word)) (short_option Detect word) word words items (no_long (before 61 word)) (no_short word) e none

nothing : (xs : List (List ℕ)) → length xs ≡ 0 → xs ≡ []
nothing [] e = refl
nothing (x ∷ xs) e = absurd (omega arith)

none_said : (items : List Item) (names : List (List ℕ)) → length names ≡ 0 → map name_or_none (line_words items) ≡ names → line_words items ≡ []
none_said items names none e = nothing (line_words items) (sym (length-map (line_words items) name_or_none) ∙ ap length e ∙ none)

module _ (words names : List (List ℕ)) (none : length names ≡ 0) where
  by_items : (b : Bool) (items : List Item) → items_of Detect words ≡ Some items → tool_of Detect (cond b (Some items) None) ≡ Some (SaidDetect names) → is_bare words ≡ true
  by_items false items e s = cc
  by_items true items e s =
      let same : map name_or_none (line_words items) ≡ names = cc in
      bare_words words items e (none_said items names none same)

  by_said : (o : Option (List Item)) → items_of Detect words ≡ o → tool_of Detect (right_items Detect o) ≡ Some (SaidDetect names) → is_bare words ≡ true
  by_said None e s = cc
  by_said (Some items) e s = by_items (are_right Detect items) items e s

  other_by : (name : ToolName) (o : Option (List Item)) → ((items : List Item) → tool_by name items ≡ SaidDetect names → ⊥) → tool_of name o ≡ Some (SaidDetect names) → ⊥
  other_by name None h s = cc
  other_by name (Some items) h s = h items (let same : tool_by name items ≡ SaidDetect names = cc in same)

  by_name : (o : Option ToolName) → tool_behind o words ≡ Some (SaidDetect names) → is_bare words ≡ true
  by_name None s = cc
  by_name (Some Detect) s = by_said (items_of Detect words) refl s
  by_name (Some Info) s = absurd (other_by Info (right_said Info words) (λ items h. cc) s)
  by_name (Some Get) s = absurd (other_by Get (right_said Get words) (λ items h. cc) s)
  by_name (Some Set) s = absurd (other_by Set (right_said Set words) (λ items h. cc) s)
  by_name (Some Watch) s = absurd (other_by Watch (right_said Watch words) (λ items h. cc) s)
  by_name (Some Notify) s = absurd (other_by Notify (right_said Notify words) (λ items h. cc) s)

pub bare_tool : (word : List ℕ) (words : List (List ℕ)) (tool : SaidTool) → tool_said (word ∷ words) ≡ Some tool → IsBareDetect tool → is_bare words ≡ true
bare_tool word words (SaidDetect names) s none = by_name words names none (tool_named word) s
bare_tool word words _ s none = absurd none
