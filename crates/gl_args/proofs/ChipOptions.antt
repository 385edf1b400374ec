-- gpioinfo with a word that names its chip.
use Rattle.std.proofs.Common.{◌≡◌, ℕ, Bool, true, false, cond, not, ◌&&◌, ◌||◌, List, [], ◌∷◌, ◌++◌, length, drop, Option, None, Some, refl, ap, sym, ◌∙◌, arith}
use Rattle.std.specs.Prelude.{codes, find, is_some, nat_eq, nat_le, option_map}
use Rattle.std.specs.List.{starts_with, list_any, list_all}
use Rattle.std.specs.Str.{bytes_eq}
use Rattle.std.proofs.lemmas.Bool.Decides.{Decides-eqb, nat_tests}
use Rattle.std.proofs.lemmas.Slice.Eq.{starts_is, bytes_eq-Decides}
use Rattle.gl_base.specs.Name.{is_name}
use Rattle.gl_args.specs.declared.names.ToolName.{ToolName}
use Rattle.gl_args.specs.declared.names.ToolName.TheVariants.{Detect, Info, Get, Set, Watch, Notify}
use Rattle.gl_args.specs.declared.names.OptionName.{OptionName}
use Rattle.gl_args.specs.declared.names.OptionName.TheVariants.{Chip, ByName, Strict, Unquoted, Numeric, ActiveLow, Bias, Drive, Period, Edges, Event, Count, Format, Consumer}
use Rattle.gl_args.specs.Counts.{is_chip_option, IsInfo, IsChipInfo}
use Rattle.gl_args.specs.Cuts.{before, behind}
use Rattle.gl_args.specs.Items.{Item, Step, given, line_word, text_of, with_front, to_list, behind_step, step, step_of, kind_step, long_kind, is_value, reads, items_of}
use Rattle.gl_args.specs.LookUps.{has, value_of, gives, has_twice}
use Rattle.gl_args.specs.Names.{long_option, tool_named}
use Rattle.gl_args.specs.Options.{Options, SaidTool, SaidInfo}
use Rattle.gl_args.specs.Tools.{line_words, with_line, item_is_right, name_given, right_items, right_said, are_right, options_of, tool_by, tool_of, tool_behind, tool_said}
use Rattle.gl_args.specs.Values.{is_right, is_empty}
use Rattle.gl_args.proofs.Fronts.{no_front}

or_true : (b : Bool) → (b || true) ≡ true
or_true true = refl
or_true false = refl

-- an item in front of others
front_is : (item : Item) (r : Option (List Item)) (items : List Item) → with_front (item ∷ []) r ≡ Some items → (xs : List Item) × (r ≡ Some xs) × (item ∷ xs ≡ items)
front_is item None items e = cc
front_is item (Some xs) items e = (xs, refl, let same : item ∷ xs ≡ items = cc in same)

-- the option of a chip in front
chip_front : (text : List ℕ) (r : Option (List Item)) (items : List Item) → with_front (given Chip text ∷ []) r ≡ Some items → has Chip items ≡ true
chip_front text r items e = let f = front_is (given Chip text) r items e in ap (has Chip) (sym f.2)

-- the option of a chip waits for its value
waits_by : (b : Bool) (word : List ℕ) (words : List (List ℕ)) (items : List Item)
    → behind_step (cond b (Some (step (Some (given Chip word)) false None)) None) (reads Info words) ≡ Some items → has Chip items ≡ true
waits_by true word words items e = chip_front word (reads Info words false None) items e
waits_by false word words items e = cc

chip_waits : (words : List (List ℕ)) (items : List Item) → reads Info words false (Some Chip) ≡ Some items → has Chip items ≡ true
chip_waits [] items e = cc
chip_waits (word ∷ words) items e = waits_by (is_value word) word words items e

-- `-c`
short_chip : (words : List (List ℕ)) (items : List Item) → reads Info (codes "-c" ∷ words) false None ≡ Some items → has Chip items ≡ true
short_chip words items e = chip_waits words items (sym (no_front (reads Info words false (Some Chip))) ∙ e)

-- `--chip` and what stands after it
long_by : (y : List ℕ) (holds : Bool) (word : List ℕ) (words : List (List ℕ)) (items : List Item)
    → behind_step (kind_step (long_kind (long_option Info (codes "--chip" ++ y)) holds) word) (reads Info words) ≡ Some items → has Chip items ≡ true
long_by [] true word words items e = chip_front (text_of (behind 61 word)) (reads Info words false None) items e
long_by [] false word words items e = chip_waits words items (sym (no_front (reads Info words false (Some Chip))) ∙ e)
long_by (z ∷ zs) holds word words items e = cc

long_chip : (rest : List ℕ) (words : List (List ℕ)) (items : List Item) → reads Info ((codes "--chip" ++ rest) ∷ words) false None ≡ Some items → has Chip items ≡ true
long_chip rest words items e = long_by (before 61 rest) (is_some (behind 61 rest)) (codes "--chip" ++ rest) words items e

prefix_of : (word : List ℕ) → starts_with nat_eq word (codes "--chip") ≡ true → word ≡ codes "--chip" ++ drop 6 word
prefix_of word e = (starts_is Decides-eqb word (codes "--chip") (starts_with nat_eq word (codes "--chip")) refl).0 e

same_as : (word : List ℕ) → bytes_eq word (codes "-c") ≡ true → word ≡ codes "-c"
same_as word e = (bytes_eq-Decides word (codes "-c")).0 e

-- a word that names a chip, where an option may stand
names_by : (b c : Bool) (word : List ℕ) (words : List (List ℕ)) (items : List Item) → bytes_eq word (codes "-c") ≡ b → starts_with nat_eq word (codes "--chip") ≡ c
    → (b || c) ≡ true → reads Info (word ∷ words) false None ≡ Some items → has Chip items ≡ true
names_by true c word words items p q h e = short_chip words items (sym (ap (λ w. reads Info (w ∷ words) false None) (same_as word p)) ∙ e)
names_by false true word words items p q h e = long_chip (drop 6 word) words items (sym (ap (λ w. reads Info (w ∷ words) false None) (prefix_of word q)) ∙ e)
names_by false false word words items p q h e = cc

-- it is no value
no_value_by : (b c : Bool) (word : List ℕ) → bytes_eq word (codes "-c") ≡ b → starts_with nat_eq word (codes "--chip") ≡ c → (b || c) ≡ true → is_value word ≡ false
no_value_by true c word p q h = ap is_value (same_as word p)
no_value_by false true word p q h = ap is_value (prefix_of word q)
no_value_by false false word p q h = cc

-- what stands after one word, where no line word stands
behind_item : (o : Option OptionName) (text : List ℕ) (rest : List (List ℕ)) → with_line o text rest ≡ [] → rest ≡ []
behind_item None text rest e = cc
behind_item (Some option) text rest e = e

later_by : (o : Option Item) (r : Option (List Item)) (items : List Item) → with_front (to_list o) r ≡ Some items → line_words items ≡ []
    → ((xs : List Item) → r ≡ Some xs → line_words xs ≡ [] → has Chip xs ≡ true) → has Chip items ≡ true
later_by None r items e none h = h items (sym (no_front r) ∙ e) none
later_by (Some item) r items e none h =
    let f = front_is item r items e in
    let lines : line_words (item ∷ f.0) ≡ [] = ap line_words f.2 ∙ none in
    let there : has Chip f.0 ≡ true = h f.0 f.1 (behind_item item.option item.text (line_words f.0) lines) in
    ap (has Chip) (sym f.2) ∙ ap (λ b. gives Chip item || b) there ∙ or_true (gives Chip item)

later : (o : Option Step) (words : List (List ℕ)) (items : List Item) → behind_step o (reads Info words) ≡ Some items → line_words items ≡ []
    → ((ended : Bool) (wanted : Option OptionName) (xs : List Item) → reads Info words ended wanted ≡ Some xs → line_words xs ≡ [] → has Chip xs ≡ true) → has Chip items ≡ true
later None words items e none h = cc
later (Some s) words items e none h = later_by s.item (reads Info words s.ended s.wanted) items e none (h s.ended s.wanted)

no_line_front : (word : List ℕ) (r : Option (List Item)) (items : List Item) → with_front (line_word word ∷ []) r ≡ Some items → line_words items ≡ [] → ⊥
no_line_front word r items e none =
    let f = front_is (line_word word) r items e in
    let there : word ∷ line_words f.0 ≡ [] = ap line_words f.2 ∙ none in
    cc

valueless : (b : Bool) (option : OptionName) (word : List ℕ) (words : List (List ℕ)) (items : List Item) → b ≡ false
    → behind_step (cond b (Some (step (Some (given option word)) false None)) None) (reads Info words) ≡ Some items → ⊥
valueless true option word words items f e = cc
valueless false option word words items f e = cc

word_by : (b : Bool) (word : List ℕ) (words : List (List ℕ)) (ended : Bool) (wanted : Option OptionName) (items : List Item) → is_chip_option word ≡ b
    → reads Info (word ∷ words) ended wanted ≡ Some items → line_words items ≡ [] → (b || list_any is_chip_option words) ≡ true
    → ((e : Bool) (w : Option OptionName) (xs : List Item) → reads Info words e w ≡ Some xs → line_words xs ≡ [] → list_any is_chip_option words ≡ true → has Chip xs ≡ true) → has Chip items ≡ true
word_by true word words ended (Some option) items p e none any h =
    absurd (valueless (is_value word) option word words items (no_value_by (bytes_eq word (codes "-c")) (starts_with nat_eq word (codes "--chip")) word refl refl p) e)
word_by true word words true None items p e none any h = absurd (no_line_front word (reads Info words true None) items e none)
word_by true word words false None items p e none any h = names_by (bytes_eq word (codes "-c")) (starts_with nat_eq word (codes "--chip")) word words items refl refl p e
word_by false word words ended wanted items p e none any h = later (step_of Info word ended wanted) words items e none (λ e' w xs q r. h e' w xs q r any)

info_reads : (words : List (List ℕ)) (ended : Bool) (wanted : Option OptionName) (items : List Item) → reads Info words ended wanted ≡ Some items → line_words items ≡ []
    → list_any is_chip_option words ≡ true → has Chip items ≡ true
info_reads [] ended wanted items e none any = cc
info_reads (word ∷ words) ended wanted items e none any =
    word_by (is_chip_option word) word words ended wanted items refl e none any (λ e' w xs q r s. info_reads words e' w xs q r s)

-- a right value of the option is a name
value_named : (other : OptionName) (text : List ℕ) → gives Chip (given other text) ≡ true → is_right other text ≡ true → is_name text ≡ true
value_named Chip text g r = second (not (is_empty text)) (is_name text) r
  where
    second : (b c : Bool) → (b && c) ≡ true → c ≡ true
    second true c e = e
    second false c e = cc
value_named ByName text g r = cc
value_named Strict text g r = cc
value_named Unquoted text g r = cc
value_named Numeric text g r = cc
value_named ActiveLow text g r = cc
value_named Bias text g r = cc
value_named Drive text g r = cc
value_named Period text g r = cc
value_named Edges text g r = cc
value_named Event text g r = cc
value_named Count text g r = cc
value_named Format text g r = cc
value_named Consumer text g r = cc

both : (b c : Bool) → (b && c) ≡ true → (b ≡ true) × (c ≡ true)
both true c e = (refl, e)
both false c e = cc

name_there : (b : Bool) (text : List ℕ) → b ≡ true → is_some (cond b (Some text) None) ≡ true
name_there true text e = refl
name_there false text e = cc

item_named : (o : Option OptionName) (text : List ℕ) → gives Chip (record { option = o; text = text }) ≡ true → item_is_right Info (record { option = o; text = text }) ≡ true
    → is_some (name_given (Some text)) ≡ true
item_named None text g r = cc
item_named (Some other) text g r = name_there (is_name text) text (value_named other text g r)

value_by : (b : Bool) (item : Item) (items : List Item) → gives Chip item ≡ b → (b || has Chip items) ≡ true → item_is_right Info item ≡ true
    → (has Chip items ≡ true → is_some (name_given (value_of Chip items)) ≡ true)
    → is_some (name_given (option_map (λ item. item.text) (cond b (Some item) (find (gives Chip) items)))) ≡ true
value_by true item items g any r h = item_named item.option item.text g r
value_by false item items g any r h = h any

value_there : (items : List Item) → has Chip items ≡ true → list_all (item_is_right Info) items ≡ true → is_some (name_given (value_of Chip items)) ≡ true
value_there [] any all = cc
value_there (item ∷ items) any all =
    let parts = both (item_is_right Info item) (list_all (item_is_right Info) items) all in
    value_by (gives Chip item) item items refl any parts.0 (λ there. value_there items there parts.1)

no_lines : (count : ℕ) → nat_le count 0 ≡ true → count ≡ 0
no_lines count e = let t = e in grind (arith, nat_tests)

empty : (xs : List (List ℕ)) → length xs ≡ 0 → xs ≡ []
empty [] e = refl
empty (x ∷ xs) e = absurd (omega arith)

module _ (words : List (List ℕ)) (opts : Options) (any : list_any is_chip_option words ≡ true) where
  by_items : (b : Bool) (items : List Item) → are_right Info items ≡ b → items_of Info words ≡ Some items → tool_of Info (cond b (Some items) None) ≡ Some (SaidInfo opts) → is_some opts.chip ≡ true
  by_items false items right e s = cc
  by_items true items right e s =
      let same : options_of Info items ≡ opts = cc in
      let all = both (list_all (item_is_right Info) items) (not (has_twice items) && nat_le (length (line_words items)) 0) right in
      let few = both (not (has_twice items)) (nat_le (length (line_words items)) 0) all.1 in
      let none : line_words items ≡ [] = empty (line_words items) (no_lines (length (line_words items)) few.1) in
      sym (ap (λ (o : Options). is_some o.chip) same) ∙ value_there items (info_reads words false None items e none any) all.0

  by_said : (o : Option (List Item)) → items_of Info words ≡ o → tool_of Info (right_items Info o) ≡ Some (SaidInfo opts) → is_some opts.chip ≡ true
  by_said None e s = cc
  by_said (Some items) e s = by_items (are_right Info items) items refl e s

  other_by : (name : ToolName) (o : Option (List Item)) → ((items : List Item) → tool_by name items ≡ SaidInfo opts → ⊥) → tool_of name o ≡ Some (SaidInfo opts) → ⊥
  other_by name None h s = cc
  other_by name (Some items) h s = h items (let same : tool_by name items ≡ SaidInfo opts = cc in same)

  by_name : (o : Option ToolName) → tool_behind o words ≡ Some (SaidInfo opts) → is_some opts.chip ≡ true
  by_name None s = cc
  by_name (Some Info) s = by_said (items_of Info words) refl s
  by_name (Some Detect) s = absurd (other_by Detect (right_said Detect words) (λ items h. cc) s)
  by_name (Some Get) s = absurd (other_by Get (right_said Get words) (λ items h. cc) s)
  by_name (Some Set) s = absurd (other_by Set (right_said Set words) (λ items h. cc) s)
  by_name (Some Watch) s = absurd (other_by Watch (right_said Watch words) (λ items h. cc) s)
  by_name (Some Notify) s = absurd (other_by Notify (right_said Notify words) (λ items h. cc) s)

pub chip_info : (word : List ℕ) (words : List (List ℕ)) (tool : SaidTool) → tool_said (word ∷ words) ≡ Some tool → IsInfo tool → list_any is_chip_option words ≡ true → IsChipInfo tool
chip_info word words (SaidInfo opts) s is any = by_name words opts any (tool_named word) s
chip_info word words _ s is any = absurd is
