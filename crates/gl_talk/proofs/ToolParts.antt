-- What a tool's statement costs, and one that starts a tool.
use Rattle.std.proofs.Common.{◌≡◌, ◌≤◌, ◌+◌, ◌*◌, ℕ, zero, suc, Bool, true, false, cond, List, [], ◌∷◌, length, Option, None, Some, refl, sym, ◌∙◌, ap, subst, arith}
use Rattle.std.specs.Prelude.{◌||◌, is_some, find, codes}
use Rattle.std.specs.Str.{bytes_eq}
use Rattle.std.proofs.lemmas.Slice.Eq.{bytes_eq-Decides}
use Rattle.std.specs.List.{list_any}
use Rattle.gl_base.specs.declared.limits.TheConstants.{LINES_MAX, PLACES}
use Rattle.gl_base.specs.Words.{Span}
use Rattle.gl_args.specs.declared.names.ToolName.{ToolName}
use Rattle.gl_args.specs.declared.names.ToolName.TheVariants.{Detect as DetectName, Info as InfoName, Get as GetName, Set as SetName, Watch as WatchName, Notify as NotifyName}
use Rattle.gl_args.specs.declared.names.TheConstants.{TOOLS}
use Rattle.gl_args.specs.Counts.{line_total}
use Rattle.gl_args.specs.Counts.{is_bare as are_bare_texts, is_chip_option as is_chip_text}
use Rattle.gl_args.specs.Items.{Item}
use Rattle.gl_args.specs.Names.{is_named, tool_named, tool_text}
use Rattle.gl_args.specs.Options.{Options, SaidTool, SaidDetect, SaidInfo, SaidGet, SaidSet, SaidWatch, SaidNotify}
use Rattle.gl_args.specs.Tools.{right_said, tool_by, tool_of, tool_behind, tool_said}
use Rattle.gl_args.proofs.LineCounts.{words_few}
use Rattle.gl_args.proofs.ChipOptions.{chip_info}
use Rattle.gl_args.proofs.BareWords.{bare_tool}
use Rattle.gl_monitor.specs.Costs.{monitor_cost}
use Rattle.gl_values.specs.Costs.{tool_cost, held_cost, detect_cost, info_cost}
use Rattle.gl_script.specs.Cost.{is_bare, is_chip_option, start_cost}
use Rattle.gl_script.specs.Cost.{cost}
use Rattle.gl_script.specs.Table.{is_keyword, keyword_name, keyword_of}
use Rattle.gl_script.specs.declared.table.Keyword.{Keyword}
use Rattle.gl_script.specs.declared.table.Keyword.TheVariants.{Detect, Info, Get, Set}
use Rattle.gl_script.specs.declared.table.TheConstants.{KEYWORDS}
use Rattle.gl_talk.specs.ToolWords.{word_texts}

-- the texts of words are as many, and are bare and have a chip's option where the words do
texts_length : (words : List Span) → length (word_texts words) ≡ length words
texts_length [] = refl
texts_length (word ∷ words) = omega (arith, texts_length words)

same_bare : (words : List Span) → is_bare words ≡ are_bare_texts (word_texts words)
same_bare [] = refl
same_bare (word ∷ []) = refl
same_bare (word ∷ next ∷ words) = refl

same_any : (words : List Span) → list_any is_chip_option words ≡ list_any is_chip_text (word_texts words)
same_any [] = refl
same_any (word ∷ words) = ap (λ b. is_chip_option word || b) (same_any words)

few : (first : Span) (words : List Span) (tool : SaidTool) → tool_said (word_texts (first ∷ words)) ≡ Some tool → line_total tool ≤ length words
few first words tool h = omega (arith, words_few (word_texts (first ∷ words)) tool h, texts_length words)

not_bare : (b : Bool) (n : ℕ) → cond b false false ≡ true → n ≤ 1
not_bare true n e = cc
not_bare false n e = cc

bare_short : (words : List Span) → is_bare words ≡ true → length words ≤ 1
bare_short [] e = omega arith
bare_short (word ∷ []) e = omega arith
bare_short (word ∷ next ∷ words) e = not_bare (bytes_eq word.text (codes "--")) (length (word ∷ next ∷ words)) e

detect_if : (n m : ℕ) (bare : Bool) → n ≤ m → (n ≡ 0 → bare ≡ true) → (bare ≡ true → m ≤ 1) → detect_cost n ≤ cond bare (3 * PLACES) (3 * m)
detect_if zero m true le h k = omega arith
detect_if zero m false le h k = let e : false ≡ true = h refl in cc
detect_if (suc n) m true le h k = omega (arith, le, k refl)
detect_if (suc n) m false le h k = omega (arith, le)

info_if : (chip : Option (List ℕ)) (any : Bool) → (any ≡ true → is_some chip ≡ true) → info_cost chip ≤ cond any (LINES_MAX + 3) (PLACES * (LINES_MAX + 3))
info_if None true h = let e : false ≡ true = h refl in cc
info_if None false h = omega arith
info_if (Some chip) true h = omega arith
info_if (Some chip) false h = omega arith

detect_fits : (first : Span) (words : List Span) (tool : SaidTool) (items : Option (List Item)) → tool_of DetectName items ≡ Some tool → tool_said (word_texts (first ∷ words)) ≡ Some tool
    → tool_cost tool ≤ cond (is_bare words) (3 * PLACES) (3 * length words)
detect_fits first words tool None s h = cc
detect_fits first words (SaidDetect names) (Some items) s h =
    detect_if (length names) (length words) (is_bare words) (few first words (SaidDetect names) h)
    (λ e. same_bare words ∙ bare_tool first.text (word_texts words) (SaidDetect names) h e) (bare_short words)
detect_fits first words tool (Some items) s h = cc

info_fits : (first : Span) (words : List Span) (tool : SaidTool) (items : Option (List Item)) → tool_of InfoName items ≡ Some tool → tool_said (word_texts (first ∷ words)) ≡ Some tool
    → tool_cost tool ≤ cond (list_any is_chip_option words) (LINES_MAX + 3) (PLACES * (LINES_MAX + 3))
info_fits first words tool None s h = cc
info_fits first words (SaidInfo opts) (Some items) s h =
    info_if opts.chip (list_any is_chip_option words) (λ e. chip_info first.text (word_texts words) (SaidInfo opts) h tt (sym (same_any words) ∙ e))
info_fits first words tool (Some items) s h = cc

get_fits : (first : Span) (words : List Span) (tool : SaidTool) (items : Option (List Item)) → tool_of GetName items ≡ Some tool → tool_said (word_texts (first ∷ words)) ≡ Some tool
    → tool_cost tool ≤ length words + 7
get_fits first words tool None s h = cc
get_fits first words (SaidGet opts) (Some items) s h =
    omega (arith, few first words (SaidGet opts) h)
get_fits first words tool (Some items) s h = cc

set_fits : (first : Span) (words : List Span) (tool : SaidTool) (items : Option (List Item)) → tool_of SetName items ≡ Some tool → tool_said (word_texts (first ∷ words)) ≡ Some tool
    → tool_cost tool ≤ length words + 5
set_fits first words tool None s h = cc
set_fits first words (SaidSet opts) (Some items) s h =
    omega (arith, few first words (SaidSet opts) h)
set_fits first words tool (Some items) s h = cc

-- what a search finds passes the test
found_if : {X : Type 0} (test : X → Bool) (b : Bool) (x k : X) (rest : Option X) → b ≡ test x → (rest ≡ Some k → test k ≡ true) → cond b (Some x) rest ≡ Some k → test k ≡ true
found_if test true x k rest e h f = let same : x ≡ k = cc in subst (λ y. test y ≡ true) same (sym e)
found_if test false x k rest e h f = h f

found_passes : {X : Type 0} (test : X → Bool) (xs : List X) (k : X) → find test xs ≡ Some k → test k ≡ true
found_passes test [] k e = cc
found_passes test (x ∷ xs) k e = found_if test (test x) x k (find test xs) refl (found_passes test xs k) e

-- a statement's first word is the keyword's
keyword_word : (text : List ℕ) (keyword : Keyword) → keyword_of text ≡ Some keyword → text ≡ keyword_name keyword
keyword_word text keyword e = sym ((bytes_eq-Decides (keyword_name keyword) text).0 (found_passes (is_keyword text) KEYWORDS keyword e))

-- a tool that words say is of the name that their first word is
tool_word : (text : List ℕ) (name : ToolName) → tool_named text ≡ Some name → text ≡ tool_text name
tool_word text name e = sym ((bytes_eq-Decides (tool_text name) text).0 (found_passes (is_named text) TOOLS name e))

-- a tool's statement costs what its words say
pub detect_said : (first : Span) (words : List Span) (tool : SaidTool) → keyword_of first.text ≡ Some Detect → tool_said (word_texts (first ∷ words)) ≡ Some tool → tool_cost tool ≤ cost Detect words
detect_said first words tool e h = detect_fits first words tool _ (subst (λ text. tool_said (text ∷ word_texts words) ≡ Some tool) (keyword_word first.text Detect e) h) h

pub info_said : (first : Span) (words : List Span) (tool : SaidTool) → keyword_of first.text ≡ Some Info → tool_said (word_texts (first ∷ words)) ≡ Some tool → tool_cost tool ≤ cost Info words
info_said first words tool e h = info_fits first words tool _ (subst (λ text. tool_said (text ∷ word_texts words) ≡ Some tool) (keyword_word first.text Info e) h) h

pub get_said : (first : Span) (words : List Span) (tool : SaidTool) → keyword_of first.text ≡ Some Get → tool_said (word_texts (first ∷ words)) ≡ Some tool → tool_cost tool ≤ cost Get words
get_said first words tool e h = get_fits first words tool _ (subst (λ text. tool_said (text ∷ word_texts words) ≡ Some tool) (keyword_word first.text Get e) h) h

pub set_said : (first : Span) (words : List Span) (tool : SaidTool) → keyword_of first.text ≡ Some Set → tool_said (word_texts (first ∷ words)) ≡ Some tool → tool_cost tool ≤ cost Set words
set_said first words tool e h = set_fits first words tool _ (subst (λ text. tool_said (text ∷ word_texts words) ≡ Some tool) (keyword_word first.text Set e) h) h

-- a tool that is started costs what its words say: `first` is the tool's name, and `count` words stand after it
module _ (text : List ℕ) (count : ℕ) where
  set_starts : (opts : Options) → text ≡ tool_text SetName → length opts.lines ≤ count → held_cost (SaidSet opts) ≤ start_cost text count
  set_starts opts e h = subst (λ t. held_cost (SaidSet opts) ≤ start_cost t count) (sym e) (omega (arith, h))

  watch_starts : (opts : Options) → text ≡ tool_text WatchName → length opts.lines ≤ count → monitor_cost (SaidWatch opts) ≤ start_cost text count
  watch_starts opts e h = subst (λ t. monitor_cost (SaidWatch opts) ≤ start_cost t count) (sym e) (omega (arith, h))

  notify_starts : (opts : Options) → text ≡ tool_text NotifyName → length opts.lines ≤ count → monitor_cost (SaidNotify opts) ≤ start_cost text count
  notify_starts opts e h = subst (λ t. monitor_cost (SaidNotify opts) ≤ start_cost t count) (sym e) (omega (arith, h))

-- what a tool costs that is started, and its name
abbrev pub started_cost : SaidTool → ℕ
started_cost (SaidSet opts) = held_cost (SaidSet opts)
started_cost (SaidWatch opts) = monitor_cost (SaidWatch opts)
started_cost (SaidNotify opts) = monitor_cost (SaidNotify opts)
started_cost _ = 0

abbrev name_of : SaidTool → ToolName
name_of (SaidDetect names) = DetectName
name_of (SaidInfo opts) = InfoName
name_of (SaidGet opts) = GetName
name_of (SaidSet opts) = SetName
name_of (SaidWatch opts) = WatchName
name_of (SaidNotify opts) = NotifyName

name_by : (name : ToolName) (items : Option (List Item)) (tool : SaidTool) → tool_of name items ≡ Some tool → name ≡ name_of tool
name_by name None tool e = cc
name_by DetectName (Some items) tool e = let same : tool_by DetectName items ≡ tool = cc in ap name_of same
name_by InfoName (Some items) tool e = let same : tool_by InfoName items ≡ tool = cc in ap name_of same
name_by GetName (Some items) tool e = let same : tool_by GetName items ≡ tool = cc in ap name_of same
name_by SetName (Some items) tool e = let same : tool_by SetName items ≡ tool = cc in ap name_of same
name_by WatchName (Some items) tool e = let same : tool_by WatchName items ≡ tool = cc in ap name_of same
name_by NotifyName (Some items) tool e = let same : tool_by NotifyName items ≡ tool = cc in ap name_of same

started_tool : (tool : SaidTool) (text : List ℕ) (count : ℕ) → text ≡ tool_text (name_of tool) → line_total tool ≤ count → started_cost tool ≤ start_cost text count
started_tool (SaidDetect names) text count e h = omega arith
started_tool (SaidInfo opts) text count e h = omega arith
started_tool (SaidGet opts) text count e h = omega arith
started_tool (SaidSet opts) text count e h = set_starts text count opts e h
started_tool (SaidWatch opts) text count e h = watch_starts text count opts e h
started_tool (SaidNotify opts) text count e h = notify_starts text count opts e h

started_named : (first : Span) (words : List Span) (tool : SaidTool) (name : Option ToolName) → tool_named first.text ≡ name → tool_behind name (word_texts words) ≡ Some tool → line_total tool ≤ length words
    → started_cost tool ≤ start_cost first.text (length words)
started_named first words tool None e s h = cc
started_named first words tool (Some name) e s h =
    started_tool tool first.text (length words) (tool_word first.text name e ∙ ap tool_text (name_by name (right_said name (word_texts words)) tool s)) h

pub started_fits : (first : Span) (words : List Span) (tool : SaidTool) → tool_said (word_texts (first ∷ words)) ≡ Some tool → started_cost tool ≤ start_cost first.text (length words)
started_fits first words tool s = started_named first words tool (tool_named first.text) refl s (few first words tool s)
