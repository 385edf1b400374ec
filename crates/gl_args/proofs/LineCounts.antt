-- A tool has at most as many line words as words.
use Rattle.std.proofs.Common.{◌≡◌, ◌≤◌, ◌+◌, refl, ℕ, suc, Bool, true, false, cond, List, [], ◌∷◌, ◌++◌, length, length-append, Option, None, Some, ap, arith}
use Rattle.std.proofs.lemmas.List.{length-map}
use Rattle.gl_args.specs.declared.names.ToolName.{ToolName}
use Rattle.gl_args.specs.declared.names.ToolName.TheVariants.{Detect, Info, Get, Set, Watch, Notify}
use Rattle.gl_args.specs.declared.names.OptionName.{OptionName}
use Rattle.gl_args.specs.Counts.{line_total}
use Rattle.gl_args.specs.Items.{Item, Step, with_front, behind_step, to_list, step_of, reads, items_of}
use Rattle.gl_args.specs.Names.{tool_named}
use Rattle.gl_args.specs.Options.{SaidTool}
use Rattle.gl_args.specs.Tools.{line_words, with_line, name_or_none, line_or_none, right_items, are_right, options_of, tool_by, tool_of, tool_behind, tool_said}
use Rattle.gl_args.specs.Values.{line_said}

length-to_list : (o : Option Item) → length (to_list o) ≤ 1
length-to_list None = omega arith
length-to_list (Some item) = omega arith

front_few : (front : List Item) (r : Option (List Item)) (items : List Item) (n : ℕ) → length front ≤ 1 → ((xs : List Item) → r ≡ Some xs → length xs ≤ n)
    → with_front front r ≡ Some items → length items ≤ suc n
front_few front None items n one h e = cc
front_few front (Some xs) items n one h e =
    let same : front ++ xs ≡ items = cc in
    omega (arith, one, h xs refl, length-append front xs, ap length same)

step_few : (o : Option Step) (rest : Bool → Option OptionName → Option (List Item)) (items : List Item) (n : ℕ)
    → ((ended : Bool) (wanted : Option OptionName) (xs : List Item) → rest ended wanted ≡ Some xs → length xs ≤ n) → behind_step o rest ≡ Some items → length items ≤ suc n
step_few None rest items n h e = cc
step_few (Some s) rest items n h e = front_few (to_list s.item) (rest s.ended s.wanted) items n (length-to_list s.item) (h s.ended s.wanted) e

reads_few : (tool : ToolName) (words : List (List ℕ)) (ended : Bool) (wanted : Option OptionName) (items : List Item) → reads tool words ended wanted ≡ Some items
    → length items ≤ length words
reads_few tool [] ended None items e =
    let same : [] ≡ items = cc in
    omega (arith, ap length same)
reads_few tool [] ended (Some option) items e = cc
reads_few tool (word ∷ words) ended wanted items e =
    step_few (step_of tool word ended wanted) (reads tool words) items (length words) (λ ended' wanted' xs e'. reads_few tool words ended' wanted' xs e') e

line_few : (option : Option OptionName) (text : List ℕ) (rest : List (List ℕ)) → length (with_line option text rest) ≤ suc (length rest)
line_few None text rest = omega arith
line_few (Some option) text rest = omega arith

lines_few : (items : List Item) → length (line_words items) ≤ length items
lines_few [] = omega arith
lines_few (item ∷ items) = omega (arith, line_few item.option item.text (line_words items), lines_few items)

opts_few : (name : ToolName) (items : List Item) → length (options_of name items).lines ≤ length items
opts_few name items = omega (arith, length-map (line_words items) (λ word. line_or_none (line_said name word)), lines_few items)

tool_few : (name : ToolName) (items : List Item) → line_total (tool_by name items) ≤ length items
tool_few Detect items = omega (arith, length-map (line_words items) name_or_none, lines_few items)
tool_few Info items = opts_few Info items
tool_few Get items = opts_few Get items
tool_few Set items = opts_few Set items
tool_few Watch items = opts_few Watch items
tool_few Notify items = opts_few Notify items

right_few : (b : Bool) (items : List Item) (name : ToolName) (tool : SaidTool) (n : ℕ) → length items ≤ n → tool_of name (cond b (Some items) None) ≡ Some tool → line_total tool ≤ n
right_few true items name tool n le h =
    let same : tool_by name items ≡ tool = cc in
    omega (arith, le, tool_few name items, ap line_total same)
right_few false items name tool n le h = cc

said_few : (name : ToolName) (o : Option (List Item)) (tool : SaidTool) (n : ℕ) → ((items : List Item) → o ≡ Some items → length items ≤ n)
    → tool_of name (right_items name o) ≡ Some tool → line_total tool ≤ n
said_few name None tool n h s = cc
said_few name (Some items) tool n h s = right_few (are_right name items) items name tool n (h items refl) s

behind_few : (o : Option ToolName) (words : List (List ℕ)) (tool : SaidTool) → tool_behind o words ≡ Some tool → line_total tool ≤ length words
behind_few None words tool s = cc
behind_few (Some name) words tool s = said_few name (items_of name words) tool (length words) (λ items e. reads_few name words false None items e) s

pub words_few : (words : List (List ℕ)) (tool : SaidTool) → tool_said words ≡ Some tool → line_total tool + 1 ≤ length words
words_few [] tool s = cc
words_few (word ∷ words) tool s = omega (arith, behind_few (tool_named word) words tool s)
