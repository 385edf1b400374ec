-- Items in front of others.
use Rattle.std.proofs.Common.{◌≡◌, ℕ, ◌+◌, ◌<◌, Bool, List, [], ◌++◌, length, get_or, drop, Option, None, Some, refl, sym, ap, ◌∙◌, append_assoc}
use Rattle.std.specs.Borrow.{Bor}
use Rattle.std.proofs.lemmas.List.{at_drop_more}
use Rattle.gl_args.specs.declared.names.ToolName.{ToolName}
use Rattle.gl_args.specs.declared.names.OptionName.{OptionName}
use Rattle.gl_args.specs.Items.{Item, Step, texts, with_front, behind_step, step_of, to_list, reads}

pub front_of_front : (xs ys : List Item) (rest : Option (List Item)) → with_front (xs ++ ys) rest ≡ with_front xs (with_front ys rest)
front_of_front xs ys None = refl
front_of_front xs ys (Some items) = ap Some (append_assoc xs ys items)

pub no_front : (rest : Option (List Item)) → with_front [] rest ≡ rest
no_front None = refl
no_front (Some items) = refl

pub ruleset fronts = (front_of_front, no_front)

-- one word more
pub one_more : (tool : ToolName) (words : List (Bor (List ℕ))) (i : ℕ) (d : Bor (List ℕ)) (ended : Bool) (wanted : Option OptionName) (s : Step) → i < length words
    → Some s ≡ step_of tool (get_or words i d).now ended wanted
    → reads tool (texts (drop i words)) ended wanted ≡ with_front (to_list s.item) (reads tool (texts (drop (i + 1) words)) s.ended s.wanted)
one_more tool words i d ended wanted s lt e =
    at_drop_more (λ ws. reads tool (texts ws) ended wanted) words i d lt ∙ ap (λ st. behind_step st (reads tool (texts (drop (i + 1) words)))) (sym e)
