-- A word divided at the last byte of a kind.
use Rattle.std.proofs.Common.{◌≡◌, ℕ, ◌+◌, ◌<◌, cond, List, [], ◌∷◌, ◌++◌, length, get_or, take, drop, None, Some, sym, ap, ◌∙◌, append-nil, eq-eqb}
use Rattle.std.proofs.lemmas.List.{at_drop_more, take-append-drop}
use Rattle.gl_args.specs.Cuts.{divided, divided_behind}

-- bytes in front of divided ones
in_front : (cut : ℕ) (xs ys front rest : List ℕ) → divided cut ys ≡ Some (front, rest) → divided cut (xs ++ ys) ≡ Some (xs ++ front, rest)
in_front cut [] ys front rest e = e
in_front cut (x ∷ xs) ys front rest e = ap (divided_behind cut x (xs ++ ys)) (in_front cut xs ys front rest e)

-- the last byte of its kind stands at a place
pub divided_at : (cut : ℕ) (word : List ℕ) (at : ℕ) → at < length word → get_or word at 0 ≡ cut → divided cut (drop (at + 1) word) ≡ None
    → divided cut word ≡ Some (take at word, drop (at + 1) word)
divided_at cut word at lt here none =
    let rest : List ℕ = drop (at + 1) word in
    let last : divided cut (drop at word) ≡ Some ([], rest) =
    at_drop_more (divided cut) word at 0 lt ∙ ap (divided_behind cut (get_or word at 0) rest) none ∙ ap (λ b. cond b (Some ([], rest)) None) (eq-eqb (get_or word at 0) cut here) in
    ap (divided cut) (sym (take-append-drop at word)) ∙ in_front cut (take at word) (drop at word) [] rest last
    ∙ ap (λ xs. Some (xs, rest)) (append-nil (take at word))
