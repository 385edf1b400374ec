use Rattle.std.proofs.Common.{◌≡◌, ◌+◌, ◌-◌, List, ℕ, length, length-drop, take, drop, ap, sym, ◌∙◌, arith, Some, None}
use Rattle.std.proofs.lemmas.List.{take_all}
use Rattle.gl_args.specs.Cuts.{divided}
use Rattle.gl_args.proofs.Divided.{divided_at}
use Rattle.gl_args.proofs.cuts.divide.Goals as goal

pub returns-then-word-end : goal.returns-then-word-end
returns-then-word-end c =
    let word : List ℕ = c.args.word.now in
    let at : ℕ = c.loop-end.end - 1 in
    let next : c.loop-end.end ≡ at + 1 = omega arith in
    let none : divided c.args.byte (drop (at + 1) word) ≡ None = ap (λ n. divided c.args.byte (drop n word)) (sym next) ∙ c.loop-end.invariant.0 in
    let whole : take (length word - (at + 1)) (drop (at + 1) word) ≡ drop (at + 1) word = take_all (length word - (at + 1)) (drop (at + 1) word) (omega (arith, length-drop (at + 1) word)) in
    divided_at c.args.byte word at (omega arith) c.if-word-end.true none ∙ ap (λ xs. Some (take at word, xs)) (sym whole)
