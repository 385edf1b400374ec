use Rattle.std.proofs.Common.{ℕ, ◌≡◌, ◌+◌, ◌-◌, List, ◌++◌, [], length, take, drop, replicate, arith, ap, ◌∙◌, sym, append-nil, length-drop}
use Rattle.std.proofs.lemmas.List.{length-take-le, drop_all, length-replicate}
use Rattle.gl_uapi.specs.Fields.{zeros}
use Rattle.gl_uapi.proofs.Writing.{overwritten_part}
use Rattle.gl_uapi.proofs.fields.put_zeros.Goals as goal

pub returns : goal.returns
unfolding zeros
returns c =
    let a : ℕ = c.args.offset in
    let count : ℕ = c.args.count in
    let old : List ℕ = c.args.out.now in
    let k : ℕ = a + count - a in
    let part : List ℕ = take k (drop a old) in
    let long : length part ≡ k = length-take-le k (drop a old) (omega (arith, length-drop a old)) in
    let same : length part ≡ count = omega arith in
    let piece : length (zeros count) ≡ count = length-replicate count 0 in
    let none : drop (length (zeros count)) part ≡ [] = drop_all (length (zeros count)) part (omega arith) in
    let filled : c.fill.new.self ≡ replicate (length part) 0 = c.fill.ensures.after (λ y h. h) in
    let whole : zeros count ++ drop (length (zeros count)) part ≡ zeros count =
    ap (λ (zs : List ℕ). zeros count ++ zs) none ∙ append-nil (zeros count) in
    let written : c.fill.new.self ≡ zeros count = filled ∙ ap (λ (n : ℕ). replicate n 0) same in
    overwritten_part a k old (zeros count) c.fill.new.self (omega arith) (omega arith) (written ∙ sym whole)
