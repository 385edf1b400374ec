-- A step of a loop that writes a text, and of one that reads a source.
use Rattle.std.proofs.Common.{◌≡◌, ◌+◌, ℕ, List, ◌++◌, take, drop, Option, None, Some, [], refl, sym, ◌∙◌, ap, subst, append_assoc}
use Rattle.std.proofs.Math.Seq.{take-add}
use Rattle.std.proofs.lemmas.List.{append-nil}
use Rattle.std.specs.Io.KnownBytes.{Appends, Consumes, Keeps}

pub appends_more : (a b c : Option (List ℕ)) (xs ys : List ℕ) → Appends a b xs → Appends b c ys → Appends a c (xs ++ ys)
appends_more None b c xs ys p q = tt
appends_more (Some a) None c xs ys p q = absurd p
appends_more (Some a) (Some b) None xs ys p q = absurd q
appends_more (Some a) (Some b) (Some c) xs ys p q = q ∙ ap (λ l. l ++ ys) p ∙ append_assoc a xs ys

-- one more piece of a text was written
pub appends_next : (a b c : Option (List ℕ)) (text rest : List ℕ) (at n : ℕ) → Appends a b (take at text) → Appends b c (take n rest) → rest ≡ drop at text →
    Appends a c (take (at + n) text)
appends_next a b c text rest at n p q e =
    let joined : take (at + n) text ≡ take at text ++ take n rest = take-add at n text ∙ ap (λ l. take at text ++ take n l) (sym e) in
    subst (λ l. Appends a c l) (sym joined) (appends_more a b c (take at text) (take n rest) p q)

-- more of the first bytes were read
pub consumes_nothing : (a : Option (List ℕ)) → Consumes a a []
consumes_nothing None = tt
consumes_nothing (Some a) = refl

pub appends_nothing : (a : Option (List ℕ)) → Appends a a []
appends_nothing None = tt
appends_nothing (Some a) = sym (append-nil a)

pub consumes_more : (a b c : Option (List ℕ)) (xs ys : List ℕ) → Consumes a b xs → Consumes b c ys → Consumes a c (xs ++ ys)
consumes_more None b c xs ys p q = tt
consumes_more (Some a) None c xs ys p q = absurd p
consumes_more (Some a) (Some b) None xs ys p q = absurd q
consumes_more (Some a) (Some b) (Some c) xs ys p q = p ∙ ap (λ l. xs ++ l) q ∙ sym (append_assoc xs ys c)

-- nothing more was read
pub consumes_kept : (a b c : Option (List ℕ)) (xs : List ℕ) → Consumes a b xs → Keeps b c → Consumes a c xs
consumes_kept None b c xs p q = tt
consumes_kept (Some a) None c xs p q = absurd p
consumes_kept (Some a) (Some b) None xs p q = absurd q
consumes_kept (Some a) (Some b) (Some c) xs p q = p ∙ ap (λ l. xs ++ l) (sym q)
