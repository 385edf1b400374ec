-- A step of a loop that writes a text, and of one that reads a source.
use Rattle.std.proofs.Common.{◌≡◌, ◌+◌, ℕ, List, ◌++◌, Err, take, drop, Option, None, Result, Some, sym, ◌∙◌, ap, subst, append_assoc}
use Rattle.std.proofs.Math.Seq.{take-add}
use Rattle.std.specs.Io.KnownBytes.{Appends, Consumes}
use Rattle.gl_session.specs.declared.streams.ReadError.{ReadError}
use Rattle.gl_session.specs.declared.streams.ReadError.TheVariants.{Fault, NoMemory}

appends_more : (a b c : Option (List ℕ)) (xs ys : List ℕ) → Appends a b xs → Appends b c ys → Appends a c (xs ++ ys)
appends_more None b c xs ys p q = tt
appends_more (Some a) None c xs ys p q = absurd p
appends_more (Some a) (Some b) None xs ys p q = absurd q
appends_more (Some a) (Some b) (Some c) xs ys p q = q ∙ ap (λ l. l ++ ys) p ∙ append_assoc a xs ys

-- one more piece of a text was written
pub appends_next : (a b c : Option (List ℕ)) (text rest : List ℕ) (at n : ℕ) → Appends a b (take at text) → Appends b c (take n rest) → rest ≡ drop at text →
    Appends a c (take (at + n) text)
appends_next a b c text rest at n p q e =
    let joined : take (at + n) text ≡ take at text ++ take n rest = take-add at n text ∙ ap (λ l. take at text ++ take n l) (sym e) in
    subst (λ l. Appends a c l) (sym joined) (appends_more a b c (take at text) (take n rest) p q)

-- more of the first bytes were read
pub consumes_more : (a b c : Option (List ℕ)) (xs ys : List ℕ) → Consumes a b xs → Consumes b c ys → Consumes a c (xs ++ ys)
consumes_more None b c xs ys p q = tt
consumes_more (Some a) None c xs ys p q = absurd p
consumes_more (Some a) (Some b) None xs ys p q = absurd q
consumes_more (Some a) (Some b) (Some c) xs ys p q = p ∙ ap (λ l. xs ++ l) q ∙ sym (append_assoc xs ys c)

-- being out of memory is no fault of reading
pub full_is_no_fault : {T : Type 0} {result : Result T ReadError} → result ≡ Err NoMemory → result ≡ Err Fault → ⊥
full_is_no_fault full fault = let both = sym full ∙ fault in cc
