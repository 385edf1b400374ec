-- A name is read back from its field.
use Rattle.std.proofs.Common.{ℕ, zero, suc, Bool, true, false, cond, ◌≡◌, ◌+◌, ◌-◌, ◌≤◌, ◌&&◌, List, [], ◌∷◌, ◌++◌, length, take, replicate, refl, ap, ◌∙◌, IsTrue, arith, length-append}
use Rattle.std.proofs.Math.Numerals.{one-add}
use Rattle.std.specs.Prelude.{nat_le}
use Rattle.std.specs.List.{list_all, prefix_len, take_while}
use Rattle.std.proofs.lemmas.Bool.{leb-true}
use Rattle.std.proofs.lemmas.List.{length-replicate}
use Rattle.gl_base.specs.Name.{field_of, is_name, is_nonzero, name_in}

both : (a b : Bool) → (a && b) ≡ true → (a ≡ true) × (b ≡ true)
both true b e = (refl, e)
both false b e = cc

one_more : (x : ℕ) (ys : List ℕ) (b : Bool) (n : ℕ) → b ≡ true → take (cond b (1 + n) 0) (x ∷ ys) ≡ x ∷ take n ys
one_more x ys true n e = rw one-add refl
one_more x ys false n e = cc

again : (name : List ℕ) (k m : ℕ) → list_all is_nonzero name ≡ true → length name ≤ k → take_while is_nonzero (take k (name ++ replicate m 0)) ≡ name
again [] zero m all short = refl
again [] (suc k) zero all short = refl
again [] (suc k) (suc m) all short = refl
again (x ∷ xs) zero m all short = absurd (omega arith)
again (x ∷ xs) (suc k) m all short =
    let parts = both (is_nonzero x) (list_all is_nonzero xs) all in
    let rest : List ℕ = take k (xs ++ replicate m 0) in
    one_more x rest (is_nonzero x) (prefix_len is_nonzero rest) parts.0 ∙ ap (λ ys. x ∷ ys) (again xs k m parts.1 (omega arith))

short : (name : List ℕ) → IsTrue (is_name name) → length name ≤ 31
short name is = leb-true (length name) 31 (both (nat_le (length name) 31) (list_all is_nonzero name) is).0

pub length-field_of : (name : List ℕ) → IsTrue (is_name name) → length (field_of name) ≡ 32
length-field_of name is = omega (arith, length-append name (replicate (32 - length name) 0), length-replicate {A = ℕ} (32 - length name) 0, short name is)

pub name_in-field_of : (name : List ℕ) → IsTrue (is_name name) → name_in (field_of name) ≡ name
name_in-field_of name is =
    again name 31 (32 - length name) (both (nat_le (length name) 31) (list_all is_nonzero name) is).1 (short name is)
