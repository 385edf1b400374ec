-- Texts that are passed over one after the other.
use Rattle.std.proofs.Common.{◌≡◌, ℕ, Bool, true, false, cond, List, [], ◌∷◌, ◌++◌, length, drop, Option, Some, None, refl, sym, ◌∙◌, ap, append_assoc}
use Rattle.std.specs.Prelude.{nat_eq}
use Rattle.std.specs.List.{starts_with}
use Rattle.std.proofs.lemmas.Slice.Eq.{starts_is}
use Rattle.std.proofs.lemmas.Bool.Decides.{Decides-eqb}
use Rattle.gl_trace.specs.WordRead.{stripped}

-- a text that is at the front of another one
pub starts_sound : (front text : List ℕ) → starts_with nat_eq text front ≡ true → text ≡ front ++ drop (length front) text
starts_sound front text e = (starts_is Decides-eqb text front (starts_with nat_eq text front) refl).0 e

pub starts_complete : (front rest text : List ℕ) → text ≡ front ++ rest → starts_with nat_eq text front ≡ true
starts_complete front rest text e = (starts_is Decides-eqb text front (starts_with nat_eq text front) refl).1 rest e

pub drop_front : (front rest : List ℕ) → drop (length front) (front ++ rest) ≡ rest
drop_front [] rest = refl
drop_front (byte ∷ front) rest = drop_front front rest

-- what was stripped is put back
pub stripped_same : (front text rest : List ℕ) → stripped front text ≡ Some rest → text ≡ front ++ rest
stripped_same front text rest = by_test (starts_with nat_eq text front) refl
  where
    by_test : (b : Bool) → starts_with nat_eq text front ≡ b → cond b (Some (drop (length front) text)) None ≡ Some rest → text ≡ front ++ rest
    by_test true p e = let same : drop (length front) text ≡ rest = cc in starts_sound front text p ∙ ap (λ t. front ++ t) same
    by_test false p e = cc

-- what was put is stripped
pub stripped_back : (front rest : List ℕ) → stripped front (front ++ rest) ≡ Some rest
stripped_back front rest = rw (starts_complete front rest (front ++ rest) refl) (ap Some (drop_front front rest))

pub stripped_some : (front text rest : List ℕ) → text ≡ front ++ rest → stripped front text ≡ Some rest
stripped_some front text rest e = ap (stripped front) e ∙ stripped_back front rest

nothing_or : {P : Type 0} (o : Option (List ℕ)) → ((rest : List ℕ) → o ≡ Some rest → P) → (o ≡ None → P) → P
nothing_or None some none = none refl
nothing_or (Some rest) some none = some rest refl

-- two texts, one after the other
pub strip_more : (front more text rest : List ℕ) → stripped front text ≡ Some rest → stripped (front ++ more) text ≡ stripped more rest
strip_more front more text rest e = nothing_or (stripped more rest) some none
  where
    same : text ≡ front ++ rest
    same = stripped_same front text rest e

    some : (left : List ℕ) → stripped more rest ≡ Some left → stripped (front ++ more) text ≡ stripped more rest
    some left f = stripped_some (front ++ more) text left (same ∙ ap (λ t. front ++ t) (stripped_same more rest left f) ∙ sym (append_assoc front more left)) ∙ sym f

    none : stripped more rest ≡ None → stripped (front ++ more) text ≡ stripped more rest
    none f = nothing_or (stripped (front ++ more) text) there (λ g. g ∙ sym f)
      where
        there : (left : List ℕ) → stripped (front ++ more) text ≡ Some left → stripped (front ++ more) text ≡ stripped more rest
        there left g =
            let whole : text ≡ front ++ (more ++ left) = stripped_same (front ++ more) text left g ∙ append_assoc front more left in
            let rest_is : rest ≡ more ++ left = sym (drop_front front rest) ∙ ap (drop (length front)) (sym same ∙ whole) ∙ drop_front front (more ++ left) in
            g ∙ sym (stripped_some more rest left rest_is)

pub strip_none : (front more text : List ℕ) → stripped front text ≡ None → stripped (front ++ more) text ≡ None
strip_none front more text e = nothing_or (stripped (front ++ more) text) there (λ g. g)
  where
    there : (left : List ℕ) → stripped (front ++ more) text ≡ Some left → stripped (front ++ more) text ≡ None
    there left g =
        let found : stripped front text ≡ Some (more ++ left) = stripped_some front text (more ++ left) (stripped_same (front ++ more) text left g ∙ append_assoc front more left) in
        absurd (let no : None ≡ Some (more ++ left) = sym e ∙ found in cc)

pub ruleset stripping = (strip_more, strip_none)
