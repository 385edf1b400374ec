-- Words that are put one after the other.
use Rattle.std.proofs.Common.{◌≡◌, ℕ, List, [], ◌∷◌, ◌++◌, OnOk, refl, sym, ap, ◌∙◌, append_assoc}
use Rattle.std.specs.Prelude.{Result, Ok, Err}
use Rattle.gl_base.specs.declared.errno.Errno.{Errno}
use Rattle.gl_trace.specs.Words.{before}

-- what comes after words is after the last blank
pub before_then : (words : List (List ℕ)) (text : List ℕ) → before words [] ++ text ≡ before words text
before_then [] text = refl
before_then (word ∷ words) text = append_assoc word (32 ∷ before words []) text ∙ ap (λ t. word ++ (32 ∷ t)) (before_then words text)

pub before_more : (words more : List (List ℕ)) (text : List ℕ) → before (words ++ more) text ≡ before words (before more text)
before_more [] more text = refl
before_more (word ∷ words) more text = ap (λ t. word ++ (32 ∷ t)) (before_more words more text)

-- words were put, and then more
pub put_more : (old mid new : List ℕ) (words more : List (List ℕ)) → mid ≡ old ++ before words [] → new ≡ mid ++ before more [] → new ≡ old ++ before (words ++ more) []
put_more old mid new words more e f =
    f ∙ ap (λ t. t ++ before more []) e ∙ append_assoc old (before words []) (before more [])
    ∙ ap (λ t. old ++ t) (before_then words (before more []) ∙ sym (before_more words more []))

pub put_last : (r : Result (Unit {0}) Errno) (old mid new : List ℕ) (words more : List (List ℕ)) → mid ≡ old ++ before words [] → OnOk r (new ≡ mid ++ before more []) → OnOk r (new ≡ old ++ before (words ++ more) [])
put_last (Ok x) old mid new words more e f = put_more old mid new words more e f
put_last (Err x) old mid new words more e f = f

-- words were put, and then more, and then a text
pub put_end : (r : Result (Unit {0}) Errno) (old mid far new : List ℕ) (words more : List (List ℕ)) (text : List ℕ) → mid ≡ old ++ before words [] → far ≡ mid ++ before more [] → OnOk r (new ≡ far ++ text)
    → OnOk r (new ≡ old ++ before words (before more text))
put_end (Ok x) old mid far new words more text e f g =
    g ∙ ap (λ t. t ++ text) (put_more old mid far words more e f) ∙ append_assoc old (before (words ++ more) []) text
    ∙ ap (λ t. old ++ t) (before_then (words ++ more) text ∙ before_more words more text)
put_end (Err x) old mid far new words more text e f g = g
