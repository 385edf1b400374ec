-- The first word of a text, from the front.
use Rattle.std.proofs.Common.{◌≡◌, ◌≢◌, ℕ, ◌+◌, ◌<◌, true, false, eqb, List, [], ◌∷◌, ◌++◌, length, take, drop, get_or, Option, Some, None, refl, sym, ◌∙◌, ap, append_assoc, eq-eqb}
use Rattle.std.proofs.Math.Seq.{drop-length}
use Rattle.std.proofs.lemmas.List.{append-nil, drop_more, take_more}
use Rattle.std.proofs.lemmas.Bool.{ne_eqb}
use Rattle.gl_trace.specs.Fronts.{Front, front, front_of, onto_front}

-- bytes in front of a first word
abbrev pub onto_all : List ℕ → Option Front → Option Front
onto_all bytes None = None
onto_all bytes (Some f) = Some (front (bytes ++ f.word) f.rest)

pub begins : (text : List ℕ) → front_of text ≡ onto_all [] (front_of text)
begins text = nothing (front_of text)
  where
    nothing : (f : Option Front) → f ≡ onto_all [] f
    nothing None = refl
    nothing (Some f) = refl

onto_more : (bytes : List ℕ) (byte : ℕ) (f : Option Front) → onto_all bytes (onto_front byte f) ≡ onto_all (bytes ++ byte ∷ []) f
onto_more bytes byte None = refl
onto_more bytes byte (Some f) = ap (λ w. Some (front w f.rest)) (sym (append_assoc bytes (byte ∷ []) f.word))

-- so far: the first i bytes have no blank
abbrev pub Unblank : List ℕ → ℕ → Type 0
Unblank text i = front_of text ≡ onto_all (take i text) (front_of (drop i text))

at_blank : (bytes : List ℕ) (byte : ℕ) (text : List ℕ) → byte ≡ 32 → onto_all bytes (front_of (byte ∷ text)) ≡ Some (front bytes text)
at_blank bytes byte text is =
    let test : eqb byte 32 ≡ true = eq-eqb byte 32 is in
    rw test (ap (λ w. Some (front w text)) (append-nil bytes))

at_other : (bytes : List ℕ) (byte : ℕ) (text : List ℕ) → byte ≢ 32 → onto_all bytes (front_of (byte ∷ text)) ≡ onto_all (bytes ++ byte ∷ []) (front_of text)
at_other bytes byte text other =
    let test : eqb byte 32 ≡ false = ne_eqb byte 32 other in
    rw test (onto_more bytes byte (front_of text))

pub ends : (text : List ℕ) (i : ℕ) → Unblank text i → i < length text → get_or text i 0 ≡ 32 → front_of text ≡ Some (front (take i text) (drop (i + 1) text))
ends text i so_far within is =
    so_far ∙ ap (λ rest. onto_all (take i text) (front_of rest)) (drop_more text i 0 within) ∙ at_blank (take i text) (get_or text i 0) (drop (i + 1) text) is

pub goes_on : (text : List ℕ) (i : ℕ) → Unblank text i → i < length text → get_or text i 0 ≢ 32 → Unblank text (i + 1)
goes_on text i so_far within other =
    so_far ∙ ap (λ rest. onto_all (take i text) (front_of rest)) (drop_more text i 0 within)
    ∙ at_other (take i text) (get_or text i 0) (drop (i + 1) text) other
    ∙ ap (λ bytes. onto_all bytes (front_of (drop (i + 1) text))) (sym (take_more text i 0 within))

pub no_blank : (text : List ℕ) → Unblank text (length text) → front_of text ≡ None
no_blank text so_far = so_far ∙ ap (λ rest. onto_all (take (length text) text) (front_of rest)) (drop-length text)

pub ruleset cuts = (begins, ends, goes_on, no_blank)
