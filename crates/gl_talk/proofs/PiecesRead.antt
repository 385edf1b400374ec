-- Pieces are read one after the other.
use Rattle.std.proofs.Common.{◌≡◌, ℕ, Bool, true, false, ◌&&◌, List, [], ◌∷◌, ◌++◌, refl, sym, ◌∙◌, ap, subst, append_assoc}
use Rattle.std.specs.Prelude.{if◌then◌else◌, codes, is_some}
use Rattle.std.specs.Str.{bytes_eq}
use Rattle.gl_base.specs.BytesText.{piece_bytes, piece_size}
use Rattle.gl_base.specs.Words.{Span}
use Rattle.gl_script.specs.Formed.{are_pieces}
use Rattle.gl_talk.specs.Words.{bytes_said}

first_by : (b a rest : Bool) → b ≡ false → (if b then true else (a && rest)) ≡ true → (a ≡ true) × (rest ≡ true)
first_by true a rest e is = cc
first_by false true true e is = (refl, refl)
first_by false true false e is = cc
first_by false false rest e is = cc

-- the first word that isn't `as` is a piece, and pieces stand behind it
pub piece_first : (word : Span) (words left : List Span) → left ≡ word ∷ words → bytes_eq word.text (codes "as") ≡ false → are_pieces left ≡ true
    → (is_some (piece_size word.text) ≡ true) × (are_pieces words ≡ true)
piece_first word words left same e is =
    first_by (bytes_eq word.text (codes "as")) (is_some (piece_size word.text)) (are_pieces words) e (subst (λ (ws : List Span). are_pieces ws ≡ true) same is)

unless : (b : Bool) (bytes : List ℕ) → b ≡ false → bytes ≡ (if b then [] else bytes)
unless true bytes e = cc
unless false bytes e = refl

-- its bytes and those of the words behind it are what all say
pub piece_said : (word : Span) (words left : List Span) (old new all : List ℕ) → left ≡ word ∷ words → bytes_eq word.text (codes "as") ≡ false
    → old ++ bytes_said left ≡ all → new ≡ old ++ piece_bytes word.text → new ++ bytes_said words ≡ all
piece_said word words left old new all same e said put =
    ap (λ (bytes : List ℕ). bytes ++ bytes_said words) put
    ∙ append_assoc old (piece_bytes word.text) (bytes_said words)
    ∙ ap (λ (bytes : List ℕ). old ++ bytes) (unless (bytes_eq word.text (codes "as")) (piece_bytes word.text ++ bytes_said words) e)
    ∙ ap (λ (ws : List Span). old ++ bytes_said ws) (sym same)
    ∙ said
