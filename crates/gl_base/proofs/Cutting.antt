-- Dividing a text at a byte, from its front.
use Rattle.std.proofs.Common.{◌≡◌, ◌≢◌, ℕ, ◌+◌, ◌<◌, true, false, cond, eqb, List, [], ◌∷◌, ◌++◌, length, take, drop, get_or, refl, sym, ◌∙◌, ap, append_assoc, eq-eqb}
use Rattle.std.proofs.Math.Seq.{take-length, drop-length}
use Rattle.std.proofs.lemmas.List.{append-nil, drop_more, take_more}
use Rattle.std.proofs.lemmas.Bool.{ne_eqb}
use Rattle.gl_base.specs.Words.{pieces, onto_first}

-- the bytes at the front of the first piece
abbrev pub onto_piece : List ℕ → List (List ℕ) → List (List ℕ)
onto_piece front [] = front ∷ []
onto_piece front (piece ∷ pieces) = (front ++ piece) ∷ pieces

onto_piece-onto_first : (front : List ℕ) (byte : ℕ) (found : List (List ℕ)) → onto_piece front (onto_first byte found) ≡ onto_piece (front ++ byte ∷ []) found
onto_piece-onto_first front byte [] = refl
onto_piece-onto_first front byte (piece ∷ found) = ap (λ ps. ps ∷ found) (sym (append_assoc front (byte ∷ []) piece))

onto_nothing : (byte : ℕ) (found : List (List ℕ)) → onto_piece [] (onto_first byte found) ≡ onto_first byte found
onto_nothing byte [] = refl
onto_nothing byte (piece ∷ found) = refl

-- nothing in front of a text changes nothing
pub pieces_begin : (cut : ℕ) (bytes : List ℕ) → pieces cut bytes ≡ onto_piece [] (pieces cut bytes)
pieces_begin cut [] = refl
pieces_begin cut (byte ∷ bytes) =
    elim (eqb byte cut) as (λ b. cond b ([] ∷ pieces cut bytes) (onto_first byte (pieces cut bytes)) ≡ onto_piece [] (cond b ([] ∷ pieces cut bytes) (onto_first byte (pieces cut bytes))))
    [ true ↦ refl | false ↦ sym (onto_nothing byte (pieces cut bytes)) ]

-- so far: the first i bytes have no cut
abbrev pub Uncut : ℕ → List ℕ → ℕ → Type 0
Uncut cut bytes i = pieces cut bytes ≡ onto_piece (take i bytes) (pieces cut (drop i bytes))

onto_piece-cut : (cut : ℕ) (front : List ℕ) (byte : ℕ) (bytes : List ℕ) → byte ≡ cut →
    onto_piece front (pieces cut (byte ∷ bytes)) ≡ front ∷ pieces cut bytes
onto_piece-cut cut front byte bytes is_cut =
    let test : eqb byte cut ≡ true = eq-eqb byte cut is_cut in
    rw test (ap (λ f. f ∷ pieces cut bytes) (append-nil front))

onto_piece-uncut : (cut : ℕ) (front : List ℕ) (byte : ℕ) (bytes : List ℕ) → byte ≢ cut →
    onto_piece front (pieces cut (byte ∷ bytes)) ≡ onto_piece (front ++ byte ∷ []) (pieces cut bytes)
onto_piece-uncut cut front byte bytes no_cut =
    let test : eqb byte cut ≡ false = ne_eqb byte cut no_cut in
    rw test (onto_piece-onto_first front byte (pieces cut bytes))

-- the piece ends at the first cut
pub piece_ends : (cut : ℕ) (bytes : List ℕ) (i : ℕ) → Uncut cut bytes i → i < length bytes → get_or bytes i 0 ≡ cut →
    pieces cut bytes ≡ take i bytes ∷ pieces cut (drop (i + 1) bytes)
piece_ends cut bytes i so_far in_range is_cut =
    so_far ∙ ap (λ rest. onto_piece (take i bytes) (pieces cut rest)) (drop_more bytes i 0 in_range) ∙ onto_piece-cut cut (take i bytes) (get_or bytes i 0) (drop (i + 1) bytes) is_cut

-- and goes on at any other byte
pub piece_goes_on : (cut : ℕ) (bytes : List ℕ) (i : ℕ) → Uncut cut bytes i → i < length bytes → get_or bytes i 0 ≢ cut →
    Uncut cut bytes (i + 1)
piece_goes_on cut bytes i so_far in_range no_cut =
    so_far ∙ ap (λ rest. onto_piece (take i bytes) (pieces cut rest)) (drop_more bytes i 0 in_range)
    ∙ onto_piece-uncut cut (take i bytes) (get_or bytes i 0) (drop (i + 1) bytes) no_cut
    ∙ ap (λ front. onto_piece front (pieces cut (drop (i + 1) bytes))) (sym (take_more bytes i 0 in_range))

-- a text with no cut is one piece
pub one_piece : (cut : ℕ) (bytes : List ℕ) → Uncut cut bytes (length bytes) → pieces cut bytes ≡ bytes ∷ []
one_piece cut bytes so_far =
    so_far ∙ ap (λ front. onto_piece front (pieces cut (drop (length bytes) bytes))) (take-length bytes)
    ∙ ap (λ rest. onto_piece bytes (pieces cut rest)) (drop-length bytes) ∙ ap (λ f. f ∷ []) (append-nil bytes)

pub ruleset cuts = (pieces_begin, piece_ends, piece_goes_on, one_piece)
