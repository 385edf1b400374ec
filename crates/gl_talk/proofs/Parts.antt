-- A path of too many parts.
use Rattle.std.proofs.Common.{◌≡◌, ℕ, true, false, cond, eqb, List, [], ◌∷◌, None, refl, sym, ◌∙◌, ap}
use Rattle.gl_base.specs.Words.{pieces, onto_first}
use Rattle.gl_talk.specs.Paths.{line_file, line_file_of, live_device, live_of}

fourth_more : (a b c : List ℕ) (byte : ℕ) (parts : List (List ℕ)) → line_file_of (a ∷ b ∷ c ∷ onto_first byte parts) ≡ None
fourth_more a b c byte [] = refl
fourth_more a b c byte (part ∷ parts) = refl

fourth : (a b c bytes : List ℕ) → line_file_of (a ∷ b ∷ c ∷ pieces 47 bytes) ≡ None
fourth a b c [] = refl
fourth a b c (byte ∷ bytes) =
    elim (eqb byte 47) as (λ t. line_file_of (a ∷ b ∷ c ∷ cond t ([] ∷ pieces 47 bytes) (onto_first byte (pieces 47 bytes))) ≡ None)
    [ true ↦ refl | false ↦ fourth_more a b c byte (pieces 47 bytes) ]

pub four_parts : (path second third rest a b c : List ℕ) → pieces 47 path ≡ a ∷ pieces 47 second → pieces 47 second ≡ b ∷ pieces 47 third → pieces 47 third ≡ c ∷ pieces 47 rest
    → None ≡ line_file path
four_parts path second third rest a b c e f g =
    sym (ap line_file_of (e ∙ ap (λ ps. a ∷ ps) (f ∙ ap (λ ps. b ∷ ps) g)) ∙ fourth a b c rest)

third_more : (a b : List ℕ) (byte : ℕ) (parts : List (List ℕ)) → live_of (a ∷ b ∷ onto_first byte parts) ≡ None
third_more a b byte [] = refl
third_more a b byte (part ∷ parts) = refl

third_of : (a b bytes : List ℕ) → live_of (a ∷ b ∷ pieces 47 bytes) ≡ None
third_of a b [] = refl
third_of a b (byte ∷ bytes) =
    elim (eqb byte 47) as (λ t. live_of (a ∷ b ∷ cond t ([] ∷ pieces 47 bytes) (onto_first byte (pieces 47 bytes))) ≡ None)
    [ true ↦ refl | false ↦ third_more a b byte (pieces 47 bytes) ]

pub three_parts : (path second rest a b : List ℕ) → pieces 47 path ≡ a ∷ pieces 47 second → pieces 47 second ≡ b ∷ pieces 47 rest → None ≡ live_device path
three_parts path second rest a b e f = sym (ap live_of (e ∙ ap (λ ps. a ∷ ps) f) ∙ third_of a b rest)
