-- The first line of an input, read and written.
use Rattle.std.proofs.Common.{◌≡◌, ℕ, ◌<◌, ◌≤◌, Bool, true, false, List, [], ◌∷◌, ◌++◌, length, take, drop, Option, Some, None, refl, sym, ◌∙◌, ap, arith, append_assoc, length-append}
use Rattle.std.specs.Prelude.{codes, if◌then◌else◌, nat_le}
use Rattle.std.proofs.lemmas.Bool.Decides.{nat_tests}
use Rattle.std.proofs.Math.Seq.{take-append_seam}
use Rattle.std.proofs.lemmas.List.{length-take-le, take-append-drop}
use Rattle.gl_base.specs.Decimal.{decimal}
use Rattle.gl_base.specs.Words.{pieces}
use Rattle.gl_trace.specs.Joined.{joined}
use Rattle.gl_trace.specs.WordRead.{stripped}
use Rattle.gl_trace.proofs.Fields.{number_field}
use Rattle.gl_trace.proofs.Printed.{number}
use Rattle.gl_trace.proofs.Stripping.{drop_front, stripped_back, stripped_same}
use Rattle.gl_trace.proofs.TextPieces.{HasFirst, has_first, joined_pieces, line_pieces}
use Rattle.gl_session.specs.Verdict.{Parts, check_text, header_by, header_of, length_by, length_told, parts_by}

-- a number of bytes that is told was written so
told_same : (line : List ℕ) (count : ℕ) → length_told line ≡ Some count → line ≡ codes "check " ++ decimal count
told_same line count = by (stripped (codes "check ") line) refl
  where
    by : (o : Option (List ℕ)) → stripped (codes "check ") line ≡ o → length_by o ≡ Some count → line ≡ codes "check " ++ decimal count
    by None is e = cc
    by (Some word) is e = stripped_same (codes "check ") line word is ∙ ap (λ l. codes "check " ++ l) ((number_field 1048577 (omega arith)).same word count e)

told_back : (count : ℕ) → count < 1048577 → length_told (codes "check " ++ decimal count) ≡ Some count
told_back count few = ap length_by (stripped_back (codes "check ") (decimal count)) ∙ (number_field 1048577 (omega arith)).back count few

-- parts that were read stand after a line that tells of them
enough : (line rest : List ℕ) (count : ℕ) (parts : Parts) → line ≡ codes "check " ++ decimal count → count ≤ length rest
    → Some (record { session = take count rest; output = drop count rest }) ≡ Some parts → line ++ (10 ∷ rest) ≡ check_text parts.session parts.output
enough line rest count parts told few e =
    let whole : line ++ (10 ∷ rest) ≡ check_text (take count rest) (drop count rest) =
    (λ i. told i ++ (10 ∷ sym (take-append-drop count rest) i))
    ∙ sym (append_assoc (codes "check " ++ decimal count) (10 ∷ []) (take count rest ++ drop count rest))
    ∙ ap (λ n. (codes "check " ++ decimal n) ++ (10 ∷ []) ++ (take count rest ++ drop count rest)) (sym (length-take-le count rest few)) in
    let same : record { session = take count rest; output = drop count rest } ≡ parts = cc in
    whole ∙ ap (λ (p : Parts). check_text p.session p.output) same

parts_read : (line rest : List ℕ) (parts : Parts) → parts_by (length_told line) rest ≡ Some parts → line ++ (10 ∷ rest) ≡ check_text parts.session parts.output
parts_read line rest parts = by (length_told line) refl
  where
    tested : (count : ℕ) (b : Bool) → length_told line ≡ Some count → nat_le count (length rest) ≡ b
        → (if b then Some (record { session = take count rest; output = drop count rest }) else None) ≡ Some parts → line ++ (10 ∷ rest) ≡ check_text parts.session parts.output
    tested count true told is e = enough line rest count parts (told_same line count told) (grind (arith, nat_tests)) e
    tested count false told is e = cc

    by : (o : Option ℕ) → length_told line ≡ o → parts_by o rest ≡ Some parts → line ++ (10 ∷ rest) ≡ check_text parts.session parts.output
    by None told e = cc
    by (Some count) told e = tested count (nat_le count (length rest)) told refl e

-- an input that begins as it has to is its session and its output
pub header_read : (input : List ℕ) (parts : Parts) → header_of input ≡ Some parts → input ≡ check_text parts.session parts.output
header_read input parts = by (pieces 10 input) refl
  where
    by : (found : List (List ℕ)) → pieces 10 input ≡ found → header_by found ≡ Some parts → input ≡ check_text parts.session parts.output
    by [] is e = cc
    by (line ∷ []) is e = cc
    by (line ∷ next ∷ lines) is e = sym (joined_pieces input) ∙ ap joined is ∙ parts_read line (joined (next ∷ lines)) parts e

-- and a session and an output are read as they are
header_cons : (line : List ℕ) (found : List (List ℕ)) → HasFirst found → header_by (line ∷ found) ≡ parts_by (length_told line) (joined found)
header_cons line [] has = let no = has.is in cc
header_cons line (next ∷ lines) has = refl

-- an input by its first line
pub header_split : (input line rest : List ℕ) → pieces 10 input ≡ line ∷ pieces 10 rest → header_of input ≡ parts_by (length_told line) rest
header_split input line rest is = ap header_by is ∙ header_cons line (pieces 10 rest) (has_first 10 rest) ∙ ap (parts_by (length_told line)) (joined_pieces rest)

pub header_alone : (input line : List ℕ) → pieces 10 input ≡ line ∷ [] → header_of input ≡ None
header_alone input line is = ap header_by is

parts_back : (session printed : List ℕ) → parts_by (Some (length session)) (session ++ printed) ≡ Some (record { session = session; output = printed })
parts_back session printed =
    let enough_there : nat_le (length session) (length (session ++ printed)) ≡ true = let l = length-append session printed in grind (arith, nat_tests) in
    rw enough_there (λ i. Some (record { session = take-append_seam session printed i; output = drop_front session printed i }))

pub header_back : (session printed : List ℕ) → length session ≤ 1048576 → header_of (check_text session printed) ≡ Some (record { session = session; output = printed })
header_back session printed few =
    let line : List ℕ = codes "check " ++ decimal (length session) in
    let rest : List ℕ = session ++ printed in
    let found : pieces 10 (check_text session printed) ≡ line ∷ pieces 10 rest = line_pieces line rest (number (length session) (omega arith)) in
    header_split (check_text session printed) line rest found ∙ ap (λ o. parts_by o rest) (told_back (length session) (omega arith)) ∙ parts_back session printed
