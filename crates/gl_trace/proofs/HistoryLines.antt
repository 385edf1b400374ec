-- The lines of a history, read one after the other.
use Rattle.std.proofs.Common.{◌≡◌, ℕ, suc, ◌+◌, ◌-◌, ◌<◌, ◌≤◌, Bool, true, false, cond, List, [], ◌∷◌, ◌++◌, length, Some, refl, sym, ◌∙◌, ap, subst, append_assoc, arith}
use Rattle.std.specs.Prelude.{◌==◌, if◌then◌else◌}
use Rattle.std.proofs.lemmas.Bool.{ne_eqb}
use Rattle.std.proofs.lemmas.List.{append-nil}
use Rattle.gl_base.specs.Words.{onto_first, pieces}
use Rattle.gl_core.specs.Device.{OneEntry}
use Rattle.gl_trace.specs.EntryRead.{read, read_of}
use Rattle.gl_trace.specs.EntryText.{HasText}
use Rattle.gl_trace.specs.HistoryRead.{Broken, Lines, Whole, behind_line, count_told, counted, entry_at, history_from, in_front, lines_read, of_lines, one_line}
use Rattle.gl_trace.specs.HistoryText.{AreTold}
use Rattle.gl_trace.specs.Typed.{IsTyped}
use Rattle.gl_trace.proofs.Entries.{same_line}
use Rattle.gl_trace.proofs.TextPieces.{HasFirst, has_first}

-- entries in front of others

in_twice : (front more : List OneEntry) (lines : Lines) → in_front front (in_front more lines) ≡ in_front (front ++ more) lines
in_twice front more (Whole entries) = ap Whole (sym (append_assoc front more entries))
in_twice front more (Broken line) = refl

-- the line at the front of a text has its end, or hasn't

behind_first : (line index count : ℕ) (text : List ℕ) (rest : List (List ℕ)) → HasFirst rest → lines_read line index (suc count) (text ∷ rest) ≡ behind_line line (entry_at index text) (lines_read (line + 1) (index + 1) count rest)
behind_first line index count text [] has = let no = has.is in cc
behind_first line index count text (next ∷ more) has = refl

pub with_end : (text front rest : List ℕ) (line index count : ℕ) → pieces 10 text ≡ front ∷ pieces 10 rest
    → lines_read line index (suc count) (pieces 10 text) ≡ behind_line line (entry_at index front) (lines_read (line + 1) (index + 1) count (pieces 10 rest))
with_end text front rest line index count e = ap (lines_read line index (suc count)) e ∙ behind_first line index count front (pieces 10 rest) (has_first 10 rest)

counted_first : (line : ℕ) (front head : List ℕ) (rest : List (List ℕ)) → HasFirst rest → history_from line front (head ∷ rest) ≡ counted line front (count_told head) rest
counted_first line front head [] has = let no = has.is in cc
counted_first line front head (next ∷ more) has = refl

pub head_with_end : (text head rest front : List ℕ) (line : ℕ) → pieces 10 text ≡ head ∷ pieces 10 rest → history_from line front (pieces 10 text) ≡ counted line front (count_told head) (pieces 10 rest)
head_with_end text head rest front line e = ap (history_from line front) e ∙ counted_first line front head (pieces 10 rest) (has_first 10 rest)

-- what is left after the entries

onto_left : (line index byte : ℕ) (found : List (List ℕ)) → lines_read line index 0 (onto_first byte found) ≡ Broken line
onto_left line index byte [] = refl
onto_left line index byte (piece ∷ []) = refl
onto_left line index byte (piece ∷ next ∷ more) = refl

end_left : (line index : ℕ) (found : List (List ℕ)) → HasFirst found → lines_read line index 0 ([] ∷ found) ≡ Broken line
end_left line index [] has = let no = has.is in cc
end_left line index (next ∷ more) has = refl

more_left : (line index byte : ℕ) (text : List ℕ) → lines_read line index 0 (pieces 10 (byte ∷ text)) ≡ Broken line
more_left line index byte text = by (byte == 10)
  where
    by : (b : Bool) → lines_read line index 0 (cond b ([] ∷ pieces 10 text) (onto_first byte (pieces 10 text))) ≡ Broken line
    by true = end_left line index (pieces 10 text) (has_first 10 text)
    by false = onto_left line index byte (pieces 10 text)

end_told : (line index : ℕ) (text : List ℕ) → lines_read line index 0 (pieces 10 text) ≡ (if length text == 0 then Whole [] else Broken line)
end_told line index [] = refl
end_told line index (byte ∷ text) = let some : (suc (length text) == 0) ≡ false = ne_eqb (suc (length text)) 0 (λ e. absurd (omega arith)) in more_left line index byte text ∙ rw some refl

-- a piece is a line where another one follows
pub one_more_line : (line : List ℕ) (more : List (List ℕ)) → HasFirst more → 1 ≡ one_line line more
one_more_line [] [] has = let no = has.is in cc
one_more_line [] (next ∷ more) has = refl
one_more_line (byte ∷ line) more has = refl

-- so far: these entries, and the rest of the text is still to be read
abbrev pub SoFar : ℕ → ℕ → List ℕ → ℕ → List OneEntry → List ℕ → Type 0
SoFar line count text index entries rest = (left : ℕ) → index + left ≡ count → lines_read line 0 count (pieces 10 text) ≡ in_front entries (lines_read (line + index) index left (pieces 10 rest))

pub goes_on : (line count : ℕ) (text : List ℕ) (index : ℕ) (entries more : List OneEntry) (rest after : List ℕ) (e : OneEntry) → SoFar line count text index entries rest
    → ((n left : ℕ) → lines_read n index (suc left) (pieces 10 rest) ≡ in_front (e ∷ []) (lines_read (n + 1) (index + 1) left (pieces 10 after)))
    → more ≡ entries ++ e ∷ [] → SoFar line count text (index + 1) more after
goes_on line count text index entries more rest after e so_far next pushed left is =
    let one : index + suc left ≡ count = omega arith in
    let there : line + index + 1 ≡ line + (index + 1) = omega arith in
    so_far (suc left) one ∙ ap (in_front entries) (next (line + index) left) ∙ in_twice entries (e ∷ []) (lines_read (line + index + 1) (index + 1) left (pieces 10 after))
    ∙ ap (λ n. in_front (entries ++ e ∷ []) (lines_read n (index + 1) left (pieces 10 after))) there
    ∙ ap (λ es. in_front es (lines_read (line + (index + 1)) (index + 1) left (pieces 10 after))) (sym pushed)

pub stops : (line count : ℕ) (text : List ℕ) (index : ℕ) (entries : List OneEntry) (rest : List ℕ) → SoFar line count text index entries rest → index < count
    → ((n left : ℕ) → lines_read n index (suc left) (pieces 10 rest) ≡ Broken n) → lines_read line 0 count (pieces 10 text) ≡ Broken (line + index)
stops line count text index entries rest so_far within broken =
    let left : (k : ℕ) × (index + suc k ≡ count) = (count - suc index, omega arith) in
    so_far (suc left.0) left.1 ∙ ap (in_front entries) (broken (line + index) left.0)

pub ends : (line count : ℕ) (text : List ℕ) (index : ℕ) (entries : List OneEntry) (rest : List ℕ) (test : Bool) → SoFar line count text index entries rest → index ≤ count → count ≤ index
    → test ≡ (length rest == 0) → test ≡ true → lines_read line 0 count (pieces 10 text) ≡ Whole entries
ends line count text index entries rest test so_far within all left is =
    let last : index + 0 ≡ count = omega arith in
    so_far 0 last ∙ ap (in_front entries) (end_told (line + index) index rest ∙ ap (λ b. if b then Whole [] else Broken (line + index)) (sym left ∙ is)) ∙ ap Whole (append-nil entries)

pub ends_badly : (line count : ℕ) (text : List ℕ) (index : ℕ) (entries : List OneEntry) (rest : List ℕ) (test : Bool) → SoFar line count text index entries rest → index ≤ count → count ≤ index
    → test ≡ (length rest == 0) → test ≡ false → lines_read line 0 count (pieces 10 text) ≡ Broken (line + count)
ends_badly line count text index entries rest test so_far within all left is =
    let last : index + 0 ≡ count = omega arith in
    let there : index ≡ count = omega arith in
    so_far 0 last ∙ ap (in_front entries) (end_told (line + index) index rest ∙ ap (λ b. if b then Whole [] else Broken (line + index)) (sym left ∙ is)) ∙ ap (λ n. Broken (line + n)) there

-- one entry more is told
add_told : (index : ℕ) (entries : List OneEntry) (e : OneEntry) → AreTold index entries → IsTyped (index + length entries) e → HasText e → AreTold index (entries ++ e ∷ [])
add_told index [] e told typed text = let none : index + 0 ≡ index = omega arith in (subst (λ n. IsTyped n e) none typed, text, tt)
add_told index (d ∷ entries) e told typed text =
    let one : index + suc (length entries) ≡ index + 1 + length entries = omega arith in
    (told.0, told.1, add_told (index + 1) entries e told.2 (subst (λ n. IsTyped n e) one typed) text)

pub told_more : (index : ℕ) (entries more : List OneEntry) (e : OneEntry) → AreTold 0 entries → length entries ≡ index → IsTyped index e → HasText e → more ≡ entries ++ e ∷ [] → AreTold 0 more
told_more index entries more e told many typed text pushed =
    let there : index ≡ 0 + length entries = omega arith in
    subst (λ (es : List OneEntry). AreTold 0 es) (sym pushed) (add_told 0 entries e told (subst (λ n. IsTyped n e) there typed) text)

-- the entry of an index that a line is

pub has_text : (line : List ℕ) (at : ℕ) (e : OneEntry) → read_of line ≡ Some (read at e.actor e.call e.reply) → HasText e
has_text line at e got = (same_line line at e got).has_text

-- the line at the front, and its entry, where it has one

pub next_there : (text front after : List ℕ) (rest : List (List ℕ)) (index : ℕ) (d : OneEntry) → pieces 10 text ≡ front ∷ rest → rest ≡ pieces 10 after → Some d ≡ entry_at index front
    → (line count : ℕ) → lines_read line index (suc count) (pieces 10 text) ≡ in_front (d ∷ []) (lines_read (line + 1) (index + 1) count (pieces 10 after))
next_there text front after rest index d e is there line count =
    with_end text front after line index count (e ∙ ap (λ ps. front ∷ ps) is) ∙ ap (λ o. behind_line line o (lines_read (line + 1) (index + 1) count (pieces 10 after))) (sym there)

pub head_there : (text front after : List ℕ) (rest : List (List ℕ)) (count : ℕ) → pieces 10 text ≡ front ∷ rest → rest ≡ pieces 10 after → Some count ≡ count_told front
    → (line : ℕ) (ahead : List ℕ) → history_from line ahead (pieces 10 text) ≡ of_lines ahead (lines_read (line + 1) 0 count (pieces 10 after))
head_there text front after rest count e is told line ahead =
    head_with_end text front after ahead line (e ∙ ap (λ ps. front ∷ ps) is) ∙ ap (λ o. counted line ahead o (pieces 10 after)) (sym told)
