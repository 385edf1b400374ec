-- A history's text is read as the history, and nothing else is.
use Rattle.std.proofs.Common.{◌≡◌, ◌≢◌, ℕ, zero, suc, ◌+◌, ◌^◌, ◌<◌, ◌≤◌, Bool, true, false, cond, List, [], ◌∷◌, ◌++◌, length, take, drop, Option, Some, None, refl, sym, ◌∙◌, ap, subst, append_assoc, arith}
use Rattle.std.specs.Prelude.{◌==◌, codes}
use Rattle.std.specs.Char.{is_ascii_digit}
use Rattle.std.specs.Str.{all_ascii_digits}
use Rattle.std.proofs.lemmas.Bool.Decides.{nat_tests}
use Rattle.std.proofs.lemmas.Fmt.{decimal_nonempty}
use Rattle.std.proofs.Math.Seq.{drop-append_seam, take-append_seam}
use Rattle.std.proofs.lemmas.List.{take-append-drop}
use Rattle.gl_base.specs.Decimal.{decimal, plain_number_of_text}
use Rattle.gl_base.specs.TextLines.{ends_lines, text_line}
use Rattle.gl_base.specs.Words.{pieces}
use Rattle.gl_base.specs.declared.limits.TheConstants.{COST_MAX}
use Rattle.gl_base.proofs.Decimals.{digits-decimal}
use Rattle.gl_core.specs.Device.{OneEntry}
use Rattle.gl_world.specs.History.{entry}
use Rattle.gl_trace.specs.CallText.{call_words}
use Rattle.gl_trace.specs.EntryRead.{Read, read_of}
use Rattle.gl_trace.specs.EntryText.{HasText, entry_text}
use Rattle.gl_trace.specs.HistoryRead.{Broken, Good, HistoriesAreReadAlone, HistoriesAreReadBack, Lines, Whole, behind_line, count_by, count_told, counted, entry_at, entry_by, history_by, history_from, history_head, in_front, last_head, lines_read, next_line, of_lines}
use Rattle.gl_trace.specs.HistoryText.{AreTold, entry_lines, history_text}
use Rattle.gl_trace.specs.Joined.{joined}
use Rattle.gl_trace.specs.Printable.{IsPrintable}
use Rattle.gl_trace.specs.ReplyText.{reply_text}
use Rattle.gl_trace.specs.Typed.{IsTyped}
use Rattle.gl_trace.specs.WordRead.{stripped}
use Rattle.gl_trace.specs.Words.{before}
use Rattle.gl_trace.proofs.Entries.{back, line_same}
use Rattle.gl_trace.proofs.Fields.{below_same, both_true, number_field}
use Rattle.gl_trace.proofs.HistoryHeads.{behind_lines, first_there, none_there, whole_lines}
use Rattle.gl_trace.proofs.HistoryLines.{head_with_end, with_end}
use Rattle.gl_trace.proofs.Printed.{entries_are_printable, number}
use Rattle.gl_trace.proofs.Stripping.{stripped_back, stripped_same}
use Rattle.gl_trace.proofs.TextPieces.{joined_pieces, line_pieces}

-- What is written is read.

entry_there : (index : ℕ) (e : OneEntry) → IsTyped index e → HasText e → entry_at index (entry_text index e) ≡ Some e
entry_there index e typed text =
    let same : (index == index) ≡ true = grind (arith, nat_tests) in
    ap (entry_by index) (back (entry_text index e) index e typed (record { has_text = text; is_text = refl })) ∙ rw same refl

lines_back : (line index : ℕ) (history : List OneEntry) → AreTold index history → lines_read line index (length history) (pieces 10 (entry_lines index history)) ≡ Whole history
lines_back line index [] told = refl
lines_back line index (e ∷ history) told =
    let rest = entry_lines (index + 1) history in
    with_end (entry_lines index (e ∷ history)) (entry_text index e) rest line index (length history) (line_pieces (entry_text index e) rest (entries_are_printable index e told.0))
    ∙ ap (λ o. behind_line line o (lines_read (line + 1) (index + 1) (length history) (pieces 10 rest))) (entry_there index e told.0 told.1)
    ∙ ap (in_front (e ∷ [])) (lines_back (line + 1) (index + 1) history told.2)

-- no entry's line begins as the line above them does

digit_other : (byte : ℕ) → is_ascii_digit byte ≡ true → byte ≢ 61
digit_other byte e = λ same. let r : is_ascii_digit byte ≡ false = ap is_ascii_digit same in absurd (let no : true ≡ false = sym e ∙ r in cc)

none_behind : (digits more rest : List ℕ) → all_ascii_digits digits ≡ true → digits ≢ [] → IsPrintable (digits ++ more) → last_head true rest ≡ None → last_head true (text_line (digits ++ more) ++ rest) ≡ None
none_behind [] more rest e some printed none = absurd (some refl)
none_behind (byte ∷ digits) more rest e some printed none =
    let p = both_true (is_ascii_digit byte) (all_ascii_digits digits) e in
    ap (last_head true) (append_assoc (byte ∷ digits ++ more) (10 ∷ []) rest) ∙ none_there byte (digits ++ more) rest (digit_other byte p.0) printed none

number_there : (n : ℕ) → n < 2 ^ 64 → decimal n ≢ []
number_there n small = λ e. absurd (let some = decimal_nonempty n small in let none : length (decimal n) ≡ 0 = ap length e in omega arith)

none_in_lines : (index : ℕ) (history : List OneEntry) → AreTold index history → last_head true (entry_lines index history) ≡ None
none_in_lines index [] told = refl
none_in_lines index (e ∷ history) told =
    let small : index < 2 ^ 64 = let fits = told.0.index_fits in omega arith in
    let more = 32 ∷ before (decimal e.actor ∷ call_words e.call) (codes "-> " ++ reply_text e.reply) in
    none_behind (decimal index) more (entry_lines (index + 1) history) (digits-decimal index small) (number_there index small) (entries_are_printable index e told.0) (none_in_lines (index + 1) history told.2)

-- the line above them

cost : COST_MAX ≡ 300000
cost = refl

few : COST_MAX + 1 ≤ 2 ^ 64
few = omega (arith, cost)

count_back : (n : ℕ) → n ≤ COST_MAX → count_told (history_head ++ decimal n) ≡ Some n
count_back n small = ap count_by (stripped_back history_head (decimal n)) ∙ (number_field (COST_MAX + 1) few).back n (omega arith)

head_printable : (n : ℕ) → n ≤ COST_MAX → IsPrintable (history_head ++ decimal n)
head_printable n small = number n (omega (arith, cost))

text_is : (history : List OneEntry) → history_text history ≡ history_head ++ decimal (length history) ++ 10 ∷ entry_lines 0 history
text_is history = append_assoc (history_head ++ decimal (length history)) (10 ∷ []) (entry_lines 0 history)

text_back : (line : ℕ) (front : List ℕ) (history : List OneEntry) → length history ≤ COST_MAX → AreTold 0 history → history_from line front (pieces 10 (history_text history)) ≡ Good front history
text_back line front history small told =
    let head = history_head ++ decimal (length history) in
    let rest = entry_lines 0 history in
    head_with_end (history_text history) head rest front line (line_pieces head rest (head_printable (length history) small))
    ∙ ap (λ o. counted line front o (pieces 10 rest)) (count_back (length history) small)
    ∙ ap (of_lines front) (lines_back (line + 1) 0 history told)

pub histories_back : HistoriesAreReadBack
histories_back front history ends small told =
    let text = history_text history in
    let first : last_head true text ≡ Some 0 = ap (last_head true) (text_is history) ∙ first_there (decimal (length history)) (entry_lines 0 history) (number (length history) (omega (arith, cost))) (none_in_lines 0 history told) in
    ap (λ o. history_by o (front ++ text)) (behind_lines front text ends first)
    ∙ ap (λ f. history_from (next_line f) f (pieces 10 (drop (length front) (front ++ text)))) (take-append_seam front text)
    ∙ ap (λ t. history_from (next_line front) front (pieces 10 t)) (drop-append_seam front text)
    ∙ text_back (next_line front) front history small told

-- And what is read is what would be written.

entry_same : (index : ℕ) (text : List ℕ) (e : OneEntry) → entry_at index text ≡ Some e → text ≡ entry_text index e
entry_same index text e is = by_read (read_of text) refl is
  where
    by_index : (r : Read) (b : Bool) → read_of text ≡ Some r → (r.index == index) ≡ b → cond b (Some (entry r.actor r.call r.reply)) None ≡ Some e → text ≡ entry_text index e
    by_index r true p q f =
        let same : r.index ≡ index = grind (arith, nat_tests) in
        let made : entry r.actor r.call r.reply ≡ e = cc in
        (line_same text r p).is ∙ ap (λ (d : OneEntry). entry_text r.index d) made ∙ ap (λ n. entry_text n e) same
    by_index r false p q f = cc

    by_read : (o : Option Read) → read_of text ≡ o → entry_by index o ≡ Some e → text ≡ entry_text index e
    by_read None p f = cc
    by_read (Some r) p f = by_index r (r.index == index) p refl f

lines_same : (line index count : ℕ) (found : List (List ℕ)) (entries : List OneEntry) → lines_read line index count found ≡ Whole entries → (joined found ≡ entry_lines index entries) × (length entries ≡ count)
lines_same line index zero [] entries e = cc
lines_same line index zero ([] ∷ []) entries e = let is : [] ≡ entries = cc in subst (λ (es : List OneEntry). ([] ≡ entry_lines index es) × (length es ≡ 0)) is (refl, refl)
lines_same line index zero ((byte ∷ text) ∷ []) entries e = cc
lines_same line index zero ([] ∷ next ∷ more) entries e = cc
lines_same line index zero ((byte ∷ text) ∷ next ∷ more) entries e = cc
lines_same line index (suc count) [] entries e = cc
lines_same line index (suc count) (text ∷ []) entries e = cc
lines_same line index (suc count) (text ∷ next ∷ more) entries e =
    by (entry_at index text) (lines_read (line + 1) (index + 1) count (next ∷ more)) refl (λ es. lines_same (line + 1) (index + 1) count (next ∷ more) es) e
  where
    by : (o : Option OneEntry) (lines : Lines) → entry_at index text ≡ o
        → ((es : List OneEntry) → lines ≡ Whole es → (joined (next ∷ more) ≡ entry_lines (index + 1) es) × (length es ≡ count))
        → behind_line line o lines ≡ Whole entries → (text ++ 10 ∷ joined (next ∷ more) ≡ entry_lines index entries) × (length entries ≡ suc count)
    by None lines p q f = cc
    by (Some d) (Broken k) p q f = cc
    by (Some d) (Whole es) p q f =
        let is : d ∷ es ≡ entries = cc in
        let rest = q es refl in
        subst (λ (all : List OneEntry). (text ++ 10 ∷ joined (next ∷ more) ≡ entry_lines index all) × (length all ≡ suc count)) is
        (ap (λ t. t ++ 10 ∷ joined (next ∷ more)) (entry_same index text d p) ∙ ap (λ t. entry_text index d ++ 10 ∷ t) rest.0 ∙ sym (append_assoc (entry_text index d) (10 ∷ []) (entry_lines (index + 1) es)), ap suc rest.1)

count_same : (head : List ℕ) (n : ℕ) → count_told head ≡ Some n → (head ≡ history_head ++ decimal n) × (n ≤ COST_MAX)
count_same head n e = by (stripped history_head head) refl e
  where
    by : (o : Option (List ℕ)) → stripped history_head head ≡ o → count_by o ≡ Some n → (head ≡ history_head ++ decimal n) × (n ≤ COST_MAX)
    by None p f = cc
    by (Some number) p f =
        let small : n < COST_MAX + 1 = (below_same (COST_MAX + 1) n (plain_number_of_text number) f).1 in
        (stripped_same history_head head number p ∙ ap (λ t. history_head ++ t) ((number_field (COST_MAX + 1) few).same number n f), omega arith)

-- a history was read from these lines
pub record IsTextOf (text front ahead : List ℕ) (history : List OneEntry) : Type 0 where
  pub is : text ≡ history_text history
  pub behind : ahead ≡ front
  pub small : length history ≤ COST_MAX

lines_from : (line : ℕ) (ahead front head next : List ℕ) (more : List (List ℕ)) (history : List OneEntry) (count : ℕ) → count_told head ≡ Some count → (lines : Lines) → lines_read (line + 1) 0 count (next ∷ more) ≡ lines → of_lines ahead lines ≡ Good front history
    → IsTextOf (head ++ 10 ∷ joined (next ∷ more)) front ahead history
lines_from line ahead front head next more history count told (Broken k) p e = cc
lines_from line ahead front head next more history count told (Whole entries) p e =
    let same : entries ≡ history = cc in
    let read : (joined (next ∷ more) ≡ entry_lines 0 history) × (length history ≡ count) = lines_same (line + 1) 0 count (next ∷ more) history (p ∙ ap Whole same) in
    let head_is = count_same head count told in
    record {
      is = ap (λ h. h ++ 10 ∷ joined (next ∷ more)) head_is.0 ∙ ap (λ n. history_head ++ decimal n ++ 10 ∷ joined (next ∷ more)) (sym read.1)
          ∙ ap (λ t. history_head ++ decimal (length history) ++ 10 ∷ t) read.0 ∙ sym (text_is history);
      behind = cc;
      small = omega (arith, read.1, head_is.1);
    }

text_from : (line : ℕ) (ahead front : List ℕ) (found : List (List ℕ)) (history : List OneEntry) → history_from line ahead found ≡ Good front history → IsTextOf (joined found) front ahead history
text_from line ahead front [] history e = cc
text_from line ahead front (head ∷ []) history e = cc
text_from line ahead front (head ∷ next ∷ more) history e = by (count_told head) refl e
  where
    by : (o : Option ℕ) → count_told head ≡ o → counted line ahead o (next ∷ more) ≡ Good front history → IsTextOf (head ++ 10 ∷ joined (next ∷ more)) front ahead history
    by None p f = cc
    by (Some count) p f = lines_from line ahead front head next more history count p (lines_read (line + 1) 0 count (next ∷ more)) refl f

pub histories_alone : HistoriesAreReadAlone
histories_alone output front history e = by (last_head true output) refl e
  where
    by : (o : Option ℕ) → last_head true output ≡ o → history_by o output ≡ Good front history → (output ≡ front ++ history_text history) × (ends_lines front ≡ true) × (length history ≤ COST_MAX)
    by None p f = cc
    by (Some at) p f =
        let read = text_from (next_line (take at output)) (take at output) front (pieces 10 (drop at output)) history f in (
          sym (take-append-drop at output) ∙ ap (λ t. t ++ drop at output) read.behind ∙ ap (λ t. front ++ t) (sym (joined_pieces (drop at output)) ∙ read.is),
          ap ends_lines (sym read.behind) ∙ whole_lines output at p,
          read.small,
        )
