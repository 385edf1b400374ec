-- A sentence has no more statements than bytes, and costs no more than a session may.
use Rattle.std.proofs.Common.{◌≡◌, ℕ, suc, ◌+◌, ◌≤◌, Bool, true, false, List, [], ◌∷◌, ◌++◌, length, length-append, map, Option, None, Some, nat_lt, refl, sym, ap, ◌∙◌, subst, arith}
use Rattle.std.specs.Prelude.{if◌then◌else◌, ◌==◌}
use Rattle.std.specs.Option.{option_or}
use Rattle.std.proofs.lemmas.List.{length-map}
use Rattle.gl_base.specs.Refusals.{when}
use Rattle.gl_base.specs.Words.{Span, lines_of, onto_first, pieces, placed}
use Rattle.gl_base.specs.declared.limits.TheConstants.{COST_MAX}
use Rattle.gl_script.specs.Columns.{columns}
use Rattle.gl_script.specs.Cost.{session_cost}
use Rattle.gl_script.specs.Section.{SaidSection}
use Rattle.gl_script.specs.declared.version.Version.{Version}
use Rattle.gl_script.specs.Sentence.{Before, Sentence, behind, behind_all, behind_counted, behind_head, behind_version, cost_fault, fault_from, is_counted, kind_of, nothing, sections_in, sections_said, to_list, with_statement}
use Rattle.gl_script.specs.declared.refusal.Refusal.{Refusal}
use Rattle.gl_script.specs.declared.refusal.RefusalKind.TheVariants.{Cost, TooLong}
use Rattle.gl_script.specs.declared.section.SectionKind.{SectionKind}
use Rattle.gl_script.specs.declared.section.SectionKind.TheVariants.{Setup, Actor, After}
use Rattle.gl_session.specs.Figures.{statement_count}
use Rattle.gl_check.specs.One.{is_kind, said_in_kind}
use Rattle.gl_session.specs.OneActor.{IsSized, count_in_kind}

count_append : (xs ys : List SaidSection) → statement_count (xs ++ ys) ≡ statement_count xs + statement_count ys
count_append [] ys = omega arith
count_append (x ∷ xs) ys = let e = count_append xs ys in omega arith

-- those of the three kinds are all of them
abbrev told_in : SaidSection → List SaidSection → SectionKind → SectionKind → List (List Span)
told_in section sections kind k = if is_kind kind k then map (λ line. columns line.text) section.statements ++ said_in_kind kind sections else said_in_kind kind sections

kinds_total : (sections : List SaidSection) → count_in_kind Setup sections + count_in_kind Actor sections + count_in_kind After sections ≡ statement_count sections
kinds_total [] = refl
kinds_total (section ∷ sections) = by section.kind (kinds_total sections)
  where
    more : (kind : SectionKind) → length (map (λ line. columns line.text) section.statements ++ said_in_kind kind sections) ≡ length section.statements + count_in_kind kind sections
    more kind = length-append (map (λ line. columns line.text) section.statements) (said_in_kind kind sections) ∙ ap (λ n. n + count_in_kind kind sections) (length-map section.statements (λ line. columns line.text))

    by : (k : SectionKind) → count_in_kind Setup sections + count_in_kind Actor sections + count_in_kind After sections ≡ statement_count sections
        → length (told_in section sections Setup k) + length (told_in section sections Actor k) + length (told_in section sections After k) ≡ length section.statements + statement_count sections
    by Setup rest = let m = more Setup in omega arith
    by Actor rest = let m = more Actor in omega arith
    by After rest = let m = more After in omega arith

-- the bytes of lines, and of pieces
abbrev lines_length : List Span → ℕ
lines_length [] = 0
lines_length (line ∷ lines) = length line.text + lines_length lines

abbrev pieces_length : List (List ℕ) → ℕ
pieces_length [] = 0
pieces_length (piece ∷ more) = length piece + pieces_length more

onto_length : (byte : ℕ) (texts : List (List ℕ)) → pieces_length (onto_first byte texts) ≡ suc (pieces_length texts)
onto_length byte [] = refl
onto_length byte (piece ∷ more) = omega arith

cut_length : (cut : ℕ) (bytes : List ℕ) → pieces_length (pieces cut bytes) ≤ length bytes
cut_length cut [] = omega arith
cut_length cut (byte ∷ bytes) = by (byte == cut) (cut_length cut bytes)
  where
    by : (b : Bool) → pieces_length (pieces cut bytes) ≤ length bytes → pieces_length (if b then [] ∷ pieces cut bytes else onto_first byte (pieces cut bytes)) ≤ suc (length bytes)
    by true le = omega arith
    by false le = let e = onto_length byte (pieces cut bytes) in omega arith

placed_length : (at : ℕ) (texts : List (List ℕ)) → lines_length (placed at texts) ≡ pieces_length texts
placed_length at [] = refl
placed_length at (text ∷ texts) = let e = placed_length (at + length text + 1) texts in omega arith

-- a line that counts has a byte
counted_has_text : (text : List ℕ) → is_counted (columns text) ≡ true → 1 ≤ length text
counted_has_text [] e = cc
counted_has_text (byte ∷ text) e = omega arith

-- a line adds one statement at most
with_one : (line : Span) (current : Option SaidSection) → statement_count (to_list (with_statement line current)) ≤ statement_count (to_list current) + 1
with_one line None = omega arith
with_one line (Some section) = let e = length-append section.statements (line ∷ []) in omega arith

head_adds : (kind : Option SectionKind) (before : Before) (line : Span) (words : List Span) → statement_count (sections_in (behind_head kind before line words)) ≤ statement_count (sections_in before) + 1
head_adds (Some kind) before line words = let e = count_append (sections_in before) (to_list (behind_head (Some kind) before line words).current) in omega arith
head_adds None before line words =
    let a = count_append before.complete (to_list (with_statement line before.current)) in
    let b = count_append before.complete (to_list before.current) in
    let c = with_one line before.current in omega arith

counted_adds : (words : List Span) (before : Before) (line : Span) → statement_count (sections_in (behind_counted before line words)) ≤ statement_count (sections_in before) + 1
counted_adds [] before line = omega arith
counted_adds (first ∷ words) before line = by before.version
  where
    by : (version : Option Version) → statement_count (sections_in (behind_version version before line first words)) ≤ statement_count (sections_in before) + 1
    by None = omega arith
    by (Some version) = head_adds (kind_of first.text) before line words

line_adds : (before : Before) (line : Span) → statement_count (sections_in (behind before line)) ≤ statement_count (sections_in before) + length line.text
line_adds before line = by (is_counted (columns line.text)) refl
  where
    by : (b : Bool) → is_counted (columns line.text) ≡ b → statement_count (sections_in (if b then behind_counted before line (columns line.text) else before)) ≤ statement_count (sections_in before) + length line.text
    by true e = let c = counted_adds (columns line.text) before line in let t = counted_has_text line.text e in omega arith
    by false e = omega arith

all_add : (lines : List Span) (before : Before) → statement_count (sections_in (behind_all before lines)) ≤ statement_count (sections_in before) + lines_length lines
all_add [] before = omega arith
all_add (line ∷ lines) before = let a = all_add lines (behind before line) in let b = line_adds before line in omega arith

said_total : (bytes : List ℕ) → statement_count (sections_said bytes) ≤ length bytes
said_total bytes =
    let a = all_add (lines_of bytes) nothing in let b = placed_length 0 (pieces 10 bytes) in let c = cut_length 10 bytes in omega arith

abbrev too_long : Option Refusal
too_long = Some (record { line = 0; column = 0; kind = TooLong })

short_if : (test : Bool) (rest : Option Refusal) → (if test then too_long else rest) ≡ None → (test ≡ false) × (rest ≡ None)
short_if true rest e = cc
short_if false rest e = (refl, e)

abbrev faults_of : List ℕ → Option Refusal
faults_of bytes = option_or (fault_from nothing 1 (lines_of bytes)) (cost_fault (sections_said bytes))

-- a sentence isn't too long
pub sentence_is_short : (bytes : List ℕ) (sections : List SaidSection) → Sentence bytes sections → length bytes ≤ 1048576
sentence_is_short bytes sections s =
    let test = (short_if (nat_lt 1048576 (length bytes)) (faults_of bytes) s.faultless).0 in
    grind (arith, test)

second_none : (first second : Option Refusal) → option_or first second ≡ None → second ≡ None
second_none None second e = e
second_none (Some fault) second e = cc

when_none : (test : Bool) (fault : Refusal) → when test fault ≡ None → test ≡ false
when_none true fault e = cc
when_none false fault e = refl

cheap_said : (bytes : List ℕ) (sections : List SaidSection) → Sentence bytes sections → session_cost (sections_said bytes) ≤ COST_MAX
cheap_said bytes sections s =
    let none = (short_if (nat_lt 1048576 (length bytes)) (faults_of bytes) s.faultless).1 in
    let last = second_none (fault_from nothing 1 (lines_of bytes)) (cost_fault (sections_said bytes)) none in
    let test = when_none (nat_lt COST_MAX (session_cost (sections_said bytes))) (record { line = 0; column = 0; kind = Cost }) last in
    grind (arith, test)

pub sentence_is_sized : (bytes : List ℕ) (sections : List SaidSection) → Sentence bytes sections → IsSized sections
sentence_is_sized bytes sections s = subst (λ (l : List SaidSection). IsSized l) (sym s.says) (record {
  few = let a = kinds_total (sections_said bytes) in let b = said_total bytes in let c = sentence_is_short bytes sections s in omega arith;
  cheap = cheap_said bytes sections s;
})

-- a sentence has no more statements than bytes
pub statements_few : (bytes : List ℕ) (sections : List SaidSection) → Sentence bytes sections → statement_count sections ≤ 1048576
statements_few bytes sections s = let a = said_total bytes in let b = sentence_is_short bytes sections s in
    subst (λ (l : List SaidSection). statement_count l ≤ 1048576) (sym s.says) (omega arith)
