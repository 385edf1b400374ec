-- What the fold over the lines of a session gives is spelled by them.
use Rattle.std.proofs.Common.{◌≡◌, ◌≤◌, ◌+◌, ℕ, Bool, true, false, cond, not, nat_lt, List, [], ◌∷◌, ◌++◌, length, Option, None, Some, refl, sym, ◌∙◌, ap, subst, append_assoc, arith}
use Rattle.std.specs.Prelude.{if◌then◌else◌}
use Rattle.std.specs.Option.{option_or}
use Rattle.std.proofs.lemmas.List.{append-nil}
use Rattle.gl_base.specs.declared.limits.TheConstants.{COST_MAX}
use Rattle.gl_base.specs.Refusals.{when, first_of}
use Rattle.gl_base.specs.Rows.{Each}
use Rattle.gl_script.specs.declared.refusal.Spot.{Spot}
use Rattle.gl_script.specs.declared.refusal.Refusal.{Refusal}
use Rattle.gl_script.specs.declared.section.SectionKind.{SectionKind}
use Rattle.gl_base.specs.Words.{Span, lines_of}
use Rattle.gl_base.specs.Words.{text_at}
use Rattle.gl_script.specs.declared.version.Version.{Version}
use Rattle.gl_script.specs.Faults.{byte_fault, size_fault}
use Rattle.gl_script.specs.Cost.{session_cost}
use Rattle.gl_script.specs.Section.{SaidSection}
use Rattle.gl_script.specs.Columns.{columns}
use Rattle.gl_script.specs.Sentence.{Before, nothing, is_comment, is_counted, kind_of, header_fault, section_fault, counted_fault, line_fault, behind_head, behind_counted, behind, behind_all, fault_from, refusal_at, sections_in, sections_said, cost_fault, version_of, Sentence}
use Rattle.gl_script.specs.Spelled.{IsLine, counted, AreStatement, IsStatement, behind_header, AreHead, IsSections, IsHeaded, Spelled}

-- neither of two faults is there
pub neither : {X : Type 0} (a b : Option X) → option_or a b ≡ None → (a ≡ None) × (b ≡ None)
neither None b e = (refl, e)
neither (Some x) b e = cc

no_refusal : (number : ℕ) (fault : Option Spot) → refusal_at number fault ≡ None → fault ≡ None
no_refusal number None e = refl
no_refusal number (Some fault) e = cc

-- a section with more statements
abbrev added : SaidSection → List Span → SaidSection
added s more = record { kind = s.kind; name = s.name; statements = s.statements ++ more }

abbrev with_all : SaidSection → List Span → SaidSection
with_all s all = record { kind = s.kind; name = s.name; statements = all }

added_nil : (s : SaidSection) → added s [] ≡ s
added_nil s = ap (with_all s) (append-nil s.statements)

added_more : (s : SaidSection) (line : Span) (more : List Span) → added (added s (line ∷ [])) more ≡ added s (line ∷ more)
added_more s line more = ap (with_all s) (append_assoc s.statements (line ∷ []) more)

-- lines that go on with statements of the section that is open, and then are further sections
record GoesOn (version : Version) (complete : List SaidSection) (section : SaidSection) (lines : List Span) (all : List SaidSection) : Type 0 where
  pub more : List Span
  pub rest : List Span
  pub sections : List SaidSection
  pub split : lines ≡ more ++ rest
  pub each : Each (IsStatement version) more
  pub spelled : IsSections version complete (Some (added section more)) rest sections
  pub whole : all ≡ complete ++ added section more ∷ sections

-- the lines that count, where the words of the first are given
abbrev counted_from : List Span → Span → List Span → List Span
counted_from words line lines = cond (is_counted words) (line ∷ counted lines) (counted lines)

abbrev behind_words : Before → Span → List Span → Before
behind_words before line words = cond (is_counted words) (behind_counted before line words) before

abbrev words_fault : Before → List Span → Option Spot
words_fault before words = if is_counted words then counted_fault before words else None

module _ (version : Version) (complete : List SaidSection) (section : SaidSection) (number : ℕ) (line : Span) (lines : List Span)
    (later : (complete : List SaidSection) (section : SaidSection) → fault_from (behind_header version complete (Some section)) number lines ≡ None
    → GoesOn version complete section (counted lines) (sections_in (behind_all (behind_header version complete (Some section)) lines))) where
  by_kind : (first : Span) (words : List Span) → first ∷ words ≡ columns line.text → (kind : Option SectionKind) → kind ≡ kind_of first.text
      → section_fault kind (behind_header version complete (Some section)) first words ≡ None
      → fault_from (behind_head kind (behind_header version complete (Some section)) line words) number lines ≡ None
      → GoesOn version complete section (line ∷ counted lines) (sections_in (behind_all (behind_head kind (behind_header version complete (Some section)) line words) lines))
  by_kind first words e None k f h =
      let on = later complete (added section (line ∷ [])) h in
      let same = added_more section line on.more in
      record {
        more = line ∷ on.more;
        rest = on.rest;
        sections = on.sections;
        split = ap (λ ls. line ∷ ls) on.split;
        each = (subst (AreStatement version) e (sym k, f), on.each);
        spelled = subst (λ s. IsSections version complete (Some s) on.rest on.sections) same on.spelled;
        whole = on.whole ∙ ap (λ s. complete ++ s ∷ on.sections) same;
      }
  by_kind first words e (Some kind) k f h =
      let new : SaidSection = record { kind = kind; name = text_at 0 words; statements = [] } in
      let on = later (complete ++ section ∷ []) new h in
      let same = added_nil section in
      record {
        more = [];
        rest = line ∷ counted lines;
        sections = added new on.more ∷ on.sections;
        split = refl;
        each = tt;
        spelled = subst (λ s. IsSections version complete (Some s) (line ∷ counted lines) (added new on.more ∷ on.sections)) (sym same)
            (subst (AreHead (behind_header version complete (Some section)) (added new on.more)) e (sym k, refl, f), on.rest, on.split, on.each, on.spelled);
        whole = on.whole ∙ append_assoc complete (section ∷ []) (added new on.more ∷ on.sections) ∙ ap (λ s. complete ++ s ∷ added new on.more ∷ on.sections) (sym same);
      }

  by_comment : (first : Span) (words : List Span) → first ∷ words ≡ columns line.text → (b : Bool)
      → (if not b then counted_fault (behind_header version complete (Some section)) (first ∷ words) else None) ≡ None
      → fault_from (cond (not b) (behind_counted (behind_header version complete (Some section)) line (first ∷ words)) (behind_header version complete (Some section))) number lines ≡ None
      → GoesOn version complete section (cond (not b) (line ∷ counted lines) (counted lines)) (sections_in (behind_all (cond (not b) (behind_counted (behind_header version complete (Some section)) line (first ∷ words)) (behind_header version complete (Some section))) lines))
  by_comment first words e true f h = later complete section h
  by_comment first words e false f h = by_kind first words e (kind_of first.text) refl f h

  by_words : (words : List Span) → words ≡ columns line.text
      → words_fault (behind_header version complete (Some section)) words ≡ None
      → fault_from (behind_words (behind_header version complete (Some section)) line words) number lines ≡ None
      → GoesOn version complete section (counted_from words line lines) (sections_in (behind_all (behind_words (behind_header version complete (Some section)) line words) lines))
  by_words [] e f h = later complete section h
  by_words (first ∷ words) e f h = by_comment first words e (is_comment first.text) f h

-- the parts of a line's fault
record Parts (before : Before) (line : Span) (number : ℕ) (lines : List Span) : Type 0 where
  pub line_is : IsLine line
  pub words : words_fault before (columns line.text) ≡ None
  pub later : fault_from (behind before line) (number + 1) lines ≡ None

parts_of : (before : Before) (number : ℕ) (line : Span) (lines : List Span) → fault_from before number (line ∷ lines) ≡ None → Parts before line number lines
parts_of before number line lines h =
    let two = neither (refusal_at number (line_fault before line.text)) (fault_from (behind before line) (number + 1) lines) h in
    let faults = neither (byte_fault 1 line.text) (first_of (size_fault 0 (columns line.text) ∷ words_fault before (columns line.text) ∷ [])) (no_refusal number (line_fault before line.text) two.0) in
    let sizes = neither (size_fault 0 (columns line.text)) (first_of (words_fault before (columns line.text) ∷ [])) faults.1 in
    let words = neither (words_fault before (columns line.text)) None sizes.1 in
    record { line_is = record { printable = faults.0; fits = sizes.0 }; words = words.0; later = two.1 }

goes_on : (version : Version) (complete : List SaidSection) (section : SaidSection) (number : ℕ) (lines : List Span) → fault_from (behind_header version complete (Some section)) number lines ≡ None
    → GoesOn version complete section (counted lines) (sections_in (behind_all (behind_header version complete (Some section)) lines))
goes_on version complete section number [] h = record {
  more = [];
  rest = [];
  sections = [];
  split = refl;
  each = tt;
  spelled = refl;
  whole = ap (λ s. complete ++ s ∷ []) (sym (added_nil section));
}
goes_on version complete section number (line ∷ lines) h =
    let p = parts_of (behind_header version complete (Some section)) number line lines h in
    by_words version complete section (number + 1) line lines (λ c s. goes_on version c s (number + 1) lines) (columns line.text) refl p.words p.later

-- behind the header, where no section is open
record Begins (version : Version) (lines : List Span) (all : List SaidSection) : Type 0 where
  pub spelled : IsSections version [] None lines all

module _ (version : Version) (number : ℕ) (line : Span) (lines : List Span)
    (later : fault_from (behind_header version [] None) number lines ≡ None → Begins version (counted lines) (sections_in (behind_all (behind_header version [] None) lines))) where
  begin_kind : (first : Span) (words : List Span) → first ∷ words ≡ columns line.text → (kind : Option SectionKind) → kind ≡ kind_of first.text
      → section_fault kind (behind_header version [] None) first words ≡ None
      → fault_from (behind_head kind (behind_header version [] None) line words) number lines ≡ None
      → Begins version (line ∷ counted lines) (sections_in (behind_all (behind_head kind (behind_header version [] None) line words) lines))
  begin_kind first words e None k f h = cc
  begin_kind first words e (Some kind) k f h =
      let new : SaidSection = record { kind = kind; name = text_at 0 words; statements = [] } in
      let on = goes_on version [] new number lines h in
      record {
        spelled = subst (λ all. IsSections version [] None (line ∷ counted lines) all) (sym on.whole)
            (subst (AreHead (behind_header version [] None) (added new on.more)) e (sym k, refl, f), on.rest, on.split, on.each, on.spelled);
      }

  begin_comment : (first : Span) (words : List Span) → first ∷ words ≡ columns line.text → (b : Bool)
      → (if not b then counted_fault (behind_header version [] None) (first ∷ words) else None) ≡ None
      → fault_from (cond (not b) (behind_counted (behind_header version [] None) line (first ∷ words)) (behind_header version [] None)) number lines ≡ None
      → Begins version (cond (not b) (line ∷ counted lines) (counted lines)) (sections_in (behind_all (cond (not b) (behind_counted (behind_header version [] None) line (first ∷ words)) (behind_header version [] None)) lines))
  begin_comment first words e true f h = later h
  begin_comment first words e false f h = begin_kind first words e (kind_of first.text) refl f h

  begin_words : (words : List Span) → words ≡ columns line.text
      → words_fault (behind_header version [] None) words ≡ None
      → fault_from (behind_words (behind_header version [] None) line words) number lines ≡ None
      → Begins version (counted_from words line lines) (sections_in (behind_all (behind_words (behind_header version [] None) line words) lines))
  begin_words [] e f h = later h
  begin_words (first ∷ words) e f h = begin_comment first words e (is_comment first.text) f h

begins : (version : Version) (number : ℕ) (lines : List Span) → fault_from (behind_header version [] None) number lines ≡ None → Begins version (counted lines) (sections_in (behind_all (behind_header version [] None) lines))
begins version number [] h = record { spelled = refl }
begins version number (line ∷ lines) h =
    let p = parts_of (behind_header version [] None) number line lines h in
    begin_words version (number + 1) line lines (begins version (number + 1) lines) (columns line.text) refl p.words p.later

-- the header
abbrev behind_said : Option Version → Before
behind_said o = record { version = o; complete = []; current = None }

begins_said : (first : Span) (o : Option Version) (number : ℕ) (lines : List Span) → header_fault o first ≡ None → fault_from (behind_said o) number lines ≡ None
    → (version : Version) × (o ≡ Some version) × IsSections version [] None (counted lines) (sections_in (behind_all (behind_said o) lines))
begins_said first None number lines f h = cc
begins_said first (Some version) number lines f h = (version, refl, (begins version number lines h).spelled)

module _ (number : ℕ) (line : Span) (lines : List Span)
    (later : fault_from nothing number lines ≡ None → IsHeaded (counted lines) (sections_in (behind_all nothing lines))) where
  start_comment : (first : Span) (words : List Span) → first ∷ words ≡ columns line.text → (b : Bool)
      → (if not b then counted_fault nothing (first ∷ words) else None) ≡ None
      → fault_from (cond (not b) (behind_counted nothing line (first ∷ words)) nothing) number lines ≡ None
      → IsHeaded (cond (not b) (line ∷ counted lines) (counted lines)) (sections_in (behind_all (cond (not b) (behind_counted nothing line (first ∷ words)) nothing) lines))
  start_comment first words e true f h = later h
  start_comment first words e false f h =
      let b = begins_said first (version_of (first ∷ words)) number lines f h in (b.0, ap version_of (sym e) ∙ b.1, b.2)

  start_words : (words : List Span) → words ≡ columns line.text
      → words_fault nothing words ≡ None
      → fault_from (behind_words nothing line words) number lines ≡ None
      → IsHeaded (counted_from words line lines) (sections_in (behind_all (behind_words nothing line words) lines))
  start_words [] e f h = later h
  start_words (first ∷ words) e f h = start_comment first words e (is_comment first.text) f h

starts : (number : ℕ) (lines : List Span) → fault_from nothing number lines ≡ None → IsHeaded (counted lines) (sections_in (behind_all nothing lines))
starts number [] h = cc
starts number (line ∷ lines) h =
    let p = parts_of nothing number line lines h in
    start_words (number + 1) line lines (starts (number + 1) lines) (columns line.text) refl p.words p.later

-- each line is one
are_lines : (before : Before) (number : ℕ) (lines : List Span) → fault_from before number lines ≡ None → Each IsLine lines
are_lines before number [] h = tt
are_lines before number (line ∷ lines) h =
    let p = parts_of before number line lines h in
    (p.line_is, are_lines (behind before line) (number + 1) lines p.later)

not_too_long : (b : Bool) (r : Refusal) (rest : Option Refusal) → (if b then Some r else rest) ≡ None → (b ≡ false) × (rest ≡ None)
not_too_long true r rest e = cc
not_too_long false r rest e = (refl, e)

cheap : (b : Bool) (r : Refusal) → when b r ≡ None → b ≡ false
cheap true r e = cc
cheap false r e = refl

pub spelled : (bytes : List ℕ) (sections : List SaidSection) → Sentence bytes sections → Spelled bytes sections
spelled bytes sections s =
    let parts = not_too_long (nat_lt 1048576 (length bytes)) _ (option_or (fault_from nothing 1 (lines_of bytes)) (cost_fault (sections_said bytes))) s.faultless in
    let two = neither (fault_from nothing 1 (lines_of bytes)) (cost_fault (sections_said bytes)) parts.1 in
    let costs = cheap (nat_lt COST_MAX (session_cost (sections_said bytes))) _ two.1 in
    record {
      size = grind (arith, parts.0);
      lines = are_lines nothing 1 (lines_of bytes) two.0;
      headed = subst (λ all. IsHeaded (counted (lines_of bytes)) all) (sym s.says) (starts 1 (lines_of bytes) two.0);
      cost = subst (λ all. session_cost all ≤ COST_MAX) (sym s.says) (grind (arith, costs));
    }
