-- What is spelled has no fault, and the fold gives its sections.
use Rattle.std.proofs.Common.{◌≡◌, ◌≤◌, ◌+◌, ℕ, Bool, true, false, cond, not, nat_lt, List, [], ◌∷◌, ◌++◌, length, Option, None, Some, refl, sym, ◌∙◌, ap, subst, append_assoc, arith}
use Rattle.std.specs.Prelude.{if◌then◌else◌}
use Rattle.std.specs.Option.{option_or}
use Rattle.std.proofs.lemmas.List.{append-nil}
use Rattle.gl_base.specs.declared.limits.TheConstants.{COST_MAX}
use Rattle.gl_base.specs.Refusals.{when, first_of}
use Rattle.gl_base.specs.Rows.{Each}
use Rattle.gl_script.specs.declared.refusal.Spot.{Spot}
use Rattle.gl_script.specs.declared.refusal.Refusal.{Refusal}
use Rattle.gl_script.specs.declared.section.SectionKind.{SectionKind}
use Rattle.gl_base.specs.Words.{Span, lines_of}
use Rattle.gl_base.specs.Words.{text_at}
use Rattle.gl_script.specs.declared.version.Version.{Version}
use Rattle.gl_script.specs.Faults.{byte_fault, size_fault, statement_fault}
use Rattle.gl_script.specs.Cost.{session_cost}
use Rattle.gl_script.specs.Table.{keyword_in}
use Rattle.gl_script.specs.Section.{SaidSection}
use Rattle.gl_script.specs.Columns.{columns}
use Rattle.gl_script.specs.Sentence.{Before, nothing, is_comment, is_counted, kind_of, header_fault, section_fault, counted_fault, line_fault, behind_head, behind_counted, behind, behind_all, fault_from, refusal_at, sections_in, sections_said, cost_fault, version_of, Sentence}
use Rattle.gl_script.specs.Spelled.{IsLine, counted, AreStatement, IsStatement, behind_header, AreHead, IsSections, IsHeaded, Spelled}

both : {X : Type 0} (a b : Option X) → a ≡ None → b ≡ None → option_or a b ≡ None
both a b e f = rw e f

no_fault : (number : ℕ) (fault : Option Spot) → fault ≡ None → refusal_at number fault ≡ None
no_fault number fault e = rw e refl

abbrev added : SaidSection → List Span → SaidSection
added s more = record { kind = s.kind; name = s.name; statements = s.statements ++ more }

abbrev with_all : SaidSection → List Span → SaidSection
with_all s all = record { kind = s.kind; name = s.name; statements = all }

added_nil : (s : SaidSection) → added s [] ≡ s
added_nil s = ap (with_all s) (append-nil s.statements)

added_more : (s : SaidSection) (line : Span) (more : List Span) → added (added s (line ∷ [])) more ≡ added s (line ∷ more)
added_more s line more = ap (with_all s) (append_assoc s.statements (line ∷ []) more)

pub record GoesOn (version : Version) (complete : List SaidSection) (section : SaidSection) (lines : List Span) (all : List SaidSection) : Type 0 where
  pub more : List Span
  pub rest : List Span
  pub sections : List SaidSection
  pub split : lines ≡ more ++ rest
  pub each : Each (IsStatement version) more
  pub spelled : IsSections version complete (Some (added section more)) rest sections
  pub whole : all ≡ complete ++ added section more ∷ sections

abbrev pub counted_from : List Span → Span → List Span → List Span
counted_from words line lines = cond (is_counted words) (line ∷ counted lines) (counted lines)

abbrev pub behind_words : Before → Span → List Span → Before
behind_words before line words = cond (is_counted words) (behind_counted before line words) before

abbrev words_fault : Before → List Span → Option Spot
words_fault before words = if is_counted words then counted_fault before words else None

-- lines without a fault, whose sections are these
pub record Comes (before : Before) (number : ℕ) (lines : List Span) (all : List SaidSection) : Type 0 where
  pub faultless : fault_from before number lines ≡ None
  pub says : sections_in (behind_all before lines) ≡ all

-- a line without a fault, and what comes behind it
pub record Passes (before behind : Before) (fault : Option Spot) (number : ℕ) (lines : List Span) (all : List SaidSection) : Type 0 where
  pub none : fault ≡ None
  pub later : Comes behind number lines all

head_of : (line r : Span) (xs ys : List Span) → line ∷ xs ≡ r ∷ ys → line ≡ r
head_of line r xs ys e = cc

tail_of : (line r : Span) (xs ys : List Span) → line ∷ xs ≡ r ∷ ys → xs ≡ ys
tail_of line r xs ys e = cc

line_passes : (before : Before) (number : ℕ) (line : Span) (lines : List Span) (all : List SaidSection) → IsLine line
    → Passes before (behind before line) (words_fault before (columns line.text)) (number + 1) lines all → Comes before number (line ∷ lines) all
line_passes before number line lines all is p =
    let words : first_of (words_fault before (columns line.text) ∷ []) ≡ None = both (words_fault before (columns line.text)) None p.none refl in
    let sizes = both (size_fault 0 (columns line.text)) (first_of (words_fault before (columns line.text) ∷ [])) is.fits words in
    let bytes : line_fault before line.text ≡ None = both (byte_fault 1 line.text) (first_of (size_fault 0 (columns line.text) ∷ words_fault before (columns line.text) ∷ [])) is.printable sizes in
    record {
      faultless = both (refusal_at number (line_fault before line.text)) (fault_from (behind before line) (number + 1) lines) (no_fault number (line_fault before line.text) bytes) p.later.faultless;
      says = p.later.says;
    }

ends : (version : Version) (complete : List SaidSection) (section : SaidSection) (all : List SaidSection) (more rest : List Span) (sections : List SaidSection) → [] ≡ more ++ rest
    → IsSections version complete (Some (added section more)) rest sections → all ≡ complete ++ added section more ∷ sections → complete ++ section ∷ [] ≡ all
ends version complete section all [] [] [] e s w = ap (λ x. complete ++ x ∷ []) (sym (added_nil section)) ∙ sym w
ends version complete section all [] [] (x ∷ xs) e s w = absurd s
ends version complete section all [] (r ∷ rs) sections e s w = cc
ends version complete section all (m ∷ ms) rest sections e s w = cc

module _ (version : Version) (complete : List SaidSection) (section : SaidSection) (number : ℕ) (line : Span) (lines : List Span) (all : List SaidSection)
    (later : (complete : List SaidSection) (section : SaidSection) → GoesOn version complete section (counted lines) all → Comes (behind_header version complete (Some section)) number lines all) where
  -- by the kind of section that the first word begins
  by_none : (first : Span) (words : List Span) (kind : Option SectionKind) → kind ≡ None → statement_fault version (keyword_in version first.text) first words ≡ None
      → Comes (behind_header version complete (Some (added section (line ∷ [])))) number lines all
      → Passes (behind_header version complete (Some section)) (behind_head kind (behind_header version complete (Some section)) line words) (section_fault kind (behind_header version complete (Some section)) first words) number lines all
  by_none first words None k f c = record { none = f; later = c }
  by_none first words (Some kind) k f c = cc

  by_some : (first : Span) (words : List Span) (kind : Option SectionKind) (of : SectionKind) → kind ≡ Some of → section_fault (Some of) (behind_header version complete (Some section)) first words ≡ None
      → Comes (behind_header version (complete ++ section ∷ []) (Some (record { kind = of; name = text_at 0 words; statements = [] }))) number lines all
      → Passes (behind_header version complete (Some section)) (behind_head kind (behind_header version complete (Some section)) line words) (section_fault kind (behind_header version complete (Some section)) first words) number lines all
  by_some first words kind of k f c =
      subst (λ x. Passes (behind_header version complete (Some section)) (behind_head x (behind_header version complete (Some section)) line words) (section_fault x (behind_header version complete (Some section)) first words) number lines all)
      (sym k) (record { none = f; later = c })

  -- a head
  heads : (first : Span) (words : List Span) → first ∷ words ≡ columns line.text → (r : Span) (rs : List Span) (s : SaidSection) (ss : List SaidSection)
      → line ≡ r → counted lines ≡ rs
      → IsSections version complete (Some (added section [])) (r ∷ rs) (s ∷ ss) → all ≡ complete ++ added section [] ∷ s ∷ ss
      → Passes (behind_header version complete (Some section)) (behind_head (kind_of first.text) (behind_header version complete (Some section)) line words) (section_fault (kind_of first.text) (behind_header version complete (Some section)) first words) number lines all
  heads first words e r rs s ss er es sp w =
      let words_same : columns r.text ≡ first ∷ words = ap (λ x. columns x.text) (sym er) ∙ sym e in
      let head : AreHead (behind_header version complete (Some (added section []))) s (first ∷ words) = subst (AreHead (behind_header version complete (Some (added section []))) s) words_same sp.0 in
      let same = added_nil section in
      let fault : section_fault (Some s.kind) (behind_header version complete (Some section)) first words ≡ None =
      subst (λ x. section_fault (Some s.kind) (behind_header version complete (Some x)) first words ≡ None) same head.2 in
      let new : SaidSection = record { kind = s.kind; name = text_at 0 words; statements = [] } in
      let s_is : s ≡ added new s.statements = ap (λ (n : List ℕ). record { kind = s.kind; name = n; statements = s.statements }) head.1 in
      let spelled_s : IsSections version (complete ++ section ∷ []) (Some s) sp.1 ss = subst (λ x. IsSections version (complete ++ x ∷ []) (Some s) sp.1 ss) same sp.4 in
      by_some first words (kind_of first.text) s.kind head.0 fault
      (later (complete ++ section ∷ []) new (record {
        more = s.statements;
        rest = sp.1;
        sections = ss;
        split = es ∙ sp.2;
        each = sp.3;
        spelled = subst (λ x. IsSections version (complete ++ section ∷ []) (Some x) sp.1 ss) s_is spelled_s;
        whole = w ∙ ap (λ x. complete ++ x ∷ s ∷ ss) same ∙ sym (append_assoc complete (section ∷ []) (s ∷ ss)) ∙ ap (λ x. (complete ++ section ∷ []) ++ x ∷ ss) s_is;
      }))

  by_rest : (first : Span) (words : List Span) → first ∷ words ≡ columns line.text → (rest : List Span) (sections : List SaidSection)
      → line ∷ counted lines ≡ rest
      → IsSections version complete (Some (added section [])) rest sections → all ≡ complete ++ added section [] ∷ sections
      → Passes (behind_header version complete (Some section)) (behind_head (kind_of first.text) (behind_header version complete (Some section)) line words) (section_fault (kind_of first.text) (behind_header version complete (Some section)) first words) number lines all
  by_rest first words e [] sections split sp w = cc
  by_rest first words e (r ∷ rs) [] split sp w = cc
  by_rest first words e (r ∷ rs) (s ∷ ss) split sp w = heads first words e r rs s ss (head_of line r (counted lines) rs split) (tail_of line r (counted lines) rs split) sp w

  by_more : (first : Span) (words : List Span) → first ∷ words ≡ columns line.text → (more rest : List Span) (sections : List SaidSection)
      → line ∷ counted lines ≡ more ++ rest → Each (IsStatement version) more
      → IsSections version complete (Some (added section more)) rest sections → all ≡ complete ++ added section more ∷ sections
      → Passes (behind_header version complete (Some section)) (behind_head (kind_of first.text) (behind_header version complete (Some section)) line words) (section_fault (kind_of first.text) (behind_header version complete (Some section)) first words) number lines all
  by_more first words e [] rest sections split each sp w = by_rest first words e rest sections split sp w
  by_more first words e (m ∷ ms) rest sections split each sp w =
      let em = head_of line m (counted lines) (ms ++ rest) split in
      let words_same : columns m.text ≡ first ∷ words = ap (λ x. columns x.text) (sym em) ∙ sym e in
      let statement : AreStatement version (first ∷ words) = subst (AreStatement version) words_same each.0 in
      let same : added section (m ∷ ms) ≡ added (added section (line ∷ [])) ms = ap (λ x. added section (x ∷ ms)) (sym em) ∙ sym (added_more section line ms) in
      by_none first words (kind_of first.text) statement.0 statement.1
      (later complete (added section (line ∷ [])) (record {
        more = ms;
        rest = rest;
        sections = sections;
        split = tail_of line m (counted lines) (ms ++ rest) split;
        each = each.1;
        spelled = subst (λ x. IsSections version complete (Some x) rest sections) same sp;
        whole = w ∙ ap (λ x. complete ++ x ∷ sections) same;
      }))

  by_comment : (first : Span) (words : List Span) → first ∷ words ≡ columns line.text → (b : Bool)
      → GoesOn version complete section (cond (not b) (line ∷ counted lines) (counted lines)) all
      → Passes (behind_header version complete (Some section)) (cond (not b) (behind_counted (behind_header version complete (Some section)) line (first ∷ words)) (behind_header version complete (Some section)))
      (if not b then counted_fault (behind_header version complete (Some section)) (first ∷ words) else None) number lines all
  by_comment first words e true on = record { none = refl; later = later complete section on }
  by_comment first words e false on = by_more first words e on.more on.rest on.sections on.split on.each on.spelled on.whole

  by_words : (words : List Span) → words ≡ columns line.text → GoesOn version complete section (counted_from words line lines) all
      → Passes (behind_header version complete (Some section)) (behind_words (behind_header version complete (Some section)) line words) (words_fault (behind_header version complete (Some section)) words) number lines all
  by_words [] e on = record { none = refl; later = later complete section on }
  by_words (first ∷ words) e on = by_comment first words e (is_comment first.text) on

comes_on : (version : Version) (complete : List SaidSection) (section : SaidSection) (number : ℕ) (lines : List Span) (all : List SaidSection) → Each IsLine lines → GoesOn version complete section (counted lines) all
    → Comes (behind_header version complete (Some section)) number lines all
comes_on version complete section number [] all is on = record { faultless = refl; says = ends version complete section all on.more on.rest on.sections on.split on.spelled on.whole }
comes_on version complete section number (line ∷ lines) all is on =
    line_passes (behind_header version complete (Some section)) number line lines all is.0
    (by_words version complete section (number + 1) line lines all (λ c s. comes_on version c s (number + 1) lines all is.1) (columns line.text) refl on)

-- behind the header
no_sections : (version : Version) (sections : List SaidSection) → IsSections version [] None [] sections → [] ≡ sections
no_sections version [] s = refl
no_sections version (x ∷ xs) s = absurd s

module _ (version : Version) (number : ℕ) (line : Span) (lines : List Span) (all : List SaidSection) (is : Each IsLine lines)
    (later : IsSections version [] None (counted lines) all → Comes (behind_header version [] None) number lines all) where
  first_head : (first : Span) (words : List Span) → first ∷ words ≡ columns line.text → (sections : List SaidSection) → all ≡ sections
      → IsSections version [] None (line ∷ counted lines) sections
      → Passes (behind_header version [] None) (behind_head (kind_of first.text) (behind_header version [] None) line words) (section_fault (kind_of first.text) (behind_header version [] None) first words) number lines all
  first_head first words e [] a sp = cc
  first_head first words e (s ∷ ss) a sp =
      let head : AreHead (behind_header version [] None) s (first ∷ words) = subst (AreHead (behind_header version [] None) s) (sym e) sp.0 in
      let new : SaidSection = record { kind = s.kind; name = text_at 0 words; statements = [] } in
      let s_is : s ≡ added new s.statements = ap (λ (n : List ℕ). record { kind = s.kind; name = n; statements = s.statements }) head.1 in
      subst (λ x. Passes (behind_header version [] None) (behind_head x (behind_header version [] None) line words) (section_fault x (behind_header version [] None) first words) number lines all)
      (sym head.0)
      (record {
        none = head.2;
        later = comes_on version [] new number lines all is (record {
          more = s.statements;
          rest = sp.1;
          sections = ss;
          split = sp.2;
          each = sp.3;
          spelled = subst (λ x. IsSections version [] (Some x) sp.1 ss) s_is sp.4;
          whole = a ∙ ap (λ x. x ∷ ss) s_is;
        });
      })

  first_comment : (first : Span) (words : List Span) → first ∷ words ≡ columns line.text → (b : Bool)
      → IsSections version [] None (cond (not b) (line ∷ counted lines) (counted lines)) all
      → Passes (behind_header version [] None) (cond (not b) (behind_counted (behind_header version [] None) line (first ∷ words)) (behind_header version [] None))
      (if not b then counted_fault (behind_header version [] None) (first ∷ words) else None) number lines all
  first_comment first words e true sp = record { none = refl; later = later sp }
  first_comment first words e false sp = first_head first words e all refl sp

  first_words : (words : List Span) → words ≡ columns line.text → IsSections version [] None (counted_from words line lines) all
      → Passes (behind_header version [] None) (behind_words (behind_header version [] None) line words) (words_fault (behind_header version [] None) words) number lines all
  first_words [] e sp = record { none = refl; later = later sp }
  first_words (first ∷ words) e sp = first_comment first words e (is_comment first.text) sp

comes_first : (version : Version) (number : ℕ) (lines : List Span) (all : List SaidSection) → Each IsLine lines → IsSections version [] None (counted lines) all → Comes (behind_header version [] None) number lines all
comes_first version number [] all is sp = record { faultless = refl; says = no_sections version all sp }
comes_first version number (line ∷ lines) all is sp =
    line_passes (behind_header version [] None) number line lines all is.0
    (first_words version (number + 1) line lines all is.1 (comes_first version (number + 1) lines all is.1) (columns line.text) refl sp)

-- the header
header_fine : (first : Span) (o : Option Version) (version : Version) → o ≡ Some version → header_fault o first ≡ None
header_fine first None version e = cc
header_fine first (Some other) version e = refl

-- what stands behind it
abbrev behind_said : Option Version → Before
behind_said o = record { version = o; complete = []; current = None }

module _ (number : ℕ) (line : Span) (lines : List Span) (all : List SaidSection) (is : Each IsLine lines)
    (later : IsHeaded (counted lines) all → Comes nothing number lines all) where
  start_comment : (first : Span) (words : List Span) → first ∷ words ≡ columns line.text → (b : Bool)
      → IsHeaded (cond (not b) (line ∷ counted lines) (counted lines)) all
      → Passes nothing (cond (not b) (behind_counted nothing line (first ∷ words)) nothing) (if not b then counted_fault nothing (first ∷ words) else None) number lines all
  start_comment first words e true h = record { none = refl; later = later h }
  start_comment first words e false h =
      let says : version_of (first ∷ words) ≡ Some h.0 = ap version_of e ∙ h.1 in
      record {
        none = header_fine first (version_of (first ∷ words)) h.0 says;
        later = subst (λ o. Comes (behind_said o) number lines all) (sym says) (comes_first h.0 number lines all is h.2);
      }

  start_words : (words : List Span) → words ≡ columns line.text → IsHeaded (counted_from words line lines) all
      → Passes nothing (behind_words nothing line words) (words_fault nothing words) number lines all
  start_words [] e h = record { none = refl; later = later h }
  start_words (first ∷ words) e h = start_comment first words e (is_comment first.text) h

comes : (number : ℕ) (lines : List Span) (all : List SaidSection) → Each IsLine lines → IsHeaded (counted lines) all → Comes nothing number lines all
comes number [] all is h = absurd h
comes number (line ∷ lines) all is h =
    line_passes nothing number line lines all is.0
    (start_words (number + 1) line lines all is.1 (comes (number + 1) lines all is.1) (columns line.text) refl h)

short : (b : Bool) (r : Refusal) (rest : Option Refusal) → b ≡ false → rest ≡ None → (if b then Some r else rest) ≡ None
short true r rest e h = cc
short false r rest e h = h

free : (b : Bool) (r : Refusal) → b ≡ false → when b r ≡ None
free true r e = cc
free false r e = refl

pub sentence : (bytes : List ℕ) (sections : List SaidSection) → Spelled bytes sections → Sentence bytes sections
sentence bytes sections s =
    let c = comes 1 (lines_of bytes) sections s.lines s.headed in
    let size : nat_lt 1048576 (length bytes) ≡ false = grind (arith, s.size) in
    let within : session_cost (sections_said bytes) ≤ COST_MAX = subst (λ all. session_cost all ≤ COST_MAX) (sym c.says) s.cost in
    let cheap : nat_lt COST_MAX (session_cost (sections_said bytes)) ≡ false = grind (arith, within) in
    let costs : cost_fault (sections_said bytes) ≡ None = free (nat_lt COST_MAX (session_cost (sections_said bytes))) _ cheap in
    record {
      faultless = short (nat_lt 1048576 (length bytes)) _ (option_or (fault_from nothing 1 (lines_of bytes)) (cost_fault (sections_said bytes))) size
          (both (fault_from nothing 1 (lines_of bytes)) (cost_fault (sections_said bytes)) c.faultless costs);
      says = sym c.says;
    }
