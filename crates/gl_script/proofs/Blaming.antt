-- The faults of a text are of the text: none of them is want of memory.
use Rattle.std.proofs.Common.{◌≡◌, ◌≢◌, ℕ, ◌+◌, ◌-◌, Bool, true, false, not, ◌&&◌, ◌||◌, nat_le, nat_lt, List, [], ◌∷◌, length, Option, None, Some, refl, subst}
use Rattle.std.specs.Prelude.{IsTrue, if◌then◌else◌, codes, is_some, nat_eq}
use Rattle.std.specs.Option.{option_or}
use Rattle.std.specs.Str.{bytes_eq}
use Rattle.gl_base.specs.declared.limits.TheConstants.{COST_MAX}
use Rattle.gl_base.specs.BytesText.{piece_size}
use Rattle.gl_base.specs.Refusals.{when, first_of}
use Rattle.gl_base.specs.Words.{Span, end_of, lines_of, text_at}
use Rattle.gl_script.specs.declared.refusal.RefusalKind.{RefusalKind}
use Rattle.gl_script.specs.declared.refusal.RefusalKind.TheVariants.{TooLong, Byte, Header, Section, Words, Word, Name, Limit, Cost, NoMemory}
use Rattle.gl_script.specs.declared.refusal.Spot.{Spot}
use Rattle.gl_script.specs.declared.refusal.Refusal.{Refusal}
use Rattle.gl_script.specs.declared.section.SectionKind.{SectionKind}
use Rattle.gl_script.specs.declared.section.SectionKind.TheVariants.{Setup, Actor, After}
use Rattle.gl_script.specs.declared.table.Form.{Form}
use Rattle.gl_script.specs.declared.table.Form.TheVariants.{FileName}
use Rattle.gl_script.specs.declared.table.Keyword.{Keyword}
use Rattle.gl_script.specs.declared.version.Version.{Version}
use Rattle.gl_script.specs.Blame.{FaultsAreOfTheText}
use Rattle.gl_script.specs.Columns.{columns}
use Rattle.gl_script.specs.Cost.{session_cost}
use Rattle.gl_script.specs.Faults.{spot, is_printable, byte_fault, size_fault, more_fault, forms_fault, name_fault, names_fault, as_fault, size_of, piece_fault, pieces_fault, bytes_fault, tail_fault, makes_file, statement_fault}
use Rattle.gl_script.specs.Forms.{meets}
use Rattle.gl_script.specs.Section.{SaidSection}
use Rattle.gl_script.specs.Sentence.{Before, nothing, is_counted, kind_of, is_actor, is_out_of_order, is_used, actor_count, actor_fault, head_fault, in_section_fault, section_fault, header_fault, version_of, versioned_fault, counted_fault, line_fault, behind, refusal_at, fault_from, sections_said, cost_fault, first_fault}
use Rattle.gl_script.specs.Table.{Tail, keyword_in, wanted, NoMore, Anything, FileNames, Pieces}

abbrev is_of_text : RefusalKind → Bool
is_of_text NoMemory = false
is_of_text _ = true

-- a fault, if there is one, is of the text
abbrev Fine : Option Spot → Type 0
Fine None = Unit {0}
Fine (Some fault) = IsTrue (is_of_text fault.kind)

abbrev FineRefusal : Option Refusal → Type 0
FineRefusal None = Unit {0}
FineRefusal (Some refusal) = IsTrue (is_of_text refusal.kind)

fine_or : (a b : Option Spot) → Fine a → Fine b → Fine (option_or a b)
fine_or None b p q = q
fine_or (Some a) b p q = p

fine_if : (test : Bool) (a b : Option Spot) → Fine a → Fine b → Fine (if test then a else b)
fine_if true a b p q = p
fine_if false a b p q = q

fine_when : (test : Bool) (fault : Spot) → IsTrue (is_of_text fault.kind) → Fine (when test fault)
fine_when true fault p = p
fine_when false fault p = tt

fine_byte : (at : ℕ) (line : List ℕ) → Fine (byte_fault at line)
fine_byte at [] = tt
fine_byte at (byte ∷ bytes) = fine_if (is_printable byte) (byte_fault (at + 1) bytes) (Some (spot at Byte)) (fine_byte (at + 1) bytes) refl

fine_size : (count : ℕ) (words : List Span) → Fine (size_fault count words)
fine_size count [] = tt
fine_size count (word ∷ words) = fine_if (nat_le 128 count || nat_lt 1300 (length word.text)) (Some (spot word.at Limit)) (size_fault (count + 1) words) refl (fine_size (count + 1) words)

fine_more : (words : List Span) → Fine (more_fault words)
fine_more [] = tt
fine_more (word ∷ words) = refl

fine_forms : (forms : List Form) (tail : ℕ → List Span → Option Spot) → ((end : ℕ) (words : List Span) → Fine (tail end words)) → (end : ℕ) (words : List Span) → Fine (forms_fault forms tail end words)
fine_forms [] tail p end words = p end words
fine_forms (form ∷ forms) tail p end [] = refl
fine_forms (form ∷ forms) tail p end (word ∷ words) =
    fine_if (meets form word.text) (forms_fault forms tail (end_of word) words) (Some (spot word.at Word)) (fine_forms forms tail p (end_of word) words) refl

fine_name : (end : ℕ) (words : List Span) → Fine (name_fault end words)
fine_name end words = fine_forms (FileName ∷ []) (λ _. more_fault) (λ _. fine_more) end words

fine_names : (most : ℕ) (words : List Span) → Fine (names_fault most words)
fine_names most [] = tt
fine_names most (word ∷ words) =
    let more = if meets FileName word.text then names_fault (most - 1) words else Some (spot word.at Word) in
    fine_if (nat_eq most 0) (Some (spot word.at Words)) more refl
    (fine_if (meets FileName word.text) (names_fault (most - 1) words) (Some (spot word.at Word)) (fine_names (most - 1) words) refl)

fine_as : (end : ℕ) (words : List Span) → Fine (as_fault end words)
fine_as end [] = refl
fine_as end (word ∷ words) = fine_if (bytes_eq word.text (codes "as")) (name_fault (end_of word) words) (Some (spot word.at Word)) (fine_name (end_of word) words) refl

fine_piece : (said at : ℕ) (size : Option ℕ) → Fine (piece_fault said at size)
fine_piece said at None = refl
fine_piece said at (Some size) = fine_if (nat_lt 1024 (said + size)) (Some (spot at Limit)) None refl tt

fine_pieces : (makes : Bool) (said end : ℕ) (words : List Span) → Fine (pieces_fault makes said end words)
fine_pieces makes said end [] = fine_if makes (Some (spot end Words)) None refl tt
fine_pieces makes said end (word ∷ words) =
    let more = pieces_fault makes (said + size_of (piece_size word.text)) (end_of word) words in
    fine_if (makes && bytes_eq word.text (codes "as")) (name_fault (end_of word) words) (option_or (piece_fault said word.at (piece_size word.text)) more)
    (fine_name (end_of word) words)
    (fine_or (piece_fault said word.at (piece_size word.text)) more (fine_piece said word.at (piece_size word.text)) (fine_pieces makes (said + size_of (piece_size word.text)) (end_of word) words))

fine_bytes : (makes : Bool) (end : ℕ) (words : List Span) → Fine (bytes_fault makes end words)
fine_bytes makes end [] = refl
fine_bytes makes end (word ∷ words) =
    let more = pieces_fault makes (0 + size_of (piece_size word.text)) (end_of word) words in
    fine_if (bytes_eq word.text (codes "-")) (if makes then as_fault (end_of word) words else more_fault words) (option_or (piece_fault 0 word.at (piece_size word.text)) more)
    (fine_if makes (as_fault (end_of word) words) (more_fault words) (fine_as (end_of word) words) (fine_more words))
    (fine_or (piece_fault 0 word.at (piece_size word.text)) more (fine_piece 0 word.at (piece_size word.text)) (fine_pieces makes (0 + size_of (piece_size word.text)) (end_of word) words))

fine_tail : (tail : Tail) (end : ℕ) (words : List Span) → Fine (tail_fault tail end words)
fine_tail NoMore end words = fine_more words
fine_tail Anything end words = tt
fine_tail (FileNames most) end words = fine_names most words
fine_tail (Pieces makes) end words = fine_bytes makes end words

fine_statement : (version : Version) (keyword : Option Keyword) (first : Span) (words : List Span) → Fine (statement_fault version keyword first words)
fine_statement version None first words = refl
fine_statement version (Some keyword) first words =
    let row = wanted version keyword (text_at 0 words) (makes_file keyword words) in
    fine_forms row.forms (tail_fault row.tail) (fine_tail row.tail) (end_of first) words

fine_actor : (before : Before) (end : ℕ) (words : List Span) → Fine (actor_fault before end words)
fine_actor before end [] = refl
fine_actor before end (word ∷ words) =
    let form = when (not (meets FileName word.text)) (spot word.at Word) in
    let used = when (is_used word.text before) (spot word.at Name) in
    fine_or form (first_of (used ∷ more_fault words ∷ [])) (fine_when (not (meets FileName word.text)) (spot word.at Word) refl)
    (fine_or used (first_of (more_fault words ∷ [])) (fine_when (is_used word.text before) (spot word.at Name) refl)
    (fine_or (more_fault words) None (fine_more words) tt))

fine_head : (kind : SectionKind) (before : Before) (end : ℕ) (words : List Span) → Fine (head_fault kind before end words)
fine_head Setup before end words = fine_more words
fine_head Actor before end words = fine_actor before end words
fine_head After before end words = fine_more words

fine_in_section : (version : Option Version) (current : Option SaidSection) (first : Span) (words : List Span) → Fine (in_section_fault version current first words)
fine_in_section None current first words = refl
fine_in_section (Some version) None first words = refl
fine_in_section (Some version) (Some section) first words = fine_statement version (keyword_in version first.text) first words

fine_section : (kind : Option SectionKind) (before : Before) (first : Span) (words : List Span) → Fine (section_fault kind before first words)
fine_section None before first words = fine_in_section before.version before.current first words
fine_section (Some kind) before first words =
    let order = when (is_out_of_order kind before.current) (spot first.at Section) in
    let many = when (is_actor kind && nat_le 16 (actor_count before)) (spot first.at Limit) in
    let head = head_fault kind before (end_of first) words in
    fine_or order (first_of (many ∷ head ∷ [])) (fine_when (is_out_of_order kind before.current) (spot first.at Section) refl)
    (fine_or many (first_of (head ∷ [])) (fine_when (is_actor kind && nat_le 16 (actor_count before)) (spot first.at Limit) refl)
    (fine_or head None (fine_head kind before (end_of first) words) tt))

fine_header : (version : Option Version) (first : Span) → Fine (header_fault version first)
fine_header None first = refl
fine_header (Some version) first = tt

fine_versioned : (version : Option Version) (before : Before) (first : Span) (words : List Span) → Fine (versioned_fault version before first words)
fine_versioned None before first words = fine_header (version_of (first ∷ words)) first
fine_versioned (Some version) before first words = fine_section (kind_of first.text) before first words

fine_counted : (before : Before) (words : List Span) → Fine (counted_fault before words)
fine_counted before [] = tt
fine_counted before (first ∷ words) = fine_versioned before.version before first words

fine_line : (before : Before) (text : List ℕ) → Fine (line_fault before text)
fine_line before text =
    let words = if is_counted (columns text) then counted_fault before (columns text) else None in
    fine_or (byte_fault 1 text) (first_of (size_fault 0 (columns text) ∷ words ∷ [])) (fine_byte 1 text)
    (fine_or (size_fault 0 (columns text)) (first_of (words ∷ [])) (fine_size 0 (columns text))
    (fine_or words None (fine_if (is_counted (columns text)) (counted_fault before (columns text)) None (fine_counted before (columns text)) tt) tt))

fine_at : (number : ℕ) (fault : Option Spot) → Fine fault → FineRefusal (refusal_at number fault)
fine_at number None p = tt
fine_at number (Some fault) p = p

either : (a b : Option Refusal) → FineRefusal a → FineRefusal b → FineRefusal (option_or a b)
either None b p q = q
either (Some a) b p q = p

if_fine : (test : Bool) (a b : Option Refusal) → FineRefusal a → FineRefusal b → FineRefusal (if test then a else b)
if_fine true a b p q = p
if_fine false a b p q = q

when_fine : (test : Bool) (refusal : Refusal) → IsTrue (is_of_text refusal.kind) → FineRefusal (when test refusal)
when_fine true refusal p = p
when_fine false refusal p = tt

fine_from : (before : Before) (number : ℕ) (lines : List Span) → FineRefusal (fault_from before number lines)
fine_from before number [] = when_fine (not (is_some before.version)) (record { line = 1; column = 1; kind = Header }) refl
fine_from before number (line ∷ lines) =
    either (refusal_at number (line_fault before line.text)) (fault_from (behind before line) (number + 1) lines)
    (fine_at number (line_fault before line.text) (fine_line before line.text)) (fine_from (behind before line) (number + 1) lines)

fine_text : (bytes : List ℕ) → FineRefusal (first_fault bytes)
fine_text bytes =
    let rest = option_or (fault_from nothing 1 (lines_of bytes)) (cost_fault (sections_said bytes)) in
    if_fine (nat_lt 1048576 (length bytes)) (Some (record { line = 0; column = 0; kind = TooLong })) rest refl
    (either (fault_from nothing 1 (lines_of bytes)) (cost_fault (sections_said bytes)) (fine_from nothing 1 (lines_of bytes))
    (when_fine (nat_lt COST_MAX (session_cost (sections_said bytes))) (record { line = 0; column = 0; kind = Cost }) refl))

other : (kind : RefusalKind) → IsTrue (is_of_text kind) → kind ≢ NoMemory
other kind p e = let h : false ≡ true = subst (λ k. IsTrue (is_of_text k)) e p in cc

pub faults_are_of_the_text : FaultsAreOfTheText
faults_are_of_the_text bytes refusal e = other refusal.kind (subst FineRefusal e (fine_text bytes))
