-- The lines that are accepted one after the other are a session.
use Rattle.std.proofs.Common.{◌≡◌, ◌≤◌, ◌+◌, ◌⊎◌, inl, inr, ℕ, Bool, true, false, not, nat_lt, List, [], ◌∷◌, length, Option, None, Some, refl, sym, ◌∙◌, ap, subst, arith}
use Rattle.std.specs.Prelude.{if◌then◌else◌, Result, Ok, Err}
use Rattle.std.specs.Option.{option_or}
use Rattle.std.proofs.lemmas.Bool.Decides.{nat_tests}
use Rattle.gl_base.specs.declared.limits.TheConstants.{COST_MAX}
use Rattle.gl_base.specs.Refusals.{when}
use Rattle.gl_base.specs.Words.{Span, lines_of}
use Rattle.gl_script.specs.declared.limits.TheConstants.{SESSION_MAX}
use Rattle.gl_script.specs.declared.refusal.RefusalKind.TheVariants.{Section as SectionFault}
use Rattle.gl_script.specs.declared.refusal.Spot.{Spot}
use Rattle.gl_script.specs.declared.refusal.Refusal.{Refusal}
use Rattle.gl_script.specs.declared.section.SectionKind.{SectionKind}
use Rattle.gl_script.specs.declared.section.SectionKind.TheVariants.{Setup as SetupSection, Actor, After}
use Rattle.gl_script.specs.declared.served.Stage.{Stage}
use Rattle.gl_script.specs.declared.served.Stage.TheVariants.{Opening, Headed, Open}
use Rattle.gl_script.specs.declared.version.Version.{Version}
use Rattle.gl_script.specs.Columns.{columns}
use Rattle.gl_script.specs.Cost.{session_cost}
use Rattle.gl_script.specs.Faults.{byte_fault, more_fault, size_fault, spot, statement_fault}
use Rattle.gl_script.specs.Sentence.{Before, behind, behind_all, behind_counted, behind_head, cost_fault, counted_fault, end_fault, fault_from, header_fault, is_comment, is_counted, kind_of, line_fault, nothing, refusal_at, section_fault, sections_in, sections_said, version_of}
use Rattle.gl_script.specs.Served.{Kind, Passed, Header, Setup, Statement, headed_kind, kind_at, line_kind, open_kind, opening_kind, stage_after, unless, words_kind}
use Rattle.gl_script.specs.ServedLines.{Accepted, AcceptedLinesHaveNoFault, AcceptedTextsAreSessions, RefusedLinesHaveTheirFault, accepts, accepts_all, said_behind, setup_of, stands}
use Rattle.gl_script.specs.Spelled.{behind_header}
use Rattle.gl_script.specs.Table.{keyword_in}

-- of a kind unless there is a fault
unless_ok : (o : Option Spot) (r : Result Kind Spot) (kind : Kind) → unless o r ≡ Ok kind → (o ≡ None) × (r ≡ Ok kind)
unless_ok None r kind e = (refl, e)
unless_ok (Some fault) r kind e = cc

unless_err : (o : Option Spot) (r : Result Kind Spot) (fault : Spot) → unless o r ≡ Err fault → (o ≡ Some fault) ⊎ ((o ≡ None) × (r ≡ Err fault))
unless_err None r fault e = inr (refl, e)
unless_err (Some other) r fault e = inl (let same : other ≡ fault = cc in ap Some same)

abbrev Same : Result Kind Spot → Result Kind Spot → Type 0
Same a b = a ≡ b

same_kind : (a b : Kind) → Same (Ok a) (Ok b) → a ≡ b
same_kind a b e = cc

abbrev words_fault : Before → List Span → Option Spot
words_fault before words = if is_counted words then counted_fault before words else None

abbrev words_behind : Before → Span → List Span → Before
words_behind before line words = if is_counted words then behind_counted before line words else before

-- a line goes on where it has no fault, and leads to the next stage
abbrev GoesOn : Stage → List Span → Span → Kind → Option Spot → Before → Type 0
GoesOn stage said line kind fault after = (fault ≡ None) × (after ≡ stands (stage_after stage kind) (said_behind kind line said))

passed : (stage : Stage) (said : List Span) (line : Span) (kind : Kind) → Passed ≡ kind → GoesOn stage said line kind None (stands stage said)
passed stage said line kind e = subst (λ k. GoesOn stage said line k None (stands stage said)) e (refl, refl)

opening : (version : Option Version) (first : Span) (said : List Span) (line : Span) (kind : Kind) → opening_kind version first ≡ Ok kind
    → GoesOn Opening said line kind (header_fault version first) (record { version = version; complete = []; current = None })
opening None first said line kind e = cc
opening (Some version) first said line kind e =
    subst (λ k. GoesOn Opening said line k None (behind_header version [] None)) (same_kind (Header version) kind e) (refl, refl)

headed : (version : Version) (o : Option SectionKind) (first : Span) (words said : List Span) (line : Span) (kind : Kind) → headed_kind o first words ≡ Ok kind
    → GoesOn (Headed version) said line kind (section_fault o (stands (Headed version) said) first words) (behind_head o (stands (Headed version) said) line words)
headed version None first words said line kind e = cc
headed version (Some SetupSection) first [] said line kind e =
    subst (λ k. GoesOn (Headed version) said line k (section_fault (Some SetupSection) (stands (Headed version) said) first []) (behind_head (Some SetupSection) (stands (Headed version) said) line [])) (same_kind Setup kind e) (refl, refl)
headed version (Some SetupSection) first (word ∷ words) said line kind e = cc
headed version (Some Actor) first words said line kind e = cc
headed version (Some After) first words said line kind e = cc

among : (version : Version) (o : Option SectionKind) (first : Span) (words said : List Span) (line : Span) (kind : Kind) → open_kind version o first words ≡ Ok kind
    → GoesOn (Open version) said line kind (section_fault o (stands (Open version) said) first words) (behind_head o (stands (Open version) said) line words)
among version None first words said line kind e =
    let parts = unless_ok (statement_fault version (keyword_in version first.text) first words) (Ok Statement) kind e in
    subst (λ k. GoesOn (Open version) said line k (section_fault None (stands (Open version) said) first words) (behind_head None (stands (Open version) said) line words)) (same_kind Statement kind parts.1) (parts.0, refl)
among version (Some section) first words said line kind e = cc

at_stage : (stage : Stage) (first : Span) (words said : List Span) (line : Span) (kind : Kind) → kind_at stage first words ≡ Ok kind
    → GoesOn stage said line kind (counted_fault (stands stage said) (first ∷ words)) (behind_counted (stands stage said) line (first ∷ words))
at_stage Opening first words said line kind e = opening (version_of (first ∷ words)) first said line kind e
at_stage (Headed version) first words said line kind e = headed version (kind_of first.text) first words said line kind e
at_stage (Open version) first words said line kind e = among version (kind_of first.text) first words said line kind e

comment_or : (b : Bool) (stage : Stage) (first : Span) (words said : List Span) (line : Span) (kind : Kind)
    → (if b then Ok Passed else kind_at stage first words) ≡ Ok kind
    → GoesOn stage said line kind (if not b then counted_fault (stands stage said) (first ∷ words) else None) (if not b then behind_counted (stands stage said) line (first ∷ words) else stands stage said)
comment_or true stage first words said line kind e = passed stage said line kind (same_kind Passed kind e)
comment_or false stage first words said line kind e = at_stage stage first words said line kind e

of_words : (stage : Stage) (words said : List Span) (line : Span) (kind : Kind) → words_kind stage words ≡ Ok kind
    → GoesOn stage said line kind (words_fault (stands stage said) words) (words_behind (stands stage said) line words)
of_words stage [] said line kind e = passed stage said line kind (same_kind Passed kind e)
of_words stage (first ∷ words) said line kind e = comment_or (is_comment first.text) stage first words said line kind e

-- the first of three faults
none_of : (a b c : Option Spot) → a ≡ None → b ≡ None → c ≡ None → option_or a (option_or b (option_or c None)) ≡ None
none_of a b c e f g = rw (e, f, g) refl

pub accepted_lines_have_no_fault : AcceptedLinesHaveNoFault
accepted_lines_have_no_fault stage said line kind e =
    let bytes = unless_ok (byte_fault 1 line.text) (unless (size_fault 0 (columns line.text)) (words_kind stage (columns line.text))) kind e in
    let sizes = unless_ok (size_fault 0 (columns line.text)) (words_kind stage (columns line.text)) kind bytes.1 in
    let words = of_words stage (columns line.text) said line kind sizes.1 in
    (none_of (byte_fault 1 line.text) (size_fault 0 (columns line.text)) (words_fault (stands stage said) (columns line.text)) bytes.0 sizes.0 words.0, words.1)

-- what is refused
abbrev Refuses : Option Spot → Spot → Type 0
Refuses found fault = (found ≡ Some fault) ⊎ (fault.kind ≡ SectionFault)

same_fault : (a b : Spot) → Same (Err a) (Err b) → a ≡ b
same_fault a b e = cc

is_section : (at : ℕ) (fault : Spot) → Same (Err (spot at SectionFault)) (Err fault) → fault.kind ≡ SectionFault
is_section at fault e = sym (ap (λ (s : Spot). s.kind) (same_fault (spot at SectionFault) fault e))

refused_unless : (o found : Option Spot) (kind : Kind) (fault : Spot) → found ≡ o → unless o (Ok kind) ≡ Err fault → Refuses found fault
refused_unless None found kind fault same e = cc
refused_unless (Some other) found kind fault same e = inl (same ∙ ap Some (same_fault other fault e))

header_refuses : (version : Option Version) (first : Span) (fault : Spot) → opening_kind version first ≡ Err fault → Refuses (header_fault version first) fault
header_refuses None first fault e = inl (ap Some (same_fault _ fault e))
header_refuses (Some version) first fault e = cc

headed_refuses : (version : Version) (o : Option SectionKind) (first : Span) (words said : List Span) (fault : Spot) → headed_kind o first words ≡ Err fault → Refuses (section_fault o (stands (Headed version) said) first words) fault
headed_refuses version None first words said fault e = inr (is_section first.at fault e)
headed_refuses version (Some SetupSection) first [] said fault e = cc
headed_refuses version (Some SetupSection) first (word ∷ words) said fault e = refused_unless (more_fault (word ∷ words)) (section_fault (Some SetupSection) (stands (Headed version) said) first (word ∷ words)) Setup fault refl e
headed_refuses version (Some Actor) first words said fault e = inr (is_section first.at fault e)
headed_refuses version (Some After) first words said fault e = inr (is_section first.at fault e)

open_refuses : (version : Version) (o : Option SectionKind) (first : Span) (words said : List Span) (fault : Spot) → open_kind version o first words ≡ Err fault → Refuses (section_fault o (stands (Open version) said) first words) fault
open_refuses version None first words said fault e =
    refused_unless (statement_fault version (keyword_in version first.text) first words) (section_fault None (stands (Open version) said) first words) Statement fault refl e
open_refuses version (Some section) first words said fault e = inr (is_section first.at fault e)

stage_refuses : (stage : Stage) (first : Span) (words said : List Span) (fault : Spot) → kind_at stage first words ≡ Err fault → Refuses (counted_fault (stands stage said) (first ∷ words)) fault
stage_refuses Opening first words said fault e = header_refuses (version_of (first ∷ words)) first fault e
stage_refuses (Headed version) first words said fault e = headed_refuses version (kind_of first.text) first words said fault e
stage_refuses (Open version) first words said fault e = open_refuses version (kind_of first.text) first words said fault e

comment_refuses : (b : Bool) (stage : Stage) (first : Span) (words said : List Span) (fault : Spot) → (if b then Ok Passed else kind_at stage first words) ≡ Err fault
    → Refuses (if not b then counted_fault (stands stage said) (first ∷ words) else None) fault
comment_refuses true stage first words said fault e = cc
comment_refuses false stage first words said fault e = stage_refuses stage first words said fault e

words_refuse : (stage : Stage) (words said : List Span) (fault : Spot) → words_kind stage words ≡ Err fault → Refuses (words_fault (stands stage said) words) fault
words_refuse stage [] said fault e = cc
words_refuse stage (first ∷ words) said fault e = comment_refuses (is_comment first.text) stage first words said fault e

abbrev first_of_three : Option Spot → Option Spot → Option Spot → Option Spot
first_of_three a b c = option_or a (option_or b (option_or c None))

third : (a b c : Option Spot) (fault : Spot) → a ≡ None → b ≡ None → Refuses c fault → Refuses (first_of_three a b c) fault
third a b c fault e f (inl g) = inl (rw (e, f, g) refl)
third a b c fault e f (inr g) = inr g

second : (a b c : Option Spot) (r : Result Kind Spot) (fault : Spot) → a ≡ None → unless b r ≡ Err fault → (r ≡ Err fault → Refuses c fault) → Refuses (first_of_three a b c) fault
second a None c r fault e f h = third a None c fault e refl (h f)
second a (Some other) c r fault e f h = inl (let same : other ≡ fault = same_fault other fault f in rw (e, same) refl)

first : (a b c : Option Spot) (r : Result Kind Spot) (fault : Spot) → unless a (unless b r) ≡ Err fault → (r ≡ Err fault → Refuses c fault) → Refuses (first_of_three a b c) fault
first None b c r fault e h = second None b c r fault refl e h
first (Some other) b c r fault e h = inl (ap Some (same_fault other fault e))

pub refused_lines_have_their_fault : RefusedLinesHaveTheirFault
refused_lines_have_their_fault stage said line fault e =
    first (byte_fault 1 line.text) (size_fault 0 (columns line.text)) (words_fault (stands stage said) (columns line.text)) (words_kind stage (columns line.text)) fault e
    (λ f. words_refuse stage (columns line.text) said fault f)

-- lines one after the other
none_stays : (lines : List Span) → accepts_all None lines ≡ None
none_stays [] = refl
none_stays (line ∷ lines) = refl

abbrev Reaches : Before → ℕ → List Span → Accepted → Type 0
Reaches before number lines after = (behind_all before lines ≡ stands after.stage after.said) × (fault_from before number lines ≡ end_fault (stands after.stage after.said))

reached : (a b : Accepted) (number : ℕ) → Some a ≡ Some b → Reaches (stands a.stage a.said) number [] b
reached a b number e = let same : a ≡ b = cc in subst (Reaches (stands a.stage a.said) number []) same (refl, refl)

one_further : (before further : Before) (number : ℕ) (line : Span) (lines : List Span) (b : Accepted) → line_fault before line.text ≡ None → behind before line ≡ further → Reaches further (number + 1) lines b
    → Reaches before number (line ∷ lines) b
one_further before further number line lines b e f h = (
  ap (λ (s : Before). behind_all s lines) f ∙ h.0,
  ap (λ o. option_or (refusal_at number o) (fault_from (behind before line) (number + 1) lines)) e ∙ ap (λ (s : Before). fault_from s (number + 1) lines) f ∙ h.1,
)

accepted_by : (r : Result Kind Spot) (a b : Accepted) (line : Span) (lines : List Span) (number : ℕ) → line_kind a.stage line.text ≡ r → accepts_all (accepts r line a) lines ≡ Some b
    → ((n : ℕ) (next : Accepted) → accepts_all (Some next) lines ≡ Some b → Reaches (stands next.stage next.said) n lines b) → Reaches (stands a.stage a.said) number (line ∷ lines) b
accepted_by (Ok kind) a b line lines number is e h =
    let next : Accepted = record { stage = stage_after a.stage kind; said = said_behind kind line a.said } in
    let parts = accepted_lines_have_no_fault a.stage a.said line kind is in
    one_further (stands a.stage a.said) (stands next.stage next.said) number line lines b parts.0 parts.1 (h (number + 1) next e)
accepted_by (Err fault) a b line lines number is e h = let none : None ≡ Some b = sym (none_stays lines) ∙ e in cc

all_accepted : (a b : Accepted) (lines : List Span) (number : ℕ) → accepts_all (Some a) lines ≡ Some b → Reaches (stands a.stage a.said) number lines b
all_accepted a b [] number e = reached a b number e
all_accepted a b (line ∷ lines) number e = accepted_by (line_kind a.stage line.text) a b line lines number refl e (λ n next f. all_accepted next b lines n f)

not_below : (a b : ℕ) → a ≤ b → nat_lt b a ≡ false
not_below a b le = grind (arith, nat_tests)

not_long : (long : Bool) (whole : Refusal) (rest : Option Refusal) → long ≡ false → rest ≡ None → (if long then Some whole else rest) ≡ None
not_long true whole rest e f = cc
not_long false whole rest e f = f

not_dear : (dear : Bool) (whole : Refusal) → dear ≡ false → when dear whole ≡ None
not_dear true whole e = cc
not_dear false whole e = refl

neither : (a b : Option Refusal) → a ≡ None → b ≡ None → option_or a b ≡ None
neither a b e f = rw (e, f) refl

pub accepted_texts_are_sessions : AcceptedTextsAreSessions
accepted_texts_are_sessions bytes version said e long dear =
    let went = all_accepted (record { stage = Opening; said = [] }) (record { stage = Open version; said = said }) (lines_of bytes) 1 e in
    let says : sections_said bytes ≡ setup_of said ∷ [] = ap sections_in went.0 in
    let cheap : cost_fault (sections_said bytes) ≡ None = ap cost_fault says ∙ not_dear (nat_lt COST_MAX (session_cost (setup_of said ∷ []))) _ (not_below (session_cost (setup_of said ∷ [])) COST_MAX dear) in
    record {
      faultless = not_long (nat_lt SESSION_MAX (length bytes)) _ _ (not_below (length bytes) SESSION_MAX long) (neither (fault_from nothing 1 (lines_of bytes)) (cost_fault (sections_said bytes)) went.1 cheap);
      says = sym says;
    }
