-- The lines that were accepted are together a session, whose text is what was answered to them.
use Rattle.std.proofs.Common.{◌≡◌, ◌≤◌, ◌+◌, ℕ, Bool, true, false, ◌&&◌, ◌||◌, not, cond, List, [], ◌∷◌, ◌++◌, length, map, Option, None, Some, Result, Ok, Err, refl, sym, ◌∙◌, ap, subst, arith}
use Rattle.std.specs.Prelude.{◌==◌, nat_lt, sum_by}
use Rattle.std.specs.List.{list_any}
use Rattle.std.proofs.lemmas.Bool.{eqb-true, true≢false}
use Rattle.std.proofs.lemmas.List.{append_assoc, append-nil, length-append}
use Rattle.std.proofs.lemmas.List.Sums.{sum_by-cons}
use Rattle.gl_base.specs.Count.{counted_up}
use Rattle.gl_base.specs.Rows.{Each}
use Rattle.gl_base.specs.Words.{Span, lines_of, onto_first, pieces, placed, span}
use Rattle.gl_base.specs.declared.limits.TheConstants.{COST_MAX}
use Rattle.gl_script.specs.Columns.{columns}
use Rattle.gl_script.specs.Cost.{session_cost, statement_aggregates, statement_cost}
use Rattle.gl_script.specs.Faults.{byte_fault, is_printable, more_fault, size_fault, spot, statement_fault}
use Rattle.gl_script.specs.Sentence.{is_comment, kind_of, version_of}
use Rattle.gl_script.specs.Served.{Kind, Passed, Header, Setup, Statement, headed_kind, kind_at, line_kind, open_kind, opening_kind, stage_after, unless, words_kind}
use Rattle.gl_script.specs.ServedLines.{Accepted as Lines, AcceptedTextsAreSessions, accepts, accepts_all, said_behind, setup_of}
use Rattle.gl_script.specs.Table.{keyword_in}
use Rattle.gl_script.specs.declared.refusal.RefusalKind.TheVariants.{Byte, Limit}
use Rattle.gl_script.specs.declared.refusal.Spot.{Spot}
use Rattle.gl_script.specs.declared.section.SectionKind.{SectionKind}
use Rattle.gl_script.specs.declared.section.SectionKind.TheVariants.{Setup as SetupSection, Actor, After}
use Rattle.gl_script.specs.declared.served.Stage.{Stage}
use Rattle.gl_script.specs.declared.served.Stage.TheVariants.{Opening, Headed, Open}
use Rattle.gl_script.specs.declared.version.Version.{Version}
use Rattle.gl_check.specs.One.{one}
use Rattle.gl_served.specs.CutLines.{is_line, joined}
use Rattle.gl_served.specs.Frames.{AreFrames}
use Rattle.gl_served.specs.Questions.{IsData, IsReplyTo, data_kind, moved, names_chip, question_of, shift_of, stands_for}
use Rattle.gl_served.specs.Served.{Accepted, IsAnswer, accepted_after, carried_out, kind_after, limited, nothing_accepted, pair_after, text_of}
use Rattle.gl_served.specs.Whole.{FramesAreSession, accepted_lines, added_by, answered_text, line_as, line_of, read_by, session_of}
use Rattle.gl_served.proofs.Whole.{spans_are_one}
use Rattle.gl_served.specs.declared.answered.Answer.{Answer}
use Rattle.gl_served.specs.declared.limits.TheConstants.{LINE_MAX, PAIRS}
use Rattle.gl_served.specs.declared.question.Question.{Question}
use Rattle.gl_served.specs.declared.question.Question.TheVariants.{Nothing, Due, Data}

-- a line that is accepted is of a kind that comes at its stage
abbrev Fits : Stage → Kind → Type 0
Fits Opening Passed = Unit {0}
Fits Opening (Header version) = Unit {0}
Fits Opening Setup = ⊥
Fits Opening Statement = ⊥
Fits (Headed version) Passed = Unit {0}
Fits (Headed version) (Header other) = ⊥
Fits (Headed version) Setup = Unit {0}
Fits (Headed version) Statement = ⊥
Fits (Open version) Passed = Unit {0}
Fits (Open version) (Header other) = ⊥
Fits (Open version) Setup = ⊥
Fits (Open version) Statement = Unit {0}

passed_fits : (stage : Stage) → Fits stage Passed
passed_fits Opening = tt
passed_fits (Headed version) = tt
passed_fits (Open version) = tt

same_kind : (a b : Kind) (left right : Result Kind Spot) → left ≡ Ok a → right ≡ Ok b → left ≡ right → a ≡ b
same_kind a b left right is_left is_right e = cc

unless_ok : (o : Option Spot) (r : Result Kind Spot) (kind : Kind) → unless o r ≡ Ok kind → (o ≡ None) × (r ≡ Ok kind)
unless_ok None r kind e = (refl, e)
unless_ok (Some fault) r kind e = cc

passed_is : (stage : Stage) (kind : Kind) (r : Result Kind Spot) → r ≡ Ok Passed → r ≡ Ok kind → Fits stage kind
passed_is stage kind r p e = let same : Passed ≡ kind = cc in subst (λ (k : Kind). Fits stage k) same (passed_fits stage)

opening_fits : (version : Option Version) (first : Span) (kind : Kind) → opening_kind version first ≡ Ok kind → Fits Opening kind
opening_fits None first kind e = cc
opening_fits (Some version) first kind e = let same : Header version ≡ kind = same_kind (Header version) kind (Ok (Header version)) (Ok kind) refl refl e in subst (λ (k : Kind). Fits Opening k) same tt

headed_fits : (version : Version) (o : Option SectionKind) (first : Span) (words : List Span) (kind : Kind) → headed_kind o first words ≡ Ok kind → Fits (Headed version) kind
headed_fits version None first words kind e = cc
headed_fits version (Some SetupSection) first words kind e =
    let same : Setup ≡ kind = same_kind Setup kind (Ok Setup) (Ok kind) refl refl (unless_ok (more_fault words) (Ok Setup) kind e).1 in subst (λ (k : Kind). Fits (Headed version) k) same tt
headed_fits version (Some Actor) first words kind e = cc
headed_fits version (Some After) first words kind e = cc

open_fits : (version : Version) (o : Option SectionKind) (first : Span) (words : List Span) (kind : Kind) → open_kind version o first words ≡ Ok kind → Fits (Open version) kind
open_fits version None first words kind e =
    let same : Statement ≡ kind = same_kind Statement kind (Ok Statement) (Ok kind) refl refl (unless_ok (statement_fault version (keyword_in version first.text) first words) (Ok Statement) kind e).1 in
    subst (λ (k : Kind). Fits (Open version) k) same tt
open_fits version (Some section) first words kind e = cc

kind_fits : (stage : Stage) (first : Span) (words : List Span) (kind : Kind) → kind_at stage first words ≡ Ok kind → Fits stage kind
kind_fits Opening first words kind e = opening_fits (version_of (first ∷ words)) first kind e
kind_fits (Headed version) first words kind e = headed_fits version (kind_of first.text) first words kind e
kind_fits (Open version) first words kind e = open_fits version (kind_of first.text) first words kind e

words_fit : (stage : Stage) (words : List Span) (kind : Kind) → words_kind stage words ≡ Ok kind → Fits stage kind
words_fit stage [] kind e = passed_is stage kind (Ok Passed) refl e
words_fit stage (first ∷ words) kind e = by (is_comment first.text) e
  where
    by : (b : Bool) → cond b (Ok Passed) (kind_at stage first words) ≡ Ok kind → Fits stage kind
    by true is = passed_is stage kind (Ok Passed) refl is
    by false is = kind_fits stage first words kind is

line_fits : (stage : Stage) (line : List ℕ) (kind : Kind) → line_kind stage line ≡ Ok kind → Fits stage kind
line_fits stage line kind e =
    let bytes = unless_ok (byte_fault 1 line) (unless (size_fault 0 (columns line)) (words_kind stage (columns line))) kind e in
    let sizes = unless_ok (size_fault 0 (columns line)) (words_kind stage (columns line)) kind bytes.1 in
    words_fit stage (columns line) kind sizes.1

-- and has no line end in it
printable_line : (at : ℕ) (bytes : List ℕ) → byte_fault at bytes ≡ None → is_line bytes ≡ true
printable_line at [] is = refl
printable_line at (byte ∷ bytes) is = by (printable_line (at + 1) bytes) (is_printable byte) (byte == 10) refl refl is
  where
    by : (byte_fault (at + 1) bytes ≡ None → is_line bytes ≡ true) → (printable ends : Bool) → is_printable byte ≡ printable → (byte == 10) ≡ ends → cond printable (byte_fault (at + 1) bytes) (Some (spot at Byte)) ≡ None → (not ends && is_line bytes) ≡ true
    by later true true p e h = absurd (true≢false (sym p ∙ ap is_printable (eqb-true byte 10 e)))
    by later true false p e h = later h
    by later false ends p e h = cc

whole_line : (stage : Stage) (line : List ℕ) (kind : Kind) → line_kind stage line ≡ Ok kind → is_line line ≡ true
whole_line stage line kind e =
    printable_line 1 line (unless_ok (byte_fault 1 line) (unless (size_fault 0 (columns line)) (words_kind stage (columns line))) kind e).0

-- the lines of a text that was made of lines
piece_first : (line rest : List ℕ) → is_line line ≡ true → pieces 10 (line ++ 10 ∷ rest) ≡ line ∷ pieces 10 rest
piece_first [] rest is = refl
piece_first (byte ∷ line) rest is = by (piece_first line rest) (byte == 10) is
  where
    by : (is_line line ≡ true → pieces 10 (line ++ 10 ∷ rest) ≡ line ∷ pieces 10 rest) → (b : Bool) → (not b && is_line line) ≡ true
        → cond b ([] ∷ pieces 10 (line ++ 10 ∷ rest)) (onto_first byte (pieces 10 (line ++ 10 ∷ rest))) ≡ (byte ∷ line) ∷ pieces 10 rest
    by later true h = absurd (true≢false (sym h))
    by later false h = ap (onto_first byte) (later h)

pieces_joined : (lines : List (List ℕ)) → Each (λ line. is_line line ≡ true) lines → pieces 10 (joined lines) ≡ lines ++ [] ∷ []
pieces_joined [] each = refl
pieces_joined (line ∷ lines) each = piece_first line (joined lines) each.0 ∙ ap (λ (rest : List (List ℕ)). line ∷ rest) (pieces_joined lines each.1)

-- each line has a byte at its end at least
few_joined : (lines : List (List ℕ)) → length lines ≤ length (joined lines)
few_joined [] = omega arith
few_joined (line ∷ lines) = let more = few_joined lines in let whole = length-append line (10 ∷ joined lines) in omega (arith, more, whole)

-- what is known of a line that was accepted: its kind by the text alone
limited_ok : (pair : Option ℕ) (k : Result Kind Spot) (kind : Kind) → limited pair k ≡ Ok kind → k ≡ Ok kind
limited_ok None (Ok Passed) kind e = e
limited_ok None (Ok (Header version)) kind e = e
limited_ok None (Ok Setup) kind e = e
limited_ok None (Ok Statement) kind e = cc
limited_ok None (Err fault) kind e = e
limited_ok (Some pair) (Ok Passed) kind e = e
limited_ok (Some pair) (Ok (Header version)) kind e = e
limited_ok (Some pair) (Ok Setup) kind e = e
limited_ok (Some pair) (Ok Statement) kind e = e
limited_ok (Some pair) (Err fault) kind e = e

moved_ok : (count : ℕ) (k : Result Kind Spot) (kind : Kind) → moved count k ≡ Ok kind → k ≡ Ok kind
moved_ok count (Ok other) kind e = e
moved_ok count (Err fault) kind e = cc

kind_ok : (said : Accepted) (line : List ℕ) (kind : Kind) → kind_after said line ≡ Ok kind → line_kind said.stage line ≡ Ok kind
kind_ok said line kind e = by (nat_lt LINE_MAX (length line)) e
  where
    by : (b : Bool) → cond b (Err (spot (LINE_MAX + 1) Limit)) (limited (pair_after said) (line_kind said.stage line)) ≡ Ok kind → line_kind said.stage line ≡ Ok kind
    by true is = cc
    by false is = limited_ok (pair_after said) (line_kind said.stage line) kind is

data_ok : (said : Accepted) (line : List ℕ) (kind : Kind) → data_kind said line ≡ Ok kind → line_kind said.stage (stands_for (carried_out said.statements).value line) ≡ Ok kind
data_ok said line kind e =
    let names = (carried_out said.statements).value in
    let k : Result Kind Spot = line_kind said.stage (stands_for names line) in
    moved_ok (shift_of (names_chip names line)) k kind (limited_ok (pair_after said) (moved (shift_of (names_chip names line)) k) kind e)

-- the statements so far, with where they stand; before `setup` there is none
abbrev NoneBefore : Stage → List (List ℕ) → Type 0
NoneBefore Opening statements = statements ≡ []
NoneBefore (Headed version) statements = statements ≡ []
NoneBefore (Open version) statements = Unit {0}

record Stand (stage : Stage) (statements : List (List ℕ)) (spans : List Span) : Type 0 where
  texts : map (λ (line : Span). line.text) spans ≡ statements
  none : NoneBefore stage statements

texts_more : (spans : List Span) (line : Span) → map (λ (s : Span). s.text) (spans ++ line ∷ []) ≡ map (λ (s : Span). s.text) spans ++ line.text ∷ []
texts_more [] line = refl
texts_more (first ∷ spans) line = ap (λ (rest : List (List ℕ)). first.text ∷ rest) (texts_more spans line)

stand_after : (kind : Kind) (stage : Stage) (statements : List (List ℕ)) (spans : List Span) (at : ℕ) (line : List ℕ) → Fits stage kind → Stand stage statements spans
    → let said = accepted_after kind line (record { stage = stage; statements = statements }) in Stand said.stage said.statements (said_behind kind (span at line) spans)
stand_after Passed stage statements spans at line fits s = s
stand_after (Header version) Opening statements spans at line fits s = record { texts = s.texts; none = s.none }
stand_after (Header version) (Headed other) statements spans at line fits s = absurd fits
stand_after (Header version) (Open other) statements spans at line fits s = absurd fits
stand_after Setup Opening statements spans at line fits s = absurd fits
stand_after Setup (Headed version) statements spans at line fits s = record { texts = sym s.none; none = tt }
stand_after Setup (Open version) statements spans at line fits s = absurd fits
stand_after Statement Opening statements spans at line fits s = absurd fits
stand_after Statement (Headed version) statements spans at line fits s = absurd fits
stand_after Statement (Open version) statements spans at line fits s = record {
  texts = texts_more spans (span at line) ∙ ap (λ (l : List (List ℕ)). l ++ line ∷ []) s.texts;
  none = tt;
}

abbrev lines_at : Stage → List Span → Lines
lines_at stage spans = record { stage = stage; said = spans }

stage_same : (kind : Kind) (line : List ℕ) (said : Accepted) → stage_after said.stage kind ≡ (accepted_after kind line said).stage
stage_same Passed line said = refl
stage_same (Header version) line said = refl
stage_same Setup line said = refl
stage_same Statement line said = refl

few_after : (kind : Kind) (line : List ℕ) (said : Accepted) → length (accepted_after kind line said).statements ≤ length said.statements + 1
few_after Passed line said = omega arith
few_after (Header version) line said = omega arith
few_after Setup line said = omega arith
few_after Statement line said = omega (arith, length-append said.statements (line ∷ []))

-- Where lines lead from what was accepted, with where its statements stand: over these lines of a session, which add this text.
record Leads (said : Accepted) (spans : List Span) (at : ℕ) (lines : List (List ℕ)) (text : List ℕ) (after : Accepted) : Type 0 where
  then_at : ℕ
  then : List Span
  stands : Stand after.stage after.statements then
  leads : (tail : List (List ℕ)) → accepts_all (Some (lines_at said.stage spans)) (placed at (lines ++ tail)) ≡ accepts_all (Some (lines_at after.stage then)) (placed then_at tail)
  each : Each (λ line. is_line line ≡ true) lines
  adds : text_of after ≡ text_of said ++ text
  few : length after.statements ≤ length said.statements + length lines

module _ (said : Accepted) (spans : List Span) (at : ℕ) (stands : Stand said.stage said.statements spans) where
  -- nothing was accepted
  stays : (text : List ℕ) (after : Accepted) → text ≡ [] → after ≡ said → Leads said spans at [] text after
  stays text after none same = subst (λ (a : Accepted). Leads said spans at [] text a) (sym same) (record {
    then_at = at;
    then = spans;
    stands = stands;
    leads = λ tail. refl;
    each = tt;
    adds = sym (ap (λ (t : List ℕ). text_of said ++ t) none ∙ append-nil (text_of said));
    few = omega arith;
  })

  -- a line was
  goes : (kind : Kind) (line text : List ℕ) (after : Accepted) → line_kind said.stage line ≡ Ok kind → after ≡ accepted_after kind line said → text_of after ≡ text_of said ++ text → Leads said spans at (line ∷ []) text after
  goes kind line text after is same adds =
      subst (λ (a : Accepted). text_of a ≡ text_of said ++ text → Leads said spans at (line ∷ []) text a) (sym same)
      (λ more. record {
        then_at = at + length line + 1;
        then = said_behind kind (span at line) spans;
        stands = stand_after kind said.stage said.statements spans at line (line_fits said.stage line kind is) stands;
        leads = λ tail.
            ap (λ (k : Result Kind Spot). accepts_all (accepts k (span at line) (lines_at said.stage spans)) (placed (at + length line + 1) tail)) is
            ∙ ap (λ (stage : Stage). accepts_all (Some (lines_at stage (said_behind kind (span at line) spans))) (placed (at + length line + 1) tail)) (stage_same kind line said);
        each = (whole_line said.stage line kind is, tt);
        adds = more;
        few = few_after kind line said;
      }) adds

  by_answer : (k : Result Kind Spot) (line : List ℕ) (answer : Answer) (text : List ℕ) (after : Accepted) → ((kind : Kind) → k ≡ Ok kind → line_kind said.stage line ≡ Ok kind)
      → IsAnswer said line k answer text after → Leads said spans at (line_of k line) text after
  by_answer (Ok kind) line answer text after known (told, same, adds) = goes kind line text after (known kind refl) same adds
  by_answer (Err fault) line answer text after known (told, none, same) = stays text after none same

  by_data : (k : Result Kind Spot) (line : List ℕ) (answer : Answer) (text : List ℕ) (after : Accepted) → ((kind : Kind) → k ≡ Ok kind → line_kind said.stage line ≡ Ok kind)
      → (is : IsData said line k answer text after) → Leads said spans at (line_of k line) (read_by said line k answer text after is) after
  by_data (Ok Statement) line answer text after known is = goes Statement line is.1.extra after (known Statement refl) is.1.after_is is.1.adds
  by_data (Ok Passed) line answer text after known is = by_answer (Ok Passed) line answer text after known is
  by_data (Ok (Header version)) line answer text after known is = by_answer (Ok (Header version)) line answer text after known is
  by_data (Ok Setup) line answer text after known is = by_answer (Ok Setup) line answer text after known is
  by_data (Err fault) line answer text after known is = by_answer (Err fault) line answer text after known is

  by_question : (question : Question) (line : List ℕ) (answer : Answer) (text : List ℕ) (after : Accepted) → (is : IsReplyTo question said line answer text after)
      → Leads said spans at (line_as question said line) (added_by question said line answer text after is) after
  by_question Nothing line answer text after is = by_answer (kind_after said line) line answer text after (kind_ok said line) is
  by_question Due line answer text after (told, shown, same) = stays [] after refl same
  by_question Data line answer text after is = by_data (data_kind said line) (stands_for (carried_out said.statements).value line) answer text after (data_ok said line) is

each_both : (first second : List (List ℕ)) → Each (λ line. is_line line ≡ true) first → Each (λ line. is_line line ≡ true) second → Each (λ line. is_line line ≡ true) (first ++ second)
each_both [] second one other = other
each_both (line ∷ first) second one other = (one.0, each_both first second one.1 other)

-- lines, and then others
further : (said mid after : Accepted) (spans : List Span) (at : ℕ) (lines others : List (List ℕ)) (text more : List ℕ) → (l : Leads said spans at lines text mid) → Leads mid l.then l.then_at others more after
    → Leads said spans at (lines ++ others) (text ++ more) after
further said mid after spans at lines others text more l m = record {
  then_at = m.then_at;
  then = m.then;
  stands = m.stands;
  leads = λ tail.
      ap (λ (all : List (List ℕ)). accepts_all (Some (lines_at said.stage spans)) (placed at all)) (append_assoc lines others tail) ∙ l.leads (others ++ tail) ∙ m.leads tail;
  each = each_both lines others l.each m.each;
  adds = m.adds ∙ ap (λ (t : List ℕ). t ++ more) l.adds ∙ append_assoc (text_of said) text more;
  few = omega (arith, l.few, m.few, length-append lines others);
}

frames_lead : (said : Accepted) (spans : List Span) (at answered : ℕ) (lines : List (List ℕ)) (written : List ℕ) (after : Accepted) (frames : AreFrames said answered lines written after) → Stand said.stage said.statements spans
    → Leads said spans at (accepted_lines said answered lines written after frames) (answered_text said answered lines written after frames) after
frames_lead said spans at answered [] written after frames stands = stays said spans at stands [] after refl frames.1
frames_lead said spans at answered (line ∷ lines) written after (answer, text, mid, rest, is, frames, whole) stands =
    let first = by_question said spans at stands (question_of said.stage line) line answer text mid is in
    further said mid after spans at (line_as (question_of said.stage line) said line) (accepted_lines mid (counted_up answered) lines rest after frames)
    (added_by (question_of said.stage line) said line answer text mid is) (answered_text mid (counted_up answered) lines rest after frames) first
    (frames_lead mid first.then first.then_at (counted_up answered) lines rest after frames first.stands)

-- where a statement stands plays no part in what a session costs, nor in what it prints
costs_same : (spans : List Span) (texts : List (List ℕ)) → map (λ (line : Span). line.text) spans ≡ texts → sum_by statement_cost spans ≡ sum_by statement_cost (map (λ line. span 0 line) texts)
costs_same spans texts is = on spans ∙ ap (λ (l : List (List ℕ)). sum_by statement_cost (map (λ line. span 0 line) l)) is
  where
    on : (l : List Span) → sum_by statement_cost l ≡ sum_by statement_cost (map (λ line. span 0 line) (map (λ (line : Span). line.text) l))
    on [] = refl
    on (line ∷ l) =
        sum_by-cons statement_cost line l ∙ ap (λ (n : ℕ). statement_cost line + n) (on l)
        ∙ sym (sum_by-cons statement_cost (span 0 line.text) (map (λ line. span 0 line) (map (λ (s : Span). s.text) l)))

joins_same : (spans : List Span) (texts : List (List ℕ)) → map (λ (line : Span). line.text) spans ≡ texts → list_any statement_aggregates spans ≡ list_any statement_aggregates (map (λ line. span 0 line) texts)
joins_same spans texts is = on spans ∙ ap (λ (l : List (List ℕ)). list_any statement_aggregates (map (λ line. span 0 line) l)) is
  where
    on : (l : List Span) → list_any statement_aggregates l ≡ list_any statement_aggregates (map (λ line. span 0 line) (map (λ (line : Span). line.text) l))
    on [] = refl
    on (line ∷ l) = ap (λ (b : Bool). statement_aggregates line || b) (on l)

cost_same : (spans : List Span) (said : Accepted) → map (λ (line : Span). line.text) spans ≡ said.statements → session_cost (setup_of spans ∷ []) ≡ session_cost (session_of said)
cost_same spans said is =
    let costs = costs_same spans said.statements is in
    let joins = joins_same spans said.statements is in
    cc

-- the end of the last line is followed by a piece without bytes, which is passed over
ends_with_nothing : (stage : Stage) (spans : List Span) (at : ℕ) → accepts_all (Some (lines_at stage spans)) (placed at ([] ∷ [])) ≡ Some (lines_at stage spans)
ends_with_nothing stage spans at = refl

pub frames_are_session : AcceptedTextsAreSessions → FramesAreSession
frames_are_session law lines written after version frames opened short cheap =
    let kept = accepted_lines nothing_accepted 0 lines written after frames in
    let l = frames_lead nothing_accepted [] 0 0 lines written after frames (record { texts = refl; none = refl }) in
    let accepted : accepts_all (Some (record { stage = Opening; said = [] })) (lines_of (joined kept)) ≡ Some (record { stage = Open version; said = l.then }) =
    ap (λ (texts : List (List ℕ)). accepts_all (Some (lines_at Opening [])) (placed 0 texts)) (pieces_joined kept l.each) ∙ l.leads ([] ∷ []) ∙ ends_with_nothing after.stage l.then l.then_at
    ∙ ap (λ (stage : Stage). Some (lines_at stage l.then)) opened in
    let texts = l.stands.texts in
    let few : length after.statements ≤ PAIRS = omega (arith, l.few, few_joined kept, short) in
    record {
      sections = setup_of l.then ∷ [];
      sentence = law (joined kept) version l.then accepted short (subst (λ (n : ℕ). n ≤ COST_MAX) (sym (cost_same l.then after texts)) cheap);
      prints = sym l.adds ∙ spans_are_one l.then after.statements texts few;
    }
