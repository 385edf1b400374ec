-- A session has 16 actors at most.
use Rattle.std.proofs.Common.{◌≡◌, ◌<◌, ◌≤◌, ◌+◌, ℕ, Bool, true, false, List, [], ◌∷◌, ◌++◌, length, Option, None, Some, refl, sym, ◌∙◌, arith}
use Rattle.std.specs.Prelude.{cond, if◌then◌else◌, ◌&&◌, nat_le, count_by}
use Rattle.std.specs.Option.{option_or}
use Rattle.std.proofs.lemmas.Bool.Decides.{nat_tests}
use Rattle.std.proofs.lemmas.List.Sums.{sum_by-cons}
use Rattle.gl_base.specs.Refusals.{first_of, when}
use Rattle.gl_base.specs.Words.{Span, end_of, lines_of}
use Rattle.gl_script.specs.Columns.{columns}
use Rattle.gl_script.specs.Faults.{spot}
use Rattle.gl_script.specs.Section.{SaidSection}
use Rattle.gl_script.specs.Sentence.{Before, Sentence, actor_count, actors_in, head_fault, is_actor, is_out_of_order, to_list}
use Rattle.gl_script.specs.declared.version.Version.{Version}
use Rattle.gl_script.specs.Spelled.{AreHead, IsHeaded, IsSections, behind_header, counted}
use Rattle.gl_script.specs.declared.refusal.RefusalKind.TheVariants.{Limit, Section}
use Rattle.gl_script.specs.declared.refusal.Spot.{Spot}
use Rattle.gl_script.specs.declared.section.SectionKind.{SectionKind}
use Rattle.gl_script.specs.declared.section.SectionKind.TheVariants.{Setup, Actor, After}
use Rattle.gl_script.proofs.Spelling.{spelled}
use Rattle.gl_check.specs.Many.{actor_sections}
use Rattle.gl_check.specs.One.{is_kind}

same_test : (kind : SectionKind) → is_actor kind ≡ is_kind Actor kind
same_test Setup = refl
same_test Actor = refl
same_test After = refl

abbrev one_if : Bool → ℕ
one_if b = cond b 1 0

abbrev actors : List SaidSection → ℕ
actors sections = length (actor_sections sections)

actors_cons : (section : SaidSection) (sections : List SaidSection) → actors (section ∷ sections) ≡ one_if (is_kind Actor section.kind) + actors sections
actors_cons section sections = by (is_kind Actor section.kind)
  where
    by : (b : Bool) → length (if b then section ∷ actor_sections sections else actor_sections sections) ≡ one_if b + length (actor_sections sections)
    by true = omega arith
    by false = omega arith

actors_append : (xs ys : List SaidSection) → actors (xs ++ ys) ≡ actors xs + actors ys
actors_append [] ys = omega arith
actors_append (x ∷ xs) ys = let a = actors_cons x (xs ++ ys) in let b = actors_cons x xs in let c = actors_append xs ys in omega arith

all_counted : (sections : List SaidSection) → count_by (λ section. is_actor section.kind) sections ≡ actors sections
all_counted [] = refl
all_counted (section ∷ sections) =
    sum_by-cons (λ (s : SaidSection). cond (is_actor s.kind) 1 0) section sections
    ∙ (λ i. one_if (same_test section.kind i) + all_counted sections i) ∙ sym (actors_cons section sections)

current_counted : (current : Option SaidSection) → actors_in current ≡ actors (to_list current)
current_counted None = refl
current_counted (Some section) = (λ i. one_if (same_test section.kind i)) ∙ alone (is_kind Actor section.kind)
  where
    alone : (b : Bool) → one_if b ≡ length (if b then section ∷ [] else [])
    alone true = refl
    alone false = refl

before_counted : (version : Version) (complete : List SaidSection) (current : Option SaidSection) → actor_count (behind_header version complete current) ≡ actors (complete ++ to_list current)
before_counted version complete current = (λ i. all_counted complete i + current_counted current i) ∙ sym (actors_append complete (to_list current))

none_first : (first later : Option Spot) → option_or first later ≡ None → (first ≡ None) × (later ≡ None)
none_first None later e = (refl, e)
none_first (Some fault) later e = cc

not_when : (test : Bool) (fault : Spot) → when test fault ≡ None → test ≡ false
not_when true fault e = cc
not_when false fault e = refl

-- a head is in its place only where there are fewer before it, if it is an actor's
head_counted : (version : Version) (complete : List SaidSection) (current : Option SaidSection) (section : SaidSection) (words : List Span) → AreHead (behind_header version complete current) section words → actors (complete ++ to_list current) ≤ 16
    → actors (complete ++ to_list current) + one_if (is_kind Actor section.kind) ≤ 16
head_counted version complete current section [] h few = absurd h
head_counted version complete current section (first ∷ words) h few = by section.kind (not_when (is_actor section.kind && nat_le 16 (actor_count before)) (spot first.at Limit) second.0)
  where
    before : Before
    before = behind_header version complete current

    tests : List (Option Spot)
    tests = when (is_out_of_order section.kind before.current) (spot first.at Section) ∷ when (is_actor section.kind && nat_le 16 (actor_count before)) (spot first.at Limit) ∷ head_fault section.kind before (end_of first) words ∷ []

    later : first_of (when (is_actor section.kind && nat_le 16 (actor_count before)) (spot first.at Limit) ∷ head_fault section.kind before (end_of first) words ∷ []) ≡ None
    later = (none_first (when (is_out_of_order section.kind before.current) (spot first.at Section)) _ h.2).1

    second : (when (is_actor section.kind && nat_le 16 (actor_count before)) (spot first.at Limit) ≡ None) × (first_of (head_fault section.kind before (end_of first) words ∷ []) ≡ None)
    second = none_first (when (is_actor section.kind && nat_le 16 (actor_count before)) (spot first.at Limit)) _ later

    same : actor_count before ≡ actors (complete ++ to_list current)
    same = before_counted version complete current

    by : (kind : SectionKind) → (is_actor kind && nat_le 16 (actor_count before)) ≡ false → actors (complete ++ to_list current) + one_if (is_kind Actor kind) ≤ 16
    by Setup e = omega arith
    by Actor e = let fewer : actor_count before < 16 = grind (arith, nat_tests, e) in let s = same in omega arith
    by After e = omega arith

sections_counted : (version : Version) (sections : List SaidSection) (complete : List SaidSection) (current : Option SaidSection) (lines : List Span) → IsSections version complete current lines sections → actors (complete ++ to_list current) ≤ 16
    → actors (complete ++ to_list current) + actors sections ≤ 16
sections_counted version [] complete current lines h few = omega arith
sections_counted version (section ∷ sections) complete current [] h few = absurd h
sections_counted version (section ∷ sections) complete current (head ∷ lines) h few =
    let here = head_counted version complete current section (columns head.text) h.0 few in
    let more : actors ((complete ++ to_list current) ++ section ∷ []) ≡ actors (complete ++ to_list current) + one_if (is_kind Actor section.kind) =
    (let a = actors_append (complete ++ to_list current) (section ∷ []) in let b = actors_cons section [] in omega arith) in
    let rest = sections_counted version sections (complete ++ to_list current) (Some section) h.1 h.4 (omega arith) in
    let all = actors_cons section sections in omega arith

headed_counted : (lines : List Span) (sections : List SaidSection) → IsHeaded lines sections → actors sections ≤ 16
headed_counted [] sections h = absurd h
headed_counted (header ∷ lines) sections h = let c = sections_counted h.0 sections [] None lines h.2 (omega arith) in omega arith

pub few_actors : (bytes : List ℕ) (sections : List SaidSection) → Sentence bytes sections → length (actor_sections sections) ≤ 16
few_actors bytes sections sentence = headed_counted (counted (lines_of bytes)) sections (spelled bytes sections sentence).headed
