-- A section that was carried out, as a whole.
use Rattle.std.proofs.Common.{◌≡◌, ◌<◌, ◌≤◌, ◌-◌, ℕ, zero, suc, Bool, true, false, List, [], ◌∷◌, ◌++◌, length, length-append, map, get_or, Option, sym, ◌∙◌, ap, subst, arith}
use Rattle.std.specs.Prelude.{if◌then◌else◌}
use Rattle.std.proofs.lemmas.List.{length-map}
use Rattle.gl_base.specs.Words.{Span}
use Rattle.gl_client.specs.Program.{Program, done, then_by}
use Rattle.gl_driver.specs.Told.{Told}
use Rattle.gl_chip.specs.Values.{OneView}
use Rattle.gl_script.specs.Columns.{columns}
use Rattle.gl_script.specs.Section.{SaidSection}
use Rattle.gl_script.specs.declared.section.Statement.{Statement}
use Rattle.gl_script.specs.declared.section.SectionKind.TheVariants.{Actor}
use Rattle.gl_talk.specs.Open.{Names, no_names}
use Rattle.gl_talk.specs.Over.{columns_in}
use Rattle.gl_talk.specs.Talk.{quits, says, talks}
use Rattle.gl_talk.proofs.InARow.{are_statements_and_the_end}
use Rattle.gl_asking.specs.Files.{OpenFile}
use Rattle.gl_check.specs.Drivers.{DriverKind}
use Rattle.gl_check.specs.Joining.{Maps}
use Rattle.gl_check.specs.Many.{actor_sections, no_section, program_of, words_of}
use Rattle.gl_check.specs.One.{is_kind, said_in_kind}
use Rattle.gl_session.specs.Performed.{PlaysOn, StoppedFull}
use Rattle.gl_check.specs.Turns.{carried}
use Rattle.gl_session.specs.Workers.{PlaysWhole}
use Rattle.gl_session.proofs.Plays.{plays_on, plays_then, stops_on, stops_then}

-- statements, and then the closing of what is open
module _ (driver : DriverKind) (words : List (List Span)) (v w u : OneView) (before between left : Option Told) (m n maps_then : Maps) (waiting : List OpenFile) (text text_then : List ℕ) (names names_then : Names) where
  pub plays_whole : (begun : ℕ) (names_before : Names) (files files_then : List OpenFile) (nothing : List ℕ) (closing : Program Names) → begun ≡ 0 → names_before ≡ no_names → files ≡ [] → nothing ≡ [] → closing ≡ quits names
      → PlaysOn driver (says begun words (λ given_names. done given_names) names_before) v (carried files before m) nothing (done names) w (carried waiting between n) text
      → PlaysOn driver closing w (carried waiting between n) text (done names_then) u (carried files_then left maps_then) text_then
      → PlaysWhole driver (talks 0 words no_names) m v before text_then u left
  plays_whole begun names_before files files_then nothing closing new unnamed closed empty ends statements end = record {
    names = names_then;
    files = files_then;
    maps_then = maps_then;
    plays = subst (λ (p : Program Names). PlaysOn driver p v (carried [] before m) [] (done names_then) u (carried files_then left maps_then) text_then) (sym (are_statements_and_the_end 0 words no_names))
        (plays_on driver (then_by (says 0 words done no_names) quits) v (carried [] before m) [] (quits names) w (carried waiting between n) text (done names_then) u (carried files_then left maps_then) text_then
        (plays_then driver quits (says 0 words done no_names) v (carried [] before m) [] (done names) w (carried waiting between n) text
        (subst (λ (x : ℕ × Names × List OpenFile × List ℕ). PlaysOn driver (says x.0 words (λ given_names. done given_names) x.1) v (carried x.2 before m) x.3 (done names) w (carried waiting between n) text)
        (λ i. (new i, unnamed i, closed i, empty i)) statements))
        (subst (λ (p : Program Names). PlaysOn driver p w (carried waiting between n) text (done names_then) u (carried files_then left maps_then) text_then) ends end));
  }

-- the history was full among the statements, or at the closing of what is open
module _ (driver : DriverKind) (words : List (List Span)) (v w : OneView) (before : Option Told) (m : Maps) (begun : ℕ) (names_before : Names) (files : List OpenFile) (new : begun ≡ 0) (unnamed : names_before ≡ no_names) (closed : files ≡ []) where
  pub stops_among_them : StoppedFull driver (says begun words (λ given_names. done given_names) names_before) v (carried files before m) w
      → StoppedFull driver (talks 0 words no_names) v (carried [] before m) w
  stops_among_them stopped =
      subst (λ (p : Program Names). StoppedFull driver p v (carried [] before m) w) (sym (are_statements_and_the_end 0 words no_names))
      (stops_then driver quits (says 0 words done no_names) v (carried [] before m) w
      (subst (λ (x : ℕ × Names × List OpenFile). StoppedFull driver (says x.0 words (λ given_names. done given_names) x.1) v (carried x.2 before m) w) (λ i. (new i, unnamed i, closed i)) stopped))

  pub stops_behind_them : (u : OneView) (between : Option Told) (n : Maps) (waiting : List OpenFile) (nothing text : List ℕ) (names : Names) (closing : Program Names) → closing ≡ quits names
      → PlaysOn driver (says begun words (λ given_names. done given_names) names_before) v (carried files before m) nothing (done names) w (carried waiting between n) text
      → StoppedFull driver closing w (carried waiting between n) u → StoppedFull driver (talks 0 words no_names) v (carried [] before m) u
  stops_behind_them u between n waiting nothing text names closing ends statements stopped =
      subst (λ (p : Program Names). StoppedFull driver p v (carried [] before m) u) (sym (are_statements_and_the_end 0 words no_names))
      (stops_on driver (then_by (says 0 words done no_names) quits) v (carried [] before m) nothing (quits names) w (carried waiting between n) text u
      (plays_then driver quits (says 0 words done no_names) v (carried [] before m) nothing (done names) w (carried waiting between n) text
      (subst (λ (x : ℕ × Names × List OpenFile). PlaysOn driver (says x.0 words (λ given_names. done given_names) x.1) v (carried x.2 before m) nothing (done names) w (carried waiting between n) text)
      (λ i. (new i, unnamed i, closed i)) statements))
      (subst (λ (p : Program Names). StoppedFull driver p w (carried waiting between n) u) ends stopped))

-- an actor's section has no more statements than all of them
pub actor_words_few : (sections : List SaidSection) (n : ℕ) → n < length (actor_sections sections) → length (words_of (get_or (actor_sections sections) n no_section)) ≤ length (said_in_kind Actor sections)
actor_words_few [] n lt = absurd (omega arith)
actor_words_few (section ∷ sections) n lt = by (is_kind Actor section.kind) n lt (actor_words_few sections)
  where
    said : List (List Span)
    said = map (λ line. columns line.text) section.statements

    by : (b : Bool) (n : ℕ) → n < length (if b then section ∷ actor_sections sections else actor_sections sections) → ((k : ℕ) → k < length (actor_sections sections) → length (words_of (get_or (actor_sections sections) k no_section)) ≤ length (said_in_kind Actor sections))
        → length (words_of (get_or (if b then section ∷ actor_sections sections else actor_sections sections) n no_section)) ≤ length (if b then said ++ said_in_kind Actor sections else said_in_kind Actor sections)
    by true zero lt later = let e = length-append said (said_in_kind Actor sections) in omega arith
    by true (suc n) lt later = let e = length-append said (said_in_kind Actor sections) in let l = later n (omega arith) in omega arith
    by false n lt later = later n lt

-- an actor has no more statements than all of them
pub statements_few : (sections : List SaidSection) (n k limit : ℕ) (statements : List Statement) → n ≡ k → 1 ≤ k → k ≤ length (actor_sections sections) → map columns_in statements ≡ words_of (get_or (actor_sections sections) (n - 1) no_section)
    → length (said_in_kind Actor sections) ≤ limit → length statements ≤ limit
statements_few sections n k limit statements same low high words all =
    let few = actor_words_few sections (n - 1) (omega arith) in
    let long : length (map columns_in statements) ≡ length (words_of (get_or (actor_sections sections) (n - 1) no_section)) = ap (λ (l : List (List Span)). length l) words in
    let one = length-map statements columns_in in omega arith

pub program_same : (sections : List SaidSection) (n k : ℕ) (statements : List Statement) → n ≡ k → map columns_in statements ≡ words_of (get_or (actor_sections sections) (n - 1) no_section) → talks 0 (map columns_in statements) no_names ≡ program_of sections k
program_same sections n k statements same words = ap (λ (l : List (List Span)). talks 0 l no_names) words ∙ ap (λ j. program_of sections j) same
