-- The sections of a session, carried out one after another.
use Rattle.std.proofs.Common.{◌≡◌, ◌<◌, ◌+◌, ℕ, Bool, true, false, List, [], ◌∷◌, ◌++◌, length, length-append, map, drop, get_or, Option, Some, refl, sym, ◌∙◌, ap, subst}
use Rattle.std.specs.Prelude.{if◌then◌else◌}
use Rattle.std.proofs.lemmas.List.{drop_more}
use Rattle.std.proofs.lemmas.Option.{slice_get-get_or}
use Rattle.gl_base.specs.Words.{Span}
use Rattle.gl_client.specs.Program.{Program, done, print, ask, then_by}
use Rattle.gl_driver.specs.Told.{Told}
use Rattle.gl_chip.specs.Values.{OneView}
use Rattle.gl_script.specs.Columns.{columns}
use Rattle.gl_script.specs.Section.{SaidSection}
use Rattle.gl_script.specs.declared.section.SectionKind.{SectionKind}
use Rattle.gl_script.specs.declared.section.SectionKind.TheVariants.{Setup}
use Rattle.gl_talk.specs.Open.{Names}
use Rattle.gl_talk.specs.Talk.{does, quits, says, slot_behind}
use Rattle.gl_talk.proofs.InARow.{come_in_parts}
use Rattle.gl_check.specs.Drivers.{DriverKind}
use Rattle.gl_check.specs.Joining.{Maps}
use Rattle.gl_check.specs.One.{is_kind, said_in_kind}
use Rattle.gl_check.specs.Sections.{said_at, said_of}
use Rattle.gl_asking.specs.Files.{OpenFile}
use Rattle.gl_session.specs.Performed.{PlaysOn, StoppedFull}
use Rattle.gl_check.specs.Turns.{Carried, carried}
use Rattle.gl_session.proofs.Plays.{plays_on, plays_then, stops_on, stops_then}

-- The statements of a kind from one section on are those of this section, and those of the sections after it.
first_of_kind : (kind : SectionKind) (section : SaidSection) (rest : List SaidSection) → said_in_kind kind (section ∷ rest) ≡ said_of kind (Some section) ++ said_in_kind kind rest
first_of_kind kind section rest = by (is_kind kind section.kind)
  where
    said : List (List Span)
    said = map (λ line. columns line.text) section.statements

    by : (b : Bool) → (if b then said ++ said_in_kind kind rest else said_in_kind kind rest) ≡ (if b then said else []) ++ said_in_kind kind rest
    by true = refl
    by false = refl

nobody : SaidSection
nobody = record { kind = Setup; name = []; statements = [] }

pub said_next : (kind : SectionKind) (sections : List SaidSection) (i : ℕ) → i < length sections → said_in_kind kind (drop i sections) ≡ said_at kind i sections ++ said_in_kind kind (drop (i + 1) sections)
said_next kind sections i lt =
    ap (λ (l : List SaidSection). said_in_kind kind l) (drop_more sections i nobody lt)
    ∙ first_of_kind kind (get_or sections i nobody) (drop (i + 1) sections)
    ∙ ap (λ (o : Option SaidSection). said_of kind o ++ said_in_kind kind (drop (i + 1) sections)) (sym (slice_get-get_or sections i nobody lt))

pub section_count : (here later whole : List (List Span)) → whole ≡ here ++ later → length whole ≡ length here + length later
section_count here later whole whole_is = ap (λ (l : List (List Span)). length l) whole_is ∙ length-append here later

-- one program, then another, then a third
in_turn : {A B C : Type 0} (p : Program A) (f : A → Program B) (g : B → Program C) → then_by (then_by p f) g ≡ then_by p (λ value. then_by (f value) g)
in_turn (done value) f g = refl
in_turn (print text p) f g = ap (print text) (in_turn p f g)
in_turn (ask what p) f g = λ i. ask what (λ got. in_turn (p got) f g i)

-- what comes after statements comes after the names that they give
pub says_then : {A : Type 0} (begun : ℕ) (statements : List (List Span)) (behind : Names → Program A) (names : Names) → says begun statements behind names ≡ then_by (says begun statements done names) behind
says_then begun [] behind names = refl
says_then begun (words ∷ statements) behind names =
    (λ i. then_by (does names (slot_behind begun) words) (λ value. says_then (begun + 1) statements behind value i))
    ∙ sym (in_turn (does names (slot_behind begun) words) (says (begun + 1) statements done) behind)

-- statements of one section and those after them, where the first were carried out
module _ (driver : DriverKind) (v : OneView) (s : Carried) (begun : ℕ) (here later whole : List (List Span)) (names : Names) (whole_is : whole ≡ here ++ later) where
  abbrev behind_them : Names → Program Names
  behind_them = says (begun + length here) later done

  in_parts : then_by (says begun here done names) behind_them ≡ says begun whole done names
  in_parts = sym (says_then begun here behind_them names) ∙ sym (come_in_parts begun here later done names) ∙ ap (λ (l : List (List Span)). says begun l (λ given_names. done given_names) names) (sym whole_is)

  pub section_step : (t0 : List ℕ) (w : OneView) (r : Carried) (t1 : List ℕ) (begun_then : ℕ) (names_then : Names) → begun_then ≡ begun + length here
      → PlaysOn driver (says begun here (λ given_names. done given_names) names) v s t0 (done names_then) w r t1
      → PlaysOn driver (says begun whole (λ given_names. done given_names) names) v s t0 (says begun_then later (λ given_names. done given_names) names_then) w r t1
  section_step t0 w r t1 begun_then names_then counted played =
      subst (λ (n : ℕ). PlaysOn driver (says begun whole (λ given_names. done given_names) names) v s t0 (says n later (λ given_names. done given_names) names_then) w r t1) (sym counted)
      (subst (λ (o : Program Names). PlaysOn driver o v s t0 (behind_them names_then) w r t1) in_parts
      (plays_then driver behind_them (says begun here done names) v s t0 (done names_then) w r t1 played))

  pub section_stops : (w : OneView) → StoppedFull driver (says begun here (λ given_names. done given_names) names) v s w
      → StoppedFull driver (says begun whole (λ given_names. done given_names) names) v s w
  section_stops w stopped =
      subst (λ (o : Program Names). StoppedFull driver o v s w) in_parts (stops_then driver behind_them (says begun here done names) v s w stopped)

-- after statements in a row what is open is closed
module _ (driver : DriverKind) (v : OneView) (s : Carried) (begun : ℕ) (statements : List (List Span)) (names : Names) where
  to_the_end : then_by (says begun statements done names) quits ≡ says begun statements quits names
  to_the_end = sym (says_then begun statements quits names)

  closed_behind : (t0 : List ℕ) (w : OneView) (r : Carried) (t1 : List ℕ) (names_then : Names)
      → PlaysOn driver (says begun statements (λ given_names. done given_names) names) v s t0 (done names_then) w r t1
      → PlaysOn driver (says begun statements quits names) v s t0 (quits names_then) w r t1
  closed_behind t0 w r t1 names_then played =
      subst (λ (o : Program Names). PlaysOn driver o v s t0 (quits names_then) w r t1) to_the_end
      (plays_then driver quits (says begun statements done names) v s t0 (done names_then) w r t1 played)

  pub ends_behind : (t0 : List ℕ) (w : OneView) (r : Carried) (t1 : List ℕ) (names_then : Names) (p : Program Names) (u : OneView) (y : Carried) (t2 : List ℕ) (last : Names)
      → PlaysOn driver (says begun statements (λ given_names. done given_names) names) v s t0 (done names_then) w r t1 → p ≡ quits names_then → PlaysOn driver p w r t1 (done last) u y t2
      → PlaysOn driver (says begun statements quits names) v s t0 (done last) u y t2
  ends_behind t0 w r t1 names_then p u y t2 last played is closes =
      plays_on driver (says begun statements quits names) v s t0 (quits names_then) w r t1 (done last) u y t2 (closed_behind t0 w r t1 names_then played)
      (subst (λ (o : Program Names). PlaysOn driver o w r t1 (done last) u y t2) is closes)

  pub stops_before_end : (w : OneView) → StoppedFull driver (says begun statements (λ given_names. done given_names) names) v s w
      → StoppedFull driver (says begun statements quits names) v s w
  stops_before_end w stopped = subst (λ (o : Program Names). StoppedFull driver o v s w) to_the_end (stops_then driver quits (says begun statements done names) v s w stopped)

  pub stops_at_end : (t0 : List ℕ) (w : OneView) (r : Carried) (t1 : List ℕ) (names_then : Names) (p : Program Names) (u : OneView)
      → PlaysOn driver (says begun statements (λ given_names. done given_names) names) v s t0 (done names_then) w r t1 → p ≡ quits names_then → StoppedFull driver p w r u
      → StoppedFull driver (says begun statements quits names) v s u
  stops_at_end t0 w r t1 names_then p u played is stopped =
      stops_on driver (says begun statements quits names) v s t0 (quits names_then) w r t1 u (closed_behind t0 w r t1 names_then played)
      (subst (λ (o : Program Names). StoppedFull driver o w r u) is stopped)

-- the same statements from the same beginning
module _ (driver : DriverKind) (v : OneView) (told : Option Told) (m o : Maps) (statements : List (List Span)) (behind : Names → Program Names) (n k : ℕ) (names others : Names) (files : List OpenFile) (before : List OpenFile)
    (number : n ≡ k) (same : names ≡ others) (open_are : files ≡ before) (maps_are : m ≡ o)
  where
    pub begins_so : (t0 : List ℕ) (q : Program Names) (w : OneView) (r : Carried) (t1 : List ℕ) → PlaysOn driver (says n statements behind names) v (carried files told m) t0 q w r t1
        → PlaysOn driver (says k statements behind others) v (carried before told o) t0 q w r t1
    begins_so t0 q w r t1 played =
        subst (λ (x : ℕ × Names × List OpenFile × Maps). PlaysOn driver (says x.0 statements behind x.1) v (carried x.2 told x.3) t0 q w r t1) (λ i. (number i, same i, open_are i, maps_are i)) played

    pub stops_so : (w : OneView) → StoppedFull driver (says n statements behind names) v (carried files told m) w → StoppedFull driver (says k statements behind others) v (carried before told o) w
    stops_so w stopped =
        subst (λ (x : ℕ × Names × List OpenFile × Maps). StoppedFull driver (says x.0 statements behind x.1) v (carried x.2 told x.3) w) (λ i. (number i, same i, open_are i, maps_are i)) stopped
