-- A talk that asks for no chip over requests leaves the maps of its port.
use Rattle.std.proofs.Common.{◌≡◌, ◌⊎◌, inl, inr, ℕ, ◌-◌, Bool, true, false, ◌||◌, List, [], ◌∷◌, ◌++◌, length, map, get_or, Option, refl, sym, ◌∙◌, ap, subst}
use Rattle.std.specs.List.{list_any}
use Rattle.std.specs.Prelude.{if◌then◌else◌}
use Rattle.gl_base.specs.declared.operation.Do.{Do}
use Rattle.gl_base.specs.declared.operation.Do.TheVariants.{Aggregate}
use Rattle.gl_client.specs.Chips.{AsksNoChips, IsPlain}
use Rattle.gl_base.specs.Words.{Span}
use Rattle.gl_client.specs.Program.{Program, done}
use Rattle.gl_script.specs.Columns.{columns}
use Rattle.gl_script.specs.Cost.{has_aggregate, section_aggregates, statement_aggregates, words_aggregate}
use Rattle.gl_script.specs.Section.{SaidSection}
use Rattle.gl_script.specs.declared.section.SectionKind.{SectionKind}
use Rattle.gl_script.specs.declared.section.SectionKind.TheVariants.{Setup, Actor, After}
use Rattle.gl_talk.specs.Open.{Names, left_setup, no_names, setup_names}
use Rattle.gl_talk.proofs.TalkChips.{neither, says_none}
use Rattle.gl_model.specs.declared.reply.Reply.{Reply}
use Rattle.gl_asking.specs.Files.{OpenFile}
use Rattle.gl_check.specs.Drivers.{DriverKind, DriverOver, start_maps}
use Rattle.gl_check.specs.Joining.{Maps, maps_behind, no_maps}
use Rattle.gl_check.specs.Many.{actor_sections, no_section, program_of, words_of}
use Rattle.gl_check.specs.One.{is_kind, said_in_kind}
use Rattle.gl_check.specs.Programs.{actor_of, after_of, setup_of}
use Rattle.gl_check.specs.Turns.{Carried, Did, Follows, Said, Takes, Turn, carried}
use Rattle.gl_check.proofs.Joined.{no_maps_behind}
use Rattle.gl_session.specs.Alone.{KeepsNoMaps}
use Rattle.gl_driver.specs.Told.{Told}
use Rattle.gl_session.proofs.OutsideSetup.{ends_outside}

-- none of the talks of a session asks for one
pub record AskNone (sections : List SaidSection) : Type 0 where
  pub setup : AsksNoChips (setup_of sections)
  pub alone : AsksNoChips (actor_of sections)
  pub actors : (n : ℕ) → AsksNoChips (program_of sections n)
  pub after : (names : Names) → AsksNoChips (after_of sections names)

plain_stays : (what : Do) → IsPlain what → (reply : Reply) (files : List OpenFile) (m : Maps) → maps_behind what reply files m ≡ m
plain_stays (Aggregate label slots count) plain reply files m = absurd plain
plain_stays what plain reply files m = refl

module _ {A : Type 0} (driver : DriverKind) (actor : ℕ) where
  pub turn_stays : (p : Program A) (s : Carried) (turn : Turn) (q : Program A) (r : Carried) → AsksNoChips p → Takes driver actor p s turn q r → AsksNoChips q × (r.maps ≡ s.maps)
  turn_stays p s (Said text) q r none (is, same) = (subst (λ (x : Program A). AsksNoChips x) is none, ap (λ (c : Carried). c.maps) same)
  turn_stays p s (Did e) q r none (rest, is, onward, carries) = let here = subst (λ (x : Program A). AsksNoChips x) is none in (
    subst (λ (x : Program A). AsksNoChips x) (sym onward) (here.1 _),
    carries.maps ∙ plain_stays e.what here.0 e.reply s.files s.maps,
  )

  pub turns_stay : (p : Program A) (s : Carried) (turns : List Turn) (q : Program A) (r : Carried) → AsksNoChips p → Follows driver actor p s turns q r → AsksNoChips q × (r.maps ≡ s.maps)
  turns_stay p s [] q r none (is, same) = (subst (λ (x : Program A). AsksNoChips x) is none, ap (λ (c : Carried). c.maps) (sym same))
  turns_stay p s (turn ∷ turns) q r none (next, at, takes, follows) =
      let one = turn_stays p s turn next at none takes in let on = turns_stay next at turns q r one.0 follows in (on.0, on.1 ∙ one.1)

-- What none of the lines of a session says, none of its talks says.
none_of_lines : (lines : List Span) → list_any statement_aggregates lines ≡ false → list_any words_aggregate (map (λ (line : Span). columns line.text) lines) ≡ false
none_of_lines [] none = refl
none_of_lines (line ∷ lines) none = let both = neither (statement_aggregates line) (list_any statement_aggregates lines) none in ap (λ b. b || list_any words_aggregate (map (λ (line : Span). columns line.text) lines)) both.0 ∙ none_of_lines lines both.1

none_append : (xs ys : List (List Span)) → list_any words_aggregate xs ≡ false → list_any words_aggregate ys ≡ false → list_any words_aggregate (xs ++ ys) ≡ false
none_append [] ys first later = later
none_append (x ∷ xs) ys first later = let both = neither (words_aggregate x) (list_any words_aggregate xs) first in ap (λ b. b || list_any words_aggregate (xs ++ ys)) both.0 ∙ none_append xs ys both.1 later

none_in_kind : (kind : SectionKind) (sections : List SaidSection) → has_aggregate sections ≡ false → list_any words_aggregate (said_in_kind kind sections) ≡ false
none_in_kind kind [] none = refl
none_in_kind kind (section ∷ sections) none = let both = neither (section_aggregates section) (has_aggregate sections) none in by (is_kind kind section.kind) (none_of_lines section.statements both.0) (none_in_kind kind sections both.1)
  where
    by : (b : Bool) → list_any words_aggregate (words_of section) ≡ false → list_any words_aggregate (said_in_kind kind sections) ≡ false
        → list_any words_aggregate (if b then words_of section ++ said_in_kind kind sections else said_in_kind kind sections) ≡ false
    by true here later = none_append (words_of section) (said_in_kind kind sections) here later
    by false here later = later

-- The actors' sections, and `after`, ask for none whatever they say.
pub actor_asks_none : (sections : List SaidSection) → AsksNoChips (actor_of sections)
actor_asks_none sections = ends_outside 0 (said_in_kind Actor sections) no_names refl

pub actors_ask_none : (sections : List SaidSection) (n : ℕ) → AsksNoChips (program_of sections n)
actors_ask_none sections n = ends_outside 0 (words_of (get_or (actor_sections sections) (n - 1) no_section)) no_names refl

pub after_asks_none : (sections : List SaidSection) (names : Names) → AsksNoChips (after_of sections names)
after_asks_none sections names = ends_outside (length (said_in_kind Setup sections)) (said_in_kind After sections) (left_setup names) refl

pub asks_none : (sections : List SaidSection) → has_aggregate sections ≡ false → AskNone sections
asks_none sections none = record {
  setup = says_none 0 (said_in_kind Setup sections) done (none_in_kind Setup sections none) (λ names. tt) setup_names;
  alone = actor_asks_none sections;
  actors = actors_ask_none sections;
  after = after_asks_none sections;
}

-- A talk over a port that never keeps a map: it takes none, or is taught none.
abbrev pub KeepsNone : {A : Type 0} → Program A → Carried → Type 0
KeepsNone p s = (s.maps ≡ no_maps 0) ⊎ (AsksNoChips p × (s.maps.kept ≡ []))

pub none_kept : {A : Type 0} (p : Program A) (s : Carried) → KeepsNone p s → s.maps.kept ≡ []
none_kept p s (inl takes) = ap (λ (m : Maps). m.kept) takes
none_kept p s (inr none) = none.1

-- a port that takes no maps never does
module _ {A : Type 0} (driver : DriverKind) (actor : ℕ) where
  pub zero_turn : (p : Program A) (s : Carried) (turn : Turn) (q : Program A) (r : Carried) → Takes driver actor p s turn q r → s.maps ≡ no_maps 0 → r.maps ≡ no_maps 0
  zero_turn p s (Said text) q r (is, same) none = ap (λ (c : Carried). c.maps) same ∙ none
  zero_turn p s (Did e) q r (rest, is, onward, carries) none = carries.maps ∙ ap (λ (m : Maps). maps_behind e.what e.reply s.files m) none ∙ no_maps_behind e.what e.reply s.files

  pub zero_stays : (p : Program A) (s : Carried) (turns : List Turn) (q : Program A) (r : Carried) → Follows driver actor p s turns q r → s.maps ≡ no_maps 0 → r.maps ≡ no_maps 0
  zero_stays p s [] q r (is, same) none = subst (λ (c : Carried). c.maps ≡ no_maps 0) same none
  zero_stays p s (turn ∷ turns) q r (next, at, takes, follows) none = zero_stays next at turns q r follows (zero_turn p s turn next at takes none)

module _ {A : Type 0} (driver : DriverKind) (actor : ℕ) where
  pub keeps_on : (p : Program A) (s : Carried) (turn : Turn) (q : Program A) (r : Carried) → Takes driver actor p s turn q r → KeepsNone p s → KeepsNone q r
  keeps_on p s turn q r takes (inl none) = inl (zero_turn driver actor p s turn q r takes none)
  keeps_on p s turn q r takes (inr none) = let on = turn_stays driver actor p s turn q r none.0 takes in inr (on.0, ap (λ (m : Maps). m.kept) on.1 ∙ none.1)

  -- and to the end
  pub keeps_to_end : (p : Program A) (s : Carried) (turns : List Turn) (q : Program A) (r : Carried) → Follows driver actor p s turns q r → KeepsNone p s → KeepsNone q r
  keeps_to_end p s [] q r (is, same) none = subst (λ (x : Program A × Carried). KeepsNone x.0 x.1) (λ i. (is i, same i)) none
  keeps_to_end p s (turn ∷ turns) q r (next, at, takes, follows) none = keeps_to_end next at turns q r follows (keeps_on p s turn next at takes none)

-- the talks of a session whose ports never keep one
module _ (driver : DriverOver) (sections : List SaidSection) where
  pub setup_keeps : KeepsNoMaps driver sections → (told : Option Told) → KeepsNone (setup_of sections) (carried [] told (start_maps driver))
  setup_keeps (inl none) told = inl (ap no_maps none)
  setup_keeps (inr without) told = inr ((asks_none sections without).setup, refl)

  -- The maps of a port that never keeps one: it takes none, or the session teaches none. So it is along each of the session's talks.
  abbrev pub Bare : Maps → Type 0
  Bare m = (m ≡ no_maps 0) ⊎ ((has_aggregate sections ≡ false) × (m.kept ≡ []))

  pub bare_first : KeepsNoMaps driver sections → Bare (start_maps driver)
  bare_first (inl none) = inl (ap no_maps none)
  bare_first (inr without) = inr (without, refl)

  pub bare_kept : (m : Maps) → Bare m → m.kept ≡ []
  bare_kept m (inl takes) = ap (λ (x : Maps). x.kept) takes
  bare_kept m (inr none) = none.1

  pub bare_keeps : {A : Type 0} (p : Program A) (files : List OpenFile) (told : Option Told) (m : Maps) → (has_aggregate sections ≡ false → AsksNoChips p) → Bare m → KeepsNone p (carried files told m)
  bare_keeps p files told m asks (inl takes) = inl takes
  bare_keeps p files told m asks (inr none) = inr (asks none.0, none.1)

  pub bare_behind : {A : Type 0} (actor : ℕ) (p : Program A) (s : Carried) (turns : List Turn) (q : Program A) (r : Carried) → Follows driver.kind actor p s turns q r → (has_aggregate sections ≡ false → AsksNoChips p) → Bare s.maps → Bare r.maps
  bare_behind actor p s turns q r follows asks (inl takes) = inl (zero_stays driver.kind actor p s turns q r follows takes)
  bare_behind actor p s turns q r follows asks (inr none) = inr (none.0, ap (λ (x : Maps). x.kept) (turns_stay driver.kind actor p s turns q r (asks none.0) follows).1 ∙ none.1)
