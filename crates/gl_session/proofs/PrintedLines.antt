-- What the actors of a session printed is whole lines, and so are their texts after their headers.
use Rattle.std.proofs.Common.{◌≡◌, ℕ, ◌+◌, ◌-◌, true, List, [], ◌∷◌, ◌++◌, length, get_or, Option, refl, sym, ◌∙◌, ap, subst}
use Rattle.std.specs.Prelude.{codes}
use Rattle.gl_base.specs.TextLines.{ends_lines, text_line}
use Rattle.gl_base.proofs.TextLines.{line_ends, lines_end}
use Rattle.gl_client.specs.Printing.{PrintsLines}
use Rattle.gl_client.specs.Program.{Program, done}
use Rattle.gl_driver.specs.Told.{Told}
use Rattle.gl_script.specs.Section.{SaidSection}
use Rattle.gl_script.specs.declared.section.SectionKind.TheVariants.{Setup, After}
use Rattle.gl_talk.specs.Open.{Names, left_setup, no_names, setup_names}
use Rattle.gl_talk.specs.Talk.{quits}
use Rattle.gl_talk.proofs.TalkPrints.{end_lines, says_lines}
use Rattle.gl_core.specs.Device.{OneDeed, OneEntry}
use Rattle.gl_asking.specs.Asking.{got_of}
use Rattle.gl_check.specs.Drivers.{DriverKind, DriverOver}
use Rattle.gl_check.specs.Joining.{Maps}
use Rattle.gl_check.specs.Many.{ActorsPlayed, AllPlayed, Texts, actor_sections, no_section, program_of, words_of}
use Rattle.gl_check.specs.One.{said_in_kind}
use Rattle.gl_check.specs.Programs.{after_of, setup_of}
use Rattle.gl_check.specs.Texts.{actors_text, texts_text}
use Rattle.gl_check.specs.Turns.{Carried, Did, Follows, Played, Said, Turn, said_by}

-- turns of a program that prints whole lines
turns_lines : {A : Type 0} (driver : DriverKind) (actor : ℕ) (turns : List Turn) (p : Program A) (s : Carried) (q : Program A) (r : Carried) → PrintsLines p → Follows driver actor p s turns q r
    → ends_lines (said_by turns) ≡ true
turns_lines driver actor [] p s q r lines h = refl
turns_lines {A} driver actor (Said text ∷ turns) p s q r lines h =
    let here = subst (λ (x : Program A). PrintsLines x) h.2.0 lines in
    lines_end text (said_by turns) here.0 (turns_lines driver actor turns h.0 h.1 q r here.1 h.3)
turns_lines {A} driver actor (Did e ∷ turns) p s q r lines h =
    let here = subst (λ (x : Program A). PrintsLines x) h.2.1 lines in
    turns_lines driver actor turns h.0 h.1 q r (subst (λ (x : Program A). PrintsLines x) (sym h.2.2) (here (got_of e.what e.reply e.wrote))) h.3

played_lines : {A : Type 0} (driver : DriverKind) (actor : ℕ) (p : Program A) (s : Carried) (text : List ℕ) (did : List OneDeed) (value : A) (r : Carried) → PrintsLines p → Played driver actor p s text did value r
    → ends_lines text ≡ true
played_lines driver actor p s text did value r lines h = ap ends_lines h.text_is ∙ turns_lines driver actor h.turns p s (done value) r lines h.follows

-- what each part of a session carries out prints whole lines
setup_lines : (sections : List SaidSection) → PrintsLines (setup_of sections)
setup_lines sections = says_lines 0 (said_in_kind Setup sections) done (λ names. tt) setup_names

after_lines : (sections : List SaidSection) (names : Names) → PrintsLines (after_of sections names)
after_lines sections names = says_lines (length (said_in_kind Setup sections)) (said_in_kind After sections) quits end_lines (left_setup names)

actor_lines : (sections : List SaidSection) (n : ℕ) → PrintsLines (program_of sections n)
actor_lines sections n = says_lines 0 (words_of (get_or (actor_sections sections) (n - 1) no_section)) quits end_lines no_names

module _ (driver : DriverOver) (before left : ℕ → Option Told) (sections : List SaidSection) (history : List OneEntry) where
  texts_lines : (m : Maps) (others : List SaidSection) (n : ℕ) (texts : List (List ℕ)) → ActorsPlayed driver before left sections history m n texts → ends_lines (actors_text others texts) ≡ true
  texts_lines m [] n texts h = refl
  texts_lines m (section ∷ others) n [] h = refl
  texts_lines m (section ∷ others) n (text ∷ texts) h =
      let head : List ℕ = text_line (codes "== actor " ++ section.name) in
      let here : ends_lines text ≡ true = played_lines driver.kind n (program_of sections n) _ text _ _ _ (actor_lines sections n) h.0.played in
      lines_end (head ++ text) (actors_text others texts) (lines_end head text (line_ends (codes "== actor " ++ section.name)) here) (texts_lines m others (n + 1) texts h.1)

  -- the texts of a session that was carried out are whole lines
  pub printed_lines : (texts : Texts) → AllPlayed driver before left sections history texts → ends_lines (texts_text sections texts) ≡ true
  printed_lines texts h =
      let setup : ends_lines texts.setup ≡ true = played_lines driver.kind 0 (setup_of sections) _ texts.setup _ _ _ (setup_lines sections) h.setup in
      let last : ends_lines texts.last ≡ true = played_lines driver.kind 0 (after_of sections h.names) _ texts.last _ _ _ (after_lines sections h.names) h.after in
      let actors : List ℕ = actors_text (actor_sections sections) texts.actors in
      let first : ends_lines (text_line (codes "== setup") ++ texts.setup) ≡ true = lines_end (text_line (codes "== setup")) texts.setup refl setup in
      let middle : ends_lines (text_line (codes "== setup") ++ texts.setup ++ actors) ≡ true =
      lines_end (text_line (codes "== setup") ++ texts.setup) actors first (texts_lines h.waiting.maps (actor_sections sections) 1 texts.actors h.actors) in
      let behind : ends_lines (text_line (codes "== setup") ++ texts.setup ++ actors ++ text_line (codes "== after")) ≡ true =
      lines_end (text_line (codes "== setup") ++ texts.setup ++ actors) (text_line (codes "== after")) middle refl in
      lines_end (text_line (codes "== setup") ++ texts.setup ++ actors ++ text_line (codes "== after")) texts.last behind last
