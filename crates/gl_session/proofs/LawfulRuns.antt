-- What is judged to be a lawful run is one, and each lawful run is judged so.
use Rattle.std.proofs.Common.{◌≡◌, inr, ℕ, ◌≤◌, Bool, true, false, not, ◌&&◌, List, ◌++◌, length, Option, Some, None, is_some, nat_le, nat_lt, refl, sym, ◌∙◌, ap, subst, arith}
use Rattle.std.specs.Prelude.{if◌then◌else◌}
use Rattle.std.specs.Str.{bytes_eq}
use Rattle.std.proofs.lemmas.Bool.Decides.{nat_tests}
use Rattle.std.proofs.lemmas.Slice.Eq.{bytes_eq-Decides}
use Rattle.gl_base.specs.declared.limits.TheConstants.{COST_MAX}
use Rattle.gl_script.specs.Cost.{has_aggregate}
use Rattle.gl_script.specs.Section.{SaidSection}
use Rattle.gl_script.specs.Sentence.{Sentence, first_fault, sections_said}
use Rattle.gl_script.specs.declared.refusal.Refusal.{Refusal}
use Rattle.gl_trace.specs.HistoryRead.{Bad, Good, HistoriesAreReadAlone, HistoriesAreReadBack, History, history_in}
use Rattle.gl_trace.specs.HistoryText.{AreTold, history_text}
use Rattle.gl_trace.proofs.Fields.{both_true}
use Rattle.gl_core.specs.Device.{OneEntry}
use Rattle.gl_check.specs.Drivers.{DriverOver, over, plain, planning}
use Rattle.gl_check.specs.Many.{Texts, actor_sections, all_new}
use Rattle.gl_check.specs.Misfit.{IsMisfit, MisfitIsNoneForMany, texts_of}
use Rattle.gl_check.specs.Texts.{texts_text}
use Rattle.gl_session.specs.declared.judging.TheConstants.{CHECK_MAX}
use Rattle.gl_session.specs.declared.verdict.Verdict.{Verdict}
use Rattle.gl_session.specs.declared.verdict.Verdict.TheVariants.{NoText, Yes}
use Rattle.gl_session.specs.Judged.{RunsAreLawful}
use Rattle.gl_session.specs.Output.{output}
use Rattle.gl_session.specs.Verdict.{IsLawful, IsLongVerdict, IsOutputVerdict, IsPartsVerdict, IsSessionVerdict, LawfulIsYes, Parts, YesIsLawful, check_text, entries_verdict, header_of, is_judged}
use Rattle.gl_session.proofs.Causes.{short}
use Rattle.gl_session.proofs.FewStatements.{sentence_is_sized}
use Rattle.gl_session.proofs.Headers.{header_back, header_read}
use Rattle.gl_session.proofs.ManyFollows.{came_to_many}
use Rattle.gl_session.proofs.PrintedLines.{printed_lines}
use Rattle.gl_session.proofs.Silence.{as_plain, many_played, planned_played, played_plainly}

no_fault : (fault : Option Refusal) → not (is_some fault) ≡ true → fault ≡ None
no_fault None e = refl
no_fault (Some fault) e = cc

is_without : (b : Bool) → not b ≡ true → b ≡ false
is_without true e = cc
is_without false e = refl

-- a session that can be judged is a sentence of several actors without `aggregate`
judged_says : (session : List ℕ) → is_judged session ≡ true
    → Sentence session (sections_said session) × (2 ≤ length (actor_sections (sections_said session))) × (has_aggregate (sections_said session) ≡ false)
judged_says session e =
    let p = both_true (not (is_some (first_fault session))) (nat_le 2 (length (actor_sections (sections_said session))) && not (has_aggregate (sections_said session))) e in
    let q = both_true (nat_le 2 (length (actor_sections (sections_said session)))) (not (has_aggregate (sections_said session))) p.1 in
    let many = q.0 in
    (record { faultless = no_fault (first_fault session) p.0; says = refl }, grind (arith, nat_tests, many), is_without (has_aggregate (sections_said session)) q.1)

pub says_judged : (session : List ℕ) (sections : List SaidSection) → Sentence session sections → 2 ≤ length (actor_sections sections) → has_aggregate sections ≡ false → is_judged session ≡ true
says_judged session sections s many without =
    let some : 2 ≤ length (actor_sections (sections_said session)) = subst (λ (l : List SaidSection). 2 ≤ length (actor_sections l)) s.says many in
    let test : nat_le 2 (length (actor_sections (sections_said session))) ≡ true = grind (arith, nat_tests, some) in
    let none : has_aggregate (sections_said session) ≡ false = subst (λ (l : List SaidSection). has_aggregate l ≡ false) s.says without in
    (λ i. not (is_some (s.faultless i)) && (test i && not (none i)))

-- entries and texts of a verdict `yes`
same_if : (b : Bool) → Yes ≡ (if b then Yes else NoText) → b ≡ true
same_if true e = refl
same_if false e = cc

yes_entries : (sections : List SaidSection) (front : List ℕ) (history : List OneEntry) (misfit : Option ℕ) → IsMisfit sections history misfit → Yes ≡ entries_verdict misfit sections front history
    → IsMisfit sections history None × (front ≡ texts_text sections (texts_of sections history))
yes_entries sections front history (Some index) h e = cc
yes_entries sections front history None h e =
    let texts : List ℕ = texts_text sections (texts_of sections history) in
    (h, (bytes_eq-Decides front texts).0 (same_if (bytes_eq front texts) e))

-- texts that are those of a history are judged so
texts_same : (sections : List SaidSection) (texts : Texts) (history : List OneEntry) → texts ≡ texts_of sections history → entries_verdict None sections (texts_text sections texts) history ≡ Yes
texts_same sections texts history is =
    let same : texts_text sections texts ≡ texts_text sections (texts_of sections history) = ap (texts_text sections) is in
    let test : bytes_eq (texts_text sections texts) (texts_text sections (texts_of sections history)) ≡ true = (bytes_eq-Decides (texts_text sections texts) (texts_text sections (texts_of sections history))).1 same in
    ap (λ b. if b then Yes else NoText) test

within_back : (limit n : ℕ) → nat_lt limit n ≡ false → n ≤ limit
within_back limit n e = grind (arith, nat_tests)

within_test : (limit n : ℕ) → n ≤ limit → nat_lt limit n ≡ false
within_test limit n h = grind (arith, nat_tests)

-- an output that is judged to be lawful
record LawfulOutput (sections : List SaidSection) (printed : List ℕ) : Type 0 where
  history : List OneEntry
  told : AreTold 0 history
  fits : IsMisfit sections history None
  is : printed ≡ output sections (texts_of sections history) history

-- Over what is proved of the layers below: of misfits, and of histories that are read.
module _ (judges : MisfitIsNoneForMany) (back : HistoriesAreReadBack) (alone : HistoriesAreReadAlone) where
  yes_output : (sections : List SaidSection) (printed : List ℕ) (found : History) → history_in printed ≡ found → IsOutputVerdict sections found Yes → LawfulOutput sections printed
  yes_output sections printed (Bad line) is h = cc
  yes_output sections printed (Good front history) is h =
      let judged = yes_entries sections front history h.1.0 h.1.1 h.1.2 in
      record { history = history; told = h.0; fits = judged.0; is = (alone printed front history is).0 ∙ ap (λ l. l ++ history_text history) judged.1 }

  yes_parts : (input : List ℕ) (parts : Parts) → length input ≤ CHECK_MAX → input ≡ check_text parts.session parts.output → is_judged parts.session ≡ true
      → IsOutputVerdict (sections_said parts.session) (history_in parts.output) Yes → IsLawful input
  yes_parts input parts within is judged h =
      let said = judged_says parts.session judged in
      let o = yes_output (sections_said parts.session) parts.output (history_in parts.output) refl h in
      let sound = (judges (sections_said parts.session) o.history).sound o.fits in
      record {
        session = parts.session;
        sections = sections_said parts.session;
        texts = texts_of (sections_said parts.session) o.history;
        history = o.history;
        within = within;
        is = is ∙ ap (check_text parts.session) o.is;
        sentence = said.0;
        several = said.1;
        without = said.2;
        many = sound.0;
        planned = sound.1;
        told = o.told;
      }

  pub yes_is_lawful : YesIsLawful
  yes_is_lawful input = by_long (nat_lt CHECK_MAX (length input)) refl
    where
      by_session : (parts : Parts) (b : Bool) → length input ≤ CHECK_MAX → input ≡ check_text parts.session parts.output → is_judged parts.session ≡ b → IsSessionVerdict b parts Yes → IsLawful input
      by_session parts true within is judged h = yes_parts input parts within is judged h
      by_session parts false within is judged h = cc

      by_parts : (o : Option Parts) → length input ≤ CHECK_MAX → header_of input ≡ o → IsPartsVerdict o Yes → IsLawful input
      by_parts None within is h = cc
      by_parts (Some parts) within is h = by_session parts (is_judged parts.session) within (header_read input parts is) refl h

      by_long : (b : Bool) → nat_lt CHECK_MAX (length input) ≡ b → IsLongVerdict b input Yes → IsLawful input
      by_long true e h = cc
      by_long false e h = by_parts (header_of input) (within_back CHECK_MAX (length input) e) refl h

  -- a history of a lawful run isn't longer than its session may be
  history_few : (input : List ℕ) (l : IsLawful input) → length l.history ≤ COST_MAX
  history_few input l =
      let within = (came_to_many (over 0 (planning plain)) (omega arith) all_new l.planned.0 l.sections l.history l.texts l.planned.1).within in
      let cheap = (sentence_is_sized l.session l.sections l.sentence).cheap in
      omega arith

  history_read : (input : List ℕ) (l : IsLawful input) → history_in (output l.sections l.texts l.history) ≡ Good (texts_text l.sections l.texts) l.history
  history_read input l =
      back (texts_text l.sections l.texts) l.history (printed_lines (over 0 (planning plain)) all_new l.planned.0 l.sections l.history l.texts l.planned.1) (history_few input l) l.told

  lawful_output : (input : List ℕ) (l : IsLawful input) (verdict : Verdict) → IsOutputVerdict l.sections (Good (texts_text l.sections l.texts) l.history) verdict → verdict ≡ Yes
  lawful_output input l verdict h =
      let j = judges l.sections l.history in
      let fits = j.complete l.texts l.planned in
      let none : h.1.0 ≡ None = j.at_most_one h.1.0 None h.1.1 fits.0 in
      h.1.2 ∙ ap (λ (o : Option ℕ). entries_verdict o l.sections (texts_text l.sections l.texts) l.history) none ∙ texts_same l.sections l.texts l.history fits.1

  pub lawful_is_yes : LawfulIsYes
  lawful_is_yes input verdict l h =
      let printed : List ℕ = output l.sections l.texts l.history in
      let parts : Parts = record { session = l.session; output = printed } in
      let long : IsLongVerdict false input verdict = subst (λ (b : Bool). IsLongVerdict b input verdict) (within_test CHECK_MAX (length input) l.within) h in
      let header : header_of input ≡ Some parts = ap header_of l.is ∙ header_back l.session printed (short l.session l.sections l.sentence) in
      let begun : IsPartsVerdict (Some parts) verdict = subst (λ (o : Option Parts). IsPartsVerdict o verdict) header long in
      let judged : IsSessionVerdict true parts verdict = subst (λ (b : Bool). IsSessionVerdict b parts verdict) (says_judged l.session l.sections l.sentence l.several l.without) begun in
      let said : IsOutputVerdict l.sections (history_in printed) verdict = subst (λ (s : List SaidSection). IsOutputVerdict s (history_in printed) verdict) (sym l.sentence.says) judged in
      lawful_output input l verdict (subst (λ (f : History). IsOutputVerdict l.sections f verdict) (history_read input l) said)

-- what a run of several actors printed is a lawful run
pub runs_are_lawful : (driver : DriverOver) → RunsAreLawful driver
runs_are_lawful driver is session sections before left m text sentence several without run new within =
    let played = played_plainly driver before left sections run.history (inr without) run.texts run.came.ports in record {
      session = session;
      sections = sections;
      texts = run.texts;
      history = run.history;
      within = within;
      is = ap (check_text session) run.prints;
      sentence = sentence;
      several = several;
      without = without;
      many = many_played (over 0 (as_plain driver.kind)) before left sections run.history run.texts played;
      planned = planned_played (over 0 (as_plain driver.kind)) before left sections run.history run.texts is new played;
      told = run.told;
    }
