-- The text of what was accepted is One.
use Rattle.std.proofs.Common.{◌≡◌, ◌≤◌, ◌+◌, ℕ, List, [], ◌∷◌, ◌++◌, length, map, refl, sym, ◌∙◌, ap, arith}
use Rattle.std.proofs.lemmas.List.{append-nil}
use Rattle.gl_base.specs.Words.{Span, span}
use Rattle.gl_client.specs.Program.{done}
use Rattle.gl_script.specs.Columns.{columns}
use Rattle.gl_script.specs.declared.section.SectionKind.TheVariants.{Setup}
use Rattle.gl_talk.specs.Open.{Names, setup_names, slots_in_order}
use Rattle.gl_talk.specs.Talk.{closes_all, says}
use Rattle.gl_base.specs.declared.operation.Do.TheVariants.{Close}
use Rattle.gl_script.specs.Section.{SaidSection}
use Rattle.gl_check.specs.One.{PlannedPort, Ran, Standing, behind_setup, from_plan, one, performs, planned, run, run_actor, said_in_kind}
use Rattle.gl_served.specs.Served.{carried_out, start}
use Rattle.gl_check.specs.Ports.{unplanned}
use Rattle.gl_served.specs.declared.limits.TheConstants.{PAIRS}
use Rattle.gl_served.specs.Whole.{TextIsOne}
use Rattle.gl_served.proofs.Listed.{planned_is_one}
use Rattle.gl_served.proofs.Running.{carried_says}

-- closing prints nothing
closes_silently : (slots : List ℕ) (s : Standing PlannedPort) → (run 0 from_plan (closes_all slots) s).text ≡ []
closes_silently [] s = refl
closes_silently (slot ∷ slots) s = closes_silently slots (performs 0 from_plan (Close slot) s).1

-- a session that has these statements in `setup`
abbrev with_statements : List Span → List SaidSection
with_statements spans = record { kind = Setup; name = []; statements = spans } ∷ []

words_same : (spans : List Span) (texts : List (List ℕ)) → map (λ (line : Span). line.text) spans ≡ texts → map (λ (line : Span). columns line.text) spans ≡ map columns texts
words_same spans texts is = on spans ∙ ap (map columns) is
  where
    on : (l : List Span) → map (λ (line : Span). columns line.text) l ≡ map columns (map (λ (line : Span). line.text) l)
    on [] = refl
    on (line ∷ l) = ap (λ (rest : List (List Span)). columns line.text ∷ rest) (on l)

statements_same : (spans : List Span) (texts : List (List ℕ)) → map (λ (line : Span). line.text) spans ≡ texts → said_in_kind Setup (with_statements spans) ≡ map columns texts
statements_same spans texts is = append-nil (map (λ (line : Span). columns line.text) spans) ∙ words_same spans texts is

ends_silently : (spans : List Span) (setup : Ran PlannedPort Names) → (behind_setup 0 0 from_plan (with_statements spans) setup).text ≡ setup.text
ends_silently spans setup =
    let actor = run_actor 0 0 from_plan (with_statements spans) setup.behind in
    ap (λ (t : List ℕ). (setup.text ++ []) ++ t) (closes_silently (slots_in_order setup.value) (record actor.behind { files = setup.behind.files }))
    ∙ append-nil (setup.text ++ []) ∙ append-nil setup.text

-- statements that stand somewhere in a text
pub spans_are_one : (spans : List Span) (statements : List (List ℕ)) → map (λ (line : Span). line.text) spans ≡ statements → length statements ≤ PAIRS
    → (carried_out statements).text ≡ one (with_statements spans) (planned (with_statements spans))
spans_are_one spans statements is few =
    let within : 0 + length statements ≤ PAIRS = omega (arith, few) in
    ap (λ (ran : Ran PlannedPort Names). ran.text) (carried_says statements 0 (record { text = []; value = setup_names; behind = start }) within)
    ∙ sym (
    ends_silently spans (run 0 from_plan (says 0 (said_in_kind Setup (with_statements spans)) done setup_names) start)
    ∙ ap (λ (words : List (List Span)). (run 0 from_plan (says 0 words done setup_names) start).text) (statements_same spans statements is))
    ∙ planned_is_one (with_statements spans) unplanned

texts_of_lines : (lines : List (List ℕ)) → map (λ (line : Span). line.text) (map (λ line. span 0 line) lines) ≡ lines
texts_of_lines [] = refl
texts_of_lines (line ∷ lines) = ap (λ (rest : List (List ℕ)). line ∷ rest) (texts_of_lines lines)

pub text_is_one : TextIsOne
text_is_one said few = spans_are_one (map (λ line. span 0 line) said.statements) said.statements (texts_of_lines said.statements) few
