use Rattle.std.proofs.Common.{rules, refl, ◌<◌, ◌+◌, List, sym, inl, inr, ⊎_elim, ap, ◌∙◌, length, map, drop, ◌++◌, arith}
use Rattle.std.proofs.lemmas.List.{length-map}
use Rattle.gl_base.specs.Words.{Span}
use Rattle.gl_script.specs.Script.{sections_of}
use Rattle.gl_talk.specs.Over.{columns_in}
use Rattle.gl_talk.specs.Talk.{names_in}
use Rattle.gl_check.specs.One.{said_in_kind}
use Rattle.gl_session.proofs.Plays.{plays_nothing, plays_on, stops_on}
use Rattle.gl_session.proofs.Sections.{said_next, section_count, section_step, section_stops}
use Rattle.gl_session.proofs.one_actor.play_kind.Goals as goal

pub loop-section-init : goal.loop-section-init
loop-section-init g c = (refl, search rules, search rules, plays_nothing _ _ _ _ _)

pub play_all-requires-clause-begun : goal.play_all-requires-clause-begun
play_all-requires-clause-begun g c =
    let within : c.loop-section.section < length (sections_of c.args.script.now) = omega (arith, c.loop-section-test.true, c.loop-section.invariant.1) in
    let whole = said_next c.args.kind (sections_of c.args.script.now) c.loop-section.section within
    ∙ ap (λ (l : List (List Span)). l ++ said_in_kind c.args.kind (drop (c.loop-section.section + 1) (sections_of c.args.script.now))) (sym c.statements_of_kind-statements.ensures) in
    let count = section_count (map columns_in c.statements_of_kind-statements.result.now) (said_in_kind c.args.kind (drop (c.loop-section.section + 1) (sections_of c.args.script.now))) (said_in_kind c.args.kind (drop c.loop-section.section (sections_of c.args.script.now))) whole in let mapped = length-map c.statements_of_kind-statements.result.now columns_in in
    omega (arith, count, mapped, c.loop-section.invariant.2, c.requires.begun)

pub loop-section-preserved : goal.loop-section-preserved
loop-section-preserved g c =
    let within : c.loop-section.section < length (sections_of c.args.script.now) = omega (arith, c.loop-section-test.true, c.loop-section.invariant.1) in
    let whole = said_next c.args.kind (sections_of c.args.script.now) c.loop-section.section within
    ∙ ap (λ (l : List (List Span)). l ++ said_in_kind c.args.kind (drop (c.loop-section.section + 1) (sections_of c.args.script.now))) (sym c.statements_of_kind-statements.ensures) in
    let count = section_count (map columns_in c.statements_of_kind-statements.result.now) (said_in_kind c.args.kind (drop (c.loop-section.section + 1) (sections_of c.args.script.now))) (said_in_kind c.args.kind (drop c.loop-section.section (sections_of c.args.script.now))) whole in let mapped = length-map c.statements_of_kind-statements.result.now columns_in in (
      c.in-Ok.ensures.device ∙ c.loop-section.invariant.0,
      c.loop-section.invariant.1,
      omega (arith, count, mapped, c.loop-section.invariant.2, c.in-Ok.ensures.counted),
      plays_on _ _ _ _ _ _ _ _ _ _ _ _ _ c.loop-section.invariant.3
          (section_step _ _ _ c.loop-section.talk.begun (map columns_in c.statements_of_kind-statements.result.now) (said_in_kind c.args.kind (drop (c.loop-section.section + 1) (sections_of c.args.script.now))) (said_in_kind c.args.kind (drop c.loop-section.section (sections_of c.args.script.now))) (names_in c.loop-section.talk) whole _ _ _ _ c.play_all.new.talk.begun (names_in c.play_all.new.talk)
          (omega (arith, mapped, c.in-Ok.ensures.counted)) c.in-Ok.ensures.played),
    )

pub returns-in-Err-clause-stopped : goal.returns-in-Err-clause-stopped
returns-in-Err-clause-stopped g c =
    let within : c.loop-section.section < length (sections_of c.args.script.now) = omega (arith, c.loop-section-test.true, c.loop-section.invariant.1) in
    let whole = said_next c.args.kind (sections_of c.args.script.now) c.loop-section.section within
    ∙ ap (λ (l : List (List Span)). l ++ said_in_kind c.args.kind (drop (c.loop-section.section + 1) (sections_of c.args.script.now))) (sym c.statements_of_kind-statements.ensures) in
    ⊎_elim (λ wanted. inl wanted)
    (λ full. inr (
      full.0,
      stops_on _ _ _ _ _ _ _ _ _ _ c.loop-section.invariant.3 (section_stops _ _ _ c.loop-section.talk.begun (map columns_in c.statements_of_kind-statements.result.now) (said_in_kind c.args.kind (drop (c.loop-section.section + 1) (sections_of c.args.script.now))) (said_in_kind c.args.kind (drop c.loop-section.section (sections_of c.args.script.now))) (names_in c.loop-section.talk) whole _ full.1),
    ))
    c.in-Err.ensures.stopped
