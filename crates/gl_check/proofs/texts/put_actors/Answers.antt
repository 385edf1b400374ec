use Rattle.std.proofs.Common.{◌<◌, ◌≤◌, ◌+◌, ◌++◌, ℕ, List, drop, drop_of_length-le, length, map, arith, sym, ap, ◌∙◌}
use Rattle.std.proofs.lemmas.List.{append-nil}
use Rattle.gl_script.specs.Script.{sections_of}
use Rattle.gl_script.specs.Section.{SaidSection}
use Rattle.gl_check.specs.Many.{actor_sections}
use Rattle.gl_check.specs.Seating.{text_in}
use Rattle.gl_check.specs.Texts.{actors_text}
use Rattle.gl_check.proofs.Printing.{none_fewer, none_written, one_fewer, one_written}
use Rattle.gl_check.proofs.texts.put_actors.Goals as goal
use Rattle.gl_check.proofs.texts.put_actors.Goals.{in-Some+in_ok-put_actor-in-Some, in-None}

pub loop-section-preserved : goal.loop-section-preserved
loop-section-preserved c =
    let there : c.loop-section.section < length (sections_of c.args.script.now) = (let e = c.sections-section-end.ensures in let l = c.loop-section-test.true in omega arith) in
    elim c.match-actor_name.branch [
      | in-Some+in_ok-put_actor-in-Some w ↦
          let as_many = one_fewer (sections_of c.args.script.now) c.args.seats.now c.loop-section.section c.loop-section.at there w.in-Some.ensures.0 c.loop-section.invariant.as_many in
          let is = w.at-is in record {
            whole = ap (λ (n : ℕ). c.match-actor_name.out.items ++ actors_text (actor_sections (drop (c.loop-section.section + 1) (sections_of c.args.script.now))) (drop n (map text_in c.args.seats.now))) w.at-is
                ∙ one_written (sections_of c.args.script.now) c.args.seats.now c.loop-section.section c.loop-section.at there w.index-seats-at.result w.in-Some.name.now w.deref.result.now c.loop-section.out.items
                c.match-actor_name.out.items _ w.in-Some.ensures.0 c.loop-section.invariant.as_many w.index-seats-at.is w.in-Some.ensures.1 (w.deref.ensures.value ∙ ap text_in (sym w.index-seats-at.is))
                (ap (λ v. v.items) w.out-is ∙ w.in_ok-put_actor-in-Some.ensures.ok) c.loop-section.invariant.whole;
            as_many = omega arith;
          }
      | in-None w ↦
          let as_many = none_fewer (sections_of c.args.script.now) c.args.seats.now c.loop-section.section c.loop-section.at there w.in-None.ensures c.loop-section.invariant.as_many in
          let is = w.at-is in record {
            whole = ap (λ (n : ℕ). c.match-actor_name.out.items ++ actors_text (actor_sections (drop (c.loop-section.section + 1) (sections_of c.args.script.now))) (drop n (map text_in c.args.seats.now))) w.at-is
                ∙ none_written (sections_of c.args.script.now) c.args.seats.now c.loop-section.section c.loop-section.at there c.match-actor_name.out.items _ w.in-None.ensures
                (ap (λ v. v.items ++ actors_text (actor_sections (drop c.loop-section.section (sections_of c.args.script.now))) (drop c.loop-section.at (map text_in c.args.seats.now))) w.out-is ∙ c.loop-section.invariant.whole);
            as_many = omega arith;
          }
    ]

pub bounds-seats-at : goal.bounds-seats-at
bounds-seats-at c =
    let there : c.loop-section.section < length (sections_of c.args.script.now) = (let e = c.sections-section-end.ensures in let l = c.loop-section-test.true in omega arith) in
    let fewer = one_fewer (sections_of c.args.script.now) c.args.seats.now c.loop-section.section c.loop-section.at there c.in-Some.ensures.0 c.loop-section.invariant.as_many in
    omega (arith, fewer)

pub returns-clause-ok : goal.returns-clause-ok
returns-clause-ok c =
    let most : length (sections_of c.args.script.now) ≤ c.loop-section.section = (let e = c.sections-section-end.ensures in let l = c.loop-section-test.false in omega arith) in
    sym (append-nil c.loop-section.out.items)
    ∙ ap (λ (l : List SaidSection). c.loop-section.out.items ++ actors_text (actor_sections l) (drop c.loop-section.at (map text_in c.args.seats.now))) (sym (drop_of_length-le (sections_of c.args.script.now) most))
    ∙ c.loop-section.invariant.whole
