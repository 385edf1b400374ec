use Rattle.std.proofs.Common.{refl, ap, sym, ◌∙◌}
use Rattle.gl_aggregator.proofs.Halves.{ask_made, ask_refused, full_refused, record_made, shut_out, visited}
use Rattle.gl_aggregator.proofs.visiting.begin.Goals as goal

pub returns-in-Err-clause-begins : goal.returns-in-Err-clause-begins
returns-in-Err-clause-begins g c = shut_out g.M.Machine c.args.refused.now c.args.ask.now c.args.pass.now.view c.args.place c.enter.new.pass.view c.act.new.pass.view c.requires.no_turn (ap (λ x. x.view) (c.if-not-enter.ensures.refused refl))
    (full_refused g.M.Machine c.args.refused.now c.args.ask.now c.args.refused.now c.enter.new.pass.view c.act.new.pass.view c.number-number-then-not-enter.ensures.own c.in-Err.ensures.own c.in-Err.ensures.same c.in-Err.ensures.no_turn c.in-Err.ensures.refuses)

pub returns-then-begins-clause-begins : goal.returns-then-begins-clause-begins
returns-then-begins-clause-begins g c = ask_made g.M.Machine c.args.place c.args.ask.now c.args.pass.now.view c.enter.new.pass.view c.act-2.new.pass.view c.in-Ok-act.reply _ _ c.requires.ask
    (ap (λ x. x.view) (c.if-not-enter.ensures.entered refl)) (c.if-not-enter.ensures.inside refl) (c.if-not-enter.ensures.back refl) c.enter.ensures.knows
    c.in-Ok-act.ensures.acts c.in-Ok-act.ensures.same c.in-Ok-act.ensures.no_turn (sym c.begins.ensures ∙ c.if-begins.true)

pub returns-in-Err-act-clause-begins : goal.returns-in-Err-act-clause-begins
returns-in-Err-act-clause-begins g c = visited g.M.Machine c.args.refused.now c.args.ask.now c.args.pass.now.view c.args.place c.enter.new.pass.view c.act-2.new.pass.view c.leave.new.pass.view
    (ap (λ x. x.view) (c.if-not-enter.ensures.entered refl)) (c.if-not-enter.ensures.back refl) (ap (λ x. x.view) c.leave.ensures)
    (full_refused g.M.Machine c.args.refused.now c.args.ask.now c.args.ask.now c.enter.new.pass.view c.act-2.new.pass.view c.number-number-2.ensures.own c.in-Err-act.ensures.own c.in-Err-act.ensures.same c.in-Err-act.ensures.no_turn c.in-Err-act.ensures.refuses)

pub returns-else-begins-clause-begins : goal.returns-else-begins-clause-begins
returns-else-begins-clause-begins g c = visited g.M.Machine c.args.refused.now c.args.ask.now c.args.pass.now.view c.args.place c.enter.new.pass.view c.act-2.new.pass.view c.leave-in-Ok-act.new.pass.view
    (ap (λ x. x.view) (c.if-not-enter.ensures.entered refl)) (c.if-not-enter.ensures.back refl) (ap (λ x. x.view) c.leave-in-Ok-act.ensures)
    (ask_refused g.M.Machine c.args.refused.now c.args.ask.now c.args.place c.enter.new.pass.view c.in-Ok-act.reply _ _ c.act-2.new.pass.view c.requires.ask c.in-Ok-act.ensures.same c.in-Ok-act.ensures.no_turn c.in-Ok-act.ensures.acts (sym c.begins.ensures ∙ c.if-begins.false))

pub returns-in-Ok-clause-begins : goal.returns-in-Ok-clause-begins
returns-in-Ok-clause-begins g c = shut_out g.M.Machine c.args.refused.now c.args.ask.now c.args.pass.now.view c.args.place c.enter.new.pass.view c.act.new.pass.view c.requires.no_turn (ap (λ x. x.view) (c.if-not-enter.ensures.refused refl))
    (record_made g.M.Machine c.args.refused.now c.args.ask.now c.args.place c.enter.new.pass.view c.in-Ok.field-0 _ _ c.act.new.pass.view c.requires.recorded c.in-Ok.ensures.same c.in-Ok.ensures.no_turn c.in-Ok.ensures.acts)
