use Rattle.std.proofs.Common.{◌≡◌, Option, None, Some, ap, sym, subst, ◌∙◌, rules}
use Rattle.gl_talk.specs.Talk.{names_in}
use Rattle.gl_served.specs.Served.{Keeps, ServedValue}
use Rattle.gl_served.specs.UnderWay.{CanAnswerBy, IsOther}
use Rattle.gl_served.specs.declared.under_way.UnderWay.{UnderWay}
use Rattle.gl_served.proofs.Running.{keeps_as, standing_with, under_way_as}
use Rattle.gl_served.proofs.served.Served.answer.Goals as goal

pub returns-in-None-clause-answered : goal.returns-in-None-clause-answered
returns-in-None-clause-answered c = λ said can.
    let inner : c.self.inside.under_way ≡ None = search rules in
    let none : c.args.self.now.under_way ≡ None = sym (ap (λ (v : ServedValue). v.under_way) c.self.view_is) ∙ inner in
    let now : ServedValue = record { stage = c.self.inside.stage; talk = c.self.inside.talk; count = c.self.inside.count; alone = c.self.inside.alone; under_way = c.take.new.self } in
    let rests : c.take.new.self ≡ None = search rules in
    let keeps : Keeps c.args.self.now said = subst (λ (u : Option UnderWay). CanAnswerBy u c.args.self.now said c.args.line.now) none can in
    c.reply.ensures.answered said
    (keeps_as c.args.self.now now said keeps (ap (λ (v : ServedValue). v.stage) c.self.view_is) (ap (λ (v : ServedValue). v.count) c.self.view_is) (ap (λ (v : ServedValue). names_in v.talk) c.self.view_is)
    (ap (λ (v : ServedValue). v.alone) c.self.view_is) (rests ∙ sym none))

pub returns-in-None-clause-kept : goal.returns-in-None-clause-kept
returns-in-None-clause-kept c = λ said can.
    let inner : c.self.inside.under_way ≡ None = search rules in
    let none : c.args.self.now.under_way ≡ None = sym (ap (λ (v : ServedValue). v.under_way) c.self.view_is) ∙ inner in
    let now : ServedValue = record { stage = c.self.inside.stage; talk = c.self.inside.talk; count = c.self.inside.count; alone = c.self.inside.alone; under_way = c.take.new.self } in
    let rests : c.take.new.self ≡ None = search rules in
    let keeps : Keeps c.args.self.now said = subst (λ (u : Option UnderWay). CanAnswerBy u c.args.self.now said c.args.line.now) none can in
    c.reply.ensures.kept said
    (keeps_as c.args.self.now now said keeps (ap (λ (v : ServedValue). v.stage) c.self.view_is) (ap (λ (v : ServedValue). v.count) c.self.view_is) (ap (λ (v : ServedValue). names_in v.talk) c.self.view_is)
    (ap (λ (v : ServedValue). v.alone) c.self.view_is) (rests ∙ sym none))

pub returns-in-Some-clause-answered : goal.returns-in-Some-clause-answered
returns-in-Some-clause-answered c = λ said can.
    let inner : c.self.inside.under_way ≡ Some c.in-Some.under_way = search rules in
    let some : c.args.self.now.under_way ≡ Some c.in-Some.under_way = sym (ap (λ (v : ServedValue). v.under_way) c.self.view_is) ∙ inner in
    let now : ServedValue = record { stage = c.self.inside.stage; talk = c.self.inside.talk; count = c.self.inside.count; alone = c.self.inside.alone; under_way = c.take.new.self } in
    let rests : c.take.new.self ≡ None = search rules in
    c.resume.ensures.answered said rests
    (under_way_as c.in-Some.under_way c.args.self.now now said c.args.line.now (subst (λ (u : Option UnderWay). CanAnswerBy u c.args.self.now said c.args.line.now) some can)
    (ap (λ (v : ServedValue). v.stage) c.self.view_is) (ap (λ (v : ServedValue). v.count) c.self.view_is) (ap (λ (v : ServedValue). v.talk) c.self.view_is) (ap (λ (v : ServedValue). v.alone) c.self.view_is))

pub returns-in-Some-clause-kept : goal.returns-in-Some-clause-kept
returns-in-Some-clause-kept c = λ said can.
    let inner : c.self.inside.under_way ≡ Some c.in-Some.under_way = search rules in
    let some : c.args.self.now.under_way ≡ Some c.in-Some.under_way = sym (ap (λ (v : ServedValue). v.under_way) c.self.view_is) ∙ inner in
    let now : ServedValue = record { stage = c.self.inside.stage; talk = c.self.inside.talk; count = c.self.inside.count; alone = c.self.inside.alone; under_way = c.take.new.self } in
    c.resume.ensures.kept said
    (under_way_as c.in-Some.under_way c.args.self.now now said c.args.line.now (subst (λ (u : Option UnderWay). CanAnswerBy u c.args.self.now said c.args.line.now) some can)
    (ap (λ (v : ServedValue). v.stage) c.self.view_is) (ap (λ (v : ServedValue). v.count) c.self.view_is) (ap (λ (v : ServedValue). v.talk) c.self.view_is) (ap (λ (v : ServedValue). v.alone) c.self.view_is))

pub returns-in-None-clause-other : goal.returns-in-None-clause-other
returns-in-None-clause-other c = λ other.
    let inner : c.self.inside.under_way ≡ None = search rules in
    let none : c.args.self.now.under_way ≡ None = sym (ap (λ (v : ServedValue). v.under_way) c.self.view_is) ∙ inner in
    absurd (subst (λ (u : Option UnderWay). IsOther u c.args.line.now) none other)

pub returns-in-Some-clause-other : goal.returns-in-Some-clause-other
returns-in-Some-clause-other c = λ other.
    let inner : c.self.inside.under_way ≡ Some c.in-Some.under_way = search rules in
    let some : c.args.self.now.under_way ≡ Some c.in-Some.under_way = sym (ap (λ (v : ServedValue). v.under_way) c.self.view_is) ∙ inner in
    let went = c.resume.ensures.other (subst (λ (u : Option UnderWay). IsOther u c.args.line.now) some other) in (
      went.0,
      went.1
          ∙ ap (standing_with c.self.inside.stage c.self.inside.talk c.self.inside.count c.self.inside.alone) (sym inner)
          ∙ c.self.view_is,
    )
