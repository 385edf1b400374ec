use Rattle.std.proofs.Common.{ℕ, Vec, Global, Bool, Ok, ◌∙◌, ap, sym, subst}
use Rattle.gl_script.specs.Served.{Statement}
use Rattle.gl_talk.specs.Talk.{left, names_in}
use Rattle.gl_served.specs.Served.{ServedValue, accepted_after, carried_out}
use Rattle.gl_served.specs.UnderWay.{IsGoing, IsTaken, does_behind, text_shown}
use Rattle.gl_served.specs.declared.answered.Answer.TheVariants.{Text}
use Rattle.gl_served.proofs.Running.{is_carried, is_stated, keeps_more}
use Rattle.gl_served.proofs.served.Served.go_on.Goals as goal

pub returns-in-Ok-clause-answered : goal.returns-in-Ok-clause-answered
returns-in-Ok-clause-answered c = λ said line rests begun.
    let g = c.finish.new.going in
    let v = c.finish.new.self in
    let so = is_carried said line g.step g.first g.printed.items (left v.talk) v.alone (names_in v.talk) (c.finish.ensures.gone (does_behind said line) (carried_out said.statements).behind begun.going) c.in-Ok.ensures.ended c.in-Ok.ensures.told in (
      text_shown g.reads g.first g.printed.items,
      accepted_after Statement line said,
      c.in-Ok.ensures.text,
      subst (λ (r : Bool). IsTaken r said line (Ok Statement) Text (text_shown g.reads g.first g.printed.items) (accepted_after Statement line said)) c.finish.ensures.line.reads
          (is_stated g.reads said line g.printed.items g.first v.alone (names_in v.talk) so),
      keeps_more v said line g.printed.items g.first (c.finish.ensures.session.stage ∙ begun.stage) (c.finish.ensures.session.count ∙ begun.count) (c.finish.ensures.session.under_way ∙ rests) so,
    )

pub returns-in-Err-clause-left : goal.returns-in-Err-clause-left
returns-in-Err-clause-left c = λ said line begun. (
  ap (λ (v : Vec ℕ Global). v.items) c.finish.ensures.line.line,
  c.finish.ensures.line.reads,
  record {
    stage = ap (λ (v : ServedValue). v.stage) c.self.view_is ∙ c.finish.ensures.session.stage ∙ begun.stage;
    count = ap (λ (v : ServedValue). v.count) c.self.view_is ∙ c.finish.ensures.session.count ∙ begun.count;
    going = subst (λ (v : ServedValue). IsGoing (does_behind said line) (carried_out said.statements).behind c.finish.new.going v) (sym c.self.view_is)
        (c.finish.ensures.gone (does_behind said line) (carried_out said.statements).behind begun.going);
  },
)
