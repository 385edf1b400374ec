use Rattle.std.proofs.Common.{◌∙◌, drop, refl}
use Rattle.std.specs.Option.{option_copied}
use Rattle.gl_client.specs.Program.{given, then_left}
use Rattle.gl_talk.specs.Over.{joined}
use Rattle.gl_talk.specs.Talk.{left, talked}
use Rattle.gl_talk.proofs.TalkedSteps.{call_step, last_step, print_step}
use Rattle.gl_talk.proofs.over.finish.Goals as goal
use Rattle.gl_talk.proofs.over.finish.Goals.{in-Call+in_ok-push-in-Call+in-Some, in-Print+in_ok-extend_from_slice-in-Print}

pub returns-in-None-clause-over : goal.returns-in-None-clause-over
returns-in-None-clause-over c = λ f.
    last_step c.loop.over (record { operations = c.push.new.self; text = c.loop.over.text }) (left c.loop.talk) (left c.next.new.self) f (option_copied c.loop.got) c.args.results.now c.loop.at c.in-Call.what
    (rw c.in-Call.is at c.in_ok-what.ensures.goes) c.in_ok-push-in-Call.ensures.items refl c.in-None.ensures.lookup.0
    ∙ c.loop.invariant.0 f

pub loop-preserved : goal.loop-preserved
loop-preserved c =
    elim c.match-branch-2.branch [
      | in-Call+in_ok-push-in-Call+in-Some w ↦ (
        λ f.
            (λ i. joined (w.over-is i) (talked (given (then_left (left c.next.new.self) f) (option_copied (w.got-is i))) (drop (w.at-is i) c.args.results.now)))
            ∙ call_step c.loop.over (record { operations = w.push.new.self; text = c.loop.over.text }) (left c.loop.talk) (left c.next.new.self) f (option_copied c.loop.got) c.args.results.now c.loop.at
            w.in-Call.what w.in-Some.next.now (rw w.in-Call.is at c.in_ok-what.ensures.goes) w.in_ok-push-in-Call.ensures.items refl w.in-Some.ensures.lookup.0 w.in-Some.ensures.lookup.1
            ∙ c.loop.invariant.0 f,
        c.in_ok-what.ensures.counted ∙ c.loop.invariant.1,
      )
      | in-Print+in_ok-extend_from_slice-in-Print w ↦ (
        λ f.
            (λ i. joined (w.over-is i) (talked (given (then_left (left c.next.new.self) f) (option_copied (w.got-is i))) (drop (w.at-is i) c.args.results.now)))
            ∙ print_step c.loop.over (record { operations = c.loop.over.operations; text = w.extend_from_slice.new.self }) (left c.loop.talk) (left c.next.new.self) f (option_copied c.loop.got)
            c.args.results.now c.loop.at w.in-Print.text (rw w.in-Print.is at c.in_ok-what.ensures.goes) refl (rw w.as_slice.ensures at w.in_ok-extend_from_slice-in-Print.ensures.items)
            ∙ c.loop.invariant.0 f,
        c.in_ok-what.ensures.counted ∙ c.loop.invariant.1,
      )
    ]
