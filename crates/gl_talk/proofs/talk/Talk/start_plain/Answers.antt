use Rattle.std.proofs.Common.{map, rules, sym, subst}
use Rattle.gl_client.specs.Program.{Goes}
use Rattle.gl_talk.specs.declared.actions.SaidAction.TheVariants.{Nothing, Refuse, Ask}
use Rattle.gl_talk.specs.declared.tools.StatementKind.TheVariants.{Plain}
use Rattle.gl_talk.specs.Copied.{words_of}
use Rattle.gl_talk.specs.Open.{file_in}
use Rattle.gl_talk.specs.Talk.{Does, left, names_in, slot_in, words_in}
use Rattle.gl_talk.proofs.Asking.{asked, never_nothing, refused_same}
use Rattle.gl_talk.proofs.Copies.{kind_under_way, spelled, told_there}
use Rattle.gl_talk.proofs.TypedActions.{as_said}
use Rattle.gl_talk.proofs.talk.Talk.start_plain.Goals as goal

pub action_here-action-requires : goal.action_here-action-requires
action_here-action-requires c = kind_under_way c.args.self.now.line c.under_way.result.now Plain c.under_way.ensures.words c.requires.kind

pub unreachable-requires : goal.unreachable-requires
unreachable-requires c =
    let t = c.args.self.now in
    let line = c.under_way.result.now in
    let plain = kind_under_way t.line line Plain c.under_way.ensures.words c.requires.kind in
    never_nothing line.said (asked t.in_setup line.said (map file_in c.deref.result.now) (slot_in t) (words_of line) c.action_here-action.result Nothing plain c.action_here-action.ensures c.in-Nothing.is)

pub invariant_of-self-in-Ask : goal.invariant_of-self-in-Ask
invariant_of-self-in-Ask c =
    let t = c.args.self.now in
    let line = c.under_way.result.now in
    let plain = kind_under_way t.line line Plain c.under_way.ensures.words c.requires.kind in
    record {
      under_way = told_there _ t.line line c.under_way.ensures.there
          (asked t.in_setup line.said (map file_in c.deref.result.now) (slot_in t) (words_of line) c.action_here-action.result (Ask _ _) plain c.action_here-action.ensures c.in-Ask.is);
    }

pub returns-in_ok-refuse-in-Refuse-clause-goes : goal.returns-in_ok-refuse-in-Refuse-clause-goes
returns-in_ok-refuse-in-Refuse-clause-goes c =
    let t = c.args.self.now in
    let line = c.under_way.result.now in
    subst (λ (p : Does). Goes p c.refuse.new.step (left c.refuse.new.self))
    (sym (as_said t.in_setup line.said c.deref.result.now t.files.items c.action_here-action.result (Refuse _) (names_in t) (slot_in t) (words_of line) (words_in t) (spelled line) c.deref.ensures.value c.under_way.ensures.words c.action_here-action.ensures c.in-Refuse.is))
    (refused_same _ c.in-Refuse.errno (names_in t) c.refuse.new.step (left c.refuse.new.self) (search rules) c.in_ok-refuse-in-Refuse.ensures.goes)

pub returns-in-Ask-clause-goes : goal.returns-in-Ask-clause-goes
returns-in-Ask-clause-goes c =
    let t = c.args.self.now in
    let line = c.under_way.result.now in
    as_said t.in_setup line.said c.deref.result.now t.files.items c.action_here-action.result _ (names_in t) (slot_in t) (words_of line) (words_in t) (spelled line) c.deref.ensures.value c.under_way.ensures.words c.action_here-action.ensures c.in-Ask.is
