use Rattle.gl_talk.specs.Talk.{left, names_in, slot_in, words_in}
use Rattle.gl_talk.specs.declared.tools.StatementKind.TheVariants.{Plain, ToolAlone, Starting, Stepping, Stopping}
use Rattle.gl_talk.proofs.Continuing.{started}
use Rattle.gl_talk.proofs.Copies.{kind_seen}
use Rattle.gl_talk.proofs.talk.Talk.start.Goals as goal

pub returns-in_ok-start_plain-in-Plain-clause-goes : goal.returns-in_ok-start_plain-in-Plain-clause-goes
returns-in_ok-start_plain-in-Plain-clause-goes c =
    let t = c.args.self.now in
    started Plain (names_in t) (slot_in t) (words_in t) c.start_plain.new.step (left c.start_plain.new.self) (kind_seen t.line c.under_way.result.now c.kind_of.result Plain c.under_way.ensures.words c.kind_of.ensures c.in-Plain.is)
    c.in_ok-start_plain-in-Plain.ensures.goes

pub returns-in_ok-start_tool-in-ToolAlone-clause-goes : goal.returns-in_ok-start_tool-in-ToolAlone-clause-goes
returns-in_ok-start_tool-in-ToolAlone-clause-goes c =
    let t = c.args.self.now in
    started ToolAlone (names_in t) (slot_in t) (words_in t) c.start_tool.new.step (left c.start_tool.new.self) (kind_seen t.line c.under_way.result.now c.kind_of.result ToolAlone c.under_way.ensures.words c.kind_of.ensures c.in-ToolAlone.is)
    c.in_ok-start_tool-in-ToolAlone.ensures.goes

pub returns-in_ok-start_held-in-Starting-clause-goes : goal.returns-in_ok-start_held-in-Starting-clause-goes
returns-in_ok-start_held-in-Starting-clause-goes c =
    let t = c.args.self.now in
    started Starting (names_in t) (slot_in t) (words_in t) c.start_held.new.step (left c.start_held.new.self) (kind_seen t.line c.under_way.result.now c.kind_of.result Starting c.under_way.ensures.words c.kind_of.ensures c.in-Starting.is)
    c.in_ok-start_held-in-Starting.ensures.goes

pub start_plain-requires-clause-kind : goal.start_plain-requires-clause-kind
start_plain-requires-clause-kind c = kind_seen c.args.self.now.line c.under_way.result.now c.kind_of.result Plain c.under_way.ensures.words c.kind_of.ensures c.in-Plain.is

pub start_held-requires-clause-kind : goal.start_held-requires-clause-kind
start_held-requires-clause-kind c = kind_seen c.args.self.now.line c.under_way.result.now c.kind_of.result Starting c.under_way.ensures.words c.kind_of.ensures c.in-Starting.is

pub step_held-requires-clause-kind : goal.step_held-requires-clause-kind
step_held-requires-clause-kind c = kind_seen c.args.self.now.line c.under_way.result.now c.kind_of.result Stepping c.under_way.ensures.words c.kind_of.ensures c.in-Stepping.is

pub stop_held-requires-clause-kind : goal.stop_held-requires-clause-kind
stop_held-requires-clause-kind c = kind_seen c.args.self.now.line c.under_way.result.now c.kind_of.result Stopping c.under_way.ensures.words c.kind_of.ensures c.in-Stopping.is
