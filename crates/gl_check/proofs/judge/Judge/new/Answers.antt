use Rattle.gl_script.specs.Script.{sections_of}
use Rattle.gl_check.proofs.Moves.{judge_begins, no_more}
use Rattle.gl_check.proofs.judge.Judge.new.Goals as goal

pub start_first-requires : goal.start_first-requires
start_first-requires c = record { within = no_more (sections_of c.args.script.now) c.args.setup.now c.args.all.now c.requires.setup c.requires.all }

pub returns-clause-ok : goal.returns-clause-ok
returns-clause-ok c =
    let begins = c.in_ok-begun.ensures.first (sections_of c.args.script.now) c.requires.setup c.requires.all in
    judge_begins (sections_of c.args.script.now) _ c.in_ok-core.ensures.ok begins.0 begins.1 c.in_ok-others.ensures.seats c.in_ok-others.ensures.as_many
