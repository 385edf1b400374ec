use Rattle.gl_check.proofs.replaying.replay_new.Goals as goal

pub invariant_of-judge : goal.invariant_of-judge
invariant_of-judge c = record { under_way = c.judge_all.new.judge.first.talk.under_way }

pub returns : goal.returns
returns c = c.judge_all.ensures

pub invariant_of-judge-2 : goal.invariant_of-judge-2
invariant_of-judge-2 c = record { under_way = c.judge_all.new.judge.first.talk.under_way }
