use Rattle.std.proofs.Common.{inl, inr, ⊎_elim, ap, None}
use Rattle.gl_client.specs.Program.{given}
use Rattle.gl_script.specs.Script.{sections_of}
use Rattle.gl_talk.specs.Talk.{names_in}
use Rattle.gl_check.specs.One.{said_in_kind}
use Rattle.gl_session.proofs.Sections.{ends_behind, stops_at_end, stops_before_end}
use Rattle.gl_session.proofs.one_actor.play_to_end.Goals as goal

pub returns-in-Err-clause-stopped : goal.returns-in-Err-clause-stopped
returns-in-Err-clause-stopped g c = ⊎_elim (λ wanted. inl wanted) (λ full. inr (full.0, stops_before_end _ _ _ c.args.talk.now.begun (said_in_kind c.args.kind (sections_of c.args.script.now)) (names_in c.args.talk.now) _ full.1)) c.in-Err.ensures.stopped

pub returns-in-Ok-play-clause-played : goal.returns-in-Ok-play-clause-played
returns-in-Ok-play-clause-played g c =
    ends_behind _ _ _ c.args.talk.now.begun (said_in_kind c.args.kind (sections_of c.args.script.now)) (names_in c.args.talk.now) _ _ _ _ (names_in c.play_kind.new.talk) _ _ _ _ (names_in c.play.new.talk) c.in-Ok.ensures.played (ap (λ l. given l None) c.quit.ensures.quits) c.in-Ok-play.ensures.played

pub returns-in-Err-play-clause-stopped : goal.returns-in-Err-play-clause-stopped
returns-in-Err-play-clause-stopped g c =
    ⊎_elim (λ wanted. inl wanted)
    (λ full. inr (full.0, stops_at_end _ _ _ c.args.talk.now.begun (said_in_kind c.args.kind (sections_of c.args.script.now)) (names_in c.args.talk.now) _ _ _ _ (names_in c.play_kind.new.talk) _ _ c.in-Ok.ensures.played (ap (λ l. given l None) c.quit.ensures.quits) full.1))
    c.in-Err-play.ensures.stopped
