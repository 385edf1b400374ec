use Rattle.gl_served.proofs.Session.{frames_are_session}
use Rattle.gl_served.proofs.laws.frames_are_session.Goals as goal

pub returns : goal.returns
returns c = frames_are_session c.served_lines_are_sessions.ensures.whole
