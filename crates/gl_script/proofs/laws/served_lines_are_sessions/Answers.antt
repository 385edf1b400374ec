use Rattle.gl_script.proofs.ServingLines.{accepted_lines_have_no_fault, accepted_texts_are_sessions, refused_lines_have_their_fault}
use Rattle.gl_script.proofs.laws.served_lines_are_sessions.Goals as goal

pub returns-clause-accepted : goal.returns-clause-accepted
returns-clause-accepted c = accepted_lines_have_no_fault

pub returns-clause-refused : goal.returns-clause-refused
returns-clause-refused c = refused_lines_have_their_fault

pub returns-clause-whole : goal.returns-clause-whole
returns-clause-whole c = accepted_texts_are_sessions
