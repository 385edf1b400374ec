use Rattle.gl_v1.proofs.UnknownFlags.{event_refused_for_edge, event_refused_for_line, handle_refused}
use Rattle.gl_v1.proofs.laws.unknown_flags_are_refused.Goals as goal

pub returns : goal.returns
returns c = record { handle = handle_refused; line = event_refused_for_line; edge = event_refused_for_edge }
