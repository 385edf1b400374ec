use Rattle.gl_gate.proofs.Turns.{with_rest}
use Rattle.gl_gate.proofs.turnstile.Turnstile.is_full.Goals as goal

pub slot_mut-held-requires : goal.slot_mut-held-requires
slot_mut-held-requires g c = let t = c.requires.turn in (c.requires.gate, (t.held, with_rest _ t.held t.slot))
