use Rattle.gl_gate.proofs.Turns.{with_rest, made}
use Rattle.gl_gate.proofs.turnstile.Turnstile.make.Goals as goal

pub slot_mut-held-requires : goal.slot_mut-held-requires
slot_mut-held-requires g c = let t = c.requires.turn in (c.requires.gate, (t.held, with_rest _ t.held t.slot))

pub returns-clause-made : goal.returns-clause-made
returns-clause-made g c = let e = c.make.ensures in made g.M.Machine _ _ _ _ _ _ _ _ c.requires.turn c.slot_mut-held.ensures.value e.world e.reply e.bytes e.history e.room e.space

pub returns-clause-in_range : goal.returns-clause-in_range
returns-clause-in_range g c = let met = g.met.M.Machine g.world.𝓛 g.world.𝓜 g.world.𝓡 ((λ s x. x), (λ x. x), (λ x. x), λ x. x) in met.fits_calls _ _ _ c.requires.fits

pub returns-clause-second : goal.returns-clause-second
returns-clause-second g c = let met = g.met.M.Machine g.world.𝓛 g.world.𝓜 g.world.𝓡 ((λ s x. x), (λ x. x), (λ x. x), λ x. x) in met.ends_not_begins _ _
