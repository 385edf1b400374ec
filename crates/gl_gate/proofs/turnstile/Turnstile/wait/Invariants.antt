use Rattle.std.proofs.Common.{◌≡◌}
use Rattle.gl_gate.proofs.turnstile.Turnstile.wait.Given as goal

-- as long as it waits, the seat is as it was
abbrev pub invariant-loop : goal.invariant-loop
invariant-loop g l = (l.seat.table_id ≡ l.initial.seat.table_id) × (l.seat.me ≡ l.initial.seat.me)
