-- Programs that print whole lines.
use Rattle.gl_client.specs.Program.{Program, done, print, ask, then_by}
use Rattle.gl_client.specs.Printing.{PrintsLines}

-- one program and then another print whole lines where both do
pub prints_then : {A B : Type 0} (p : Program A) (f : A → Program B) → PrintsLines p → ((value : A) → PrintsLines (f value)) → PrintsLines (then_by p f)
prints_then (done value) f h k = k value
prints_then (print text p) f h k = (h.0, prints_then p f h.1 k)
prints_then (ask what p) f h k = λ got. prints_then (p got) f (h got) k
