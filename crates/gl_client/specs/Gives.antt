-- What the values of a program are, whatever it is answered.
use Rattle.gl_base.specs.declared.operation.Got.{Got}
use Rattle.gl_client.specs.Program.{Program, done, print, ask}

-- each value that a program may give has the property
abbrev pub Gives : {A : Type 0} → (A → Type 0) → Program A → Type 0
Gives P (done value) = P value
Gives P (print text p) = Gives P p
Gives P (ask what p) = (got : Got) → Gives P (p got)
