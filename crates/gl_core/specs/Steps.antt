-- What the calls of the core are to the machine's steps: the words in which each of them is promised.
use Rattle.std.specs.Prelude.{◌≡◌, ℕ, List, ◌++◌, drop, length, Result, Ok, Err}
use Rattle.gl_model.specs.declared.reply.Reply.{Reply}
use Rattle.gl_model.specs.Outcome.{Outcome}
use Rattle.gl_model.specs.World.{World}
use Rattle.gl_core.specs.Kept.{Kept, StandsFor}
use Rattle.gl_base.specs.declared.errno.Errno.{Errno}
use Rattle.gl_model.specs.declared.reply.Reply.TheVariants.{Done, Refused}

-- a call does what the step does: to each world that the core stands for, and it answers what the step answers
abbrev pub Steps : (World → Outcome) → Kept → Kept → Reply → Type 0
Steps step old new reply = (w : World) → StandsFor old w → StandsFor new (step w).world × (reply ≡ (step w).reply)

-- a call that has a buffer does what the step does, and writes what the step writes; after that the buffer stays
abbrev pub StepsInto : (World → Outcome) → Kept → Kept → Reply → List ℕ → List ℕ → Type 0
StepsInto step old new reply before after =
    (w : World) → StandsFor old w → StandsFor new (step w).world × (reply ≡ (step w).reply)
    × (let bytes = (step w).bytes in after ≡ bytes ++ drop (length bytes) before)

-- a part of a call does what this part of the step does
abbrev pub Follows : (World → World) → Kept → Kept → Type 0
Follows change old new = (w : World) → StandsFor old w → StandsFor new (change w)

-- a look-up tells what is so in each world that the core stands for
abbrev pub Tells : {A : Type 0} → (World → A) → Kept → A → Type 0
Tells what kept answer = (w : World) → StandsFor kept w → answer ≡ what w

-- what a call is answered that a table has done or refused
abbrev pub replied : Result (Unit {0}) Errno → Reply
replied (Ok done) = Done
replied (Err errno) = Refused errno
