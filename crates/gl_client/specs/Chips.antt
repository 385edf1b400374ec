-- Programs that ask for no chip over requests. This project's choice.
use Rattle.gl_base.specs.declared.operation.Do.{Do}
use Rattle.gl_base.specs.declared.operation.Do.TheVariants.{Aggregate}
use Rattle.gl_base.specs.declared.operation.Got.{Got}
use Rattle.gl_client.specs.Program.{Program, done, print, ask}

-- every other operation
abbrev pub IsPlain : Do → Type 0
IsPlain (Aggregate label slots count) = ⊥
IsPlain _ = Unit {0}

-- a program asks for none, whatever it is answered
abbrev pub AsksNoChips : {A : Type 0} → Program A → Type 0
AsksNoChips (done value) = Unit {0}
AsksNoChips (print text p) = AsksNoChips p
AsksNoChips (ask what p) = IsPlain what × ((got : Got) → AsksNoChips (p got))
