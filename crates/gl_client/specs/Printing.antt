-- Programs that print whole lines. This project's choice.
use Rattle.std.specs.Prelude.{◌≡◌, true}
use Rattle.gl_base.specs.declared.operation.Got.{Got}
use Rattle.gl_base.specs.TextLines.{ends_lines}
use Rattle.gl_client.specs.Program.{Program, done, print, ask}

-- the last byte of each text that a program prints is 0x0A, whatever it is answered
abbrev pub PrintsLines : {A : Type 0} → Program A → Type 0
PrintsLines (done value) = Unit {0}
PrintsLines (print text p) = (ends_lines text ≡ true) × PrintsLines p
PrintsLines (ask what p) = (got : Got) → PrintsLines (p got)
