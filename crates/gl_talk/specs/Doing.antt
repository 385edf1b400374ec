-- What a statement does is a program that gives the names after it: here that of a refusal and that of a text. This project's choice.
use Rattle.std.specs.Prelude.{ℕ, List}
use Rattle.gl_base.specs.Errno.{errno_name}
use Rattle.gl_base.specs.declared.errno.Errno.{Errno}
use Rattle.gl_client.specs.Program.{Program, done, print}
use Rattle.gl_lines.specs.Texts.{line}
use Rattle.gl_talk.specs.Open.{Names}

-- a statement gives the names after it
abbrev pub Does : Type 0
Does = Program Names

-- a refused statement prints the error's name
abbrev pub refused : Errno → Names → Does
refused errno names = print (line (errno_name errno)) (done names)

-- a text is printed, and the statement is done
abbrev pub shows : List ℕ → Names → Does
shows text names = print text (done names)
