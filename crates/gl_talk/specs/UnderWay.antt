-- What a talk has of the statement that is under way. This project's choice.
use Rattle.std.specs.Prelude.{Bool, true, false, is_some, Option, None, Some}
use Rattle.gl_script.specs.declared.said.Said.{Said}
use Rattle.gl_talk.specs.declared.actions.SaidAction.{SaidAction}
use Rattle.gl_talk.specs.declared.actions.SaidAction.TheVariants.{Nothing, Refuse, Ask}
use Rattle.gl_talk.specs.declared.actions.SaidFormat.{SaidFormat}
use Rattle.gl_talk.specs.declared.actions.SaidFormat.TheVariants.{Closed, OldBytes}
use Rattle.gl_talk.specs.declared.copied.CopiedStatement.{CopiedStatement}
use Rattle.gl_talk.specs.declared.talk.Stage.{Stage}
use Rattle.gl_talk.specs.declared.talk.Stage.TheVariants.{Begun, Waiting}
use Rattle.gl_talk.specs.Words.{is_command, is_on_file}

-- what is told of a result is told of a statement that says it: a file that is closed by its name, and the bytes of a command
abbrev pub tells : SaidFormat → Said → Bool
tells Closed said = is_on_file said
tells (OldBytes kind command) said = is_command said
tells _ said = true

-- a statement that is no tool's is refused, or asks for an operation
abbrev pub asks : SaidAction → Said → Bool
asks Nothing said = false
asks (Refuse errno) said = true
asks (Ask what reply) said = tells reply said

-- at a stage that reads a statement there is one, and of that kind
abbrev pub is_there : Stage → Option CopiedStatement → Bool
is_there Begun line = is_some line
is_there (Waiting reply) None = false
is_there (Waiting reply) (Some copied) = tells reply copied.said
is_there _ line = true
