-- What a statement that is no tool's does, by what it says: as `acts`, with the number of a command, and the name and the kind of a
-- file that is opened or made, kept with how the result is told. This project's choice.
use Rattle.std.specs.Prelude.{ℕ, List, Option, Some, None}
use Rattle.gl_base.specs.Operation.{refusal, bytes_of, ready_of}
use Rattle.gl_base.specs.Words.{Span, text_at}
use Rattle.gl_base.specs.declared.errno.Errno.{Errno}
use Rattle.gl_base.specs.declared.operation.Got.{Got}
use Rattle.gl_client.specs.Program.{done, ask}
use Rattle.gl_lines.specs.Texts.{line}
use Rattle.gl_talk.specs.declared.actions.SaidAction.{SaidAction}
use Rattle.gl_talk.specs.declared.actions.SaidAction.TheVariants.{Nothing, Refuse, Ask}
use Rattle.gl_talk.specs.declared.actions.SaidFormat.{SaidFormat}
use Rattle.gl_talk.specs.declared.actions.SaidFormat.TheVariants.{Silent, Value, Level, Bytes, Edges, Infos, Ready, Opened, Closed, Made, OldBytes, OldEdges, OldMade}
use Rattle.gl_talk.specs.declared.files.TalkFileKind.{TalkFileKind}
use Rattle.gl_talk.specs.declared.files.TalkFileKind.TheVariants.{Chip, Request}
use Rattle.gl_talk.specs.Doing.{Does, refused, shows}
use Rattle.gl_talk.specs.Old.{old_edges_text, old_structure_text}
use Rattle.gl_talk.specs.Open.{File, Names, with_file, without_file}
use Rattle.gl_talk.specs.Replies.{number_of, text_of, level_text, ready_text, structure_text, fd_text, edges_text, infos_text}
use Rattle.gl_talk.specs.Words.{behind_three, bytes_said}

-- an open file of just this name
abbrev pub file_said : List ℕ → ℕ → TalkFileKind → File
file_said name slot kind = record { name = name; slot = slot; kind = kind }

-- how a result that is no refusal is told
abbrev pub told_said : SaidFormat → Names → ℕ → List Span → Got → Does
told_said Silent names slot words got = done names
told_said Value names slot words got = shows (line (text_of got)) names
told_said (Level is_pull) names slot words got = shows (line (level_text is_pull (number_of got))) names
told_said (Bytes command) names slot words got = shows (structure_text command (bytes_of got)) names
told_said Edges names slot words got = shows (edges_text (bytes_of got)) names
told_said Infos names slot words got = shows (infos_text (bytes_of got)) names
told_said Ready names slot words got = shows (line (ready_text (ready_of got))) names
told_said (Opened name) names slot words got = done (with_file (file_said name slot Chip) names)
told_said Closed names slot words got = done (without_file (text_at 1 words) names)
told_said (Made name) names slot words got = shows (fd_text (bytes_of got)) (with_file (file_said name slot Request) names)
told_said (OldBytes kind command) names slot words got =
    shows (old_structure_text kind command (bytes_said (behind_three words)) (bytes_of got)) names
told_said OldEdges names slot words got = shows (old_edges_text (bytes_of got)) names
told_said (OldMade kind name) names slot words got = shows (fd_text (bytes_of got)) (with_file (file_said name slot kind) names)

abbrev pub replied_said_by : Option Errno → SaidFormat → Names → ℕ → List Span → Got → Does
replied_said_by (Some errno) reply names slot words got = refused errno names
replied_said_by None reply names slot words got = told_said reply names slot words got

-- how a result is told
abbrev pub replied_said : SaidFormat → Names → ℕ → List Span → Got → Does
replied_said reply names slot words got = replied_said_by (refusal got) reply names slot words got

-- what a statement does that is no tool's
abbrev pub acts_said : SaidAction → Names → ℕ → List Span → Does
acts_said Nothing names slot words = done names
acts_said (Refuse errno) names slot words = refused errno names
acts_said (Ask what reply) names slot words = ask what (λ got. replied_said reply names slot words got)
