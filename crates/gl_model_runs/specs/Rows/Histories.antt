-- Worked runs as histories: each call with what it is answered is an entry.
use Rattle.std.specs.Prelude.{List, [], ◌∷◌}
use Rattle.gl_world.specs.History.{entry}
use Rattle.gl_world.specs.declared.history.Entry.{Entry}
use Rattle.gl_model.specs.declared.call.Call.{Call}
use Rattle.gl_model.specs.declared.gift.Gift.{Gift}
use Rattle.gl_model.specs.declared.reply.Reply.{Reply}
use Rattle.gl_model_runs.specs.Run.{Answer, Made}

-- the history of calls that are answered so
unfoldable pub history : {K : Type 0} → List Made → List Answer → List (Entry K Call Reply Gift)
history [] answers = []
history (made ∷ run) [] = []
history (made ∷ run) (answer ∷ answers) = entry made.actor made.call answer.reply ∷ history run answers
