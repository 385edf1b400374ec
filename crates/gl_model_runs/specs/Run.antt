-- A run: calls one after another from the opening world, each by an actor, and what they are answered.
use Rattle.std.specs.Prelude.{ℕ, List, [], ◌∷◌}
use Rattle.gl_model.specs.declared.call.Call.{Call}
use Rattle.gl_model.specs.declared.reply.Reply.{Reply}
use Rattle.gl_model.specs.declared.reply.Reply.TheVariants.{Done}
use Rattle.gl_model.specs.Step.{step}
use Rattle.gl_model.specs.World.{World, opening}

-- a call, and who makes it
pub record Made : Type 0 where
  pub actor : ℕ
  pub call : Call

-- what a call is answered, and what it writes
pub record Answer : Type 0 where
  pub reply : Reply
  pub bytes : List ℕ

-- an answer without bytes
abbrev pub says : Reply → Answer
says reply = record { reply = reply; bytes = [] }

-- the call was done, and wrote these bytes
abbrev pub shows : List ℕ → Answer
shows bytes = record { reply = Done; bytes = bytes }

-- what the calls of a run are answered, from a world on
unfoldable pub answers_from : World → List Made → List Answer
answers_from w [] = []
answers_from w (made ∷ later) =
    let out = step w made.actor made.call in
    record { reply = out.reply; bytes = out.bytes } ∷ answers_from out.world later

-- what the calls of a run are answered
abbrev pub answers : List Made → List Answer
answers run = answers_from opening run
