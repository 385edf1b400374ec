-- What a call does: the world after it, the reply, and the bytes that it writes from the start of the buffer. That a refused
-- call changes nothing is this project's choice where the kernel's documents are silent.
use Rattle.std.specs.Prelude.{ℕ, List, [], Option, Result, Ok, Err}
use Rattle.gl_base.specs.Refusals.{answer}
use Rattle.gl_base.specs.declared.errno.Errno.{Errno}
use Rattle.gl_model.specs.declared.reply.Reply.{Reply}
use Rattle.gl_model.specs.declared.reply.Reply.TheVariants.{Done, Number, Refused}
use Rattle.gl_model.specs.World.{World}

pub record Outcome : Type 0 where
  pub world : World
  pub reply : Reply
  pub bytes : List ℕ

-- the world as it is, or another one, and a reply; nothing is written
abbrev pub replies : Reply → World → Outcome
replies reply w = record { world = w; reply = reply; bytes = [] }

-- the call was done
abbrev pub done : World → Outcome
done w = replies Done w

-- a number is the answer
abbrev pub numbers : ℕ → World → Outcome
numbers n w = replies (Number n) w

-- the call is refused, and this is the world after it: the one before it, except for a claim whose driver failed; nothing is written
abbrev pub refused : Errno → World → Outcome
refused errno w = replies (Refused errno) w

-- what a call does that is refused, or comes to this outcome
abbrev pub outcome_of : World → Result Outcome Errno → Outcome
outcome_of w (Err errno) = refused errno w
outcome_of w (Ok out) = out

-- the call is refused where there is a refusal; else it does this
abbrev pub refused_or : Option Errno → World → Outcome → Outcome
refused_or refusal w out = outcome_of w (answer refusal out)

-- the call was done, and these bytes are written
abbrev pub writes : List ℕ → World → Outcome
writes bytes w = record { world = w; reply = Done; bytes = bytes }
