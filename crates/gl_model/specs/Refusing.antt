-- What a refused call leaves: the world as it was, and the buffer. There is one exception, and this says what it leaves.
use Rattle.std.specs.Prelude.{◌≡◌, ℕ, Bool, true, false, ◌&&◌, List, [], ◌∷◌, ◌++◌, Some, None}
use Rattle.std.specs.List.{find}
use Rattle.gl_base.specs.Lines.{offsets_of}
use Rattle.gl_base.specs.Positions.{change_at}
use Rattle.gl_base.specs.declared.errno.Errno.TheVariants.{Io}
use Rattle.gl_desc.specs.Desc.{freed}
use Rattle.gl_uapi.specs.Command.{command_of}
use Rattle.gl_model.specs.declared.call.Call.{Call}
use Rattle.gl_model.specs.declared.call.Call.TheVariants.{Ioctl}
use Rattle.gl_model.specs.declared.call.Part.{Part}
use Rattle.gl_model.specs.declared.call.Part.TheVariants.{Tell}
use Rattle.gl_model.specs.declared.place.Place.{Place}
use Rattle.gl_model.specs.declared.reply.Reply.{Reply}
use Rattle.gl_model.specs.declared.reply.Reply.TheVariants.{Done, Number, Go, Found, Text, Ready, Refused}
use Rattle.gl_model.specs.Claiming.{claim_at, claim_by, with_descs}
use Rattle.gl_model.specs.Entries.{is_get_line, is_tell}
use Rattle.gl_model.specs.Outcome.{Outcome}
use Rattle.gl_model.specs.Places.{no_place}
use Rattle.gl_model.specs.Step.{step}
use Rattle.gl_model.specs.World.{World, Request, has_number}

-- the reply is a refusal
abbrev pub IsRefused : Reply → Type 0
IsRefused Done = ⊥
IsRefused (Number n) = ⊥
IsRefused (Go fd) = ⊥
IsRefused (Found place offset count) = ⊥
IsRefused (Text text) = ⊥
IsRefused (Ready bits) = ⊥
IsRefused (Refused errno) = Unit {0}

-- where a call is refused, the world stays as it was, and nothing is written
abbrev pub LeavesAll : World → Outcome → Type 0
LeavesAll w out = IsRefused out.reply → (out.world ≡ w) × (out.bytes ≡ [])

-- a request of lines is told what the driver answered
abbrev pub tells_claim : Call → Bool
tells_claim (Ioctl place fd cmd len bytes part) = is_get_line (command_of cmd) && is_tell part
tells_claim _ = false

-- the reply is EIO
abbrev pub is_io : Reply → Bool
is_io (Refused Io) = true
is_io _ = false

-- the one refusal that changes the world: a request of lines is told, and refused with EIO
abbrev pub is_failed_claim : Call → Reply → Bool
is_failed_claim call reply = tells_claim call && is_io reply

-- One row of a table is gone: the first that passes a test, as none in front of it does. The rows in front of it and those
-- after it stay.
pub record LosesOne {X : Type 0} (test : X → Bool) (row : X) (before after : List X) : Type 0 where
  pub front : List X
  pub back : List X
  pub passes : test row ≡ true
  pub none_in_front : find test front ≡ None
  pub was : before ≡ front ++ row ∷ back
  pub is_now : after ≡ front ++ back

-- the tables of all places where nobody has these lines of one place any more; their levels stay
abbrev pub with_lines_unclaimed : ℕ → List ℕ → List Place → List Place
with_lines_unclaimed place offsets places = change_at no_place place (with_descs offsets freed) places

-- What that refusal is: the driver failed; the actor had an unfinished claim at the place; of the requests just this claim is
-- gone, and of the tables of all places just its lines are let go of; all else of the world stays, and nothing is written.
pub record DropsClaim (actor place : ℕ) (part : Part) (w : World) (out : Outcome) : Type 0 where
  pub driver_failed : part ≡ Tell None
  pub claim : Request
  pub was_unfinished : claim_at place (claim_by w.requests actor) ≡ Some claim
  pub claim_goes : LosesOne (has_number claim.fd) claim w.requests out.world.requests
  pub lines_go_free : out.world.places ≡ with_lines_unclaimed claim.place (offsets_of claim.lines) w.places
  pub all_else_stays : out.world ≡ record w { requests = out.world.requests; places = out.world.places }
  pub writes_nothing : out.bytes ≡ []

-- Each refused call but that one leaves all as it was; and that one drops the claim.
pub record RefusalsLeaveAll : Type 0 where
  pub leaves : (w : World) (actor : ℕ) (call : Call)
      → let out = step w actor call in is_failed_claim call out.reply ≡ false → LeavesAll w out
  pub drops_claim : (w : World) (actor place fd cmd len : ℕ) (bytes : List ℕ) (part : Part)
      → let call = Ioctl place fd cmd len bytes part in let out = step w actor call in
      is_failed_claim call out.reply ≡ true → DropsClaim actor place part w out
