-- How many claims an actor has that it hasn't finished. This is the project's choice.
use Rattle.std.specs.Prelude.{◌≡◌, ℕ, ◌≤◌, ◌==◌, Bool, true, false, if◌then◌else◌, List, [], ◌∷◌, length, Option, Some, None}
use Rattle.std.specs.List.{filter}
use Rattle.gl_base.specs.Rows.{Each}
use Rattle.gl_base.specs.declared.errno.Errno.TheVariants.{Io}
use Rattle.gl_world.specs.History.{entries_of}
use Rattle.gl_world.specs.declared.history.Entry.{Entry}
use Rattle.gl_model.specs.declared.call.Call.{Call}
use Rattle.gl_model.specs.declared.call.Call.TheVariants.{Ioctl}
use Rattle.gl_model.specs.declared.call.Part.TheVariants.{Ask, Tell}
use Rattle.gl_model.specs.declared.gift.Gift.{Gift}
use Rattle.gl_model.specs.declared.reply.Reply.{Reply}
use Rattle.gl_model.specs.declared.reply.Reply.TheVariants.{Number, Refused}
use Rattle.gl_model.specs.Calling.{AreOfCalls, AreOfCallsSoFar}
use Rattle.gl_model.specs.Claiming.{is_claim_of}
use Rattle.gl_model.specs.Machine.{IsLegal, world_of}
use Rattle.gl_model.specs.Step.{step}
use Rattle.gl_model.specs.Entries.{is_get_line_call}
use Rattle.gl_model.specs.World.{World, Request}

-- the unfinished claims of an actor
abbrev pub claims_of : ℕ → World → List Request
claims_of actor w = filter (is_claim_of actor) w.requests

-- an actor has at most one unfinished claim
abbrev pub HasAtMostOneClaim : ℕ → World → Type 0
HasAtMostOneClaim actor w = length (claims_of actor w) ≤ 1

-- an actor has no unfinished claim
abbrev pub HasNoClaim : ℕ → World → Type 0
HasNoClaim actor w = claims_of actor w ≡ []

-- the first of some entries that is a command GET_LINE, in any of its parts
abbrev pub first_get_line : {K : Type 0} → List (Entry K Call Reply Gift) → Option Call
first_get_line [] = None
first_get_line (e ∷ es) = if is_get_line_call e.call then Some e.call else first_get_line es

-- such a call tells what the driver of this place answered
abbrev pub is_tell_at : ℕ → Option Call → Bool
is_tell_at place (Some (Ioctl at fd cmd len bytes (Tell answer))) = at == place
is_tell_at place _ = false

-- such a call asks the driver
abbrev pub is_ask_call : Option Call → Bool
is_ask_call (Some (Ioctl place fd cmd len bytes Ask)) = true
is_ask_call _ = false

-- what the tell of a claim is answered: EIO where the driver failed, and else the number of the claim
abbrev pub told_reply : Option ℕ → Request → Reply
told_reply None claim = Refused Io
told_reply (Some bits) claim = Number claim.fd

-- the actor has just one unfinished claim; it is of this place, and the tell, which holds what the driver answered, is answered
-- for it
pub record TellsOfClaim (w : World) (actor place : ℕ) (answer : Option ℕ) (tell : Call) : Type 0 where
  pub claim : Request
  pub is_only : claims_of actor w ≡ claim ∷ []
  pub is_here : claim.place ≡ place
  pub is_told : (step w actor tell).reply ≡ told_reply answer claim

module _ {K : Type 0} (stands_for : K → World → Type 0) where
  -- no legal history leads to a world in which an actor has two
  abbrev pub OneClaim : Type 0
  OneClaim = (history : List (Entry K Call Reply Gift)) → IsLegal stands_for history → (actor : ℕ) → HasAtMostOneClaim actor (world_of stands_for history)

  -- Of an actor that calls the device, one call after another: between its calls it has no unfinished claim, and none when it
  -- asks for lines. While a call goes on, a claim that the actor has is of the place of this call: the next GET_LINE that it
  -- makes is the tell at that place. Where the next GET_LINE that it makes is a tell, it has just this claim, and the tell is
  -- answered for it: so it is never answered EINVAL.
  pub record CallsFinishClaims : Type 0 where
    pub between_calls : (history : List (Entry K Call Reply Gift)) → IsLegal stands_for history → (actor : ℕ) → AreOfCalls stands_for actor (entries_of actor history) → HasNoClaim actor (world_of stands_for history)
    pub before_an_ask : (history : List (Entry K Call Reply Gift)) → IsLegal stands_for history → (actor : ℕ) (calls : AreOfCallsSoFar stands_for actor (entries_of actor history))
        → is_ask_call (first_get_line calls.to_come) ≡ true → HasNoClaim actor (world_of stands_for history)
    pub during_a_call : (history : List (Entry K Call Reply Gift)) → IsLegal stands_for history → (actor : ℕ) (calls : AreOfCallsSoFar stands_for actor (entries_of actor history))
        → Each (λ claim. is_tell_at claim.place (first_get_line calls.to_come) ≡ true) (claims_of actor (world_of stands_for history))
    pub before_a_tell : (history : List (Entry K Call Reply Gift)) → IsLegal stands_for history → (actor : ℕ) (calls : AreOfCallsSoFar stands_for actor (entries_of actor history))
        → (place fd cmd len : ℕ) (bytes : List ℕ) (answer : Option ℕ) → first_get_line calls.to_come ≡ Some (Ioctl place fd cmd len bytes (Tell answer))
        → TellsOfClaim (world_of stands_for history) actor place answer (Ioctl place fd cmd len bytes (Tell answer))
