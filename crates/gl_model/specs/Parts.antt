-- Which entries of the history one call of the device makes. That a command which asks the driver makes two, and a removal
-- two, is this project's choice.
use Rattle.std.specs.Prelude.{◌≡◌, ℕ, Bool, true, false, ◌&&◌, nat_le, List, [], ◌∷◌, ◌++◌, Option, Some, None}
use Rattle.std.specs.Bool.{beq}
use Rattle.gl_uapi.specs.Command.{command_of, size_of}
use Rattle.gl_uapi.specs.declared.commands.Command.{Command}
use Rattle.gl_world.specs.History.{entry}
use Rattle.gl_world.specs.declared.history.Entry.{Entry}
use Rattle.gl_model.specs.declared.call.Call.{Call}
use Rattle.gl_model.specs.declared.call.Call.TheVariants.{Unplug, Remove, Ioctl, PollLine, PollChip, Refused as RefusedCall}
use Rattle.gl_model.specs.declared.call.Part.TheVariants.{Whole, Ask, Tell}
use Rattle.gl_model.specs.declared.device_call.CommandIn.{CommandIn}
use Rattle.gl_model.specs.declared.device_call.RemovalOf.{RemovalOf}
use Rattle.gl_model.specs.declared.device_call.RemovalOf.TheVariants.{OfChip, OfDevice}
use Rattle.gl_model.specs.declared.device_call.DeviceCall.{DeviceCall}
use Rattle.gl_model.specs.declared.device_call.DeviceCall.TheVariants.{Once, Removing, Commanding}
use Rattle.gl_model.specs.declared.gift.Gift.{Gift}
use Rattle.gl_model.specs.declared.reply.Reply.{Reply}
use Rattle.gl_model.specs.Entries.{begins, guarded_place, last_call}
use Rattle.gl_model.specs.OpenFiles.{asks_driver, is_for_chips}
use Rattle.gl_model.specs.Step.{guard_reply}

-- a call that is whole by itself: it is no part of a removal or of a command, and no record of a closed guard
abbrev pub is_single : Call → Bool
is_single (Unplug place last) = false
is_single (Remove device last) = false
is_single (Ioctl place fd cmd len bytes part) = false
is_single (RefusedCall place poll) = false
is_single _ = true

-- the device has this call
abbrev pub device_has : DeviceCall → Bool
device_has (Once call) = is_single call
device_has (Removing removal) = true
device_has (Commanding c) = true

-- the first call of a removal; the last one is `last_call` of it
abbrev pub first_call : RemovalOf → Call
first_call (OfChip place) = Unplug place false
first_call (OfDevice device) = Remove device false

-- the driver is asked for a command of the handle's kind of file whose structure the buffer has room for
abbrev pub is_driver_asked : Bool → ℕ → Option Command → Bool
is_driver_asked of_chip len None = false
is_driver_asked of_chip len (Some command) = asks_driver command && (beq of_chip (is_for_chips command) && nat_le (size_of command) len)

-- the call of a command in one of its parts
abbrev pub in_whole : CommandIn → Call
in_whole c = Ioctl c.place c.fd c.cmd c.len c.bytes Whole

abbrev pub in_ask : CommandIn → Call
in_ask c = Ioctl c.place c.fd c.cmd c.len c.bytes Ask

abbrev pub in_tell : Option ℕ → CommandIn → Call
in_tell answer c = Ioctl c.place c.fd c.cmd c.len c.bytes (Tell answer)

-- the place whose guard the call of the device enters
abbrev pub guard_of : DeviceCall → Option ℕ
guard_of (Once call) = guarded_place call
guard_of (Removing removal) = None
guard_of (Commanding c) = Some c.place

-- the call is a poll
abbrev pub is_poll : DeviceCall → Bool
is_poll (Once (PollLine place fd)) = true
is_poll (Once (PollChip place fd)) = true
is_poll _ = false

-- what the caller of the device is answered: the reply of the last entry that its call made
abbrev pub last_reply : {M : Type 0} → List (Entry M Call Reply Gift) → Option Reply
last_reply [] = None
last_reply (e ∷ []) = Some e.reply
last_reply (e ∷ next ∷ later) = last_reply (next ∷ later)

-- The entries of an actor, in the histories of a machine M.
module _ {M : Type 0} (actor : ℕ) where
  -- one entry
  abbrev pub MakesOne : Call → List (Entry M Call Reply Gift) → Type 0
  MakesOne call made = (reply : Reply) × (made ≡ entry actor call reply ∷ [])

  -- what stands after a first entry: where it owes a second one, the entries between them and the second; else nothing
  abbrev pub MakesRest : Bool → Call → List (Entry M Call Reply Gift) → List (Entry M Call Reply Gift) → Type 0
  MakesRest false second between rest = (rest ≡ []) × (between ≡ [])
  MakesRest true second between rest = (reply : Reply) × (rest ≡ between ++ entry actor second reply ∷ [])

  -- two entries, where the first is answered so that it owes a second one
  abbrev pub MakesTwo : Call → Call → List (Entry M Call Reply Gift) → List (Entry M Call Reply Gift) → Type 0
  MakesTwo first second between made =
      (reply : Reply) × (rest : List (Entry M Call Reply Gift)) × (made ≡ entry actor first reply ∷ rest)
      × MakesRest (begins first reply) second between rest

  -- A command: the ask, and after Go the driver's own entries and then the tell, which holds the driver's answer. Where the
  -- driver isn't asked, the command is whole.
  abbrev pub MakesCommand : Bool → Option ℕ → CommandIn → List (Entry M Call Reply Gift) → List (Entry M Call Reply Gift) → Type 0
  MakesCommand true answer c own made = MakesTwo (in_ask c) (in_tell answer c) own made
  MakesCommand false answer c own made = MakesOne (in_whole c) made × (own ≡ [])

  -- What a call of the device makes where its guard, if it has one, lets it in. A removal makes its first entry and, after
  -- Done, its last one.
  abbrev pub MakesInside : DeviceCall → Option ℕ → List (Entry M Call Reply Gift) → List (Entry M Call Reply Gift) → Type 0
  MakesInside (Once call) answer own made = MakesOne call made × (own ≡ [])
  MakesInside (Removing removal) answer own made = MakesTwo (first_call removal) (last_call (first_call removal)) [] made × (own ≡ [])
  MakesInside (Commanding c) answer own made = MakesCommand (is_driver_asked c.of_chip c.len (command_of c.cmd)) answer c own made

  -- at the closed guard of a place: the entry that records just that
  abbrev pub MakesRefusedEntry : ℕ → Bool → List (Entry M Call Reply Gift) → Type 0
  MakesRefusedEntry place poll made = made ≡ entry actor (RefusedCall place poll) (guard_reply poll) ∷ []

  -- what a call makes, by the guard that it enters and whether that was closed
  abbrev pub MakesAt : Option ℕ → Bool → DeviceCall → Option ℕ → List (Entry M Call Reply Gift) → List (Entry M Call Reply Gift) → Type 0
  MakesAt None closed call answer own made = MakesInside call answer own made
  MakesAt (Some place) false call answer own made = MakesInside call answer own made
  MakesAt (Some place) true call answer own made = MakesRefusedEntry place (is_poll call) made × (own ≡ [])

  -- The entries that one call of the device makes: `closed` tells whether the closed bit stood at its guard, `answer` is
  -- what the driver answered, where it was asked, and `own` are the entries that the driver made for it: which these may be,
  -- the driver decides. What the caller is answered is their `last_reply`, and the bytes that the step writes there. A call that
  -- is refused when out of memory, or because the history is full, makes none.
  abbrev pub Makes : Bool → DeviceCall → Option ℕ → List (Entry M Call Reply Gift) → List (Entry M Call Reply Gift) → Type 0
  Makes closed call answer own made = (device_has call ≡ true) × MakesAt (guard_of call) closed call answer own made
