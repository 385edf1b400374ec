-- What one call of the device did.
use Rattle.std.specs.Prelude.{◌≡◌, ◌≢◌, ◌⊎◌, ◌<◌, ◌≤◌, ℕ, Bool, true, List, [], ◌∷◌, ◌++◌, Option, Some, None, Result, Err, length}
use Rattle.gl_base.specs.declared.errno.Errno.{Errno}
use Rattle.gl_base.specs.declared.errno.Errno.TheVariants.{Full, NoMemory}
use Rattle.gl_world.specs.Deeds.{entries_in}
use Rattle.gl_world.specs.History.{Legal, entries_of}
use Rattle.gl_gate.specs.Calls.{KnowsAsMuch, KnowsClosed}
use Rattle.gl_gate.specs.Grown.{Grew}
use Rattle.gl_model.specs.declared.reply.Reply.{Reply}
use Rattle.gl_model.specs.declared.device_call.DeviceCall.{DeviceCall}
use Rattle.gl_model.specs.Parts.{Makes, guard_of, is_poll, last_reply}
use Rattle.gl_model.specs.Step.{guard_reply}
use Rattle.gl_chip.specs.Steps.{EndsWith, FoundNoRoom}
use Rattle.gl_core.specs.Device.{MayOwn, OneDeed, OneEntry, core, last_bytes}
use Rattle.gl_chip.specs.Values.{OneView}

abbrev pub first_entry : List OneEntry → Option OneEntry
first_entry [] = None
first_entry (e ∷ es) = Some e

abbrev pub last_entry : List OneEntry → Option OneEntry
last_entry [] = None
last_entry (e ∷ []) = Some e
last_entry (e ∷ next ∷ later) = last_entry (next ∷ later)

-- the history ends with the last of these entries
pub record EndsWithLast (seen made : List OneEntry) : Type 0 where
  pub last : OneEntry
  pub is_last : last_entry made ≡ Some last
  pub at : EndsWith seen last

-- The history had fewer than `room` entries when the first of these was made: in front of it stand, of the actor's own entries, just
-- those that it had made before.
pub record HadRoom (v : OneView) (seen made : List OneEntry) : Type 0 where
  pub first : OneEntry
  pub is_first : first_entry made ≡ Some first
  pub before : List OneEntry
  pub behind : List OneEntry
  pub at : seen ≡ before ++ first ∷ behind
  pub room_left : length before < v.room
  pub own_before : entries_of v.number before ≡ v.mine

-- What the guard of a place told: `closed` where the closed bit stood at the call's step there. Then, and only then, the call is
-- answered as every call at a closed guard is; the actor knows the place closed from then on, and who knows it finds it so.
pub record AtGuard (place : ℕ) (poll : Bool) (closed : Bool) (reply : Reply) (v w : OneView) : Type 0 where
  pub known : KnowsClosed v place → closed ≡ true
  pub knows : closed ≡ true → KnowsClosed w place
  pub gone : closed ≡ true → reply ≡ guard_reply poll
  pub gone_alone : reply ≡ guard_reply poll → closed ≡ true

-- One call of the device, by the actor whose pass knew v and knows w then. It made just the entries that are parts of the call, and
-- these are its last deeds: what the machine answered and wrote at each of them, in the world of the entries before it in the history
-- (`deeds_of`, with `deeds_stand` of gl_world). What it is answered is the last one's reply, and what it wrote the last one's bytes. Its own
-- entries grew by just these, and what it has seen ends with the last of them. `limit`: how many entries of its own a driver makes at most.
pub record HasCalled (limit : ℕ) (v : OneView) (call : DeviceCall) (reply : Reply) (bytes : List ℕ) (w : OneView) : Type 0 where
  pub closed : Bool
  pub answer : Option ℕ
  pub own : List OneEntry
  pub did : List OneDeed
  pub makes : Makes v.number closed call answer own (entries_in did)
  pub few_own : length own ≤ limit
  pub may_own : MayOwn own
  pub grew : Grew core v did w
  pub last : EndsWithLast w.seen (entries_in did)
  pub had_room : HadRoom v w.seen (entries_in did)
  pub legal : Legal core w.seen
  pub reply_is : last_reply (entries_in did) ≡ Some reply
  pub bytes_are : last_bytes did ≡ bytes
  pub guard : (place : ℕ) → guard_of call ≡ Some place → AtGuard place (is_poll call) closed reply v w
  pub knows_as_much : KnowsAsMuch v w

-- The call was made, and the result is what its reply comes to: never that the history is full, and never out of memory.
pub record IsMade {X : Type 0} (answer : Reply → Result X Errno) (result : Result X Errno) (v : OneView) (call : DeviceCall) (bytes : List ℕ) (w : OneView) : Type 0 where
  pub reply : Reply
  pub result_is : result ≡ answer reply
  pub not_full : result ≢ Err Full
  pub not_memory : result ≢ Err NoMemory
  pub called : HasCalled 0 v call reply bytes w

-- How a call comes out that asks no driver: it was made, or the history was full, and then, and only then, the result says so, and
-- nothing was written.
abbrev pub ComesOut : {X : Type 0} → (Reply → Result X Errno) → Result X Errno → OneView → DeviceCall → List ℕ → OneView → Type 0
ComesOut answer result v call bytes w = IsMade answer result v call bytes w ⊎ ((result ≡ Err Full) × FoundNoRoom core v w × (bytes ≡ []))
