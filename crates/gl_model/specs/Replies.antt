-- What each call may be answered: the form of its reply, and the errors by which it may be refused. This is the project's
-- choice, except for which errors a command has (`linux/gpio.h` and the kernel's document on the GPIO character device).
use Rattle.std.specs.Prelude.{◌≡◌, ◌^◌, ◌<◌, ℕ, Bool, true, false, not, ◌==◌, ◌&&◌, ◌||◌, ◌⊎◌, nat_lt, List, [], Option, Some, None, take, slice_index}
use Rattle.gl_attrs.specs.Setting.{resolved_for}
use Rattle.gl_base.specs.Bits.{has_bit}
use Rattle.gl_base.specs.Rows.{Each}
use Rattle.gl_base.specs.declared.errno.Errno.{Errno}
use Rattle.gl_base.specs.declared.errno.Errno.TheVariants.{Io, NoDev, NoMemory, Full}
use Rattle.gl_base.specs.declared.flag.TheConstants.{OUTPUT}
use Rattle.gl_base.specs.declared.limits.TheConstants.{PLACES}
use Rattle.gl_base.specs.declared.lines.Lines.{Lines}
use Rattle.gl_base.specs.declared.settings.Resolved.{Resolved}
use Rattle.gl_irq.specs.Irq.{irq_at}
use Rattle.gl_uapi.specs.Command.{command_of, size_of}
use Rattle.gl_uapi.specs.declared.commands.Command.{Command}
use Rattle.gl_uapi.specs.declared.commands.Command.TheVariants.{GetLine, SetConfig, GetValues, SetValues}
use Rattle.gl_world.specs.declared.history.Entry.{Entry}
use Rattle.gl_model.specs.declared.call.Call.{Call}
use Rattle.gl_model.specs.declared.call.Call.TheVariants.{Probe, Unplug, Read, Level, OpenChip, Find, Ioctl, ReadEdges, ReadInfo, PollLine, PollChip, Refused as RefusedCall}
use Rattle.gl_model.specs.declared.call.Part.{Part}
use Rattle.gl_model.specs.declared.call.Part.TheVariants.{Ask, Tell}
use Rattle.gl_model.specs.declared.gift.Gift.{Gift}
use Rattle.gl_model.specs.declared.place.Place.{Place}
use Rattle.gl_model.specs.declared.reply.Reply.{Reply}
use Rattle.gl_model.specs.declared.reply.Reply.TheVariants.{Number, Go, Found, Text, Ready, Refused}
use Rattle.gl_model.specs.AskedLines.{asked_in}
use Rattle.gl_model.specs.Configuring.{settings_of}
use Rattle.gl_model.specs.Entries.{is_done}
use Rattle.gl_model.specs.Machine.{Always}
use Rattle.gl_model.specs.Places.{place_at}
use Rattle.gl_model.specs.Step.{step}
use Rattle.gl_model.specs.World.{World, Request, request_at}

-- the reply is a number below this one
abbrev pub is_number_below : ℕ → Reply → Bool
is_number_below n (Number k) = nat_lt k n
is_number_below n _ = false

-- the reply is a number
abbrev pub is_number : Reply → Bool
is_number (Number k) = true
is_number _ = false

-- the reply is Go with a number below this one
abbrev pub is_go_below : ℕ → Reply → Bool
is_go_below n (Go k) = nat_lt k n
is_go_below n _ = false

-- the reply is the value of a file of the tree
abbrev pub is_text : Reply → Bool
is_text (Text text) = true
is_text _ = false

-- the reply is a line that was found
abbrev pub is_found : Reply → Bool
is_found (Found place offset count) = true
is_found _ = false

-- a poll is answered these bits
abbrev pub is_ready : ℕ → Reply → Bool
is_ready bits (Ready k) = k == bits
is_ready bits _ = false

-- What a command is answered that isn't refused: Done, except for the two parts of GET_LINE and the asks of others, which are
-- answered Go. Files have numbers below 2^31.
abbrev pub command_form : Command → Part → Reply → Bool
command_form GetLine Ask reply = is_go_below (2 ^ 31) reply
command_form GetLine (Tell answer) reply = is_number reply
command_form SetConfig Ask reply = is_go_below 1 reply
command_form GetValues Ask reply = is_go_below 1 reply
command_form SetValues Ask reply = is_go_below 1 reply
command_form command part reply = is_done reply

-- a number that is no command's is always refused
abbrev pub numbered_form : Option Command → Part → Reply → Bool
numbered_form None part reply = false
numbered_form (Some command) part reply = command_form command part reply

-- What a call is answered that isn't refused: a new chip by its place, an open file by its number, a level as 0 or 1, a poll
-- by 0 or 1, a read by how many bytes it gave.
abbrev pub done_form : Call → Reply → Bool
done_form (Probe label lines kind) reply = is_number_below PLACES reply
done_form (Read path) reply = is_text reply
done_form (Level place offset pull) reply = is_number_below 2 reply
done_form (OpenChip word) reply = is_number_below (2 ^ 31) reply
done_form (Find place name) reply = is_found reply
done_form (Ioctl place fd cmd len bytes part) reply = numbered_form (command_of cmd) part reply
done_form (ReadEdges place fd len) reply = is_number reply
done_form (ReadInfo place fd len) reply = is_number reply
done_form (PollLine place fd) reply = is_ready 0 reply || is_ready 1 reply
done_form (PollChip place fd) reply = is_ready 0 reply || is_ready 1 reply
done_form call reply = is_done reply

-- an open and the first call of an unplug find a chip that was removed or is leaving, and a refused call tells of one
abbrev pub tells_of_gone : Call → Bool
tells_of_gone (Unplug place last) = not last
tells_of_gone (OpenChip word) = true
tells_of_gone (RefusedCall place poll) = true
tells_of_gone _ = false

-- the errors by which a call may be refused: ENODEV by those that find a chip removed; never ENOMEM, since a step takes no
-- memory, and never that the history is full
abbrev pub may_refuse : Call → Errno → Bool
may_refuse call NoDev = tells_of_gone call
may_refuse call NoMemory = false
may_refuse call Full = false
may_refuse call errno = true

-- The form of a call's reply. What is recorded of a refused call is ENODEV, and of a poll that it is ready for an error and a
-- hang-up.
abbrev pub has_form : Call → Reply → Bool
has_form (RefusedCall place true) reply = is_ready 6 reply
has_form (RefusedCall place false) (Refused NoDev) = true
has_form (RefusedCall place false) _ = false
has_form call (Refused errno) = may_refuse call errno
has_form call reply = done_form call reply

-- The reply of each call, in every world, has its form. So ENODEV comes from an open, an unplug and a recorded refusal alone,
-- and a reply is never ENOMEM or that the history is full. A call that is answered Go writes nothing.
pub record RepliesHaveForm : Type 0 where
  pub form : (w : World) (actor : ℕ) (call : Call) → has_form call (step w actor call).reply ≡ true
  pub no_dev : (w : World) (actor : ℕ) (call : Call) → (step w actor call).reply ≡ Refused NoDev → tells_of_gone call ≡ true
  pub no_memory : (w : World) (actor : ℕ) (call : Call) → (step w actor call).reply ≡ Refused NoMemory → ⊥
  pub not_full : (w : World) (actor : ℕ) (call : Call) → (step w actor call).reply ≡ Refused Full → ⊥
  pub go_writes_nothing : (w : World) (actor : ℕ) (call : Call) (n : ℕ) → (step w actor call).reply ≡ Go n → (step w actor call).bytes ≡ []

-- the same of each entry of a history: its reply has the form
abbrev pub EntriesHaveForm : {K : Type 0} → (K → World → Type 0) → Type 0
EntriesHaveForm {K} stands_for = Always stands_for (λ history. Each (λ (e : Entry K Call Reply Gift). has_form e.call e.reply ≡ true) history)

-- one of these lines is to be an output by these settings, and is locked as an enabled interrupt
pub record HasLockedOutput (place : Place) (lines : Lines) (settings : Resolved) : Type 0 where
  pub position : ℕ
  pub within : position < lines.count
  pub is_output : has_bit (settings_of settings position).flags OUTPUT ≡ true
  pub is_locked : let irq = irq_at place.irqs (slice_index lines.offsets position) in (irq.locked && irq.enabled) ≡ true

-- one of the lines that the bytes of a request name is such a line
abbrev pub AsksLockedOutput : Place → List ℕ → Type 0
AsksLockedOutput place bytes = HasLockedOutput place (asked_in bytes).lines (asked_in bytes).settings

-- one of the lines of the request of a number is such a line, by the settings of these bytes
abbrev pub SetsLockedOutput : World → ℕ → ℕ → List ℕ → Type 0
SetsLockedOutput w place fd bytes = (request : Request) × (request_at w.requests fd ≡ Some request)
    × HasLockedOutput (place_at w place) request.lines (resolved_for bytes request.lines.count)

-- Where EIO of a command comes from: of GET_VALUES and SET_VALUES from a driver that failed, of GET_LINE and SET_CONFIG from
-- that or from a line that is to be an output and is locked as an interrupt; the other commands never answer it.
abbrev pub IoCause : World → ℕ → ℕ → Option Command → List ℕ → Part → Type 0
IoCause w place fd (Some GetLine) bytes part = (part ≡ Tell None) ⊎ AsksLockedOutput (place_at w place) (take (size_of GetLine) bytes)
IoCause w place fd (Some SetConfig) bytes part = (part ≡ Tell None) ⊎ SetsLockedOutput w place fd (take (size_of SetConfig) bytes)
IoCause w place fd (Some GetValues) bytes part = part ≡ Tell None
IoCause w place fd (Some SetValues) bytes part = part ≡ Tell None
IoCause w place fd _ bytes part = ⊥

abbrev pub IoHasCause : Type 0
IoHasCause = (w : World) (actor place fd cmd len : ℕ) (bytes : List ℕ) (part : Part)
    → (step w actor (Ioctl place fd cmd len bytes part)).reply ≡ Refused Io → IoCause w place fd (command_of cmd) bytes part
