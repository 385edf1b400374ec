-- Entries whose numbers and texts are of their types, as those of every value of the code are.
use Rattle.std.specs.Prelude.{◌≡◌, ℕ, ◌<◌, ◌≤◌, nat_lt, true, List, length, Option, Some, None}
use Rattle.std.specs.List.{list_all}
use Rattle.gl_base.specs.Name.{name_of}
use Rattle.gl_base.specs.Path.{path_of}
use Rattle.gl_base.specs.declared.pin.PinDo.{PinDo}
use Rattle.gl_base.specs.declared.pin.PinDo.TheVariants.{Range, Hold, Release}
use Rattle.gl_world.specs.declared.history.Entry.{Entry}
use Rattle.gl_model.specs.declared.call.Call.{Call}
use Rattle.gl_model.specs.declared.call.Call.TheVariants.{Probe, Unplug, MakeDir, RemoveDir, Write, Read, Live, Remove, Tick, Pin, Irq, Pull, Level, Interrupt, OpenChip, Find, Ioctl, ReadEdges, ReadInfo, PollLine, PollChip, Close, Refused as RefusedCall}
use Rattle.gl_model.specs.declared.call.Part.{Part}
use Rattle.gl_model.specs.declared.call.Part.TheVariants.{Whole, Ask, Tell}
use Rattle.gl_model.specs.declared.gift.Gift.{Gift}
use Rattle.gl_model.specs.declared.reply.Reply.{Reply}
use Rattle.gl_model.specs.declared.reply.Reply.TheVariants.{Done, Number, Go, Found, Text, Ready, Refused}

-- numbers of 8, 32 and 64 bits
abbrev pub Is8 : ℕ → Type 0
Is8 n = n < 256

abbrev pub Is32 : ℕ → Type 0
Is32 n = n < 4294967296

abbrev pub Is64 : ℕ → Type 0
Is64 n = n < 18446744073709551616

-- each is a byte
abbrev pub AreBytes : List ℕ → Type 0
AreBytes text = list_all (λ byte. nat_lt byte 256) text ≡ true

-- a name, and a path
pub record IsNameText (text : List ℕ) : Type 0 where
  pub named : name_of text ≡ Some text
  pub short : length text ≤ 127
  pub bytes : AreBytes text

pub record IsPathText (text : List ℕ) : Type 0 where
  pub named : path_of text ≡ Some text
  pub short : length text ≤ 127
  pub bytes : AreBytes text

-- the numbers and texts of a call
abbrev pub IsTypedPin : PinDo → Type 0
IsTypedPin (Range offset pin count) = Is32 offset × Is32 pin × Is32 count
IsTypedPin (Hold pin) = Is32 pin
IsTypedPin (Release pin) = Is32 pin

abbrev pub IsTypedPlace : Option ℕ → Type 0
IsTypedPlace None = Unit {0}
IsTypedPlace (Some place) = Is8 place

abbrev pub IsTypedAnswer : Option ℕ → Type 0
IsTypedAnswer None = Unit {0}
IsTypedAnswer (Some bits) = Is64 bits

abbrev pub IsTypedPart : Part → Type 0
IsTypedPart Whole = Unit {0}
IsTypedPart Ask = Unit {0}
IsTypedPart (Tell answer) = IsTypedAnswer answer

-- the buffer of a command
pub record IsTypedCommand (place fd cmd len : ℕ) (bytes : List ℕ) (part : Part) : Type 0 where
  pub place_fits : Is8 place
  pub fd_fits : Is32 fd
  pub cmd_fits : Is32 cmd
  pub len_fits : Is32 len
  pub size : length bytes ≡ 592
  pub are_bytes : AreBytes bytes
  pub part_fits : IsTypedPart part

abbrev pub IsTypedCall : Call → Type 0
IsTypedCall (Probe label lines kind) = IsNameText label × Is32 lines
IsTypedCall (Unplug place last) = Is8 place
IsTypedCall (MakeDir path) = IsPathText path
IsTypedCall (RemoveDir path) = IsPathText path
IsTypedCall (Write path value) = IsPathText path × IsNameText value
IsTypedCall (Read path) = IsPathText path
IsTypedCall (Live device) = IsNameText device
IsTypedCall (Remove device last) = IsNameText device
IsTypedCall (Tick mono real) = Is64 mono × Is64 real
IsTypedCall (Pin place what) = Is8 place × IsTypedPin what
IsTypedCall (Irq place offset what) = Is8 place × Is32 offset
IsTypedCall (Pull place offset up) = Is8 place × Is32 offset
IsTypedCall (Level place offset pull) = Is8 place × Is32 offset
IsTypedCall (Interrupt place offset up) = Is8 place × Is32 offset
IsTypedCall (OpenChip word) = IsPathText word
IsTypedCall (Find place name) = IsTypedPlace place × IsNameText name
IsTypedCall (Ioctl place fd cmd len bytes part) = IsTypedCommand place fd cmd len bytes part
IsTypedCall (ReadEdges place fd len) = Is8 place × Is32 fd × Is32 len
IsTypedCall (ReadInfo place fd len) = Is8 place × Is32 fd × Is32 len
IsTypedCall (PollLine place fd) = Is8 place × Is32 fd
IsTypedCall (PollChip place fd) = Is8 place × Is32 fd
IsTypedCall (Close fd) = Is32 fd
IsTypedCall (RefusedCall place poll) = Is8 place

abbrev pub IsTypedReply : Reply → Type 0
IsTypedReply Done = Unit {0}
IsTypedReply (Number n) = Is64 n
IsTypedReply (Go n) = Is32 n
IsTypedReply (Found place offset count) = Is8 place × Is32 offset × Is32 count
IsTypedReply (Text text) = IsNameText text
IsTypedReply (Ready bits) = Unit {0}
IsTypedReply (Refused errno) = Unit {0}

-- an index and an entry
pub record IsTyped {K : Type 0} (index : ℕ) (e : Entry K Call Reply Gift) : Type 0 where
  pub index_fits : Is32 index
  pub actor_fits : Is8 e.actor
  pub call_fits : IsTypedCall e.call
  pub reply_fits : IsTypedReply e.reply
