-- The calls as entries of a history: which belong together in pairs, which place each needs, and which begin and end a
-- removal. This is the project's choice.
use Rattle.std.specs.Prelude.{ℕ, Bool, true, false, if◌then◌else◌, List, [], ◌∷◌, Option, Some, None}
use Rattle.gl_uapi.specs.Command.{command_of}
use Rattle.gl_uapi.specs.declared.commands.Command.{Command}
use Rattle.gl_uapi.specs.declared.commands.Command.TheVariants.{ChipInfo, LineInfo, Watch, Unwatch, GetLine, SetConfig, GetValues, SetValues}
use Rattle.gl_model.specs.declared.call.Call.{Call}
use Rattle.gl_model.specs.declared.call.Call.TheVariants.{Unplug, Remove, Pin, Irq, Pull, Level, Interrupt, Ioctl, ReadEdges, ReadInfo, PollLine, PollChip, Refused as RefusedCall}
use Rattle.gl_model.specs.declared.call.Part.{Part}
use Rattle.gl_model.specs.declared.call.Part.TheVariants.{Whole, Ask, Tell}
use Rattle.gl_model.specs.declared.reply.Reply.{Reply}
use Rattle.gl_model.specs.declared.reply.Reply.TheVariants.{Done, Go}
use Rattle.gl_model.specs.Chips.{places_from}
use Rattle.gl_model.specs.Places.{origin_at}
use Rattle.gl_model.specs.World.{World}

abbrev pub is_done : Reply → Bool
is_done Done = true
is_done _ = false

abbrev pub is_go : Reply → Bool
is_go (Go fd) = true
is_go _ = false

abbrev pub is_ask : Part → Bool
is_ask Whole = false
is_ask Ask = true
is_ask (Tell answer) = false

abbrev pub is_tell : Part → Bool
is_tell Whole = false
is_tell Ask = false
is_tell (Tell answer) = true

-- the command of a number requests lines
abbrev pub is_get_line : Option Command → Bool
is_get_line None = false
is_get_line (Some ChipInfo) = false
is_get_line (Some LineInfo) = false
is_get_line (Some Watch) = false
is_get_line (Some Unwatch) = false
is_get_line (Some GetLine) = true
is_get_line (Some SetConfig) = false
is_get_line (Some GetValues) = false
is_get_line (Some SetValues) = false

-- the call is the command GET_LINE, in any of its parts
abbrev pub is_get_line_call : Call → Bool
is_get_line_call (Ioctl place fd cmd len bytes part) = is_get_line (command_of cmd)
is_get_line_call _ = false

-- The actor owes a second entry after this one: after an ask that was answered Go, and after the first call of a removal that
-- was answered Done.
abbrev pub begins : Call → Reply → Bool
begins (Unplug place false) reply = is_done reply
begins (Remove device false) reply = is_done reply
begins (Ioctl place fd cmd len bytes Ask) reply = is_go reply
begins _ reply = false

-- the call is such a second entry: a tell, or the last call of a removal
abbrev pub ends : Call → Bool
ends (Unplug place last) = last
ends (Remove device last) = last
ends (Ioctl place fd cmd len bytes part) = is_tell part
ends _ = false

-- The place whose guard a call needs: the calls on open files but Close, and those that name a line or a pin of a place.
-- Opening, closing and removing need none.
abbrev pub guarded_place : Call → Option ℕ
guarded_place (Pin place what) = Some place
guarded_place (Irq place offset what) = Some place
guarded_place (Pull place offset up) = Some place
guarded_place (Level place offset pull) = Some place
guarded_place (Interrupt place offset up) = Some place
guarded_place (Ioctl place fd cmd len bytes part) = Some place
guarded_place (ReadEdges place fd len) = Some place
guarded_place (ReadInfo place fd len) = Some place
guarded_place (PollLine place fd) = Some place
guarded_place (PollChip place fd) = Some place
guarded_place _ = None

-- the place at whose closed guard a call was refused, for the entries that record just that
abbrev pub refused_place : Call → Option ℕ
refused_place (RefusedCall place poll) = Some place
refused_place _ = None

-- the call is the last one of a removal
abbrev pub is_last_removal : Call → Bool
is_last_removal (Unplug place last) = last
is_last_removal (Remove device last) = last
is_last_removal _ = false

-- the places that the first call of a removal wrote: the first one, and how many there are
abbrev pub places_named : List ℕ → List ℕ
places_named (first ∷ count ∷ bytes) = places_from first count
places_named _ = []

-- the places whose removal a call begins, by its reply and by what it wrote
abbrev pub begun_places : Call → Reply → List ℕ → List ℕ
begun_places (Unplug place false) reply bytes = if is_done reply then places_named bytes else []
begun_places (Remove device false) reply bytes = if is_done reply then places_named bytes else []
begun_places _ reply bytes = []

-- for the first call of a removal, the call that ends this removal
abbrev pub last_call : Call → Call
last_call (Unplug place last) = Unplug place true
last_call (Remove device last) = Remove device true
last_call call = call

-- the call that ends the removal of a chip of this device, or of none
abbrev pub ending_call : ℕ → Option (List ℕ) → Call
ending_call place None = Unplug place true
ending_call place (Some device) = Remove device true

-- for a place that is Leaving, the call that ends its removal
abbrev pub awaited_call : World → ℕ → Call
awaited_call w place = ending_call place (origin_at w place).device
