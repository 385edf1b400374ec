-- The texts of calls, as words. This project's choice.
use Rattle.std.specs.Prelude.{ℕ, Bool, true, false, List, [], ◌∷◌, take, Option, Some, None, codes}
use Rattle.gl_base.specs.BytesText.{bytes_text}
use Rattle.gl_base.specs.Decimal.{decimal}
use Rattle.gl_base.specs.declared.irq.IrqDo.{IrqDo}
use Rattle.gl_base.specs.declared.irq.IrqDo.TheVariants.{Lock, Unlock, Enable, Disable, Never}
use Rattle.gl_base.specs.declared.kind.Kind.{Kind}
use Rattle.gl_base.specs.declared.kind.Kind.TheVariants.{Simulated, Remote}
use Rattle.gl_base.specs.declared.pin.PinDo.{PinDo}
use Rattle.gl_base.specs.declared.pin.PinDo.TheVariants.{Range, Hold, Release}
use Rattle.gl_model.specs.declared.call.Call.{Call}
use Rattle.gl_model.specs.declared.call.Call.TheVariants.{Probe, Unplug, MakeDir, RemoveDir, Write, Read, Live, Remove, Tick, Pin, Irq, Pull, Level, Interrupt, OpenChip, Find, Ioctl, ReadEdges, ReadInfo, PollLine, PollChip, Close, Refused}
use Rattle.gl_model.specs.declared.call.Part.{Part}
use Rattle.gl_model.specs.declared.call.Part.TheVariants.{Whole, Ask, Tell}
use Rattle.gl_trace.specs.TextWord.{text_word}
use Rattle.gl_trace.specs.Words.{hex_word, long_hex_word}

abbrev pub kind_word : Kind → List ℕ
kind_word Simulated = codes "sim"
kind_word Remote = codes "remote"

-- the first or the last entry of a removal
abbrev pub stage_word : Bool → List ℕ
stage_word false = codes "begin"
stage_word true = codes "finish"

-- 1 for up, and 0
abbrev pub bit : Bool → ℕ
bit true = 1
bit false = 0

abbrev pub irq_word : IrqDo → List ℕ
irq_word Lock = codes "lock"
irq_word Unlock = codes "unlock"
irq_word Enable = codes "enable"
irq_word Disable = codes "disable"
irq_word Never = codes "none"

abbrev pub pin_words : ℕ → PinDo → List (List ℕ)
pin_words place (Range offset pin count) = codes "range" ∷ decimal place ∷ decimal offset ∷ decimal pin ∷ decimal count ∷ []
pin_words place (Hold pin) = codes "hold" ∷ decimal place ∷ decimal pin ∷ []
pin_words place (Release pin) = codes "drop" ∷ decimal place ∷ decimal pin ∷ []

-- a level, or a pull
abbrev pub level_word : Bool → List ℕ
level_word false = codes "level"
level_word true = codes "pullof"

-- a place, or `-` for all
abbrev pub place_word : Option ℕ → List ℕ
place_word None = codes "-"
place_word (Some place) = decimal place

-- what was refused at a closed guard
abbrev pub refused_word : Bool → List ℕ
refused_word true = codes "poll"
refused_word false = codes "call"

abbrev pub part_word : Part → List ℕ
part_word Whole = codes "ioctl"
part_word Ask = codes "ask"
part_word (Tell answer) = codes "tell"

-- what the driver answered: a bit a line, or a fault
abbrev pub answer_word : Option ℕ → List ℕ
answer_word None = codes "fault"
answer_word (Some bits) = long_hex_word bits

abbrev pub answer_words : Part → List (List ℕ)
answer_words Whole = []
answer_words Ask = []
answer_words (Tell answer) = answer_word answer ∷ []

-- the words of a part of a command; its bytes are one text, which may have blanks of its own
abbrev pub command_words : ℕ → ℕ → ℕ → ℕ → List ℕ → Part → List (List ℕ)
command_words place fd cmd len bytes part =
    part_word part ∷ decimal place ∷ decimal fd ∷ hex_word cmd ∷ decimal len ∷ bytes_text (take len bytes) ∷ answer_words part

-- the words of a call
abbrev pub call_words : Call → List (List ℕ)
call_words (Probe label lines kind) = codes "probe" ∷ text_word label ∷ decimal lines ∷ kind_word kind ∷ []
call_words (Unplug place last) = codes "unplug" ∷ decimal place ∷ stage_word last ∷ []
call_words (MakeDir path) = codes "mkdir" ∷ text_word path ∷ []
call_words (RemoveDir path) = codes "rmdir" ∷ text_word path ∷ []
call_words (Write path value) = codes "write" ∷ text_word path ∷ text_word value ∷ []
call_words (Read path) = codes "read" ∷ text_word path ∷ []
call_words (Live device) = codes "live" ∷ text_word device ∷ []
call_words (Remove device last) = codes "remove" ∷ text_word device ∷ stage_word last ∷ []
call_words (Tick mono real) = codes "tick" ∷ decimal mono ∷ decimal real ∷ []
call_words (Pin place what) = pin_words place what
call_words (Irq place offset what) = irq_word what ∷ decimal place ∷ decimal offset ∷ []
call_words (Pull place offset up) = codes "pull" ∷ decimal place ∷ decimal offset ∷ decimal (bit up) ∷ []
call_words (Level place offset pull) = level_word pull ∷ decimal place ∷ decimal offset ∷ []
call_words (Interrupt place offset up) = codes "interrupt" ∷ decimal place ∷ decimal offset ∷ decimal (bit up) ∷ []
call_words (OpenChip word) = codes "open" ∷ text_word word ∷ []
call_words (Find place name) = codes "find" ∷ place_word place ∷ text_word name ∷ []
call_words (Ioctl place fd cmd len bytes part) = command_words place fd cmd len bytes part
call_words (ReadEdges place fd len) = codes "readline" ∷ decimal place ∷ decimal fd ∷ decimal len ∷ []
call_words (ReadInfo place fd len) = codes "readchip" ∷ decimal place ∷ decimal fd ∷ decimal len ∷ []
call_words (PollLine place fd) = codes "pollline" ∷ decimal place ∷ decimal fd ∷ []
call_words (PollChip place fd) = codes "pollchip" ∷ decimal place ∷ decimal fd ∷ []
call_words (Close fd) = codes "close" ∷ decimal fd ∷ []
call_words (Refused place poll) = codes "refused" ∷ decimal place ∷ refused_word poll ∷ []
