-- What the words of a call are read as. This project's choice.
use Rattle.std.specs.Prelude.{ℕ, true, false, List, Option, Some, None}
use Rattle.gl_base.specs.declared.irq.IrqDo.TheVariants.{Lock, Unlock, Enable, Disable, Never}
use Rattle.gl_base.specs.declared.pin.PinDo.TheVariants.{Range, Hold, Release}
use Rattle.gl_model.specs.declared.call.Call.{Call}
use Rattle.gl_model.specs.declared.call.Call.TheVariants.{Probe, Unplug, MakeDir, RemoveDir, Write, Read, Live, Remove, Tick, Pin, Irq, Pull, Level, Interrupt, OpenChip, Find, ReadEdges, ReadInfo, PollLine, PollChip, Close, Refused}
use Rattle.gl_trace.specs.declared.verb.Verb.{Verb}
use Rattle.gl_trace.specs.declared.verb.Verb.TheVariants.{Probe as ProbeVerb, Unplug as UnplugVerb, MakeDir as MakeDirVerb, RemoveDir as RemoveDirVerb, Write as WriteVerb, Read as ReadVerb, Live as LiveVerb, Remove as RemoveVerb, Tick as TickVerb, Range as RangeVerb, Hold as HoldVerb, Drop as DropVerb, Lock as LockVerb, Unlock as UnlockVerb, Enable as EnableVerb, Disable as DisableVerb, Never as NeverVerb, Pull as PullVerb, Interrupt as InterruptVerb, Level as LevelVerb, PullOf as PullOfVerb, Open as OpenVerb, Find as FindVerb, Ioctl as IoctlVerb, Ask as AskVerb, Tell as TellVerb, ReadLine as ReadLineVerb, ReadChip as ReadChipVerb, PollLine as PollLineVerb, PollChip as PollChipVerb, Close as CloseVerb, Refused as RefusedVerb}
use Rattle.gl_trace.specs.Fronts.{Fields}
use Rattle.gl_trace.specs.WordRead.{kind_of, last_of, name_word, number_below, path_word, place_of, poll_of, up_of}

-- words that are all read
abbrev pub of_one : {A D : Type 0} → Option A → (A → D) → Option D
of_one None f = None
of_one (Some a) f = Some (f a)

abbrev pub of_two : {A B D : Type 0} → Option A → Option B → (A → B → D) → Option D
of_two None b f = None
of_two (Some a) None f = None
of_two (Some a) (Some b) f = Some (f a b)

abbrev pub of_three : {A B C D : Type 0} → Option A → Option B → Option C → (A → B → C → D) → Option D
of_three None b c f = None
of_three (Some a) None c f = None
of_three (Some a) (Some b) None f = None
of_three (Some a) (Some b) (Some c) f = Some (f a b c)

abbrev pub of_four : {A B C D E : Type 0} → Option A → Option B → Option C → Option D → (A → B → C → D → E) → Option E
of_four None b c d f = None
of_four (Some a) None c d f = None
of_four (Some a) (Some b) None d f = None
of_four (Some a) (Some b) (Some c) None f = None
of_four (Some a) (Some b) (Some c) (Some d) f = Some (f a b c d)

-- numbers of 8, 32 and 64 bits
abbrev pub n8 : List ℕ → Option ℕ
n8 word = number_below 256 word

abbrev pub n32 : List ℕ → Option ℕ
n32 word = number_below 4294967296 word

abbrev pub n64 : List ℕ → Option ℕ
n64 word = number_below 18446744073709551616 word

-- the call of a verb that is no command's, by its words
abbrev pub call_of : Verb → Fields → Option Call
call_of ProbeVerb f = of_three (name_word f.first) (n32 f.second) (kind_of f.third) (λ label lines kind. Probe label lines kind)
call_of UnplugVerb f = of_two (n8 f.first) (last_of f.second) (λ place last. Unplug place last)
call_of MakeDirVerb f = of_one (path_word f.first) (λ path. MakeDir path)
call_of RemoveDirVerb f = of_one (path_word f.first) (λ path. RemoveDir path)
call_of WriteVerb f = of_two (path_word f.first) (name_word f.second) (λ path value. Write path value)
call_of ReadVerb f = of_one (path_word f.first) (λ path. Read path)
call_of LiveVerb f = of_one (name_word f.first) (λ device. Live device)
call_of RemoveVerb f = of_two (name_word f.first) (last_of f.second) (λ device last. Remove device last)
call_of TickVerb f = of_two (n64 f.first) (n64 f.second) (λ mono real. Tick mono real)
call_of RangeVerb f = of_four (n8 f.first) (n32 f.second) (n32 f.third) (n32 f.fourth) (λ place offset pin count. Pin place (Range offset pin count))
call_of HoldVerb f = of_two (n8 f.first) (n32 f.second) (λ place pin. Pin place (Hold pin))
call_of DropVerb f = of_two (n8 f.first) (n32 f.second) (λ place pin. Pin place (Release pin))
call_of LockVerb f = of_two (n8 f.first) (n32 f.second) (λ place offset. Irq place offset Lock)
call_of UnlockVerb f = of_two (n8 f.first) (n32 f.second) (λ place offset. Irq place offset Unlock)
call_of EnableVerb f = of_two (n8 f.first) (n32 f.second) (λ place offset. Irq place offset Enable)
call_of DisableVerb f = of_two (n8 f.first) (n32 f.second) (λ place offset. Irq place offset Disable)
call_of NeverVerb f = of_two (n8 f.first) (n32 f.second) (λ place offset. Irq place offset Never)
call_of PullVerb f = of_three (n8 f.first) (n32 f.second) (up_of f.third) (λ place offset up. Pull place offset up)
call_of InterruptVerb f = of_three (n8 f.first) (n32 f.second) (up_of f.third) (λ place offset up. Interrupt place offset up)
call_of LevelVerb f = of_two (n8 f.first) (n32 f.second) (λ place offset. Level place offset false)
call_of PullOfVerb f = of_two (n8 f.first) (n32 f.second) (λ place offset. Level place offset true)
call_of OpenVerb f = of_one (path_word f.first) (λ word. OpenChip word)
call_of FindVerb f = of_two (place_of f.first) (name_word f.second) (λ place name. Find place name)
call_of ReadLineVerb f = of_three (n8 f.first) (n32 f.second) (n32 f.third) (λ place fd len. ReadEdges place fd len)
call_of ReadChipVerb f = of_three (n8 f.first) (n32 f.second) (n32 f.third) (λ place fd len. ReadInfo place fd len)
call_of PollLineVerb f = of_two (n8 f.first) (n32 f.second) (λ place fd. PollLine place fd)
call_of PollChipVerb f = of_two (n8 f.first) (n32 f.second) (λ place fd. PollChip place fd)
call_of CloseVerb f = of_one (n32 f.first) (λ fd. Close fd)
call_of RefusedVerb f = of_two (n8 f.first) (poll_of f.second) (λ place poll. Refused place poll)
call_of IoctlVerb f = None
call_of AskVerb f = None
call_of TellVerb f = None
