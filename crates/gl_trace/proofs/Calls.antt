-- Calls that are no commands are read as what they were written for, and as nothing else.
use Rattle.std.proofs.Common.{◌≡◌, ℕ, true, false, List, Option, Some, None, refl}
use Rattle.std.specs.Prelude.{codes}
use Rattle.gl_base.specs.declared.irq.IrqDo.TheVariants.{Lock, Unlock, Enable, Disable, Never}
use Rattle.gl_base.specs.declared.pin.PinDo.TheVariants.{Range, Hold, Release}
use Rattle.gl_model.specs.declared.call.Call.{Call}
use Rattle.gl_model.specs.declared.call.Call.TheVariants.{Probe, Unplug, MakeDir, RemoveDir, Write, Read, Live, Remove, Tick, Pin, Irq, Pull, Level, Interrupt, OpenChip, Find, Ioctl, ReadEdges, ReadInfo, PollLine, PollChip, Close, Refused}
use Rattle.gl_trace.specs.declared.verb.Verb.{Verb}
use Rattle.gl_trace.specs.declared.verb.Verb.TheVariants.{Probe as ProbeVerb, Unplug as UnplugVerb, MakeDir as MakeDirVerb, RemoveDir as RemoveDirVerb, Write as WriteVerb, Read as ReadVerb, Live as LiveVerb, Remove as RemoveVerb, Tick as TickVerb, Range as RangeVerb, Hold as HoldVerb, Drop as DropVerb, Lock as LockVerb, Unlock as UnlockVerb, Enable as EnableVerb, Disable as DisableVerb, Never as NeverVerb, Pull as PullVerb, Interrupt as InterruptVerb, Level as LevelVerb, PullOf as PullOfVerb, Open as OpenVerb, Find as FindVerb, ReadLine as ReadLineVerb, ReadChip as ReadChipVerb, PollLine as PollLineVerb, PollChip as PollChipVerb, Close as CloseVerb, Refused as RefusedVerb, Ioctl as IoctlVerb, Ask as AskVerb, Tell as TellVerb}
use Rattle.gl_trace.specs.CallText.{call_words}
use Rattle.gl_trace.specs.EntryText.{TellsBytes}
use Rattle.gl_trace.specs.EntryRead.{Called, by_fields, called}
use Rattle.gl_trace.specs.Fronts.{fields_of}
use Rattle.gl_trace.specs.Typed.{IsTypedCall, IsTypedPlace}
use Rattle.gl_trace.specs.Verbs.{verb_count, verb_word}
use Rattle.gl_trace.proofs.Commands.{ask_same, command_back, reading, tell_same, whole_same}
use Rattle.gl_trace.proofs.Fields.{IsPlace8, f8, f32, f64, kind_field, last_field, place_field, poll_field, up_field}
use Rattle.gl_trace.proofs.Shapes.{IsTextOf, one_back, two_back, three_back, four_back, one_same, two_same, three_same, four_same}
use Rattle.gl_trace.proofs.Texts.{name_field, path_field}

typed_place : (place : Option ℕ) → IsTypedPlace place → IsPlace8 place
typed_place None h = tt
typed_place (Some place) h = h

pub call_back : (call : Call) → IsTypedCall call → TellsBytes call → (text : List ℕ) → reading (call_words call) text ≡ Some (called call text)
call_back (Probe label lines kind) h z text = three_back name_field f32 kind_field (λ label lines kind. Probe label lines kind) (by_fields ProbeVerb) (λ f. refl) label lines kind text h.0 h.1 tt
call_back (Unplug place last) h z text = two_back f8 last_field (λ place last. Unplug place last) (by_fields UnplugVerb) (λ f. refl) place last text h tt
call_back (MakeDir path) h z text = one_back path_field (λ path. MakeDir path) (by_fields MakeDirVerb) (λ f. refl) path text h
call_back (RemoveDir path) h z text = one_back path_field (λ path. RemoveDir path) (by_fields RemoveDirVerb) (λ f. refl) path text h
call_back (Write path value) h z text = two_back path_field name_field (λ path value. Write path value) (by_fields WriteVerb) (λ f. refl) path value text h.0 h.1
call_back (Read path) h z text = one_back path_field (λ path. Read path) (by_fields ReadVerb) (λ f. refl) path text h
call_back (Live device) h z text = one_back name_field (λ device. Live device) (by_fields LiveVerb) (λ f. refl) device text h
call_back (Remove device last) h z text = two_back name_field last_field (λ device last. Remove device last) (by_fields RemoveVerb) (λ f. refl) device last text h tt
call_back (Tick mono real) h z text = two_back f64 f64 (λ mono real. Tick mono real) (by_fields TickVerb) (λ f. refl) mono real text h.0 h.1
call_back (Pin place (Range offset pin count)) h z text = four_back f8 f32 f32 f32 (λ place offset pin count. Pin place (Range offset pin count)) (by_fields RangeVerb) (λ f. refl) place offset pin count text h.0 h.1.0 h.1.1 h.1.2
call_back (Pin place (Hold pin)) h z text = two_back f8 f32 (λ place pin. Pin place (Hold pin)) (by_fields HoldVerb) (λ f. refl) place pin text h.0 h.1
call_back (Pin place (Release pin)) h z text = two_back f8 f32 (λ place pin. Pin place (Release pin)) (by_fields DropVerb) (λ f. refl) place pin text h.0 h.1
call_back (Irq place offset Lock) h z text = two_back f8 f32 (λ place offset. Irq place offset Lock) (by_fields LockVerb) (λ f. refl) place offset text h.0 h.1
call_back (Irq place offset Unlock) h z text = two_back f8 f32 (λ place offset. Irq place offset Unlock) (by_fields UnlockVerb) (λ f. refl) place offset text h.0 h.1
call_back (Irq place offset Enable) h z text = two_back f8 f32 (λ place offset. Irq place offset Enable) (by_fields EnableVerb) (λ f. refl) place offset text h.0 h.1
call_back (Irq place offset Disable) h z text = two_back f8 f32 (λ place offset. Irq place offset Disable) (by_fields DisableVerb) (λ f. refl) place offset text h.0 h.1
call_back (Irq place offset Never) h z text = two_back f8 f32 (λ place offset. Irq place offset Never) (by_fields NeverVerb) (λ f. refl) place offset text h.0 h.1
call_back (Pull place offset up) h z text = three_back f8 f32 up_field (λ place offset up. Pull place offset up) (by_fields PullVerb) (λ f. refl) place offset up text h.0 h.1 tt
call_back (Interrupt place offset up) h z text = three_back f8 f32 up_field (λ place offset up. Interrupt place offset up) (by_fields InterruptVerb) (λ f. refl) place offset up text h.0 h.1 tt
call_back (Level place offset false) h z text = two_back f8 f32 (λ place offset. Level place offset false) (by_fields LevelVerb) (λ f. refl) place offset text h.0 h.1
call_back (Level place offset true) h z text = two_back f8 f32 (λ place offset. Level place offset true) (by_fields PullOfVerb) (λ f. refl) place offset text h.0 h.1
call_back (OpenChip word) h z text = one_back path_field (λ word. OpenChip word) (by_fields OpenVerb) (λ f. refl) word text h
call_back (Find place name) h z text = two_back place_field name_field (λ place name. Find place name) (by_fields FindVerb) (λ f. refl) place name text (typed_place place h.0) h.1
call_back (ReadEdges place fd len) h z text = three_back f8 f32 f32 (λ place fd len. ReadEdges place fd len) (by_fields ReadLineVerb) (λ f. refl) place fd len text h.0 h.1 h.2
call_back (ReadInfo place fd len) h z text = three_back f8 f32 f32 (λ place fd len. ReadInfo place fd len) (by_fields ReadChipVerb) (λ f. refl) place fd len text h.0 h.1 h.2
call_back (PollLine place fd) h z text = two_back f8 f32 (λ place fd. PollLine place fd) (by_fields PollLineVerb) (λ f. refl) place fd text h.0 h.1
call_back (PollChip place fd) h z text = two_back f8 f32 (λ place fd. PollChip place fd) (by_fields PollChipVerb) (λ f. refl) place fd text h.0 h.1
call_back (Close fd) h z text = one_back f32 (λ fd. Close fd) (by_fields CloseVerb) (λ f. refl) fd text h
call_back (Refused place poll) h z text = two_back f8 poll_field (λ place poll. Refused place poll) (by_fields RefusedVerb) (λ f. refl) place poll text h tt
call_back (Ioctl place fd cmd len bytes part) h z text = command_back place fd cmd len bytes part h z text

pub verb_same : (verb : Verb) (text : List ℕ) (got : Called) → by_fields verb (fields_of (verb_count verb) text) ≡ Some got → IsTextOf (verb_word verb) text got
verb_same ProbeVerb text got e = three_same name_field f32 kind_field (λ label lines kind. Probe label lines kind) (by_fields ProbeVerb) (λ f. refl) (codes "probe") text got refl (λ a b c. (refl, tt)) e
verb_same UnplugVerb text got e = two_same f8 last_field (λ place last. Unplug place last) (by_fields UnplugVerb) (λ f. refl) (codes "unplug") text got refl (λ a b. (refl, tt)) e
verb_same MakeDirVerb text got e = one_same path_field (λ path. MakeDir path) (by_fields MakeDirVerb) (λ f. refl) (codes "mkdir") text got refl (λ a. (refl, tt)) e
verb_same RemoveDirVerb text got e = one_same path_field (λ path. RemoveDir path) (by_fields RemoveDirVerb) (λ f. refl) (codes "rmdir") text got refl (λ a. (refl, tt)) e
verb_same WriteVerb text got e = two_same path_field name_field (λ path value. Write path value) (by_fields WriteVerb) (λ f. refl) (codes "write") text got refl (λ a b. (refl, tt)) e
verb_same ReadVerb text got e = one_same path_field (λ path. Read path) (by_fields ReadVerb) (λ f. refl) (codes "read") text got refl (λ a. (refl, tt)) e
verb_same LiveVerb text got e = one_same name_field (λ device. Live device) (by_fields LiveVerb) (λ f. refl) (codes "live") text got refl (λ a. (refl, tt)) e
verb_same RemoveVerb text got e = two_same name_field last_field (λ device last. Remove device last) (by_fields RemoveVerb) (λ f. refl) (codes "remove") text got refl (λ a b. (refl, tt)) e
verb_same TickVerb text got e = two_same f64 f64 (λ mono real. Tick mono real) (by_fields TickVerb) (λ f. refl) (codes "tick") text got refl (λ a b. (refl, tt)) e
verb_same RangeVerb text got e = four_same f8 f32 f32 f32 (λ place offset pin count. Pin place (Range offset pin count)) (by_fields RangeVerb) (λ f. refl) (codes "range") text got refl (λ a b c d. (refl, tt)) e
verb_same HoldVerb text got e = two_same f8 f32 (λ place pin. Pin place (Hold pin)) (by_fields HoldVerb) (λ f. refl) (codes "hold") text got refl (λ a b. (refl, tt)) e
verb_same DropVerb text got e = two_same f8 f32 (λ place pin. Pin place (Release pin)) (by_fields DropVerb) (λ f. refl) (codes "drop") text got refl (λ a b. (refl, tt)) e
verb_same LockVerb text got e = two_same f8 f32 (λ place offset. Irq place offset Lock) (by_fields LockVerb) (λ f. refl) (codes "lock") text got refl (λ a b. (refl, tt)) e
verb_same UnlockVerb text got e = two_same f8 f32 (λ place offset. Irq place offset Unlock) (by_fields UnlockVerb) (λ f. refl) (codes "unlock") text got refl (λ a b. (refl, tt)) e
verb_same EnableVerb text got e = two_same f8 f32 (λ place offset. Irq place offset Enable) (by_fields EnableVerb) (λ f. refl) (codes "enable") text got refl (λ a b. (refl, tt)) e
verb_same DisableVerb text got e = two_same f8 f32 (λ place offset. Irq place offset Disable) (by_fields DisableVerb) (λ f. refl) (codes "disable") text got refl (λ a b. (refl, tt)) e
verb_same NeverVerb text got e = two_same f8 f32 (λ place offset. Irq place offset Never) (by_fields NeverVerb) (λ f. refl) (codes "none") text got refl (λ a b. (refl, tt)) e
verb_same PullVerb text got e = three_same f8 f32 up_field (λ place offset up. Pull place offset up) (by_fields PullVerb) (λ f. refl) (codes "pull") text got refl (λ a b c. (refl, tt)) e
verb_same InterruptVerb text got e = three_same f8 f32 up_field (λ place offset up. Interrupt place offset up) (by_fields InterruptVerb) (λ f. refl) (codes "interrupt") text got refl (λ a b c. (refl, tt)) e
verb_same LevelVerb text got e = two_same f8 f32 (λ place offset. Level place offset false) (by_fields LevelVerb) (λ f. refl) (codes "level") text got refl (λ a b. (refl, tt)) e
verb_same PullOfVerb text got e = two_same f8 f32 (λ place offset. Level place offset true) (by_fields PullOfVerb) (λ f. refl) (codes "pullof") text got refl (λ a b. (refl, tt)) e
verb_same OpenVerb text got e = one_same path_field (λ word. OpenChip word) (by_fields OpenVerb) (λ f. refl) (codes "open") text got refl (λ a. (refl, tt)) e
verb_same FindVerb text got e = two_same place_field name_field (λ place name. Find place name) (by_fields FindVerb) (λ f. refl) (codes "find") text got refl (λ a b. (refl, tt)) e
verb_same ReadLineVerb text got e = three_same f8 f32 f32 (λ place fd len. ReadEdges place fd len) (by_fields ReadLineVerb) (λ f. refl) (codes "readline") text got refl (λ a b c. (refl, tt)) e
verb_same ReadChipVerb text got e = three_same f8 f32 f32 (λ place fd len. ReadInfo place fd len) (by_fields ReadChipVerb) (λ f. refl) (codes "readchip") text got refl (λ a b c. (refl, tt)) e
verb_same PollLineVerb text got e = two_same f8 f32 (λ place fd. PollLine place fd) (by_fields PollLineVerb) (λ f. refl) (codes "pollline") text got refl (λ a b. (refl, tt)) e
verb_same PollChipVerb text got e = two_same f8 f32 (λ place fd. PollChip place fd) (by_fields PollChipVerb) (λ f. refl) (codes "pollchip") text got refl (λ a b. (refl, tt)) e
verb_same CloseVerb text got e = one_same f32 (λ fd. Close fd) (by_fields CloseVerb) (λ f. refl) (codes "close") text got refl (λ a. (refl, tt)) e
verb_same RefusedVerb text got e = two_same f8 poll_field (λ place poll. Refused place poll) (by_fields RefusedVerb) (λ f. refl) (codes "refused") text got refl (λ a b. (refl, tt)) e
verb_same IoctlVerb text got e = whole_same text got e
verb_same AskVerb text got e = ask_same text got e
verb_same TellVerb text got e = tell_same text got e
