-- Calls that are compared.
use Rattle.std.proofs.Common.{◌≡◌, ℕ, Bool, false, eqb, List, Option, refl, sym, ap, ◌∙◌, eq-eqb, rules}
use Rattle.std.proofs.lemmas.Bool.{false≢true, true≢false}
use Rattle.std.specs.Bool.{Decides}
use Rattle.gl_base.specs.declared.irq.IrqDo.{IrqDo}
use Rattle.gl_base.specs.declared.pin.PinDo.{PinDo}
use Rattle.gl_base.specs.declared.kind.Kind.{Kind}
use Rattle.gl_model.specs.declared.call.Part.{Part}
use Rattle.gl_model.specs.declared.call.Call.{Call}
use Rattle.gl_model.specs.declared.call.Call.TheVariants.{Probe, Unplug, MakeDir, RemoveDir, Write, Read, Live, Remove, Tick, Pin, Irq, Pull, Level, Interrupt, OpenChip, Find, Ioctl, ReadEdges, ReadInfo, PollLine, PollChip, Close, Refused as RefusedCall}
use Rattle.gl_model.specs.contracts.call.CallPartialEq.TheImpl.{ghosts}

abbrev eq_call : Call → Call → Bool
eq_call a b = ghosts.eq a b

-- calls of different kinds have different numbers
abbrev tag : Call → ℕ
tag (Probe label lines kind) = 0
tag (Unplug place last) = 1
tag (MakeDir path) = 2
tag (RemoveDir path) = 3
tag (Write path value) = 4
tag (Read path) = 5
tag (Live device) = 6
tag (Remove device last) = 7
tag (Tick mono real) = 8
tag (Pin place what) = 9
tag (Irq place offset what) = 10
tag (Pull place offset up) = 11
tag (Level place offset pull) = 12
tag (Interrupt place offset up) = 13
tag (OpenChip word) = 14
tag (Find place name) = 15
tag (Ioctl place fd cmd len bytes part) = 16
tag (ReadEdges place fd len) = 17
tag (ReadInfo place fd len) = 18
tag (PollLine place fd) = 19
tag (PollChip place fd) = 20
tag (Close fd) = 21
tag (RefusedCall place poll) = 22

apart : {m n : ℕ} → m ≡ n → eqb m n ≡ false → ⊥
apart {m} {n} e unlike = true≢false (sym (eq-eqb m n e) ∙ unlike)

differs : {P : Type 0} → (P → ⊥) → Decides false P
differs never = (λ e. absurd (false≢true e), λ p. absurd (never p))

same_probe : (a : Call) (label : List ℕ) (lines : ℕ) (kind : Kind) → Decides (eq_call a (Probe label lines kind)) (a ≡ Probe label lines kind)
same_probe (Probe x y z) label lines kind = search rules
same_probe _ label lines kind = differs (λ e. apart (ap tag e) refl)

same_unplug : (a : Call) (place : ℕ) (last : Bool) → Decides (eq_call a (Unplug place last)) (a ≡ Unplug place last)
same_unplug (Unplug x y) place last = search rules
same_unplug _ place last = differs (λ e. apart (ap tag e) refl)

same_make_dir : (a : Call) (path : List ℕ) → Decides (eq_call a (MakeDir path)) (a ≡ MakeDir path)
same_make_dir (MakeDir x) path = search rules
same_make_dir _ path = differs (λ e. apart (ap tag e) refl)

same_remove_dir : (a : Call) (path : List ℕ) → Decides (eq_call a (RemoveDir path)) (a ≡ RemoveDir path)
same_remove_dir (RemoveDir x) path = search rules
same_remove_dir _ path = differs (λ e. apart (ap tag e) refl)

same_write : (a : Call) (path : List ℕ) (value : List ℕ) → Decides (eq_call a (Write path value)) (a ≡ Write path value)
same_write (Write x y) path value = search rules
same_write _ path value = differs (λ e. apart (ap tag e) refl)

same_read : (a : Call) (path : List ℕ) → Decides (eq_call a (Read path)) (a ≡ Read path)
same_read (Read x) path = search rules
same_read _ path = differs (λ e. apart (ap tag e) refl)

same_live : (a : Call) (device : List ℕ) → Decides (eq_call a (Live device)) (a ≡ Live device)
same_live (Live x) device = search rules
same_live _ device = differs (λ e. apart (ap tag e) refl)

same_remove : (a : Call) (device : List ℕ) (last : Bool) → Decides (eq_call a (Remove device last)) (a ≡ Remove device last)
same_remove (Remove x y) device last = search rules
same_remove _ device last = differs (λ e. apart (ap tag e) refl)

same_tick : (a : Call) (mono : ℕ) (real : ℕ) → Decides (eq_call a (Tick mono real)) (a ≡ Tick mono real)
same_tick (Tick x y) mono real = search rules
same_tick _ mono real = differs (λ e. apart (ap tag e) refl)

same_pin : (a : Call) (place : ℕ) (what : PinDo) → Decides (eq_call a (Pin place what)) (a ≡ Pin place what)
same_pin (Pin x y) place what = search rules
same_pin _ place what = differs (λ e. apart (ap tag e) refl)

same_irq : (a : Call) (place : ℕ) (offset : ℕ) (what : IrqDo) → Decides (eq_call a (Irq place offset what)) (a ≡ Irq place offset what)
same_irq (Irq x y z) place offset what = search rules
same_irq _ place offset what = differs (λ e. apart (ap tag e) refl)

same_pull : (a : Call) (place : ℕ) (offset : ℕ) (up : Bool) → Decides (eq_call a (Pull place offset up)) (a ≡ Pull place offset up)
same_pull (Pull x y z) place offset up = search rules
same_pull _ place offset up = differs (λ e. apart (ap tag e) refl)

same_level : (a : Call) (place : ℕ) (offset : ℕ) (pull : Bool) → Decides (eq_call a (Level place offset pull)) (a ≡ Level place offset pull)
same_level (Level x y z) place offset pull = search rules
same_level _ place offset pull = differs (λ e. apart (ap tag e) refl)

same_interrupt : (a : Call) (place : ℕ) (offset : ℕ) (up : Bool) → Decides (eq_call a (Interrupt place offset up)) (a ≡ Interrupt place offset up)
same_interrupt (Interrupt x y z) place offset up = search rules
same_interrupt _ place offset up = differs (λ e. apart (ap tag e) refl)

same_open_chip : (a : Call) (word : List ℕ) → Decides (eq_call a (OpenChip word)) (a ≡ OpenChip word)
same_open_chip (OpenChip x) word = search rules
same_open_chip _ word = differs (λ e. apart (ap tag e) refl)

same_find : (a : Call) (place : Option ℕ) (name : List ℕ) → Decides (eq_call a (Find place name)) (a ≡ Find place name)
same_find (Find x y) place name = search rules
same_find _ place name = differs (λ e. apart (ap tag e) refl)

same_ioctl : (a : Call) (place : ℕ) (fd : ℕ) (cmd : ℕ) (len : ℕ) (bytes : List ℕ) (part : Part) → Decides (eq_call a (Ioctl place fd cmd len bytes part)) (a ≡ Ioctl place fd cmd len bytes part)
same_ioctl (Ioctl x y z u v w) place fd cmd len bytes part = search rules
same_ioctl _ place fd cmd len bytes part = differs (λ e. apart (ap tag e) refl)

same_read_edges : (a : Call) (place : ℕ) (fd : ℕ) (len : ℕ) → Decides (eq_call a (ReadEdges place fd len)) (a ≡ ReadEdges place fd len)
same_read_edges (ReadEdges x y z) place fd len = search rules
same_read_edges _ place fd len = differs (λ e. apart (ap tag e) refl)

same_read_info : (a : Call) (place : ℕ) (fd : ℕ) (len : ℕ) → Decides (eq_call a (ReadInfo place fd len)) (a ≡ ReadInfo place fd len)
same_read_info (ReadInfo x y z) place fd len = search rules
same_read_info _ place fd len = differs (λ e. apart (ap tag e) refl)

same_poll_line : (a : Call) (place : ℕ) (fd : ℕ) → Decides (eq_call a (PollLine place fd)) (a ≡ PollLine place fd)
same_poll_line (PollLine x y) place fd = search rules
same_poll_line _ place fd = differs (λ e. apart (ap tag e) refl)

same_poll_chip : (a : Call) (place : ℕ) (fd : ℕ) → Decides (eq_call a (PollChip place fd)) (a ≡ PollChip place fd)
same_poll_chip (PollChip x y) place fd = search rules
same_poll_chip _ place fd = differs (λ e. apart (ap tag e) refl)

same_close : (a : Call) (fd : ℕ) → Decides (eq_call a (Close fd)) (a ≡ Close fd)
same_close (Close x) fd = search rules
same_close _ fd = differs (λ e. apart (ap tag e) refl)

same_refused_call : (a : Call) (place : ℕ) (poll : Bool) → Decides (eq_call a (RefusedCall place poll)) (a ≡ RefusedCall place poll)
same_refused_call (RefusedCall x y) place poll = search rules
same_refused_call _ place poll = differs (λ e. apart (ap tag e) refl)

-- the comparison of the code decides whether calls are the same
pub same_call : (a b : Call) → Decides (eq_call a b) (a ≡ b)
same_call a (Probe label lines kind) = same_probe a label lines kind
same_call a (Unplug place last) = same_unplug a place last
same_call a (MakeDir path) = same_make_dir a path
same_call a (RemoveDir path) = same_remove_dir a path
same_call a (Write path value) = same_write a path value
same_call a (Read path) = same_read a path
same_call a (Live device) = same_live a device
same_call a (Remove device last) = same_remove a device last
same_call a (Tick mono real) = same_tick a mono real
same_call a (Pin place what) = same_pin a place what
same_call a (Irq place offset what) = same_irq a place offset what
same_call a (Pull place offset up) = same_pull a place offset up
same_call a (Level place offset pull) = same_level a place offset pull
same_call a (Interrupt place offset up) = same_interrupt a place offset up
same_call a (OpenChip word) = same_open_chip a word
same_call a (Find place name) = same_find a place name
same_call a (Ioctl place fd cmd len bytes part) = same_ioctl a place fd cmd len bytes part
same_call a (ReadEdges place fd len) = same_read_edges a place fd len
same_call a (ReadInfo place fd len) = same_read_info a place fd len
same_call a (PollLine place fd) = same_poll_line a place fd
same_call a (PollChip place fd) = same_poll_chip a place fd
same_call a (Close fd) = same_close a fd
same_call a (RefusedCall place poll) = same_refused_call a place poll
