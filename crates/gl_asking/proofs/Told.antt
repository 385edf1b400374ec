-- What is got of a refusal, and of what is said to the port.
use Rattle.std.proofs.Common.{◌≡◌, ℕ, Bool, true, false, List, [], Option, None, Some, refl, sym, subst}
use Rattle.std.specs.Prelude.{nat_lt, if◌then◌else◌}
use Rattle.gl_base.specs.declared.errno.Errno.{Errno}
use Rattle.gl_base.specs.declared.limits.TheConstants.{PLACES}
use Rattle.gl_base.specs.declared.operation.Do.{Do}
use Rattle.gl_base.specs.declared.operation.Do.TheVariants.{Probe as DoProbe, Unplug as DoUnplug, MakeDir as DoMakeDir, RemoveDir as DoRemoveDir, Write as DoWrite, Read as DoRead, Live as DoLive, Tick as DoTick, Pin as DoPin, Irq as DoIrq, Pull as DoPull, Level as DoLevel, OpenChip as DoOpenChip, Find as DoFind, Ioctl as DoIoctl, ReadFile, Poll, Close as DoClose, Plan, Accept, Aggregate}
use Rattle.gl_base.specs.declared.operation.Got.TheVariants.{Done as GotDone, Refused as GotRefused}
use Rattle.gl_model.specs.declared.device_call.DeviceCall.{DeviceCall}
use Rattle.gl_model.specs.declared.reply.Reply.TheVariants.{Done, Refused}
use Rattle.gl_asking.specs.Asking.{asking, got_of, has_lines, on_file}
use Rattle.gl_asking.specs.Files.{OpenFile, file_in}
use Rattle.gl_asking.specs.declared.kinds.Asking.{Asking}
use Rattle.gl_asking.specs.declared.kinds.Asking.TheVariants.{Calls, Plans, Accepts, Refuses}

pub refused_got : (what : Do) (errno : Errno) → GotRefused errno ≡ got_of what (Refused errno) []
refused_got (DoProbe label lines) errno = refl
refused_got (DoUnplug place) errno = refl
refused_got (DoMakeDir path) errno = refl
refused_got (DoRemoveDir path) errno = refl
refused_got (DoWrite path value) errno = refl
refused_got (DoRead path) errno = refl
refused_got (DoLive device up) errno = refl
refused_got (DoTick mono real) errno = refl
refused_got (DoPin place what) errno = refl
refused_got (DoIrq place offset what) errno = refl
refused_got (DoPull place offset up) errno = refl
refused_got (DoLevel place offset pull) errno = refl
refused_got (DoOpenChip slot word) errno = refl
refused_got (DoFind slot name) errno = refl
refused_got (DoIoctl slot cmd len bytes made) errno = refl
refused_got (ReadFile slot len) errno = refl
refused_got (Poll slot) errno = refl
refused_got (DoClose slot) errno = refl
refused_got (Plan nth) errno = refl
refused_got (Accept bits) errno = refl
refused_got (Aggregate label slots count) errno = refl

abbrev ForPort : Type 0 → Asking → Type 0
ForPort P (Calls call) = Unit {0}
ForPort P (Plans nth) = P
ForPort P (Accepts bits) = P
ForPort P (Refuses errno) = Unit {0}

no_port : (P : Type 0) (call : DeviceCall) (errno : Errno) (b : Bool) → ForPort P (if b then Calls call else Refuses errno)
no_port P call errno true = tt
no_port P call errno false = tt

no_port_on : (P : Type 0) (o : Option OpenFile) (calls : OpenFile → DeviceCall) → ForPort P (on_file o (λ file. Calls (calls file)))
no_port_on P None calls = tt
no_port_on P (Some file) calls = tt

port_got : (files : List OpenFile) (what : Do) → ForPort (GotDone ≡ got_of what Done []) (asking files what)
port_got files (DoProbe label lines) = no_port _ _ _ (has_lines lines)
port_got files (DoUnplug place) = no_port _ _ _ (nat_lt place PLACES)
port_got files (DoMakeDir path) = tt
port_got files (DoRemoveDir path) = tt
port_got files (DoWrite path value) = tt
port_got files (DoRead path) = tt
port_got files (DoLive device true) = tt
port_got files (DoLive device false) = tt
port_got files (DoTick mono real) = tt
port_got files (DoPin place what) = no_port _ _ _ (nat_lt place PLACES)
port_got files (DoIrq place offset what) = no_port _ _ _ (nat_lt place PLACES)
port_got files (DoPull place offset up) = no_port _ _ _ (nat_lt place PLACES)
port_got files (DoLevel place offset pull) = no_port _ _ _ (nat_lt place PLACES)
port_got files (DoOpenChip slot word) = tt
port_got files (DoFind None name) = tt
port_got files (DoFind (Some slot) name) = no_port_on _ (file_in slot files) _
port_got files (DoIoctl slot cmd len bytes made) = no_port_on _ (file_in slot files) _
port_got files (ReadFile slot len) = no_port_on _ (file_in slot files) _
port_got files (Poll slot) = no_port_on _ (file_in slot files) _
port_got files (DoClose slot) = no_port_on _ (file_in slot files) _
port_got files (Plan nth) = refl
port_got files (Accept bits) = refl
port_got files (Aggregate label slots count) = tt

pub planned_got : (files : List OpenFile) (what : Do) (nth : ℕ) → Plans nth ≡ asking files what → GotDone ≡ got_of what Done []
planned_got files what nth is = subst (λ (a : Asking). ForPort (GotDone ≡ got_of what Done []) a) (sym is) (port_got files what)

pub accepted_got : (files : List OpenFile) (what : Do) (bits : ℕ) → Accepts bits ≡ asking files what → GotDone ≡ got_of what Done []
accepted_got files what bits is = subst (λ (a : Asking). ForPort (GotDone ≡ got_of what Done []) a) (sym is) (port_got files what)
