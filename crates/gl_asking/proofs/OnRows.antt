-- A call that acts on a file is on the file that its operation names.
use Rattle.std.proofs.Common.{◌≡◌, ℕ, Bool, true, false, List, Option, None, Some, refl, sym, subst}
use Rattle.std.specs.Prelude.{nat_lt, if◌then◌else◌}
use Rattle.gl_base.specs.declared.errno.Errno.{Errno}
use Rattle.gl_base.specs.declared.limits.TheConstants.{PLACES}
use Rattle.gl_base.specs.declared.operation.Do.{Do}
use Rattle.gl_base.specs.declared.operation.Do.TheVariants.{Probe as DoProbe, Unplug as DoUnplug, MakeDir as DoMakeDir, RemoveDir as DoRemoveDir, Write as DoWrite, Read as DoRead, Live as DoLive, Tick as DoTick, Pin as DoPin, Irq as DoIrq, Pull as DoPull, Level as DoLevel, OpenChip as DoOpenChip, Find as DoFind, Ioctl as DoIoctl, ReadFile, Poll, Close as DoClose, Plan, Accept, Aggregate}
use Rattle.gl_model.specs.declared.call.Call.{Call}
use Rattle.gl_model.specs.declared.call.Call.TheVariants.{Close, Find, PollChip, PollLine, ReadEdges, ReadInfo}
use Rattle.gl_model.specs.declared.device_call.DeviceCall.{DeviceCall}
use Rattle.gl_model.specs.declared.device_call.DeviceCall.TheVariants.{Once, Commanding}
use Rattle.gl_asking.specs.Asking.{asking, buffer_of, file_for, has_lines, on_file, polls, reads_from}
use Rattle.gl_asking.specs.Files.{OpenFile, file_in}
use Rattle.gl_asking.specs.Handed.{command_in}
use Rattle.gl_asking.specs.Rows.{AsksOn, IsCallOn, IsOn, file_of, is_chip, row_file}
use Rattle.gl_asking.specs.declared.kinds.Asking.{Asking}
use Rattle.gl_asking.specs.declared.kinds.Asking.TheVariants.{Calls, Refuses}
use Rattle.gl_asking.specs.declared.kinds.FileRow.{FileRow}

chosen : (row : Option FileRow) (call : DeviceCall) (errno : Errno) (b : Bool) → IsOn call row → AsksOn row (if b then Calls call else Refuses errno)
chosen row call errno true on = on
chosen row call errno false on = tt

-- a call on a file
made_on : (row : Option FileRow) (file : Option OpenFile) (call : OpenFile → DeviceCall) → file ≡ file_of row
    → ((r : FileRow) → IsOn (call (row_file r)) (Some r)) → AsksOn row (on_file file (λ (f : OpenFile). Calls (call f)))
made_on None file call at on = subst (λ (o : Option OpenFile). AsksOn None (on_file o (λ (f : OpenFile). Calls (call f)))) (sym at) tt
made_on (Some row) file call at on = subst (λ (o : Option OpenFile). AsksOn (Some row) (on_file o (λ (f : OpenFile). Calls (call f)))) (sym at) (on row)

-- a file is read, and polled, as what it is
read_on : (len : ℕ) (row : FileRow) (of_chip : Bool) → of_chip ≡ is_chip row.kind → IsCallOn (if of_chip then ReadInfo row.place row.fd len else ReadEdges row.place row.fd len) (Some row)
read_on len row true is = (refl, refl, is)
read_on len row false is = (refl, refl, is)

poll_on : (row : FileRow) (of_chip : Bool) → of_chip ≡ is_chip row.kind → IsCallOn (if of_chip then PollChip row.place row.fd else PollLine row.place row.fd) (Some row)
poll_on row true is = (refl, refl, is)
poll_on row false is = (refl, refl, is)

module _ (files : List OpenFile) (row : Option FileRow) where
  asks_on : (what : Do) → file_for what files ≡ file_of row → AsksOn row (asking files what)
  asks_on (DoProbe label lines) at = chosen row _ _ (has_lines lines) tt
  asks_on (DoUnplug place) at = chosen row _ _ (nat_lt place PLACES) tt
  asks_on (DoMakeDir path) at = tt
  asks_on (DoRemoveDir path) at = tt
  asks_on (DoWrite path value) at = tt
  asks_on (DoRead path) at = tt
  asks_on (DoLive device true) at = tt
  asks_on (DoLive device false) at = tt
  asks_on (DoTick mono real) at = tt
  asks_on (DoPin place what) at = chosen row _ _ (nat_lt place PLACES) tt
  asks_on (DoIrq place offset what) at = chosen row _ _ (nat_lt place PLACES) tt
  asks_on (DoPull place offset up) at = chosen row _ _ (nat_lt place PLACES) tt
  asks_on (DoLevel place offset pull) at = chosen row _ _ (nat_lt place PLACES) tt
  asks_on (DoOpenChip slot word) at = tt
  asks_on (DoFind None name) at = tt
  asks_on (DoFind (Some slot) name) at = made_on row (file_in slot files) (λ f. Once (Find (Some f.place) name)) at (λ r. tt)
  asks_on (DoIoctl slot cmd len bytes made) at = made_on row (file_in slot files) (λ f. Commanding (command_in f.place f.fd f.of_chip cmd (buffer_of len bytes))) at (λ r. (refl, refl, refl))
  asks_on (ReadFile slot len) at = made_on row (file_in slot files) (λ f. Once (reads_from len f)) at (λ r. read_on len r (is_chip r.kind) refl)
  asks_on (Poll slot) at = made_on row (file_in slot files) (λ f. Once (polls f)) at (λ r. poll_on r (is_chip r.kind) refl)
  asks_on (DoClose slot) at = made_on row (file_in slot files) (λ f. Once (Close f.fd)) at (λ r. refl)
  asks_on (Plan nth) at = tt
  asks_on (Accept bits) at = tt
  asks_on (Aggregate label slots count) at = tt

  pub is_on : (what : Do) (asks : Asking) → asks ≡ asking files what → file_for what files ≡ file_of row → AsksOn row asks
  is_on what asks is at = subst (λ (a : Asking). AsksOn row a) (sym is) (asks_on what at)
