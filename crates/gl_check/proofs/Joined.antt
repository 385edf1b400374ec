-- Who keeps no maps, and takes none, goes on with what an operation is without them, and never has any.
use Rattle.std.proofs.Common.{◌≡◌, false, List, [], ◌∷◌, refl, ap}
use Rattle.std.specs.List.{list_any}
use Rattle.std.specs.Prelude.{nat_eq, not, take}
use Rattle.gl_base.specs.Refusals.{first_of, when}
use Rattle.gl_base.specs.declared.errno.Errno.TheVariants.{Inval, NoSpc}
use Rattle.gl_base.specs.declared.operation.Do.{Do}
use Rattle.gl_base.specs.declared.operation.Do.TheVariants.{Probe as DoProbe, Unplug as DoUnplug, MakeDir as DoMakeDir, RemoveDir as DoRemoveDir, Write as DoWrite, Read as DoRead, Live as DoLive, Tick as DoTick, Pin as DoPin, Irq as DoIrq, Pull as DoPull, Level as DoLevel, OpenChip as DoOpenChip, Find as DoFind, Ioctl as DoIoctl, ReadFile, Poll, Close as DoClose, Plan, Accept, Aggregate}
use Rattle.gl_driver.specs.declared.map.Target.{Target}
use Rattle.gl_model.specs.declared.reply.Reply.{Reply}
use Rattle.gl_model.specs.declared.reply.Reply.TheVariants.{Number}
use Rattle.gl_asking.specs.Asking.{asking, has_lines}
use Rattle.gl_asking.specs.Files.{OpenFile}
use Rattle.gl_check.specs.Joining.{asking_with, is_joined, joins, learned, line_count, maps_behind, no_maps, targets_in}

none_joined : (targets : List Target) → list_any (is_joined []) targets ≡ false
none_joined [] = refl
none_joined (target ∷ targets) = none_joined targets

pub asking_plainly : (files : List OpenFile) (what : Do) → asking_with (no_maps 0) files what ≡ asking files what
asking_plainly files (DoProbe label lines) = refl
asking_plainly files (DoUnplug place) = refl
asking_plainly files (DoMakeDir path) = refl
asking_plainly files (DoRemoveDir path) = refl
asking_plainly files (DoWrite path value) = refl
asking_plainly files (DoRead path) = refl
asking_plainly files (DoLive device up) = refl
asking_plainly files (DoTick mono real) = refl
asking_plainly files (DoPin place what) = refl
asking_plainly files (DoIrq place offset what) = refl
asking_plainly files (DoPull place offset up) = refl
asking_plainly files (DoLevel place offset pull) = refl
asking_plainly files (DoOpenChip slot word) = refl
asking_plainly files (DoFind slot name) = refl
asking_plainly files (DoIoctl slot cmd len bytes made) = refl
asking_plainly files (ReadFile slot len) = refl
asking_plainly files (Poll slot) = refl
asking_plainly files (DoClose slot) = refl
asking_plainly files (Plan nth) = refl
asking_plainly files (Accept bits) = refl
asking_plainly files (Aggregate label slots count) =
    let targets = targets_in (take count slots) files in
    ap (λ b. joins (first_of (when b Inval ∷ when (nat_eq 0 0) NoSpc ∷ when (not (has_lines (line_count targets))) Inval ∷ [])) label targets) (none_joined targets)

none_learned : (reply : Reply) (targets : List Target) → learned reply targets (no_maps 0) ≡ no_maps 0
none_learned (Number place) targets = refl
none_learned reply targets = refl

pub no_maps_behind : (what : Do) (reply : Reply) (files : List OpenFile) → maps_behind what reply files (no_maps 0) ≡ no_maps 0
no_maps_behind (Aggregate label slots count) reply files = none_learned reply (targets_in (take count slots) files)
no_maps_behind what reply files = refl
