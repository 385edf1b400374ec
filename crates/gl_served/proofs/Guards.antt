-- The guards of calls, and for which the driver is asked.
use Rattle.std.proofs.Common.{◌≡◌, ℕ, ◌<◌, Bool, true, false, ◌&&◌, not, List, ◌++◌, length, drop, Option, None, Some, refl, sym, ap, ◌∙◌, subst}
use Rattle.gl_base.specs.declared.limits.TheConstants.{PLACES}
use Rattle.gl_asking.specs.Fitting.{FitsDevice}
use Rattle.gl_model.specs.Chips.{phase_at}
use Rattle.gl_model.specs.Entries.{guarded_place}
use Rattle.gl_model.specs.Fits.{FitsCall}
use Rattle.gl_model.specs.Parts.{guard_of, in_ask, is_driver_asked}
use Rattle.gl_uapi.specs.Command.{command_of}
use Rattle.gl_model.specs.World.{World}
use Rattle.gl_model.specs.declared.call.Call.{Call}
use Rattle.gl_model.specs.declared.call.Call.TheVariants.{Probe, Unplug, MakeDir, RemoveDir, Write, Read, Live, Remove, Tick, Pin, Irq, Pull, Level, Interrupt, OpenChip, Find, Ioctl, ReadEdges, ReadInfo, PollLine, PollChip, Close, Refused}
use Rattle.gl_model.specs.declared.device_call.DeviceCall.{DeviceCall}
use Rattle.gl_model.specs.declared.device_call.DeviceCall.TheVariants.{Once, Removing, Commanding}
use Rattle.gl_check.specs.One.{goes_on, is_asked, is_gone}
use Rattle.gl_served.specs.Making.{Wrote, is_asked_inside}

abbrev number_or : ℕ → Option ℕ → ℕ
number_or other None = other
number_or other (Some n) = n

same_place : (a b : ℕ) → Some a ≡ Some b → a ≡ b
same_place a b e = ap (number_or a) e

-- the place whose guard a call needs is one
call_below : (call : Call) (place : ℕ) → FitsCall call → guarded_place call ≡ Some place → place < PLACES
call_below (Probe label lines kind) place fits e = cc
call_below (Unplug at last) place fits e = cc
call_below (MakeDir path) place fits e = cc
call_below (RemoveDir path) place fits e = cc
call_below (Write path value) place fits e = cc
call_below (Read path) place fits e = cc
call_below (Live device) place fits e = cc
call_below (Remove device last) place fits e = cc
call_below (Tick mono real) place fits e = cc
call_below (Pin at what) place fits e = subst (λ p. p < PLACES) (same_place at place e) fits
call_below (Irq at offset what) place fits e = subst (λ p. p < PLACES) (same_place at place e) fits
call_below (Pull at offset up) place fits e = subst (λ p. p < PLACES) (same_place at place e) fits
call_below (Level at offset pull) place fits e = subst (λ p. p < PLACES) (same_place at place e) fits
call_below (Interrupt at offset up) place fits e = subst (λ p. p < PLACES) (same_place at place e) fits
call_below (OpenChip word) place fits e = cc
call_below (Find at name) place fits e = cc
call_below (Ioctl at fd cmd len bytes part) place fits e = subst (λ p. p < PLACES) (same_place at place e) fits.0
call_below (ReadEdges at fd len) place fits e = subst (λ p. p < PLACES) (same_place at place e) fits
call_below (ReadInfo at fd len) place fits e = subst (λ p. p < PLACES) (same_place at place e) fits
call_below (PollLine at fd) place fits e = subst (λ p. p < PLACES) (same_place at place e) fits
call_below (PollChip at fd) place fits e = subst (λ p. p < PLACES) (same_place at place e) fits
call_below (Close fd) place fits e = cc
call_below (Refused at poll) place fits e = cc

pub guard_below : (call : DeviceCall) (place : ℕ) → FitsDevice call → guard_of call ≡ Some place → place < PLACES
guard_below (Once call) place fits e = call_below call place fits.1 e
guard_below (Removing removal) place fits e = cc
guard_below (Commanding c) place fits e = subst (λ p. p < PLACES) (same_place c.place place e) fits.0

-- what was written at the start of a buffer was written by any call
pub wrote_any : (call : DeviceCall) (bytes old new : List ℕ) → new ≡ bytes ++ drop (length bytes) old → Wrote call bytes old new
wrote_any (Once call) bytes old new e = e
wrote_any (Removing removal) bytes old new e = tt
wrote_any (Commanding c) bytes old new e = e

-- whether the driver is asked, by the guard
and_false : (a b : Bool) → (a && (false && b)) ≡ false
and_false true b = refl
and_false false b = refl

pub closed_asks_nobody : (w : World) (call : DeviceCall) (place : ℕ) → guard_of call ≡ Some place → is_gone (phase_at w place) ≡ true → is_asked w call ≡ false
closed_asks_nobody w (Once call) place e gone = refl
closed_asks_nobody w (Removing removal) place e gone = refl
closed_asks_nobody w (Commanding c) place e gone =
    ap (λ (b : Bool). is_driver_asked c.of_chip c.len (command_of c.cmd) && (not b && goes_on w (in_ask c))) (subst (λ p. is_gone (phase_at w p) ≡ true) (sym (same_place c.place place e)) gone)
    ∙ and_false (is_driver_asked c.of_chip c.len (command_of c.cmd)) (goes_on w (in_ask c))

pub open_asks : (w : World) (call : DeviceCall) (place : ℕ) → guard_of call ≡ Some place → is_gone (phase_at w place) ≡ false → is_asked w call ≡ is_asked_inside w call
open_asks w (Once call) place e up = refl
open_asks w (Removing removal) place e up = refl
open_asks w (Commanding c) place e up =
    ap (λ (b : Bool). is_driver_asked c.of_chip c.len (command_of c.cmd) && (not b && goes_on w (in_ask c))) (subst (λ p. is_gone (phase_at w p) ≡ false) (sym (same_place c.place place e)) up)

pub unguarded_asks : (w : World) (call : DeviceCall) → guard_of call ≡ None → is_asked w call ≡ is_asked_inside w call
unguarded_asks w (Once call) e = refl
unguarded_asks w (Removing removal) e = refl
unguarded_asks w (Commanding c) e = cc
