-- A chip over requests: its place is new, and the port may learn its map.
use Rattle.std.proofs.Common.{◌≡◌, ◌≢◌, ℕ, zero, suc, ◌≤◌, Bool, true, false, ◌||◌, List, [], ◌∷◌, ◌++◌, length, take, Option, Some, None, refl, sym, ◌∙◌, ap, subst, arith}
use Rattle.std.specs.Prelude.{◌-◌, ◌==◌, if◌then◌else◌, cond, nat_eq, not, replicate}
use Rattle.std.specs.List.{list_any}
use Rattle.std.proofs.lemmas.Bool.{ne_eqb, eqb-false}
use Rattle.gl_base.specs.Refusals.{first_of, when}
use Rattle.gl_base.specs.Rows.{Each}
use Rattle.gl_base.specs.declared.errno.Errno.{Errno}
use Rattle.gl_base.specs.declared.errno.Errno.TheVariants.{Inval, NoSpc}
use Rattle.gl_base.specs.declared.kind.Kind.TheVariants.{Remote}
use Rattle.gl_base.specs.declared.operation.Do.{Do}
use Rattle.gl_base.specs.declared.operation.Do.TheVariants.{Aggregate}
use Rattle.gl_driver.specs.declared.map.Map.{Map}
use Rattle.gl_driver.specs.declared.map.Target.{Target}
use Rattle.gl_driver.specs.Maps.{FitsMap, FitsTarget, map_at}
use Rattle.gl_model.specs.declared.call.Call.TheVariants.{Probe}
use Rattle.gl_model.specs.declared.device_call.DeviceCall.{DeviceCall}
use Rattle.gl_model.specs.declared.device_call.DeviceCall.TheVariants.{Once}
use Rattle.gl_model.specs.declared.reply.Reply.{Reply}
use Rattle.gl_model.specs.declared.reply.Reply.TheVariants.{Number}
use Rattle.gl_core.specs.Device.{OneEntry}
use Rattle.gl_asking.specs.Asking.{has_lines}
use Rattle.gl_asking.specs.Files.{OpenFile, file_in, is_in}
use Rattle.gl_asking.specs.declared.kinds.Asking.{Asking}
use Rattle.gl_asking.specs.declared.kinds.Asking.TheVariants.{Calls}
use Rattle.gl_chip.specs.Called.{HasCalled}
use Rattle.gl_chip.specs.Values.{OneView}
use Rattle.gl_check.specs.Joining.{Maps, asking_with, is_joined, joined_at, joining_fault, joins, line_count, no_target, target_in, target_of, targets_in}
use Rattle.gl_session.specs.Asked.{JoinsAt, MayJoin, MayLearn}
use Rattle.gl_session.specs.Placed.{AreFilesPlaced, AreMapsPlaced, IsPlaced}
use Rattle.gl_session.specs.Targets.{IsTarget, is_target_at}
use Rattle.gl_session.proofs.Placing.{IsNewPlace, call_or, found_each, probed_new}
use Rattle.gl_session.proofs.Targets.{take_seam}

-- A map of targets that stand elsewhere may be kept.
not_there : (place : ℕ) (test rest : Bool) → (test || rest) ≡ false → (test ≡ false) × (rest ≡ false)
not_there place true rest h = cc
not_there place false rest h = (refl, h)

apart_each : (place : ℕ) (targets : List Target) → list_any (is_target_at place) targets ≡ false → Each IsTarget targets → Each (FitsTarget place) targets
apart_each place [] apart are = tt
apart_each place (target ∷ targets) apart are =
    let b = not_there place (is_target_at place target) (list_any (is_target_at place) targets) apart in
    (record { within = are.0.within; apart = eqb-false target.place place b.0; lines = are.0.lines }, apart_each place targets b.1 are.1)

pub fits_joined : (place : ℕ) (targets : List Target) → 1 ≤ length targets → length targets ≤ 4 → list_any (is_target_at place) targets ≡ false → Each IsTarget targets → FitsMap (joined_at place targets)
fits_joined place targets some few apart are = record {
  some = some;
  few = few;
  targets = subst (λ (l : List Target). Each (FitsTarget place) l) (sym (take_seam targets (replicate (4 - length targets) no_target))) (apart_each place targets apart are);
}

-- The place of a new chip is none of those of open files, and none that has a map.
module _ (seen : List OneEntry) (place : ℕ) (new : (other : ℕ) → IsPlaced seen other → other ≢ place) where
  none_or : (test rest : Bool) → test ≡ false → rest ≡ false → (test || rest) ≡ false
  none_or test rest a b = λ i. a i || b i

  with_target : (o : Option OpenFile) (targets : List Target) → ((file : OpenFile) → o ≡ Some file → IsPlaced seen file.place) → list_any (is_target_at place) targets ≡ false → list_any (is_target_at place) (target_in o ++ targets) ≡ false
  with_target None targets placed rest = rest
  with_target (Some file) targets placed rest = by file.of_chip
    where
      by : (b : Bool) → list_any (is_target_at place) ((if b then [] else target_of file ∷ []) ++ targets) ≡ false
      by true = rest
      by false = none_or (is_target_at place (target_of file)) (list_any (is_target_at place) targets) (ne_eqb file.place place (new file.place (placed file refl))) rest

  pub targets_apart : (files : List OpenFile) (slots : List ℕ) → AreFilesPlaced seen files → list_any (is_target_at place) (targets_in slots files) ≡ false
  targets_apart files [] placed = refl
  targets_apart files (slot ∷ slots) placed =
      with_target (file_in slot files) (targets_in slots files) (λ file found. found_each (λ f. IsPlaced seen f.place) (is_in slot) files file placed found) (targets_apart files slots placed)

  pub map_new : (kept : List Map) → AreMapsPlaced seen kept → map_at place kept ≡ None
  map_new [] placed = refl
  map_new (map ∷ kept) placed = past (map.place == place) (ne_eqb map.place place (new map.place placed.0)) (map_new kept placed.1)
    where
      past : (b : Bool) → b ≡ false → map_at place kept ≡ None → cond b (Some map) (map_at place kept) ≡ None
      past b other rest = ap (λ (t : Bool). cond t (Some map) (map_at place kept)) other ∙ rest

-- what isn't refused has lines, and room
none_first : (a b c : Bool) (x y z : Errno) → None ≡ first_of (when a x ∷ when b y ∷ when (not c) z ∷ []) → (b ≡ false) × (c ≡ true)
none_first true b c x y z is = cc
none_first false true c x y z is = cc
none_first false false true x y z is = (refl, refl)
none_first false false false x y z is = cc

has_some : (targets : List Target) → has_lines (line_count targets) ≡ true → 1 ≤ length targets
has_some [] is = cc
has_some (target ∷ targets) is = omega arith

has_room : (left : ℕ) → nat_eq left 0 ≡ false → 1 ≤ left
has_room zero is = cc
has_room (suc left) is = omega arith

-- So may the port of an actor learn what a reply to its call teaches.
module _ (limit : ℕ) (v w : OneView) (m : Maps) (files : List OpenFile) (bytes : List ℕ) (placed : AreFilesPlaced v.seen files) (maps_placed : AreMapsPlaced v.seen m.kept) where
  join_learned : (label slots : List ℕ) (call : DeviceCall) (place : ℕ) (fault : Option Errno) → fault ≡ joining_fault m (targets_in slots files) → Calls call ≡ joins fault label (targets_in slots files)
      → HasCalled limit v call (Number place) bytes w → MayJoin place (targets_in slots files) m w.seen
  join_learned label slots call place (Some errno) is asks called = cc
  join_learned label slots call place None is asks called =
      let targets : List Target = targets_in slots files in
      let same : call ≡ Once (Probe label (line_count targets) Remote) = ap (λ (a : Asking). call_or call a) asks in
      let new : IsNewPlace v w place = probed_new limit v w label (line_count targets) Remote place bytes (subst (λ (c : DeviceCall). HasCalled limit v c (Number place) bytes w) same called) in
      let none = none_first (list_any (is_joined m.kept) targets) (nat_eq m.left 0) (has_lines (line_count targets)) Inval NoSpc Inval is in
      record {
        room = has_room m.left none.0;
        some = has_some targets none.1;
        within = new.within;
        apart = targets_apart v.seen place new.unplaced files slots placed;
        new = map_new v.seen place new.unplaced m.kept maps_placed;
        placed = new.placed;
      }

  joins_at : (what : Do) (call : DeviceCall) (place : ℕ) → Calls call ≡ asking_with m files what → HasCalled limit v call (Number place) bytes w → JoinsAt place what files m w.seen
  joins_at (Aggregate label slots count) call place asks called = join_learned label (take count slots) call place (joining_fault m (targets_in (take count slots) files)) refl asks called
  joins_at what call place asks called = tt

  pub may_learn : (what : Do) (call : DeviceCall) (reply : Reply) → Calls call ≡ asking_with m files what → HasCalled limit v call reply bytes w → MayLearn reply what files m w.seen
  may_learn what call (Number place) asks called = joins_at what call place asks called
  may_learn what call reply asks called = tt
