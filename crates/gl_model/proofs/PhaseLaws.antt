-- The laws of the phases, except for that of sound worlds.
use Rattle.std.proofs.Common.{◌≡◌, ◌+◌, ◌<◌, ◌≤◌, ℕ, zero, suc, List, [], ◌∷◌, length, refl, sym, ap, ◌∙◌, subst, Bool, true, false, cond, Option, Some, None, arith}
use Rattle.std.specs.Prelude.{◌==◌, ◌&&◌, not, Contains, is_none}
use Rattle.std.specs.List.{filter}
use Rattle.std.proofs.lemmas.Bool.{true≢false}
use Rattle.std.proofs.lemmas.Bool.Decides.{nat_tests}
use Rattle.std.proofs.lemmas.Slice.Eq.{bytes_eq-Decides}
use Rattle.gl_base.specs.Refusals.{when}
use Rattle.gl_base.specs.declared.errno.Errno.{Errno}
use Rattle.gl_base.specs.declared.errno.Errno.TheVariants.{Busy}
use Rattle.gl_simtree.specs.Calls.{remove_refusal}
use Rattle.gl_model.specs.declared.call.Call.{Call}
use Rattle.gl_model.specs.declared.call.Call.TheVariants.{Probe, Unplug, MakeDir, RemoveDir, Write, Read, Live, Remove, Tick, Pin, Irq, Pull, Level, Interrupt, OpenChip, Find, Ioctl, ReadEdges, ReadInfo, PollLine, PollChip, Close, Refused as RefusedCall}
use Rattle.gl_model.specs.declared.call.Part.TheVariants.{Whole, Ask, Tell}
use Rattle.gl_model.specs.declared.reply.Reply.{Reply}
use Rattle.gl_model.specs.Chips.{is_leaving, is_up, phase_at, places_from}
use Rattle.gl_model.specs.Entries.{awaited_call, begins, begun_places, ending_call, ends, is_last_removal, last_call, places_named}
use Rattle.gl_model.specs.Machine.{bytes_of, remover_of, reply_of, world_after}
use Rattle.gl_model.specs.Outcome.{Outcome, done, refused_or}
use Rattle.gl_model.specs.Places.{origin_at}
use Rattle.gl_model.specs.Removal.{end_at, is_actor, is_outside_tree, is_device_named, is_of, is_removing, is_removing_of, is_unplugging, is_up_of, leave_at, remove_begun, remove_ended, removal_bytes, removed_places, unplug_begun, unplug_refusal, up_places}
use Rattle.gl_model.specs.Sound.{IsSound}
use Rattle.gl_model.specs.World.{World, opening}
use Rattle.gl_model.proofs.Phases.{actor_is, among, both, ended, Stays, Comes, Goes_away, Ends, goes, is_up_rank, left, named_are, rank_is_leaving, same_number, stage, unplug_finds, within_chips}

-- a call that ends begins nothing
pub never_both : (call : Call) (answer : Reply) → ends call ≡ true → begins call answer ≡ false
never_both (Unplug place false) answer e = absurd (true≢false (sym e))
never_both (Unplug place true) answer e = refl
never_both (Remove device false) answer e = absurd (true≢false (sym e))
never_both (Remove device true) answer e = refl
never_both (Ioctl place fd cmd len bytes Whole) answer e = refl
never_both (Ioctl place fd cmd len bytes Ask) answer e = absurd (true≢false (sym e))
never_both (Ioctl place fd cmd len bytes (Tell told)) answer e = refl
never_both (Probe label lines kind) answer e = refl
never_both (MakeDir path) answer e = refl
never_both (RemoveDir path) answer e = refl
never_both (Write path value) answer e = refl
never_both (Read path) answer e = refl
never_both (Live device) answer e = refl
never_both (Tick mono real) answer e = refl
never_both (Pin place what) answer e = refl
never_both (Irq place offset what) answer e = refl
never_both (Pull place offset up) answer e = refl
never_both (Level place offset pull) answer e = refl
never_both (Interrupt place offset up) answer e = refl
never_both (OpenChip word) answer e = refl
never_both (Find place name) answer e = refl
never_both (ReadEdges place fd len) answer e = refl
never_both (ReadInfo place fd len) answer e = refl
never_both (PollLine place fd) answer e = refl
never_both (PollChip place fd) answer e = refl
never_both (Close fd) answer e = refl
never_both (RefusedCall place poll) answer e = refl

pub opens_low : (p : ℕ) → stage opening p < 2
opens_low p = omega arith

pub forward : (w : World) (by : ℕ) (call : Call) (p : ℕ) → IsSound w → stage w p ≤ stage (world_after w by call) p
forward w by call p sound = elim (goes w by call p sound) as (λ _. stage w p ≤ stage (world_after w by call) p) [
  | Stays e o ↦ omega arith
  | Comes a b ↦ omega arith
  | Goes_away a b r d c ↦ omega arith
  | Ends a b l r ↦ omega arith
]

pub ends_it : (w : World) (by : ℕ) (call : Call) (p : ℕ) → IsSound w → stage w p < 3 → stage (world_after w by call) p ≡ 3
    → (stage w p ≡ 2) × (is_last_removal call ≡ true) × (remover_of w p ≡ Some by)
ends_it w by call p sound low gone = elim (goes w by call p sound) as (λ _. (stage w p ≡ 2) × (is_last_removal call ≡ true) × (remover_of w p ≡ Some by)) [
  | Stays e o ↦ absurd (omega arith)
  | Comes a b ↦ absurd (omega arith)
  | Goes_away a b r d c ↦ absurd (omega arith)
  | Ends a b l r ↦ (a, l, r)
]

pub begins_it : (w : World) (by : ℕ) (call : Call) (p : ℕ) → IsSound w → stage w p < 2 → stage (world_after w by call) p ≡ 2
    → (remover_of (world_after w by call) p ≡ Some by) × Contains (begun_places call (reply_of w by call) (bytes_of w by call)) p
begins_it w by call p sound low leaving = elim (goes w by call p sound) as (λ _. (remover_of (world_after w by call) p ≡ Some by) × Contains (begun_places call (reply_of w by call) (bytes_of w by call)) p) [
  | Stays e o ↦ absurd (omega arith)
  | Comes a b ↦ absurd (omega arith)
  | Goes_away a b r d c ↦ (r, c)
  | Ends a b l r ↦ absurd (omega arith)
]

pub stays : (w : World) (by : ℕ) (call : Call) (p : ℕ) → IsSound w → stage w p ≡ 2 → stage (world_after w by call) p ≡ 2
    → (remover_of (world_after w by call) p ≡ remover_of w p) × (awaited_call (world_after w by call) p ≡ awaited_call w p)
stays w by call p sound was is_still = elim (goes w by call p sound) as (λ _. (remover_of (world_after w by call) p ≡ remover_of w p) × (awaited_call (world_after w by call) p ≡ awaited_call w p)) [
  | Stays e o ↦ (ap (λ origin. origin.remover) (o was), ap (λ origin. ending_call p origin.device) (o was))
  | Comes a b ↦ absurd (omega arith)
  | Goes_away a b r d c ↦ absurd (omega arith)
  | Ends a b l r ↦ absurd (omega arith)
]

-- the places that a removal begins with

pub no_member : (p : ℕ) → Contains [] p → ⊥
no_member p (k, lt, e) = omega arith

pub alone_is : (o : Option (List ℕ)) → is_none o ≡ true → o ≡ None
alone_is None e = refl
alone_is (Some device) e = absurd (true≢false (sym e))

pub device_is : (device : List ℕ) (o : Option (List ℕ)) → is_device_named device o ≡ true → o ≡ Some device
device_is device None e = absurd (true≢false (sym e))
device_is device (Some other) e = ap Some ((bytes_eq-Decides other device).0 e)

pub is_that_device : (device : List ℕ) (o : Option (List ℕ)) → o ≡ Some device → is_device_named device o ≡ true
is_that_device device o e = ap (is_device_named device) e ∙ (bytes_eq-Decides device device).1 refl

abbrev Begun : World → World → ℕ → ℕ → Call → Type 0
Begun w v actor p last = (stage v p ≡ 2) × ((origin_at v p).remover ≡ Some actor) × (awaited_call v p ≡ last)

only_place : (place p : ℕ) → Contains (place ∷ []) p → p ≡ place
only_place place p (zero, lt, e) = sym e
only_place place p (suc k, lt, e) = absurd (omega arith)

begun_unplug : (w : World) (actor place p : ℕ) → length w.origins ≡ length w.chips → (stage w place ≡ 1) × (is_outside_tree w place ≡ true) → Contains (place ∷ []) p → Begun w (leave_at (λ k. k == place) actor w) actor p (Unplug place true)
begun_unplug w actor place p columns finds c =
    let is_p : p ≡ place = only_place place p c in
    let t : (p == place) ≡ true = grind (arith, nat_tests) in
    let l = left (λ k. k == place) actor w (leave_at (λ k. k == place) actor w) p columns refl refl (ap (stage w) is_p ∙ finds.0) t in
    let device : (origin_at (leave_at (λ k. k == place) actor w) p).device ≡ None = l.same_device ∙ ap (λ k. (origin_at w k).device) is_p ∙ alone_is (origin_at w place).device finds.1 in
    (l.is_leaving_now, l.by_actor, ap (ending_call p) device ∙ ap (λ k. Unplug k true) is_p)

unplug_begins : (r : Option Errno) (w : World) (actor place p : ℕ) → length w.origins ≡ length w.chips → (r ≡ None → (stage w place ≡ 1) × (is_outside_tree w place ≡ true))
    → Contains (begun_places (Unplug place false) (refused_or r w (unplug_begun actor place w)).reply (refused_or r w (unplug_begun actor place w)).bytes) p → Begun w (refused_or r w (unplug_begun actor place w)).world actor p (Unplug place true)
unplug_begins None w actor place p columns finds c = begun_unplug w actor place p columns (finds refl) c
unplug_begins (Some e) w actor place p columns finds c = absurd (no_member p c)

begun_remove : (w : World) (actor : ℕ) (device : List ℕ) (p : ℕ) → IsSound w → Contains (places_named (removal_bytes (up_places device w))) p → Begun w (remove_begun actor device w).world actor p (Remove device true)
begun_remove w actor device p sound c =
    let row = sound.devices device in
    let named_there : Contains (places_from row.first row.count) p = subst (λ ps. Contains ps p) (named_are device w row) c in
    let t : is_up_of device w p ≡ true = row.stand p ∙ among row.first row.count p named_there in
    let h = both (is_of device w p) (is_up (phase_at w p)) t in
    let l = left (is_up_of device w) actor w (remove_begun actor device w).world p sound.columns refl refl (is_up_rank (phase_at w p) h.1) t in
    (l.is_leaving_now, l.by_actor, ap (ending_call p) (l.same_device ∙ device_is device (origin_at w p).device h.0))

remove_begins : (r : Option Errno) (w : World) (actor : ℕ) (device : List ℕ) (p : ℕ) → IsSound w
    → Contains (begun_places (Remove device false) (refused_or r w (remove_begun actor device w)).reply (refused_or r w (remove_begun actor device w)).bytes) p → Begun w (refused_or r w (remove_begun actor device w)).world actor p (Remove device true)
remove_begins None w actor device p sound c = begun_remove w actor device p sound c
remove_begins (Some e) w actor device p sound c = absurd (no_member p c)

pub begins_them : (w : World) (by : ℕ) (call : Call) (p : ℕ) → IsSound w → Contains (begun_places call (reply_of w by call) (bytes_of w by call)) p
    → (stage (world_after w by call) p ≡ 2) × (remover_of (world_after w by call) p ≡ Some by) × (awaited_call (world_after w by call) p ≡ last_call call)
begins_them w by (Unplug place false) p sound c = unplug_begins (unplug_refusal place w) w by place p sound.columns (unplug_finds w place) c
begins_them w by (Unplug place true) p sound c = absurd (no_member p c)
begins_them w by (Remove device false) p sound c = remove_begins (remove_refusal device w.tree) w by device p sound c
begins_them w by (Remove device true) p sound c = absurd (no_member p c)
begins_them w by (Probe label lines kind) p sound c = absurd (no_member p c)
begins_them w by (MakeDir path) p sound c = absurd (no_member p c)
begins_them w by (RemoveDir path) p sound c = absurd (no_member p c)
begins_them w by (Write path value) p sound c = absurd (no_member p c)
begins_them w by (Read path) p sound c = absurd (no_member p c)
begins_them w by (Live device) p sound c = absurd (no_member p c)
begins_them w by (Tick mono real) p sound c = absurd (no_member p c)
begins_them w by (Pin place what) p sound c = absurd (no_member p c)
begins_them w by (Irq place offset what) p sound c = absurd (no_member p c)
begins_them w by (Pull place offset up) p sound c = absurd (no_member p c)
begins_them w by (Level place offset pull) p sound c = absurd (no_member p c)
begins_them w by (Interrupt place offset up) p sound c = absurd (no_member p c)
begins_them w by (OpenChip word) p sound c = absurd (no_member p c)
begins_them w by (Find place name) p sound c = absurd (no_member p c)
begins_them w by (Ioctl place fd cmd len bytes part) p sound c = absurd (no_member p c)
begins_them w by (ReadEdges place fd len) p sound c = absurd (no_member p c)
begins_them w by (ReadInfo place fd len) p sound c = absurd (no_member p c)
begins_them w by (PollLine place fd) p sound c = absurd (no_member p c)
begins_them w by (PollChip place fd) p sound c = absurd (no_member p c)
begins_them w by (Close fd) p sound c = absurd (no_member p c)
begins_them w by (RefusedCall place poll) p sound c = absurd (no_member p c)

-- the call that ends a removal

accepted : (b : Bool) (w : World) (out : Outcome) (p : ℕ) → b ≡ true → stage out.world p ≡ 3 → stage (refused_or (when (not b) Busy) w out).world p ≡ 3
accepted true w out p e h = h
accepted false w out p e h = absurd (true≢false (sym e))

-- one that passes is found
pub one_passes : (test : ℕ → Bool) (i n p : ℕ) → i ≤ p → p < i + n → test p ≡ true → (length (filter test (places_from i n)) == 0) ≡ false
one_passes test i zero p low high e = absurd (omega arith)
one_passes test i (suc n) p low high e = elim (test i) as (λ b. test i ≡ b → (length (cond b (i ∷ filter test (places_from (i + 1) n)) (filter test (places_from (i + 1) n))) == 0) ≡ false) [
  | true ↦ (λ _. grind (arith, nat_tests))
  | false ↦ (λ f. one_passes test (i + 1) n p (later f) (omega arith) e)
] refl
  where
    later : test i ≡ false → i + 1 ≤ p
    later f = elim (i == p) as (λ b. (i == p) ≡ b → i + 1 ≤ p) [
      | true ↦ (λ t. absurd (true≢false (sym e ∙ ap test (sym (same_number i p t)) ∙ f)))
      | false ↦ (λ ne. grind (arith, nat_tests))
    ] refl

accepted_remove : (b : Bool) (w : World) (out : Outcome) (p : ℕ) → b ≡ false → stage out.world p ≡ 3 → stage (refused_or (when b Busy) w out).world p ≡ 3
accepted_remove false w out p e h = h
accepted_remove true w out p e h = absurd (true≢false e)

abbrev two_true : Bool → Bool → Bool
two_true a b = a && b

pub both_true : (a b : Bool) → a ≡ true → b ≡ true → (a && b) ≡ true
both_true true b e h = h
both_true false b e h = absurd (true≢false (sym e))

unplug_ends : (w : World) (by p : ℕ) → stage w p ≡ 2 → remover_of w p ≡ Some by → (origin_at w p).device ≡ None → stage (world_after w by (Unplug p true)) p ≡ 3
unplug_ends w by p leaving remover alone =
    let is_alone_there : is_outside_tree w p ≡ true = ap is_none alone in
    let removed : is_removing by w p ≡ true = both_true (is_leaving (phase_at w p)) (is_actor by (origin_at w p).remover) (rank_is_leaving (phase_at w p) leaving) (actor_is by (origin_at w p).remover remover) in
    let t : (p == p) ≡ true = grind (arith, nat_tests) in
    accepted (is_unplugging by w p) w (done (end_at (λ k. k == p) w)) p (both_true (is_outside_tree w p) (is_removing by w p) is_alone_there removed)
    (ended (λ k. k == p) w (end_at (λ k. k == p) w) p refl leaving t)

remove_ends : (w : World) (by p : ℕ) (device : List ℕ) → stage w p ≡ 2 → remover_of w p ≡ Some by → (origin_at w p).device ≡ Some device → stage (world_after w by (Remove device true)) p ≡ 3
remove_ends w by p device leaving remover of_device =
    let is_of_there : is_of device w p ≡ true = is_that_device device (origin_at w p).device of_device in
    let removed : is_removing by w p ≡ true = both_true (is_leaving (phase_at w p)) (is_actor by (origin_at w p).remover) (rank_is_leaving (phase_at w p) leaving) (actor_is by (origin_at w p).remover remover) in
    let t : is_removing_of device by w p ≡ true = both_true (is_of device w p) (is_removing by w p) is_of_there removed in
    let lt : p < length w.chips = within_chips w.chips p (omega arith) in
    accepted_remove (length (removed_places device by w) == 0) w (remove_ended by device w) p (one_passes (is_removing_of device by w) 0 (length w.chips) p (omega arith) (omega arith) t)
    (ended (is_removing_of device by w) w (remove_ended by device w).world p refl leaving t)

ends_by : (o : Option (List ℕ)) (w : World) (by p : ℕ) → stage w p ≡ 2 → remover_of w p ≡ Some by → (origin_at w p).device ≡ o → stage (world_after w by (ending_call p o)) p ≡ 3
ends_by None w by p leaving remover e = unplug_ends w by p leaving remover e
ends_by (Some device) w by p leaving remover e = remove_ends w by p device leaving remover e

pub finishes : (w : World) (by : ℕ) (call : Call) (p : ℕ) → stage w p ≡ 2 → remover_of w p ≡ Some by → awaited_call w p ≡ call → stage (world_after w by call) p ≡ 3
finishes w by call p leaving remover e = subst (λ c. stage (world_after w by c) p ≡ 3) e (ends_by (origin_at w p).device w by p leaving remover refl)
