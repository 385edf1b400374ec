-- The call over targets as a call of a driver.
use Rattle.std.proofs.Common.{◌≡◌, ℕ, ◌+◌, ◌≤◌, List, [], ◌∷◌, length, Bool, true, false, Option, Some, None, take, sym, refl, ap, ◌∙◌, subst, arith, zero, suc, length-append}
use Rattle.std.specs.Prelude.{if◌then◌else◌}
use Rattle.gl_base.specs.Count.{counted_up}
use Rattle.gl_base.specs.declared.op.Op.{Op}
use Rattle.gl_driver.specs.Calls.{Drives}
use Rattle.gl_driver.specs.Maps.{FitsMap, map_for, targets_of}
use Rattle.gl_driver.specs.Told.{Told, counts_for, with_call, with_call_counting}
use Rattle.gl_driver.specs.declared.map.Map.{Map}
use Rattle.gl_driver.specs.declared.map.Target.{Target}
use Rattle.gl_model.specs.Entries.{is_done, is_go}
use Rattle.gl_model.specs.declared.call.Call.{Call}
use Rattle.gl_model.specs.declared.gift.Gift.{Gift}
use Rattle.gl_model.specs.declared.reply.Reply.{Reply}
use Rattle.gl_rule.specs.declared.view.View.{View}
use Rattle.gl_world.specs.Deeds.{Deed, entries_in}
use Rattle.gl_world.specs.History.{ended_in}
use Rattle.gl_world.specs.declared.history.Entry.{Entry}
use Rattle.gl_world.specs.declared.machine.Machine.{Ghosts}
use Rattle.gl_aggregator.specs.Aggregating.{FollowsAt, FollowsBehind, OwnAt}
use Rattle.gl_aggregator.specs.Commands.{visits, visits_on}
use Rattle.gl_aggregator.specs.Course.{Called, CountsMore}
use Rattle.gl_aggregator.specs.Gather.{gather}
use Rattle.gl_aggregator.specs.Ports.{told_over, with_one_more}
use Rattle.gl_aggregator.specs.Routes.{is_visited, lines_on, route_if_any, route_to, routes, routes_from}
use Rattle.gl_aggregator.specs.declared.routes.Route.{Route}
use Rattle.gl_aggregator.specs.declared.tally.Tally.{Tally}
use Rattle.gl_aggregator.proofs.Backs.{none_of}
use Rattle.gl_aggregator.proofs.Counts.{counts_one, same_behind, told_then}
use Rattle.gl_aggregator.proofs.Course.{own_is_few}

visits_length : (op : Op) (found : List Route) → length (visits_on op found) ≡ length found
visits_length op [] = refl
visits_length op (route ∷ found) = let l = visits_length op found in omega arith

one_at_most : (route : Route) (b : Bool) → length (if b then route ∷ [] else []) ≤ 1
one_at_most route true = omega arith
one_at_most route false = omega arith

few_routes : (op : Op) (base : ℕ) (targets : List Target) → length (routes_from op base targets) ≤ length targets
few_routes op base [] = omega arith
few_routes op base (target ∷ targets) =
    let a = length-append (route_if_any (route_to target base) (lines_on op (route_to target base))) (routes_from op (base + target.lines.count) targets) in
    let b = one_at_most (route_to target base) (is_visited (lines_on op (route_to target base))) in
    let c = few_routes op (base + target.lines.count) targets in omega arith

few_taken : (count : ℕ) (targets : List Target) → length (take count targets) ≤ count
few_taken zero targets = omega arith
few_taken (suc count) [] = omega arith
few_taken (suc count) (target ∷ targets) = let l = few_taken count targets in omega arith

module _ {K : Type 0} where
  entries_length : (did : List (Deed K Call Reply Gift)) → length (entries_in did) ≡ length did
  entries_length [] = refl
  entries_length (d ∷ did) = let l = entries_length did in omega arith

  module _ (m : Ghosts K Call Reply Gift) (Inner : Option Told → Op → List (Deed K Call Reply Gift) → ℕ → ℕ → Option ℕ → Type 0) where
    -- at a place with a map
    pub driven : (map : Map) (op : Op) (tally : Tally) (t u : Option Told) (answer : Option ℕ) (v w : View K Call Reply Gift) → FitsMap map
        → Called m is_go is_done (FollowsBehind Inner v.room) (gather map op) (visits map op) t u v w answer
        → Drives m 8 (λ map op own. OwnAt map op own) (λ map told op did room seen answer. FollowsAt Inner map told op did room seen answer)
        (Some map) op (told_over tally.calls tally.last t) (told_over (counted_up tally.calls) (Some (record { op = op; answer = answer })) u) answer v w
    driven map op tally t u answer v w fits called = record {
      did = called.did;
      few = let a = own_is_few m is_go is_done (FollowsBehind Inner v.room) (visits map op) (entries_in called.did) called.own in let b = visits_length op (routes map op) in let c = entries_length called.did in
          let d = few_routes op 0 (targets_of map) in let f = few_taken map.count map.targets in let e = fits.few in omega arith;
      own = called.own;
      back = called.back;
      told = told_then op answer tally.calls (ended_in m (entries_in called.did)) tally.last t u called.counts;
      follows = (record { answer_is = called.gathers.answer_is; full = λ h. subst (λ r. r ≤ length w.seen) called.back.grew.room (called.gathers.full h) }, (t, u, same_behind t tally.calls tally.last, called.asked));
    }

    -- the same over what the port was and is
    pub driven_at : (map : Map) (op : Op) (tally before after : Tally) (t u : Option Told) (answer said : Option ℕ) (found : Option Map) (v w : View K Call Reply Gift)
        → FitsMap map → found ≡ Some map → before ≡ tally → after ≡ with_one_more op answer before → said ≡ answer
        → Called m is_go is_done (FollowsBehind Inner v.room) (gather map op) (visits map op) t u v w answer
        → Drives m 8 (λ map op own. OwnAt map op own) (λ map told op did room seen answer. FollowsAt Inner map told op did room seen answer)
        found op (told_over tally.calls tally.last t) (told_over after.calls after.last u) said v w
    driven_at map op tally before after t u answer said found v w fits found_is before_is after_is said_is called =
        subst (λ (x : Option Map). Drives m 8 (λ map op own. OwnAt map op own) (λ map told op did room seen answer. FollowsAt Inner map told op did room seen answer)
        x op (told_over tally.calls tally.last t) (told_over after.calls after.last u) said v w) (sym found_is)
        (subst (λ (x : Option ℕ). Drives m 8 (λ map op own. OwnAt map op own) (λ map told op did room seen answer. FollowsAt Inner map told op did room seen answer)
        (Some map) op (told_over tally.calls tally.last t) (told_over after.calls after.last u) x v w) (sym said_is)
        (subst (λ (x : Tally). Drives m 8 (λ map op own. OwnAt map op own) (λ map told op did room seen answer. FollowsAt Inner map told op did room seen answer)
        (Some map) op (told_over tally.calls tally.last t) (told_over x.calls x.last u) answer v w) (sym (after_is ∙ ap (λ (x : Tally). with_one_more op answer x) before_is))
        (driven map op tally t u answer v w fits called)))

    -- at a place without a map: what the driver behind did
    pub passed_on : (Own : Option Map → Op → List (Entry K Call Reply Gift) → Type 0) (Follows : Option Map → Option Told → Op → List (Deed K Call Reply Gift) → ℕ → ℕ → Option ℕ → Type 0) (limit place : ℕ) (maps : List Map) (op : Op) (tally before after : Tally)
        (t u : Option Told) (answer said : Option ℕ) (found : Option Map) (v w : View K Call Reply Gift)
        → limit ≡ 0 → found ≡ None → before ≡ tally → after ≡ with_one_more op answer before → said ≡ answer
        → Drives m limit Own Follows (map_for limit place maps) op t u answer v w
        → Drives m 8 (λ map op own. OwnAt map op own) (λ map told op did room seen answer. FollowsAt (λ told op did room seen answer. Follows None told op did room seen answer) map told op did room seen answer)
        found op (told_over tally.calls tally.last t) (told_over after.calls after.last u) said v w
    passed_on Own Follows limit place maps op tally before after t u answer said found v w none found_is before_is after_is said_is d =
        subst (λ (x : Option Map). Drives m 8 (λ map op own. OwnAt map op own) (λ map told op did room seen answer. FollowsAt (λ told op did room seen answer. Follows None told op did room seen answer) map told op did room seen answer)
        x op (told_over tally.calls tally.last t) (told_over after.calls after.last u) said v w) (sym found_is)
        (subst (λ (x : Option ℕ). Drives m 8 (λ map op own. OwnAt map op own) (λ map told op did room seen answer. FollowsAt (λ told op did room seen answer. Follows None told op did room seen answer) map told op did room seen answer)
        None op (told_over tally.calls tally.last t) (told_over after.calls after.last u) x v w) (sym said_is)
        (subst (λ (x : Tally). Drives m 8 (λ map op own. OwnAt map op own) (λ map told op did room seen answer. FollowsAt (λ told op did room seen answer. Follows None told op did room seen answer) map told op did room seen answer)
        None op (told_over tally.calls tally.last t) (told_over x.calls x.last u) answer v w) (sym (after_is ∙ ap (λ (x : Tally). with_one_more op answer x) before_is))
        (record {
          did = d.did;
          few = let a = d.few in omega arith;
          own = ap (λ (l : List (Deed K Call Reply Gift)). entries_in l) (none_of d.did limit none d.few);
          back = d.back;
          told = told_then op answer tally.calls 1 tally.last t u (subst (λ (x : Option Told). CountsMore 1 t x) (sym told_one) (counts_one op answer t));
          follows = (t, same_behind t tally.calls tally.last, subst (λ n. Follows (map_for n place maps) t op d.did v.room (length w.seen) answer) none d.follows);
        }))) where
          told_one : u ≡ with_call op answer t
          told_one = d.told ∙ ap (λ n. with_call_counting (counts_for (map_for n place maps) (ended_in m (entries_in d.did))) op answer t) none
