-- One turn of the loop over the targets: what a visit comes to.
use Rattle.std.proofs.Common.{◌≡◌, false, ℕ, ◌+◌, ◌<◌, List, [], length, Option, Some, None, inl, inr, sym, refl, ap, ◌∙◌, subst}
use Rattle.std.specs.Prelude.{get_or}
use Rattle.gl_base.specs.Bits.{has_bit}
use Rattle.gl_base.specs.declared.op.Op.{Op}
use Rattle.gl_base.specs.declared.op.Op.TheVariants.{Apply, Get, Set}
use Rattle.gl_core.specs.Device.{OneEntry, core}
use Rattle.gl_core.specs.Kept.{Kept}
use Rattle.gl_driver.specs.Calls.{Drives, IsBack}
use Rattle.gl_driver.specs.Maps.{map_for}
use Rattle.gl_driver.specs.Told.{Told, with_call}
use Rattle.gl_driver.specs.declared.map.Map.{Map}
use Rattle.gl_model.specs.Entries.{is_done, is_go}
use Rattle.gl_model.specs.Parts.{in_ask}
use Rattle.gl_model.specs.Values.{bits_in}
use Rattle.gl_model.specs.declared.call.Call.{Call}
use Rattle.gl_model.specs.declared.call.Call.TheVariants.{Refused as RefusedCall}
use Rattle.gl_model.specs.declared.gift.Gift.{Gift}
use Rattle.gl_model.specs.declared.reply.Reply.{Reply}
use Rattle.gl_rule.specs.declared.view.View.{View}
use Rattle.gl_uapi.specs.Command.{command_of}
use Rattle.gl_uapi.specs.declared.commands.Command.TheVariants.{GetValues}
use Rattle.gl_world.specs.Deeds.{Deed}
use Rattle.gl_world.specs.declared.history.Entry.{Entry}
use Rattle.gl_world.specs.declared.machine.Machine.{Ghosts}
use Rattle.gl_aggregator.specs.Aggregating.{FollowsBehind}
use Rattle.gl_aggregator.specs.Calling.{Calling}
use Rattle.gl_aggregator.specs.Commands.{visit_on, visits, visits_on}
use Rattle.gl_aggregator.specs.Course.{Called}
use Rattle.gl_aggregator.specs.Gather.{gather, gather_on, gathered_behind, with_bits_from}
use Rattle.gl_aggregator.specs.Routes.{LineAt, lines_on, routes, with_bits_where}
use Rattle.gl_aggregator.specs.Visiting.{Ends, Gets, Visits, WasAsked, WasRefused, WasVisited, visit_in}
use Rattle.gl_aggregator.specs.declared.commands.Asking.{Asking}
use Rattle.gl_aggregator.specs.declared.routes.Route.{Route}
use Rattle.gl_aggregator.proofs.Behind.{back_behind, behind_on, follows_behind, told_behind}
use Rattle.gl_aggregator.proofs.Course.{sees_on}
use Rattle.gl_aggregator.proofs.Halves.{failed_came, passed_came, refused_came}
use Rattle.gl_aggregator.proofs.Loop.{ends_stopped, goes_on}

-- the word that was given is the one that was written, where it is looked at
same_bits : (op : Op) (asking : Asking) (bits word : ℕ) (wrote : List ℕ) (ls : List LineAt) → Gets op asking → (command_of asking.command.cmd ≡ Some GetValues → word ≡ bits_in wrote)
    → with_bits_from op bits word ls ≡ with_bits_from op bits (bits_in wrote) ls
same_bits (Get lines) asking bits word wrote ls gets by = ap (λ n. with_bits_where (λ l. has_bit n l.at) (λ l. l.line) bits ls) (by gets)
same_bits (Set lines mask values) asking bits word wrote ls gets by = refl
same_bits (Apply lines settings) asking bits word wrote ls gets by = refl

abbrev is_none : Option ℕ → Type 0
is_none None = Unit {0}
is_none (Some n) = ⊥

none_some : (n : ℕ) → None ≡ Some n → ⊥
none_some n is = subst (λ (o : Option ℕ). is_none o) is tt

abbrev number_or : ℕ → Option ℕ → ℕ
number_or n None = n
number_or n (Some k) = k

-- a visit by what its calls gave, where these are what the port told, the pass and the word behind it
module _ {K : Type 0} (m : Ghosts K Call Reply Gift) (limit : ℕ) (Own : Option Map → Op → List (Entry K Call Reply Gift) → Type 0) (Follows : Option Map → Option Told → Op → List (Deed K Call Reply Gift) → ℕ → ℕ → Option ℕ → Type 0)
    (asking : Asking) (maps : List Map) (before after : Option Told) (v w : View K Call Reply Gift) (word : Option ℕ) where
  pub not_begun : (x : View K Call Reply Gift) → after ≡ before → w ≡ x → word ≡ None → WasRefused m (RefusedCall asking.command.place false) (in_ask asking.command) v x
      → Visits m limit Own Follows asking maps before after v w word
  not_begun x told_is w_is word_is r = subst (λ (o : Option ℕ). Visits m limit Own Follows asking maps before after v w o) (sym word_is)
      (inl (told_is, subst (λ (y : View K Call Reply Gift). WasRefused m (RefusedCall asking.command.place false) (in_ask asking.command) v y) (sym w_is) r))

  pub visited : (t : Option Told) (a u x : View K Call Reply Gift) (said answer given : Option ℕ) → after ≡ t → w ≡ x → word ≡ given → answer ≡ said → WasAsked m asking.command.place (in_ask asking.command) v a
      → Drives m limit Own Follows (map_for limit asking.command.place maps) asking.op before t said a u → Ends m asking answer u x given → Visits m limit Own Follows asking maps before after v w word
  visited t a u x said answer given told_is w_is word_is answer_is asked drives ends = subst (λ (o : Option ℕ). Visits m limit Own Follows asking maps before after v w o) (sym word_is)
      (subst (λ (y : View K Call Reply Gift). Visits m limit Own Follows asking maps before after v y given) (sym w_is)
      (subst (λ (y : Option Told). Visits m limit Own Follows asking maps before y v x given) (sym told_is) (by given ends))) where
        whole : (word : Option ℕ) → Ends m asking answer u x word → WasVisited m limit Own Follows asking maps before t v x word
        whole word e = record {
          answer = answer;
          asked_at = a;
          driven_at = u;
          asked = asked;
          drives = subst (λ (o : Option ℕ). Drives m limit Own Follows (map_for limit asking.command.place maps) asking.op before t o a u) (sym answer_is) drives;
          ends = e;
        }

        by : (word : Option ℕ) → Ends m asking answer u x word → Visits m limit Own Follows asking maps before t v x word
        by None e = inr (whole None e)
        by (Some n) e = whole (Some n) e

module _ (limit : ℕ) (Own : Option Map → Op → List OneEntry → Type 0) (Follows : Option Map → Option Told → Op → List (Deed Kept Call Reply Gift) → ℕ → ℕ → Option ℕ → Type 0) (none : limit ≡ 0)
    (op : Op) (rows : List Route) (before now after : Option Told) (at : ℕ) (d : Route) (v w x : View Kept Call Reply Gift) (bits : ℕ) (less : at < length rows)
    (calling : Calling core (FollowsBehind (Follows None) v.room) op rows at before now v w bits) (asking : Asking) (is : Some (visit_in asking) ≡ visit_on op (get_or rows at d)) (maps : List Map) where
  -- the driver behind wasn't asked
  refused : WasRefused core (RefusedCall asking.command.place false) (in_ask asking.command) w x
      → Called core is_go is_done (FollowsBehind (Follows None) v.room) (gather_on op 0 rows) (visits_on op rows) before now v x None
  refused r = ends_stopped core (FollowsBehind (Follows None) v.room) op rows before now at d v w bits less calling (visit_in asking) x now is
      (refused_came core is_go is_done (FollowsBehind (Follows None) v.room) (visit_in asking) w x now (λ reply. refl) refl refl r)

  module _ (word : Option ℕ) (visit : WasVisited core limit Own Follows asking maps now after w x word) where
    back : IsBack core visit.asked_at [] visit.driven_at
    back = back_behind core Own Follows limit asking.command.place maps asking.op now after visit.answer visit.asked_at visit.driven_at none visit.drives

    told : after ≡ with_call asking.op visit.answer now
    told = told_behind core Own Follows limit asking.command.place maps asking.op now after visit.answer visit.asked_at visit.driven_at none visit.drives

    follows : FollowsBehind (Follows None) v.room (length x.seen) now asking.op visit.answer
    follows = follows_behind core Own Follows limit asking.command.place maps asking.op now after visit.answer visit.asked_at visit.driven_at none visit.drives v.room (length x.seen) (visit.asked.grew.room ∙ calling.back.grew.room)
        (sees_on core is_go is_done (FollowsBehind (Follows None) v.room) visit.driven_at x visit.ends.told.grew.seen)

  -- its tell was refused
  failed : WasVisited core limit Own Follows asking maps now after w x None → Called core is_go is_done (FollowsBehind (Follows None) v.room) (gather_on op 0 rows) (visits_on op rows) before after v x None
  failed visit = let e = visit.ends in ends_stopped core (FollowsBehind (Follows None) v.room) op rows before now at d v w bits less calling (visit_in asking) x after is
      (failed_came core is_go is_done (FollowsBehind (Follows None) v.room) (visit_in asking) asking.command.place asking.op visit.answer w visit.asked_at visit.driven_at x e.reply e.old e.new now after (λ reply. refl) refl
      visit.asked (back None visit) e.told (follows None visit) (told None visit) e.gives)

  -- what is gathered behind the visit is nothing: the call ends
  pub turn_stopped : (word : Option ℕ) → None ≡ gathered_behind op bits word (lines_on op (get_or rows at d)) → Visits core limit Own Follows asking maps now after w x word
      → Called core is_go is_done (FollowsBehind (Follows None) v.room) (gather_on op 0 rows) (visits_on op rows) before after v x None
  turn_stopped None gathers (inl (same, r)) = subst (λ (o : Option Told). Called core is_go is_done (FollowsBehind (Follows None) v.room) (gather_on op 0 rows) (visits_on op rows) before o v x None) (sym same) (refused r)
  turn_stopped None gathers (inr visit) = failed visit
  turn_stopped (Some word) gathers visit = absurd (none_some (with_bits_from op bits word (lines_on op (get_or rows at d))) gathers)

  -- it is these bits: the target was passed
  pub turn_passed : (word : Option ℕ) (next : ℕ) → Gets op asking → Some next ≡ gathered_behind op bits word (lines_on op (get_or rows at d)) → Visits core limit Own Follows asking maps now after w x word
      → Calling core (FollowsBehind (Follows None) v.room) op rows (at + 1) before after v x next
  turn_passed None next gets gathers visit = absurd (none_some next (sym gathers))
  turn_passed (Some word) next gets gathers visit =
      let e = visit.ends in goes_on core (FollowsBehind (Follows None) v.room) op rows before now at d v w bits less calling (visit_in asking) x after e.told.second.bytes next (behind_on (Follows None) v.room) is
      (passed_came core is_go is_done (FollowsBehind (Follows None) v.room) (visit_in asking) asking.command.place asking.op visit.answer w visit.asked_at visit.driven_at x e.reply e.old e.new now after (λ reply. refl) refl
      visit.asked (back (Some word) visit) e.told (follows (Some word) visit) (told (Some word) visit) e.gives.0)
      (ap (λ o. number_or next o) gathers ∙ same_bits op asking bits word e.told.second.bytes (lines_on op (get_or rows at d)) gets e.gives.1)

-- the call over the routes of a map is the one over its visits
pub over_map : (Follows : ℕ → Option Told → Op → Option ℕ → Type 0) (map : Map) (op : Op) (found rows : List Route) (before after : Option Told) (v w : View Kept Call Reply Gift) (answer : Option ℕ) → rows ≡ found → found ≡ routes map op
    → Called core is_go is_done Follows (gather_on op 0 rows) (visits_on op rows) before after v w answer → Called core is_go is_done Follows (gather map op) (visits map op) before after v w answer
over_map Follows map op found rows before after v w answer rows_is found_is called =
    subst (λ l. Called core is_go is_done Follows (gather_on op 0 l) (visits_on op l) before after v w answer) (rows_is ∙ found_is) called
