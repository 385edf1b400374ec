-- A call of the driver behind, which makes no entries of its own.
use Rattle.std.proofs.Common.{◌≡◌, ◌≤◌, ℕ, List, [], length, Option, None, ap, ◌∙◌, subst, arith}
use Rattle.gl_base.specs.declared.op.Op.{Op}
use Rattle.gl_driver.specs.Calls.{Drives, IsBack}
use Rattle.gl_driver.specs.Maps.{map_for}
use Rattle.gl_driver.specs.Told.{Told, counts_for, with_call, with_call_counting}
use Rattle.gl_driver.specs.declared.map.Map.{Map}
use Rattle.gl_model.specs.declared.call.Call.{Call}
use Rattle.gl_model.specs.declared.gift.Gift.{Gift}
use Rattle.gl_model.specs.declared.reply.Reply.{Reply}
use Rattle.gl_rule.specs.declared.view.View.{View}
use Rattle.gl_world.specs.Deeds.{Deed, entries_in}
use Rattle.gl_world.specs.History.{ended_in}
use Rattle.gl_world.specs.declared.history.Entry.{Entry}
use Rattle.gl_world.specs.declared.machine.Machine.{Ghosts}
use Rattle.gl_aggregator.specs.Aggregating.{FollowsBehind, PassesOn}
use Rattle.gl_aggregator.specs.Course.{FollowsOn}
use Rattle.gl_aggregator.proofs.Backs.{none_of}

-- what follows of it by at most so many entries follows by more
pub behind_on : {K : Type 0} (Follows : Option Told → Op → List (Deed K Call Reply Gift) → ℕ → ℕ → Option ℕ → Type 0) (room : ℕ) → FollowsOn (FollowsBehind Follows room)
behind_on Follows room seen more t op answer le (then, less, follows) = (then, omega (arith, le, less), follows)

module _ {K : Type 0} (m : Ghosts K Call Reply Gift) (Own : Option Map → Op → List (Entry K Call Reply Gift) → Type 0) (Follows : Option Map → Option Told → Op → List (Deed K Call Reply Gift) → ℕ → ℕ → Option ℕ → Type 0)
    (limit place : ℕ) (maps : List Map) (op : Op) (t u : Option Told) (answer : Option ℕ) (v w : View K Call Reply Gift) (none : limit ≡ 0) (d : Drives m limit Own Follows (map_for limit place maps) op t u answer v w) where
  pub back_behind : IsBack m v [] w
  back_behind = subst (λ (l : List (Deed K Call Reply Gift)). IsBack m v l w) (none_of d.did limit none d.few) d.back

  pub told_behind : u ≡ with_call op answer t
  told_behind = d.told ∙ ap (λ n. with_call_counting (counts_for (map_for n place maps) (ended_in m (entries_in d.did))) op answer t) none

  pub follows_behind : (room most : ℕ) → v.room ≡ room → length w.seen ≤ most → FollowsBehind (λ told op did room seen answer. Follows None told op did room seen answer) room most t op answer
  follows_behind room most is less = (
    length w.seen,
    less,
    subst (λ r. Follows None t op [] r (length w.seen) answer) is
        (subst (λ (l : List (Deed K Call Reply Gift)). Follows None t op l v.room (length w.seen) answer) (none_of d.did limit none d.few) (subst (λ n. Follows (map_for n place maps) t op d.did v.room (length w.seen) answer) none d.follows)),
  )

  -- a call that was passed on to it
  pub passes_on : PassesOn m (Follows None) op t u v w answer
  passes_on = record {
    back = back_behind;
    follows = subst (λ (l : List (Deed K Call Reply Gift)). Follows None t op l v.room (length w.seen) answer) (none_of d.did limit none d.few)
        (subst (λ n. Follows (map_for n place maps) t op d.did v.room (length w.seen) answer) none d.follows);
    told = told_behind;
  }
