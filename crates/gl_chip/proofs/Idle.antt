-- Actors between two calls.
use Rattle.std.proofs.Common.{◌≡◌, ℕ, List, [], sym, refl, ap, ◌∙◌, subst}
use Rattle.std.specs.Prelude.{◌↔◌}
use Rattle.gl_world.specs.History.{fold, owed}
use Rattle.gl_world.specs.Removal.{Removes}
use Rattle.gl_rule.specs.Turn.{owes}
use Rattle.gl_rule.specs.Views.{newcomer, with_one_more, taking_in}
use Rattle.gl_gate.specs.Calls.{RemovesNothing}
use Rattle.gl_gate.specs.Values.{PassValue, knowing}
use Rattle.gl_core.specs.Kept.{Kept, StandsFor}
use Rattle.gl_model.specs.declared.call.Call.{Call}
use Rattle.gl_model.specs.declared.gift.Gift.{Gift}
use Rattle.gl_model.specs.declared.reply.Reply.{Reply}
use Rattle.gl_model.specs.Calling.{AreOfCalls}
use Rattle.gl_chip.specs.Values.{IsIdle, OneView}
use Rattle.gl_core.specs.Device.{OneEntry, core}

abbrev pub OnePass : Type 0
OnePass = PassValue Kept Call Reply Gift

-- whose own entries and places stay, and who removes nothing more, stays idle
pub still_idle : (v w : OneView) → w.number ≡ v.number → w.mine ≡ v.mine → w.inside ≡ v.inside → ((p : ℕ) → Removes core (fold core w.seen) v.number p → Removes core (fold core v.seen) v.number p) → IsIdle v → IsIdle w
still_idle v w number mine inside removes idle = record {
  free = record {
    inside = inside ∙ idle.free.inside;
    owes_nothing = ap (λ (l : List OneEntry). owed core l) mine ∙ idle.free.owes_nothing;
    removes_nothing = λ p r. idle.free.removes_nothing p (removes p (subst (λ k. Removes core (fold core w.seen) k p) number r));
  };
  whole_calls = subst (λ (x : ℕ × List OneEntry). AreOfCalls StandsFor x.0 x.1) (λ i. (sym number i, sym mine i)) idle.whole_calls;
}

-- and so is one that has made nothing yet
pub newcomer_idle : (v : OneView) (number room made : ℕ) (seen : List OneEntry) (closed drained : List ℕ) → v ≡ newcomer number room seen made closed drained → RemovesNothing core v → IsIdle v
newcomer_idle v number room made seen closed drained is removes = record {
  free = record { inside = ap (λ (x : OneView). x.inside) is; owes_nothing = ap (λ (x : OneView). owes core x) is; removes_nothing = removes };
  whole_calls = subst (λ (x : OneView). AreOfCalls StandsFor x.number x.mine) (sym is) (record { calls = []; each = tt; are = refl });
}

pub split_idle : (x y : OnePass) → y ≡ knowing x (with_one_more x.view) → IsIdle x.view → IsIdle y.view
split_idle x y is idle = subst (λ (z : OnePass). IsIdle z.view) (sym is) (still_idle x.view (with_one_more x.view) refl refl refl (λ p r. r) idle)

pub join_idle : (x y : OnePass) (other : OneView) → y ≡ knowing x (taking_in x.view other)
    → ((p : ℕ) → Removes core (fold core y.view.seen) x.view.number p ↔ Removes core (fold core x.view.seen) x.view.number p) → IsIdle x.view → IsIdle y.view
join_idle x y other is removes idle = still_idle x.view y.view (ap (λ (z : OnePass). z.view.number) is) (ap (λ (z : OnePass). z.view.mine) is) (ap (λ (z : OnePass). z.view.inside) is) (λ p r. (removes p).0 r) idle
