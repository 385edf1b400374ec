-- An aggregator is as planned as the driver behind it: at a place where it goes by no map its answer is the planned one, and at one with a map the
-- answers that its tells hold are.
use Rattle.std.proofs.Common.{◌≡◌, ℕ, Bool, true, List, [], ◌∷◌, ◌++◌, Option, Some, None, zero, suc, ap, ◌∙◌, subst}
use Rattle.gl_base.specs.Count.{counted_up}
use Rattle.gl_base.specs.declared.op.Op.{Op}
use Rattle.gl_core.specs.Device.{OneDeed, tells_in}
use Rattle.gl_driver.specs.Told.{Told, planned_for}
use Rattle.gl_driver.specs.declared.map.Map.{Map}
use Rattle.gl_model.specs.declared.call.Call.{Call}
use Rattle.gl_model.specs.declared.gift.Gift.{Gift}
use Rattle.gl_model.specs.declared.reply.Reply.{Reply}
use Rattle.gl_world.specs.Deeds.{Deed, entries_in}
use Rattle.gl_world.specs.declared.history.Entry.{Entry}
use Rattle.gl_aggregator.specs.Aggregating.{FollowsAt, OwnAt}
use Rattle.gl_aggregator.specs.Commands.{visits}
use Rattle.gl_aggregator.specs.Own.{Visit}

pub owns_none : {K : Type 0} (map : Option Map) (op : Op) (own : List (Entry K Call Reply Gift)) → ◌≡◌ {A = ℕ} 8 0 → OwnAt map op own → own ≡ []
owns_none map op own none is = absurd (subst is_some_number none tt) where
  is_some_number : ℕ → Type 0
  is_some_number zero = ⊥
  is_some_number (suc n) = Unit {0}

-- what a planned driver answers goes by the plan and the bits alone
abbrev planned_over : Op → Option Told → Option ℕ
planned_over op None = None
planned_over op (Some t) = planned_for op t

pub follows_plan : {K : Type 0} (Follows : Option Told → Op → List (Deed K Call Reply Gift) → ℕ → ℕ → Option ℕ → Type 0)
    → ((t : Told) (op : Op) (did : List (Deed K Call Reply Gift)) (room seen : ℕ) (answer : Option ℕ) → Follows (Some t) op did room seen answer → answer ≡ planned_for op t)
    → (t : Told) (op : Op) (did : List (Deed K Call Reply Gift)) (room seen : ℕ) (answer : Option ℕ) → FollowsAt Follows None (Some t) op did room seen answer → answer ≡ planned_for op t
follows_plan Follows planned t op did room seen answer (Some inner, same, follows) = planned inner op did room seen answer follows ∙ ap (λ (o : Option Told). planned_over op o) (same 0 None)
follows_plan Follows planned t op did room seen answer (None, same, follows) = absurd (none_is_not_some (same 0 None)) where
  is_none : Option Told → Type 0
  is_none None = Unit {0}
  is_none (Some x) = ⊥

  none_is_not_some : None ≡ Some (record t { calls = 0; last = None }) → ⊥
  none_is_not_some e = subst is_none e tt

-- what a port tells that told this, after one more call, of a planned driver
abbrev pub called : Op → Told → Told
called op t = record {
  calls = counted_up t.calls;
  counted = counted_up t.counted;
  plan = t.plan;
  bits = t.bits;
  last = Some (record { op = op; answer = planned_for op t });
}

-- what a planned driver answers to these operations, one after the other, through a port that told this
abbrev pub planned_on : List Op → Told → List (Option ℕ)
planned_on [] t = []
planned_on (op ∷ ops) t = planned_for op t ∷ planned_on ops (called op t)

abbrev pub op_if : Option Op → List Op
op_if None = []
op_if (Some op) = op ∷ []

-- what the driver behind was asked, in order: one operation for each tell, that of its visit
abbrev pub ops_asked : {M C R G : Type 0} → List (Option (Visit C)) → List (Entry M C R G) → List Op
ops_asked [] es = []
ops_asked (None ∷ vs) es = []
ops_asked (Some v ∷ vs) [] = []
ops_asked (Some v ∷ vs) (ask ∷ []) = []
ops_asked (Some v ∷ vs) (ask ∷ tell ∷ es) = op_if v.op ++ ops_asked vs es

-- Over a planned driver the tells of a call at a place with a map hold, in order, the answers that such a driver gives to what it was asked, through
-- the port as it was at the beginning: its plan counts on from tell to tell.
abbrev pub PlannedOnMaps : Bool → (Option Told → Op → List OneDeed → ℕ → ℕ → Option ℕ → Type 0) → Type 0
PlannedOnMaps is_planned Follows = is_planned ≡ true → (map : Map) (t : Told) (op : Op) (did : List OneDeed) (room seen : ℕ) (answer : Option ℕ)
    → OwnAt (Some map) op (entries_in did) → FollowsAt Follows (Some map) (Some t) op did room seen answer
    → tells_in (entries_in did) ≡ planned_on (ops_asked (visits map op) (entries_in did)) t
