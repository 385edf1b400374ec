-- The answers that the tells hold over a planned driver, and the cases in which a call fails.
use Rattle.std.proofs.Common.{◌≡◌, ◌≤◌, ℕ, Bool, true, false, List, [], ◌∷◌, ◌++◌, length, Option, Some, None, inl, inr, sym, refl, ap, ◌∙◌, subst, arith}
use Rattle.std.proofs.lemmas.Bool.{true≢false}
use Rattle.std.specs.Prelude.{◌↔◌}
use Rattle.gl_base.specs.Count.{counted_up}
use Rattle.gl_base.specs.declared.lines.Lines.{Lines}
use Rattle.gl_base.specs.declared.op.Op.{Op}
use Rattle.gl_core.specs.Device.{OneDeed, OneEntry, call_tells, tells_in}
use Rattle.gl_driver.specs.Told.{Told, planned_for, with_call}
use Rattle.gl_driver.specs.declared.op.DriverCall.{DriverCall}
use Rattle.gl_model.specs.Entries.{is_done, is_go}
use Rattle.gl_model.specs.declared.call.Call.{Call}
use Rattle.gl_model.specs.declared.device_call.CommandIn.{CommandIn}
use Rattle.gl_model.specs.declared.gift.Gift.{Gift}
use Rattle.gl_model.specs.declared.reply.Reply.{Reply}
use Rattle.gl_world.specs.Deeds.{Deed, entries_in}
use Rattle.gl_world.specs.declared.history.Entry.{Entry}
use Rattle.gl_aggregator.specs.Aggregating.{EachTargetIsTold, Fails, FailsInJustTheseCases, FollowsBehind, FollowsByMore, FullStandsBefore}
use Rattle.gl_aggregator.specs.Course.{FollowsOn}
use Rattle.gl_aggregator.specs.Commands.{command_to, visit_by, visit_if, visits, visits_on}
use Rattle.gl_aggregator.specs.Gather.{gather}
use Rattle.gl_aggregator.specs.Own.{AskedFor, AtRefusal, BehindAsk, BehindTell, Ending, NoRoom, Own, Unspelled, Visit, Whole, by_ending, ending, if_done, is_whole, told_bytes}
use Rattle.gl_aggregator.specs.Plans.{PlannedOnMaps, called, op_if, ops_asked, planned_on}
use Rattle.gl_aggregator.specs.Ports.{SameBehind}
use Rattle.gl_aggregator.specs.Routes.{lines_on, routes}
use Rattle.gl_aggregator.specs.declared.routes.Route.{Route}
use Rattle.gl_aggregator.proofs.Behind.{behind_on}
use Rattle.gl_aggregator.proofs.Points.{behind_two, fails_in, not_none, some_is_not_none}

-- no entries tell nothing, and nothing was asked for them
nothing_asked : (vs : List (Option (Visit Call))) (es : List OneEntry) (t : Told) → es ≡ [] → tells_in es ≡ planned_on (ops_asked vs es) t
nothing_asked [] [] t none = refl
nothing_asked (None ∷ vs) [] t none = refl
nothing_asked (Some v ∷ vs) [] t none = refl
nothing_asked vs (e ∷ es) t none = absurd (not_none e es none)

-- F: which answers follow of the driver behind
module _ (F : Option Told → Op → Option ℕ → Type 0) (planned : (t : Told) (op : Op) (answer : Option ℕ) → F (Some t) op answer → answer ≡ planned_for op t) where
  -- one target, and then those behind it
  of_target : (lines : Lines) (c : CommandIn) (vs : List (Option (Visit Call)))
      → ((es : List OneEntry) (t : Told) (after : Option Told) → Own is_go is_done vs es → AskedFor F (Some t) vs es after → tells_in es ≡ planned_on (ops_asked vs es) t)
      → (es : List OneEntry) (t : Told) (after : Option Told) → Own is_go is_done (Some (visit_by lines c) ∷ vs) es → AskedFor F (Some t) (Some (visit_by lines c) ∷ vs) es after
      → tells_in es ≡ planned_on (ops_asked (Some (visit_by lines c) ∷ vs) es) t
  of_target lines c vs later [] t after own asked = refl
  of_target lines c vs later (e ∷ []) t after (inl own) asked = ap (λ call. call_tells call ++ []) own.0
  of_target lines c vs later (e ∷ []) t after (inr own) asked = ap (λ call. call_tells call ++ []) own.0
  of_target lines c vs later (e ∷ f ∷ es) t after (inl own) asked = absurd (not_none f es own.1)
  of_target lines c vs later (e ∷ f ∷ es) t after (inr own) (op, answer, op_is, tells, follows, asked) =
      let answer_is : answer ≡ planned_for op t = planned t op answer follows in
      let next : AskedFor F (Some (called op t)) vs es after = subst (λ (a : Option ℕ). AskedFor F (with_call op a (Some t)) vs es after) answer_is asked in
      ap (λ call. call_tells call ++ (call_tells f.call ++ tells_in es)) own.0
      ∙ (ap (λ call. call_tells call ++ tells_in es) tells
      ∙ (ap (λ (a : Option ℕ). a ∷ tells_in es) answer_is
      ∙ (ap (λ (l : List (Option ℕ)). planned_for op t ∷ l) (elim (behind_two is_go is_done F (visit_by lines c) vs e f es (inr own)) as (λ _. tells_in es ≡ planned_on (ops_asked vs es) (called op t)) [
        | inl own_later ↦ later es (called op t) after own_later next
        | inr none ↦ nothing_asked vs es (called op t) none
      ])
      ∙ ap (λ (o : Option Op). planned_on (op_if o ++ ops_asked vs es) t) (sym op_is))))

  of_targets : (op : Op) (found : List Route) (es : List OneEntry) (t : Told) (after : Option Told) → Own is_go is_done (visits_on op found) es → AskedFor F (Some t) (visits_on op found) es after
      → tells_in es ≡ planned_on (ops_asked (visits_on op found) es) t
  of_targets op [] es t after own asked = nothing_asked [] es t own
  of_targets op (route ∷ found) es t after own asked =
      elim (command_to route.target op (lines_on op route)) as (λ o. (es : List OneEntry) (t : Told) (after : Option Told) → Own is_go is_done (visit_if route.target.lines o ∷ visits_on op found) es
      → AskedFor F (Some t) (visit_if route.target.lines o ∷ visits_on op found) es after → tells_in es ≡ planned_on (ops_asked (visit_if route.target.lines o ∷ visits_on op found) es) t) [
        | None ↦ (λ es t after own asked. nothing_asked (None ∷ visits_on op found) es t own)
        | Some c ↦ of_target route.target.lines c (visits_on op found) (of_targets op found)
      ] es t after own asked

-- what a planned driver answers goes by the plan, what it counts, and the bits alone
by_plan : (ops : List Op) (t : Told) (calls : ℕ) (last : Option DriverCall) → planned_on ops t ≡ planned_on ops (record t { calls = calls; last = last })
by_plan [] t calls last = refl
by_plan (op ∷ ops) t calls last = ap (λ (l : List (Option ℕ)). planned_for op t ∷ l)
    (by_plan ops (called op t) (counted_up calls) (Some (record { op = op; answer = planned_for op t })))

abbrev planned_over : List Op → Option Told → List (Option ℕ)
planned_over ops None = []
planned_over ops (Some t) = planned_on ops t

same_plan : (ops : List Op) (x t : Told) → SameBehind (Some x) (Some t) → planned_on ops x ≡ planned_on ops t
same_plan ops x t same = by_plan ops x 0 None ∙ (ap (λ (o : Option Told). planned_over ops o) (same 0 None) ∙ sym (by_plan ops t 0 None))

abbrev is_none : Option Told → Type 0
is_none None = Unit {0}
is_none (Some x) = ⊥

pub planned_on_maps : (is_planned : Bool) (Follows : Option Told → Op → List OneDeed → ℕ → ℕ → Option ℕ → Type 0)
    → (is_planned ≡ true → (t : Told) (op : Op) (did : List OneDeed) (room seen : ℕ) (answer : Option ℕ) → Follows (Some t) op did room seen answer → answer ≡ planned_for op t)
    → PlannedOnMaps is_planned Follows
planned_on_maps is_planned Follows planned holds map t op did room seen answer own (gathers, (Some inner, after, same, asked)) =
    of_targets (FollowsBehind Follows room seen) (λ x asked_op said f. planned holds x asked_op [] room f.0 said f.2) op (routes map op) (entries_in did) inner after own asked
    ∙ same_plan (ops_asked (visits map op) (entries_in did)) inner t same
planned_on_maps is_planned Follows planned holds map t op did room seen answer own (gathers, (None, after, same, asked)) = absurd (subst (λ (o : Option Told). is_none o) (same 0 None) tt)

pub fails_in_just_these_cases : {K : Type 0} (Follows : Option Told → Op → List (Deed K Call Reply Gift) → ℕ → ℕ → Option ℕ → Type 0) → FailsInJustTheseCases Follows
fails_in_just_these_cases Follows map told op did room seen answer follows =
    let ends = ending is_go is_done (visits map op) (entries_in did) in
    subst (λ (o : Option ℕ). (o ≡ None) ↔ Fails ends room seen) (sym follows.0.answer_is) (fails_in (gather map op) (told_bytes did) ends room seen follows.0.full)

-- by all that stand before the tell
asked_on : {M C R G : Type 0} (F : ℕ → Option Told → Op → Option ℕ → Type 0) → FollowsOn F → (seen more : ℕ) → seen ≤ more → (vs : List (Option (Visit C))) (es : List (Entry M C R G)) (t u : Option Told)
    → AskedFor (F seen) t vs es u → AskedFor (F more) t vs es u
asked_on F on seen more le [] es t u h = h
asked_on F on seen more le (None ∷ vs) es t u h = h
asked_on F on seen more le (Some v ∷ vs) [] t u h = h
asked_on F on seen more le (Some v ∷ vs) (e ∷ []) t u h = h
asked_on F on seen more le (Some v ∷ vs) (e ∷ f ∷ es) t u (op, answer, op_is, tells, follows, asked) =
    (op, answer, op_is, tells, on seen more t op answer le follows, asked_on F on seen more le vs es (with_call op answer t) u asked)

pub follows_by_more : {K : Type 0} (Follows : Option Told → Op → List (Deed K Call Reply Gift) → ℕ → ℕ → Option ℕ → Type 0) → FollowsByMore Follows
follows_by_more Follows map told op did room seen before answer (gathers, (inner, after, same, asked)) more = (
  record { answer_is = gathers.answer_is; full = λ lacks. (let full : room ≤ seen = gathers.full lacks in omega (arith, more)) },
  (inner, after, same, asked_on (FollowsBehind Follows room) (behind_on Follows room) seen before more (visits map op) (entries_in did) inner after asked),
)

pub full_stands_before : {K : Type 0} (Follows : Option Told → Op → List (Deed K Call Reply Gift) → ℕ → ℕ → Option ℕ → Type 0) → FullStandsBefore Follows
full_stands_before Follows map told op did room seen before answer follows more lacks = let full : room ≤ seen = follows.0.full lacks in omega (arith, more)

-- where the entries ended behind the last target, each target was told
not_whole : (e : Ending) → is_whole e ≡ false → e ≡ Whole → ⊥
not_whole e is whole = absurd (true≢false (sym (ap (λ (x : Ending). is_whole x) whole) ∙ is))

whole_behind : (b : Bool) (later : Ending) → if_done b later ≡ Whole → (b ≡ true) × (later ≡ Whole)
whole_behind true later e = (refl, e)
whole_behind false later e = absurd (not_whole AtRefusal refl e)

module _ {M C R G : Type 0} (is_go is_done : R → Bool) where
  behind_done : (later : List (Entry M C R G) → Type 0) (b : Bool) (es : List (Entry M C R G)) → b ≡ true → BehindTell {M = M} {C = C} {R = R} {G = G} is_go is_done later b es → later es
  behind_done later true es done h = h
  behind_done later false es done h = absurd (true≢false (sym done))

  behind_go : (v : Visit C) (later : List (Entry M C R G) → Type 0) (b : Bool) (f : Entry M C R G) (es : List (Entry M C R G)) → is_done f.reply ≡ true → BehindAsk {M = M} {G = G} is_go is_done v later b (f ∷ es) → later es
  behind_go v later true f es done h = behind_done later (is_done f.reply) es done h.2
  behind_go v later false f es done h = absurd (not_none f es h)

  behind_passed : (v : Visit C) (vs : List (Option (Visit C))) (e f : Entry M C R G) (es : List (Entry M C R G)) → is_done f.reply ≡ true → Own is_go is_done (Some v ∷ vs) (e ∷ f ∷ es) → Own is_go is_done vs es
  behind_passed v vs e f es done (inl own) = absurd (not_none f es own.1)
  behind_passed v vs e f es done (inr own) = behind_go v (Own is_go is_done vs) (is_go e.reply) f es done own.1

  each_told : (vs : List (Option (Visit C))) (did : List (Deed M C R G)) → Own is_go is_done vs (entries_in did) → ending is_go is_done vs (entries_in did) ≡ Whole → length (told_bytes did) ≡ length vs
  each_told [] [] own whole = refl
  each_told [] (d ∷ did) own whole = absurd (not_none d.entry (entries_in did) own)
  each_told (None ∷ vs) did own whole = absurd (not_whole Unspelled refl whole)
  each_told (Some v ∷ vs) [] own whole = absurd (not_whole NoRoom refl whole)
  each_told (Some v ∷ vs) (d ∷ []) own whole = absurd (not_whole AtRefusal refl whole)
  each_told (Some v ∷ vs) (d ∷ e ∷ did) own whole =
      let behind = whole_behind (is_done e.entry.reply) (ending is_go is_done vs (entries_in did)) whole in
      let l : length (told_bytes did) ≡ length vs = each_told vs did (behind_passed v vs d.entry e.entry (entries_in did) behind.0 own) behind.1 in omega arith

some_is_whole : (gather : List (List ℕ) → ℕ) (told : List (List ℕ)) (e : Ending) (bits : ℕ) → Some bits ≡ by_ending gather told e → e ≡ Whole
some_is_whole gather told Whole bits is = refl
some_is_whole gather told AtRefusal bits is = absurd (some_is_not_none bits is)
some_is_whole gather told Unspelled bits is = absurd (some_is_not_none bits is)
some_is_whole gather told NoRoom bits is = absurd (some_is_not_none bits is)

pub each_target_is_told : {K : Type 0} (Follows : Option Told → Op → List (Deed K Call Reply Gift) → ℕ → ℕ → Option ℕ → Type 0) → EachTargetIsTold Follows
each_target_is_told Follows map told op did room seen bits own follows =
    each_told is_go is_done (visits map op) did own (some_is_whole (gather map op) (told_bytes did) (ending is_go is_done (visits map op) (entries_in did)) bits follows.0.answer_is)
