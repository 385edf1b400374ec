-- What an aggregator over a planned driver does at a place with a map, for an actor that is alone: computed, target by target.
use Rattle.std.proofs.Common.{◌≡◌, ◌≤◌, ◌<◌, ℕ, Bool, true, false, List, [], ◌∷◌, Option, Some, None, inl, inr, sym, refl, ap, ◌∙◌, subst, arith}
use Rattle.gl_base.specs.declared.op.Op.{Op}
use Rattle.gl_base.specs.declared.phase.Phase.{Phase}
use Rattle.gl_base.specs.declared.phase.Phase.TheVariants.{Absent, Up, Leaving, Gone}
use Rattle.gl_core.specs.Device.{OneDeed, core}
use Rattle.gl_driver.specs.Told.{Told, planned_for, with_call}
use Rattle.gl_driver.specs.declared.map.Map.{Map}
use Rattle.gl_model.specs.Entries.{is_done, is_go}
use Rattle.gl_model.specs.World.{World}
use Rattle.gl_world.specs.Deeds.{Deed, entries_in}
use Rattle.gl_world.specs.Ranks.{IsGone, IsNotGone, rank}
use Rattle.gl_world.specs.declared.machine.Machine.{Ghosts}
use Rattle.gl_aggregator.specs.Aggregating.{FollowsBehind}
use Rattle.gl_aggregator.specs.Commands.{command_to, visit_if, visits, visits_on}
use Rattle.gl_aggregator.specs.Gather.{gather}
use Rattle.gl_aggregator.specs.Own.{AskedFor, BehindAsk, BehindTell, Own, Visit, answer_by, ending, if_done, lacks_room}
use Rattle.gl_aggregator.specs.Plans.{called}
use Rattle.gl_aggregator.specs.Ports.{SameBehind}
use Rattle.gl_aggregator.specs.Routes.{lines_on, routes}
use Rattle.gl_aggregator.specs.Settled.{DidAlone, DoesAlone, DoesOneThing, first_deed}
use Rattle.gl_aggregator.specs.declared.routes.Route.{Route}
use Rattle.gl_aggregator.proofs.Points.{not_none}

abbrev is_gone : Phase → Bool
is_gone Absent = false
is_gone Up = false
is_gone Leaving = false
is_gone Gone = true

gone_is : (phase : Phase) → IsGone (rank phase) → is_gone phase ≡ true
gone_is Absent h = let none : ⊥ = omega (arith, h) in absurd none
gone_is Up h = let none : ⊥ = omega (arith, h) in absurd none
gone_is Leaving h = let none : ⊥ = omega (arith, h) in absurd none
gone_is Gone h = refl

not_gone : (phase : Phase) → IsNotGone (rank phase) → is_gone phase ≡ false
not_gone Absent h = refl
not_gone Up h = refl
not_gone Leaving h = refl
not_gone Gone h = let none : ⊥ = omega (arith, h) in absurd none

-- what a port tells but for the calls that went through it
abbrev behind : Told → Told
behind t = record { calls = 0; counted = t.counted; plan = t.plan; bits = t.bits; last = None }

module _ {M C R G : Type 0} (m : Ghosts M C R G) (is_go is_done : R → Bool) where
  no_deeds : (did : List (Deed M C R G)) → entries_in did ≡ [] → did ≡ []
  no_deeds [] none = refl
  no_deeds (d ∷ did) none = absurd (not_none d.entry (entries_in did) none)

  abbrev closed_at : m.World → Option ℕ → Bool
  closed_at w None = false
  closed_at w (Some place) = is_gone (m.phase_of w place)

  -- What is done from a visit on, in this world, where the port tells this but for the calls that went through it; `later` is what comes behind the visit.
  abbrev behind_tell : Bool → List (Deed M C R G) → List (Deed M C R G)
  behind_tell true later = later
  behind_tell false later = []

  abbrev telling : m.World → Option ℕ → C → List (Deed M C R G) → List (Deed M C R G)
  telling w answer tell later = first_deed m w tell ∷ behind_tell (is_done (m.reply_of w 0 tell)) later

  abbrev behind_ask : Bool → Option Op → Visit C → m.World → Told → (m.World → Told → List (Deed M C R G)) → List (Deed M C R G)
  behind_ask false op v w t later = []
  behind_ask true None v w t later = []
  behind_ask true (Some op) v w t later = telling w (planned_for op t) (v.tell (planned_for op t)) (later (m.world_after w 0 (v.tell (planned_for op t))) (behind (called op t)))

  abbrev visiting : Bool → Visit C → m.World → Told → (m.World → Told → List (Deed M C R G)) → List (Deed M C R G)
  visiting true v w t later = first_deed m w v.refused ∷ []
  visiting false v w t later = first_deed m w v.ask ∷ behind_ask (is_go (m.reply_of w 0 v.ask)) v.op v (m.world_after w 0 v.ask) t later

  abbrev doing : m.World → Told → List (Option (Visit C)) → List (Deed M C R G)
  doing w t [] = []
  doing w t (None ∷ vs) = []
  doing w t (Some v ∷ vs) = visiting (closed_at w (m.refused_at v.refused)) v w t (λ w t. doing w t vs)

  -- a visit asks at the place of its record of a closed guard
  pub record IsPlaced (v : Visit C) : Type 0 where
    pub place : ℕ
    pub asks : m.place_of v.ask ≡ Some place
    pub refuses : m.refused_at v.refused ≡ Some place

  abbrev ArePlaced : List (Option (Visit C)) → Type 0
  ArePlaced [] = Unit {0}
  ArePlaced (None ∷ vs) = ArePlaced vs
  ArePlaced (Some v ∷ vs) = IsPlaced v × ArePlaced vs

  -- F: which answers follow of the driver behind
  module _ (F : Option Told → Op → Option ℕ → Type 0) (planned : (t : Told) (op : Op) (answer : Option ℕ) → F (Some t) op answer → answer ≡ planned_for op t) where
    -- all that may be done from these visits on is this
    abbrev Is : List (Option (Visit C)) → (m.World → Told → List (Deed M C R G)) → Type 0
    Is vs later = (w : m.World) (t : Told) (did : List (Deed M C R G)) (after : Option Told) → DidAlone m w did → Own is_go is_done vs (entries_in did)
        → (lacks_room (ending is_go is_done vs (entries_in did)) ≡ true → ⊥) → AskedFor F (Some t) vs (entries_in did) after → did ≡ later w (behind t)

    module _ (v : Visit C) (vs : List (Option (Visit C))) (later : m.World → Told → List (Deed M C R G)) (is_later : Is vs later) where
      tell_is : (b : Bool) (w : m.World) (t : Told) (did : List (Deed M C R G)) (after : Option Told) → DidAlone m w did → BehindTell is_go is_done (Own is_go is_done vs) b (entries_in did)
          → (lacks_room (if_done b (ending is_go is_done vs (entries_in did))) ≡ true → ⊥) → AskedFor F (Some t) vs (entries_in did) after → did ≡ behind_tell b (later w (behind t))
      tell_is true w t did after alone own room asked = is_later w t did after alone own room asked
      tell_is false w t did after alone own room asked = no_deeds did own

      -- the tell of what a planned driver answers
      told_is : (w : m.World) (t : Told) (op : Op) (d : Deed M C R G) (did : List (Deed M C R G)) (after : Option Told) → d.entry.call ≡ v.tell (planned_for op t) → DidAlone m w (d ∷ did)
          → BehindTell is_go is_done (Own is_go is_done vs) (is_done d.entry.reply) (entries_in did) → (lacks_room (if_done (is_done d.entry.reply) (ending is_go is_done vs (entries_in did))) ≡ true → ⊥)
          → AskedFor F (Some (called op t)) vs (entries_in did) after → d ∷ did ≡ behind_ask true (Some op) v w (behind t) later
      told_is w t op d did after tells alone own room asked =
          let tell : C = v.tell (planned_for op t) in
          let d_is : d ≡ first_deed m w tell = alone.0 ∙ ap (λ call. first_deed m w call) tells in
          let rest : did ≡ behind_tell (is_done d.entry.reply) (later (m.world_after w 0 d.entry.call) (behind (called op t)))
          = tell_is (is_done d.entry.reply) (m.world_after w 0 d.entry.call) (called op t) did after alone.2 own room asked in
          (λ i. d_is i ∷ rest i) ∙ (λ i. first_deed m w tell ∷ behind_tell (is_done (d_is i).entry.reply) (later (m.world_after w 0 (tells i)) (behind (called op t))))

      ask_is : (b : Bool) (w : m.World) (t : Told) (d : Deed M C R G) (did : List (Deed M C R G)) (after : Option Told) → DidAlone m w did → BehindAsk is_go is_done v (Own is_go is_done vs) b (entries_in did)
          → (lacks_room (ending is_go is_done (Some v ∷ vs) (entries_in (d ∷ did))) ≡ true → ⊥) → AskedFor F (Some t) (Some v ∷ vs) (entries_in (d ∷ did)) after → did ≡ behind_ask b v.op v w (behind t) later
      ask_is false w t d did after alone own room asked = no_deeds did own
      ask_is true w t d [] after alone own room asked = absurd own
      ask_is true w t d (e ∷ did) after alone own room (op, answer, op_is, tells, follows, asked) =
          let answer_is : answer ≡ planned_for op t = planned t op answer follows in
          told_is w t op e did after (tells ∙ ap (λ a. v.tell a) answer_is) alone own.2 room (subst (λ (a : Option ℕ). AskedFor F (with_call op a (Some t)) vs (entries_in did) after) answer_is asked)
          ∙ ap (λ (o : Option Op). behind_ask true o v w (behind t) later) (sym op_is)

      visit_is : IsPlaced v → Is (Some v ∷ vs) (λ w t. visiting (closed_at w (m.refused_at v.refused)) v w t later)
      visit_is placed w t [] after alone own room asked = absurd (room refl)
      visit_is placed w t (d ∷ did) after alone (inl own) room asked =
          let gone : closed_at w (m.refused_at v.refused) ≡ true
          = ap (λ o. closed_at w o) placed.refuses ∙ gone_is (m.phase_of w placed.place) (alone.1.refused placed.place (ap (λ call. m.refused_at call) own.0 ∙ placed.refuses)) in
          (λ i. (alone.0 ∙ ap (λ call. first_deed m w call) own.0) i ∷ no_deeds did own.1 i) ∙ ap (λ b. visiting b v w (behind t) later) (sym gone)
      visit_is placed w t (d ∷ did) after alone (inr own) room asked =
          let here : closed_at w (m.refused_at v.refused) ≡ false
          = ap (λ o. closed_at w o) placed.refuses ∙ not_gone (m.phase_of w placed.place) (alone.1.let_in placed.place (ap (λ call. m.place_of call) own.0 ∙ placed.asks)) in
          let d_is : d ≡ first_deed m w v.ask = alone.0 ∙ ap (λ call. first_deed m w call) own.0 in
          let rest : did ≡ behind_ask (is_go d.entry.reply) v.op v (m.world_after w 0 d.entry.call) (behind t) later
          = ask_is (is_go d.entry.reply) (m.world_after w 0 d.entry.call) t d did after alone.2 own.1 room asked in
          (λ i. d_is i ∷ rest i) ∙ ((λ i. first_deed m w v.ask ∷ behind_ask (is_go (d_is i).entry.reply) v.op v (m.world_after w 0 (own.0 i)) (behind t) later) ∙ ap (λ b. visiting b v w (behind t) later) (sym here))

    is_doing : (vs : List (Option (Visit C))) → ArePlaced vs → Is vs (λ w t. doing w t vs)
    is_doing [] placed w t did after alone own room asked = no_deeds did own
    is_doing (None ∷ vs) placed w t did after alone own room asked = no_deeds did own
    is_doing (Some v ∷ vs) placed w t did after alone own room asked = visit_is v vs (λ w t. doing w t vs) (is_doing vs placed.1) placed.0 w t did after alone own room asked

-- the visits of an operation
visits_placed : (op : Op) (found : List Route) → ArePlaced core is_go is_done (visits_on op found)
visits_placed op [] = tt
visits_placed op (route ∷ found) = elim (command_to route.target op (lines_on op route)) as (λ o. ArePlaced core is_go is_done (visit_if route.target.lines o ∷ visits_on op found)) [
  | None ↦ visits_placed op found
  | Some c ↦ (record { place = c.place; asks = refl; refuses = refl }, visits_placed op found)
]

-- what is done goes by what the port tells but for the calls that went through it
abbrev behind_or : Told → Option Told → Told
behind_or t None = t
behind_or t (Some x) = behind x

same_behind : (inner t : Told) → SameBehind (Some inner) (Some t) → behind inner ≡ behind t
same_behind inner t same = ap (λ (o : Option Told). behind_or t o) (same 0 None)

abbrev is_none : Option Told → Type 0
is_none None = Unit {0}
is_none (Some x) = ⊥

module _ (is_planned : Bool) (Follows : Option Told → Op → List OneDeed → ℕ → ℕ → Option ℕ → Type 0)
    (follows_plan : is_planned ≡ true → (t : Told) (op : Op) (did : List OneDeed) (room seen : ℕ) (answer : Option ℕ) → Follows (Some t) op did room seen answer → answer ≡ planned_for op t) (planned : is_planned ≡ true)
    (w : World) (map : Map) (op : Op) (t : Told) (room : ℕ) where
  does : (did : List OneDeed) (answer : Option ℕ) → DoesAlone Follows w map op t room did answer → did ≡ doing core is_go is_done w (behind t) (visits map op)
  does did answer a = does_behind a.follows.1.0 a.follows.1.1 a.follows.1.2 a.follows.1.3
    where
      does_behind : (inner after : Option Told) → SameBehind inner (Some t) → AskedFor (FollowsBehind Follows room a.seen) inner (visits map op) (entries_in did) after → did ≡ doing core is_go is_done w (behind t) (visits map op)
      does_behind (Some x) after same asked =
          is_doing core is_go is_done (FollowsBehind Follows room a.seen) (λ x asked_op said f. follows_plan planned x asked_op [] room f.0 said f.2) (visits map op) (visits_placed op (routes map op)) w x did after a.alone a.own
          (λ full. (let le : room ≤ a.seen = a.follows.0.full full in let within : a.seen < room = a.within in omega (arith, le, within))) asked
          ∙ ap (λ x. doing core is_go is_done w x (visits map op)) (same_behind x t same)
      does_behind None after same asked = absurd (subst is_none (same 0 None) tt)

  one_thing : (did other : List OneDeed) (answer another : Option ℕ) → DoesAlone Follows w map op t room did answer → DoesAlone Follows w map op t room other another → (did ≡ other) × (answer ≡ another)
  one_thing did other answer another a b =
      let same : did ≡ other = does did answer a ∙ sym (does other another b) in
      (same, a.follows.0.answer_is ∙ (ap (λ (l : List OneDeed). answer_by is_go is_done (gather map op) (visits map op) l) same ∙ sym b.follows.0.answer_is))

pub does_one_thing : (is_planned : Bool) (Follows : Option Told → Op → List OneDeed → ℕ → ℕ → Option ℕ → Type 0)
    → (is_planned ≡ true → (t : Told) (op : Op) (did : List OneDeed) (room seen : ℕ) (answer : Option ℕ) → Follows (Some t) op did room seen answer → answer ≡ planned_for op t) → DoesOneThing is_planned Follows
does_one_thing is_planned Follows follows_plan planned w map op t room = one_thing is_planned Follows follows_plan planned w map op t room
