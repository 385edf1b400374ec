-- The entries of whole calls of the device leave no claim unfinished.
use Rattle.std.proofs.Common.{◌≡◌, ◌≤◌, ℕ, List, [], ◌∷◌, ◌++◌, length, refl, sym, ap, ◌∙◌, subst, eq-eqb, Bool, true, false, cond, Option, Some, None, arith}
use Rattle.std.specs.Prelude.{is_some}
use Rattle.std.specs.List.{filter, find}
use Rattle.std.proofs.lemmas.Bool.{true≢false}
use Rattle.gl_base.specs.Rows.{Each}
use Rattle.gl_uapi.specs.Command.{command_of}
use Rattle.gl_uapi.specs.declared.commands.Command.{Command}
use Rattle.gl_uapi.specs.declared.commands.Command.TheVariants.{ChipInfo, LineInfo, Watch, Unwatch, GetLine, SetConfig, GetValues, SetValues}
use Rattle.gl_world.specs.History.{entries_of, entry}
use Rattle.gl_world.specs.declared.history.Entry.{Entry}
use Rattle.gl_model.specs.declared.call.Call.{Call}
use Rattle.gl_model.specs.declared.call.Call.TheVariants.{Ioctl, Refused as RefusedCall}
use Rattle.gl_model.specs.declared.call.Part.TheVariants.{Ask, Tell}
use Rattle.gl_model.specs.declared.gift.Gift.{Gift}
use Rattle.gl_model.specs.declared.reply.Reply.{Reply}
use Rattle.gl_model.specs.Calling.{AreOfCalls, AreOfCallsSoFar, Called, IsCalled, made_by}
use Rattle.gl_model.specs.Claiming.{is_claim_of}
use Rattle.gl_model.specs.Entries.{begins, is_go, last_call, is_get_line, is_get_line_call}
use Rattle.gl_model.specs.Machine.{IsLegal, world_of}
use Rattle.gl_model.specs.OneClaim.{CallsFinishClaims, claims_of, first_get_line, is_ask_call, is_tell_at}
use Rattle.gl_model.specs.declared.device_call.DeviceCall.{DeviceCall}
use Rattle.gl_model.specs.declared.device_call.DeviceCall.TheVariants.{Once, Removing, Commanding}
use Rattle.gl_model.specs.declared.device_call.CommandIn.{CommandIn}
use Rattle.gl_model.specs.declared.device_call.RemovalOf.{RemovalOf}
use Rattle.gl_model.specs.declared.device_call.RemovalOf.TheVariants.{OfChip, OfDevice}
use Rattle.gl_model.specs.Parts.{MakesAt, MakesCommand, MakesInside, MakesRest, first_call, guard_of, in_ask, in_tell, in_whole, is_driver_asked, device_has, is_poll, is_single}
use Rattle.gl_model.specs.Step.{guard_reply}
use Rattle.gl_model.specs.World.{World, Request, opening}
use Rattle.gl_model.proofs.Claims.{one_claim}
use Rattle.gl_model.proofs.Finishing.{IsAt, Leads, Moves, StandsAt, asks, leads_claims, passes, tell_answers, tells, whole}
use Rattle.gl_model.proofs.HoldersLaw.{holders_always_agree, opens}
use Rattle.gl_model.proofs.Leading.{leads_on, leads_to}
use Rattle.gl_model.proofs.Phases.{same_number, some_none}

module _ {K : Type 0} (stands_for : K → World → Type 0) where
  -- no entry is a command GET_LINE
  abbrev NonePasses : List (Entry K Call Reply Gift) → Type 0
  NonePasses es = Each (λ (e : Entry K Call Reply Gift). is_get_line_call e.call ≡ false) es

  others_lead : (at : Option ℕ) (es : List (Entry K Call Reply Gift)) → NonePasses es → Leads at es at
  others_lead at [] others = refl
  others_lead at (e ∷ es) others = (at, passes others.0 refl, others_lead at es others.1)

  single_is_other : (call : Call) → is_single call ≡ true → is_get_line_call call ≡ false
  single_is_other (Ioctl place fd cmd len bytes part) e = absurd (true≢false (sym e))
  single_is_other _ e = refl

  get_line_named : (command : Option Command) → is_get_line command ≡ true → command ≡ Some GetLine
  get_line_named None e = absurd (true≢false (sym e))
  get_line_named (Some ChipInfo) e = absurd (true≢false (sym e))
  get_line_named (Some LineInfo) e = absurd (true≢false (sym e))
  get_line_named (Some Watch) e = absurd (true≢false (sym e))
  get_line_named (Some Unwatch) e = absurd (true≢false (sym e))
  get_line_named (Some GetLine) e = refl
  get_line_named (Some SetConfig) e = absurd (true≢false (sym e))
  get_line_named (Some GetValues) e = absurd (true≢false (sym e))
  get_line_named (Some SetValues) e = absurd (true≢false (sym e))

  module _ (actor : ℕ) where
    -- the entries after a first one that is no command GET_LINE, where the second is none
    rest_is_other : (second : Call) (own rest : List (Entry K Call Reply Gift)) (b : Bool) → is_get_line_call second ≡ false → NonePasses own → MakesRest actor b second own rest → NonePasses rest
    rest_is_other second own rest false other others makes = subst NonePasses (sym makes.0) tt
    rest_is_other second own rest true other others makes = subst NonePasses (sym makes.1) (with_last own others)
      where
        with_last : (es : List (Entry K Call Reply Gift)) → NonePasses es → NonePasses (es ++ entry actor second makes.0 ∷ [])
        with_last [] h = (other, tt)
        with_last (e ∷ es) h = (h.0, with_last es h.1)

    removal_is_other : (removal : RemovalOf) → (is_get_line_call (first_call removal) ≡ false) × (is_get_line_call (last_call (first_call removal)) ≡ false)
    removal_is_other (OfChip place) = (refl, refl)
    removal_is_other (OfDevice device) = (refl, refl)

    -- a command that isn't GET_LINE
    other_leads : (asked : Bool) (answer : Option ℕ) (c : CommandIn) (own made : List (Entry K Call Reply Gift)) → is_get_line (command_of c.cmd) ≡ false → NonePasses own
        → MakesCommand actor asked answer c own made → Leads None made None
    other_leads false answer c own made other others makes = subst (λ es. Leads None es None) (sym makes.0.1) (others_lead None (entry actor (in_whole c) makes.0.0 ∷ []) (other, tt))
    other_leads true answer c own made other others makes = subst (λ es. Leads None es None) (sym makes.2)
        (others_lead None (entry actor (in_ask c) makes.0 ∷ makes.1) (other, rest_is_other (in_tell answer c) own makes.1 (begins (in_ask c) makes.0) other others makes.3))

    -- what follows an ask of GET_LINE
    told_leads : (answer : Option ℕ) (c : CommandIn) (own rest : List (Entry K Call Reply Gift)) (b : Bool) → command_of c.cmd ≡ Some GetLine → NonePasses own
        → MakesRest actor b (in_tell answer c) own rest → Leads (cond b (Some c.place) None) rest None
    told_leads answer c own rest false command others makes = subst (λ es. Leads None es None) (sym makes.0) refl
    told_leads answer c own rest true command others makes = subst (λ es. Leads (Some c.place) es None) (sym makes.1)
        (leads_on Moves (Some c.place) (Some c.place) None own (entry actor (in_tell answer c) makes.0 ∷ []) (others_lead (Some c.place) own others)
        (None, tells c answer command refl refl refl, refl))

    get_line_leads : (asked : Bool) (answer : Option ℕ) (c : CommandIn) (own made : List (Entry K Call Reply Gift)) → command_of c.cmd ≡ Some GetLine → NonePasses own
        → MakesCommand actor asked answer c own made → Leads None made None
    get_line_leads false answer c own made command others makes = subst (λ es. Leads None es None) (sym makes.0.1) (None, whole c command refl refl refl, refl)
    get_line_leads true answer c own made command others makes = subst (λ es. Leads None es None) (sym makes.2)
        (cond (is_go makes.0) (Some c.place) None, asks c command refl refl refl, told_leads answer c own makes.1 (is_go makes.0) command others makes.3)

    command_leads : (asked : Bool) (answer : Option ℕ) (c : CommandIn) (own made : List (Entry K Call Reply Gift)) → NonePasses own → MakesCommand actor asked answer c own made → Leads None made None
    command_leads asked answer c own made others makes = elim (is_get_line (command_of c.cmd)) as (λ b. is_get_line (command_of c.cmd) ≡ b → Leads None made None) [
      | true ↦ (λ is. get_line_leads asked answer c own made (get_line_named (command_of c.cmd) is) others makes)
      | false ↦ (λ other. other_leads asked answer c own made other others makes)
    ] refl

    inside_leads : (call : DeviceCall) (answer : Option ℕ) (own made : List (Entry K Call Reply Gift)) → device_has call ≡ true → NonePasses own
        → MakesInside actor call answer own made → Leads None made None
    inside_leads (Once call) answer own made is others makes = subst (λ es. Leads None es None) (sym makes.0.1) (others_lead None (entry actor call makes.0.0 ∷ []) (single_is_other call is, tt))
    inside_leads (Removing removal) answer own made is others makes = subst (λ es. Leads None es None) (sym makes.0.2)
        (others_lead None (entry actor (first_call removal) makes.0.0 ∷ makes.0.1)
        ((removal_is_other removal).0, rest_is_other (last_call (first_call removal)) [] makes.0.1 (begins (first_call removal) makes.0.0) (removal_is_other removal).1 tt makes.0.3))
    inside_leads (Commanding c) answer own made is others makes = command_leads (is_driver_asked c.of_chip c.len (command_of c.cmd)) answer c own made others makes

    guard_leads : (guard : Option ℕ) (closed : Bool) (call : DeviceCall) (answer : Option ℕ) (own made : List (Entry K Call Reply Gift)) → device_has call ≡ true
        → NonePasses own → MakesAt actor guard closed call answer own made → Leads None made None
    guard_leads None closed call answer own made is others makes = inside_leads call answer own made is others makes
    guard_leads (Some place) false call answer own made is others makes = inside_leads call answer own made is others makes
    guard_leads (Some place) true call answer own made is others makes = subst (λ es. Leads None es None) (sym makes.0)
        (others_lead None (entry actor (RefusedCall place (is_poll call)) (guard_reply (is_poll call)) ∷ []) (refl, tt))

    calls_lead : (calls : List (Called K)) → Each (IsCalled stands_for actor) calls → Leads None (made_by calls) None
    calls_lead [] each = refl
    calls_lead (called ∷ later) each = leads_on Moves None None None called.made (made_by later)
        (guard_leads (guard_of called.call) called.closed called.call called.answer called.own called.made each.0.makes.0 each.0.no_claims each.0.makes.1) (calls_lead later each.1)

    all_lead : (entries : List (Entry K Call Reply Gift)) → AreOfCalls stands_for actor entries → Leads None entries None
    all_lead entries calls = subst (λ es. Leads None es None) (sym calls.are) (calls_lead calls.calls calls.each)

  -- where a claim goes on, the next GET_LINE is the tell at its place
  told_next : (place : ℕ) (e : Entry K Call Reply Gift) (es : List (Entry K Call Reply Gift)) (next : Option ℕ) → (Leads (Some place) es None → is_tell_at place (first_get_line es) ≡ true)
      → Moves (Some place) e next → Leads next es None → is_tell_at place (first_get_line (e ∷ es)) ≡ true
  told_next place e es next later (passes other same) leads =
      ap (λ b. is_tell_at place (cond b (Some e.call) (first_get_line es))) other ∙ later (subst (λ s. Leads s es None) (sym same) leads)
  told_next place e es next later (whole c command call before after) leads = absurd (some_none place before)
  told_next place e es next later (asks c command call before after) leads = absurd (some_none place before)
  told_next place e es next later (tells c answer command call before after) leads =
      let is : is_get_line_call e.call ≡ true = ap is_get_line_call call ∙ ap is_get_line command in
      let same : place ≡ c.place = cc in
      ap (λ b. is_tell_at place (cond b (Some e.call) (first_get_line es))) is ∙ ap (λ k. is_tell_at place (Some k)) call ∙ eq-eqb c.place place (sym same)

  tells_next : (place : ℕ) (es : List (Entry K Call Reply Gift)) → Leads (Some place) es None → is_tell_at place (first_get_line es) ≡ true
  tells_next place [] leads = absurd (some_none place leads)
  tells_next place (e ∷ es) leads = told_next place e es leads.0 (tells_next place es) leads.1 leads.2

  -- no call asks and tells
  asks_or_tells : (place : ℕ) (call : Option Call) → is_ask_call call ≡ true → is_tell_at place call ≡ true → ⊥
  asks_or_tells place (Some (Ioctl at fd cmd len bytes Ask)) ask tell = true≢false (sym tell)
  asks_or_tells place _ ask tell = true≢false (sym ask)

  no_claims : (claims : List Request) → Each (IsAt None) claims → claims ≡ []
  no_claims [] none = refl
  no_claims (claim ∷ claims) none = absurd none.0

  awaits_tells : (at : Option ℕ) (es : List (Entry K Call Reply Gift)) → Leads at es None → (claims : List Request) → Each (IsAt at) claims
      → Each (λ (claim : Request). is_tell_at claim.place (first_get_line es) ≡ true) claims
  awaits_tells at es leads [] all = tt
  awaits_tells None es leads (claim ∷ claims) all = absurd all.0
  awaits_tells (Some place) es leads (claim ∷ claims) all = (ap (λ p. is_tell_at p (first_get_line es)) all.0 ∙ tells_next place es leads, awaits_tells (Some place) es leads claims all.1)

  asks_free : (at : Option ℕ) (es : List (Entry K Call Reply Gift)) → Leads at es None → is_ask_call (first_get_line es) ≡ true → (claims : List Request) → Each (IsAt at) claims → claims ≡ []
  asks_free None es leads ask claims all = no_claims claims all
  asks_free (Some place) es leads ask claims all = absurd (asks_or_tells place (first_get_line es) ask (tells_next place es leads))

  -- where no claim goes on, the next GET_LINE is no tell
  no_tell : (place : ℕ) (e : Entry K Call Reply Gift) (es : List (Entry K Call Reply Gift)) (next : Option ℕ) → (Leads None es None → is_tell_at place (first_get_line es) ≡ false)
      → Moves None e next → Leads next es None → is_tell_at place (first_get_line (e ∷ es)) ≡ false
  no_tell place e es next later (passes other same) leads =
      ap (λ b. is_tell_at place (cond b (Some e.call) (first_get_line es))) other ∙ later (subst (λ s. Leads s es None) (sym same) leads)
  no_tell place e es next later (whole c command call before after) leads =
      ap (λ b. is_tell_at place (cond b (Some e.call) (first_get_line es))) (ap is_get_line_call call ∙ ap is_get_line command) ∙ ap (λ k. is_tell_at place (Some k)) call
  no_tell place e es next later (asks c command call before after) leads =
      ap (λ b. is_tell_at place (cond b (Some e.call) (first_get_line es))) (ap is_get_line_call call ∙ ap is_get_line command) ∙ ap (λ k. is_tell_at place (Some k)) call
  no_tell place e es next later (tells c answer command call before after) leads = absurd (some_none c.place (sym before))

  no_tell_next : (place : ℕ) (es : List (Entry K Call Reply Gift)) → Leads None es None → is_tell_at place (first_get_line es) ≡ false
  no_tell_next place [] leads = refl
  no_tell_next place (e ∷ es) leads = no_tell place e es leads.0 (no_tell_next place es) leads.1 leads.2

  first_is_get_line : (es : List (Entry K Call Reply Gift)) (call : Call) → first_get_line es ≡ Some call → is_get_line_call call ≡ true
  first_is_get_line [] call h = absurd (some_none call (sym h))
  first_is_get_line (e ∷ es) call h = elim (is_get_line_call e.call) as (λ b. is_get_line_call e.call ≡ b → cond b (Some e.call) (first_get_line es) ≡ Some call → is_get_line_call call ≡ true) [
    | true ↦ (λ is same. let call_is : e.call ≡ call = cc in subst (λ k. is_get_line_call k ≡ true) call_is is)
    | false ↦ (λ other later. first_is_get_line es call later)
  ] refl h

  -- where a row passes, some rows pass; and a claim at most is the only one
  some_claims : (u : Request → Bool) (rows : List Request) → is_some (find u rows) ≡ true → filter u rows ≡ [] → ⊥
  some_claims u [] h e = true≢false (sym h)
  some_claims u (x ∷ rows) h e = elim (u x) as (λ b. is_some (cond b (Some x) (find u rows)) ≡ true → cond b (x ∷ filter u rows) (filter u rows) ≡ [] → ⊥) [
    | true ↦ (λ is none. let n : length (x ∷ filter u rows) ≡ 0 = ap (λ (l : List Request). length l) none in omega (arith, n))
    | false ↦ (λ later none. some_claims u rows later none)
  ] h e

  abbrev TheOnly : ℕ → List Request → Type 0
  TheOnly place claims = (claim : Request) × (claims ≡ claim ∷ []) × (claim.place ≡ place)

  the_only : (place : ℕ) (claims : List Request) → length claims ≤ 1 → Each (IsAt (Some place)) claims → (claims ≡ [] → ⊥) → TheOnly place claims
  the_only place [] one at some = absurd (some refl)
  the_only place (claim ∷ []) one at some = (claim, refl, at.0)
  the_only place (claim ∷ other ∷ claims) one at some = absurd (omega arith)

  -- where the next GET_LINE is a tell at a place, the claim is there
  tell_has_claim : (a : ℕ) (w : World) (at : Option ℕ) (es : List (Entry K Call Reply Gift)) (place fd cmd len : ℕ) (bytes : List ℕ) (answer : Option ℕ) → Leads at es None
      → first_get_line es ≡ Some (Ioctl place fd cmd len bytes (Tell answer)) → length (claims_of a w) ≤ 1 → StandsAt a at w.requests → TheOnly place (claims_of a w)
  tell_has_claim a w None es place fd cmd len bytes answer leads first one at =
      absurd (true≢false (sym (eq-eqb place place refl) ∙ (sym (ap (is_tell_at place) first) ∙ no_tell_next place es leads)))
  tell_has_claim a w (Some other) es place fd cmd len bytes answer leads first one at =
      let same : other ≡ place = sym (same_number place other (sym (ap (is_tell_at other) first) ∙ tells_next other es leads)) in
      the_only place (claims_of a w) one (subst (λ p. Each (IsAt (Some p)) (claims_of a w)) same at.0) (some_claims (is_claim_of a) w.requests at.1)

  after : (history : List (Entry K Call Reply Gift)) (actor : ℕ) (at : Option ℕ) → IsLegal stands_for history → Leads None (entries_of actor history) at
      → StandsAt actor at (world_of stands_for history).requests
  after history actor at legal leads = leads_claims stands_for actor opening history None at opens (λ a. omega arith) legal.0 leads (tt, tt)

  abbrev Now : List (Entry K Call Reply Gift) → List (Entry K Call Reply Gift) → Type 0
  Now entries to_come = (at : Option ℕ) × Leads None entries at × Leads at to_come None

  now_in : (actor : ℕ) (entries : List (Entry K Call Reply Gift)) (calls : AreOfCallsSoFar stands_for actor entries) → Now entries calls.to_come
  now_in actor entries calls = leads_to Moves None None entries calls.to_come (all_lead actor (entries ++ calls.to_come) calls.whole)

  pub calls_finish_claims : CallsFinishClaims stands_for
  calls_finish_claims = record {
    between_calls = λ history legal actor calls. no_claims (claims_of actor (world_of stands_for history)) (after history actor None legal (all_lead actor (entries_of actor history) calls)).0;
    before_an_ask = λ history legal actor calls ask.
        let now = now_in actor (entries_of actor history) calls in
        asks_free now.0 calls.to_come now.2 ask (claims_of actor (world_of stands_for history)) (after history actor now.0 legal now.1).0;
    during_a_call = λ history legal actor calls.
        let now = now_in actor (entries_of actor history) calls in
        awaits_tells now.0 calls.to_come now.2 (claims_of actor (world_of stands_for history)) (after history actor now.0 legal now.1).0;
    before_a_tell = λ history legal actor calls place fd cmd len bytes answer first.
        let now = now_in actor (entries_of actor history) calls in
        let stands = after history actor now.0 legal now.1 in
        let claimed = tell_has_claim actor (world_of stands_for history) now.0 calls.to_come place fd cmd len bytes answer now.2 first (one_claim stands_for history legal actor) stands in
        let command = get_line_named (command_of cmd) (first_is_get_line calls.to_come (Ioctl place fd cmd len bytes (Tell answer)) first) in
        record {
          claim = claimed.0;
          is_only = claimed.1;
          is_here = claimed.2;
          is_told = tell_answers actor (world_of stands_for history) place fd cmd len bytes answer claimed.0 (holders_always_agree stands_for history legal).numbers_differ command claimed.1 claimed.2;
        };
  }
