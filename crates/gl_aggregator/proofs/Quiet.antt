-- The own entries of an aggregator have nothing to do with removals, and request no lines.
use Rattle.std.proofs.Common.{◌≡◌, ℕ, Bool, true, false, List, [], ◌∷◌, Option, Some, None, inl, inr, sym, refl, subst}
use Rattle.std.specs.Prelude.{if◌then◌else◌}
use Rattle.gl_base.specs.declared.lines.Lines.{Lines}
use Rattle.gl_base.specs.declared.op.Op.{Op}
use Rattle.gl_base.specs.declared.op.Op.TheVariants.{Apply, Get, Set}
use Rattle.gl_core.specs.Device.{MayOwn, OneEntry}
use Rattle.gl_driver.specs.declared.map.Target.{Target}
use Rattle.gl_model.specs.Entries.{begun_places, is_done, is_get_line, is_get_line_call, is_go, is_last_removal}
use Rattle.gl_model.specs.declared.call.Call.{Call}
use Rattle.gl_model.specs.declared.device_call.CommandIn.{CommandIn}
use Rattle.gl_model.specs.declared.reply.Reply.{Reply}
use Rattle.gl_uapi.specs.Command.{command_of}
use Rattle.gl_uapi.specs.NewRequest.{new_config_bytes}
use Rattle.gl_base.specs.declared.command.TheConstants.{LINE_SET_CONFIG}
use Rattle.gl_aggregator.specs.Commands.{attributes_to, command_by, command_to, fit, flag_words, on_target, visit_by, visit_if, visits_on}
use Rattle.gl_aggregator.specs.Own.{BehindAsk, BehindTell, Own, Visit}
use Rattle.gl_aggregator.specs.Quiet.{OwnEntriesAreQuiet}
use Rattle.gl_aggregator.specs.Routes.{LineAt, lines_on, routes}
use Rattle.gl_aggregator.specs.declared.routes.Route.{Route}

-- a call that begins no removal, ends none, and requests no lines
pub record IsCalm (call : Call) : Type 0 where
  pub begins : (reply : Reply) (bytes : List ℕ) → begun_places call reply bytes ≡ []
  pub ends : is_last_removal call ≡ false
  pub claims : is_get_line_call call ≡ false

pub record IsCalmVisit (v : Visit Call) : Type 0 where
  pub ask : IsCalm v.ask
  pub tell : (answer : Option ℕ) → IsCalm (v.tell answer)
  pub refused : IsCalm v.refused

abbrev AreCalm : List (Option (Visit Call)) → Type 0
AreCalm [] = Unit {0}
AreCalm (None ∷ vs) = AreCalm vs
AreCalm (Some v ∷ vs) = IsCalmVisit v × AreCalm vs

quiet_none : (es : List OneEntry) → es ≡ [] → MayOwn es
quiet_none es none = subst (λ (l : List OneEntry). MayOwn l) (sym none) (record { quiet = tt; no_claims = tt })

one_more : (e : OneEntry) (es : List OneEntry) (call : Call) → e.call ≡ call → IsCalm call → MayOwn es → MayOwn (e ∷ es)
one_more e es call is calm later = let here : IsCalm e.call = subst (λ (c : Call). IsCalm c) (sym is) calm in record {
  quiet = ((λ bytes. here.begins e.reply bytes, here.ends), later.quiet);
  no_claims = (here.claims, later.no_claims);
}

behind_tell : (later : List OneEntry → Type 0) → ((es : List OneEntry) → later es → MayOwn es) → (b : Bool) (es : List OneEntry) → BehindTell is_go is_done later b es → MayOwn es
behind_tell later quiet true es h = quiet es h
behind_tell later quiet false es h = quiet_none es h

behind_ask : (v : Visit Call) (later : List OneEntry → Type 0) → IsCalmVisit v → ((es : List OneEntry) → later es → MayOwn es) → (b : Bool) (es : List OneEntry) → BehindAsk is_go is_done v later b es → MayOwn es
behind_ask v later calm quiet false es h = quiet_none es h
behind_ask v later calm quiet true [] h = absurd h
behind_ask v later calm quiet true (e ∷ es) (answer, tells, rest) = one_more e es (v.tell answer) tells (calm.tell answer) (behind_tell later quiet (is_done e.reply) es rest)

own_quiet : (vs : List (Option (Visit Call))) → AreCalm vs → (es : List OneEntry) → Own is_go is_done vs es → MayOwn es
own_quiet [] calm es own = quiet_none es own
own_quiet (None ∷ vs) calm es own = quiet_none es own
own_quiet (Some v ∷ vs) calm [] own = record { quiet = tt; no_claims = tt }
own_quiet (Some v ∷ vs) calm (e ∷ es) (inl (is, none)) = one_more e es v.refused is calm.0.refused (quiet_none es none)
own_quiet (Some v ∷ vs) calm (e ∷ es) (inr (is, behind)) = one_more e es v.ask is calm.0.ask (behind_ask v (Own is_go is_done vs) calm.0 (own_quiet vs calm.1) (is_go e.reply) es behind)

-- the commands that an aggregator makes

abbrev NoRequest : Option CommandIn → Type 0
NoRequest None = Unit {0}
NoRequest (Some c) = is_get_line (command_of c.cmd) ≡ false

no_request : (target : Target) (op on : Op) (ls : List LineAt) → NoRequest (command_by target op on ls)
no_request target op (Get lines) ls = refl
no_request target op (Set lines mask bits) ls = refl
no_request target op (Apply lines settings) ls = elim (fit (flag_words op ls)) as (λ b. NoRequest (if b then Some (on_target target LINE_SET_CONFIG (new_config_bytes 0 (attributes_to op ls))) else None)) [
  | true ↦ refl
  | false ↦ tt
]

visit_calm : (lines : Lines) (c : CommandIn) → is_get_line (command_of c.cmd) ≡ false → IsCalmVisit (visit_by lines c)
visit_calm lines c none = record {
  ask = record { begins = λ reply bytes. refl; ends = refl; claims = none };
  tell = λ answer. record { begins = λ reply bytes. refl; ends = refl; claims = none };
  refused = record { begins = λ reply bytes. refl; ends = refl; claims = refl };
}

visits_calm : (op : Op) (found : List Route) → AreCalm (visits_on op found)
visits_calm op [] = tt
visits_calm op (route ∷ found) = elim (command_to route.target op (lines_on op route)) as (λ o. NoRequest o → AreCalm (visit_if route.target.lines o ∷ visits_on op found)) [
  | None ↦ (λ none. visits_calm op found)
  | Some c ↦ (λ none. (visit_calm route.target.lines c none, visits_calm op found))
] (no_request route.target op op (lines_on op route))

pub own_entries_are_quiet : OwnEntriesAreQuiet
own_entries_are_quiet None op own is = quiet_none own is
own_entries_are_quiet (Some map) op own is = own_quiet (visits_on op (routes map op)) (visits_calm op (routes map op)) own is
