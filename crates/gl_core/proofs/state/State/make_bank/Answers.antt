use Rattle.std.proofs.Common.{◌≡◌, ◌<◌, ◌++◌, ◌∷◌, [], List, ℕ, length, ap, sym, subst, ◌∙◌, Some}
use Rattle.std.specs.Prelude.{slice_get}
use Rattle.gl_base.specs.declared.kind.Kind.TheVariants.{Simulated}
use Rattle.gl_base.specs.declared.limits.TheConstants.{PLACES}
use Rattle.gl_registry.specs.Chips.{new_chip}
use Rattle.gl_registry.specs.declared.registry.Chip.{Chip}
use Rattle.gl_simtree.specs.Rows.{banks_of}
use Rattle.gl_model.specs.declared.place.Origin.{Origin}
use Rattle.gl_model.specs.declared.place.Place.{Place}
use Rattle.gl_model.specs.Chips.{new_origin, new_place}
use Rattle.gl_core.specs.Kept.{Kept}
use Rattle.gl_core.specs.Live.{Planned, furnished, planned, with_planned}
use Rattle.gl_core.specs.Shape.{IsShaped}
use Rattle.gl_core.specs.View.{view_of}
use Rattle.gl_core.proofs.GoingLive.{furnished_lines, opened_last, shape_more}
use Rattle.gl_core.proofs.state.State.make_bank.Goals as goal

pub invariant_of-self-in-Ok : goal.invariant_of-self-in-Ok
invariant_of-self-in-Ok c =
    let k : Kept = view_of c.self.inside in
    let plan : Planned = c.fill.new.self in
    let shape = c.self.invariant.0 in
    let chip : Chip = new_chip plan.label plan.lines in
    let origin : Origin = new_origin Simulated (Some c.args.device.now) in
    let place : Place = furnished plan (new_place plan.lines) in
    let chips : c.add.new.self ≡ k.chips ++ chip ∷ [] =
    c.in-Ok.ensures.chip ∙ ap (λ (l : List ℕ). k.chips ++ new_chip l c.lines.result ∷ []) c.label.ensures ∙ ap (λ (n : ℕ). k.chips ++ new_chip plan.label n ∷ []) c.lines.ensures in
    let places : c.furnish.new.self ≡ k.places ++ place ∷ [] =
    opened_last plan c.lines-in-Ok.result c.in-Ok.place k.places c.open.new.self c.furnish.new.self (c.in-Ok.ensures.place ∙ sym shape.places_as_many) c.lines-in-Ok.ensures c.open.ensures c.furnish.ensures in
    let room : length k.chips < PLACES = subst (λ (z : Kept). length z.chips < PLACES) (sym c.self.view_is) c.requires in (
      subst (λ (ps : List Place). IsShaped c.add.new.self c.push_within.new.items.items ps) (sym places)
          (subst (λ (os : List Origin). IsShaped c.add.new.self os (k.places ++ place ∷ [])) (sym c.push_within.ensures.items)
          (subst (λ (cs : List Chip). IsShaped cs (k.origins ++ origin ∷ []) (k.places ++ place ∷ [])) (sym chips)
          (shape_more k.chips k.origins k.places chip origin place room (furnished_lines plan plan.lines c.fill.ensures.few) shape))),
      record { room = c.push_within.ensures.capacity ∙ c.self.invariant.1.room; clock = c.self.invariant.1.clock },
    )

pub returns-in-Ok : goal.returns-in-Ok
returns-in-Ok c =
    let k : Kept = view_of c.self.inside in
    let plan : Planned = c.fill.new.self in
    let after : Kept = with_planned c.args.device.now plan k in
    let chips : c.add.new.self ≡ after.chips =
    c.in-Ok.ensures.chip ∙ ap (λ (l : List ℕ). k.chips ++ new_chip l c.lines.result ∷ []) c.label.ensures ∙ ap (λ (n : ℕ). k.chips ++ new_chip plan.label n ∷ []) c.lines.ensures in
    let places : c.furnish.new.self ≡ after.places =
    opened_last plan c.lines-in-Ok.result c.in-Ok.place k.places c.open.new.self c.furnish.new.self (c.in-Ok.ensures.place ∙ sym c.self.invariant.0.places_as_many) c.lines-in-Ok.ensures c.open.ensures c.furnish.ensures in
    ap (λ (cs : List Chip). record k { chips = cs; origins = c.push_within.new.items.items; places = c.furnish.new.self }) chips
    ∙ ap (λ (os : List Origin). record k { chips = after.chips; origins = os; places = c.furnish.new.self }) c.push_within.ensures.items
    ∙ ap (λ (ps : List Place). record after { places = ps }) places
    ∙ ap (λ (p : Planned). with_planned c.args.device.now p k) c.fill.ensures.plan
    ∙ ap (λ (z : Kept). with_planned c.args.device.now (planned (slice_get (banks_of c.args.device.now z.tree) c.args.bank) z.tree) z) c.self.view_is
