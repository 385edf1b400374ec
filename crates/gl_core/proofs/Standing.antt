-- What the core stands for after a change.
use Rattle.std.proofs.Common.{◌≡◌, List, Option, Some, None, sym, ap, ◌∙◌, subst, ℕ, zero, suc, [], ◌∷◌, refl}
use Rattle.std.specs.Prelude.{Result, nat_le, slice_index_or, slice_set}
use Rattle.gl_base.specs.Refusals.{answer, unless, first_of, when}
use Rattle.gl_base.specs.declared.errno.Errno.{Errno}
use Rattle.gl_simtree.specs.declared.row.TreeRow.{TreeRow}
use Rattle.gl_model.specs.declared.reply.Reply.{Reply}
use Rattle.gl_model.specs.Outcome.{Outcome, done, refused_or}
use Rattle.gl_model.specs.SoundRequests.{HasSoundRequests}
use Rattle.gl_model.specs.World.{World}
use Rattle.gl_core.specs.Kept.{Kept, StandsFor, kept_of}
use Rattle.gl_core.specs.Steps.{replied}
use Rattle.std.specs.Option.{option_or}
use Rattle.gl_base.specs.Positions.{change_at}
use Rattle.gl_base.specs.declared.errno.Errno.TheVariants.{Inval}
use Rattle.gl_base.specs.declared.irq.IrqDo.{IrqDo}
use Rattle.gl_base.specs.declared.pin.PinDo.{PinDo}
use Rattle.gl_registry.specs.Chips.{chip_at}
use Rattle.gl_model.specs.Pins.{pin, pin_done, pin_refusal}
use Rattle.gl_irq.specs.Irq.{act_refusal, done as irq_done, first_irq}
use Rattle.gl_model.specs.declared.place.Place.{Place}
use Rattle.gl_model.specs.Chips.{place_refusal}
use Rattle.gl_model.specs.Interrupts.{irq, irq_line}
use Rattle.gl_model.specs.Places.{lines_at, no_place, place_at, with_place}
use Rattle.gl_model.proofs.Phases.{nothing_first}
use Rattle.gl_core.specs.Shape.{with_irq_done, with_pin_done}

-- a call on the tree that refuses by some refusal, and else leaves these rows
abbrev tree_outcome : (List TreeRow → Option Errno) → (List TreeRow → List TreeRow) → World → Outcome
tree_outcome refusal new w = refused_or (refusal w.tree) w (done (record w { tree = new w.tree }))

tree_stands : (w : World) (r : Option Errno) (new tree : List TreeRow) (told : Result (Unit {0}) Errno) (reply : Reply) → HasSoundRequests w
    → told ≡ answer r tt → tree ≡ unless r new w.tree → reply ≡ replied told
    → let out = refused_or r w (done (record w { tree = new })) in StandsFor (record (kept_of w) { tree = tree }) out.world × (reply ≡ out.reply)
tree_stands w None new tree told reply sound is rows said =
    (record { kept_so = ap (λ (t : List TreeRow). record (kept_of w) { tree = t }) (sym rows); sound_requests = sound }, said ∙ ap replied is)
tree_stands w (Some e) new tree told reply sound is rows said =
    (record { kept_so = ap (λ (t : List TreeRow). record (kept_of w) { tree = t }) (sym rows); sound_requests = sound }, said ∙ ap replied is)

pub tree_done : (k : Kept) (w : World) (refusal : List TreeRow → Option Errno) (new : List TreeRow → List TreeRow) (tree : List TreeRow) (told : Result (Unit {0}) Errno) (reply : Reply) → StandsFor k w
    → told ≡ answer (refusal k.tree) tt → tree ≡ unless (refusal k.tree) (new k.tree) k.tree → reply ≡ replied told
    → let out = tree_outcome refusal new w in StandsFor (record k { tree = tree }) out.world × (reply ≡ out.reply)
tree_done k w refusal new tree told reply s =
    subst (λ (k : Kept). told ≡ answer (refusal k.tree) tt → tree ≡ unless (refusal k.tree) (new k.tree) k.tree → reply ≡ replied told
    → let out = tree_outcome refusal new w in StandsFor (record k { tree = tree }) out.world × (reply ≡ out.reply)) s.kept_so
    (tree_stands w (refusal w.tree) (new w.tree) tree told reply s.sound_requests)

-- something was done with the interrupt of a line, or refused

set_same : {X : Type 0} (xs : List X) (n : ℕ) (d : X) → slice_set xs n (slice_index_or xs n d) ≡ xs
set_same [] n d = refl
set_same (x ∷ xs) zero d = refl
set_same (x ∷ xs) (suc n) d = ap (λ l. x ∷ l) (set_same xs n d)

irq_stands : (w : World) (place offset : ℕ) (what : IrqDo) (r : Option Errno) (places : List Place) (told : Result (Unit {0}) Errno) (reply : Reply) → HasSoundRequests w
    → told ≡ answer r tt
    → (let t = place_at w place in places ≡ slice_set w.places place (record t { irqs = unless r (change_at first_irq offset (irq_done what) t.irqs) t.irqs })) → reply ≡ replied told
    → let out = refused_or (option_or r None) w (done (with_place place (λ t. record t { irqs = change_at first_irq offset (irq_done what) t.irqs }) w)) in
    StandsFor (record (kept_of w) { places = places }) out.world × (reply ≡ out.reply)
irq_stands w place offset what None places told reply sound is now said =
    (record { kept_so = ap (λ (ps : List Place). record (kept_of w) { places = ps }) (sym now); sound_requests = sound }, said ∙ ap replied is)
irq_stands w place offset what (Some e) places told reply sound is now said =
    (record { kept_so = ap (λ (ps : List Place). record (kept_of w) { places = ps }) (sym (now ∙ set_same w.places place no_place)); sound_requests = sound }, said ∙ ap replied is)

pub irq_acted : (k : Kept) (w : World) (place offset : ℕ) (what : IrqDo) (places : List Place) (told : Result (Unit {0}) Errno) (reply : Reply) → StandsFor k w
    → first_of (place_refusal place w ∷ when (nat_le (lines_at w place) offset) Inval ∷ []) ≡ None
    → (let t = slice_index_or k.places place no_place in told ≡ answer (act_refusal t.irqs offset what (irq_line t offset)) tt)
    → places ≡ change_at no_place place (with_irq_done offset what) k.places → reply ≡ replied told
    → let out = irq place offset what w in StandsFor (record k { places = places }) out.world × (reply ≡ out.reply)
irq_acted k w place offset what places told reply s free =
    let there : place_refusal place w ≡ None = (nothing_first (place_refusal place w) (first_of (when (nat_le (lines_at w place) offset) Inval ∷ [])) free).0 in
    let t : Place = place_at w place in
    let r : Option Errno = act_refusal t.irqs offset what (irq_line t offset) in
    let after : Outcome = done (with_place place (λ t. record t { irqs = change_at first_irq offset (irq_done what) t.irqs }) w) in
    subst (λ (k : Kept). (let t = slice_index_or k.places place no_place in told ≡ answer (act_refusal t.irqs offset what (irq_line t offset)) tt)
    → places ≡ change_at no_place place (with_irq_done offset what) k.places → reply ≡ replied told
    → let out = irq place offset what w in StandsFor (record k { places = places }) out.world × (reply ≡ out.reply)) s.kept_so
    (λ is now said. subst (λ (p : Option Errno). let out = refused_or (first_of (p ∷ r ∷ [])) w after in StandsFor (record (kept_of w) { places = places }) out.world × (reply ≡ out.reply)) (sym there)
    (irq_stands w place offset what r places told reply s.sound_requests is now said))

-- something was done with the pins of a chip, or refused

pins_stand : (w : World) (place : ℕ) (what : PinDo) (r : Option Errno) (places : List Place) (told : Result (Unit {0}) Errno) (reply : Reply) → HasSoundRequests w
    → told ≡ answer r tt
    → (let t = place_at w place in places ≡ slice_set w.places place (record t { pins = unless r (pin_done what t.pins) t.pins })) → reply ≡ replied told
    → let out = refused_or (option_or r None) w (done (with_place place (λ t. record t { pins = pin_done what t.pins }) w)) in
    StandsFor (record (kept_of w) { places = places }) out.world × (reply ≡ out.reply)
pins_stand w place what None places told reply sound is now said =
    (record { kept_so = ap (λ (ps : List Place). record (kept_of w) { places = ps }) (sym now); sound_requests = sound }, said ∙ ap replied is)
pins_stand w place what (Some e) places told reply sound is now said =
    (record { kept_so = ap (λ (ps : List Place). record (kept_of w) { places = ps }) (sym (now ∙ set_same w.places place no_place)); sound_requests = sound }, said ∙ ap replied is)

pub pin_acted : (k : Kept) (w : World) (place lines : ℕ) (what : PinDo) (places : List Place) (told : Result (Unit {0}) Errno) (reply : Reply) → StandsFor k w
    → place_refusal place w ≡ None → lines ≡ (chip_at k.chips place).lines
    → told ≡ answer (pin_refusal lines (slice_index_or k.places place no_place) what) tt
    → places ≡ change_at no_place place (with_pin_done lines what) k.places → reply ≡ replied told
    → let out = pin place what w in StandsFor (record k { places = places }) out.world × (reply ≡ out.reply)
pin_acted k w place lines what places told reply s there many is now said =
    let r : Option Errno = pin_refusal (lines_at w place) (place_at w place) what in
    let after : Outcome = done (with_place place (λ t. record t { pins = pin_done what t.pins }) w) in
    subst (λ (k : Kept). told ≡ answer (pin_refusal (chip_at k.chips place).lines (slice_index_or k.places place no_place) what) tt
    → places ≡ change_at no_place place (with_pin_done (chip_at k.chips place).lines what) k.places
    → let out = pin place what w in StandsFor (record k { places = places }) out.world × (reply ≡ out.reply)) s.kept_so
    (λ is now. subst (λ (p : Option Errno). let out = refused_or (first_of (p ∷ r ∷ [])) w after in StandsFor (record (kept_of w) { places = places }) out.world × (reply ≡ out.reply)) (sym there)
    (pins_stand w place what r places told reply s.sound_requests is now said))
    (subst (λ n. told ≡ answer (pin_refusal n (slice_index_or k.places place no_place) what) tt) many is)
    (subst (λ n. places ≡ change_at no_place place (with_pin_done n what) k.places) many now)
