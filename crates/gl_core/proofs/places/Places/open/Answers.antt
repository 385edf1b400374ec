use Rattle.std.proofs.Common.{◌≡◌, ◌-◌, ◌++◌, ◌∷◌, [], List, length, ap, ◌∙◌, arith}
use Rattle.gl_bank.specs.declared.levels.Levels.{Levels}
use Rattle.gl_desc.specs.declared.desc.Desc.{Desc}
use Rattle.gl_irq.specs.declared.irq.Irq.{Irq}
use Rattle.gl_model.specs.Chips.{new_place}
use Rattle.gl_model.specs.declared.place.Place.{Place}
use Rattle.gl_model.specs.Places.{no_place}
use Rattle.gl_core.proofs.Spare.{fitted, fitted-new, spare_left}
use Rattle.gl_core.proofs.places.Places.open.Goals as goal

pub returns-in-Some : goal.returns-in-Some
returns-in-Some c =
    let there : c.in-Some.place ≡ no_place = c.in-Some.ensures.last.1 ∙ c.self.invariant.all_new (length c.self.inside.spare.items - 1) c.in-Some.place (omega (arith, c.in-Some.ensures.last.0)) in
    c.push_within.ensures.items
    ∙ ap (λ (ds : List Desc). c.self.inside.used.items ++ record c.in-Some.place { descs = ds; bank = c.fit-in-Some.new.self; irqs = c.fit-in-Some-2.new.self } ∷ []) c.fit.ensures
    ∙ ap (λ (bs : List Levels). c.self.inside.used.items ++ record (fitted c.args.lines c.in-Some.place) { bank = bs; irqs = c.fit-in-Some-2.new.self } ∷ []) c.fit-in-Some.ensures
    ∙ ap (λ (is : List Irq). c.self.inside.used.items ++ record (fitted c.args.lines c.in-Some.place) { irqs = is } ∷ []) c.fit-in-Some-2.ensures
    ∙ ap (λ (x : Place). c.self.inside.used.items ++ fitted c.args.lines x ∷ []) there
    ∙ ap (λ (x : Place). c.self.inside.used.items ++ x ∷ []) (fitted-new c.args.lines)
    ∙ ap (λ xs. xs ++ new_place c.args.lines ∷ []) c.self.view_is

pub invariant_of-self-in-Some : goal.invariant_of-self-in-Some
invariant_of-self-in-Some c =
    spare_left c.self.inside.used.items c.self.inside.spare.items c.push_within.new.items.items c.take_last.new.items.items _ _ _ c.self.invariant c.in-Some.ensures.last.0 c.push_within.ensures.items c.take_last.ensures.rest c.push_within.ensures.capacity
