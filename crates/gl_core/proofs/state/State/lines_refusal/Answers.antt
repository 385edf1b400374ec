use Rattle.std.proofs.Common.{◌≡◌, ◌<◌, ◌≤◌, List, None, length, ap, sym, subst, ◌∙◌, arith}
use Rattle.std.proofs.lemmas.Bool.Decides.{nat_tests}
use Rattle.std.proofs.lemmas.List.{get_or_past}
use Rattle.gl_desc.specs.Desc.{claim_fault}
use Rattle.gl_model.specs.Places.{no_place, place_at}
use Rattle.gl_model.specs.declared.place.Place.{Place}
use Rattle.gl_core.specs.Claims.{AreFree}
use Rattle.gl_core.specs.Kept.{Kept}
use Rattle.gl_core.proofs.Claims.{free_lines, no_lines, where_none}
use Rattle.gl_core.proofs.state.State.lines_refusal.Goals as goal

pub returns-then-not-has-clause-told : goal.returns-then-not-has-clause-told
returns-then-not-has-clause-told c w s =
    let places : w.places ≡ c.self.inside.places = ap (λ (k : Kept). k.places) (s.kept_so ∙ sym c.self.view_is) in
    let many : length w.places ≡ length c.self.inside.places = ap (λ (ps : List Place). length ps) places in
    let past : length c.self.inside.places ≤ c.args.place = grind (arith, nat_tests, c.has.ensures, c.if-not-has.true) in
    let none : place_at w c.args.place ≡ no_place = get_or_past w.places c.args.place no_place (omega arith) in
    sym (no_lines (place_at w c.args.place) c.args.asked.now none c.requires.0)

pub returns-clause-free : goal.returns-clause-free
returns-clause-free c = where_none c.first_refusal.result (AreFree c.args.self.now c.args.place c.args.asked.now) (λ e.
    let there : c.args.place < length c.self.inside.places = grind (arith, nat_tests, c.has.ensures, c.if-not-has.false) in
    let free : claim_fault c.at.result.now.descs c.args.asked.now.lines ≡ None = free_lines c.at.result.now c.args.asked.now 0 c.args.asked.now.lines.count (sym c.first_refusal.ensures ∙ e) in
    let P : Place → Type 0 = λ p. claim_fault p.descs c.args.asked.now.lines ≡ None in
    subst (λ (k : Kept). AreFree k c.args.place c.args.asked.now) c.self.view_is (record { place_within = there; faultless = subst P c.at.ensures free }))
