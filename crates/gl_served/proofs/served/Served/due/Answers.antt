use Rattle.std.proofs.Common.{◌≡◌, ◌++◌, ℕ, List, Option, ap, refl, ◌∙◌, subst, sym, rules}
use Rattle.gl_core.specs.Kept.{StandsFor}
use Rattle.gl_served.specs.Questions.{due_text}
use Rattle.gl_served.specs.Served.{ServedValue, carried_out}
use Rattle.gl_served.proofs.served.Served.due.Goals as goal

pub returns-clause-answered : goal.returns-clause-answered
returns-clause-answered c = λ said keeps.
    let longer : c.extend_from_slice.new.self.items ≡ c.args.out.now.items ++ c.in_ok-text.text.items = search rules in (
      refl,
      longer ∙ ap (λ (t : List ℕ). c.args.out.now.items ++ t) c.in_ok-text.ensures.ok
          ∙ ap (λ (m : Option ℕ). c.args.out.now.items ++ due_text m)
          (c.due.ensures (carried_out said.statements).behind.world (subst (λ (v : ServedValue). StandsFor v.alone.core (carried_out said.statements).behind.world) (sym c.self.view_is) keeps.stands.world)),
      keeps,
    )
