use Rattle.std.proofs.Common.{◌≡◌, Some, sym, ap, ◌∙◌, subst}
use Rattle.gl_client.specs.declared.next.Next.TheVariants.{End}
use Rattle.gl_args.specs.Options.{options_in}
use Rattle.gl_client.specs.Program.{Goes, done, then_by}
use Rattle.gl_lines.specs.Finding.{left, found_where}
use Rattle.gl_lines.proofs.FoundEnds.{finder_ends}
use Rattle.gl_values.specs.Get.{get, get_left}
use Rattle.gl_values.proofs.get.Get.go_on.Goals as goal

pub returns-then-has_found : goal.returns-then-has_found
returns-then-has_found c = λ p h.
    let g = c.args.self.now in
    let found = g.finder.found.items in
    let ends : Goes p End (left g.finder) = rw c.in-End.is at h in
    let made : p ≡ done (Some found) = finder_ends g.finder p ends ∙ ap (λ b. done (found_where b found)) (sym c.has_found.ensures ∙ c.if-has_found.true) in
    subst (λ q. Goes (then_by q (get g.finder.made (options_in g.finder.opts))) c.ask.new.step (get_left c.ask.new.self)) (sym made) (c.ask.ensures found)
