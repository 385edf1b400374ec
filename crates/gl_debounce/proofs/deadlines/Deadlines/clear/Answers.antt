use Rattle.std.proofs.Common.{ℕ, ◌≡◌, ◌<◌, List, length, get_or, set, Option, Some, None, sym, ◌∙◌, subst, arith}
use Rattle.std.proofs.lemmas.List.{get_or_read}
use Rattle.gl_debounce.proofs.Lookup.{nothing_cleared, rows_told}
use Rattle.gl_debounce.proofs.deadlines.Deadlines.clear.Goals as goal

pub remove_at-requires-clause-within : goal.remove_at-requires-clause-within
remove_at-requires-clause-within c =
    let slots : List (Option ℕ) = c.self.inside.slots.items in
    let within : c.args.line < length slots = omega (arith, rows_told c.self.inside.heap.items slots c.args.self.now c.self.view_is, c.requires) in
    let at : get_or slots c.args.line None ≡ Some c.in-Some.at = sym (get_or_read slots c.args.line c.index.result.now within c.index.ensures None) ∙ c.in-Some.is in
    (c.self.invariant.1.stands c.args.line c.in-Some.at at).0

pub returns-in-None : goal.returns-in-None
returns-in-None c =
    let slots : List (Option ℕ) = c.self.inside.slots.items in
    let within : c.args.line < length slots = omega (arith, rows_told c.self.inside.heap.items slots c.args.self.now c.self.view_is, c.requires) in
    let free : get_or slots c.args.line None ≡ None = sym (get_or_read slots c.args.line c.index.result.now within c.index.ensures None) ∙ c.in-None.is in
    subst (λ (ds : List (Option ℕ)). ds ≡ set ds c.args.line None) c.self.view_is (sym (nothing_cleared c.self.inside.heap.items slots c.args.line free))
