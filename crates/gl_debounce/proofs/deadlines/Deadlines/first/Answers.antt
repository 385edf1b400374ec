use Rattle.std.proofs.Common.{ℕ, ◌≡◌, ◌<◌, List, length, Option, sym, ◌∙◌, subst, arith, vec_len}
use Rattle.std.proofs.lemmas.Bool.{eqb-false, eqb-true}
use Rattle.std.proofs.lemmas.List.{get_or_read}
use Rattle.gl_debounce.specs.declared.due.Due.{Due}
use Rattle.gl_debounce.specs.Order.{AreNone, IsFirst, due_at, no_due}
use Rattle.gl_debounce.proofs.Lookup.{first_due, none_due}
use Rattle.gl_debounce.proofs.deadlines.Deadlines.first.Goals as goal

pub returns-then-is_empty : goal.returns-then-is_empty
returns-then-is_empty c =
    let heap : List Due = c.self.inside.heap.items in
    let slots : List (Option ℕ) = c.self.inside.slots.items in
    let none : vec_len c.self.inside.heap ≡ 0 = eqb-true (vec_len c.self.inside.heap) 0 (sym c.is_empty.ensures ∙ c.if-is_empty.true) in
    let empty : length heap ≡ 0 = omega arith in
    subst AreNone c.self.view_is (none_due heap slots c.self.invariant.1 empty)

pub returns : goal.returns
returns c =
    let heap : List Due = c.self.inside.heap.items in
    let slots : List (Option ℕ) = c.self.inside.slots.items in
    let none : vec_len c.self.inside.heap ≡ 0 → ⊥ = eqb-false (vec_len c.self.inside.heap) 0 (sym c.is_empty.ensures ∙ c.if-is_empty.false) in
    let some : 0 < length heap = omega arith in
    let here : c.index.result.now ≡ due_at heap 0 = get_or_read heap 0 c.index.result.now some c.index.ensures no_due in
    subst (λ ds. IsFirst ds c.index.result.now) c.self.view_is (first_due heap slots c.index.result.now c.self.invariant.1 c.self.invariant.2 some here)
