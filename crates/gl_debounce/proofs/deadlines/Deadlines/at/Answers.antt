use Rattle.std.proofs.Common.{ℕ, ◌≡◌, ◌<◌, List, length, get_or, Option, Some, None, ap, sym, ◌∙◌, arith}
use Rattle.std.proofs.lemmas.List.{get_or_read}
use Rattle.gl_debounce.specs.declared.due.Due.{Due}
use Rattle.gl_debounce.specs.Order.{deadline_in, due_at, no_due}
use Rattle.gl_debounce.proofs.Lookup.{at_line, rows_told}
use Rattle.gl_debounce.proofs.deadlines.Deadlines.at.Goals as goal

pub index-requires-in-Some : goal.index-requires-in-Some
index-requires-in-Some c =
    let slots : List (Option ℕ) = c.self.inside.slots.items in
    let within : c.args.line < length slots = omega (arith, rows_told c.self.inside.heap.items slots c.args.self.now c.self.view_is, c.requires) in
    let at : get_or slots c.args.line None ≡ Some c.in-Some.at = sym (get_or_read slots c.args.line c.index.result.now within c.index.ensures None) ∙ c.in-Some.is in
    omega (arith, (c.self.invariant.1.stands c.args.line c.in-Some.at at).0)

pub returns-in-Some : goal.returns-in-Some
returns-in-Some c =
    let heap : List Due = c.self.inside.heap.items in
    let slots : List (Option ℕ) = c.self.inside.slots.items in
    let within : c.args.line < length slots = omega (arith, rows_told heap slots c.args.self.now c.self.view_is, c.requires) in
    let at : get_or slots c.args.line None ≡ Some c.in-Some.at = sym (get_or_read slots c.args.line c.index.result.now within c.index.ensures None) ∙ c.in-Some.is in
    let below : c.in-Some.at < length heap = (c.self.invariant.1.stands c.args.line c.in-Some.at at).0 in
    let here : c.index-in-Some.result.now ≡ due_at heap c.in-Some.at = get_or_read heap c.in-Some.at c.index-in-Some.result.now below c.index-in-Some.ensures no_due in
    ap (λ (due : Due). Some due.deadline) here
    ∙ sym (ap (deadline_in heap) at)
    ∙ sym (at_line heap slots c.args.line)
    ∙ ap (λ (ds : List (Option ℕ)). get_or ds c.args.line None) c.self.view_is

pub returns-in-None : goal.returns-in-None
returns-in-None c =
    let heap : List Due = c.self.inside.heap.items in
    let slots : List (Option ℕ) = c.self.inside.slots.items in
    let within : c.args.line < length slots = omega (arith, rows_told heap slots c.args.self.now c.self.view_is, c.requires) in
    let free : get_or slots c.args.line None ≡ None = sym (get_or_read slots c.args.line c.index.result.now within c.index.ensures None) ∙ c.in-None.is in
    sym (ap (deadline_in heap) free)
    ∙ sym (at_line heap slots c.args.line)
    ∙ ap (λ (ds : List (Option ℕ)). get_or ds c.args.line None) c.self.view_is
