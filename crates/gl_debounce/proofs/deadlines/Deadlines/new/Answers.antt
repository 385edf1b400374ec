use Rattle.gl_debounce.proofs.Lookup.{empty_agrees, empty_ordered, no_deadlines}
use Rattle.gl_debounce.proofs.deadlines.Deadlines.new.Goals as goal

pub returns-clause-ok : goal.returns-clause-ok
returns-clause-ok c = no_deadlines _ c.in_ok-slots.slots.items c.in_ok-slots.ensures.items

pub invariant_of-result : goal.invariant_of-result
invariant_of-result c = (
  c.in_ok-heap.ensures.exact,
  empty_agrees c.in_ok-heap.heap.items c.in_ok-slots.slots.items c.in_ok-heap.ensures.items c.in_ok-slots.ensures.items,
  empty_ordered c.in_ok-heap.heap.items c.in_ok-heap.ensures.items,
  c.in_ok-slots.ensures.exact,
)
