use Rattle.std.proofs.Common.{◌≡◌, ◌<◌, ◌*◌, length, Option, Some, None, sym, ap, ◌∙◌, subst}
use Rattle.std.specs.Prelude.{slice_get}
use Rattle.gl_debounce.specs.Fire.{after_first, fires}
use Rattle.gl_debounce.specs.declared.timer.Fired.{Fired}
use Rattle.gl_model.specs.Clock.{settle}
use Rattle.gl_model.specs.World.{World}
use Rattle.gl_core.specs.Kept.{Kept, StandsFor}
use Rattle.gl_core.proofs.Settling.{fewer, fire_end, fire_more, timers_stand}
use Rattle.gl_core.proofs.state.State.fire.Goals as goal
use Rattle.gl_base.specs.declared.limits.TheConstants.{LINES_MAX, PLACES}

-- what settles first, of what is kept and of the world
first_in : (k : Kept) (w : World) (o : Option Fired) → StandsFor k w → o ≡ slice_get (fires k.mono k.timers) 0 → o ≡ slice_get (fires w.mono w.timers) 0
first_in k w o stands first = first ∙ sym (ap (λ (k : Kept). slice_get (fires k.mono k.timers) 0) stands.kept_so)

pub loop-line-smaller : goal.loop-line-smaller
loop-line-smaller c =
    let k : Kept = c.loop-line.self in
    let line : Fired = c.in-Some.line in
    subst (λ (new : Kept). length (fires new.mono new.timers) < length (fires k.mono k.timers)) (sym (c.settled.ensures.rest ∙ ap (λ (x : Kept). record x { requests = c.settled.new.self.requests }) c.in-Some.ensures.rest))
    (fewer k.mono k.timers line c.in-Some.ensures.all_lines c.in-Some.ensures.first)

pub loop-line-preserved : goal.loop-line-preserved
loop-line-preserved c = (
  c.settled.ensures.lines,
  λ w s.
      let at = c.loop-line.invariant.1 w s in
      let k : Kept = c.loop-line.self in
      let line : Fired = c.in-Some.line in
      let v : World = at.0 in
      let there : StandsFor c.next_due.new.self (record v { timers = after_first (Some line) v.timers }) = subst (λ (new : Kept). StandsFor new (record v { timers = after_first (Some line) v.timers })) (sym c.in-Some.ensures.rest) (timers_stand k v (after_first (Some line)) at.1) in
      let whole : length v.timers ≡ PLACES * LINES_MAX = ap (λ (k : Kept). length k.timers) at.1.kept_so ∙ c.in-Some.ensures.all_lines in
      (settle line v, c.settled.ensures.follows (record v { timers = after_first (Some line) v.timers }) there, fire_more v line whole (first_in k v (Some line) at.1 c.in-Some.ensures.first) ∙ at.2),
)

pub returns : goal.returns
returns c w s =
    let at = c.loop-line.invariant.1 w s in
    let k : Kept = c.loop-line.self in
    let v : World = at.0 in
    let none : None ≡ slice_get (fires k.mono k.timers) 0 = sym c.in_default.is ∙ c.next_due.ensures.first in
    let stays : c.next_due.new.self ≡ k = c.next_due.ensures.rest ∙ ap (λ (o : Option Fired). record k { timers = after_first o k.timers }) c.in_default.is in
    let there : StandsFor c.next_due.new.self v = subst (λ (new : Kept). StandsFor new v) (sym stays) at.1 in
    subst (λ (w : World). StandsFor c.next_due.new.self w) (sym (fire_end v (sym (first_in k v None at.1 none))) ∙ at.2) there
