use Rattle.std.proofs.Common.{◌≡◌, Bool, true, List, ap, sym, ◌∙◌, subst}
use Rattle.std.specs.Prelude.{if◌then◌else◌, slice_index}
use Rattle.gl_uapi.specs.declared.layout.TheConstants.{CHANGED_CONFIG}
use Rattle.gl_model.specs.Configuring.{is_directed}
use Rattle.gl_model.specs.Notify.{notify}
use Rattle.gl_model.specs.declared.place.Place.{Place}
use Rattle.gl_core.specs.Kept.{Kept, StandsFor}
use Rattle.gl_core.specs.LineByLine.{configure_at}
use Rattle.gl_core.specs.Shape.{HasLine}
use Rattle.gl_core.proofs.state.State.reconfigure_at.Goals as goal

pub notify-requires : goal.notify-requires
notify-requires c = c.configure_at.ensures.lines _ _ c.requires.line

pub returns-then-is_directed-clause-follows : goal.returns-then-is_directed-clause-follows
returns-then-is_directed-clause-follows c w s =
    let directed : is_directed c.args.settings.now c.args.i ≡ true = sym c.is_directed.ensures ∙ c.if-is_directed.true in
    let after = configure_at c.args.place c.args.lines.now c.args.settings.now c.args.bits c.args.i w in
    subst (λ (b : Bool). StandsFor c.notify.new.self (if b then notify c.args.place (slice_index c.args.lines.now.offsets c.args.i) CHANGED_CONFIG after else w)) (sym directed)
    (c.notify.ensures.follows after (c.configure_at.ensures.follows w s))

pub returns-then-is_directed-clause-lines : goal.returns-then-is_directed-clause-lines
returns-then-is_directed-clause-lines c place offset line =
    let same : c.notify.new.self.places ≡ c.configure_at.new.self.places = ap (λ (k : Kept). k.places) c.notify.ensures.rest in
    subst (λ (places : List Place). HasLine places place offset) (sym same) (c.configure_at.ensures.lines place offset line)
