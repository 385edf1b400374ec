use Rattle.std.proofs.Common.{◌≡◌, Option, refl, sym, subst}
use Rattle.gl_base.specs.declared.errno.Errno.{Errno}
use Rattle.gl_model.specs.Clock.{fire}
use Rattle.gl_model.specs.Outcome.{done, refused_or}
use Rattle.gl_model.specs.World.{World}
use Rattle.gl_model.specs.declared.reply.Reply.TheVariants.{Done}
use Rattle.gl_core.specs.HeldLines.{HoldersHaveLines}
use Rattle.gl_core.specs.Kept.{Kept, StandsFor}
use Rattle.gl_core.specs.View.{view_of}
use Rattle.gl_core.proofs.HeldLines.{lines_known}
use Rattle.gl_core.proofs.Settling.{clocks_stand}
use Rattle.gl_core.proofs.state.State.tick.Goals as goal

pub fire-requires : goal.fire-requires
fire-requires c = subst (λ (k : Kept). HoldersHaveLines k.places k.requests) (sym c.self.view_is) (lines_known c.args.self.now c.requires)

pub returns-in-None : goal.returns-in-None
returns-in-None c w s =
    let before : StandsFor (view_of c.self.inside) w = subst (λ k. StandsFor k w) (sym c.self.view_is) s in
    let v : World = record w { mono = c.args.mono; real = c.args.real } in
    subst (λ (refusal : Option Errno). let out = refused_or refusal w (done (fire v)) in StandsFor c.fire.new.self out.world × (Done ≡ out.reply)) (c.in-None.ensures.told w s)
    (c.fire.ensures v (clocks_stand (view_of c.self.inside) w c.args.mono c.args.real before), refl)
