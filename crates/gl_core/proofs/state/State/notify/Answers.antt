use Rattle.std.proofs.Common.{map, sym, ap, ◌∙◌, subst}
use Rattle.gl_uapi.specs.declared.line_infos.Info.{Info}
use Rattle.gl_watch.specs.Files.{notified}
use Rattle.gl_model.specs.Information.{info_of, line_at}
use Rattle.gl_model.specs.declared.place.Place.{Place}
use Rattle.gl_core.specs.Kept.{StandsFor}
use Rattle.gl_core.specs.View.{view_of}
use Rattle.gl_core.proofs.Notified.{notified_stands}
use Rattle.gl_core.proofs.state.State.notify.Goals as goal

pub returns-clause-follows : goal.returns-clause-follows
returns-clause-follows c w s =
    notified_stands (view_of c.self.inside) w c.args.place c.args.offset c.args.kind c.notify.new.self (subst (λ k. StandsFor k w) (sym c.self.view_is) s)
    (c.notify.ensures ∙ ap (λ (info : Info). map (notified c.args.place (record { info = info; timestamp = c.self.inside.mono; kind = c.args.kind })) c.self.inside.files)
    (c.info_of.ensures ∙ ap (λ (tables : Place). info_of c.args.offset (line_at tables c.args.offset)) c.at.ensures))
