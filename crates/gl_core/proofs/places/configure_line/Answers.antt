use Rattle.std.proofs.Common.{List, ap, sym, ◌∙◌}
use Rattle.std.specs.Prelude.{slice_set}
use Rattle.gl_bank.specs.Level.{configured, first_levels, levels_at, pulled}
use Rattle.gl_bank.specs.declared.levels.Levels.{Levels}
use Rattle.gl_base.specs.Positions.{change_at}
use Rattle.gl_base.specs.declared.kind.Kind.{Kind}
use Rattle.gl_model.specs.Configuring.{configured_on}
use Rattle.gl_core.proofs.Twice.{changed_twice}
use Rattle.gl_core.proofs.places.configure_line.Goals as goal

pub returns-in-Remote : goal.returns-in-Remote
returns-in-Remote c =
    let bank : List Levels = c.args.bank.now in
    c.set_pull.ensures.bank
    ∙ ap (λ b. change_at first_levels c.args.offset (pulled c.pull-pull.result) b) c.apply-in-Remote.ensures
    ∙ changed_twice first_levels c.args.offset (configured c.args.settings.now) (pulled c.pull-pull.result) bank c.requires
    ∙ ap (λ p. slice_set bank c.args.offset (pulled p (configured c.args.settings.now (levels_at bank c.args.offset)))) c.pull-pull.ensures
    ∙ ap (λ (kind : Kind). change_at first_levels c.args.offset (configured_on kind c.args.settings.now) bank) (sym c.in-Remote.is)
