use Rattle.std.proofs.Common.{◌≡◌, ◌++◌, None, refl, rules}
use Rattle.gl_served.specs.declared.under_way.Step.TheVariants.{Told, Prints}
use Rattle.gl_served.proofs.Running.{gone_as, gone_printed}
use Rattle.gl_served.proofs.under_way.UnderWay.print.Goals as goal

pub returns-in-Ok-clause-gone : goal.returns-in-Ok-clause-gone
returns-in-Ok-clause-gone c = λ p s left a gone.
    let longer : c.extend_from_slice.new.self.items ≡ c.args.self.now.printed.items ++ c.args.text = search rules in
    gone_as p s (Told None) (Told None) c.args.self.now.first c.args.self.now.first (c.args.self.now.printed.items ++ c.args.text) c.extend_from_slice.new.self.items left a refl refl longer
    (gone_printed p s c.args.text c.args.self.now.first c.args.self.now.printed.items left a gone)

pub returns-in-Err-clause-gone : goal.returns-in-Err-clause-gone
returns-in-Err-clause-gone c = λ p s left a gone.
    let same : c.extend_from_slice.new.self.items ≡ c.args.self.now.printed.items = search rules in
    gone_as p s (Prints c.args.text) (Prints c.args.text) c.args.self.now.first c.args.self.now.first c.args.self.now.printed.items c.extend_from_slice.new.self.items left a refl refl same gone
