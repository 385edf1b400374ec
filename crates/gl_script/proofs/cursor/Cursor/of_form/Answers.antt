use Rattle.std.proofs.Common.{◌≡◌, ◌∙◌, ap, sym, false}
use Rattle.std.specs.Prelude.{Some}
use Rattle.gl_script.specs.Faults.{spot}
use Rattle.gl_script.specs.Forms.{meets}
use Rattle.gl_script.specs.Left.{left_in, misread}
use Rattle.gl_script.specs.declared.refusal.RefusalKind.TheVariants.{Word}
use Rattle.gl_script.specs.declared.refusal.Spot.{Spot}
use Rattle.gl_script.proofs.ReadWords.{if_err, misread_by, missing_by, on_ok}
use Rattle.gl_script.proofs.cursor.Cursor.of_form.Goals as goal

pub returns-in-Ok-clause-fault : goal.returns-in-Ok-clause-fault
returns-in-Ok-clause-fault c =
    if_err (λ (fault : Spot). (meets c.args.form c.in-Ok.found.word.now ≡ false) × (fault ≡ spot c.in-Ok.found.at Word))
    (λ (fault : Spot). misread c.args.form (left_in c.args.self.now).end (left_in c.args.self.now).words ≡ Some fault) _
    (λ fault is. misread_by c.args.form (left_in c.args.self.now) (left_in c.next.new.self) c.in-Ok.found.at c.in-Ok.found.word.now c.in-Ok.ensures.found.0 is.0 ∙ ap (λ (f : Spot). Some f) (sym is.1))
    c.formed.ensures.fault

pub returns-in-Ok-clause-short : goal.returns-in-Ok-clause-short
returns-in-Ok-clause-short c = on_ok _ _ c.in-Ok.ensures.short

pub returns-in-Err-clause-fault : goal.returns-in-Err-clause-fault
returns-in-Err-clause-fault c = missing_by c.args.form (left_in c.args.self.now) c.in-Err.fault c.in-Err.ensures.missing
