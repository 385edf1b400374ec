use Rattle.std.proofs.Common.{◌≡◌, ℕ, List, IfOk, Result, Ok, Err, false, inr, subst, ap, ◌∙◌}
use Rattle.gl_check.specs.Drivers.{driver_kind}
use Rattle.gl_script.specs.Cost.{has_aggregate}
use Rattle.gl_script.specs.Script.{sections_of}
use Rattle.gl_script.specs.Section.{SaidSection}
use Rattle.gl_session.specs.Figures.{figures}
use Rattle.gl_session.proofs.Causes.{single}
use Rattle.gl_session.proofs.FewStatements.{sentence_is_sized, statements_few}
use Rattle.gl_session.proofs.Figures.{figured}
use Rattle.gl_session.proofs.Taught.{first_bare}
use Rattle.gl_session.proofs.load.carry_bytes.Goals as goal

pub run_alone-requires-clause-sized : goal.run_alone-requires-clause-sized
run_alone-requires-clause-sized g c κs within = sentence_is_sized _ _ c.in-Ok.ensures.ok

pub figures_of-requires : goal.figures_of-requires
figures_of-requires g c = record { few = statements_few _ _ c.in-Ok.ensures.ok }

pub returns-in-Ok-run_alone-clause-came : goal.returns-in-Ok-run_alone-clause-came
returns-in-Ok-run_alone-clause-came g c =
    let without : has_aggregate (sections_of c.in-Ok.script) ≡ false =
    ap (λ (l : List SaidSection). has_aggregate l) (single c.args.bytes.now (sections_of c.in-Ok.script) c.requires.session.0 c.in-Ok.ensures.ok c.requires.session.1) ∙ c.requires.session.2 in
    figured c.figures_of.result (λ out. out.items) (driver_kind g.D.Driver.ENTRIES g.D.Driver.is_planned g.D.Driver.OwnEntries g.D.Driver.Follows) c.args.bytes.now (sections_of c.in-Ok.script) _ _ _ _ c.in-Ok.ensures.ok (c.in-Ok-run_alone.ensures.came.plainly (inr without))
    (subst (λ (text : List ℕ). IfOk c.figures_of.result (λ out. out.items ≡ figures (sections_of c.in-Ok.script) c.in-Ok-run_alone.entries text)) c.deref.ensures.value c.figures_of.ensures.ok)

pub returns-in-Ok-run_alone-clause-others : goal.returns-in-Ok-run_alone-clause-others
returns-in-Ok-run_alone-clause-others g c =
    c.run_alone.ensures.others_stay (ap (λ (l : List SaidSection). has_aggregate l) (single c.args.bytes.now (sections_of c.in-Ok.script) c.requires.session.0 c.in-Ok.ensures.ok c.requires.session.1) ∙ c.requires.session.2)

pub returns-in-Ok-run_alone-clause-bare : goal.returns-in-Ok-run_alone-clause-bare
returns-in-Ok-run_alone-clause-bare g c =
    let without : has_aggregate (sections_of c.in-Ok.script) ≡ false =
    ap (λ (l : List SaidSection). has_aggregate l) (single c.args.bytes.now (sections_of c.in-Ok.script) c.requires.session.0 c.in-Ok.ensures.ok c.requires.session.1) ∙ c.requires.session.2 in
    in_any c.figures_of.result (first_bare g.D.Port.Port.maps g.D.Port.Port.maps_left g.D.Port.Port.told g.D.Port.Port.faults (sections_of c.in-Ok.script) c.args.ports.now c.run_alone.new.ports c.requires.ports c.in-Ok-run_alone.ensures.there c.requires.bare without c.in-Ok-run_alone.ensures.others)
  where
    in_any : {X E : Type 0} {P : Type 0} (result : Result X E) → P → IfOk result (λ _. P)
    in_any (Ok x) holds = holds
    in_any (Err e) holds = tt
