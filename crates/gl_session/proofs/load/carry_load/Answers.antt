use Rattle.std.proofs.Common.{◌≡◌, ℕ, List, IfOk, false, rules, subst, sym}
use Rattle.gl_script.specs.Cost.{has_aggregate}
use Rattle.gl_script.specs.Gen.{load_text}
use Rattle.gl_script.specs.Section.{SaidSection}
use Rattle.gl_script.specs.Sentence.{Sentence, sections_said}
use Rattle.gl_session.specs.Figures.{CameToFigures}
use Rattle.gl_session.specs.Workers.{told_at}
use Rattle.gl_session.proofs.load.carry_load.Goals as goal
use Rattle.gl_check.specs.Drivers.{driver_kind}

pub carry_bytes-requires-clause-session : goal.carry_bytes-requires-clause-session
carry_bytes-requires-clause-session g c κs within =
    let load_is : c.deref.result.now ≡ load_text c.args.turns = search rules in
    let said : Sentence (load_text c.args.turns) (sections_said (load_text c.args.turns)) = (c.loads_are_sessions.ensures c.args.turns c.requires.turns.0 c.requires.turns.1).0 in
    subst (λ (bytes : List ℕ). (sections : List SaidSection) × Sentence bytes sections × (has_aggregate sections ≡ false)) (sym load_is)
    (sections_said (load_text c.args.turns), said, c.loads_have_no_aggregate.ensures c.args.turns (sections_said (load_text c.args.turns)) c.requires.turns.1 said)

pub returns-in-Ok-clause-came : goal.returns-in-Ok-clause-came
returns-in-Ok-clause-came g c =
    let t = g.D.Port.Port.told in
    let load_is : c.deref.result.now ≡ load_text c.args.turns = search rules in
    subst (λ (bytes : List ℕ). IfOk c.carry_bytes.result (λ out. CameToFigures (driver_kind g.D.Driver.ENTRIES g.D.Driver.is_planned g.D.Driver.OwnEntries g.D.Driver.Follows) bytes (told_at t c.args.ports.now 0) (told_at t c.carry_bytes.new.ports 0) out.items)) load_is c.carry_bytes.ensures.came
