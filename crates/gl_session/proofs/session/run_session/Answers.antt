use Rattle.std.proofs.Common.{Err, ap, inr, refl, rules}
use Rattle.std.specs.Io.KnownBytes.{Appends, IsAtEnd}
use Rattle.gl_session.specs.Run.{HasWritten, refused_line}
use Rattle.gl_session.specs.Streams.{AppendsFront}
use Rattle.gl_session.specs.Ports.{OthersLearn, further_actors, left_at, maps_at}
use Rattle.gl_session.specs.Workers.{told_at}
use Rattle.gl_session.proofs.Causes.{as_lent, if_ran, if_session, if_refused, if_output, if_refusal, if_complete, if_faulty, if_sections, if_any}
use Rattle.gl_session.proofs.Taught.{none_learn}
use Rattle.gl_session.proofs.WordsAsked.{apart}
use Rattle.gl_session.proofs.session.run_session.Goals as goal
use Rattle.gl_check.specs.Drivers.{driver_kind, over}
use Rattle.gl_check.specs.Joining.{no_maps}

pub returns-in-Ok-clause-output : goal.returns-in-Ok-clause-output
returns-in-Ok-clause-output g c = λ e.
    if_ran _ _ _ (IsAtEnd (g.S.Source.left c.read_through.new.source)) (λ sections. HasWritten (over (left_at g.D.Port.Port.maps_left c.args.ports.now 0) (driver_kind g.D.Driver.ENTRIES g.D.Driver.is_planned g.D.Driver.OwnEntries g.D.Driver.Follows)) sections (told_at g.D.Port.Port.told c.args.ports.now) (told_at g.D.Port.Port.told c.answer.new.ports)
    (maps_at g.D.Port.Port.maps g.D.Port.Port.maps_left c.answer.new.ports 0) (g.K.Sink.held c.args.sink.now) (g.K.Sink.held c.answer.new.sink))
    (as_lent _ _ _ _ c.deref.result.now c.in-Ok.ensures.ok (search rules)) (as_lent _ _ _ _ c.deref.result.now c.in-Ok.ensures.ok (search rules)).end (c.answer.ensures.ran e)

pub returns-in-Ok-clause-ran_only_session : goal.returns-in-Ok-clause-ran_only_session
returns-in-Ok-clause-ran_only_session g c = λ e. if_session _ _ _ (as_lent _ _ _ _ c.deref.result.now c.in-Ok.ensures.ok (search rules)) (c.answer.ensures.ran e).0 (c.answer.ensures.ran e).1

pub returns-in-Ok-clause-refused : goal.returns-in-Ok-clause-refused
returns-in-Ok-clause-refused g c =
    if_refusal c.answer.result _ _ _ (as_lent _ _ _ _ c.deref.result.now c.in-Ok.ensures.ok (search rules)) c.answer.ensures.no_usage c.answer.ensures.no_no (λ e. ((c.answer.ensures.ran e).0, (c.answer.ensures.ran e).1))

pub returns-in-Ok-clause-refused_only : goal.returns-in-Ok-clause-refused_only
returns-in-Ok-clause-refused_only g c = λ e.
    if_refused _ _ _ (λ refusal. Appends (g.K.Sink.held c.args.sink.now) (g.K.Sink.held c.answer.new.sink) (refused_line refusal)) (as_lent _ _ _ _ c.deref.result.now c.in-Ok.ensures.ok (search rules)) (c.answer.ensures.refused e)

pub returns-in-Ok-clause-write_fault_front : goal.returns-in-Ok-clause-write_fault_front
returns-in-Ok-clause-write_fault_front g c = λ e.
    if_output _ _ _ _ _ _ _ (AppendsFront (g.K.Sink.held c.args.sink.now) (g.K.Sink.held c.answer.new.sink)) (as_lent _ _ _ _ c.deref.result.now c.in-Ok.ensures.ok (search rules)) (c.answer.ensures.front e)

pub returns-in-Ok-clause-complete : goal.returns-in-Ok-clause-complete
returns-in-Ok-clause-complete g c =
    if_complete c.answer.result _ _ _ _ _ (as_lent _ _ _ _ c.deref.result.now c.in-Ok.ensures.ok (search rules)) c.answer.ensures.no_usage c.answer.ensures.no_no c.answer.ensures.no_read_fault
    (λ e. ((c.answer.ensures.refused e).0, (c.answer.ensures.refused e).1)) c.answer.ensures.write_fault

pub returns-in-Ok-clause-other_ports : goal.returns-in-Ok-clause-other_ports
returns-in-Ok-clause-other_ports g c = λ some. if_sections _ _ _ (λ sections. OthersLearn g.D.Port.Port.maps g.D.Port.Port.maps_left g.D.Port.Port.told g.D.Port.Port.faults sections c.args.ports.now c.answer.new.ports) (as_lent _ _ _ _ c.deref.result.now c.in-Ok.ensures.ok (search rules)) (c.answer.ensures.other_ports some)

pub returns-in-Ok-clause-refused_bytes_ports : goal.returns-in-Ok-clause-refused_bytes_ports
returns-in-Ok-clause-refused_bytes_ports g c = λ some. if_faulty _ _ _ _ (as_lent _ _ _ _ c.deref.result.now c.in-Ok.ensures.ok (search rules)) (c.answer.ensures.refused_ports some)

pub returns-in-Err-Fault-clause-other_ports : goal.returns-in-Err-Fault-clause-other_ports
returns-in-Err-Fault-clause-other_ports g c = λ some.
    if_any (g.S.Source.left c.args.source.now) _ (λ input sections said. none_learn g.D.Port.Port.maps g.D.Port.Port.maps_left g.D.Port.Port.told g.D.Port.Port.faults (further_actors sections) sections (no_maps (left_at g.D.Port.Port.maps_left c.args.ports.now 0)) c.args.ports.now c.requires.bare)

pub returns-in-Ok-clause-write_fault : goal.returns-in-Ok-clause-write_fault
returns-in-Ok-clause-write_fault g c = c.answer.ensures.write_fault

pub returns-in-Ok-clause-read_fault : goal.returns-in-Ok-clause-read_fault
returns-in-Ok-clause-read_fault g c = λ fault. absurd (c.answer.ensures.no_read_fault fault)

pub returns-in-Ok-clause-refused_written : goal.returns-in-Ok-clause-refused_written
returns-in-Ok-clause-refused_written g c = λ refused. let out = c.answer.ensures.refused refused in (out.0, out.2)

pub returns-in-Err-Fault-clause-no_usage : goal.returns-in-Err-Fault-clause-no_usage
returns-in-Err-Fault-clause-no_usage g c = λ usage. absurd (apart refl usage)

pub returns-in-Err-Fault-clause-no_no : goal.returns-in-Err-Fault-clause-no_no
returns-in-Err-Fault-clause-no_no g c = λ no. absurd (apart refl no)

pub returns-in-Err-Fault-clause-write_fault : goal.returns-in-Err-Fault-clause-write_fault
returns-in-Err-Fault-clause-write_fault g c = λ fault. absurd (apart refl fault)

pub returns-clause-no_usage : goal.returns-clause-no_usage
returns-clause-no_usage g c = λ usage. absurd (apart refl usage)

pub returns-clause-no_no : goal.returns-clause-no_no
returns-clause-no_no g c = λ no. absurd (apart refl no)

pub returns-clause-write_fault : goal.returns-clause-write_fault
returns-clause-write_fault g c = λ fault. absurd (apart refl fault)

pub returns-clause-read_fault : goal.returns-clause-read_fault
returns-clause-read_fault g c = λ fault. absurd (apart refl fault)

pub returns-in-Err-Fault-clause-read_fault : goal.returns-in-Err-Fault-clause-read_fault
returns-in-Err-Fault-clause-read_fault g c = λ _. c.in-Err-Fault.ensures.fault (ap Err c.in-Err-Fault.field-0-is)

pub returns-in-Err-Fault-clause-refused_bytes_ports : goal.returns-in-Err-Fault-clause-refused_bytes_ports
returns-in-Err-Fault-clause-refused_bytes_ports g c = λ some. if_any (g.S.Source.left c.args.source.now) _ (λ input refusal first. refl)

pub returns-in-Err-Fault-clause-complete : goal.returns-in-Err-Fault-clause-complete
returns-in-Err-Fault-clause-complete g c = if_any (g.S.Source.left c.args.source.now) _ (λ input sections said read written. absurd (read (c.in-Err-Fault.ensures.fault (ap Err c.in-Err-Fault.field-0-is))))

pub returns-clause-refused : goal.returns-clause-refused
returns-clause-refused g c = if_any (g.S.Source.left c.args.source.now) _ (λ input refusal first. inr (inr (inr refl)))

pub returns-clause-complete : goal.returns-clause-complete
returns-clause-complete g c = if_any (g.S.Source.left c.args.source.now) _ (λ input sections said read written. inr refl)
