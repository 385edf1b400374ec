use Rattle.std.proofs.Common.{rules, ◌≡◌, ◌∙◌, Some, inl, inr, refl, subst, sym}
use Rattle.std.specs.Io.KnownBytes.{Appends}
use Rattle.gl_script.specs.Script.{sections_of}
use Rattle.gl_script.specs.Sentence.{first_fault}
use Rattle.gl_session.specs.Ports.{OthersLearn}
use Rattle.gl_session.specs.Run.{refused_line}
use Rattle.gl_session.specs.Streams.{AppendsFront}
use Rattle.gl_session.proofs.FewActors.{few_actors}
use Rattle.gl_session.proofs.FewStatements.{sentence_is_sized}
use Rattle.gl_session.proofs.WordsAsked.{apart, no_other, no_third, some_is_no_none}
use Rattle.gl_session.proofs.session.answer.Goals as goal

pub carry_script-requires-clause-sized : goal.carry_script-requires-clause-sized
carry_script-requires-clause-sized g c κs within = sentence_is_sized _ _ c.in-Ok.ensures.ok

pub carry_script-requires-clause-few : goal.carry_script-requires-clause-few
carry_script-requires-clause-few g c κs within = few_actors _ _ c.in-Ok.ensures.ok

pub returns-in-Err-clause-ran : goal.returns-in-Err-clause-ran
returns-in-Err-clause-ran g c = λ is. absurd (apart refl is)

pub returns-in-Err-clause-front : goal.returns-in-Err-clause-front
returns-in-Err-clause-front g c = λ is. absurd (apart refl is)

pub returns-in-Err-clause-refused : goal.returns-in-Err-clause-refused
returns-in-Err-clause-refused g c = λ is. absurd (apart refl is)

pub returns-in-Err-clause-write_fault : goal.returns-in-Err-clause-write_fault
returns-in-Err-clause-write_fault g c = λ is. absurd (apart refl is)

pub returns-in-Err-clause-no_usage : goal.returns-in-Err-clause-no_usage
returns-in-Err-clause-no_usage g c = apart refl

pub returns-in-Err-clause-no_no : goal.returns-in-Err-clause-no_no
returns-in-Err-clause-no_no g c = apart refl

pub returns-in-Err-clause-no_read_fault : goal.returns-in-Err-clause-no_read_fault
returns-in-Err-clause-no_read_fault g c = apart refl

pub returns-in-Err-clause-other_ports : goal.returns-in-Err-clause-other_ports
returns-in-Err-clause-other_ports g c = λ kept. absurd (kept refl)

pub returns-clause-ran : goal.returns-clause-ran
returns-clause-ran g c = λ is. absurd (apart refl is)

pub returns-clause-front : goal.returns-clause-front
returns-clause-front g c = λ is. absurd (apart refl is)

pub returns-clause-refused : goal.returns-clause-refused
returns-clause-refused g c = λ is. absurd (apart refl is)

pub returns-clause-write_fault : goal.returns-clause-write_fault
returns-clause-write_fault g c = λ is. absurd (apart refl is)

pub returns-clause-refused_only_ports : goal.returns-clause-refused_only_ports
returns-clause-refused_only_ports g c = λ is. absurd (apart refl is)

pub returns-clause-no_usage : goal.returns-clause-no_usage
returns-clause-no_usage g c = apart refl

pub returns-clause-no_no : goal.returns-clause-no_no
returns-clause-no_no g c = apart refl

pub returns-clause-no_read_fault : goal.returns-clause-no_read_fault
returns-clause-no_read_fault g c = apart refl

pub returns-clause-other_ports : goal.returns-clause-other_ports
returns-clause-other_ports g c = λ kept. absurd (kept refl)

pub returns-clause-refused_ports : goal.returns-clause-refused_ports
returns-clause-refused_ports g c = λ kept. absurd (kept refl)

-- why the bytes are refused, where it isn't for want of memory
first_refusal : (g : _) (c : goal.After-drop-driver-in-Err-2 g) → first_fault c.args.bytes.now ≡ Some c.in-Err.refusal
first_refusal g c = c.in-Err.ensures.refused (search rules)

pub returns-in-Err-2-clause-ran : goal.returns-in-Err-2-clause-ran
returns-in-Err-2-clause-ran g c = λ is. absurd (no_other c.refuse.ensures.one refl refl refl is)

pub returns-in-Err-2-clause-no_usage : goal.returns-in-Err-2-clause-no_usage
returns-in-Err-2-clause-no_usage g c = no_other c.refuse.ensures.one refl refl refl

pub returns-in-Err-2-clause-no_no : goal.returns-in-Err-2-clause-no_no
returns-in-Err-2-clause-no_no g c = no_other c.refuse.ensures.one refl refl refl

pub returns-in-Err-2-clause-no_read_fault : goal.returns-in-Err-2-clause-no_read_fault
returns-in-Err-2-clause-no_read_fault g c = no_other c.refuse.ensures.one refl refl refl

pub returns-in-Err-2-clause-refused : goal.returns-in-Err-2-clause-refused
returns-in-Err-2-clause-refused g c = λ is. (c.in-Err.refusal, first_refusal g c, c.refuse.ensures.written is)

pub returns-in-Err-2-clause-write_fault : goal.returns-in-Err-2-clause-write_fault
returns-in-Err-2-clause-write_fault g c = c.refuse.ensures.fault

pub returns-in-Err-2-clause-front : goal.returns-in-Err-2-clause-front
returns-in-Err-2-clause-front g c = λ is. (refused_line c.in-Err.refusal, inr (c.in-Err.refusal, first_refusal g c, refl), c.refuse.ensures.front is)

pub returns-in-Err-2-clause-other_ports : goal.returns-in-Err-2-clause-other_ports
returns-in-Err-2-clause-other_ports g c = λ kept sections says. absurd (some_is_no_none (first_refusal g c) says.faultless)

pub returns-in-Ok-carry_script-clause-ran : goal.returns-in-Ok-carry_script-clause-ran
returns-in-Ok-carry_script-clause-ran g c = λ is. (sections_of c.in-Ok.script, c.in-Ok.ensures.ok, (c.in-Ok-carry_script.text.items, subst (λ text. Appends (g.K.Sink.held c.args.sink.now) (g.K.Sink.held c.finish.new.sink) text) c.deref.ensures.value (c.finish.ensures.written is), c.in-Ok-carry_script.ensures.came))

pub returns-in-Ok-carry_script-clause-front : goal.returns-in-Ok-carry_script-clause-front
returns-in-Ok-carry_script-clause-front g c = λ is. (c.in-Ok-carry_script.text.items, inl (sections_of c.in-Ok.script, c.in-Ok.ensures.ok, c.in-Ok-carry_script.ensures.came), subst (λ text. AppendsFront (g.K.Sink.held c.args.sink.now) (g.K.Sink.held c.finish.new.sink) text) c.deref.ensures.value (c.finish.ensures.front is))

pub returns-in-Ok-carry_script-clause-write_fault : goal.returns-in-Ok-carry_script-clause-write_fault
returns-in-Ok-carry_script-clause-write_fault g c = c.finish.ensures.fault

pub returns-in-Ok-carry_script-clause-refused : goal.returns-in-Ok-carry_script-clause-refused
returns-in-Ok-carry_script-clause-refused g c = λ is. absurd (no_third c.finish.ensures.one refl refl is)

pub returns-in-Ok-carry_script-clause-no_memory : goal.returns-in-Ok-carry_script-clause-no_memory
returns-in-Ok-carry_script-clause-no_memory g c = λ is. absurd (no_third c.finish.ensures.one refl refl is)

pub returns-in-Ok-carry_script-clause-refused_only_ports : goal.returns-in-Ok-carry_script-clause-refused_only_ports
returns-in-Ok-carry_script-clause-refused_only_ports g c = λ is. absurd (no_third c.finish.ensures.one refl refl is)

pub returns-in-Ok-carry_script-clause-no_usage : goal.returns-in-Ok-carry_script-clause-no_usage
returns-in-Ok-carry_script-clause-no_usage g c = no_third c.finish.ensures.one refl refl

pub returns-in-Ok-carry_script-clause-no_no : goal.returns-in-Ok-carry_script-clause-no_no
returns-in-Ok-carry_script-clause-no_no g c = no_third c.finish.ensures.one refl refl

pub returns-in-Ok-carry_script-clause-no_read_fault : goal.returns-in-Ok-carry_script-clause-no_read_fault
returns-in-Ok-carry_script-clause-no_read_fault g c = no_third c.finish.ensures.one refl refl

pub returns-in-Ok-carry_script-clause-refused_ports : goal.returns-in-Ok-carry_script-clause-refused_ports
returns-in-Ok-carry_script-clause-refused_ports g c = λ kept refusal fault. absurd (some_is_no_none fault c.in-Ok.ensures.ok.faultless)

pub returns-in-Ok-carry_script-clause-ports_there : goal.returns-in-Ok-carry_script-clause-ports_there
returns-in-Ok-carry_script-clause-ports_there g c = λ kept. c.in-Ok-carry_script.ensures.there

pub returns-in-Ok-carry_script-clause-other_ports : goal.returns-in-Ok-carry_script-clause-other_ports
returns-in-Ok-carry_script-clause-other_ports g c = λ kept sections says.
    subst (λ s. OthersLearn g.D.Port.Port.maps g.D.Port.Port.maps_left g.D.Port.Port.told g.D.Port.Port.faults s c.args.ports.now c.carry_script.new.ports) (c.in-Ok.ensures.ok.says ∙ sym says.says) c.in-Ok-carry_script.ensures.others
