use Rattle.std.proofs.Common.{rules, ◌≡◌, ◌^◌, ◌++◌, ℕ, List, [], length, drop, refl, subst}
use Rattle.gl_model.specs.declared.call.Call.TheVariants.{ReadEdges}
use Rattle.gl_model.specs.declared.device_call.DeviceCall.TheVariants.{Once}
use Rattle.gl_model.specs.Written.{number_answered}
use Rattle.gl_chip.specs.Called.{ComesOut}
use Rattle.gl_chip.specs.Files.{LineFile}
use Rattle.gl_asking.specs.Results.{number_of}
use Rattle.gl_chip.proofs.WholeCalls.{few_read, is_full, is_made}
use Rattle.gl_chip.proofs.gpio.Gpio.read_edges.Goals as goal

pub count-requires : goal.count-requires
count-requires g c = few_read (ReadEdges c.fd.inside.place c.fd.inside.fd (length c.args.buf.now)) c.in-Ok.reply c.args.buf.now c.one_call.new.out (2 ^ 32) refl (search rules) c.in-Ok.ensures.lengths

pub returns-in-Ok-clause-called : goal.returns-in-Ok-clause-called
returns-in-Ok-clause-called g c = let h = c.in-Ok.ensures.called in
    subst (λ (f : LineFile). (bytes : List ℕ) × (c.one_call.new.out ≡ bytes ++ drop (length bytes) c.args.buf.now)
    × ComesOut number_of c.count.result c.args.actor.now.pass.view (Once (ReadEdges f.place f.fd (length c.args.buf.now))) bytes c.one_call.new.actor.pass.view) c.fd.view_is
    (h.0, h.1, is_made number_answered c.count.result c.args.actor.now.pass.view c.one_call.new.actor.pass.view (Once (ReadEdges c.fd.inside.place c.fd.inside.fd (length c.args.buf.now))) h.0 c.in-Ok.reply c.count.ensures c.in-Ok.ensures.not_full h.2)

pub returns-clause-called : goal.returns-clause-called
returns-clause-called g c = let full = c.in-Err.ensures.full in
    ([], full.1, is_full number_answered c.in-Err.errno c.args.actor.now.pass.view c.one_call.new.actor.pass.view (Once (ReadEdges c.args.fd.now.place c.args.fd.now.fd (length c.args.buf.now))) full.0 full.2)
