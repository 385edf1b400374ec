use Rattle.std.proofs.Common.{rules, ◌≡◌, [], length}
use Rattle.gl_model.specs.declared.device_call.DeviceCall.TheVariants.{Once}
use Rattle.gl_chip.proofs.GateSteps.{if_ok}
use Rattle.gl_chip.proofs.WholeCalls.{made_with_nothing}
use Rattle.gl_chip.proofs.gpio.Gpio.plain.Goals as goal

pub returns-clause-called : goal.returns-clause-called
returns-clause-called g c = let empty : length c.one_call.new.out ≡ 0 = search rules in
    if_ok c.one_call.result _ _ (λ r h. made_with_nothing c.args.actor.now.pass.view c.one_call.new.actor.pass.view (Once c.args.call.now) r [] c.one_call.new.out empty h) c.one_call.ensures.called
