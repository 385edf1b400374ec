use Rattle.std.proofs.Common.{take, sym, subst}
use Rattle.gl_uapi.specs.Command.{size_of}
use Rattle.gl_uapi.specs.declared.layout.TheConstants.{LINE_CONFIG_SIZE, LINE_VALUES_SIZE}
use Rattle.gl_model.specs.Configuring.{set_config}
use Rattle.gl_model.specs.Ioctl.{act_on}
use Rattle.gl_model.specs.OpenFiles.{on_request}
use Rattle.gl_model.specs.Values.{set_values}
use Rattle.gl_model.specs.World.{request_at}
use Rattle.gl_core.specs.Commanded.{part_of, request_command}
use Rattle.gl_model.specs.declared.call.Part.{Part}
use Rattle.gl_core.specs.declared.commanded.RequestCommand.{RequestCommand}
use Rattle.gl_core.specs.Steps.{StepsInto}
use Rattle.gl_core.proofs.Silent.{config_silent, silent, values_silent}
use Rattle.gl_core.proofs.state.State.act_on_request.Goals as goal

pub returns-in-SetConfig : goal.returns-in-SetConfig
returns-in-SetConfig c actor =
    let bytes = take LINE_CONFIG_SIZE c.args.commanded.now.bytes.now in
    let P : Part → RequestCommand → Type 0 = λ part command. StepsInto (act_on actor c.args.commanded.now.place c.args.found.fd (request_command command) (take (size_of (request_command command)) c.args.commanded.now.bytes.now) part) c.args.self.now c.set_config.new.self c.set_config.result c.args.out.now c.args.out.now in
    subst (λ (part : Part). P part c.args.command) c.requires.part (subst (λ (command : RequestCommand). P (part_of c.args.part) command) (sym c.in-SetConfig.is)
    (silent (λ w. on_request (set_config c.args.commanded.now.place c.args.found.fd bytes (part_of c.args.part)) (request_at w.requests c.args.found.fd) w) c.args.self.now c.set_config.new.self c.set_config.result c.args.out.now
    (λ w. config_silent c.args.commanded.now.place c.args.found.fd bytes (part_of c.args.part) (request_at w.requests c.args.found.fd) w) c.set_config.ensures))

pub returns-in-GetValues : goal.returns-in-GetValues
returns-in-GetValues c actor =
    let P : Part → RequestCommand → Type 0 = λ part command. StepsInto (act_on actor c.args.commanded.now.place c.args.found.fd (request_command command) (take (size_of (request_command command)) c.args.commanded.now.bytes.now) part) c.args.self.now c.args.self.now c.get_values.result c.args.out.now c.get_values.new.out in
    subst (λ (part : Part). P part c.args.command) c.requires.part (subst (λ (command : RequestCommand). P (part_of c.args.part) command) (sym c.in-GetValues.is) c.get_values.ensures)

pub returns-in-SetValues : goal.returns-in-SetValues
returns-in-SetValues c actor =
    let bytes = take LINE_VALUES_SIZE c.args.commanded.now.bytes.now in
    let P : Part → RequestCommand → Type 0 = λ part command. StepsInto (act_on actor c.args.commanded.now.place c.args.found.fd (request_command command) (take (size_of (request_command command)) c.args.commanded.now.bytes.now) part) c.args.self.now c.set_values.new.self c.set_values.result c.args.out.now c.args.out.now in
    subst (λ (part : Part). P part c.args.command) c.requires.part (subst (λ (command : RequestCommand). P (part_of c.args.part) command) (sym c.in-SetValues.is)
    (silent (λ w. on_request (set_values c.args.commanded.now.place bytes (part_of c.args.part)) (request_at w.requests c.args.found.fd) w) c.args.self.now c.set_values.new.self c.set_values.result c.args.out.now
    (λ w. values_silent c.args.commanded.now.place bytes (part_of c.args.part) (request_at w.requests c.args.found.fd) w) c.set_values.ensures))
