-- The structures of the first uAPI have room in those of v2.
use Rattle.std.proofs.Common.{◌≤◌, arith}
use Rattle.gl_v1.specs.declared.commands.CommandV1.{CommandV1}
use Rattle.gl_v1.specs.declared.commands.CommandV1.TheVariants.{ChipInfo, LineInfo, LineHandle, LineEvent, GetValues, SetValues, SetConfig}
use Rattle.gl_v1.specs.Commands.{size_of}

pub size_fits : (command : CommandV1) → size_of command ≤ 592
size_fits ChipInfo = omega arith
size_fits LineInfo = omega arith
size_fits LineHandle = omega arith
size_fits LineEvent = omega arith
size_fits GetValues = omega arith
size_fits SetValues = omega arith
size_fits SetConfig = omega arith
