use Rattle.std.proofs.Common.{◌≡◌, ℕ, List, Option, IfSome, take, true, le-leb, subst, arith}
use Rattle.std.specs.Prelude.{nat_le}
use Rattle.gl_uapi.specs.Command.{size_of}
use Rattle.gl_uapi.specs.declared.layout.TheConstants.{LINE_CONFIG_SIZE}
use Rattle.gl_chip.proofs.RequestedLines.{config_op}
use Rattle.gl_chip.proofs.driver_operations.op_on_lines.Goals as goal

pub returns-in-SetConfig-clause-op : goal.returns-in-SetConfig-clause-op
returns-in-SetConfig-clause-op c =
    let long : nat_le (size_of c.args.command) c.args.len ≡ true = le-leb (size_of c.args.command) c.args.len (omega (arith, c.if-len-size.false, c.size.ensures)) in
    config_op c.args.lines.now c.args.command c.args.len c.args.bytes.now c.unwrap.result c.settings_of.result c.in-SetConfig.is long
    (subst (λ (o : Option (List ℕ)). IfSome o (λ view. view ≡ take LINE_CONFIG_SIZE c.args.bytes.now)) c.unwrap.ensures c.of.ensures.first) c.settings_of.ensures c.requires
