use Rattle.std.proofs.Common.{◌-◌, length, arith}
use Rattle.gl_uapi.specs.Fields.{number_bytes}
use Rattle.gl_uapi.proofs.Writing.{overwritten_part}
use Rattle.gl_uapi.proofs.fields.put_u64.Goals as goal

pub returns : goal.returns
unfolding number_bytes
returns c =
    overwritten_part c.args.offset (length c.args.out.now - c.args.offset) c.args.out.now (number_bytes 8 c.args.number) c.write_u64.new.buf (omega arith) (omega arith) c.write_u64.ensures
