use Rattle.std.proofs.Common.{List, ℕ, subst, sym}
use Rattle.gl_uapi.specs.LineValues.{SpellsValues}
use Rattle.gl_uapi.proofs.Writing.{front_written, nothing_written, number_written}
use Rattle.gl_uapi.proofs.ValuesLaws.{values_spelled}
use Rattle.gl_uapi.proofs.line_values.write_values.Goals as goal

pub returns-clause-bytes : goal.returns-clause-bytes
returns-clause-bytes c =
    let bits = number_written (nothing_written c.args.out.now) 8 c.args.bits c.put_u64.new.out c.put_u64.ensures in
    (number_written bits 8 c.args.mask c.put_u64-2.new.out c.put_u64-2.ensures).holds

pub returns-clause-spelled : goal.returns-clause-spelled
returns-clause-spelled c =
    let bits = number_written (nothing_written c.args.out.now) 8 c.args.bits c.put_u64.new.out c.put_u64.ensures in
    let whole = number_written bits 8 c.args.mask c.put_u64-2.new.out c.put_u64-2.ensures in
    let Spelled : List ℕ → Type 0 = λ bytes. SpellsValues bytes c.args.bits c.args.mask in
    subst Spelled (sym (front_written whole)) (values_spelled c.args.bits c.args.mask c.ranges.bits.fits c.ranges.mask.fits)
