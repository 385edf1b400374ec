use Rattle.std.proofs.Common.{List, ℕ, subst, sym}
use Rattle.gl_base.specs.Name.{field_of}
use Rattle.gl_uapi.specs.ChipInfo.{SpellsChip, chip_bytes}
use Rattle.gl_uapi.proofs.Writing.{Written, front_written, nothing_written, number_written, piece_written}
use Rattle.gl_uapi.proofs.ChipLaws.{chip_spelled, length-chip_bytes}
use Rattle.gl_uapi.proofs.chip_infos.write_chip_info.Goals as goal

pub returns-clause-bytes : goal.returns-clause-bytes
returns-clause-bytes c =
    let name = piece_written (nothing_written c.args.out.now) (field_of c.args.name.now) c.put_name.new.out 32 c.put_name.ensures.long c.put_name.ensures.field in
    let label = piece_written name (field_of c.args.label.now) c.put_name-2.new.out 32 c.put_name-2.ensures.long c.put_name-2.ensures.field in
    (number_written label 4 c.args.lines c.put_u32.new.out c.put_u32.ensures).holds

pub returns-clause-spelled : goal.returns-clause-spelled
returns-clause-spelled c =
    let name : List ℕ = c.args.name.now in
    let label : List ℕ = c.args.label.now in
    let lines : ℕ = c.args.lines in
    let Spelled : List ℕ → Type 0 = λ bytes. SpellsChip bytes name label lines in
    let whole : Written (chip_bytes name label lines) c.args.out.now 68 c.put_u32.new.out = record {
      long = length-chip_bytes name label lines c.put_name.ensures.long c.put_name-2.ensures.long;
      holds = returns-clause-bytes c;
    } in
    subst Spelled (sym (front_written whole)) (chip_spelled name label lines c.put_name.ensures.long c.put_name-2.ensures.long c.ranges.lines.fits)
