use Rattle.std.proofs.Common.{◌∙◌, List, ℕ, ap, arith, subst, sym}
use Rattle.gl_base.specs.Name.{field_of}
use Rattle.gl_uapi.specs.declared.line_infos.Info.{Info}
use Rattle.gl_uapi.specs.Fields.{number_bytes, overwritten}
use Rattle.gl_uapi.specs.LineInfo.{SpellsInfo, attribute_count, attribute_id, info_bytes}
use Rattle.gl_uapi.proofs.Writing.{Written, front_written, nothing_written, number_written, piece_written, zeros_written}
use Rattle.gl_uapi.proofs.InfoLaws.{info_spelled, length-info_bytes}
use Rattle.gl_uapi.proofs.line_infos.write_line_info.Goals as goal

pub returns-clause-bytes : goal.returns-clause-bytes
returns-clause-bytes c =
    let info : Info = c.args.info.now in
    let name = piece_written (nothing_written c.args.out.now) (field_of info.name) c.put_name.new.out 32 c.put_name.ensures.long c.put_name.ensures.field in
    let consumer = piece_written name (field_of info.consumer) c.put_name-2.new.out 32 c.put_name-2.ensures.long c.put_name-2.ensures.field in
    let offset = number_written consumer 4 info.offset c.put_u32.new.out c.put_u32.ensures in
    let count = number_written offset 4 (attribute_count info.period) c.put_u32-2.new.out
    (c.put_u32-2.ensures ∙ ap (λ n. overwritten 68 (number_bytes 4 n) c.put_u32.new.out) c.attribute_of-count.ensures.count) in
    let flags = number_written count 8 info.flags c.put_u64.new.out c.put_u64.ensures in
    let id = number_written flags 4 (attribute_id info.period) c.put_u32-3.new.out
    (c.put_u32-3.ensures ∙ ap (λ n. overwritten 80 (number_bytes 4 n) c.put_u64.new.out) c.attribute_of-count.ensures.id) in
    let padding = zeros_written id 4 c.put_zeros.new.out c.put_zeros.ensures in
    let period = number_written padding 4 info.period c.put_u32-4.new.out c.put_u32-4.ensures in
    (zeros_written period 164 c.put_zeros-2.new.out c.put_zeros-2.ensures).holds

pub returns-clause-spelled : goal.returns-clause-spelled
returns-clause-spelled c =
    let info : Info = c.args.info.now in
    let Spelled : List ℕ → Type 0 = λ bytes. SpellsInfo bytes info in
    let whole : Written (info_bytes info) c.args.out.now 256 c.put_zeros-2.new.out = record {
      long = length-info_bytes info c.put_name.ensures.long c.put_name-2.ensures.long;
      holds = returns-clause-bytes c;
    } in
    subst Spelled (sym (front_written whole))
    (info_spelled info c.put_name.ensures.long c.put_name-2.ensures.long (omega arith) (omega arith) (omega arith))
