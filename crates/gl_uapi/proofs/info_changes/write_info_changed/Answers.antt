use Rattle.std.proofs.Common.{◌≡◌, ◌≤◌, ◌++◌, List, ℕ, ap, arith, drop, length, length-append, length-drop, subst, sym}
use Rattle.gl_uapi.specs.declared.info_changes.Changed.{Changed}
use Rattle.gl_uapi.specs.InfoChanged.{SpellsChanged, changed_bytes}
use Rattle.gl_uapi.specs.LineInfo.{SpellsInfo, info_bytes}
use Rattle.gl_uapi.proofs.Writing.{Written, front_written, number_written, zeros_written}
use Rattle.gl_uapi.proofs.ChangedLaws.{changed_spelled, length-changed_bytes}
use Rattle.gl_uapi.proofs.info_changes.write_info_changed.Goals as goal

-- an information written over the front has its length
whole_info : (info start new : List ℕ) → 288 ≤ length start → length new ≡ length start → new ≡ info ++ drop 256 start → Written info start 256 new
whole_info info start new room same after = record {
  long = omega (arith, room, same, ap length after, length-append info (drop 256 start), length-drop 256 start);
  holds = after;
}

pub returns-clause-bytes : goal.returns-clause-bytes
returns-clause-bytes c =
    let changed : Changed = c.args.changed.now in
    let info = whole_info (info_bytes changed.info) c.args.out.now c.write_line_info.new.out c.requires c.write_line_info.auto.out c.write_line_info.ensures.bytes in
    let timestamp = number_written info 8 changed.timestamp c.put_u64.new.out c.put_u64.ensures in
    let kind = number_written timestamp 4 changed.kind c.put_u32.new.out c.put_u32.ensures in
    (zeros_written kind 20 c.put_zeros.new.out c.put_zeros.ensures).holds

pub returns-clause-spelled : goal.returns-clause-spelled
returns-clause-spelled c =
    let changed : Changed = c.args.changed.now in
    let info = whole_info (info_bytes changed.info) c.args.out.now c.write_line_info.new.out c.requires c.write_line_info.auto.out c.write_line_info.ensures.bytes in
    let InfoSpelled : List ℕ → Type 0 = λ bytes. SpellsInfo bytes changed.info in
    let Spelled : List ℕ → Type 0 = λ bytes. SpellsChanged bytes changed in
    let whole : Written (changed_bytes changed) c.args.out.now 288 c.put_zeros.new.out = record {
      long = length-changed_bytes changed info.long;
      holds = returns-clause-bytes c;
    } in
    subst Spelled (sym (front_written whole))
    (changed_spelled changed info.long (subst InfoSpelled (front_written info) c.write_line_info.ensures.spelled) (omega arith) (omega arith))
