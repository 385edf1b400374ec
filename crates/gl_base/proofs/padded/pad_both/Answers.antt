use Rattle.std.proofs.Common.{◌++◌, ◌+◌, ◌-◌, length, drop, replicate, ap, ◌∙◌}
use Rattle.gl_base.proofs.Padding.{padded-both}
use Rattle.gl_base.proofs.padded.pad_both.Goals as goal
use borrow.Rule.Slice.PartMut.{put_mid}

pub returns : goal.returns
returns g c =
    let first = c.args.first.now in
    let second = c.args.second.now in
    let end = length first + length second - length first in
    ap (λ xs. put_mid (length first) end (xs ++ drop (length first) (replicate g.row.N 0)) c.copy_from_slice-2.new.self) c.copy_from_slice.ensures.after
    ∙ ap (λ ys. put_mid (length first) end (first ++ drop (length first) (replicate g.row.N 0)) ys) c.copy_from_slice-2.ensures.after
    ∙ padded-both g.row.N first second c.requires
