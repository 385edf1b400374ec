use Rattle.std.proofs.Common.{rules, ◌≡◌, length, ◌∙◌}
use Rattle.gl_uapi.specs.declared.layout.TheConstants.{LINE_REQUEST_SIZE}
use Rattle.gl_asking.proofs.HandedBytes.{cut_fits, cut_is_handed}
use Rattle.gl_asking.proofs.commanding.handed_of.Goals as goal

pub returns-clause-told : goal.returns-clause-told
returns-clause-told c = let long : length c.args.bytes.now ≡ LINE_REQUEST_SIZE = search rules in
    c.handed_in.ensures ∙ cut_is_handed c.min-count.result c.args.len c.args.bytes.now _ long c.min-count.ensures (search rules)

pub returns-clause-fits : goal.returns-clause-fits
returns-clause-fits c = cut_fits c.args.len c.args.bytes.now c.handed_in.result (returns-clause-told c)
