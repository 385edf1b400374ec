use Rattle.gl_uapi.specs.declared.layout.TheConstants.{LINE_REQUEST_SIZE}
use Rattle.gl_core.proofs.Replaying.{start_copied}
use Rattle.gl_core.proofs.fits.copy_start.Goals as goal

pub returns-clause-start : goal.returns-clause-start
returns-clause-start c =
    start_copied LINE_REQUEST_SIZE c.min-count.result c.copy_from_slice.new.self c.args.bytes.now c.args.buffer.now
    c.min-count.ensures c.copy_from_slice.ensures.after c.told-bytes
