use Rattle.std.proofs.Common.{length}
use Rattle.gl_driver.proofs.fake.+bits_of.Given as goal

abbrev pub decreases-bits_of : goal.decreases-bits_of
decreases-bits_of a = length a.offsets.now
