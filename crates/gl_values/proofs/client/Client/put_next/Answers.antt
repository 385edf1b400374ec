use Rattle.std.proofs.Common.{refl}
use Rattle.gl_client.proofs.Programs.{given_then}
use Rattle.gl_values.specs.Detect.{left}
use Rattle.gl_values.specs.Get.{get_left}
use Rattle.gl_values.specs.Info.{info_left}
use Rattle.gl_values.proofs.client.Client.put_next.Goals as goal

pub returns-in_ok-put_next-in-Detect-clause-goes : goal.returns-in_ok-put_next-in-Detect-clause-goes
returns-in_ok-put_next-in-Detect-clause-goes c =
    rw c.in-Detect.is (rw given_then (c.behind.ensures.goes _ (left c.put_next.new.self) refl c.in_ok-put_next-in-Detect.ensures.goes))

pub returns-in_ok-put_next-in-Info-clause-goes : goal.returns-in_ok-put_next-in-Info-clause-goes
returns-in_ok-put_next-in-Info-clause-goes c =
    rw c.in-Info.is (rw given_then (c.behind-in-Info.ensures.goes _ (info_left c.put_next-in-Info.new.self) refl c.in_ok-put_next-in-Info.ensures.goes))

pub returns-in_ok-put_next-in-Get-clause-goes : goal.returns-in_ok-put_next-in-Get-clause-goes
returns-in_ok-put_next-in-Get-clause-goes c =
    rw c.in-Get.is (rw given_then (c.behind-in-Get.ensures.goes _ (get_left c.put_next-in-Get.new.self) refl c.in_ok-put_next-in-Get.ensures.goes))
