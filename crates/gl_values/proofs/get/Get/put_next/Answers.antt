use Rattle.gl_client.proofs.Programs.{given_then}
use Rattle.gl_values.proofs.Staying.{on_err, get_stays}
use Rattle.gl_values.proofs.get.Get.put_next.Goals as goal

pub returns-in-Begin-clause-goes : goal.returns-in-Begin-clause-goes
returns-in-Begin-clause-goes c =
    let h = c.go_on.ensures _ c.in_ok-put_first-in-Begin.ensures.goes in
    let stays = c.in_ok-put_first-in-Begin.ensures.stays in
    rw c.in-Begin.is (rw stays.opts at (rw stays.made at h))

pub returns-in-Finding-clause-goes : goal.returns-in-Finding-clause-goes
returns-in-Finding-clause-goes c =
    let h = c.go_on-in-Finding.ensures _ c.in_ok-put_next-in-Finding.ensures.goes in
    let stays = c.in_ok-put_next-in-Finding.ensures.stays in
    rw c.in-Finding.is (rw given_then (rw stays.opts at (rw stays.made at h)))

pub returns-in_err-put_next-in-Finding-clause-kept : goal.returns-in_err-put_next-in-Finding-clause-kept
returns-in_err-put_next-in-Finding-clause-kept c =
    let failed = c.in_err-put_next-in-Finding.ensures in
    on_err _ _ (get_stays c.args.self.now.finder c.put_next.new.self failed.stays c.args.self.now.stage c.in-Finding.is failed.kept)
