use Rattle.gl_client.proofs.Programs.{given_then}
use Rattle.gl_values.proofs.Staying.{on_err, begin_stays, finding_stays}
use Rattle.gl_values.proofs.set.Set.put_next.Goals as goal

pub returns-in-Begin-clause-goes : goal.returns-in-Begin-clause-goes
returns-in-Begin-clause-goes c =
    let h = c.go_on.ensures.goes _ c.in_ok-put_first-in-Begin.ensures.goes in
    rw c.in-Begin.is (rw c.in_ok-put_first-in-Begin.ensures.stays.made at h)

pub returns-in-Finding-clause-goes : goal.returns-in-Finding-clause-goes
returns-in-Finding-clause-goes c =
    let h = c.go_on-in-Finding.ensures.goes _ c.in_ok-put_next-in-Finding.ensures.goes in
    rw c.in-Finding.is (rw given_then (rw c.in_ok-put_next-in-Finding.ensures.stays.made at h))

pub returns-in_err-put_first-in-Begin-clause-kept : goal.returns-in_err-put_first-in-Begin-clause-kept
returns-in_err-put_first-in-Begin-clause-kept c =
    let t = c.args.self.now in
    on_err _ _ (begin_stays t.finder c.put_first.new.self c.in_err-put_first-in-Begin.ensures.stays t.hold t.stage c.in-Begin.is)

pub returns-in_err-put_next-in-Finding-clause-kept : goal.returns-in_err-put_next-in-Finding-clause-kept
returns-in_err-put_next-in-Finding-clause-kept c =
    let t = c.args.self.now in
    let failed = c.in_err-put_next-in-Finding.ensures in
    on_err _ _ (finding_stays t.finder c.put_next.new.self failed.stays t.hold t.stage c.in-Finding.is failed.kept)
