use Rattle.std.proofs.Common.{◌<◌, rules, subst, sym}
use Rattle.std.proofs.lemmas.List.Sorted.{answers_always}
use Rattle.gl_request.proofs.Halving.{halved_nowhere, halved_there}
use Rattle.gl_request.proofs.table.position_of.Goals as goal

pub returns-in-Ok : goal.returns-in-Ok
returns-in-Ok c =
    sym (halved_there c.args.fd c.args.rows.now.items c.in-Ok.at c.requires (subst (λ n. c.in-Ok.at < n) c.args.rows.now.ok.0 c.in-Ok.ensures.bound)
    (c.in-Ok.ensures.position (λ row. row.fd) (answers_always _ _ _ (λ f a r g called. search rules))))

pub returns-in-Err : goal.returns-in-Err
returns-in-Err c =
    sym (halved_nowhere c.args.fd c.args.rows.now.items c.in-Err.field-0 c.requires
    (c.in-Err.ensures.position (λ row. row.fd) (answers_always _ _ _ (λ f a r g called. search rules))))
