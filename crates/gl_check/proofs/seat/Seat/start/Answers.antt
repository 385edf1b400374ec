use Rattle.std.proofs.Common.{ℕ, List, map, ap, ◌∙◌}
use Rattle.gl_base.specs.Words.{Span}
use Rattle.gl_client.specs.Program.{Program}
use Rattle.gl_talk.specs.Open.{Names}
use Rattle.gl_talk.specs.Over.{columns_in}
use Rattle.gl_asking.specs.Rows.{row_file}
use Rattle.gl_asking.specs.declared.kinds.FileRow.{FileRow}
use Rattle.gl_check.specs.One.{PlannedPort}
use Rattle.gl_check.specs.Seats.{settles}
use Rattle.gl_check.proofs.Settling.{started}
use Rattle.gl_check.proofs.seat.Seat.start.Goals as goal

pub returns-in-Ok-clause-seat : goal.returns-in-Ok-clause-seat
returns-in-Ok-clause-seat c =
    let words : List (List Span) = map columns_in c.args.statements.now in
    let talk = c.in_ok-talk.ensures.ok in
    c.in-Ok.ensures.seat
    ∙ ap (λ (x : Program Names × List FileRow × PlannedPort × List ℕ). settles x.0 (record { files = map row_file x.1; port = x.2 }) x.3)
    (λ i. (started c.args.quit words c.in_ok-talk.talk talk.2 talk.1 i, c.new.ensures.items i, c.new-2.ensures i, c.new-3.ensures.items i))
