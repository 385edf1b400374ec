use Rattle.std.proofs.Common.{◌≡◌, List, Some, map, ap, ◌∙◌}
use Rattle.std.proofs.lemmas.Result.{on_ok_weaker}
use Rattle.gl_base.specs.declared.operation.Got.{Got}
use Rattle.gl_client.specs.Program.{given}
use Rattle.gl_model.specs.declared.reply.Reply.{Reply}
use Rattle.gl_talk.specs.Over.{columns_in}
use Rattle.gl_asking.specs.Asking.{files_behind}
use Rattle.gl_asking.specs.Files.{OpenFile}
use Rattle.gl_asking.specs.Rows.{row_file}
use Rattle.gl_asking.specs.declared.kinds.FileRow.{FileRow}
use Rattle.gl_check.specs.Seating.{left_by, port_in}
use Rattle.gl_check.specs.Seats.{settles}
use Rattle.gl_check.proofs.seat.Seat.answer.Goals as goal

pub returns-clause-seat : goal.returns-clause-seat
returns-clause-seat c =
    let s = c.args.self.now in
    on_ok_weaker c.settle.result (λ seated wrote filled.
    seated
    ∙ ap (λ (x : Got × List OpenFile). settles (given (left_by c.args.quit (map columns_in c.args.statements.now) s.talk s.closes) (Some x.0)) (record { files = x.1; port = port_in s.port }) s.text.items)
    (λ i. (c.got_of-got.ensures wrote filled i, files i))) c.settle.ensures.seat
  where
    files : map row_file c.keep.new.rows.items ≡ files_behind c.args.what.now c.args.reply (map row_file c.args.self.now.rows.items)
    files = c.keep.ensures.files ∙ ap (λ (x : Reply × List FileRow). files_behind c.args.what.now x.0 (map row_file x.1)) (λ i. (c.answered_by-answered.ensures.reply i, c.reserve.ensures.items i))
