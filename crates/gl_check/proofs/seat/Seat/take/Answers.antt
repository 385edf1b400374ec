use Rattle.std.proofs.Common.{Bool, map, ap, subst, sym, ◌∙◌}
use Rattle.std.proofs.lemmas.Bool.{false≢true}
use Rattle.std.proofs.lemmas.Result.{on_ok_weaker}
use Rattle.gl_talk.specs.Over.{columns_in}
use Rattle.gl_core.specs.Device.{OneDeed}
use Rattle.gl_asking.specs.Rows.{row_file}
use Rattle.gl_check.specs.Seating.{IsAskedAt, IsFilledAt, OpensAt, OpensBefore, seat_in}
use Rattle.gl_check.specs.Seats.{Bearing, Seat as SeatOf, answers, deed}
use Rattle.gl_check.specs.declared.stand.Stand.{Stand}
use Rattle.gl_check.proofs.Settling.{moved_begun, moved_second, moved_whole}
use Rattle.gl_check.proofs.seat.Seat.take.Goals as goal

pub returns-then-begins-clause-kept : goal.returns-then-begins-clause-kept
returns-then-begins-clause-kept c =
    let kept = c.requires.kept in
    let before = subst (λ (s : Stand). OpensAt s c.args.entry.now) c.in-Before.is c.requires.opens in record {
      going = record { rows = kept.going.rows; begun = kept.going.begun; stays_open = kept.going.stays_open };
      asked = (
        subst (λ (s : Stand). IsAskedAt s) c.in-Before.is kept.asked,
        subst (λ (b : Bool). OpensBefore b c.in-Before.what c.in-Before.first c.args.entry.now) (sym c.begins.ensures ∙ c.if-begins.true) before,
      );
      ended = λ never. absurd (false≢true never);
    }

pub returns-else-begins-clause-seat : goal.returns-else-begins-clause-seat
returns-else-begins-clause-seat c = on_ok_weaker c.answer.result (λ seated wrote filled.
    seated wrote (subst (λ (s : Stand). IsFilledAt s wrote c.args.buffer.items) c.in-Before.is filled)
    ∙ sym (moved_whole (seat_in c.args.quit (map columns_in c.args.statements.now) c.args.self.now) c.in-Before.what c.in-Before.first (deed c.args.entry.now wrote) c.in-Before.is (sym c.begins.ensures ∙ c.if-begins.false)))
    c.answer.ensures.seat

pub returns-then-begins-clause-seat : goal.returns-then-begins-clause-seat
returns-then-begins-clause-seat c = λ wrote filled.
    sym (moved_begun (seat_in c.args.quit (map columns_in c.args.statements.now) c.args.self.now) c.in-Before.what c.in-Before.first (deed c.args.entry.now wrote) c.in-Before.is (sym c.begins.ensures ∙ c.if-begins.true))

pub returns-in-Between-clause-seat : goal.returns-in-Between-clause-seat
returns-in-Between-clause-seat c = on_ok_weaker c.answer-in-Between.result (λ seated wrote filled.
    let s : SeatOf = seat_in c.args.quit (map columns_in c.args.statements.now) c.args.self.now in
    let d : OneDeed = deed c.args.entry.now wrote in
    seated wrote (subst (λ (x : Stand). IsFilledAt x wrote c.args.buffer.items) c.in-Between.is filled)
    ∙ ap (λ (b : Bearing). answers c.in-Between.what s.left b s.text d) (c.pass.ensures (map row_file c.args.self.now.rows.items))
    ∙ sym (moved_second s c.in-Between.what c.in-Between.first d c.in-Between.is))
    c.answer-in-Between.ensures.seat
