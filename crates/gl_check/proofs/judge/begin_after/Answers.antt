use Rattle.std.proofs.Common.{◌≡◌, ℕ, List, [], None, true, sym, ap, subst, ◌∙◌, arith}
use Rattle.std.proofs.lemmas.Bool.{true≢false}
use Rattle.std.proofs.lemmas.List.{length-map}
use Rattle.gl_base.specs.Words.{Span}
use Rattle.gl_client.specs.Program.{given}
use Rattle.gl_talk.specs.Over.{columns_in}
use Rattle.gl_check.specs.Seating.{IsKept, bearing_by, left_by, seat_in}
use Rattle.gl_check.specs.Seats.{Seat as SeatOf, settles}
use Rattle.gl_check.proofs.Moves.{after_begins}
use Rattle.gl_check.proofs.judge.begin_after.Goals as goal

pub settle-requires : goal.settle-requires
settle-requires c =
    let kept = c.requires.kept in record {
      going = record {
        rows = kept.2.going.rows;
        begun = omega (arith, c.leave_setup.ensures.counted, kept.2.going.begun, kept.1, length-map c.args.all.now columns_in);
        stays_open = λ never. absurd (true≢false never);
      };
    }

pub returns-in-Ok-clause-first : goal.returns-in-Ok-clause-first
returns-in-Ok-clause-first c = λ sections m as_all first.
    let s = c.args.first.now in
    let talk = c.leave_setup.new.self in
    let text : c.replace.new.dest.items ≡ [] = ap (λ v. v.items) c.replace.ensures.after ∙ c.new.ensures.items in (
      ap (λ (w : List (List Span)). seat_in true w c.settle.new.self) (sym as_all)
          ∙ c.in-Ok.ensures.seat
          ∙ ap (λ (x : List (List Span) × List ℕ). settles (given (left_by true x.0 talk s.closes) None) (bearing_by s.rows.items s.port) x.1) (λ i. (as_all i, text i))
          ∙ after_begins sections s talk c.args.printed.now.items m first (sym c.is_ended.ensures ∙ c.if-not-is_ended.false) c.leave_setup.ensures.left c.leave_setup.ensures.counted,
      subst (λ (w : List (List Span)). IsKept true w c.settle.new.self) as_all c.in-Ok.ensures.kept,
      ap (λ v. v.items) c.replace.ensures.value ∙ ap (λ (t : SeatOf). t.text) first.0,
    )
