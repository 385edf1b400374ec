use Rattle.std.proofs.Common.{◌≡◌, ◌<◌, ◌+◌, ◌-◌, ℕ, List, length, map, refl, sym, subst, ap, ◌∙◌, arith}
use Rattle.std.specs.Vec.{with_items}
use Rattle.std.proofs.lemmas.List.{with_items_is}
use Rattle.gl_world.specs.Deeds.{deed_in}
use Rattle.gl_core.specs.Device.{core}
use Rattle.gl_script.specs.Script.{sections_of}
use Rattle.gl_script.specs.Section.{SaidSection}
use Rattle.gl_talk.specs.Over.{columns_in}
use Rattle.gl_check.specs.Judging.{AreSeats, actor_words}
use Rattle.gl_check.specs.Misfit.{with_other}
use Rattle.gl_check.specs.Seats.{moved}
use Rattle.gl_check.specs.declared.seat.Seat.{Seat}
use Rattle.gl_check.proofs.Moves.{other_fits, other_goes}
use Rattle.gl_check.proofs.judge.Judge.take_other.Goals as goal

pub returns-in-Ok-clause-taken : goal.returns-in-Ok-clause-taken
returns-in-Ok-clause-taken c = λ m judges.
    let sections : List SaidSection = sections_of c.args.script.now in
    let at : ℕ = c.args.entry.now.actor - 1 in
    let number : c.args.entry.now.actor ≡ c.args.entry.now.actor - 1 + 1 = (let one = c.requires.actor in omega arith) in
    let there : c.args.entry.now.actor - 1 < length c.args.self.now.others.items = (let less = c.if-at-len.false in let long = c.len.ensures in omega arith) in
    let words : map columns_in c.actor_statements-statements.result.now ≡ actor_words sections (c.args.entry.now.actor - 1 + 1)
    = c.actor_statements-statements.ensures ∙ ap (λ n. actor_words sections n) (c.from.ensures ∙ number) in
    let are : AreSeats sections c.deref_mut.result.now m.others = subst (λ (l : List Seat). AreSeats sections l m.others) (sym c.deref_mut.ensures.value) judges.others in
    record {
      fits = other_fits sections c.args.self.now m c.args.entry.now judges at number c.in-Ok.good c.if-not-self.false (c.in-Ok.ensures.fits sections m.others words are m.world judges.world);
      goes = λ so.
          let many : length c.enter_at.new.seats ≡ length c.args.self.now.others.items = c.in-Ok.ensures.as_many ∙ ap (λ (l : List Seat). length l) c.deref_mut.ensures.value in
          let held : c.args.self.now.others.len ≡ length c.args.self.now.others.items = c.args.self.now.others.ok.0 in
          let seats : (with_items c.args.self.now.others c.enter_at.new.seats).items ≡ c.enter_at.new.seats = with_items_is c.args.self.now.others c.enter_at.new.seats (many ∙ sym held) in
          other_goes sections c.args.self.now m c.args.entry.now judges at number _ c.if-not-self.false there (c.in-Ok.ensures.world m.world judges.world so)
          (subst (λ (l : List Seat). AreSeats sections l (with_other (at + 1) (moved (m.others (at + 1)) (deed_in core m.world c.args.entry.now)) m.others)) (sym seats) (c.in-Ok.ensures.others sections m.others words are m.world judges.world so))
          (ap (λ (l : List Seat). length l) seats ∙ many) refl refl refl;
    }
