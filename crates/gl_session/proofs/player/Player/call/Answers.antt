use Rattle.std.proofs.Common.{ℕ, List, Option, sym, subst, ap, ◌∙◌}
use Rattle.gl_asking.specs.Asking.{files_behind}
use Rattle.gl_asking.specs.Rows.{IsSomeRow, file_of, kind_of}
use Rattle.gl_asking.specs.declared.kinds.Asking.TheVariants.{Calls}
use Rattle.gl_asking.specs.declared.kinds.FileRow.{FileRow}
use Rattle.gl_chip.specs.Held.{kind_in, row_in}
use Rattle.gl_chip.specs.Orders.{FitsOut}
use Rattle.gl_check.specs.Drivers.{driver_kind}
use Rattle.gl_model.specs.declared.device_call.DeviceCall.{DeviceCall}
use Rattle.gl_model.specs.declared.reply.Reply.{Reply}
use Rattle.gl_session.specs.Asked.{HasAnswered, MayLearn, with_files}
use Rattle.gl_driver.specs.declared.map.Map.{Map}
use Rattle.gl_session.specs.Placed.{AreFilesPlaced, AreMapsPlaced}
use Rattle.gl_session.proofs.Joins.{may_learn}
use Rattle.gl_session.proofs.Performing.{called_answers, could_not_answer}
use Rattle.gl_session.proofs.Placing.{call_placed, files_later}
use Rattle.gl_session.proofs.Suiting.{suits_call}
use Rattle.gl_session.proofs.player.Player.call.Goals as goal

pub make-requires-clause-fits : goal.make-requires-clause-fits
make-requires-clause-fits g c κs within =
    let asked = c.requires.asks in
    let suits = suits_call c.args.self.now.carried.maps asked.0 (row_in c.args.order.file) c.args.what.now c.args.order.call.now c.requires.row asked.1 asked.2 in
    record {
      device = c.requires.fits;
      file = suits.file;
      buffer = subst (λ (b : List ℕ). FitsOut c.args.order.call.now b) (sym c.requires.buffer) suits.buffer;
    }

pub change_by-requires-clause-asks : goal.change_by-requires-clause-asks
change_by-requires-clause-asks g c =
    let asked = c.requires.asks in
    (c.args.self.now.carried.maps, asked.0, asked.1 ∙ ap (λ (r : Option FileRow). file_of r) (sym c.in-Ok.ensures.file), ap (λ (d : DeviceCall). Calls d) c.in-Ok.ensures.call ∙ asked.2)

pub change_by-requires-clause-within : goal.change_by-requires-clause-within
change_by-requires-clause-within g c =
    let asked = c.requires.asks in let made = c.in-Ok.ensures.made in
    let suits = suits_call c.args.self.now.carried.maps asked.0 (row_in c.args.order.file) c.args.what.now c.args.order.call.now c.requires.row asked.1 asked.2 in
    suits.opens g.D.Driver.ENTRIES c.args.self.now.view c.make.new.self.view c.in-Ok.answer.answered.reply made.0 made.2.called c.in-Ok.ensures.form

pub change_by-requires-clause-named : goal.change_by-requires-clause-named
change_by-requires-clause-named g c =
    let asked = c.requires.asks in
    let suits = suits_call c.args.self.now.carried.maps asked.0 (row_in c.args.order.file) c.args.what.now c.args.order.call.now c.requires.row asked.1 asked.2 in
    suits.named (row_in c.in-Ok.answer.order.file) c.in-Ok.answer.answered (ap (λ (r : Option FileRow). kind_of r) c.in-Ok.ensures.file) c.in-Ok.ensures.lines

pub change_by-requires-clause-row : goal.change_by-requires-clause-row
change_by-requires-clause-row g c = subst (λ (r : Option FileRow). IsSomeRow r) (sym c.in-Ok.ensures.file) c.requires.row

pub returns-in-Ok-clause-changed : goal.returns-in-Ok-clause-changed
returns-in-Ok-clause-changed g c = λ all found.
    c.change_by.ensures.told all (found ∙ ap (λ (r : Option FileRow). file_of r) (sym c.in-Ok.ensures.file)) ∙ ap (λ (reply : Reply). files_behind c.args.what.now reply all) (sym c.reply.ensures)

pub returns-in-Ok-clause-placed : goal.returns-in-Ok-clause-placed
returns-in-Ok-clause-placed g c = λ all asks placed.
    let made = c.in-Ok.ensures.made in
    subst (λ (reply : Reply). AreFilesPlaced c.make.new.self.view.seen (files_behind c.args.what.now reply all)) (sym c.reply.ensures)
    (call_placed g.D.Driver.ENTRIES c.args.self.now.view c.make.new.self.view c.args.self.now.carried.maps all c.args.what.now c.args.order.call.now (kind_in c.args.order.file) c.in-Ok.answer.answered.reply made.0
    asks made.2.called c.in-Ok.ensures.form (files_later _ _ all c.make.ensures.later placed))

pub returns-in-Ok-clause-may_learn : goal.returns-in-Ok-clause-may_learn
returns-in-Ok-clause-may_learn g c = λ all asks placed.
    let made = c.in-Ok.ensures.made in
    subst (λ (reply : Reply). MayLearn reply c.args.what.now all c.args.self.now.carried.maps c.make.new.self.view.seen) (sym c.reply.ensures)
    (may_learn g.D.Driver.ENTRIES c.args.self.now.view c.make.new.self.view c.args.self.now.carried.maps all made.0 placed
    (subst (λ (l : List Map). AreMapsPlaced c.args.self.now.view.seen l) c.maps-maps.ensures.kept c.maps-maps.ensures.placed) c.args.what.now c.args.order.call.now c.in-Ok.answer.answered.reply asks made.2.called)

pub returns-in-Ok-clause-answers : goal.returns-in-Ok-clause-answers
returns-in-Ok-clause-answers g c = λ all found asks.
    let suits = suits_call c.args.self.now.carried.maps all (row_in c.args.order.file) c.args.what.now c.args.order.call.now c.requires.row found asks in
    subst (λ (reply : Reply). HasAnswered (driver_kind g.D.Driver.ENTRIES g.D.Driver.is_planned g.D.Driver.OwnEntries g.D.Driver.Follows) c.args.what.now c.args.self.now.view (with_files all c.args.self.now.carried) reply c.make.new.out c.make.new.self.view c.make.new.self.carried.told) (sym c.reply.ensures)
    (called_answers (driver_kind g.D.Driver.ENTRIES g.D.Driver.is_planned g.D.Driver.OwnEntries g.D.Driver.Follows) c.args.what.now c.args.self.now.view c.make.new.self.view (with_files all c.args.self.now.carried) c.make.new.self.carried.told
    c.args.order.call.now (kind_in c.args.order.file) c.in-Ok.answer.answered.reply c.args.out.now c.make.new.out asks suits c.requires.buffer c.in-Ok.ensures.made)

pub returns-in-Err-clause-answers : goal.returns-in-Err-clause-answers
returns-in-Err-clause-answers g c = λ all found asks.
    could_not_answer (driver_kind g.D.Driver.ENTRIES g.D.Driver.is_planned g.D.Driver.OwnEntries g.D.Driver.Follows) c.args.what.now c.args.self.now.view c.make.new.self.view (with_files all c.args.self.now.carried) c.make.new.self.carried.told c.args.order.call.now c.in-Err.errno asks c.in-Err.ensures.could_not
