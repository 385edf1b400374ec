use Rattle.std.proofs.Common.{◌≡◌, List, Option, refl, sym, ap, subst, ◌∙◌}
use Rattle.std.specs.Prelude.{IfOk}
use Rattle.gl_base.specs.declared.operation.Do.{Do}
use Rattle.gl_model.specs.declared.device_call.DeviceCall.{DeviceCall}
use Rattle.gl_model.specs.declared.reply.Reply.TheVariants.{Done, Refused}
use Rattle.gl_asking.specs.Asking.{file_for, files_behind}
use Rattle.gl_asking.specs.Changes.{changed}
use Rattle.gl_asking.specs.Files.{OpenFile}
use Rattle.gl_asking.specs.Fitting.{FitsAsking, FitsDevice}
use Rattle.gl_asking.specs.Rows.{AsksOn, IsSomeRow, file_of}
use Rattle.gl_asking.specs.declared.kinds.Asking.{Asking}
use Rattle.gl_asking.specs.declared.kinds.Asking.TheVariants.{Calls, Plans, Accepts, Refuses}
use Rattle.gl_asking.specs.declared.kinds.FileRow.{FileRow}
use Rattle.gl_chip.specs.Held.{row_in}
use Rattle.gl_chip.specs.Values.{OneView}
use Rattle.gl_check.specs.Drivers.{driver_kind}
use Rattle.gl_session.specs.Asked.{with_files}
use Rattle.gl_session.specs.Placed.{AreFilesPlaced}
use Rattle.gl_session.proofs.Asked.{accepted_leaves, closes_given, left_placed, planned_leaves, refused_leaves}
use Rattle.gl_session.proofs.Performing.{alone_answers}
use Rattle.gl_session.proofs.Placing.{begins_same}
use Rattle.gl_session.proofs.player.Player.ask.Goals as goal

pub of-requires : goal.of-requires
of-requires g c =
    let all : List OpenFile = c.args.files.now in let what : Do = c.args.what.now in
    let found : file_for what all ≡ file_of (row_in c.handed-handed.result) = c.handed-handed.ensures.found all c.give_up-given.ensures.left c.give_up-given.ensures.given in
    let told = c.asking-asking.ensures.told all c.give_up-given.ensures.left (found ∙ ap (λ (r : Option FileRow). file_of r) (sym c.row.ensures)) in
    record {
      on =
          subst (λ (a : Asking). AsksOn (row_in c.handed-handed.result) a) c.in-Calls.is
          (subst (λ (r : Option FileRow). AsksOn r c.asking-asking.result) c.row.ensures (c.asking-asking.ensures.on all (found ∙ ap (λ (r : Option FileRow). file_of r) (sym c.row.ensures))));
      given_up = c.handed-handed.ensures.given_up ∙ closes_given c.args.self.now.carried.maps all what c.give_up-given.result c.in-Calls.call c.give_up-given.ensures.given (sym c.in-Calls.is ∙ told);
    }

pub call-requires-clause-row : goal.call-requires-clause-row
call-requires-clause-row g c κs within = subst (λ (r : Option FileRow). IsSomeRow r) (sym c.of.ensures.file) c.handed-handed.ensures.row

pub call-requires-clause-fits : goal.call-requires-clause-fits
call-requires-clause-fits g c κs within = subst (λ (d : DeviceCall). FitsDevice d) (sym c.of.ensures.call) (subst (λ (a : Asking). FitsAsking a) c.in-Calls.is c.asking-asking.ensures.fits)

pub call-requires-clause-asks : goal.call-requires-clause-asks
call-requires-clause-asks g c κs within =
    let all : List OpenFile = c.args.files.now in let what : Do = c.args.what.now in
    let found : file_for what all ≡ file_of (row_in c.handed-handed.result) = c.handed-handed.ensures.found all c.give_up-given.ensures.left c.give_up-given.ensures.given in
    let told = c.asking-asking.ensures.told all c.give_up-given.ensures.left (found ∙ ap (λ (r : Option FileRow). file_of r) (sym c.row.ensures)) in
    (all, found ∙ ap (λ (r : Option FileRow). file_of r) (sym c.of.ensures.file), ap (λ (d : DeviceCall). Calls d) c.of.ensures.call ∙ sym c.in-Calls.is ∙ told)

pub returns-in-Calls-clause-changed : goal.returns-in-Calls-clause-changed
returns-in-Calls-clause-changed g c =
    let all : List OpenFile = c.args.files.now in let what : Do = c.args.what.now in
    let found : file_for what all ≡ file_of (row_in c.handed-handed.result) = c.handed-handed.ensures.found all c.give_up-given.ensures.left c.give_up-given.ensures.given in
    let told = c.asking-asking.ensures.told all c.give_up-given.ensures.left (found ∙ ap (λ (r : Option FileRow). file_of r) (sym c.row.ensures)) in
    subst (λ (files : List OpenFile). IfOk c.call.result (λ asked. changed asked.1 files ≡ files_behind what asked.0 all)) (sym c.give_up-given.ensures.left)
    (c.call.ensures.changed all (found ∙ ap (λ (r : Option FileRow). file_of r) (sym c.of.ensures.file)))

pub returns-in-Calls-clause-placed : goal.returns-in-Calls-clause-placed
returns-in-Calls-clause-placed g c =
    let all : List OpenFile = c.args.files.now in let what : Do = c.args.what.now in
    let found : file_for what all ≡ file_of (row_in c.handed-handed.result) = c.handed-handed.ensures.found all c.give_up-given.ensures.left c.give_up-given.ensures.given in
    let told = c.asking-asking.ensures.told all c.give_up-given.ensures.left (found ∙ ap (λ (r : Option FileRow). file_of r) (sym c.row.ensures)) in
    c.call.ensures.placed all (ap (λ (d : DeviceCall). Calls d) c.of.ensures.call ∙ sym c.in-Calls.is ∙ told) c.requires.placed

pub returns-in-Calls-clause-may_learn : goal.returns-in-Calls-clause-may_learn
returns-in-Calls-clause-may_learn g c =
    let all : List OpenFile = c.args.files.now in let what : Do = c.args.what.now in
    let found : file_for what all ≡ file_of (row_in c.handed-handed.result) = c.handed-handed.ensures.found all c.give_up-given.ensures.left c.give_up-given.ensures.given in
    let told = c.asking-asking.ensures.told all c.give_up-given.ensures.left (found ∙ ap (λ (r : Option FileRow). file_of r) (sym c.row.ensures)) in
    c.call.ensures.may_learn all (ap (λ (d : DeviceCall). Calls d) c.of.ensures.call ∙ sym c.in-Calls.is ∙ told) c.requires.placed

pub returns-in-Calls-clause-answers : goal.returns-in-Calls-clause-answers
returns-in-Calls-clause-answers g c =
    let all : List OpenFile = c.args.files.now in let what : Do = c.args.what.now in
    let found : file_for what all ≡ file_of (row_in c.handed-handed.result) = c.handed-handed.ensures.found all c.give_up-given.ensures.left c.give_up-given.ensures.given in
    let told = c.asking-asking.ensures.told all c.give_up-given.ensures.left (found ∙ ap (λ (r : Option FileRow). file_of r) (sym c.row.ensures)) in
    c.call.ensures.answers all (found ∙ ap (λ (r : Option FileRow). file_of r) (sym c.of.ensures.file)) (ap (λ (d : DeviceCall). Calls d) c.of.ensures.call ∙ sym c.in-Calls.is ∙ told)

pub returns-in-Plans-clause-later : goal.returns-in-Plans-clause-later
returns-in-Plans-clause-later g c = begins_same _ _ (ap (λ (v : OneView). v.seen) c.plan.ensures.view)

pub returns-in-Plans-clause-changed : goal.returns-in-Plans-clause-changed
returns-in-Plans-clause-changed g c =
    let all : List OpenFile = c.args.files.now in let what : Do = c.args.what.now in
    let found : file_for what all ≡ file_of (row_in c.handed-handed.result) = c.handed-handed.ensures.found all c.give_up-given.ensures.left c.give_up-given.ensures.given in
    let told = c.asking-asking.ensures.told all c.give_up-given.ensures.left (found ∙ ap (λ (r : Option FileRow). file_of r) (sym c.row.ensures)) in
    c.give_up-given.ensures.left ∙ planned_leaves c.args.self.now.carried.maps all what c.in-Plans.nth (sym c.in-Plans.is ∙ told)

pub returns-in-Plans-clause-placed : goal.returns-in-Plans-clause-placed
returns-in-Plans-clause-placed g c =
    let all : List OpenFile = c.args.files.now in let what : Do = c.args.what.now in
    let found : file_for what all ≡ file_of (row_in c.handed-handed.result) = c.handed-handed.ensures.found all c.give_up-given.ensures.left c.give_up-given.ensures.given in
    let told = c.asking-asking.ensures.told all c.give_up-given.ensures.left (found ∙ ap (λ (r : Option FileRow). file_of r) (sym c.row.ensures)) in
    subst (λ (x : OneView × List OpenFile). AreFilesPlaced x.0.seen x.1) (λ i. (sym c.plan.ensures.view i, planned_leaves c.args.self.now.carried.maps all what c.in-Plans.nth (sym c.in-Plans.is ∙ told) i))
    (left_placed c.args.self.now.view.seen what all c.requires.placed)

pub returns-in-Plans-clause-answers : goal.returns-in-Plans-clause-answers
returns-in-Plans-clause-answers g c =
    let all : List OpenFile = c.args.files.now in let what : Do = c.args.what.now in
    let found : file_for what all ≡ file_of (row_in c.handed-handed.result) = c.handed-handed.ensures.found all c.give_up-given.ensures.left c.give_up-given.ensures.given in
    let told = c.asking-asking.ensures.told all c.give_up-given.ensures.left (found ∙ ap (λ (r : Option FileRow). file_of r) (sym c.row.ensures)) in
    alone_answers (driver_kind g.D.Driver.ENTRIES g.D.Driver.is_planned g.D.Driver.OwnEntries g.D.Driver.Follows) what c.args.self.now.view c.plan.new.self.view (with_files all c.args.self.now.carried) c.plan.new.self.carried.told
    (Plans c.in-Plans.nth) Done c.args.out.now (sym c.in-Plans.is ∙ told) c.plan.ensures.view c.requires.buffer (record { did = refl; reply_is = refl; bytes_are = refl }, c.plan.ensures.told)

pub returns-in-Accepts-clause-later : goal.returns-in-Accepts-clause-later
returns-in-Accepts-clause-later g c = begins_same _ _ (ap (λ (v : OneView). v.seen) c.accept.ensures.view)

pub returns-in-Accepts-clause-changed : goal.returns-in-Accepts-clause-changed
returns-in-Accepts-clause-changed g c =
    let all : List OpenFile = c.args.files.now in let what : Do = c.args.what.now in
    let found : file_for what all ≡ file_of (row_in c.handed-handed.result) = c.handed-handed.ensures.found all c.give_up-given.ensures.left c.give_up-given.ensures.given in
    let told = c.asking-asking.ensures.told all c.give_up-given.ensures.left (found ∙ ap (λ (r : Option FileRow). file_of r) (sym c.row.ensures)) in
    c.give_up-given.ensures.left ∙ accepted_leaves c.args.self.now.carried.maps all what c.in-Accepts.bits (sym c.in-Accepts.is ∙ told)

pub returns-in-Accepts-clause-placed : goal.returns-in-Accepts-clause-placed
returns-in-Accepts-clause-placed g c =
    let all : List OpenFile = c.args.files.now in let what : Do = c.args.what.now in
    let found : file_for what all ≡ file_of (row_in c.handed-handed.result) = c.handed-handed.ensures.found all c.give_up-given.ensures.left c.give_up-given.ensures.given in
    let told = c.asking-asking.ensures.told all c.give_up-given.ensures.left (found ∙ ap (λ (r : Option FileRow). file_of r) (sym c.row.ensures)) in
    subst (λ (x : OneView × List OpenFile). AreFilesPlaced x.0.seen x.1) (λ i. (sym c.accept.ensures.view i, accepted_leaves c.args.self.now.carried.maps all what c.in-Accepts.bits (sym c.in-Accepts.is ∙ told) i))
    (left_placed c.args.self.now.view.seen what all c.requires.placed)

pub returns-in-Accepts-clause-answers : goal.returns-in-Accepts-clause-answers
returns-in-Accepts-clause-answers g c =
    let all : List OpenFile = c.args.files.now in let what : Do = c.args.what.now in
    let found : file_for what all ≡ file_of (row_in c.handed-handed.result) = c.handed-handed.ensures.found all c.give_up-given.ensures.left c.give_up-given.ensures.given in
    let told = c.asking-asking.ensures.told all c.give_up-given.ensures.left (found ∙ ap (λ (r : Option FileRow). file_of r) (sym c.row.ensures)) in
    alone_answers (driver_kind g.D.Driver.ENTRIES g.D.Driver.is_planned g.D.Driver.OwnEntries g.D.Driver.Follows) what c.args.self.now.view c.accept.new.self.view (with_files all c.args.self.now.carried) c.accept.new.self.carried.told
    (Accepts c.in-Accepts.bits) Done c.args.out.now (sym c.in-Accepts.is ∙ told) c.accept.ensures.view c.requires.buffer (record { did = refl; reply_is = refl; bytes_are = refl }, c.accept.ensures.told)

pub returns-in-Refuses-clause-later : goal.returns-in-Refuses-clause-later
returns-in-Refuses-clause-later g c = begins_same _ _ refl

pub returns-in-Refuses-clause-changed : goal.returns-in-Refuses-clause-changed
returns-in-Refuses-clause-changed g c = c.give_up-given.ensures.left ∙ refused_leaves c.args.what.now c.in-Refuses.errno c.args.files.now

pub returns-in-Refuses-clause-placed : goal.returns-in-Refuses-clause-placed
returns-in-Refuses-clause-placed g c =
    subst (λ (l : List OpenFile). AreFilesPlaced c.args.self.now.view.seen l) (refused_leaves c.args.what.now c.in-Refuses.errno c.args.files.now)
    (left_placed c.args.self.now.view.seen c.args.what.now c.args.files.now c.requires.placed)

pub returns-in-Refuses-clause-answers : goal.returns-in-Refuses-clause-answers
returns-in-Refuses-clause-answers g c =
    let all : List OpenFile = c.args.files.now in let what : Do = c.args.what.now in
    let found : file_for what all ≡ file_of (row_in c.handed-handed.result) = c.handed-handed.ensures.found all c.give_up-given.ensures.left c.give_up-given.ensures.given in
    let told = c.asking-asking.ensures.told all c.give_up-given.ensures.left (found ∙ ap (λ (r : Option FileRow). file_of r) (sym c.row.ensures)) in
    alone_answers (driver_kind g.D.Driver.ENTRIES g.D.Driver.is_planned g.D.Driver.OwnEntries g.D.Driver.Follows) what c.args.self.now.view c.args.self.now.view (with_files all c.args.self.now.carried) c.args.self.now.carried.told
    (Refuses c.in-Refuses.errno) (Refused c.in-Refuses.errno) c.args.out.now (sym c.in-Refuses.is ∙ told) refl c.requires.buffer (record { did = refl; reply_is = refl; bytes_are = refl }, refl)
