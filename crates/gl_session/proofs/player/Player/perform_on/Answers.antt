use Rattle.std.proofs.Common.{◌≡◌, ◌++◌, ◌∙◌, List, drop, inl, length, rules, sym, subst, take}
use Rattle.gl_base.specs.declared.operation.Got.{Got}
use Rattle.gl_asking.specs.Changes.{IsFilled}
use Rattle.gl_asking.specs.Files.{OpenFile}
use Rattle.gl_chip.specs.Values.{OneView}
use Rattle.gl_check.specs.Drivers.{driver_kind}
use Rattle.gl_check.specs.Joining.{Maps, maps_behind}
use Rattle.gl_check.specs.Turns.{Carried, carried}
use Rattle.gl_session.specs.Asked.{MayLearn, with_files}
use Rattle.gl_session.specs.Performed.{HasPerformed}
use Rattle.gl_session.specs.Placed.{AreFilesPlaced}
use Rattle.gl_session.proofs.Asked.{learned_behind, left_placed, may_behind}
use Rattle.gl_session.proofs.Performing.{whole_again}
use Rattle.gl_session.proofs.Placing.{files_later}
use Rattle.gl_session.proofs.player.Player.perform_on.Goals as goal

pub settle-requires-clause-placed : goal.settle-requires-clause-placed
settle-requires-clause-placed g c κs within =
    subst (λ (l : List OpenFile). AreFilesPlaced c.ask.new.self.view.seen l) (sym c.ask.ensures.left)
    (left_placed c.ask.new.self.view.seen c.args.what.now c.args.files.now (files_later c.args.self.now.view.seen c.ask.new.self.view.seen c.args.files.now c.ask.ensures.later c.requires.placed))

pub returns-in-Err-ask-clause-placed : goal.returns-in-Err-ask-clause-placed
returns-in-Err-ask-clause-placed g c =
    subst (λ (l : List OpenFile). AreFilesPlaced c.ask.new.self.view.seen l) (sym c.ask.ensures.left)
    (left_placed c.ask.new.self.view.seen c.args.what.now c.args.files.now (files_later c.args.self.now.view.seen c.ask.new.self.view.seen c.args.files.now c.ask.ensures.later c.requires.placed))

pub settle-requires-clause-may_learn : goal.settle-requires-clause-may_learn
settle-requires-clause-may_learn g c κs within =
    let asked = c.in-Ok-ask.ensures in
    subst (λ (x : List OpenFile × Maps). MayLearn c.in-Ok-ask.reply c.args.what.now x.0 x.1 c.ask.new.self.view.seen) (λ i. (sym asked.changed i, sym asked.maps i))
    (may_behind c.args.what.now c.in-Ok-ask.reply c.args.files.now c.args.self.now.carried.maps c.ask.new.self.view.seen asked.may_learn)

pub returns-in-Ok-settle-clause-performs : goal.returns-in-Ok-settle-clause-performs
returns-in-Ok-settle-clause-performs g c =
    let what = c.args.what.now in let reply = c.in-Ok-ask.reply in let asked = c.in-Ok-ask.ensures in let kept = c.in-Ok-settle.ensures in let done = asked.answers in
    let whole : take c.in-Ok.buffer.len (c.ask.new.out ++ drop (length c.ask.new.out) c.in-Ok.buffer.items) ≡ c.ask.new.out = whole_again c.in-Ok.buffer.len c.ask.new.out c.in-Ok.buffer.items (search rules) (search rules) in
    let got = c.got_of.ensures done.0 (subst (λ bytes. IsFilled what done.0 bytes) (sym whole) done.2) in
    let maps : c.settle.new.self.carried.maps ≡ maps_behind what reply c.args.files.now c.args.self.now.carried.maps
    = kept.maps ∙ (λ i. maps_behind what reply (asked.changed i) (asked.maps i)) ∙ learned_behind what reply c.args.files.now c.args.self.now.carried.maps in
    subst (λ (x : Got × OneView × Carried). HasPerformed (driver_kind g.D.Driver.ENTRIES g.D.Driver.is_planned g.D.Driver.OwnEntries g.D.Driver.Follows) what c.args.self.now.view (with_files c.args.files.now c.args.self.now.carried) x.0 x.1 x.2)
    (λ i. (sym got i, sym kept.view i, carried (sym (kept.files ∙ asked.changed) i) (sym kept.told i) (sym maps i))) done.1

pub returns-in-Err-settle-clause-performs : goal.returns-in-Err-settle-clause-performs
returns-in-Err-settle-clause-performs g c = inl c.in-Err-settle.ensures.memory_alone

pub settle-requires-clause-then_placed : goal.settle-requires-clause-then_placed
settle-requires-clause-then_placed g c κs within = subst (λ (l : List OpenFile). AreFilesPlaced c.ask.new.self.view.seen l) (sym c.in-Ok-ask.ensures.changed) c.in-Ok-ask.ensures.placed
