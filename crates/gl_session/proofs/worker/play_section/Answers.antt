use Rattle.std.proofs.Common.{ap, inl, inr, map, sym, subst, ⊎_elim, None, Option, List, ℕ, ◌∙◌}
use Rattle.gl_client.specs.Chips.{AsksNoChips}
use Rattle.gl_client.specs.Program.{Program, done, given}
use Rattle.gl_talk.specs.Open.{Names, no_names}
use Rattle.gl_talk.specs.Over.{columns_in}
use Rattle.gl_talk.specs.Talk.{left, names_in, says, talks}
use Rattle.gl_talk.proofs.TalkChips.{end_none}
use Rattle.gl_driver.specs.Told.{Told}
use Rattle.gl_chip.specs.Values.{OneView}
use Rattle.gl_check.specs.Drivers.{driver_kind}
use Rattle.gl_check.specs.Turns.{Carried}
use Rattle.gl_session.specs.Workers.{PlaysWhole}
use Rattle.gl_session.proofs.NoChips.{turns_stay}
use Rattle.gl_session.proofs.OutsideSetup.{outside_none}
use Rattle.gl_session.proofs.WholeSections.{plays_whole, stops_among_them, stops_behind_them}
use Rattle.gl_session.proofs.worker.play_section.Goals as goal

pub returns-in-Ok-play-clause-played : goal.returns-in-Ok-play-clause-played
returns-in-Ok-play-clause-played g c =
    let new = c.in-Ok.ensures.ok in
    let taken = c.take_text.ensures in
    subst (λ (x : List ℕ × OneView × Option Told). PlaysWhole (driver_kind g.D.Driver.ENTRIES g.D.Driver.is_planned g.D.Driver.OwnEntries g.D.Driver.Follows) (talks 0 (map columns_in c.args.statements.now) no_names) c.args.player.now.carried.maps c.args.player.now.view c.args.player.now.carried.told x.0 x.1 x.2)
    (λ i. (sym (c.of.ensures ∙ taken.text) i, sym taken.view i, ap (λ (k : Carried). k.told) (sym taken.carried) i))
    (plays_whole _ (map columns_in c.args.statements.now) _ _ _ c.args.player.now.carried.told c.play_all.new.player.carried.told c.play.new.player.carried.told c.args.player.now.carried.maps c.play_all.new.player.carried.maps c.play.new.player.carried.maps c.play_all.new.player.carried.files _ _ _ _ _ _ c.args.player.now.carried.files c.play.new.player.carried.files _ _ new.1 new.0 c.requires.new.0 c.requires.new.1 (ap (λ l. given l None) c.quit.ensures.quits) c.in-Ok-play_all.ensures.played c.in-Ok-play.ensures.played)

pub returns-in-Err-play_all-clause-stopped : goal.returns-in-Err-play_all-clause-stopped
returns-in-Err-play_all-clause-stopped g c =
    let new = c.in-Ok.ensures.ok in
    ⊎_elim (λ wanted. inl wanted)
    (λ full. inr (full.0, stops_among_them _ (map columns_in c.args.statements.now) _ _ c.args.player.now.carried.told c.args.player.now.carried.maps _ _ c.args.player.now.carried.files new.1 new.0 c.requires.new.0 full.1))
    c.in-Err-play_all.ensures.stopped

pub returns-clause-stopped : goal.returns-clause-stopped
returns-clause-stopped g c =
    let new = c.in-Ok.ensures.ok in
    ⊎_elim (λ wanted. inl wanted)
    (λ full. inr (
      full.0,
      stops_behind_them _ (map columns_in c.args.statements.now) _ _ c.args.player.now.carried.told c.args.player.now.carried.maps _ _ c.args.player.now.carried.files new.1 new.0 c.requires.new.0 _ c.play_all.new.player.carried.told c.play_all.new.player.carried.maps c.play_all.new.player.carried.files _ _ _ _ (ap (λ l. given l None) c.quit.ensures.quits) c.in-Ok-play_all.ensures.played full.1,
    ))
    c.in-Err-play.ensures.stopped

pub returns-in-Ok-play-clause-maps : goal.returns-in-Ok-play-clause-maps
returns-in-Ok-play-clause-maps g c =
    let closing_none : AsksNoChips (given (left c.quit.new.self) None) = subst (λ (p : Program Names). AsksNoChips p) (sym (ap (λ l. given l None) c.quit.ensures.quits)) (end_none (names_in c.play_all.new.talk)) in
    let none : AsksNoChips (says c.in-Ok.talk.begun (map columns_in c.args.statements.now) (λ names. done names) (names_in c.in-Ok.talk))
    = outside_none c.in-Ok.talk.begun (map columns_in c.args.statements.now) (λ names. done names) (λ names out. tt) (names_in c.in-Ok.talk) (ap (λ (names : Names). names.in_setup) c.in-Ok.ensures.ok.0) in
    ap (λ (k : Carried). k.maps) c.take_text.ensures.carried ∙ (turns_stay _ _ _ _ c.in-Ok-play.ensures.played.turns _ _ closing_none c.in-Ok-play.ensures.played.follows).1
    ∙ (turns_stay _ _ _ _ c.in-Ok-play_all.ensures.played.turns _ _ none c.in-Ok-play_all.ensures.played.follows).1
