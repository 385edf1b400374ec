use Rattle.std.proofs.Common.{[], ap, subst, refl, ◌∙◌, inl, inr, ⊎_elim}
use Rattle.gl_client.specs.Program.{done}
use Rattle.gl_script.specs.Script.{sections_of}
use Rattle.gl_script.specs.declared.section.SectionKind.TheVariants.{Actor}
use Rattle.gl_talk.specs.Open.{no_names}
use Rattle.gl_talk.specs.Talk.{names_in, quits}
use Rattle.gl_check.specs.Drivers.{driver_kind}
use Rattle.gl_check.specs.One.{said_in_kind}
use Rattle.gl_check.specs.Programs.{actor_of}
use Rattle.gl_check.specs.Turns.{carried}
use Rattle.gl_world.specs.History.{StartsWith}
use Rattle.gl_session.proofs.Placing.{files_later}
use Rattle.gl_session.proofs.Plays.{plays_as, stops_as}
use Rattle.gl_session.proofs.Sections.{begins_so, stops_so}
use Rattle.gl_session.proofs.one_actor.play_actor.Goals as goal

pub returns-in-Ok-play_to_end-clause-played : goal.returns-in-Ok-play_to_end-clause-played
returns-in-Ok-play_to_end-clause-played g c =
    let new = c.in-Ok.ensures.ok in
    let aside = c.change_files-waiting.ensures in
    let back = c.change_files-left.ensures in
    let player = c.change_files-waiting.new.self in
    let end = c.play_to_end.new.player in (
      names_in c.play_to_end.new.talk,
      end.carried.files,
      plays_as (driver_kind g.D.Driver.ENTRIES g.D.Driver.is_planned g.D.Driver.OwnEntries g.D.Driver.Follows) (actor_of (sections_of c.args.script.now)) (done (names_in c.play_to_end.new.talk)) player.view (carried [] player.carried.told player.carried.maps) player.text end.view end.carried end.text
          c.args.player.now.view (carried [] c.args.player.now.carried.told c.args.player.now.carried.maps) c.args.player.now.text c.change_files-left.new.self.view
          (carried end.carried.files c.change_files-left.new.self.carried.told c.change_files-left.new.self.carried.maps) c.change_files-left.new.self.text
          aside.view refl aside.told aside.maps aside.text back.view refl back.told back.maps back.text
          (begins_so (driver_kind g.D.Driver.ENTRIES g.D.Driver.is_planned g.D.Driver.OwnEntries g.D.Driver.Follows) player.view player.carried.told player.carried.maps player.carried.maps (said_in_kind Actor (sections_of c.args.script.now)) quits _ 0 _ no_names player.carried.files [] new.1 new.0 (aside.files ∙ c.new.ensures) refl player.text _ end.view end.carried end.text c.in-Ok-play_to_end.ensures.played),
    )

pub returns-in-Err-play_to_end-clause-stopped : goal.returns-in-Err-play_to_end-clause-stopped
returns-in-Err-play_to_end-clause-stopped g c =
    let new = c.in-Ok.ensures.ok in
    let aside = c.change_files-waiting.ensures in
    let player = c.change_files-waiting.new.self in
    ⊎_elim (λ wanted. inl wanted)
    (λ full. inr (
      full.0,
      stops_as (driver_kind g.D.Driver.ENTRIES g.D.Driver.is_planned g.D.Driver.OwnEntries g.D.Driver.Follows) (actor_of (sections_of c.args.script.now)) player.view (carried [] player.carried.told player.carried.maps) c.play_to_end.new.player.view c.args.player.now.view (carried [] c.args.player.now.carried.told c.args.player.now.carried.maps)
          aside.view refl aside.told aside.maps
          (stops_so (driver_kind g.D.Driver.ENTRIES g.D.Driver.is_planned g.D.Driver.OwnEntries g.D.Driver.Follows) player.view player.carried.told player.carried.maps player.carried.maps (said_in_kind Actor (sections_of c.args.script.now)) quits _ 0 _ no_names player.carried.files [] new.1 new.0 (aside.files ∙ c.new.ensures) refl c.play_to_end.new.player.view full.1),
    ))
    c.in-Err-play_to_end.ensures.stopped

pub change_files-left-requires-clause-placed : goal.change_files-left-requires-clause-placed
change_files-left-requires-clause-placed g c κs within =
    files_later _ _ _ (subst (λ l. StartsWith c.play_to_end.new.player.view.seen l) (ap (λ v. v.seen) c.change_files-waiting.ensures.view) c.in-Ok-play_to_end.ensures.played.grew.seen) c.change_files-waiting.ensures.given_placed
