use Rattle.std.proofs.Common.{◌≡◌, ℕ, [], ap, arith, refl, sym, subst, ◌∙◌, inl, inr, ⊎_elim}
use Rattle.gl_client.specs.Chips.{AsksNoChips}
use Rattle.gl_client.specs.Program.{done}
use Rattle.gl_script.specs.Script.{sections_of}
use Rattle.gl_script.specs.declared.section.SectionKind.TheVariants.{After, Setup}
use Rattle.gl_talk.specs.Open.{Names, left_setup, setup_names}
use Rattle.gl_talk.specs.Talk.{names_in, quits, says}
use Rattle.gl_check.specs.Drivers.{driver_kind, over}
use Rattle.gl_check.specs.Joining.{no_maps}
use Rattle.gl_check.specs.Programs.{after_of, setup_of}
use Rattle.gl_check.specs.One.{said_in_kind}
use Rattle.gl_session.specs.OneActor.{count_in_kind}
use Rattle.gl_session.specs.Performed.{PlaysOn, StoppedFull}
use Rattle.gl_check.specs.Turns.{carried}
use Rattle.gl_session.proofs.NoChips.{actor_asks_none, asks_none, turns_stay}
use Rattle.gl_session.proofs.OutsideSetup.{ends_outside}
use Rattle.gl_session.proofs.Sections.{begins_so, stops_so}
use Rattle.gl_session.proofs.Taught.{by_turns, learned_first}
use Rattle.gl_session.proofs.Whole.{has_played, stops_in_actor, stops_in_after, stops_in_setup}
use Rattle.gl_session.proofs.one_actor.play_parts.Goals as goal

pub returns-in-Err-clause-stopped : goal.returns-in-Err-clause-stopped
returns-in-Err-clause-stopped g c =
    ⊎_elim (λ wanted. inl wanted)
    (λ full. inr (
      full.0,
      stops_in_setup (over c.args.player.now.carried.maps.left (driver_kind g.D.Driver.ENTRIES g.D.Driver.is_planned g.D.Driver.OwnEntries g.D.Driver.Follows)) c.requires.few_own (sections_of c.args.script.now) _ _ c.args.player.now.carried.told c.requires.first
          (stops_so _ _ c.args.player.now.carried.told c.args.player.now.carried.maps (no_maps c.args.player.now.carried.maps.left) (said_in_kind Setup (sections_of c.args.script.now)) done c.args.talk.now.begun 0 (names_in c.args.talk.now) setup_names c.args.player.now.carried.files [] c.requires.talk.1 c.requires.talk.0 c.requires.new.0 c.requires.bare _ full.1),
    ))
    c.in-Err.ensures.stopped

pub returns-in-Err-play_actor-clause-stopped : goal.returns-in-Err-play_actor-clause-stopped
returns-in-Err-play_actor-clause-stopped g c =
    let setup : PlaysOn (driver_kind g.D.Driver.ENTRIES g.D.Driver.is_planned g.D.Driver.OwnEntries g.D.Driver.Follows) (setup_of (sections_of c.args.script.now)) c.args.player.now.view (carried [] c.args.player.now.carried.told (no_maps c.args.player.now.carried.maps.left)) c.args.player.now.text
    (done (names_in c.play_kind.new.talk)) c.play_kind.new.player.view c.play_kind.new.player.carried c.play_kind.new.player.text
    = begins_so _ _ c.args.player.now.carried.told c.args.player.now.carried.maps (no_maps c.args.player.now.carried.maps.left) (said_in_kind Setup (sections_of c.args.script.now)) done c.args.talk.now.begun 0 (names_in c.args.talk.now) setup_names c.args.player.now.carried.files [] c.requires.talk.1 c.requires.talk.0 c.requires.new.0 c.requires.bare _ _ _ _ _ c.in-Ok.ensures.played in
    ⊎_elim (λ wanted. inl wanted)
    (λ full. inr (full.0, stops_in_actor (over c.args.player.now.carried.maps.left (driver_kind g.D.Driver.ENTRIES g.D.Driver.is_planned g.D.Driver.OwnEntries g.D.Driver.Follows)) c.requires.few_own (sections_of c.args.script.now) _ _ _ c.requires.first _ _ _ _ setup _ full.1))
    c.in-Err-play_actor.ensures.stopped

pub returns-in-Ok-play_to_end-clause-played : goal.returns-in-Ok-play_to_end-clause-played
returns-in-Ok-play_to_end-clause-played g c =
    let setup : PlaysOn (driver_kind g.D.Driver.ENTRIES g.D.Driver.is_planned g.D.Driver.OwnEntries g.D.Driver.Follows) (setup_of (sections_of c.args.script.now)) c.args.player.now.view (carried [] c.args.player.now.carried.told (no_maps c.args.player.now.carried.maps.left)) c.args.player.now.text
    (done (names_in c.play_kind.new.talk)) c.play_kind.new.player.view c.play_kind.new.player.carried c.play_kind.new.player.text
    = begins_so _ _ c.args.player.now.carried.told c.args.player.now.carried.maps (no_maps c.args.player.now.carried.maps.left) (said_in_kind Setup (sections_of c.args.script.now)) done c.args.talk.now.begun 0 (names_in c.args.talk.now) setup_names c.args.player.now.carried.files [] c.requires.talk.1 c.requires.talk.0 c.requires.new.0 c.requires.bare _ _ _ _ _ c.in-Ok.ensures.played in
    let number : c.leave_setup.new.self.begun ≡ count_in_kind Setup (sections_of c.args.script.now) = omega (arith, c.requires.talk.1, c.in-Ok.ensures.counted, c.leave_setup.ensures.counted) in
    let own = c.in-Ok-play_actor.ensures.played in
    let after : PlaysOn (driver_kind g.D.Driver.ENTRIES g.D.Driver.is_planned g.D.Driver.OwnEntries g.D.Driver.Follows) (after_of (sections_of c.args.script.now) (names_in c.play_kind.new.talk)) c.play_actor.new.player.view
    (carried c.play_kind.new.player.carried.files c.play_actor.new.player.carried.told c.play_actor.new.player.carried.maps) c.play_actor.new.player.text
    (done (names_in c.play_to_end.new.talk)) c.play_to_end.new.player.view c.play_to_end.new.player.carried c.play_to_end.new.player.text
    = begins_so _ _ c.play_actor.new.player.carried.told c.play_actor.new.player.carried.maps c.play_actor.new.player.carried.maps (said_in_kind After (sections_of c.args.script.now)) quits c.leave_setup.new.self.begun (count_in_kind Setup (sections_of c.args.script.now)) (names_in c.leave_setup.new.self) (left_setup (names_in c.play_kind.new.talk)) c.play_actor.new.player.carried.files c.play_kind.new.player.carried.files number c.leave_setup.ensures.names c.in-Ok-play_actor.ensures.waiting refl _ _ _ _ _ c.in-Ok-play_to_end.ensures.played in
    has_played (over c.args.player.now.carried.maps.left (driver_kind g.D.Driver.ENTRIES g.D.Driver.is_planned g.D.Driver.OwnEntries g.D.Driver.Follows)) c.requires.few_own (sections_of c.args.script.now) _ _ _ c.requires.first _ _ _ _ setup _ _ own.0 (carried own.1 c.play_actor.new.player.carried.told c.play_actor.new.player.carried.maps) own.2 _ _ _ _ c.requires.new.1 after

pub returns-in-Err-play_to_end-clause-stopped : goal.returns-in-Err-play_to_end-clause-stopped
returns-in-Err-play_to_end-clause-stopped g c =
    let setup : PlaysOn (driver_kind g.D.Driver.ENTRIES g.D.Driver.is_planned g.D.Driver.OwnEntries g.D.Driver.Follows) (setup_of (sections_of c.args.script.now)) c.args.player.now.view (carried [] c.args.player.now.carried.told (no_maps c.args.player.now.carried.maps.left)) c.args.player.now.text
    (done (names_in c.play_kind.new.talk)) c.play_kind.new.player.view c.play_kind.new.player.carried c.play_kind.new.player.text
    = begins_so _ _ c.args.player.now.carried.told c.args.player.now.carried.maps (no_maps c.args.player.now.carried.maps.left) (said_in_kind Setup (sections_of c.args.script.now)) done c.args.talk.now.begun 0 (names_in c.args.talk.now) setup_names c.args.player.now.carried.files [] c.requires.talk.1 c.requires.talk.0 c.requires.new.0 c.requires.bare _ _ _ _ _ c.in-Ok.ensures.played in
    let number : c.leave_setup.new.self.begun ≡ count_in_kind Setup (sections_of c.args.script.now) = omega (arith, c.requires.talk.1, c.in-Ok.ensures.counted, c.leave_setup.ensures.counted) in
    let own = c.in-Ok-play_actor.ensures.played in
    ⊎_elim (λ wanted. inl wanted)
    (λ full. inr (
      full.0,
      let stopped : StoppedFull (driver_kind g.D.Driver.ENTRIES g.D.Driver.is_planned g.D.Driver.OwnEntries g.D.Driver.Follows) (after_of (sections_of c.args.script.now) (names_in c.play_kind.new.talk)) c.play_actor.new.player.view
          (carried c.play_kind.new.player.carried.files c.play_actor.new.player.carried.told c.play_actor.new.player.carried.maps) c.play_to_end.new.player.view
          = stops_so _ _ c.play_actor.new.player.carried.told c.play_actor.new.player.carried.maps c.play_actor.new.player.carried.maps (said_in_kind After (sections_of c.args.script.now)) quits c.leave_setup.new.self.begun (count_in_kind Setup (sections_of c.args.script.now)) (names_in c.leave_setup.new.self) (left_setup (names_in c.play_kind.new.talk)) c.play_actor.new.player.carried.files c.play_kind.new.player.carried.files number c.leave_setup.ensures.names c.in-Ok-play_actor.ensures.waiting refl _ full.1 in
          stops_in_after (over c.args.player.now.carried.maps.left (driver_kind g.D.Driver.ENTRIES g.D.Driver.is_planned g.D.Driver.OwnEntries g.D.Driver.Follows)) c.requires.few_own (sections_of c.args.script.now) _ _ _ c.requires.first _ _ _ _ setup _ _ own.0 (carried own.1 c.play_actor.new.player.carried.told c.play_actor.new.player.carried.maps) own.2 _ stopped,
    ))
    c.in-Err-play_to_end.ensures.stopped

pub returns-in-Ok-play_to_end-clause-learned : goal.returns-in-Ok-play_to_end-clause-learned
returns-in-Ok-play_to_end-clause-learned g c =
    let left = c.args.player.now.carried.maps.left in
    let setup = by_turns _ _ left _ _ c.in-Ok.ensures.played.turns _ _ c.in-Ok.ensures.played.follows (learned_first _ c.requires.bare) in
    let actor = by_turns _ _ left _ _ c.in-Ok-play_actor.ensures.played.2.turns _ _ c.in-Ok-play_actor.ensures.played.2.follows setup in
    by_turns _ _ left _ _ c.in-Ok-play_to_end.ensures.played.turns _ _ c.in-Ok-play_to_end.ensures.played.follows actor

pub returns-in-Ok-play_to_end-clause-without : goal.returns-in-Ok-play_to_end-clause-without
returns-in-Ok-play_to_end-clause-without g c = λ without.
    let sections = sections_of c.args.script.now in
    let setup_none : AsksNoChips (says c.args.talk.now.begun (said_in_kind Setup (sections_of c.args.script.now)) (λ names. done names) (names_in c.args.talk.now))
    = subst (λ (x : ℕ × Names). AsksNoChips (says x.0 (said_in_kind Setup (sections_of c.args.script.now)) (λ names. done names) x.1)) (λ i. (sym c.requires.talk.1 i, sym c.requires.talk.0 i)) (asks_none sections without).setup in
    let after_none : AsksNoChips (says c.leave_setup.new.self.begun (said_in_kind After (sections_of c.args.script.now)) quits (names_in c.leave_setup.new.self))
    = ends_outside c.leave_setup.new.self.begun (said_in_kind After (sections_of c.args.script.now)) (names_in c.leave_setup.new.self) (ap (λ (names : Names). names.in_setup) c.leave_setup.ensures.names) in
    (turns_stay _ _ _ _ c.in-Ok-play_to_end.ensures.played.turns _ _ after_none c.in-Ok-play_to_end.ensures.played.follows).1
    ∙ (turns_stay _ _ _ _ c.in-Ok-play_actor.ensures.played.2.turns _ _ (actor_asks_none sections) c.in-Ok-play_actor.ensures.played.2.follows).1
    ∙ (turns_stay _ _ _ _ c.in-Ok.ensures.played.turns _ _ setup_none c.in-Ok.ensures.played.follows).1
