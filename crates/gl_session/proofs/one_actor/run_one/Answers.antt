use Rattle.std.proofs.Common.{◌≡◌, ℕ, [], Option, ap, length, rules, subst, sym, ◌∙◌}
use Rattle.gl_driver.specs.Told.{Told}
use Rattle.gl_rule.specs.Views.{newcomer}
use Rattle.gl_script.specs.Script.{sections_of}
use Rattle.gl_chip.specs.Values.{OneView}
use Rattle.gl_check.specs.Drivers.{driver_kind, over}
use Rattle.gl_check.specs.Joining.{Maps, no_maps, taught}
use Rattle.gl_session.specs.OneActor.{CameAloneWith, HasPlayed}
use Rattle.gl_session.specs.Ports.{maps_of}
use Rattle.gl_session.proofs.Taught.{bare_maps}
use Rattle.gl_session.proofs.Whole.{came_with_entries}
use Rattle.gl_session.proofs.one_actor.run_one.Goals as goal

pub new-player-requires-clause-bare : goal.new-player-requires-clause-bare
new-player-requires-clause-bare g c κs within = ap g.D.Port.Port.maps c.in-Ok.ensures.port ∙ c.requires.bare

pub play_session-requires-clause-bare : goal.play_session-requires-clause-bare
play_session-requires-clause-bare g c κs within =
    bare_maps c.new-player.result.carried.maps (ap (λ (m : Maps). m.kept) c.new-player.ensures.maps ∙ ap g.D.Port.Port.maps c.in-Ok.ensures.port ∙ c.requires.bare)

pub returns-in-Ok-play_session-clause-came : goal.returns-in-Ok-play_session-clause-came
returns-in-Ok-play_session-clause-came g c =
    let t = g.D.Port.Port.told in let f = c.finish-machine.ensures in
    let count : length c.finish-machine.result.1.items ≡ c.len.result = search rules in
    let left : c.new-player.result.carried.maps.left ≡ g.D.Port.Port.maps_left c.args.port = ap (λ (m : Maps). m.left) c.new-player.ensures.maps ∙ ap g.D.Port.Port.maps_left c.in-Ok.ensures.port in
    let played : HasPlayed (over (g.D.Port.Port.maps_left c.args.port) (driver_kind g.D.Driver.ENTRIES g.D.Driver.is_planned g.D.Driver.OwnEntries g.D.Driver.Follows)) (sections_of c.args.script.now) c.new-player.result.carried.told c.in-Ok-play_session.text.items c.play_session.new.player.carried.told
    c.play_session.new.player.carried.maps c.new-player.result.view c.into_parts-actor.result.0.pass.view
    = subst (λ (x : OneView × ℕ). HasPlayed (over x.1 (driver_kind g.D.Driver.ENTRIES g.D.Driver.is_planned g.D.Driver.OwnEntries g.D.Driver.Follows)) (sections_of c.args.script.now) c.new-player.result.carried.told c.in-Ok-play_session.text.items c.play_session.new.player.carried.told c.play_session.new.player.carried.maps c.new-player.result.view x.0)
    (λ i. (sym c.into_parts-actor.ensures.view i, left i)) c.in-Ok-play_session.ensures.played in
    subst (λ (x : Option Told × Option Told × Maps × ℕ). CameAloneWith (over (g.D.Port.Port.maps_left c.args.port) (driver_kind g.D.Driver.ENTRIES g.D.Driver.is_planned g.D.Driver.OwnEntries g.D.Driver.Follows)) (sections_of c.args.script.now) x.0 c.in-Ok-play_session.text.items x.1 x.2 x.3)
    (λ i. (
      (c.new-player.ensures.told ∙ ap t c.in-Ok.ensures.port) i,
      (sym c.into_parts-actor.ensures.port ∙ ap t (sym f.port)) i,
      (sym c.into_parts-actor.ensures.maps ∙ ap (maps_of g.D.Port.Port.maps g.D.Port.Port.maps_left) (sym f.port)) i,
      count i,
    ))
    (came_with_entries (over (g.D.Port.Port.maps_left c.args.port) (driver_kind g.D.Driver.ENTRIES g.D.Driver.is_planned g.D.Driver.OwnEntries g.D.Driver.Follows)) c.requires.few_own (sections_of c.args.script.now) _ _ _ _ _ _ _
    (c.new-player.ensures.view ∙ c.in-Ok.ensures.first ∙ ap (λ (n : ℕ). newcomer 0 n [] 1 [] []) c.cost.ensures) played f.legal f.seen f.mine f.others)

pub returns-in-Ok-play_session-clause-maps : goal.returns-in-Ok-play_session-clause-maps
returns-in-Ok-play_session-clause-maps g c =
    let left : c.new-player.result.carried.maps.left ≡ g.D.Port.Port.maps_left c.args.port = ap (λ (m : Maps). m.left) c.new-player.ensures.maps ∙ ap g.D.Port.Port.maps_left c.in-Ok.ensures.port in (
      c.into_parts-actor.ensures.may_be_learned,
      ap (maps_of g.D.Port.Port.maps g.D.Port.Port.maps_left) c.finish-machine.ensures.port ∙ c.into_parts-actor.ensures.maps ∙ c.in-Ok-play_session.ensures.learned
          ∙ (λ i. taught (sym c.into_parts-actor.ensures.kept i) (no_maps (left i))),
    )

pub returns-in-Ok-play_session-clause-without : goal.returns-in-Ok-play_session-clause-without
returns-in-Ok-play_session-clause-without g c = λ without.
    c.into_parts-actor.ensures.kept ∙ ap (λ (m : Maps). m.kept) (c.in-Ok-play_session.ensures.without without ∙ c.new-player.ensures.maps) ∙ ap g.D.Port.Port.maps c.in-Ok.ensures.port ∙ c.requires.bare

pub returns-in-Ok-play_session-clause-memory_alone : goal.returns-in-Ok-play_session-clause-memory_alone
returns-in-Ok-play_session-clause-memory_alone g c = tt

pub returns-in-Err-play_session-clause-memory_alone : goal.returns-in-Err-play_session-clause-memory_alone
returns-in-Err-play_session-clause-memory_alone g c = c.in-Err-play_session.ensures.memory_alone

pub play_session-requires-clause-first : goal.play_session-requires-clause-first
play_session-requires-clause-first g c κs within = c.new-player.ensures.view ∙ c.in-Ok.ensures.first ∙ ap (λ (n : ℕ). newcomer 0 n [] 1 [] []) c.cost.ensures
