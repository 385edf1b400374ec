use Rattle.std.proofs.Common.{ℕ, List, ⊎_elim, ap, subst, sym, ◌∙◌}
use Rattle.gl_script.specs.Script.{sections_of}
use Rattle.gl_chip.specs.Values.{OneView}
use Rattle.gl_check.specs.Drivers.{driver_kind, over}
use Rattle.gl_check.specs.Turns.{Carried}
use Rattle.gl_session.specs.OneActor.{HasPlayed}
use Rattle.gl_session.specs.Ports.{HasLearnedThem}
use Rattle.gl_session.proofs.Whole.{never_full}
use Rattle.gl_session.proofs.one_actor.play_session.Goals as goal

pub returns-in-Ok-play_parts-clause-played : goal.returns-in-Ok-play_parts-clause-played
returns-in-Ok-play_parts-clause-played g c =
    let taken = c.take_text.ensures in
    subst (λ (x : List ℕ × Carried × OneView). HasPlayed (over c.args.player.now.carried.maps.left (driver_kind g.D.Driver.ENTRIES g.D.Driver.is_planned g.D.Driver.OwnEntries g.D.Driver.Follows)) (sections_of c.args.script.now) c.args.player.now.carried.told x.0 x.1.told x.1.maps c.args.player.now.view x.2)
    (λ i. (sym taken.text i, sym taken.carried i, sym taken.view i)) c.in-Ok-play_parts.ensures.played

pub returns-in-Ok-clause-memory_alone : goal.returns-in-Ok-clause-memory_alone
returns-in-Ok-clause-memory_alone g c =
    ⊎_elim (λ wanted. wanted) (λ full. absurd (never_full _ _ _ c.requires.first c.number-number.ensures.strangers full.1)) c.in-Err-play_parts.ensures.stopped

pub returns-in-Ok-play_parts-clause-learned : goal.returns-in-Ok-play_parts-clause-learned
returns-in-Ok-play_parts-clause-learned g c = subst (λ (k : Carried). HasLearnedThem c.args.player.now.carried.maps.left k.maps) (sym c.take_text.ensures.carried) c.in-Ok-play_parts.ensures.learned

pub returns-in-Ok-play_parts-clause-without : goal.returns-in-Ok-play_parts-clause-without
returns-in-Ok-play_parts-clause-without g c = λ without. ap (λ (k : Carried). k.maps) c.take_text.ensures.carried ∙ c.in-Ok-play_parts.ensures.without without
