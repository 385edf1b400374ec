use Rattle.std.proofs.Common.{◌≡◌, ◌≤◌, List, [], ◌∷◌, ◌++◌, None, ap, sym, subst, ◌∙◌}
use Rattle.gl_driver.specs.Maps.{map_at}
use Rattle.gl_driver.specs.declared.map.Map.{Map}
use Rattle.gl_session.specs.Placed.{AreFilesPlaced, AreMapsPlaced, IsPlaced}
use Rattle.gl_session.specs.Player.{Playing}
use Rattle.gl_session.specs.Ports.{AreMaps}
use Rattle.gl_session.proofs.Mapped.{each_more}
use Rattle.gl_session.proofs.Taught.{keeps_one, one_kept}
use Rattle.gl_session.proofs.player.Player.learn.Goals as goal

pub invariant_of-self : goal.invariant_of-self
invariant_of-self g c =
    let kept = c.self.inside.maps.items in let map : Map = c.args.map in let seen = c.self.inside.actor.pass.view.seen in
    let items : c.push.new.self.items ≡ kept ++ map ∷ [] = c.in-Ok.ensures.items in
    let room : 1 ≤ g.D.Port.Port.maps_left c.self.inside.actor.port = subst (λ (p : Playing). 1 ≤ p.carried.maps.left) (sym c.self.view_is) c.requires.room in
    let new : map_at map.place kept ≡ None = ap (λ (l : List Map). map_at map.place l) c.self.invariant.2 ∙ ap (λ (p : Playing). map_at map.place p.carried.maps.kept) c.self.view_is ∙ c.requires.new in
    let placed : IsPlaced seen map.place = subst (λ (p : Playing). IsPlaced p.view.seen map.place) (sym c.self.view_is) c.requires.placed in (
      ap (λ pass. pass.gate) c.learn.ensures.pass ∙ c.self.invariant.0,
      subst (λ (l : List Map). AreMaps l) (sym items) (one_kept kept map c.self.invariant.1 c.requires.fits new),
      items ∙ ap (λ (l : List Map). l ++ map ∷ []) c.self.invariant.2 ∙ sym (keeps_one (g.D.Port.Port.maps_left c.self.inside.actor.port) map (g.D.Port.Port.maps c.self.inside.actor.port) room) ∙ sym c.learn.ensures.maps,
      subst (λ pass. AreFilesPlaced pass.view.seen c.self.inside.files) (sym c.learn.ensures.pass) c.self.invariant.3,
      subst (λ pass. AreMapsPlaced pass.view.seen c.push.new.self.items) (sym c.learn.ensures.pass)
          (subst (λ (l : List Map). AreMapsPlaced seen l) (sym items) (each_more (λ (m : Map). IsPlaced seen m.place) kept map c.self.invariant.4 placed)),
    )
