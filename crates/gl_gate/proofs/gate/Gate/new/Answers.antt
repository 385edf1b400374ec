use Rattle.std.proofs.Common.{ap, ◌∙◌, [], ◌∷◌, ◌++◌, length, get_or, ◌+◌}
use Rattle.std.proofs.lemmas.List.{length-replicate}
use Rattle.gl_world.specs.Laws.{Laws}
use Rattle.gl_gate.proofs.Finish.{opened, all_zero}
use Rattle.gl_gate.proofs.gate.Gate.new.Goals as goal

pub new-requires-2 : goal.new-requires-2
new-requires-2 g c = let met = g.met.M.Machine g.world.𝓛 g.world.𝓜 g.world.𝓡 ((λ s x. x), (λ x. x), (λ x. x), λ x. x) in
    let laws : Laws g.M.Machine = record { opens_sound = met.opens_sound; keeps_sound = met.keeps_sound; opens_places = met.opens_places; goes_forward = met.goes_forward; ends_place = met.ends_place; begins_place = met.begins_place; begins_removal = met.begins_removal; removal_stays = met.removal_stays; ends_removal = met.ends_removal } in
    let h = c.in-Ok.held in let e = c.in-Ok.ensures in
    opened g.M.Machine laws c.args.places c.args.room c.args.machine h _ _ (ap (λ l. length l) (c.as_slice.ensures.value ∙ c.in-Ok-zeros.ensures) ∙ length-replicate (c.args.places + 2) 0)
    (λ i. ap (λ l. get_or l i 0) (c.as_slice.ensures.value ∙ c.in-Ok-zeros.ensures) ∙ all_zero (c.args.places + 2) i) (c.push_reserved.ensures.items ∙ ap (λ l. l ++ h ∷ []) c.in-Ok-with_capacity.ensures.items) c.requires.machine e.machine e.empty e.room e.space
