-- No two holds have the same place and offset in a world for which a core stands: what is kept of a world decides who holds its lines.
use Rattle.std.proofs.Common.{◌≡◌, List, ◌++◌, map, sym, ap, ◌∙◌, subst, cond}
use Rattle.std.specs.List.{IsDistinct, flat_map}
use Rattle.std.proofs.lemmas.List.Folds.{flat_map-map}
use Rattle.gl_base.specs.Lines.{offsets_of}
use Rattle.gl_desc.specs.declared.desc.Holder.TheVariants.{Claimed, Held}
use Rattle.gl_request.specs.declared.row.RequestRow.{RequestRow}
use Rattle.gl_model.specs.Holds.{HasOneHolder, Hold, hold_of, holds, hogs_at, is_same_line}
use Rattle.gl_model.specs.World.{World}
use Rattle.gl_model.specs.declared.place.Place.{Place}
use Rattle.gl_model.proofs.Holds.{has_one_holder}
use Rattle.gl_core.specs.Kept.{Kept, StandsFor, kept_of, kept_request}
use Rattle.gl_core.specs.Reached.{IsReached}

-- the holds of a request, of its row
abbrev row_holds : List Place → RequestRow → List Hold
row_holds places row = map (hold_of places row.place (cond row.held (Held row.fd) (Claimed row.fd))) (offsets_of row.lines)

abbrev kept_holds : Kept → List Hold
kept_holds k = hogs_at 0 k.places ++ flat_map (row_holds k.places) k.requests

holds_kept : (w : World) → kept_holds (kept_of w) ≡ holds w
holds_kept w = ap (λ hs. hogs_at 0 w.places ++ hs) (flat_map-map (row_holds w.places) kept_request w.requests)

pub one_holder_kept : (k : Kept) → IsReached k → (w : World) → StandsFor k w → HasOneHolder w
one_holder_kept k reached w stands =
    let same : holds reached.world ≡ holds w = sym (holds_kept reached.world) ∙ ap kept_holds (reached.stands.kept_so ∙ sym stands.kept_so) ∙ holds_kept w in
    subst (IsDistinct is_same_line) same (has_one_holder reached.world reached.good.holders reached.stands.sound_requests)
