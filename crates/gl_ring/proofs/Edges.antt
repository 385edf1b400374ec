-- The events of edges: as many as these, and one more for one edge more.
use Rattle.std.proofs.Common.{suc, ◌≡◌, List, [], ◌∷◌, ◌++◌, length, refl, sym, ap, ◌∙◌, append_assoc}
use Rattle.std.proofs.lemmas.List.{append-nil}
use Rattle.gl_uapi.specs.declared.line_events.Event.{Event}
use Rattle.gl_ring.specs.Edges.{Edge, event_behind, events_behind, events_of}

pub length-events_behind : (before edges : List Edge) → length (events_behind before edges) ≡ length edges
length-events_behind before [] = refl
length-events_behind before (edge ∷ edges) = ap suc (length-events_behind (before ++ edge ∷ []) edges)

events_behind-more : (before edges : List Edge) (edge : Edge) → events_behind before (edges ++ edge ∷ []) ≡ events_behind before edges ++ event_behind (before ++ edges) edge ∷ []
events_behind-more before [] edge = ap (λ es. event_behind es edge ∷ []) (sym (append-nil before))
events_behind-more before (first ∷ edges) edge =
    ap (λ (events : List Event). event_behind before first ∷ events)
    (events_behind-more (before ++ first ∷ []) edges edge
    ∙ ap (λ es. events_behind (before ++ first ∷ []) edges ++ event_behind es edge ∷ []) (append_assoc before (first ∷ []) edges))

pub events_of-more : (edges : List Edge) (edge : Edge) → events_of (edges ++ edge ∷ []) ≡ events_of edges ++ event_behind edges edge ∷ []
events_of-more edges edge = events_behind-more [] edges edge
