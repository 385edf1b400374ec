-- The requests that are kept, by their numbers.
use Rattle.std.proofs.Common.{◌≡◌, ℕ, Bool, false, List, [], ◌∷◌, ◌++◌, map, Option, Some, None, refl, ap, ◌∙◌, subst}
use Rattle.std.specs.Prelude.{nat_eq}
use Rattle.std.specs.List.{AllByRecursion, IsDistinct}
use Rattle.std.specs.Option.{option_map}
use Rattle.gl_base.proofs.Seen.{find-map}
use Rattle.gl_request.specs.Request.{HaveDifferentNumbers, is_number, request_at as row_at}
use Rattle.gl_request.specs.declared.row.RequestRow.{RequestRow}
use Rattle.gl_model.specs.OpenFiles.{is_hold, request_place}
use Rattle.gl_model.specs.World.{Request, World, has_number, request_at}
use Rattle.gl_watch.specs.declared.file.ChipFile.{ChipFile}
use Rattle.gl_core.specs.Kept.{Kept, StandsFor, kept_request}
use Rattle.gl_core.specs.Reached.{IsReached}

-- what is kept of the request of a number
pub kept_at : (k : Kept) (w : World) (fd : ℕ) → StandsFor k w → row_at k.requests fd ≡ option_map kept_request (request_at w.requests fd)
kept_at k w fd s =
    subst (λ (k : Kept). row_at k.requests fd ≡ option_map kept_request (request_at w.requests fd)) s.kept_so
    (find-map kept_request (has_number fd) (is_number fd) (λ request. refl) w.requests)

held_in : (request : Option Request) (told : Option Bool) → told ≡ option_map (λ (row : RequestRow). row.held) (option_map kept_request request) → (held : Bool) → told ≡ Some held → held ≡ is_hold request
held_in None told is held some = cc
held_in (Some request) told is held some = cc

-- a request holds its lines, as the table says
pub hold_told : (k : Kept) (w : World) (fd : ℕ) (held : Bool) → StandsFor k w → Some held ≡ option_map (λ (row : RequestRow). row.held) (row_at k.requests fd) → held ≡ is_hold (request_at w.requests fd)
hold_told k w fd held s told =
    held_in (request_at w.requests fd) (Some held) (told ∙ ap (λ row. option_map (λ (row : RequestRow). row.held) row) (kept_at k w fd s)) held refl

no_hold : (request : Option Request) → None ≡ option_map (λ (row : RequestRow). row.held) (option_map kept_request request) → false ≡ is_hold request
no_hold None is = refl
no_hold (Some request) is = cc

-- there is no request of the number
pub no_hold_told : (k : Kept) (w : World) (fd : ℕ) → StandsFor k w → None ≡ option_map (λ (row : RequestRow). row.held) (row_at k.requests fd) → false ≡ is_hold (request_at w.requests fd)
no_hold_told k w fd s told =
    no_hold (request_at w.requests fd) (told ∙ ap (λ row. option_map (λ (row : RequestRow). row.held) row) (kept_at k w fd s))

place_in : (request : Option Request) → option_map (λ (row : RequestRow). row.place) (option_map kept_request request) ≡ request_place request
place_in None = refl
place_in (Some request) = refl

-- the place of a request, as the table says
pub place_told : (k : Kept) (w : World) (fd : ℕ) (place : Option ℕ) → StandsFor k w → place ≡ option_map (λ (row : RequestRow). row.place) (row_at k.requests fd) → place ≡ request_place (request_at w.requests fd)
place_told k w fd place s told =
    told ∙ ap (λ row. option_map (λ (row : RequestRow). row.place) row) (kept_at k w fd s) ∙ place_in (request_at w.requests fd)

-- the requests have different numbers

others_kept : (n : ℕ) (requests : List Request) (ys : List ℕ) → AllByRecursion (λ y. nat_eq n y ≡ false) (map (λ (request : Request). request.fd) requests ++ ys)
    → AllByRecursion (λ y. nat_eq n y ≡ false) (map (λ (row : RequestRow). row.fd) (map kept_request requests))
others_kept n [] ys all = tt
others_kept n (request ∷ requests) ys all = (all.0, others_kept n requests ys all.1)

differ_kept : (requests : List Request) (ys : List ℕ) → IsDistinct nat_eq (map (λ (request : Request). request.fd) requests ++ ys) → HaveDifferentNumbers (map kept_request requests)
unfolding IsDistinct
differ_kept [] ys differ = tt
differ_kept (request ∷ requests) ys differ = (others_kept request.fd requests ys differ.0, differ_kept requests ys differ.1)

pub numbers_differ : (k : Kept) → IsReached k → HaveDifferentNumbers k.requests
numbers_differ k reached =
    subst (λ (k : Kept). HaveDifferentNumbers k.requests) reached.stands.kept_so
    (differ_kept reached.world.requests (map (λ (file : ChipFile). file.fd) reached.world.files) reached.good.holders.numbers_differ)
