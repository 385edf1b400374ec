-- The lines of a request are lines of its place, in each world that calls lead to.
use Rattle.std.proofs.Common.{◌≡◌, ℕ, ◌<◌, Bool, true, false, List, [], ◌∷◌, length, Option, Some, None, refl, sym, ap, ◌∙◌, subst, arith, inl, inr}
use Rattle.std.specs.Prelude.{nat_eq, ◌||◌, slice_index_or}
use Rattle.std.specs.List.{list_any}
use Rattle.std.specs.Option.{option_map}
use Rattle.std.proofs.lemmas.Bool.{cases_lt}
use Rattle.std.proofs.lemmas.Bool.Decides.{nat_tests}
use Rattle.std.proofs.lemmas.List.{get_or_past}
use Rattle.gl_base.specs.Lines.{offsets_of}
use Rattle.gl_base.specs.Rows.{Each}
use Rattle.gl_base.proofs.FirstRows.{Each-find}
use Rattle.gl_registry.specs.Chips.{chip_at}
use Rattle.gl_registry.specs.declared.registry.Chip.{Chip}
use Rattle.gl_request.specs.Request.{claim_of, request_at as row_at}
use Rattle.gl_request.specs.declared.row.Claim.{Claim}
use Rattle.gl_model.specs.declared.place.Origin.{Origin}
use Rattle.gl_model.specs.declared.place.Place.{Place}
use Rattle.gl_model.specs.Holders.{HasItsLines, has_line}
use Rattle.gl_model.specs.Places.{no_place}
use Rattle.gl_model.specs.World.{Request, World, has_number, request_at}
use Rattle.gl_core.specs.Kept.{Kept, kept_request}
use Rattle.gl_core.specs.Reached.{IsReached}
use Rattle.gl_core.specs.Shape.{HasLine, HasLines, IsShaped}
use Rattle.gl_core.proofs.KeptRequests.{kept_at}

-- a line that the tables of a place have is there
pub line_there : (chips : List Chip) (origins : List Origin) (places : List Place) (place offset : ℕ) → IsShaped chips origins places
    → offset < length (slice_index_or places place no_place).descs → HasLine places place offset
line_there chips origins places place offset shape lt =
    let tables : Place = slice_index_or places place no_place in
    let here : HasLines (chip_at chips place).lines tables = shape.lines place in
    record {
      few = omega (arith, shape.few, shape.places_as_many);
      place_within = elim (cases_lt place (length places)) [
        | inl within ↦ within
        | inr past ↦ (let none : length tables.descs ≡ 0 = ap (λ (t : Place). length t.descs) (get_or_past places place no_place past) in absurd (omega (arith, lt, none)))
      ];
      within = subst (λ n. HasLines n tables) (sym here.descs) here;
      offset_within = lt;
    }

itself_first : (n : ℕ) (rest : Bool) → (nat_eq n n || rest) ≡ true
itself_first n rest = grind (arith, nat_tests)

or_later : (a b : Bool) → b ≡ true → (a || b) ≡ true
or_later true b e = refl
or_later false b e = e

-- what is true of each number that some have is true of each of them
each_of : (P : ℕ → Type 0) (ns : List ℕ) → ((n : ℕ) → list_any (nat_eq n) ns ≡ true → P n) → Each P ns
each_of P [] all = tt
each_of P (n ∷ ns) all =
    (all n (itself_first n (list_any (nat_eq n) ns)), each_of P ns (λ m e. all m (or_later (nat_eq m n) (list_any (nat_eq m) ns) e)))

lines_found : (places : List Place) (request : Option Request) (claim : Claim) → ((request' : Request) → request ≡ Some request' → (offset : ℕ) → has_line offset request' ≡ true → HasLine places request'.place offset)
    → option_map claim_of (option_map kept_request request) ≡ Some claim → Each (HasLine places claim.place) (offsets_of claim.lines)
lines_found places None claim have is = cc
lines_found places (Some request) claim have is =
    let same : claim_of (kept_request request) ≡ claim = cc in
    subst (λ (claim : Claim). Each (HasLine places claim.place) (offsets_of claim.lines)) same (each_of (HasLine places request.place) (offsets_of request.lines) (have request refl))

-- the lines of the request of a number are there
pub lines_reached : (k : Kept) (fd : ℕ) (claim : Claim) → IsShaped k.chips k.origins k.places → IsReached k → option_map claim_of (row_at k.requests fd) ≡ Some claim
    → Each (HasLine k.places claim.place) (offsets_of claim.lines)
lines_reached k fd claim shape reached found =
    let w : World = reached.world in
    let places_same : w.places ≡ k.places = ap (λ (k : Kept). k.places) reached.stands.kept_so in
    lines_found k.places (request_at w.requests fd) claim
    (λ request is offset has.
    let its : HasItsLines w request = Each-find (HasItsLines w) (has_number fd) w.requests request reached.good.holders.requests_have is in
    line_there k.chips k.origins k.places request.place offset shape (subst (λ (ps : List Place). offset < length (slice_index_or ps request.place no_place).descs) places_same (its offset has).0))
    (sym (ap (option_map claim_of) (kept_at k w fd reached.stands)) ∙ found)
