-- What the loop over the targets needs of a map and of a pass.
use Rattle.std.proofs.Common.{◌≡◌, ℕ, ◌+◌, ◌<◌, true, false, List, [], ◌∷◌, ◌++◌, length, Option, Some, None, zero, suc, inl, inr, refl, ap, ◌∙◌, sym, subst, arith}
use Rattle.std.specs.Prelude.{◌==◌, ◌≢◌, if◌then◌else◌, get_or}
use Rattle.std.proofs.lemmas.Bool.{cases_lt, eqb-true}
use Rattle.gl_base.specs.Rows.{Each}
use Rattle.gl_driver.specs.Maps.{FitsMap, left_behind, map_at, with_map}
use Rattle.gl_driver.specs.declared.map.Map.{Map}
use Rattle.gl_gate.specs.Calls.{IsInside, IsOutside}
use Rattle.gl_rule.specs.Sums.{times}
use Rattle.gl_rule.specs.declared.view.View.{View}
use Rattle.gl_aggregator.specs.Routes.{FitsRoute}
use Rattle.gl_aggregator.specs.declared.routes.Route.{Route}

abbrev map_or : Map → Option Map → Map
map_or d None = d
map_or d (Some x) = x

abbrev is_none : Option Map → Type 0
is_none None = Unit {0}
is_none (Some x) = ⊥

no_map : (map : Map) → None ≡ Some map → ⊥
no_map map is = subst (λ (o : Option Map). is_none o) is tt

-- a place that has a map isn't one without
pub has_map : {A : Type 0} (map : Map) (found : Option Map) → found ≡ Some map → found ≡ None → A
has_map map found some none = absurd (no_map map (sym none ∙ some))

-- the map of a place is one of those that are kept
pub fits_of : (maps : List Map) (place : ℕ) (map : Map) → Each FitsMap maps → map_at place maps ≡ Some map → FitsMap map
fits_of [] place map each is = absurd (no_map map is)
fits_of (x ∷ maps) place map each is = elim (x.place == place) as (λ b. (if b then Some x else map_at place maps) ≡ Some map → FitsMap map) [
  | true ↦ (λ e. subst (λ (y : Map). FitsMap y) (ap (λ o. map_or x o) e) each.0)
  | false ↦ (λ e. fits_of maps place map each.1 e)
] is

-- a pass that is inside one place alone is outside every other
pub outside_of : {M C R G : Type 0} (v w : View M C R G) (place q : ℕ) → w.inside ≡ v.inside → ((p : ℕ) → IsInside v p → p ≡ place) → q ≢ place → IsOutside w q
outside_of v w place q same alone apart = subst (λ l. times q l ≡ 0) (sym same) (elim (cases_lt 0 (times q v.inside)) as (λ _. times q v.inside ≡ 0) [
  | inl inside ↦ absurd (apart (alone q inside))
  | inr none ↦ omega arith
])

-- it is the map of just that place
pub place_of : (maps : List Map) (place : ℕ) (map : Map) → map_at place maps ≡ Some map → map.place ≡ place
place_of [] place map is = absurd (no_map map is)
place_of (x ∷ maps) place map is = elim (x.place == place) as (λ b. (x.place == place) ≡ b → (if b then Some x else map_at place maps) ≡ Some map → map.place ≡ place) [
  | true ↦ (λ same e. ap (λ o. (map_or x o).place) (sym e) ∙ eqb-true x.place place same)
  | false ↦ (λ other e. place_of maps place map e)
] refl is

-- each of the rows is one of which this holds
each_at : {X : Type 0} (P : X → Type 0) (xs : List X) (at : ℕ) (d : X) → Each P xs → at < length xs → P (get_or xs at d)
each_at P [] at d each less = absurd (omega arith)
each_at P (x ∷ xs) zero d each less = each.0
each_at P (x ∷ xs) (suc at) d each less = each_at P xs at d each.1 (omega arith)

pub fits_route : (place : ℕ) (found rows : List Route) (at : ℕ) (d : Route) → Each (FitsRoute place) found → rows ≡ found → at < length rows → FitsRoute place (get_or rows at d)
fits_route place found rows at d each is less = each_at (FitsRoute place) rows at d (subst (λ l. Each (FitsRoute place) l) (sym is) each) less

-- a target of a route stands at another place than the map's
pub apart : (maps : List Map) (place q : ℕ) (map : Map) (route : Route) → map_at place maps ≡ Some map → FitsRoute map.place route → q ≡ route.target.place → q ≢ place
apart maps place q map route is fits same = λ at. fits.target.apart (sym same ∙ (at ∙ sym (place_of maps place map is)))

-- one map more, where there is room
pub kept : (left : ℕ) (map : Map) (maps : List Map) → 0 < left → maps ++ map ∷ [] ≡ with_map left map maps
kept zero map maps some = absurd (omega arith)
kept (suc left) map maps some = refl

pub one_less : (left next : ℕ) → 0 < left → next + 1 ≡ left → next ≡ left_behind left
one_less zero next some is = absurd (omega arith)
one_less (suc left) next some is = omega arith

pub none_kept : (left : ℕ) (map : Map) (maps : List Map) → left ≡ 0 → maps ≡ with_map left map maps
none_kept zero map maps none = refl
none_kept (suc left) map maps none = absurd (omega arith)

pub none_less : (left : ℕ) → left ≡ 0 → left ≡ left_behind left
none_less zero none = refl
none_less (suc left) none = absurd (omega arith)

pub each_more : (maps : List Map) (map : Map) → Each FitsMap maps → FitsMap map → Each FitsMap (maps ++ map ∷ [])
each_more [] map each fits = (fits, tt)
each_more (x ∷ maps) map each fits = (each.0, each_more maps map each.1 fits)
