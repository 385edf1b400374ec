-- The end of a claim: which one an actor has at a place, and what the core stands for after it was given up or became a hold.
use Rattle.std.proofs.Common.{◌≡◌, ◌≢◌, ℕ, zero, suc, ◌<◌, ◌≤◌, min, true, false, cond, List, [], ◌∷◌, length, take, Option, Some, None, refl, sym, ap, ◌∙◌, subst, eq-eqb, arith}
use Rattle.std.specs.Prelude.{◌==◌, is_some, slice_index}
use Rattle.std.specs.Option.{option_and_then, option_map}
use Rattle.std.proofs.lemmas.Bool.{ne_eqb, true≢false}
use Rattle.std.proofs.lemmas.List.{get_or-take, length-take}
use Rattle.gl_base.specs.Lines.{offsets_of}
use Rattle.gl_base.specs.Positions.{change_at}
use Rattle.gl_base.specs.Rows.{Each, change_first, without_first}
use Rattle.gl_base.proofs.FirstRows.{Each-at, Each-change_first, Each-without_first}
use Rattle.gl_base.proofs.Seen.{map-change_first, map-without_first}
use Rattle.gl_base.specs.declared.lines.Lines.{Lines}
use Rattle.gl_desc.specs.Desc.{freed, settled}
use Rattle.gl_request.specs.Request.{held as held_row, is_number, request_at as row_at}
use Rattle.gl_request.specs.declared.row.RequestRow.{RequestRow}
use Rattle.gl_model.specs.Claiming.{claim_at, drop_claim, held, told_claim, with_descs}
use Rattle.gl_model.specs.Outcome.{Outcome}
use Rattle.gl_model.specs.Places.{no_place}
use Rattle.gl_model.specs.SoundRequests.{IsSoundRequest}
use Rattle.gl_model.specs.World.{Request, World, has_number, request_at}
use Rattle.gl_model.specs.declared.place.Place.{Place}
use Rattle.gl_model.proofs.Phases.{same_number}
use Rattle.gl_core.specs.Claims.{settled_claim}
use Rattle.gl_core.specs.Kept.{Kept, StandsFor, kept_of, kept_request}
use Rattle.gl_core.specs.Shape.{HasEachLine, HasLine}

-- the claim at a place

pub none_at : (place : ℕ) (number : Option ℕ) (requests : List Request) → None ≡ number → None ≡ option_map kept_request (claim_at place (option_and_then (request_at requests) number))
none_at place None requests is = refl
none_at place (Some fd) requests is = cc

pub some_at : (place : ℕ) (row : RequestRow) (o : Option Request) → Some row ≡ option_map kept_request o → row.place ≡ place → option_map kept_request o ≡ option_map kept_request (claim_at place o)
some_at place row None is at = cc
some_at place row (Some request) is at =
    let same : row ≡ kept_request request = cc in
    let here : (request.place == place) ≡ true = eq-eqb request.place place (ap (λ (r : RequestRow). r.place) (sym same) ∙ at) in
    ap (λ b. option_map kept_request (cond b (Some request) None)) (sym here)

pub other_at : (place : ℕ) (row : RequestRow) (o : Option Request) → Some row ≡ option_map kept_request o → row.place ≢ place → None ≡ option_map kept_request (claim_at place o)
other_at place row None is other = cc
other_at place row (Some request) is other =
    let same : row ≡ kept_request request = cc in
    let there : (request.place == place) ≡ false = ne_eqb request.place place (λ at. other (ap (λ (r : RequestRow). r.place) same ∙ at)) in
    ap (λ b. option_map kept_request (cond b (Some request) None)) (sym there)

-- what is told of a claim that was found
pub told_of : (P : Outcome → Type 0) (answer : Option ℕ) (len : ℕ) (bytes : List ℕ) (w : World) (row : Option RequestRow) (o : Option Request) → row ≡ option_map kept_request o → is_some row ≡ true
    → ((request : Request) → row ≡ Some (kept_request request) → P (told_claim answer len bytes (Some request) w)) → P (told_claim answer len bytes o w)
told_of P answer len bytes w None None is some does = absurd (true≢false (sym some))
told_of P answer len bytes w (Some row) None is some does = cc
told_of P answer len bytes w row (Some request) is some does = does request is

-- the row of a number has this number
pub row_number : (rows : List RequestRow) (fd : ℕ) (row : RequestRow) → row_at rows fd ≡ Some row → row.fd ≡ fd
row_number [] fd row is = cc
row_number (other ∷ rows) fd row is =
    elim (other.fd == fd) as (λ b. (other.fd == fd) ≡ b → cond b (Some other) (row_at rows fd) ≡ Some row → row.fd ≡ fd) [
      | true ↦ (λ here some. let same : other ≡ row = cc in ap (λ (r : RequestRow). r.fd) (sym same) ∙ same_number other.fd fd here)
      | false ↦ (λ there some. row_number rows fd row some)
    ] refl is

-- the request of a row that was found
pub row_same : (rows : List RequestRow) (fd : ℕ) (row other : RequestRow) → row_at rows fd ≡ Some row → row_at rows fd ≡ Some other → row ≡ other
row_same rows fd row other is also = let one : Some row ≡ Some other = sym is ∙ also in cc

-- a claim is given up

pub dropped_stands : (k : Kept) (w : World) (request : Request) (row : RequestRow) (fd : ℕ) → StandsFor k w → row_at k.requests fd ≡ Some row → row_at k.requests fd ≡ Some (kept_request request)
    → StandsFor (record k { requests = without_first (is_number fd) k.requests; places = change_at no_place row.place (with_descs (offsets_of row.lines) freed) k.places }) (drop_claim request w)
dropped_stands k w request row fd s found is =
    subst (λ (row : RequestRow). StandsFor (record k { requests = without_first (is_number fd) k.requests; places = change_at no_place row.place (with_descs (offsets_of row.lines) freed) k.places }) (drop_claim request w))
    (row_same k.requests fd (kept_request request) row is found)
    (subst (λ (n : ℕ). StandsFor (record k { requests = without_first (is_number n) k.requests; places = change_at no_place request.place (with_descs (offsets_of request.lines) freed) k.places }) (drop_claim request w))
    (row_number k.requests fd (kept_request request) is)
    (record {
      kept_so =
          ap (λ (rows : List RequestRow). record (kept_of (drop_claim request w)) { requests = rows }) (map-without_first kept_request (has_number request.fd) (is_number request.fd) (λ r. refl) w.requests)
          ∙ ap (λ (k : Kept). record k { requests = without_first (is_number request.fd) k.requests; places = change_at no_place request.place (with_descs (offsets_of request.lines) freed) k.places }) s.kept_so;
      sound_requests = Each-without_first IsSoundRequest (has_number request.fd) w.requests s.sound_requests;
    }))

-- a claim becomes a hold

pub settled_stands : (k : Kept) (w : World) (request : Request) (fd place : ℕ) (lines : Lines) → StandsFor k w → row_at k.requests fd ≡ Some (kept_request request) → request.place ≡ place → request.lines ≡ lines
    → StandsFor (record k { requests = change_first (is_number fd) held_row k.requests; places = change_at no_place place (with_descs (offsets_of lines) settled) k.places }) (settled_claim request w)
settled_stands k w request fd place lines s is at of =
    subst (λ (n : ℕ). StandsFor (record k { requests = change_first (is_number n) held_row k.requests; places = change_at no_place place (with_descs (offsets_of lines) settled) k.places }) (settled_claim request w))
    (row_number k.requests fd (kept_request request) is)
    (subst (λ (p : ℕ). StandsFor (record k { requests = change_first (is_number request.fd) held_row k.requests; places = change_at no_place p (with_descs (offsets_of lines) settled) k.places }) (settled_claim request w)) at
    (subst (λ (ls : Lines). StandsFor (record k { requests = change_first (is_number request.fd) held_row k.requests; places = change_at no_place request.place (with_descs (offsets_of ls) settled) k.places }) (settled_claim request w)) of
    (record {
      kept_so =
          ap (λ (rows : List RequestRow). record (kept_of (settled_claim request w)) { requests = rows })
          (map-change_first kept_request (has_number request.fd) (is_number request.fd) held held_row (λ r. refl) w.requests (λ r is. refl))
          ∙ ap (λ (k : Kept). record k { requests = change_first (is_number request.fd) held_row k.requests; places = change_at no_place request.place (with_descs (offsets_of request.lines) settled) k.places }) s.kept_so;
      sound_requests = Each-change_first IsSoundRequest (has_number request.fd) held w.requests
          (λ r sound. record { in_order = sound.in_order; at_most = sound.at_most; lines_differ = sound.lines_differ }) s.sound_requests;
    })))

-- the lines of a request one by one

each_first : (P : ℕ → Type 0) (n : ℕ) (xs : List ℕ) → ((i : ℕ) → i < n → P (slice_index xs i)) → Each P (take n xs)
each_first P zero xs all = tt
each_first P (suc n) [] all = tt
each_first P (suc n) (x ∷ xs) all = (all 0 (omega arith), each_first P n xs (λ i lt. all (suc i) (omega arith)))

pub each_offset : (places : List Place) (place : ℕ) (lines : Lines) → HasEachLine places place lines → Each (HasLine places place) (offsets_of lines)
each_offset places place lines all = each_first (HasLine places place) lines.count lines.offsets all

pub each_claimed : (places : List Place) (place : ℕ) (lines : Lines) → length lines.offsets ≡ 64 → lines.count ≤ 64 → Each (HasLine places place) (offsets_of lines) → HasEachLine places place lines
each_claimed places place lines size few each i lt =
    let long : length (offsets_of lines) ≡ min lines.count (length lines.offsets) = length-take lines.count lines.offsets in
    subst (HasLine places place) (get_or-take lines.count lines.offsets i 0 lt) (Each-at (HasLine places place) (offsets_of lines) i 0 each (omega arith))
