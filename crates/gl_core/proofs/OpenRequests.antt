-- Open requests: the request of a number is the world's, and its lines are lines of its place.
use Rattle.std.proofs.Common.{◌≡◌, ℕ, zero, suc, ◌<◌, ◌≤◌, Bool, true, false, List, [], ◌∷◌, length, take, Option, Some, None, refl, sym, ap, ◌∙◌, subst, eq-eqb, arith}
use Rattle.std.specs.Prelude.{◌&&◌, ◌||◌, not, is_some, if◌then◌else◌, nat_eq, slice_index, slice_index_or}
use Rattle.std.specs.List.{list_any}
use Rattle.std.specs.Option.{option_map}
use Rattle.std.proofs.lemmas.Bool.{true≢false}
use Rattle.gl_base.proofs.FirstRows.{Each-find}
use Rattle.gl_base.specs.declared.lines.Lines.{Lines}
use Rattle.gl_base.specs.declared.settings.Resolved.{Resolved}
use Rattle.gl_request.specs.Request.{claim_of, is_open_at, request_at as row_at}
use Rattle.gl_request.specs.declared.row.Claim.{Claim}
use Rattle.gl_request.specs.declared.row.RequestRow.{RequestRow}
use Rattle.gl_model.specs.Holders.{HasItsLines, has_line}
use Rattle.gl_base.specs.Refusals.{first_of, when}
use Rattle.gl_base.specs.declared.errno.Errno.{Errno}
use Rattle.gl_base.specs.declared.errno.Errno.TheVariants.{BadF, Inval}
use Rattle.gl_watch.specs.Answers.{place_of}
use Rattle.gl_watch.specs.Files.{file_at, is_open_at as is_file_at}
use Rattle.gl_watch.specs.declared.file.ChipFile.{ChipFile}
use Rattle.gl_model.specs.OpenFiles.{chip_file_refusal, is_chip_file, is_hold, is_place, is_request_file, on_request, request_file_refusal, request_place}
use Rattle.gl_model.specs.Outcome.{Outcome}
use Rattle.gl_model.specs.Places.{no_place, place_at}
use Rattle.gl_model.specs.World.{Request, World, has_number, request_at}
use Rattle.gl_model.specs.declared.place.Place.{Place}
use Rattle.gl_model.proofs.Phases.{both, same_number}
use Rattle.gl_core.specs.Kept.{Kept, StandsFor, kept_request}
use Rattle.gl_core.specs.Reached.{IsReached}
use Rattle.gl_core.specs.Shape.{HasEachLine, IsShaped}
use Rattle.gl_core.specs.Steps.{Tells}
use Rattle.gl_core.proofs.KeptRequests.{kept_at}
use Rattle.gl_core.proofs.RequestLines.{line_there}

-- the table tells which requests are open

open_in : (place : ℕ) (o : Option Request) → is_open_at place (option_map kept_request o) ≡ (is_hold o && is_place place (request_place o))
open_in place None = refl
open_in place (Some request) = refl

pub open_told : (k : Kept) (w : World) (place fd : ℕ) → StandsFor k w → is_open_at place (row_at k.requests fd) ≡ is_request_file place fd w
open_told k w place fd s = ap (is_open_at place) (kept_at k w fd s) ∙ open_in place (request_at w.requests fd)

pub request_told : (k : Kept) (place fd : ℕ) (b : Bool) → b ≡ is_open_at place (row_at k.requests fd) → Tells (is_request_file place fd) k b
request_told k place fd b is w s = is ∙ open_told k w place fd s

refused_as : (chip request : Bool) → false ≡ request → Some (if chip then Inval else BadF) ≡ first_of (when (not (chip || request)) BadF ∷ when (not request) Inval ∷ [])
refused_as true true isnt = absurd (true≢false (sym isnt))
refused_as false true isnt = absurd (true≢false (sym isnt))
refused_as true false isnt = refl
refused_as false false isnt = refl

pub request_refused : (k : Kept) (place fd : ℕ) (errno : Errno) → false ≡ is_open_at place (row_at k.requests fd) → Tells (λ w. if is_chip_file place fd w then Inval else BadF) k errno → Tells (request_file_refusal place fd) k (Some errno)
request_refused k place fd errno none told w s =
    ap Some (told w s) ∙ refused_as (is_chip_file place fd w) (is_request_file place fd w) (none ∙ open_told k w place fd s)

passed_as : (chip request : Bool) → true ≡ request → None ≡ first_of (when (not (chip || request)) BadF ∷ when (not request) Inval ∷ [])
passed_as chip false is = absurd (true≢false is)
passed_as true true is = refl
passed_as false true is = refl

pub request_passed : (k : Kept) (place fd : ℕ) → true ≡ is_open_at place (row_at k.requests fd) → Tells (request_file_refusal place fd) k None
request_passed k place fd there w s = passed_as (is_chip_file place fd w) (is_request_file place fd w) (there ∙ open_told k w place fd s)

-- the table tells which chip files are open

file_in : (place : ℕ) (o : Option ChipFile) → is_file_at place o ≡ is_place place (place_of o)
file_in place None = refl
file_in place (Some file) = refl

pub file_told : (k : Kept) (w : World) (place fd : ℕ) → StandsFor k w → is_file_at place (file_at fd k.files) ≡ is_chip_file place fd w
file_told k w place fd s = file_in place (file_at fd k.files) ∙ ap (λ (k : Kept). is_place place (place_of (file_at fd k.files))) (sym s.kept_so)

file_refused_as : (chip request : Bool) → false ≡ chip → Some (if request then Inval else BadF) ≡ first_of (when (not (chip || request)) BadF ∷ when (not chip) Inval ∷ [])
file_refused_as true request isnt = absurd (true≢false (sym isnt))
file_refused_as false true isnt = refl
file_refused_as false false isnt = refl

pub file_refused : (k : Kept) (place fd : ℕ) (errno : Errno) → false ≡ is_file_at place (file_at fd k.files) → Tells (λ w. if is_request_file place fd w then Inval else BadF) k errno → Tells (chip_file_refusal place fd) k (Some errno)
file_refused k place fd errno none told w s =
    ap Some (told w s) ∙ file_refused_as (is_chip_file place fd w) (is_request_file place fd w) (none ∙ file_told k w place fd s)

file_passed_as : (chip request : Bool) → true ≡ chip → None ≡ first_of (when (not (chip || request)) BadF ∷ when (not chip) Inval ∷ [])
file_passed_as false request is = absurd (true≢false is)
file_passed_as true request is = refl

pub file_passed : (k : Kept) (place fd : ℕ) → true ≡ is_file_at place (file_at fd k.files) → Tells (chip_file_refusal place fd) k None
file_passed k place fd there w s = file_passed_as (is_chip_file place fd w) (is_request_file place fd w) (there ∙ file_told k w place fd s)

-- what a look-up answered that found none

pub none_there : (o : Option RequestRow) → false ≡ is_some o → o ≡ None
none_there None is = refl
none_there (Some row) is = absurd (true≢false (sym is))

-- the lines of an open request are lines of its place

or_true : (a b : Bool) → b ≡ true → (a || b) ≡ true
or_true true b e = refl
or_true false b e = e

pub among : (xs : List ℕ) (n i : ℕ) → i < n → i < length xs → list_any (nat_eq (slice_index xs i)) (take n xs) ≡ true
among [] n i lt in_xs = absurd (omega arith)
among (x ∷ xs) zero i lt in_xs = absurd (omega arith)
among (x ∷ xs) (suc n) zero lt in_xs = ap (λ b. b || list_any (nat_eq x) (take n xs)) (eq-eqb x x refl)
among (x ∷ xs) (suc n) (suc i) lt in_xs = or_true (nat_eq (slice_index xs i) x) (list_any (nat_eq (slice_index xs i)) (take n xs)) (among xs n i (omega arith) (omega arith))

open_found : (place : ℕ) (lines : Lines) (o : Option Request) → (is_hold o && is_place place (request_place o)) ≡ true → Some lines ≡ option_map (λ (row : RequestRow). row.lines) (option_map kept_request o)
    → (request : Request) × (o ≡ Some request) × (request.place ≡ place) × (lines ≡ request.lines)
open_found place lines None held is = absurd (true≢false (sym held))
open_found place lines (Some request) held is =
    let same : lines ≡ request.lines = cc in
    (request, refl, same_number request.place place (both request.held (is_place place (Some request.place)) held).1, same)

world_line : (w : World) (request : Request) (place : ℕ) (lines : Lines) (i : ℕ) → HasItsLines w request → request.place ≡ place → lines ≡ request.lines → length lines.offsets ≡ 64 → lines.count ≤ 64 → i < lines.count
    → slice_index lines.offsets i < length (place_at w place).descs
world_line w request place lines i has at same size few lt =
    let offset : ℕ = slice_index lines.offsets i in
    let one : has_line offset request ≡ true = ap (λ (ls : Lines). list_any (nat_eq offset) (take ls.count ls.offsets)) (sym same) ∙ among lines.offsets lines.count i lt (omega arith) in
    subst (λ p. offset < length (place_at w p).descs) at (has offset one).0

each_line : (k : Kept) (place fd : ℕ) (lines : Lines) → IsShaped k.chips k.origins k.places → IsReached k → Tells (is_request_file place fd) k true
    → Some lines ≡ option_map (λ (row : RequestRow). row.lines) (row_at k.requests fd) → length lines.offsets ≡ 64 → lines.count ≤ 64 → HasEachLine k.places place lines
each_line k place fd lines shape reached file is size few i lt =
    let w : World = reached.world in
    let found = open_found place lines (request_at w.requests fd) (sym (file w reached.stands)) (is ∙ ap (option_map (λ (row : RequestRow). row.lines)) (kept_at k w fd reached.stands)) in
    let has : HasItsLines w found.0 = Each-find (HasItsLines w) (has_number fd) w.requests found.0 reached.good.holders.requests_have found.1 in
    let within : slice_index lines.offsets i < length (place_at w place).descs = world_line w found.0 place lines i has found.2 found.3 size few lt in
    let places : w.places ≡ k.places = ap (λ (k : Kept). k.places) reached.stands.kept_so in
    line_there k.chips k.origins k.places place (slice_index lines.offsets i) shape (subst (λ (ps : List Place). slice_index lines.offsets i < length (slice_index_or ps place no_place).descs) places within)

-- the same by what the request was claimed as

with_claim : (P : Outcome → Type 0) (act : Lines → Resolved → World → Outcome) (w : World) (claim : Claim) (o : Option Request) → Some claim ≡ option_map claim_of (option_map kept_request o)
    → P (act claim.lines claim.settings w) → P (on_request act o w)
with_claim P act w claim None is does = cc
with_claim P act w claim (Some request) is does =
    let same : claim ≡ claim_of (kept_request request) = cc in subst (λ (claim : Claim). P (act claim.lines claim.settings w)) same does

on_claim : (P : Outcome → Type 0) (act : Lines → Resolved → World → Outcome) (k : Kept) (w : World) (fd : ℕ) (claim : Claim) → StandsFor k w → Some claim ≡ option_map claim_of (row_at k.requests fd)
    → P (act claim.lines claim.settings w) → P (on_request act (request_at w.requests fd) w)
on_claim P act k w fd claim s is = with_claim P act w claim (request_at w.requests fd) (is ∙ ap (option_map claim_of) (kept_at k w fd s))

-- the same by its row

pub on_row : (P : Outcome → Type 0) (act : Lines → Resolved → World → Outcome) (k : Kept) (w : World) (fd : ℕ) (row : RequestRow) → StandsFor k w → row_at k.requests fd ≡ Some row
    → P (act row.lines row.settings w) → P (on_request act (request_at w.requests fd) w)
on_row P act k w fd row s found = on_claim P act k w fd (claim_of row) s (sym (ap (option_map claim_of) found))

pub each_row_line : (k : Kept) (place fd : ℕ) (row : RequestRow) → IsShaped k.chips k.origins k.places → IsReached k → Tells (is_request_file place fd) k true
    → row_at k.requests fd ≡ Some row → length row.lines.offsets ≡ 64 → row.lines.count ≤ 64 → HasEachLine k.places place row.lines
each_row_line k place fd row shape reached file found =
    each_line k place fd row.lines shape reached file (sym (ap (option_map (λ (row : RequestRow). row.lines)) found))
