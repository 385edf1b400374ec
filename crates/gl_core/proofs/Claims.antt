-- Claims of lines: an actor's unfinished one, and which lines are free.
use Rattle.std.proofs.Common.{◌≡◌, ℕ, zero, suc, ◌+◌, ◌-◌, ◌<◌, ◌≤◌, List, [], ◌∷◌, ◌++◌, length, map, refl, sym, ap, ◌∙◌, Bool, true, false, cond, Option, Some, None, inl, inr, arith}
use Rattle.std.specs.Prelude.{nat_le, nat_lt, not, ◌==◌, slice_index, slice_index_or, take, IfNone}
use Rattle.std.specs.List.{find, list_any}
use Rattle.std.specs.Option.{option_map, option_or}
use Rattle.std.proofs.lemmas.Bool.{cases_lt}
use Rattle.std.proofs.lemmas.Bool.Decides.{nat_tests}
use Rattle.std.proofs.lemmas.List.{map-append}
use Rattle.circular_buffer.specs.Buffer.{buffer}
use Rattle.gl_base.specs.Lines.{IsLineCount, offsets_of}
use Rattle.gl_base.specs.Positions.{change_at, first_fault, table_from}
use Rattle.gl_base.specs.Refusals.{first_of, when}
use Rattle.gl_base.specs.declared.errno.Errno.TheVariants.{Busy, Inval}
use Rattle.gl_base.specs.declared.lines.Lines.{Lines}
use Rattle.gl_base.proofs.AtPositions.{first_fault_each, first_fault_here, table_from-same}
use Rattle.gl_base.proofs.FirstRows.{Each-push}
use Rattle.gl_base.proofs.Seen.{find-map}
use Rattle.gl_desc.specs.Desc.{claim_fault, claimed, desc_at, is_free, line_fault, stands_earlier}
use Rattle.gl_desc.specs.declared.desc.Desc.{Desc}
use Rattle.gl_desc.specs.declared.desc.LineFault.TheVariants.{BadOffset, Busy as BusyLine}
use Rattle.gl_irq.specs.Irq.{irq_at}
use Rattle.gl_pins.specs.Pins.{is_held}
use Rattle.gl_request.specs.Request.{claim_by, is_claim_of as is_row_of, no_counts, row_of}
use Rattle.gl_request.specs.declared.row.RequestRow.{RequestRow}
use Rattle.gl_model.specs.AskedLines.{AskedLines}
use Rattle.gl_model.specs.Claiming.{claim_lines, claim_number, errno_of, is_claim_of, line_refusal, new_claim, with_descs}
use Rattle.gl_model.specs.Configuring.{interrupt_fault, settings_of}
use Rattle.gl_model.specs.Places.{no_place}
use Rattle.gl_model.specs.World.{World, Request}
use Rattle.gl_model.specs.declared.place.Place.{Place}
use Rattle.gl_model.proofs.Phases.{nothing_first}
use Rattle.gl_model.specs.SoundRequests.{IsSoundRequest}
use Rattle.gl_model.proofs.SoundRequests.{fault_when, first_two, map_none, or_false}
use Rattle.gl_ring.specs.Edges.{HasDifferentLines}
use Rattle.gl_core.specs.Claims.{AreFree}
use Rattle.gl_core.specs.Kept.{Kept, StandsFor, kept_count, kept_of, kept_request}

number_seen : (o : Option Request) → option_map (λ (row : RequestRow). row.fd) (option_map kept_request o) ≡ option_map (λ (request : Request). request.fd) o
number_seen None = refl
number_seen (Some request) = refl

-- the unfinished claim of an actor has the same number in what is kept
pub claim_kept : (k : Kept) (w : World) (actor : ℕ) → StandsFor k w → option_map (λ (row : RequestRow). row.fd) (claim_by k.requests actor) ≡ claim_number w.requests actor
claim_kept k w actor s =
    ap (λ (z : Kept). option_map (λ (row : RequestRow). row.fd) (find (is_row_of actor) z.requests)) (sym s.kept_so)
    ∙ ap (option_map (λ (row : RequestRow). row.fd)) (find-map kept_request (is_claim_of actor) (is_row_of actor) (λ request. refl) w.requests)
    ∙ number_seen (find (is_claim_of actor) w.requests)

-- without a chip the first line has a fault
pub no_lines : (place : Place) (asked : AskedLines) → place ≡ no_place → 0 < asked.lines.count → first_fault (line_refusal place asked) 0 asked.lines.count ≡ Some Inval
no_lines place asked e some =
    let past : nat_le 0 (slice_index asked.lines.offsets 0) ≡ true = grind (arith, nat_tests) in
    let here : line_refusal no_place asked 0 ≡ Some Inval = simp past in
    let all : asked.lines.count - 0 ≡ asked.lines.count = omega arith in
    ap (λ p. first_fault (line_refusal p asked) 0 asked.lines.count) e
    ∙ ap (first_fault (line_refusal no_place asked) 0) (sym all) ∙ first_fault_here (line_refusal no_place asked) 0 asked.lines.count Inval some here

-- lines that can be claimed are free
pub free_lines : (place : Place) (asked : AskedLines) (i n : ℕ) → first_fault (line_refusal place asked) i n ≡ None → first_fault (line_fault place.descs asked.lines.offsets) i n ≡ None
free_lines place asked i zero e = refl
free_lines place asked i (suc n) e =
    let offset : ℕ = slice_index asked.lines.offsets i in
    let parts = nothing_first (line_refusal place asked i) (first_fault (line_refusal place asked) (i + 1) n) e in
    let first = nothing_first (option_map errno_of (line_fault place.descs asked.lines.offsets i)) (first_of (when (is_held place.pins offset) Busy ∷ interrupt_fault (settings_of asked.settings i) (irq_at place.irqs offset) ∷ [])) parts.0 in
    let none : line_fault place.descs asked.lines.offsets i ≡ None = map_none (line_fault place.descs asked.lines.offsets i) first.0 in
    ap (λ o. option_or o (first_fault (line_fault place.descs asked.lines.offsets) (i + 1) n)) none ∙ free_lines place asked (i + 1) n parts.1

-- what is true where nothing was found
pub where_none : {E : Type 0} (o : Option E) (P : Type 0) → (o ≡ None → P) → IfNone o P
where_none None P h = h refl
where_none (Some e) P h = tt

-- a line that stands later is another one

none_passes : (p : ℕ → Bool) (xs : List ℕ) (i k : ℕ) → list_any p (take i xs) ≡ false → k < i → k < length xs → p (slice_index xs k) ≡ false
none_passes p [] i k e lt in_xs = absurd (omega arith)
none_passes p (x ∷ xs) zero k e lt in_xs = absurd (omega arith)
none_passes p (x ∷ xs) (suc i) zero e lt in_xs = (or_false (p x) (list_any p (take i xs)) e).0
none_passes p (x ∷ xs) (suc i) (suc k) e lt in_xs = none_passes p xs i k (or_false (p x) (list_any p (take i xs)) e).1 (omega arith) (omega arith)

earlier_none : (descs : List Desc) (offsets : List ℕ) (i : ℕ) → line_fault descs offsets i ≡ None → stands_earlier offsets i ≡ false
earlier_none descs offsets i e =
    let a = when (nat_le (length descs) (slice_index offsets i)) BadOffset in
    let b = when (not (is_free (desc_at descs (slice_index offsets i)).holder)) BusyLine in
    let c = when (stands_earlier offsets i) BusyLine in
    let two = first_two a (first_of (b ∷ c ∷ [])) e in
    let three = first_two b (first_of (c ∷ [])) two.1 in
    let four = first_two c None three.1 in
    fault_when (stands_earlier offsets i) BusyLine four.0

later_differs : (descs : List Desc) (lines : Lines) → length lines.offsets ≡ 64 → IsLineCount lines.count → claim_fault descs lines ≡ None
    → (i j : ℕ) → i < j → j < lines.count → slice_index lines.offsets i ≡ slice_index lines.offsets j → ⊥
later_differs descs lines size some e i j less within same =
    let few : lines.count ≤ 64 = some.1 in
    let none : line_fault descs lines.offsets j ≡ None = first_fault_each (line_fault descs lines.offsets) 0 lines.count e j (omega arith) (omega arith) in
    let differs : (slice_index lines.offsets i == slice_index lines.offsets j) ≡ false =
    none_passes (λ offset. offset == slice_index lines.offsets j) lines.offsets j i (earlier_none descs lines.offsets j none) less (omega arith) in
    grind (arith, nat_tests)

lines_differ : (descs : List Desc) (lines : Lines) → length lines.offsets ≡ 64 → IsLineCount lines.count → claim_fault descs lines ≡ None → HasDifferentLines lines
lines_differ descs lines size some e i j i_in j_in same = elim (cases_lt i j) as (λ _. i ≡ j) [
  | inl less ↦ absurd (later_differs descs lines size some e i j less j_in same)
  | inr le ↦ (elim (cases_lt j i) as (λ _. i ≡ j) [
    | inl less ↦ absurd (later_differs descs lines size some e j i less i_in (sym same))
    | inr le_too ↦ omega arith
  ])
]

-- a new claim as it is kept

no_count : (fd place actor : ℕ) (asked : AskedLines) → table_from (kept_count (new_claim fd place actor asked)) 0 64 ≡ table_from (λ (_ : ℕ). 0) 0 64
no_count fd place actor asked = table_from-same (kept_count (new_claim fd place actor asked)) (λ (_ : ℕ). 0) 0 64
    (λ k low high. elim (nat_lt k asked.lines.count) as (λ b. ◌≡◌ {A = ℕ} (cond b 0 0) 0) [ true ↦ refl | false ↦ refl ])

zeros : table_from (λ (_ : ℕ). 0) 0 64 ≡ no_counts
unfolding table_from no_counts
zeros = refl

kept_claim : (fd place actor : ℕ) (asked : AskedLines) → kept_request (new_claim fd place actor asked) ≡ row_of (record { fd = fd; place = place; actor = actor; lines = asked.lines; settings = asked.settings }) (buffer [] asked.capacity)
kept_claim fd place actor asked = ap (λ (ns : List ℕ). record (kept_request (new_claim fd place actor asked)) { line_counts = ns }) (no_count fd place actor asked ∙ zeros)

-- what is kept after a claim
abbrev pub with_claim : (place actor : ℕ) → AskedLines → Kept → Kept
with_claim place actor asked k = record k {
  places = change_at no_place place (with_descs (offsets_of asked.lines) (claimed k.next asked.consumer)) k.places;
  requests = k.requests ++ row_of (record { fd = k.next; place = place; actor = actor; lines = asked.lines; settings = asked.settings }) (buffer [] asked.capacity) ∷ [];
  next = k.next + 1;
}

pub claim_stands : (k : Kept) (w : World) (place actor : ℕ) (asked : AskedLines) → StandsFor k w → length asked.lines.offsets ≡ 64 → IsLineCount asked.lines.count → AreFree k place asked
    → StandsFor (with_claim place actor asked k) (claim_lines place actor asked w)
claim_stands k w place actor asked s size some free = record {
  kept_so =
      ap (λ rows. record (kept_of (claim_lines place actor asked w)) { requests = rows })
      (map-append kept_request w.requests (new_claim w.next place actor asked ∷ []) ∙ ap (λ (x : RequestRow). map kept_request w.requests ++ x ∷ []) (kept_claim w.next place actor asked))
      ∙ ap (with_claim place actor asked) s.kept_so;
  sound_requests = Each-push IsSoundRequest w.requests (new_claim w.next place actor asked) s.sound_requests (record {
    in_order = omega arith;
    at_most = some.1;
    lines_differ = lines_differ (slice_index_or k.places place no_place).descs asked.lines size some free.faultless;
  });
}
