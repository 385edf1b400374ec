-- The numbers of a request's events.
use Rattle.std.proofs.Common.{ℕ, Bool, true, false, cond, eqb, ◌≡◌, ◌+◌, ◌-◌, ◌%◌, ◌^◌, ◌<◌, List, [], ◌∷◌, ◌++◌, length, get_or, set, drop, min, max, refl, sym, ap, ◌∙◌, inl, inr, arith, length-set, get_or-set_same, get_or-set_other}
use Rattle.std.specs.List.{count_by}
use Rattle.std.proofs.Math.Nat.{mod-add-mod}
use Rattle.std.proofs.lemmas.Bool.{cases_eq, cases_lt, eq-eqb, ne_eqb}
use Rattle.std.proofs.lemmas.List.Sums.{fold-append}
use Rattle.std.proofs.lemmas.List.{get_or-replicate, get_or_past, length-drop, length-replicate, length_push}
use Rattle.circular_buffer.specs.Buffer.{buffer}
use Rattle.gl_base.specs.Lines.{IsLineCount}
use Rattle.gl_ring.specs.Edges.{Edge, HasDifferentLines, event_behind, events_of, line_count}
use Rattle.gl_ring.specs.Waiting.{Past, left, pushed, waiting}
use Rattle.gl_ring.proofs.Edges.{events_of-more, length-events_behind}
use Rattle.gl_ring.proofs.Lasting.{left-waiting, pushed-waiting}
use Rattle.gl_uapi.specs.declared.line_events.Event.{Event}
use Rattle.gl_request.specs.declared.row.Claim.{Claim}
use Rattle.gl_request.specs.declared.row.RequestRow.{RequestRow}
use Rattle.gl_request.specs.Numbering.{KeepsEdges, edge_of}
use Rattle.gl_request.specs.Request.{next_number, no_counts, numbered, read_from, row_of, with_event}

-- one more of a line
count_more : (test : Edge → Bool) (edges : List Edge) (edge : Edge) (b : Bool) → test edge ≡ b → count_by test (edges ++ edge ∷ []) ≡ count_by test edges + cond b 1 0
count_more test edges edge b is =
    fold-append (λ n e. n + cond (test e) 1 0) 0 edges (edge ∷ []) ∙ ap (λ c. count_by test edges + cond c 1 0) is

no_count : (i : ℕ) → get_or no_counts i 0 ≡ 0
unfolding no_counts
no_count i =
    elim (cases_lt i 64) [
      | inl below ↦ get_or-replicate 64 i 0 0 below
      | inr past ↦ get_or_past no_counts i 0 (omega (arith, length-replicate {A = ℕ} 64 0))
    ]

pub no_edges : (claim : Claim) (capacity : ℕ) → IsLineCount claim.lines.count → KeepsEdges (row_of claim (buffer [] capacity)) [] 0
unfolding no_counts
no_edges claim capacity few = record {
  count = refl;
  slots = length-replicate {A = ℕ} 64 0;
  few = few.1;
  line_counts = λ i below. no_count i;
  other_counts = λ i past. no_count i;
  ring = refl;
  within = omega arith;
}

pub edge_numbered : (row : RequestRow) (edges : List Edge) (next i : ℕ) (rising : Bool) (timestamp : ℕ) → KeepsEdges row edges next → i < row.lines.count
    → numbered i rising timestamp row ≡ event_behind edges (edge_of i rising timestamp row)
edge_numbered row edges next i rising timestamp keeps below =
    let seqno : next_number row.count ≡ (length edges + 1) % 2 ^ 32 = ap next_number keeps.count ∙ mod-add-mod (length edges) (2 ^ 32) 1 in
    let line_seqno : next_number (get_or row.line_counts i 0) ≡ (line_count (get_or row.lines.offsets i 0) edges + 1) % 2 ^ 32 =
    ap next_number (keeps.line_counts i below) ∙ mod-add-mod (line_count (get_or row.lines.offsets i 0) edges) (2 ^ 32) 1 in
    simp (seqno, line_seqno)

-- the numbers of the lines, one edge on
lines_kept : (row : RequestRow) (edges : List Edge) (next i j : ℕ) (rising : Bool) (timestamp : ℕ) → KeepsEdges row edges next → HasDifferentLines row.lines
    → i < row.lines.count → j < row.lines.count
    → get_or (set row.line_counts i (next_number (get_or row.line_counts i 0))) j 0 ≡ line_count (get_or row.lines.offsets j 0) (edges ++ edge_of i rising timestamp row ∷ []) % 2 ^ 32
lines_kept row edges next i j rising timestamp keeps different here there =
    let edge : Edge = edge_of i rising timestamp row in
    let offset : ℕ = get_or row.lines.offsets j 0 in
    let test : Edge → Bool = λ e. eqb e.offset offset in
    elim (cases_eq j i) [
      | inl same ↦
          (let slot : get_or (set row.line_counts i (next_number (get_or row.line_counts i 0))) j 0 ≡ next_number (get_or row.line_counts i 0) =
          ap (λ k. get_or (set row.line_counts i (next_number (get_or row.line_counts i 0))) k 0) same
          ∙ get_or-set_same row.line_counts i (next_number (get_or row.line_counts i 0)) 0 (omega (arith, keeps.slots, keeps.few)) in
          let one : line_count offset (edges ++ edge ∷ []) ≡ line_count offset edges + 1 =
          count_more test edges edge true (eq-eqb (get_or row.lines.offsets i 0) offset (ap (λ k. get_or row.lines.offsets k 0) (sym same))) in
          let before : get_or row.line_counts i 0 ≡ line_count offset edges % 2 ^ 32 =
          keeps.line_counts i here ∙ ap (λ k. line_count (get_or row.lines.offsets k 0) edges % 2 ^ 32) (sym same) in
          slot ∙ ap next_number before ∙ mod-add-mod (line_count offset edges) (2 ^ 32) 1 ∙ ap (λ n. n % 2 ^ 32) (sym one))
      | inr other ↦
          (let slot : get_or (set row.line_counts i (next_number (get_or row.line_counts i 0))) j 0 ≡ get_or row.line_counts j 0 =
          get_or-set_other row.line_counts i j (next_number (get_or row.line_counts i 0)) 0 other in
          let none : line_count offset (edges ++ edge ∷ []) ≡ line_count offset edges + 0 =
          count_more test edges edge false (ne_eqb (get_or row.lines.offsets i 0) offset (λ e. other (sym (different i j here there e)))) in
          let as_before : line_count offset edges + 0 ≡ line_count offset edges = omega arith in
          slot ∙ keeps.line_counts j there ∙ ap (λ n. n % 2 ^ 32) (sym (none ∙ as_before)))
    ]

pub edge_kept : (row : RequestRow) (edges : List Edge) (next i : ℕ) (rising : Bool) (timestamp : ℕ) → KeepsEdges row edges next → HasDifferentLines row.lines
    → i < row.lines.count
    → KeepsEdges (with_event i rising timestamp row) (edges ++ edge_of i rising timestamp row ∷ []) (max next (length edges + 1 - row.ring.capacity))
edge_kept row edges next i rising timestamp keeps different below =
    let edge : Edge = edge_of i rising timestamp row in
    let event : Event = event_behind edges edge in
    let capacity : ℕ = row.ring.capacity in
    let past : Past Event = record { all = events_of edges; next = next } in
    let long : length (events_of edges) ≡ length edges = length-events_behind [] edges in
    let is_event : numbered i rising timestamp row ≡ event = edge_numbered row edges next i rising timestamp keeps below in
    let next_after : max next (length (events_of edges) + 1 - capacity) ≡ max next (length edges + 1 - capacity) = ap (λ n. max next (n + 1 - capacity)) long in
    record {
      count = ap next_number keeps.count ∙ mod-add-mod (length edges) (2 ^ 32) 1 ∙ ap (λ n. n % 2 ^ 32) (sym (length_push edges edge));
      slots = length-set row.line_counts i (next_number (get_or row.line_counts i 0)) ∙ keeps.slots;
      few = keeps.few;
      line_counts = λ j there. lines_kept row edges next i j rising timestamp keeps different below there;
      other_counts = λ j past. get_or-set_other row.line_counts i j (next_number (get_or row.line_counts i 0)) 0 (λ e. omega (arith, e, past, below)) ∙ keeps.other_counts j past;
      ring =
          ap (λ (e : Event). pushed e row.ring) is_event ∙ ap (pushed event) keeps.ring
          ∙ pushed-waiting capacity event past (omega (arith, keeps.within, long))
          ∙ ap (λ (n : ℕ). buffer (drop n (events_of edges ++ event ∷ [])) capacity) next_after
          ∙ ap (λ (events : List Event). buffer (drop (max next (length edges + 1 - capacity)) events) capacity) (sym (events_of-more edges edge));
      within = omega (arith, keeps.within, length_push edges edge);
    }

pub read_kept : (row : RequestRow) (edges : List Edge) (next max : ℕ) → KeepsEdges row edges next → KeepsEdges (read_from max row) edges (next + min max (length edges - next))
read_kept row edges next max keeps =
    let past : Past Event = record { all = events_of edges; next = next } in
    let left_over : length (waiting past) ≡ length edges - next = length-drop next (events_of edges) ∙ ap (λ n. n - next) (length-events_behind [] edges) in
    record {
      count = keeps.count;
      slots = keeps.slots;
      few = keeps.few;
      line_counts = keeps.line_counts;
      other_counts = keeps.other_counts;
      ring =
          ap (left max) keeps.ring ∙ left-waiting row.ring.capacity max past
          ∙ ap (λ (n : ℕ). buffer (drop (next + min max n) (events_of edges)) row.ring.capacity) left_over;
      within = omega (arith, keeps.within);
    }
