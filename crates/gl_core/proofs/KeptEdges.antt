-- What is kept of a request keeps its edges.
use Rattle.std.proofs.Common.{◌≡◌, ◌%◌, ◌^◌, ◌+◌, ◌<◌, ◌≤◌, ℕ, zero, suc, length, refl, ap, ◌∙◌, true, false, cond, inl, inr, arith}
use Rattle.std.specs.Prelude.{nat_lt, slice_index}
use Rattle.std.proofs.lemmas.Bool.{cases_lt}
use Rattle.std.proofs.lemmas.Bool.Decides.{nat_tests}
use Rattle.std.proofs.lemmas.List.{get_or_past}
use Rattle.gl_base.specs.Positions.{table_from}
use Rattle.gl_ring.specs.Edges.{line_count}
use Rattle.gl_model.specs.World.{Request}
use Rattle.gl_model.proofs.SoundRequests.{length-table_from}
use Rattle.gl_core.specs.Kept.{kept_count}
use Rattle.gl_core.specs.KeptEdges.{KeptRequestsKeepEdges}

read_table : (f : ℕ → ℕ) (i n k : ℕ) → k < n → slice_index (table_from f i n) k ≡ f (i + k)
unfolding table_from
read_table f i zero k lt = absurd (omega arith)
read_table f i (suc n) zero lt = let z : i ≡ i + 0 = omega arith in ap f z
read_table f i (suc n) (suc k) lt = let z : suc i + k ≡ i + suc k = omega arith in read_table f (suc i) n k (omega arith) ∙ ap f z

kept_is : (request : Request) (i : ℕ) → i < request.lines.count → kept_count request i ≡ line_count (slice_index request.lines.offsets i) request.past.all % 2 ^ 32
kept_is request i lt =
    let within : nat_lt i request.lines.count ≡ true = grind (arith, nat_tests) in
    ap (λ b. cond b (line_count (slice_index request.lines.offsets i) request.past.all % 2 ^ 32) 0) within

past_is : (request : Request) (i : ℕ) → request.lines.count ≤ i → kept_count request i ≡ 0
past_is request i past =
    let without : nat_lt i request.lines.count ≡ false = grind (arith, nat_tests) in
    ap (λ b. cond b (line_count (slice_index request.lines.offsets i) request.past.all % 2 ^ 32) 0) without

rest_is : (request : Request) (i : ℕ) → request.lines.count ≤ i → slice_index (table_from (kept_count request) 0 64) i ≡ 0
rest_is request i past =
    elim (cases_lt i 64) [
      | inl below ↦ (let z : 0 + i ≡ i = omega arith in read_table (kept_count request) 0 64 i below ∙ ap (kept_count request) z ∙ past_is request i past)
      | inr behind ↦ get_or_past (table_from (kept_count request) 0 64) i 0 (omega (arith, length-table_from (kept_count request) 0 64))
    ]

pub kept_requests_keep_edges : KeptRequestsKeepEdges
kept_requests_keep_edges request s =
    let few : request.lines.count ≤ 64 = s.at_most in
    let size : length (table_from (kept_count request) 0 64) ≡ 64 = length-table_from (kept_count request) 0 64 in
    record {
      count = refl;
      slots = size;
      few = few;
      line_counts = λ i lt. let z : 0 + i ≡ i = omega arith in read_table (kept_count request) 0 64 i (omega arith) ∙ ap (kept_count request) z ∙ kept_is request i lt;
      other_counts = λ i past. rest_is request i past;
      ring = refl;
      within = s.in_order;
    }
