-- One item of a read.
use Rattle.std.proofs.Common.{◌≡◌, ◌<◌, ◌+◌, ◌-◌, ◌*◌, ℕ, suc, List, ◌++◌, append_assoc, sym, ◌∙◌, ap, arith}
use Rattle.gl_uapi.specs.Fields.{stretch, zeros}
use Rattle.gl_uapi.specs.InfoChanged.{changed_in}
use Rattle.gl_uapi.specs.LineEvent.{event_in}
use Rattle.gl_v1.specs.Back.{events_back}
use Rattle.gl_talk.specs.Old.{old_edge_line, old_edge_lines}
use Rattle.gl_talk.specs.Replies.{edge_line, edge_lines, info_line, info_lines}

edge_step : (bytes : List ℕ) (i n m : ℕ) → n ≡ suc m → edge_lines bytes i n ≡ edge_line (event_in (stretch (48 * i) 48 bytes)) ++ edge_lines bytes (i + 1) m
edge_step bytes i n m e = ap (edge_lines bytes i) e

next_edge : (bytes : List ℕ) (i n : ℕ) → i < n → edge_lines bytes i (n - i) ≡ edge_line (event_in (stretch (48 * i) 48 bytes)) ++ edge_lines bytes (i + 1) (n - (i + 1))
next_edge bytes i n h = edge_step bytes i (n - i) (n - (i + 1)) (omega arith)

info_step : (bytes : List ℕ) (i n m : ℕ) → n ≡ suc m → info_lines bytes i n ≡ info_line (changed_in (stretch (288 * i) 288 bytes)) ++ info_lines bytes (i + 1) m
info_step bytes i n m e = ap (info_lines bytes i) e

next_info : (bytes : List ℕ) (i n : ℕ) → i < n → info_lines bytes i (n - i) ≡ info_line (changed_in (stretch (288 * i) 288 bytes)) ++ info_lines bytes (i + 1) (n - (i + 1))
next_info bytes i n h = info_step bytes i (n - i) (n - (i + 1)) (omega arith)

-- the text after one item more, and what is left
pub edge_put : (bytes old text start : List ℕ) (i n : ℕ) → i < n → text ≡ old ++ edge_line (event_in (stretch (48 * i) 48 bytes)) → old ++ edge_lines bytes i (n - i) ≡ start
    → text ++ edge_lines bytes (i + 1) (n - (i + 1)) ≡ start
edge_put bytes old text start i n h put so_far =
    ap (λ (t : List ℕ). t ++ edge_lines bytes (i + 1) (n - (i + 1))) put
    ∙ append_assoc old (edge_line (event_in (stretch (48 * i) 48 bytes))) (edge_lines bytes (i + 1) (n - (i + 1)))
    ∙ ap (λ (t : List ℕ). old ++ t) (sym (next_edge bytes i n h)) ∙ so_far

pub info_put : (bytes old text start : List ℕ) (i n : ℕ) → i < n → text ≡ old ++ info_line (changed_in (stretch (288 * i) 288 bytes)) → old ++ info_lines bytes i (n - i) ≡ start
    → text ++ info_lines bytes (i + 1) (n - (i + 1)) ≡ start
info_put bytes old text start i n h put so_far =
    ap (λ (t : List ℕ). t ++ info_lines bytes (i + 1) (n - (i + 1))) put
    ∙ append_assoc old (info_line (changed_in (stretch (288 * i) 288 bytes))) (info_lines bytes (i + 1) (n - (i + 1)))
    ∙ ap (λ (t : List ℕ). old ++ t) (sym (next_info bytes i n h)) ∙ so_far

-- an edge as it goes back
abbrev old_edge : List ℕ → ℕ → List ℕ
old_edge bytes i = old_edge_line (events_back (stretch (48 * i) 48 bytes) (zeros 16))

old_edge_step : (bytes : List ℕ) (i n m : ℕ) → n ≡ suc m → old_edge_lines bytes i n ≡ old_edge bytes i ++ old_edge_lines bytes (i + 1) m
old_edge_step bytes i n m e = ap (old_edge_lines bytes i) e

pub old_edge_put : (bytes old text start : List ℕ) (i n : ℕ) → i < n → text ≡ old ++ old_edge_line (events_back (stretch (48 * i) 48 bytes) (zeros 16))
    → old ++ old_edge_lines bytes i (n - i) ≡ start → text ++ old_edge_lines bytes (i + 1) (n - (i + 1)) ≡ start
old_edge_put bytes old text start i n h put so_far =
    ap (λ (t : List ℕ). t ++ old_edge_lines bytes (i + 1) (n - (i + 1))) put
    ∙ append_assoc old (old_edge bytes i) (old_edge_lines bytes (i + 1) (n - (i + 1)))
    ∙ ap (λ (t : List ℕ). old ++ t) (sym (old_edge_step bytes i (n - i) (n - (i + 1)) (omega arith))) ∙ so_far
