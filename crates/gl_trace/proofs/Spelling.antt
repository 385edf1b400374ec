-- A run of zeros at the front of bytes, passed over in their text.
use Rattle.std.proofs.Common.{◌≡◌, ◌≤◌, ℕ, false, List, ◌++◌, drop, Some, None, sym, ◌∙◌, ap, append_assoc, arith}
use Rattle.gl_base.specs.BytesText.{zero_run, run_word, blank_before, byte_words}
use Rattle.gl_base.proofs.Runs.{run_front}
use Rattle.gl_trace.specs.WordRead.{stripped}
use Rattle.gl_trace.proofs.Stripping.{strip_more, strip_none}

run_words : (bytes rest : List ℕ) (count : ℕ) → count ≡ zero_run bytes → rest ≡ drop count bytes → 8 ≤ count → byte_words false bytes ≡ (run_word count ++ blank_before rest) ++ byte_words false rest
run_words bytes rest count k r h =
    let long : 8 ≤ zero_run bytes = omega (arith, k, h) in
    let same : run_word count ++ (blank_before rest ++ byte_words false rest) ≡ byte_words false bytes = rw (r, k) (sym (run_front bytes long)) in
    sym (append_assoc (run_word count) (blank_before rest) (byte_words false rest) ∙ same)

pub run_left : (bytes rest text left : List ℕ) (count : ℕ) → count ≡ zero_run bytes → rest ≡ drop count bytes → 8 ≤ count → stripped (run_word count ++ blank_before rest) text ≡ Some left
    → stripped (byte_words false bytes) text ≡ stripped (byte_words false rest) left
run_left bytes rest text left count k r h e =
    ap (λ w. stripped w text) (run_words bytes rest count k r h) ∙ strip_more (run_word count ++ blank_before rest) (byte_words false rest) text left e

pub run_none : (bytes rest text : List ℕ) (count : ℕ) → count ≡ zero_run bytes → rest ≡ drop count bytes → 8 ≤ count → stripped (run_word count ++ blank_before rest) text ≡ None
    → stripped (byte_words false bytes) text ≡ None
run_none bytes rest text count k r h e =
    ap (λ w. stripped w text) (run_words bytes rest count k r h) ∙ strip_none (run_word count ++ blank_before rest) (byte_words false rest) text e
