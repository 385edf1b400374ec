-- No byte of a label is 0.
use Rattle.std.proofs.Common.{◌≡◌, ℕ, zero, suc, true, List, [], ◌∷◌, lt-ltb, refl, arith}
use Rattle.std.specs.List.{list_all}
use Rattle.std.proofs.lemmas.Bool.{false≢true, and_parts, and_from}
use Rattle.gl_base.specs.Name.{is_nonzero}
use Rattle.gl_base.specs.Label.{is_label_byte}

label_byte_is_nonzero : (byte : ℕ) → is_label_byte byte ≡ true → is_nonzero byte ≡ true
label_byte_is_nonzero zero h = absurd (false≢true h)
label_byte_is_nonzero (suc byte) h = lt-ltb 0 (suc byte) (omega arith)

pub label_bytes_are_nonzero : (bytes : List ℕ) → list_all is_label_byte bytes ≡ true → list_all is_nonzero bytes ≡ true
label_bytes_are_nonzero [] h = refl
label_bytes_are_nonzero (byte ∷ bytes) h =
    let parts = and_parts (is_label_byte byte) (list_all is_label_byte bytes) h in
    and_from (is_nonzero byte) (list_all is_nonzero bytes) (label_byte_is_nonzero byte parts.0) (label_bytes_are_nonzero bytes parts.1)
