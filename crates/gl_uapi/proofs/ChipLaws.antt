-- The bytes of a chip's information spell it.
use Rattle.std.proofs.Common.{ℕ, ◌≡◌, ◌^◌, ◌<◌, List, ◌++◌, [], length, sym, ap, ◌∙◌, arith, append_assoc, append-nil, length-append}
use Rattle.gl_base.specs.Name.{field_of}
use Rattle.gl_uapi.specs.Fields.{number_at, number_bytes, stretch}
use Rattle.gl_uapi.specs.ChipInfo.{SpellsChip, chip_bytes}
use Rattle.gl_uapi.proofs.Reading.{length-number_bytes, number_at-behind, number_at-here, stretch-behind, stretch-here}

pub length-chip_bytes : (name label : List ℕ) (lines : ℕ) → length (field_of name) ≡ 32 → length (field_of label) ≡ 32 → length (chip_bytes name label lines) ≡ 68
length-chip_bytes name label lines n l =
    let named = simp length-append at n in
    let labelled = simp length-append at l in
    simp (length-append, length-number_bytes) (omega (arith, named, labelled))

-- the fields, from the front
fields : (name label : List ℕ) (lines : ℕ) → chip_bytes name label lines ≡ field_of name ++ (field_of label ++ number_bytes 4 lines)
fields name label lines = simp append_assoc

pub chip_spelled : (name label : List ℕ) (lines : ℕ) → length (field_of name) ≡ 32 → length (field_of label) ≡ 32 → lines < 2 ^ 32
    → SpellsChip (chip_bytes name label lines) name label lines
chip_spelled name label lines n l fits =
    record {
      size = length-chip_bytes name label lines n l;
      name_stands =
          ap (stretch 0 32) (fields name label lines)
          ∙ stretch-here _ _ 32 n;
      label_stands =
          ap (stretch 32 32) (fields name label lines)
          ∙ stretch-behind 32 32 32 _ _ n (omega arith)
          ∙ stretch-here _ _ 32 l;
      lines_stand =
          ap (number_at 4 64) (fields name label lines)
          ∙ number_at-behind 4 64 32 _ _ n (omega arith)
          ∙ number_at-behind 4 32 32 _ _ l (omega arith)
          ∙ ap (number_at 4 0) (sym (append-nil (number_bytes 4 lines)))
          ∙ number_at-here 4 _ [] fits;
    }
