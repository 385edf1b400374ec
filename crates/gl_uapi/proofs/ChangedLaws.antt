-- The bytes of a change spell it.
use Rattle.std.proofs.Common.{ℕ, ◌≡◌, ◌^◌, ◌<◌, List, ◌++◌, length, sym, ap, subst, ◌∙◌, arith, append_assoc, length-append}
use Rattle.gl_uapi.specs.declared.info_changes.Changed.{Changed}
use Rattle.gl_uapi.specs.Fields.{is_zero_at, number_at, number_bytes, stretch, zeros}
use Rattle.gl_uapi.specs.InfoChanged.{ChangedFits, SpellsChanged, changed_bytes, changed_in}
use Rattle.gl_uapi.specs.LineInfo.{SpellsInfo, info_bytes}
use Rattle.gl_uapi.proofs.InfoLaws.{info_read, info_written}
use Rattle.gl_uapi.proofs.Reading.{is_zero_at-behind, is_zero_at-last, length-number_bytes, length-zeros, number_at-behind, number_at-here, stretch-here}

pub length-changed_bytes : (changed : Changed) → length (info_bytes changed.info) ≡ 256 → length (changed_bytes changed) ≡ 288
length-changed_bytes changed i =
    omega (
      arith,
      length-append (info_bytes changed.info ++ number_bytes 8 changed.timestamp ++ number_bytes 4 changed.kind) (zeros 20),
      length-append (info_bytes changed.info ++ number_bytes 8 changed.timestamp) (number_bytes 4 changed.kind),
      length-append (info_bytes changed.info) (number_bytes 8 changed.timestamp),
      i,
      length-number_bytes 8 changed.timestamp,
      length-number_bytes 4 changed.kind,
      length-zeros 20,
    )

-- the fields, from the front
fields : (changed : Changed) → changed_bytes changed ≡ info_bytes changed.info ++ (number_bytes 8 changed.timestamp ++ (number_bytes 4 changed.kind ++ zeros 20))
fields changed =
    append_assoc (info_bytes changed.info ++ number_bytes 8 changed.timestamp) (number_bytes 4 changed.kind) (zeros 20)
    ∙ append_assoc (info_bytes changed.info) (number_bytes 8 changed.timestamp) (number_bytes 4 changed.kind ++ zeros 20)

pub changed_spelled : (changed : Changed) → length (info_bytes changed.info) ≡ 256
    → SpellsInfo (info_bytes changed.info) changed.info → changed.timestamp < 2 ^ 64 → changed.kind < 2 ^ 32 → SpellsChanged (changed_bytes changed) changed
changed_spelled changed i info timestamp kind =
    let t = length-number_bytes 8 changed.timestamp in
    let k = length-number_bytes 4 changed.kind in
    let Spelled : List ℕ → Type 0 = λ bytes. SpellsInfo bytes changed.info in
    record {
      size = length-changed_bytes changed i;
      info = subst Spelled (sym (ap (stretch 0 256) (fields changed) ∙ stretch-here _ _ 256 i)) info;
      timestamp =
          ap (number_at 8 256) (fields changed)
          ∙ number_at-behind 8 256 256 _ _ i (omega arith)
          ∙ number_at-here 8 _ _ timestamp;
      kind =
          ap (number_at 4 264) (fields changed)
          ∙ number_at-behind 4 264 256 _ _ i (omega arith)
          ∙ number_at-behind 4 8 8 _ _ t (omega arith)
          ∙ number_at-here 4 _ _ kind;
      padding =
          ap (is_zero_at 268 20) (fields changed)
          ∙ is_zero_at-behind 268 256 20 _ _ i (omega arith)
          ∙ is_zero_at-behind 12 8 20 _ _ t (omega arith)
          ∙ is_zero_at-behind 4 4 20 _ _ k (omega arith)
          ∙ is_zero_at-last 20;
    }

pub changed_written : (changed : Changed) → ChangedFits changed → SpellsChanged (changed_bytes changed) changed
changed_written changed fits =
    let info = info_written changed.info fits.info in
    changed_spelled changed info.size info fits.timestamp fits.kind

pub changed_read : (bytes : List ℕ) (changed : Changed) → ChangedFits changed → SpellsChanged bytes changed → changed_in bytes ≡ changed
changed_read bytes changed fits spelled =
    let info = info_read (stretch 0 256 bytes) changed.info fits.info spelled.info in
    simp (info, spelled.timestamp, spelled.kind)
