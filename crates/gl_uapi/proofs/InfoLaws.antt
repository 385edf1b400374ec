-- The bytes of an information spell it.
use Rattle.std.proofs.Common.{ℕ, Bool, true, false, cond, eqb, min, ◌≡◌, ◌^◌, ◌<◌, List, ◌++◌, length, refl, sym, ap, ◌∙◌, arith, append_assoc, length-append}
use Rattle.gl_base.specs.Name.{field_of, name_in}
use Rattle.gl_uapi.specs.declared.line_infos.Info.{Info}
use Rattle.gl_uapi.specs.Fields.{is_zero_at, number_at, number_bytes, stretch, zeros}
use Rattle.gl_uapi.specs.LineInfo.{InfoFits, SpellsInfo, attribute_count, attribute_id, first_period, info_bytes, info_in, info_period}
use Rattle.std.proofs.lemmas.Bool.{eqb-true}
use Rattle.gl_uapi.proofs.NameFields.{length-field_of, name_in-field_of}
use Rattle.gl_uapi.proofs.Reading.{is_zero_at-behind, is_zero_at-here, is_zero_at-last, length-number_bytes, length-zeros, number_at-behind, number_at-here, stretch-behind, stretch-here}

pub length-info_bytes : (info : Info) → length (field_of info.name) ≡ 32 → length (field_of info.consumer) ≡ 32 → length (info_bytes info) ≡ 256
length-info_bytes info n c =
    let named = simp length-append at n in
    let held = simp length-append at c in
    simp (length-append, length-number_bytes, length-zeros) (omega (arith, named, held))

-- the fields, from the front
fields : (info : Info) → info_bytes info
    ≡ field_of info.name ++ (field_of info.consumer ++ (number_bytes 4 info.offset ++ (number_bytes 4 (attribute_count info.period)
    ++ (number_bytes 8 info.flags ++ (number_bytes 4 (attribute_id info.period) ++ (zeros 4 ++ (number_bytes 4 info.period ++ zeros 164)))))))
fields info = simp append_assoc

count_fits : (period : ℕ) → attribute_count period < 2 ^ 32
count_fits period = elim (eqb period 0) as (λ b. cond b 0 1 < 2 ^ 32) [ true ↦ omega arith | false ↦ omega arith ]

id_fits : (period : ℕ) → attribute_id period < 2 ^ 32
id_fits period = elim (eqb period 0) as (λ b. cond b 0 3 < 2 ^ 32) [ true ↦ omega arith | false ↦ omega arith ]

pub info_spelled : (info : Info) → length (field_of info.name) ≡ 32 → length (field_of info.consumer) ≡ 32
    → info.offset < 2 ^ 32 → info.flags < 2 ^ 64 → info.period < 2 ^ 32 → SpellsInfo (info_bytes info) info
info_spelled info n c offset flags period =
    let o = length-number_bytes 4 info.offset in
    let k = length-number_bytes 4 (attribute_count info.period) in
    let f = length-number_bytes 8 info.flags in
    let i = length-number_bytes 4 (attribute_id info.period) in
    let z = length-zeros 4 in
    let p = length-number_bytes 4 info.period in
    record {
      size = length-info_bytes info n c;
      name =
          ap (stretch 0 32) (fields info)
          ∙ stretch-here _ _ 32 n;
      consumer =
          ap (stretch 32 32) (fields info)
          ∙ stretch-behind 32 32 32 _ _ n (omega arith)
          ∙ stretch-here _ _ 32 c;
      offset =
          ap (number_at 4 64) (fields info)
          ∙ number_at-behind 4 64 32 _ _ n (omega arith)
          ∙ number_at-behind 4 32 32 _ _ c (omega arith)
          ∙ number_at-here 4 _ _ offset;
      num_attrs =
          ap (number_at 4 68) (fields info)
          ∙ number_at-behind 4 68 32 _ _ n (omega arith)
          ∙ number_at-behind 4 36 32 _ _ c (omega arith)
          ∙ number_at-behind 4 4 4 _ _ o (omega arith)
          ∙ number_at-here 4 _ _ (count_fits info.period);
      flags =
          ap (number_at 8 72) (fields info)
          ∙ number_at-behind 8 72 32 _ _ n (omega arith)
          ∙ number_at-behind 8 40 32 _ _ c (omega arith)
          ∙ number_at-behind 8 8 4 _ _ o (omega arith)
          ∙ number_at-behind 8 4 4 _ _ k (omega arith)
          ∙ number_at-here 8 _ _ flags;
      id =
          ap (number_at 4 80) (fields info)
          ∙ number_at-behind 4 80 32 _ _ n (omega arith)
          ∙ number_at-behind 4 48 32 _ _ c (omega arith)
          ∙ number_at-behind 4 16 4 _ _ o (omega arith)
          ∙ number_at-behind 4 12 4 _ _ k (omega arith)
          ∙ number_at-behind 4 8 8 _ _ f (omega arith)
          ∙ number_at-here 4 _ _ (id_fits info.period);
      attribute_padding =
          ap (is_zero_at 84 4) (fields info)
          ∙ is_zero_at-behind 84 32 4 _ _ n (omega arith)
          ∙ is_zero_at-behind 52 32 4 _ _ c (omega arith)
          ∙ is_zero_at-behind 20 4 4 _ _ o (omega arith)
          ∙ is_zero_at-behind 16 4 4 _ _ k (omega arith)
          ∙ is_zero_at-behind 12 8 4 _ _ f (omega arith)
          ∙ is_zero_at-behind 4 4 4 _ _ i (omega arith)
          ∙ is_zero_at-here 4 _;
      period =
          ap (number_at 4 88) (fields info)
          ∙ number_at-behind 4 88 32 _ _ n (omega arith)
          ∙ number_at-behind 4 56 32 _ _ c (omega arith)
          ∙ number_at-behind 4 24 4 _ _ o (omega arith)
          ∙ number_at-behind 4 20 4 _ _ k (omega arith)
          ∙ number_at-behind 4 16 8 _ _ f (omega arith)
          ∙ number_at-behind 4 8 4 _ _ i (omega arith)
          ∙ number_at-behind 4 4 4 _ _ z (omega arith)
          ∙ number_at-here 4 _ _ period;
      rest =
          ap (is_zero_at 92 164) (fields info)
          ∙ is_zero_at-behind 92 32 164 _ _ n (omega arith)
          ∙ is_zero_at-behind 60 32 164 _ _ c (omega arith)
          ∙ is_zero_at-behind 28 4 164 _ _ o (omega arith)
          ∙ is_zero_at-behind 24 4 164 _ _ k (omega arith)
          ∙ is_zero_at-behind 20 8 164 _ _ f (omega arith)
          ∙ is_zero_at-behind 12 4 164 _ _ i (omega arith)
          ∙ is_zero_at-behind 8 4 164 _ _ z (omega arith)
          ∙ is_zero_at-behind 4 4 164 _ _ p (omega arith)
          ∙ is_zero_at-last 164;
    }

pub info_written : (info : Info) → InfoFits info → SpellsInfo (info_bytes info) info
info_written info fits =
    info_spelled info (length-field_of info.name fits.name) (length-field_of info.consumer fits.consumer) fits.offset fits.flags fits.period

-- the period that is found among the attributes which a period asks for
period_found : (bytes : List ℕ) (period : ℕ) (b : Bool) → eqb period 0 ≡ b → number_at 4 68 bytes ≡ cond b 0 1
    → number_at 4 80 bytes ≡ cond b 0 3 → number_at 4 88 bytes ≡ period → info_period bytes ≡ period
period_found bytes period true none count id value =
    ap (λ n. first_period bytes 0 (min n 10)) count ∙ sym (eqb-true period 0 none)
period_found bytes period false some count id value =
    ap (λ n. first_period bytes 0 (min n 10)) count ∙ ap (λ n. cond (eqb n 3) (number_at 4 88 bytes) 0) id ∙ value

pub info_read : (bytes : List ℕ) (info : Info) → InfoFits info → SpellsInfo bytes info → info_in bytes ≡ info
info_read bytes info fits spelled =
    let name : name_in (stretch 0 32 bytes) ≡ info.name = ap name_in spelled.name ∙ name_in-field_of info.name fits.name in
    let consumer : name_in (stretch 32 32 bytes) ≡ info.consumer = ap name_in spelled.consumer ∙ name_in-field_of info.consumer fits.consumer in
    let period : info_period bytes ≡ info.period =
    period_found bytes info.period (eqb info.period 0) refl spelled.num_attrs spelled.id spelled.period in
    simp (name, consumer, spelled.offset, spelled.flags, period)
