-- The bytes of a request that a client hands in, and what they spell.
use Rattle.std.proofs.Common.{ℕ, zero, suc, ◌≡◌, ◌+◌, ◌-◌, ◌*◌, ◌^◌, ◌/◌, ◌%◌, ◌<◌, ◌≤◌, List, [], ◌∷◌, ◌++◌, length, take, map, replicate, get_or, refl, sym, ap, ◌∙◌, subst, arith, append_assoc, append-nil, length-append}
use Rattle.std.specs.Int.{cast_signed, w32, bytes_low_first}
use Rattle.byteorder.specs.Numbers.{little_from-bytes}
use Rattle.std.proofs.lemmas.List.{take_more, length-map, length-replicate, replicate-append-replicate, get_or-replicate}
use Rattle.gl_base.specs.Name.{field_of}
use Rattle.gl_base.specs.Rows.{Each}
use Rattle.gl_uapi.specs.declared.new_requests.AttributeValue.{AttributeValue}
use Rattle.gl_uapi.specs.declared.new_requests.AttributeValue.TheVariants.{Flags, OutputValues, Debounce}
use Rattle.gl_uapi.specs.declared.new_requests.NewAttribute.{NewAttribute}
use Rattle.gl_uapi.specs.Fields.{number_at, number_bytes, stretch, zeros}
use Rattle.gl_uapi.specs.LineConfig.{Attribute, SpellsAttribute, SpellsConfig}
use Rattle.gl_uapi.specs.LineRequest.{SpellsRequest}
use Rattle.gl_uapi.specs.NewRequest.{value_id, value_number, new_attribute, new_attribute_bytes, attributes_bytes, unused_attribute, new_config, new_config_bytes, offsets_bytes, new_request, new_request_bytes, ValueFits, AttributeFits, ConfigFits, RequestFits}
use Rattle.gl_uapi.proofs.Reading.{length-number_bytes, length-zeros, number_at-here, number_at-behind, number_at-stretch, stretch-here, stretch-behind}

pub length-new_attribute_bytes : (a : NewAttribute) → length (new_attribute_bytes a) ≡ 24
length-new_attribute_bytes a = simp (length-append, length-number_bytes, length-zeros)

pub length-attributes_bytes : (attrs : List NewAttribute) → length (attributes_bytes attrs) ≡ 24 * length attrs
length-attributes_bytes [] = refl
length-attributes_bytes (a ∷ attrs) =
    omega (arith, length-append (new_attribute_bytes a) (attributes_bytes attrs), length-new_attribute_bytes a, length-attributes_bytes attrs)

pub length-offsets_bytes : (ns : List ℕ) → length (offsets_bytes ns) ≡ 4 * length ns
length-offsets_bytes [] = refl
length-offsets_bytes (n ∷ ns) = omega (arith, length-append (number_bytes 4 n) (offsets_bytes ns), length-number_bytes 4 n, length-offsets_bytes ns)

attributes-append : (xs ys : List NewAttribute) → attributes_bytes (xs ++ ys) ≡ attributes_bytes xs ++ attributes_bytes ys
attributes-append [] ys = refl
attributes-append (x ∷ xs) ys =
    ap (λ bs. new_attribute_bytes x ++ bs) (attributes-append xs ys) ∙ sym (append_assoc (new_attribute_bytes x) (attributes_bytes xs) (attributes_bytes ys))

offsets-append : (xs ys : List ℕ) → offsets_bytes (xs ++ ys) ≡ offsets_bytes xs ++ offsets_bytes ys
offsets-append [] ys = refl
offsets-append (x ∷ xs) ys =
    ap (λ bs. number_bytes 4 x ++ bs) (offsets-append xs ys) ∙ sym (append_assoc (number_bytes 4 x) (offsets_bytes xs) (offsets_bytes ys))

-- one more behind the first i
pub attributes_more : (attrs : List NewAttribute) (i : ℕ) (d : NewAttribute) → i < length attrs
    → attributes_bytes (take (i + 1) attrs) ≡ attributes_bytes (take i attrs) ++ new_attribute_bytes (get_or attrs i d)
attributes_more attrs i d lt =
    ap attributes_bytes (take_more attrs i d lt) ∙ attributes-append (take i attrs) (get_or attrs i d ∷ [])
    ∙ ap (λ bs. attributes_bytes (take i attrs) ++ bs) (append-nil (new_attribute_bytes (get_or attrs i d)))

pub offsets_more : (ns : List ℕ) (i : ℕ) → i < length ns → offsets_bytes (take (i + 1) ns) ≡ offsets_bytes (take i ns) ++ number_bytes 4 (get_or ns i 0)
offsets_more ns i lt =
    ap offsets_bytes (take_more ns i 0 lt) ∙ offsets-append (take i ns) (get_or ns i 0 ∷ [])
    ∙ ap (λ bs. offsets_bytes (take i ns) ++ bs) (append-nil (number_bytes 4 (get_or ns i 0)))

pub length-new_config_bytes : (flags : ℕ) (attrs : List NewAttribute) → length attrs ≤ 10 → length (new_config_bytes flags attrs) ≡ 272
length-new_config_bytes flags attrs few =
    simp (length-append, length-number_bytes, length-zeros) (omega (arith, length-attributes_bytes attrs))

pub length-new_request_bytes : (ns name : List ℕ) (flags : ℕ) (attrs : List NewAttribute) (events : ℕ) → length ns ≤ 64 → length attrs ≤ 10 → length (field_of name) ≡ 32
    → length (new_request_bytes ns name flags attrs events) ≡ 592
length-new_request_bytes ns name flags attrs events lines few long =
    omega (
      arith,
      lines,
      few,
      long,
      length-append (offsets_bytes ns ++ zeros (256 - 4 * length ns) ++ field_of name ++ new_config_bytes flags attrs ++ number_bytes 4 (length ns) ++ number_bytes 4 events) (zeros 24),
      length-append (offsets_bytes ns ++ zeros (256 - 4 * length ns) ++ field_of name ++ new_config_bytes flags attrs ++ number_bytes 4 (length ns)) (number_bytes 4 events),
      length-append (offsets_bytes ns ++ zeros (256 - 4 * length ns) ++ field_of name ++ new_config_bytes flags attrs) (number_bytes 4 (length ns)),
      length-append (offsets_bytes ns ++ zeros (256 - 4 * length ns) ++ field_of name) (new_config_bytes flags attrs),
      length-append (offsets_bytes ns ++ zeros (256 - 4 * length ns)) (field_of name),
      length-append (offsets_bytes ns) (zeros (256 - 4 * length ns)),
      length-offsets_bytes ns,
      length-zeros (256 - 4 * length ns),
      length-new_config_bytes flags attrs few,
      length-number_bytes 4 (length ns),
      length-number_bytes 4 events,
      length-zeros 24,
    )

-- a number of zeros is zero
zero_4 : number_at 4 0 (zeros 4) ≡ 0
unfolding number_at zeros
zero_4 = refl

zero_8 : number_at 8 0 (zeros 8) ≡ 0
unfolding number_at zeros
zero_8 = refl

zeros_split : (n m : ℕ) → zeros (n + m) ≡ zeros n ++ zeros m
unfolding zeros
zeros_split n m = sym (replicate-append-replicate n m 0)

-- zeros within zeros
stretch-zeros : (o count n : ℕ) (rest : List ℕ) → o + count ≤ n → stretch o count (zeros n ++ rest) ≡ zeros count
stretch-zeros o count n rest within =
    let split : zeros n ++ rest ≡ zeros o ++ (zeros count ++ (zeros (n - (o + count)) ++ rest)) =
    ap (λ k. zeros k ++ rest) (let e : n ≡ o + (count + (n - (o + count))) = omega arith in e)
    ∙ ap (λ bs. bs ++ rest) (zeros_split o (count + (n - (o + count))) ∙ ap (λ bs. zeros o ++ bs) (zeros_split count (n - (o + count))))
    ∙ append_assoc (zeros o) (zeros count ++ zeros (n - (o + count))) rest
    ∙ ap (λ bs. zeros o ++ bs) (append_assoc (zeros count) (zeros (n - (o + count))) rest) in
    ap (stretch o count) split
    ∙ stretch-behind o o count (zeros o) _ (length-zeros o) (omega arith)
    ∙ ap (λ k. stretch k count (zeros count ++ (zeros (n - (o + count)) ++ rest))) (let e : o - o ≡ 0 = omega arith in e)
    ∙ stretch-here (zeros count) _ count (length-zeros count)

number_at_zeros_4 : (o n : ℕ) (rest : List ℕ) → o + 4 ≤ n → number_at 4 o (zeros n ++ rest) ≡ 0
number_at_zeros_4 o n rest within =
    sym (number_at-stretch 4 o (zeros n ++ rest)) ∙ ap (number_at 4 0) (stretch-zeros o 4 n rest within) ∙ zero_4

number_at_zeros_8 : (o n : ℕ) (rest : List ℕ) → o + 8 ≤ n → number_at 8 o (zeros n ++ rest) ≡ 0
number_at_zeros_8 o n rest within =
    sym (number_at-stretch 8 o (zeros n ++ rest)) ∙ ap (number_at 8 0) (stretch-zeros o 8 n rest within) ∙ zero_8

unused_spelled : SpellsAttribute (zeros 24) unused_attribute
unused_spelled =
    let padded : zeros 24 ≡ zeros 24 ++ [] = sym (append-nil (zeros 24)) in
    record {
      size = length-zeros 24;
      id = ap (number_at 4 0) padded ∙ number_at_zeros_4 0 24 [] (omega arith);
      value = ap (number_at 8 8) padded ∙ number_at_zeros_8 8 24 [] (omega arith);
      period = ap (number_at 4 8) padded ∙ number_at_zeros_4 8 24 [] (omega arith);
      mask = ap (number_at 8 16) padded ∙ number_at_zeros_8 16 24 [] (omega arith);
    }

-- the lower four bytes of a number
low_half : (x : ℕ) (rest : List ℕ) → number_at 4 0 (number_bytes 8 x ++ rest) ≡ x % 2 ^ 32
unfolding number_at number_bytes
low_half x rest = little_from-bytes 4 0 x (bytes_low_first 4 4 x ++ rest) ∙ ap (λ n. n % 2 ^ 32) (let e : x / 1 ≡ x = omega arith in e)

value_fits : (value : AttributeValue) → ValueFits value → value_number value < 2 ^ 64
value_fits (Flags flags) fits = fits
value_fits (OutputValues values) fits = fits
value_fits (Debounce period) fits = omega (arith, fits)

id_fits : (value : AttributeValue) → value_id value < 2 ^ 32
id_fits (Flags flags) = omega arith
id_fits (OutputValues values) = omega arith
id_fits (Debounce period) = omega arith

pub attribute_spelled : (a : NewAttribute) → AttributeFits a → SpellsAttribute (new_attribute_bytes a) (new_attribute a)
attribute_spelled a fits =
    let i = length-number_bytes 4 (value_id a.value) in
    let z = length-zeros 4 in
    let n = length-number_bytes 8 (value_number a.value) in
    let fields : new_attribute_bytes a ≡ number_bytes 4 (value_id a.value) ++ (zeros 4 ++ (number_bytes 8 (value_number a.value) ++ number_bytes 8 a.mask)) =
    simp append_assoc in
    record {
      size = length-new_attribute_bytes a;
      id = ap (number_at 4 0) fields ∙ number_at-here 4 _ _ (id_fits a.value);
      value =
          ap (number_at 8 8) fields ∙ number_at-behind 8 8 4 _ _ i (omega arith) ∙ number_at-behind 8 4 4 _ _ z (omega arith)
          ∙ number_at-here 8 _ _ (value_fits a.value fits.value);
      period =
          ap (number_at 4 8) fields ∙ number_at-behind 4 8 4 _ _ i (omega arith) ∙ number_at-behind 4 4 4 _ _ z (omega arith)
          ∙ low_half (value_number a.value) (number_bytes 8 a.mask);
      mask =
          ap (number_at 8 16) fields ∙ number_at-behind 8 16 4 _ _ i (omega arith) ∙ number_at-behind 8 12 4 _ _ z (omega arith)
          ∙ number_at-behind 8 8 8 _ _ n (omega arith) ∙ ap (number_at 8 0) (sym (append-nil (number_bytes 8 a.mask))) ∙ number_at-here 8 a.mask [] fits.mask;
    }

-- each attribute, used or not
each_spelled : (attrs : List NewAttribute) (m i : ℕ) (d : Attribute) (rest : List ℕ) → Each AttributeFits attrs → i < length attrs + m
    → SpellsAttribute (stretch (24 * i) 24 (attributes_bytes attrs ++ (zeros (24 * m) ++ rest))) (get_or (map new_attribute attrs ++ replicate m unused_attribute) i d)
each_spelled [] m i d rest fits below =
    let zero_bytes : stretch (24 * i) 24 (zeros (24 * m) ++ rest) ≡ zeros 24 = stretch-zeros (24 * i) 24 (24 * m) rest (omega arith) in
    let unused : get_or (replicate m unused_attribute) i d ≡ unused_attribute = get_or-replicate m i unused_attribute d (omega arith) in
    let S : List ℕ → Type 0 = λ bytes. SpellsAttribute bytes (get_or (replicate m unused_attribute) i d) in
    let T : Attribute → Type 0 = λ a. SpellsAttribute (zeros 24) a in
    subst S (sym zero_bytes) (subst T (sym unused) unused_spelled)
each_spelled (a ∷ attrs) m zero d rest fits below =
    let front : stretch 0 24 (attributes_bytes (a ∷ attrs) ++ (zeros (24 * m) ++ rest)) ≡ new_attribute_bytes a =
    ap (stretch 0 24) (append_assoc (new_attribute_bytes a) (attributes_bytes attrs) (zeros (24 * m) ++ rest))
    ∙ stretch-here (new_attribute_bytes a) _ 24 (length-new_attribute_bytes a) in
    let S : List ℕ → Type 0 = λ bytes. SpellsAttribute bytes (new_attribute a) in
    subst S (sym front) (attribute_spelled a fits.0)
each_spelled (a ∷ attrs) m (suc i) d rest fits below =
    let behind : stretch (24 * suc i) 24 (attributes_bytes (a ∷ attrs) ++ (zeros (24 * m) ++ rest)) ≡ stretch (24 * i) 24 (attributes_bytes attrs ++ (zeros (24 * m) ++ rest)) =
    ap (stretch (24 * suc i) 24) (append_assoc (new_attribute_bytes a) (attributes_bytes attrs) (zeros (24 * m) ++ rest))
    ∙ stretch-behind (24 * suc i) 24 24 (new_attribute_bytes a) _ (length-new_attribute_bytes a) (omega arith)
    ∙ ap (λ k. stretch k 24 (attributes_bytes attrs ++ (zeros (24 * m) ++ rest))) (let e : 24 * suc i - 24 ≡ 24 * i = omega arith in e) in
    let S : List ℕ → Type 0 = λ bytes. SpellsAttribute bytes (get_or (map new_attribute attrs ++ replicate m unused_attribute) i d) in
    subst S (sym behind) (each_spelled attrs m i d rest fits.1 (omega arith))

pub config_spelled : (flags : ℕ) (attrs : List NewAttribute) → length attrs ≤ 10 → ConfigFits flags attrs → SpellsConfig (new_config_bytes flags attrs) (new_config flags attrs)
config_spelled flags attrs few fits =
    let n = length attrs in
    let f = length-number_bytes 8 flags in
    let k = length-number_bytes 4 n in
    let z = length-zeros 20 in
    let fields : new_config_bytes flags attrs ≡ number_bytes 8 flags ++ (number_bytes 4 n ++ (zeros 20 ++ (attributes_bytes attrs ++ zeros (240 - 24 * n)))) =
    simp append_assoc in
    let tail : attributes_bytes attrs ++ zeros (240 - 24 * n) ≡ attributes_bytes attrs ++ (zeros (24 * (10 - n)) ++ []) =
    ap (λ bs. attributes_bytes attrs ++ bs) (ap zeros (let e : 240 - 24 * n ≡ 24 * (10 - n) = omega arith in e) ∙ sym (append-nil (zeros (24 * (10 - n))))) in
    record {
      size = length-new_config_bytes flags attrs few;
      flags = ap (number_at 8 0) fields ∙ number_at-here 8 _ _ fits.flags_fit;
      num_attrs = ap (number_at 4 8) fields ∙ number_at-behind 4 8 8 _ _ f (omega arith) ∙ number_at-here 4 _ _ (omega arith);
      padding =
          ap (stretch 12 20) fields ∙ stretch-behind 12 8 20 _ _ f (omega arith) ∙ stretch-behind 4 4 20 _ _ k (omega arith)
          ∙ stretch-here (zeros 20) _ 20 z;
      ten = length-append (map new_attribute attrs) (replicate (10 - n) unused_attribute) ∙ ten_of;
      attributes =
          λ i d below.
          let at : stretch (32 + 24 * i) 24 (new_config_bytes flags attrs) ≡ stretch (24 * i) 24 (attributes_bytes attrs ++ (zeros (24 * (10 - n)) ++ [])) =
          ap (stretch (32 + 24 * i) 24) fields
          ∙ stretch-behind (32 + 24 * i) 8 24 _ _ f (omega arith)
          ∙ stretch-behind (32 + 24 * i - 8) 4 24 _ _ k (omega arith)
          ∙ stretch-behind (32 + 24 * i - 8 - 4) 20 24 _ _ z (omega arith)
          ∙ ap (λ o. stretch o 24 (attributes_bytes attrs ++ zeros (240 - 24 * n))) (let e : 32 + 24 * i - 8 - 4 - 20 ≡ 24 * i = omega arith in e)
          ∙ ap (stretch (24 * i) 24) tail in
          let S : List ℕ → Type 0 = λ bytes. SpellsAttribute bytes (get_or (map new_attribute attrs ++ replicate (10 - n) unused_attribute) i d) in
          subst S (sym at) (each_spelled attrs (10 - n) i d [] fits.attributes_fit (omega arith));
    }
  where
    ten_of : length (map new_attribute attrs) + length (replicate (10 - length attrs) unused_attribute) ≡ 10
    ten_of = omega (arith, length-map attrs new_attribute, length-replicate (10 - length attrs) unused_attribute)

-- each offset, used or not
each_offset : (ns : List ℕ) (m i : ℕ) (rest : List ℕ) → Each (λ n. n < 2 ^ 32) ns → i < length ns + m
    → number_at 4 (4 * i) (offsets_bytes ns ++ (zeros (4 * m) ++ rest)) ≡ get_or (ns ++ replicate m 0) i 0
each_offset [] m i rest fits below =
    number_at_zeros_4 (4 * i) (4 * m) rest (omega arith) ∙ sym (get_or-replicate m i 0 0 (omega arith))
each_offset (n ∷ ns) m zero rest fits below =
    ap (number_at 4 0) (append_assoc (number_bytes 4 n) (offsets_bytes ns) (zeros (4 * m) ++ rest)) ∙ number_at-here 4 n _ fits.0
each_offset (n ∷ ns) m (suc i) rest fits below =
    ap (number_at 4 (4 * suc i)) (append_assoc (number_bytes 4 n) (offsets_bytes ns) (zeros (4 * m) ++ rest))
    ∙ number_at-behind 4 (4 * suc i) 4 (number_bytes 4 n) _ (length-number_bytes 4 n) (omega arith)
    ∙ ap (λ k. number_at 4 k (offsets_bytes ns ++ (zeros (4 * m) ++ rest))) (let e : 4 * suc i - 4 ≡ 4 * i = omega arith in e)
    ∙ each_offset ns m i rest fits.1 (omega arith)

module _ (front name config count size : List ℕ) (fronted : length front ≡ 256) (named : length name ≡ 32) (configured : length config ≡ 272) (counted : length count ≡ 4) (sized : length size ≡ 4) where
  abbrev whole : List ℕ
  whole = front ++ (name ++ (config ++ (count ++ (size ++ zeros 24))))

  name_at : stretch 256 32 whole ≡ name
  name_at = stretch-behind 256 256 32 front _ fronted (omega arith) ∙ stretch-here name _ 32 named

  config_at : stretch 288 272 whole ≡ config
  config_at = stretch-behind 288 256 272 front _ fronted (omega arith) ∙ stretch-behind 32 32 272 name _ named (omega arith) ∙ stretch-here config _ 272 configured

  past : (at : ℕ) → 304 ≤ at → number_at 4 (256 + at) whole ≡ number_at 4 (at - 304) (count ++ (size ++ zeros 24))
  past at h =
      number_at-behind 4 (256 + at) 256 front _ fronted (omega arith) ∙ number_at-behind 4 (256 + at - 256) 32 name _ named (omega arith)
      ∙ number_at-behind 4 (256 + at - 256 - 32) 272 config _ configured (omega arith)
      ∙ ap (λ o. number_at 4 o (count ++ (size ++ zeros 24))) (let e : 256 + at - 256 - 32 - 272 ≡ at - 304 = omega arith in e)

  count_at : number_at 4 560 whole ≡ number_at 4 0 (count ++ (size ++ zeros 24))
  count_at = past 304 (omega arith)

  size_at : number_at 4 564 whole ≡ number_at 4 0 (size ++ zeros 24)
  size_at = past 308 (omega arith) ∙ number_at-behind 4 4 4 count _ counted (omega arith)

  fd_at : number_at 4 588 whole ≡ 0
  fd_at =
      past 332 (omega arith) ∙ number_at-behind 4 28 4 count _ counted (omega arith) ∙ number_at-behind 4 24 4 size _ sized (omega arith)
      ∙ ap (number_at 4 20) (sym (append-nil (zeros 24))) ∙ number_at_zeros_4 20 24 [] (omega arith)

  padding_at : stretch 568 20 whole ≡ zeros 20
  padding_at =
      stretch-behind 568 256 20 front _ fronted (omega arith) ∙ stretch-behind 312 32 20 name _ named (omega arith)
      ∙ stretch-behind 280 272 20 config _ configured (omega arith) ∙ stretch-behind 8 4 20 count _ counted (omega arith)
      ∙ stretch-behind 4 4 20 size _ sized (omega arith) ∙ ap (stretch 0 20) (sym (append-nil (zeros 24))) ∙ stretch-zeros 0 20 24 [] (omega arith)

-- what stands before the consumer
offsets_front : List ℕ → List ℕ
offsets_front ns = offsets_bytes ns ++ zeros (256 - 4 * length ns)

length-offsets_front : (ns : List ℕ) → length ns ≤ 64 → length (offsets_front ns) ≡ 256
unfolding offsets_front
length-offsets_front ns few =
    omega (arith, length-append (offsets_bytes ns) (zeros (256 - 4 * length ns)), length-offsets_bytes ns, length-zeros (256 - 4 * length ns))

offset_at : (ns rest : List ℕ) (i : ℕ) → length ns ≤ 64 → Each (λ n. n < 2 ^ 32) ns → i < 64
    → number_at 4 (0 + 4 * i) (offsets_front ns ++ rest) ≡ get_or (ns ++ replicate (64 - length ns) 0) i 0
unfolding offsets_front
offset_at ns rest i few fits below =
    ap (λ p. number_at 4 p (offsets_front ns ++ rest)) (let e : 0 + 4 * i ≡ 4 * i = omega arith in e)
    ∙ ap (number_at 4 (4 * i)) (append_assoc (offsets_bytes ns) (zeros (256 - 4 * length ns)) rest)
    ∙ ap (λ w. number_at 4 (4 * i) (offsets_bytes ns ++ (zeros w ++ rest))) (let e : 256 - 4 * length ns ≡ 4 * (64 - length ns) = omega arith in e)
    ∙ each_offset ns (64 - length ns) i rest fits (omega arith)

sixty_four : (n : ℕ) → n ≤ 64 → n + length {A = ℕ} (replicate (64 - n) 0) ≡ 64
sixty_four n few = omega (arith, length-replicate {A = ℕ} (64 - n) 0)

new_fields : (ns name : List ℕ) (flags : ℕ) (attrs : List NewAttribute) (events : ℕ) → new_request_bytes ns name flags attrs events
    ≡ offsets_front ns ++ (field_of name ++ (new_config_bytes flags attrs ++ (number_bytes 4 (length ns) ++ (number_bytes 4 events ++ zeros 24))))
unfolding offsets_front
new_fields ns name flags attrs events =
    let a : List ℕ = offsets_bytes ns ++ zeros (256 - 4 * length ns) in
    let n : List ℕ = number_bytes 4 (length ns) in
    let e : List ℕ = number_bytes 4 events in
    append_assoc (a ++ field_of name ++ new_config_bytes flags attrs ++ n) e (zeros 24)
    ∙ append_assoc (a ++ field_of name ++ new_config_bytes flags attrs) n (e ++ zeros 24)
    ∙ append_assoc (a ++ field_of name) (new_config_bytes flags attrs) (n ++ (e ++ zeros 24))
    ∙ append_assoc a (field_of name) (new_config_bytes flags attrs ++ (n ++ (e ++ zeros 24)))

pub request_spelled : (ns name : List ℕ) (flags : ℕ) (attrs : List NewAttribute) (events : ℕ) → length ns ≤ 64 → length attrs ≤ 10 → length (field_of name) ≡ 32
    → RequestFits ns flags attrs events → SpellsRequest (new_request_bytes ns name flags attrs events) (new_request ns name flags attrs events)
request_spelled ns name flags attrs events lines few named fits =
    let fields = new_fields ns name flags attrs events in
    let count : List ℕ = number_bytes 4 (length ns) in
    let size : List ℕ = number_bytes 4 events in
    let config : List ℕ = new_config_bytes flags attrs in
    let fronted = length-offsets_front ns lines in
    let configured = length-new_config_bytes flags attrs few in
    let counted = length-number_bytes 4 (length ns) in
    let sized = length-number_bytes 4 events in
    let front : List ℕ = offsets_front ns in
    let S : List ℕ → Type 0 = λ bytes. SpellsConfig bytes (new_config flags attrs) in
    record {
      size = length-new_request_bytes ns name flags attrs events lines few named;
      sixty_four = length-append ns (replicate (64 - length ns) 0) ∙ sixty_four (length ns) lines;
      offsets = λ i below. ap (number_at 4 (0 + 4 * i)) fields ∙ offset_at ns _ i lines fits.offsets_fit below;
      consumer = ap (stretch 256 32) fields ∙ name_at front (field_of name) config count size fronted named configured counted sized;
      config =
          subst S (sym (ap (stretch 288 272) fields ∙ config_at front (field_of name) config count size fronted named configured counted sized))
          (config_spelled flags attrs few fits.config);
      num_lines =
          ap (number_at 4 560) fields ∙ count_at front (field_of name) config count size fronted named configured counted sized
          ∙ number_at-here 4 (length ns) _ (small (length ns) lines);
      event_buffer_size =
          ap (number_at 4 564) fields ∙ size_at front (field_of name) config count size fronted named configured counted sized
          ∙ number_at-here 4 events _ fits.events_fit;
      padding = ap (stretch 568 20) fields ∙ padding_at front (field_of name) config count size fronted named configured counted sized;
      fd = ap (λ bs. cast_signed w32 (number_at 4 588 bs)) fields ∙ ap (cast_signed w32) (fd_at front (field_of name) config count size fronted named configured counted sized);
    }
  where
    small : (n : ℕ) → n ≤ 64 → n < 256 ^ 4
    small n h = omega arith
