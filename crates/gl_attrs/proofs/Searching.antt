-- The search for an attribute, one place after the other.
use Rattle.std.proofs.Common.{ℕ, suc, Bool, true, false, cond, ◌≡◌, ◌+◌, ◌-◌, ◌*◌, ◌<◌, ◌≤◌, List, Option, Some, None, eqb, ap, sym, ◌∙◌, arith, map}
use Rattle.std.specs.Prelude.{find}
use Rattle.std.proofs.lemmas.Bool.{and_from, and_left, and_right, eq-eqb, ne_eqb}
use Rattle.gl_base.specs.Bits.{has_bit}
use Rattle.gl_uapi.specs.Fields.{number_at, stretch, stretches}
use Rattle.gl_uapi.specs.LineConfig.{Attribute, attribute_in}
use Rattle.gl_attrs.specs.Setting.{covers}

-- what is found among the attributes from place k on
unfoldable pub found_from : (Attribute → Bool) → List ℕ → ℕ → ℕ → Option Attribute
found_from test config k n = find test (map attribute_in (stretches 24 (32 + 24 * k) n config))

-- the attribute at position k, and those behind it
pub found_from-at : (test : Attribute → Bool) (config : List ℕ) (k n : ℕ) → k < n
    → found_from test config k (n - k) ≡ cond (test (attribute_in (stretch (32 + 24 * k) 24 config))) (Some (attribute_in (stretch (32 + 24 * k) 24 config))) (found_from test config (k + 1) (n - (k + 1)))
unfolding found_from stretches
found_from-at test config k n below =
    let left : n - k ≡ suc (n - (k + 1)) = omega arith in
    let next : 32 + 24 * k + 24 ≡ 32 + 24 * (k + 1) = omega arith in
    let here : Attribute = attribute_in (stretch (32 + 24 * k) 24 config) in
    ap (λ m. find test (map attribute_in (stretches 24 (32 + 24 * k) m config))) left
    ∙ ap (λ o. cond (test here) (Some here) (find test (map attribute_in (stretches 24 o (n - (k + 1)) config)))) next

pub found_from-passed : (test : Attribute → Bool) (config : List ℕ) (k n : ℕ) → k < n → test (attribute_in (stretch (32 + 24 * k) 24 config)) ≡ false
    → found_from test config k (n - k) ≡ found_from test config (k + 1) (n - (k + 1))
found_from-passed test config k n below other =
    let here : Attribute = attribute_in (stretch (32 + 24 * k) 24 config) in
    found_from-at test config k n below ∙ ap (λ b. cond b (Some here) (found_from test config (k + 1) (n - (k + 1)))) other

pub found_from-here : (test : Attribute → Bool) (config : List ℕ) (k n : ℕ) → k < n → test (attribute_in (stretch (32 + 24 * k) 24 config)) ≡ true
    → found_from test config k (n - k) ≡ Some (attribute_in (stretch (32 + 24 * k) 24 config))
found_from-here test config k n below same =
    let here : Attribute = attribute_in (stretch (32 + 24 * k) 24 config) in
    found_from-at test config k n below ∙ ap (λ b. cond b (Some here) (found_from test config (k + 1) (n - (k + 1)))) same

pub found_from-end : (test : Attribute → Bool) (config : List ℕ) (k n : ℕ) → n ≤ k → found_from test config k (n - k) ≡ None
unfolding found_from stretches
found_from-end test config k n past =
    let none : n - k ≡ 0 = omega arith in
    ap (λ m. find test (map attribute_in (stretches 24 (32 + 24 * k) m config))) none

-- an attribute of another kind
pub covers-other_kind : (id i : ℕ) (bytes read : List ℕ) (kind : ℕ) → read ≡ bytes → kind ≡ number_at 4 0 read → (kind ≡ id → ⊥) → covers id i (attribute_in bytes) ≡ false
covers-other_kind id i bytes read kind same is other =
    let reads : kind ≡ number_at 4 0 bytes = is ∙ ap (number_at 4 0) same in
    and_left (eqb (number_at 4 0 bytes) id) (has_bit (number_at 8 16 bytes) i) (ne_eqb (number_at 4 0 bytes) id (λ e. other (reads ∙ e)))

-- an attribute without the line
pub covers-other_lines : (id i : ℕ) (bytes read : List ℕ) (mask : ℕ) (bit : Bool) → read ≡ bytes → mask ≡ number_at 8 16 read → bit ≡ has_bit mask i → bit ≡ false
    → covers id i (attribute_in bytes) ≡ false
covers-other_lines id i bytes read mask bit same is tested no_bit =
    let reads : has_bit (number_at 8 16 bytes) i ≡ false =
    sym (ap (λ n. has_bit n i) (is ∙ ap (number_at 8 16) same)) ∙ sym tested ∙ no_bit in
    and_right (eqb (number_at 4 0 bytes) id) (has_bit (number_at 8 16 bytes) i) reads

-- an attribute of the kind, with the line
pub covers-this : (id i : ℕ) (bytes read : List ℕ) (kind mask : ℕ) (bit : Bool) → read ≡ bytes → kind ≡ number_at 4 0 read → kind ≡ id
    → mask ≡ number_at 8 16 read → bit ≡ has_bit mask i → bit ≡ true → covers id i (attribute_in bytes) ≡ true
covers-this id i bytes read kind mask bit same is_kind same_kind is_mask tested set =
    and_from (eqb (number_at 4 0 bytes) id) (has_bit (number_at 8 16 bytes) i)
    (eq-eqb (number_at 4 0 bytes) id (sym (is_kind ∙ ap (number_at 4 0) same) ∙ same_kind))
    (sym (ap (λ n. has_bit n i) (is_mask ∙ ap (number_at 8 16) same)) ∙ sym tested ∙ set)
