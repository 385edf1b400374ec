-- The settings of a configuration, for every number of lines.
use Rattle.std.proofs.Common.{ℕ, zero, suc, cond, ◌≡◌, ◌+◌, ◌<◌, ◌≤◌, List, get_or, Option, None, Some, refl, ap, ◌∙◌, inl, inr, arith}
use Rattle.std.specs.Option.{option_or}
use Rattle.std.proofs.lemmas.Bool.{cases_lt, le-ltb, lt-ltb}
use Rattle.std.proofs.lemmas.List.{get_or_past}
use Rattle.gl_base.specs.Positions.{first_fault}
use Rattle.gl_base.specs.Settings.{no_settings}
use Rattle.gl_base.proofs.AtPositions.{first_fault_each, get_or-table_from, length-table_from}
use Rattle.gl_attrs.specs.ConfigFault.{config_fault, line_fault}
use Rattle.gl_attrs.specs.Setting.{resolved_for, settings_for, settings_or_none}

pub line_told : (config : List ℕ) (n i : ℕ) → (0 < n) × (n ≤ 64) → i < n → get_or (resolved_for config n).lines i no_settings ≡ settings_for config i
line_told config n i count below =
    let z : 0 + i ≡ i = omega arith in
    get_or-table_from (settings_or_none config n) 0 64 i no_settings (omega (arith, count.1, below)) ∙ ap (settings_or_none config n) z
    ∙ ap (λ b. cond b (settings_for config i) no_settings) (lt-ltb i n below)

pub past_told : (config : List ℕ) (n i : ℕ) → n ≤ i → get_or (resolved_for config n).lines i no_settings ≡ no_settings
past_told config n i past =
    elim (cases_lt i 64) [
      | inl below ↦
          (let z : 0 + i ≡ i = omega arith in
          get_or-table_from (settings_or_none config n) 0 64 i no_settings below ∙ ap (settings_or_none config n) z
          ∙ ap (λ b. cond b (settings_for config i) no_settings) (le-ltb i n past))
      | inr behind ↦ get_or_past (resolved_for config n).lines i no_settings (omega (arith, behind, length-table_from (settings_or_none config n) 0 64))
    ]

both_none : {E : Type 0} (o p : Option E) → option_or o p ≡ None → (o ≡ None) × (p ≡ None)
both_none None p e = (refl, e)
both_none (Some x) p e = cc

none_each : {E : Type 0} (f : ℕ → Option E) (i n : ℕ) → ((k : ℕ) → i ≤ k → k < i + n → f k ≡ None) → first_fault f i n ≡ None
none_each f i zero h = refl
none_each f i (suc n) h =
    ap (λ o. option_or o (first_fault f (i + 1) n)) (h i (omega arith) (omega arith)) ∙ none_each f (i + 1) n (λ k low high. h k (omega arith) (omega arith))

all_none : {E : Type 0} (a b c : Option E) → a ≡ None → b ≡ None → c ≡ None → option_or a (option_or b (option_or c None)) ≡ None
all_none a b c p q r = rw (p, q, r) refl

-- the faults of a configuration: of its attributes, of its padding, and of its lines
three : {E : Type 0} (a b c : Option E) → option_or a (option_or b (option_or c None)) ≡ None → (a ≡ None) × (b ≡ None) × (c ≡ None)
three a b c e =
    let first = both_none a (option_or b (option_or c None)) e in
    let second = both_none b (option_or c None) first.1 in
    (first.0, second.0, (both_none c None second.1).0)

pub line_faultless : (config : List ℕ) (n i : ℕ) → config_fault config n ≡ None → i < n → line_fault config i ≡ None
line_faultless config n i none below =
    first_fault_each (line_fault config) 0 n (three _ _ (first_fault (line_fault config) 0 n) none).2 i (omega arith) (omega (arith, below))

pub fewer_faultless : (config : List ℕ) (n m : ℕ) → config_fault config n ≡ None → m ≤ n → config_fault config m ≡ None
fewer_faultless config n m none few =
    let parts = three _ _ (first_fault (line_fault config) 0 n) none in
    all_none _ _ (first_fault (line_fault config) 0 m) parts.0 parts.1
    (none_each (line_fault config) 0 m (λ k low high. line_faultless config n k none (omega (arith, few, high))))
