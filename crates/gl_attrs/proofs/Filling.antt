-- The table of settings, one line after the other, and the first fault.
use Rattle.std.proofs.Common.{ℕ, true, false, cond, ◌≡◌, ◌≢◌, ◌+◌, ◌<◌, List, None, ltb, set, ap, sym, ◌∙◌, inl, inr, arith}
use Rattle.std.proofs.lemmas.Bool.{cases_lt, le-ltb, lt-ltb}
use Rattle.std.specs.Option.{option_or}
use Rattle.gl_base.specs.Positions.{first_fault, table_from}
use Rattle.gl_base.specs.declared.settings.Settings.{Settings}
use Rattle.gl_base.proofs.AtPositions.{set-table_from, table_from-same}
use Rattle.gl_uapi.specs.Fields.{is_zero_at}
use Rattle.gl_attrs.specs.ConfigFault.{config_fault, line_fault}
use Rattle.gl_base.specs.Settings.{no_settings}
use Rattle.gl_attrs.specs.Setting.{num_attrs, settings_for, settings_or_none}

-- at first no line has settings
pub none_filled : (config : List ℕ) → table_from (λ _. no_settings) 0 64 ≡ table_from (settings_or_none config 0) 0 64
none_filled config =
    table_from-same (λ _. no_settings) (settings_or_none config 0) 0 64
    (λ k low high. sym (ap (λ b. cond b (settings_for config k) no_settings) (le-ltb k 0 (omega arith))))

one_more : (config : List ℕ) (i j : ℕ) → j ≢ i → settings_or_none config i j ≡ settings_or_none config (i + 1) j
one_more config i j other =
    elim (cases_lt j i) [
      | inl below ↦ ap (λ b. cond b (settings_for config j) no_settings) (lt-ltb j i below ∙ sym (lt-ltb j (i + 1) (omega arith)))
      | inr above ↦ ap (λ b. cond b (settings_for config j) no_settings) (le-ltb j i above ∙ sym (le-ltb j (i + 1) (omega arith)))
    ]

-- the settings of the next line
pub next_filled : (config : List ℕ) (i : ℕ) (table : List Settings) (line : Settings) → i < 64 → table ≡ table_from (settings_or_none config i) 0 64
    → line ≡ settings_for config i → set table i line ≡ table_from (settings_or_none config (i + 1)) 0 64
next_filled config i table line within so_far is =
    let here : line ≡ settings_or_none config (i + 1) (0 + i) =
    let from_zero : 0 + i ≡ i = omega arith in
    is ∙ sym (ap (λ b. cond b (settings_for config i) no_settings) (lt-ltb i (i + 1) (omega arith))) ∙ ap (settings_or_none config (i + 1)) (sym from_zero) in
    ap (λ t. set t i line) so_far
    ∙ set-table_from (settings_or_none config i) (settings_or_none config (i + 1)) 0 64 i line within here
    (λ j low high other. one_more config i j (λ same. other (omega arith)))

-- where the configuration's own bytes are without fault, the lines decide
pub lines_decide : (config : List ℕ) (n : ℕ) → ltb 10 (num_attrs config) ≡ false → is_zero_at 12 20 config ≡ true
    → config_fault config n ≡ option_or (first_fault (line_fault config) 0 n) None
lines_decide config n few zero = simp (few, zero)
