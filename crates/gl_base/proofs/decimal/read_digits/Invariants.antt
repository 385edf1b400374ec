use Rattle.std.proofs.Common.{◌≡◌, ◌<◌, ◌^◌, drop}
use Rattle.std.specs.Str.{all_ascii_digits}
use Rattle.gl_base.specs.Decimal.{value_after}
use Rattle.gl_base.proofs.decimal.read_digits.Given as goal

-- the digits so far are digits, and the rest gives the whole number behind them
abbrev pub invariant-loop-byte : goal.invariant-loop-byte
invariant-loop-byte l =
    (all_ascii_digits (drop l.byte-index l.text) ≡ all_ascii_digits l.text) × (value_after l.value (drop l.byte-index l.text) ≡ value_after 0 l.text) × (l.value < 2 ^ 64)
