use Rattle.std.proofs.Common.{◌≡◌, take, drop, ◌++◌}
use Rattle.std.specs.List.{take_while}
use Rattle.std.specs.Char.{is_ascii_digit}
use Rattle.gl_args.specs.Cuts.{unit_text}
use Rattle.gl_args.proofs.cuts.split_digits.Given as goal

abbrev pub invariant-loop-at : goal.invariant-loop-at
invariant-loop-at l =
    (take_while is_ascii_digit l.text ≡ take l.at l.text ++ take_while is_ascii_digit (drop l.at l.text)) × (unit_text l.text ≡ unit_text (drop l.at l.text))
