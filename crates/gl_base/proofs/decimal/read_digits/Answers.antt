use Rattle.std.proofs.Common.{◌-◌, ◌+◌, ◌*◌, ◌&&◌, ◌^◌, Some, None, cond, get_or, ap, sym, arith}
use Rattle.std.specs.Prelude.{nat_lt}
use Rattle.std.specs.Char.{is_ascii_digit}
use Rattle.gl_base.specs.Decimal.{text_value}
use Rattle.gl_base.proofs.Decimals.{not_fitting, none_fails, all_fitting}
use Rattle.gl_base.proofs.decimal.read_digits.Goals as goal

pub returns-in-None : goal.returns-in-None
returns-in-None c =
    let i = c.loop-byte.byte-index in
    let value = c.loop-byte.value in
    let digit = get_or c.args.text.now i 0 in
    let fails = none_fails (is_ascii_digit digit && nat_lt (10 * value + (digit - 48)) (2 ^ 64)) (10 * value + (digit - 48)) c.in-None.ensures in
    sym (ap (λ b. cond b (Some (text_value c.args.text.now)) None) (not_fitting c.args.text.now i value 0 (omega arith) fails c.loop-byte.invariant.0 c.loop-byte.invariant.1))

pub returns : goal.returns
returns c = all_fitting c.args.text.now c.loop-byte.byte-index c.loop-byte.value (omega arith) c.loop-byte.invariant.2 c.loop-byte.invariant.0 c.loop-byte.invariant.1
