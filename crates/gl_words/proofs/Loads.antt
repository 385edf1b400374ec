-- The words of a load, and what clap makes of them.
use Rattle.std.proofs.Common.{◌≡◌, ℕ, ◌≤◌, ◌<◌, ◌^◌, Bool, true, false, cond, List, [], ◌∷◌, length, Option, Some, None, is_some, option_map, Result, Ok, Err, refl, sym, ap, ap₂, ◌∙◌, arith, codes}
use Rattle.std.specs.Prelude.{nat_eq}
use Rattle.std.specs.Bool.{OnTrue}
use Rattle.std.specs.Result.{result_ok}
use Rattle.std.specs.Str.{bytes_eq, all_ascii_digits}
use Rattle.std.specs.Str.Parse.{ParsesUnsigned, ExplainsUnsignedError, HasUnsignedDigitsIfOk}
use Rattle.std.specs.declared.num.ParseIntError.{ParseIntError}
use Rattle.std.proofs.lemmas.Bool.Decides.{nat_tests}
use Rattle.std.proofs.lemmas.Slice.Eq.{bytes_eq-Decides}
use Rattle.std.proofs.lemmas.Fmt.{decimal_nonempty, parse-decimal}
use Rattle.clap.specs.Words.{App, HasMatchesOf, ReadsOne, found_of, is_simple, matches_of, one_text, takes}
use Rattle.clap.specs.Walk.{one_of}
use Rattle.clap.specs.declared.parser.matches.ArgMatches.{ArgMatches}
use Rattle.clap.proofs.OnLiterals.{clap_on_literals}
use Rattle.clap.proofs.WalkLemmas.{one_text-rows}
use Rattle.gl_base.specs.Decimal.{decimal, plain_number_of_text}
use Rattle.gl_base.proofs.Decimals.{decimal-plain_number, digits-decimal}
use Rattle.gl_script.specs.Forms.{within}
use Rattle.gl_script.specs.declared.limits.TheConstants.{TURNS_MAX}
use Rattle.gl_words.specs.declared.task.Task.TheVariants.{Check, Load}
use Rattle.gl_words.specs.Command.{load_command}
use Rattle.gl_words.specs.Words.{asks}

-- a test of a value that holds finds a load
pub some_load : (told is_option : Bool) (turns : Option ℕ) → is_option ≡ true → told ≡ is_some turns → OnTrue told ((n : ℕ) × (cond is_option (option_map Load turns) None ≡ Some (Load n)))
some_load true is_option (Some n) named e = (n, ap (λ b. cond b (Some (Load n)) None) named)
some_load true is_option None named e = cc
some_load false is_option turns named e = tt

-- what words of a load of n turns look like
record AreLoad (words : List (List ℕ)) (n : ℕ) : Type 0 where
  byte : ℕ
  bytes : List ℕ
  are : words ≡ codes "--generate" ∷ (byte ∷ bytes) ∷ []
  other : nat_eq byte 45 ≡ false
  digits : byte ∷ bytes ≡ decimal n
  small : n < 2 ^ 32

-- a digit isn't `-`
digit_first : (byte : ℕ) (bytes : List ℕ) → all_ascii_digits (byte ∷ bytes) ≡ true → nat_eq byte 45 ≡ false
digit_first byte bytes e = grind (arith, nat_tests)

load_parts : (is_option : Bool) (number : Option ℕ) (n : ℕ) → cond is_option (option_map Load (within 1 TURNS_MAX number)) None ≡ Some (Load n) → (is_option ≡ true) × (number ≡ Some n) × (1 ≤ n) × (n ≤ TURNS_MAX)
load_parts false number n e = cc
load_parts true None n e = cc
load_parts true (Some m) n e = grind (arith, nat_tests)

-- a check is no load
no_load : (is_check : Bool) (n : ℕ) → cond is_check (Some Check) None ≡ Some (Load n) → ⊥
no_load false n e = cc
no_load true n e = cc

with_digits : (option number : List ℕ) (n : ℕ) → option ≡ codes "--generate" → number ≡ decimal n → n ≤ TURNS_MAX → AreLoad (option ∷ number ∷ []) n
with_digits option [] n named is small =
    let there = decimal_nonempty n (omega arith) in
    let none : length (decimal n) ≡ 0 = ap length (sym is) in
    absurd (omega arith)
with_digits option (byte ∷ bytes) n named is small = record {
  byte = byte;
  bytes = bytes;
  are = ap (λ o. o ∷ (byte ∷ bytes) ∷ []) named;
  other = digit_first byte bytes (ap all_ascii_digits is ∙ digits-decimal n (omega arith));
  digits = is;
  small = omega arith;
}

are_load : (words : List (List ℕ)) (n : ℕ) → asks words ≡ Some (Load n) → AreLoad words n
are_load [] n e = cc
are_load (word ∷ []) n e = absurd (no_load (bytes_eq word (codes "check")) n e)
are_load (option ∷ number ∷ []) n e =
    let parts = load_parts (bytes_eq option (codes "--generate")) (plain_number_of_text number) n e in
    with_digits option number n ((bytes_eq-Decides option (codes "--generate")).0 parts.0) (decimal-plain_number number n parts.1) parts.3
are_load (option ∷ number ∷ more ∷ words) n e = cc

-- a value that doesn't begin with `-` passes, and is the option's
takes-value : (byte : ℕ) (bytes : List ℕ) → nat_eq byte 45 ≡ false → takes load_command (codes "--generate" ∷ (byte ∷ bytes) ∷ []) ≡ true
unfolding clap_on_literals
takes-value byte bytes other = rw other (rw other refl)

one_of-value : (byte : ℕ) (bytes : List ℕ) → nat_eq byte 45 ≡ false → one_of (codes "generate") (matches_of load_command (codes "--generate" ∷ (byte ∷ bytes) ∷ [])) ≡ Some (byte ∷ bytes)
unfolding clap_on_literals
one_of-value byte bytes other = rw other (rw other refl)

-- clap takes the words of a load
pub takes_load : (app : App) (words : List (List ℕ)) (n : ℕ) → app ≡ load_command → asks words ≡ Some (Load n) → takes app words ≡ true
takes_load app words n same e = let load = are_load words n e in ap₂ takes same load.are ∙ takes-value load.byte load.bytes load.other

-- what std reads as a `u32`
abbrev pub Reads : List ℕ → Result ℕ ParseIntError → Type 0
Reads text number = ParsesUnsigned 32 10 text number × ExplainsUnsignedError 10 text number × HasUnsignedDigitsIfOk text number

-- a number is read back from its digits
read_digits : (n : ℕ) (number : Option ℕ) → n < 2 ^ 32 → ReadsOne Reads (decimal n) number → number ≡ Some n
read_digits n (Some m) small read =
    let told : Result ℕ ParseIntError = Ok m in
    let is : told ≡ Ok n = parse-decimal 32 n (decimal n) told small (omega arith) refl read.0 in
    ap (λ r. result_ok r) is
read_digits n None small read =
    let told : Result ℕ ParseIntError = Err read.0 in
    let is : told ≡ Ok n = parse-decimal 32 n (decimal n) told small (omega arith) refl read.1.0 in
    ap (λ r. result_ok r) is

-- the value that clap finds in the words of a load is its number of turns
pub turns_found : (app : App) (words : List (List ℕ)) (n : ℕ) (m : ArgMatches) (number : Option ℕ)
    → app ≡ load_command → asks words ≡ Some (Load n) → HasMatchesOf app words m
    → ((t : List ℕ) → one_text (found_of m) (codes "generate") ≡ Some t → ReadsOne Reads t number)
    → number ≡ Some n
turns_found app words n m number same e matches read =
    let load = are_load words n e in
    let found : one_text (found_of m) (codes "generate") ≡ Some (decimal n) = one_text-rows (found_of m) (codes "generate")
    ∙ ap (one_of (codes "generate")) ((matches (ap is_simple same)).0 ∙ ap₂ matches_of same load.are)
    ∙ one_of-value load.byte load.bytes load.other ∙ ap Some load.digits in
    read_digits n number load.small (read (decimal n) found)
