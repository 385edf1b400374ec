-- How the bytes of a command are read. They are guessed from the text, and then the one spelling of the guess has to stand
-- there. This project's choice.
use Rattle.std.specs.Prelude.{ℕ, zero, suc, ◌-◌, ◌==◌, if◌then◌else◌, nat_lt, List, [], ◌∷◌, ◌++◌, length, slice_index, drop, replicate, Option, Some, None}
use Rattle.gl_base.specs.Decimal.{plain_number_of_text}
use Rattle.gl_trace.specs.Fronts.{Front, front_of}
use Rattle.gl_trace.specs.WordRead.{hex_value, pair_byte}

-- a byte, how many zeros follow it of its run, and what is left of the text
pub record Next : Type 0 where
  pub byte : ℕ
  pub zeros : ℕ
  pub rest : List ℕ

abbrev pub next : ℕ → ℕ → List ℕ → Next
next byte zeros rest = record { byte = byte; zeros = zeros; rest = rest }

-- without a blank at the front
abbrev pub unblank : List ℕ → List ℕ
unblank [] = []
unblank (byte ∷ bytes) = if byte == 32 then bytes else byte ∷ bytes

abbrev pub or_zero : Option ℕ → ℕ
or_zero None = 0
or_zero (Some n) = n

-- the first zero of a run, whose length is written in front of a blank
abbrev pub run_next : Option Front → Next
run_next None = next 0 0 []
run_next (Some f) = next 0 (or_zero (plain_number_of_text f.word) - 1) f.rest

-- the byte of a pair
abbrev pub pair_next : ℕ → ℕ → List ℕ → Next
pair_next high low rest = next (or_zero (pair_byte (hex_value high) (hex_value low))) 0 (unblank rest)

-- the byte at the front of a text: of a run, which has a star (42) after its pair, or of a pair
abbrev pub next_of : List ℕ → Next
next_of text =
    if nat_lt (length text) 3 then next 0 0 []
    else if slice_index text 2 == 42 then run_next (front_of (drop 3 text))
    else pair_next (slice_index text 0) (slice_index text 1) (drop 2 text)

abbrev pub next_after : ℕ → List ℕ → Next
next_after zeros text = if zeros == 0 then next_of text else next 0 (zeros - 1) text

-- so many bytes, where so many zeros come first
abbrev pub guess : ℕ → ℕ → List ℕ → List ℕ
guess zero leading text = []
guess (suc n) leading text = (next_after leading text).byte ∷ guess n (next_after leading text).zeros (next_after leading text).rest

-- all bytes of a command, of which the first `count` are told
abbrev pub whole_guess : ℕ → List ℕ → List ℕ
whole_guess count text = guess count 0 text ++ drop count (replicate 592 0)
