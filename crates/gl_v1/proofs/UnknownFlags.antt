-- A word with the bit of no flag is refused.
use Rattle.std.proofs.Common.{◌≡◌, Bool, true, false, ℕ, ◌^◌, ◌≤◌, nat_lt, List, length, Some, bit_or, sym, arith}
use Rattle.std.specs.Prelude.{if◌then◌else◌}
use Rattle.std.proofs.lemmas.Bool.{false≢true}
use Rattle.std.proofs.lemmas.Bool.Decides.{nat_tests}
use Rattle.std.proofs.lemmas.Nat.{le_or_l, le_or_r}
use Rattle.gl_base.specs.declared.errno.Errno.TheVariants.{Inval}
use Rattle.gl_flags.specs.FlagFault.{flag_fault, has_unknown}
use Rattle.gl_v1.specs.declared.flags.FlagPair.{FlagPair}
use Rattle.gl_v1.specs.declared.flags.TheConstants.{EVENT_TABLE, HANDLE_TABLE}
use Rattle.gl_v1.specs.Flags.{event_word, newer, newer_word}

-- the bit of no flag makes a word that large
word_is_large : (known within : ℕ) (below : Bool) → below ≡ false → 2 ^ 63 ≤ (if below then within else bit_or known (2 ^ 63))
word_is_large known within true is = absurd (false≢true (sym is))
word_is_large known within false is = le_or_r known (2 ^ 63)

large : (table : List FlagPair) (word : ℕ) → 2 ^ length table ≤ word → 2 ^ 63 ≤ newer_word table word
large table word beyond =
    let is : nat_lt word (2 ^ length table) ≡ false = grind (arith, nat_tests, beyond) in
    word_is_large (newer table word 0) (newer table word 0) (nat_lt word (2 ^ length table)) is

-- and no word that large has flags alone
refused : (bits : ℕ) → 2 ^ 63 ≤ bits → flag_fault bits ≡ Some Inval
refused bits beyond =
    let is : has_unknown bits ≡ true = grind (arith, nat_tests, beyond) in
    rw is

pub handle_refused : (word : ℕ) → 2 ^ length HANDLE_TABLE ≤ word → flag_fault (newer_word HANDLE_TABLE word) ≡ Some Inval
handle_refused word beyond = refused (newer_word HANDLE_TABLE word) (large HANDLE_TABLE word beyond)

module _ (handle_flags event_flags : ℕ) where
  abbrev either_word : ℕ
  either_word = bit_or (newer_word HANDLE_TABLE handle_flags) (newer_word EVENT_TABLE event_flags)

  within : either_word ≤ event_word HANDLE_TABLE EVENT_TABLE handle_flags event_flags
  within = le_or_l either_word 4

  pub event_refused_for_line : 2 ^ length HANDLE_TABLE ≤ handle_flags → flag_fault (event_word HANDLE_TABLE EVENT_TABLE handle_flags event_flags) ≡ Some Inval
  event_refused_for_line beyond =
      let word = large HANDLE_TABLE handle_flags beyond in
      let one = le_or_l (newer_word HANDLE_TABLE handle_flags) (newer_word EVENT_TABLE event_flags) in
      refused (event_word HANDLE_TABLE EVENT_TABLE handle_flags event_flags) (omega (arith, word, one, within))

  pub event_refused_for_edge : 2 ^ length EVENT_TABLE ≤ event_flags → flag_fault (event_word HANDLE_TABLE EVENT_TABLE handle_flags event_flags) ≡ Some Inval
  event_refused_for_edge beyond =
      let word = large EVENT_TABLE event_flags beyond in
      let one = le_or_r (newer_word HANDLE_TABLE handle_flags) (newer_word EVENT_TABLE event_flags) in
      refused (event_word HANDLE_TABLE EVENT_TABLE handle_flags event_flags) (omega (arith, word, one, within))
