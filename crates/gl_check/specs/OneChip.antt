-- A session of two statements, which makes a chip and lists the chips, and what One makes of it. (`examples/one-chip.session`)
use Rattle.std.specs.Prelude.{ℕ, List, [], ◌∷◌, ◌++◌, Option, codes}
use Rattle.gl_script.specs.Sentence.{sections_said}
use Rattle.gl_check.specs.One.{one, planned, taken}

abbrev ended : List ℕ → List ℕ → List ℕ
ended line rest = line ++ 10 ∷ rest

unfoldable pub session : List ℕ
session = ended (codes "session 1") (ended (codes "setup") (ended (codes "probe demo 4") (ended (codes "gpiodetect") [])))

unfoldable pub output : List ℕ
output = ended (codes "gpiochip0 [demo] (4 lines)") []

-- what One prints of it without an answer of a driver, the answers that it takes then, and those of Planned
unfoldable pub printed : List ℕ
printed = one (sections_said session) []

unfoldable pub takes : List (Option ℕ)
takes = taken (sections_said session) []

unfoldable pub plans : List (Option ℕ)
plans = planned (sections_said session)
