-- What was read of a session so far.
use Rattle.std.specs.Prelude.{◌≡◌, Option, None, Some, Result, Ok, Err, map}
use Rattle.gl_script.specs.Meaning.{said_in, current_in}
use Rattle.gl_script.specs.Sentence.{Before}
use Rattle.gl_script.specs.declared.reading.Reading.{Reading}
use Rattle.gl_script.specs.declared.reading.Stop.{Stop}
use Rattle.gl_script.specs.declared.reading.Stop.TheVariants.{Fault, NoMemory}
use Rattle.gl_script.specs.declared.refusal.Spot.{Spot}

abbrev pub before_in : Reading → Before
before_in reading = record { version = reading.version; complete = map said_in reading.complete.items; current = current_in reading.current }

-- A line was taken in: it has no fault, and what stands behind it is what should; or else its fault, or want of memory.
abbrev pub Follows : Option Spot → Before → Before → Result (Unit {0}) Stop → Type 0
Follows fault then after (Ok done) = (fault ≡ None) × (after ≡ then)
Follows fault then after (Err (Fault found)) = fault ≡ Some found
Follows fault then after (Err NoMemory) = Unit {0}
