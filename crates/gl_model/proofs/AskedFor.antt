-- What a request asks for, and why its bytes alone have it refused.
use Rattle.std.proofs.Common.{◌≡◌, List, ℕ, Option, Some, None, Result, Ok, Err, Bool, true, false, refl, sym, ap}
use Rattle.std.proofs.lemmas.Bool.{true≢false}
use Rattle.gl_base.specs.declared.errno.Errno.{Errno}
use Rattle.gl_model.specs.AskedLines.{AskedLines, asked_in, asked_where}

abbrev is_asked : Option (Result AskedLines Errno) → Bool
is_asked None = false
is_asked (Some (Err errno)) = false
is_asked (Some (Ok asked)) = true

abbrev asked_or : AskedLines → Option (Result AskedLines Errno) → AskedLines
asked_or other None = other
asked_or other (Some (Err errno)) = other
asked_or other (Some (Ok asked)) = asked

abbrev fault_in : Option (Result AskedLines Errno) → Option Errno
fault_in None = None
fault_in (Some (Err errno)) = Some errno
fault_in (Some (Ok asked)) = None

-- something is asked for: the bytes have no fault, and it is what they ask for
pub faultless_asked : (fault : Option Errno) (bytes : List ℕ) (asked : AskedLines) → Some (Ok asked) ≡ Some (asked_where fault bytes) → (fault ≡ None) × (asked ≡ asked_in bytes)
faultless_asked None bytes asked is = (refl, ap (asked_or asked) is)
faultless_asked (Some errno) bytes asked is = absurd (true≢false (ap is_asked is))

-- it is refused: the bytes have that fault
pub refused_asked : (fault : Option Errno) (bytes : List ℕ) (errno : Errno) → Some (Err errno) ≡ Some (asked_where fault bytes) → fault ≡ Some errno
refused_asked None bytes errno is = absurd (true≢false (sym (ap is_asked is)))
refused_asked (Some other) bytes errno is = sym (ap fault_in is)

abbrev is_fault : Option Errno → Bool
is_fault None = false
is_fault (Some errno) = true

-- so they are not without one
pub nothing_asked : (fault : Option Errno) (bytes : List ℕ) (errno : Errno) → Some (Err errno) ≡ Some (asked_where fault bytes) → fault ≡ None → ⊥
nothing_asked None bytes errno is none = true≢false (sym (ap is_asked is))
nothing_asked (Some other) bytes errno is none = true≢false (ap is_fault none)
