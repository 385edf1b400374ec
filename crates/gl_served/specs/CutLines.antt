-- The lines of a source, as they were cut and answered so far. This project's choice.
use Rattle.std.specs.Prelude.{◌≡◌, ℕ, ◌+◌, Bool, true, not, ◌==◌, List, [], ◌∷◌, ◌++◌, take, Option}
use Rattle.std.specs.List.{list_all}
use Rattle.std.specs.Io.KnownBytes.{Appends}
use Rattle.gl_base.specs.Count.{counted_up}
use Rattle.gl_base.specs.Rows.{Each}
use Rattle.gl_served.specs.Frames.{AreFrames}
use Rattle.gl_served.specs.Served.{Accepted, Keeps, ServedValue, nothing_accepted}
use Rattle.gl_served.specs.declared.limits.TheConstants.{LINE_MAX}

-- no byte ends a line
abbrev pub is_line : List ℕ → Bool
is_line bytes = list_all (λ byte. not (byte == 10)) bytes

abbrev pub joined : List (List ℕ) → List ℕ
joined [] = []
joined (line ∷ lines) = line ++ 10 ∷ joined lines

-- bytes are these lines, each ended by 0x0A, and a rest that none ends
pub record IsCut (bytes : List ℕ) (lines : List (List ℕ)) (rest : List ℕ) : Type 0 where
  pub whole : bytes ≡ joined lines ++ rest
  pub each : Each (λ line. is_line line ≡ true) lines
  pub no_end : is_line rest ≡ true

-- a rest that isn't empty is the last line
abbrev pub with_rest : List (List ℕ) → List ℕ → List (List ℕ)
with_rest lines [] = lines
with_rest lines (byte ∷ rest) = lines ++ (byte ∷ rest) ∷ []

abbrev pub count_after : ℕ → List (List ℕ) → ℕ
count_after answered [] = answered
count_after answered (line ∷ lines) = count_after (counted_up answered) lines

-- what the code keeps after these bytes, for which these frames were written: of the line that is being read at most one byte more than a
-- line may have
pub record HasServed (served : ServedValue) (line : List ℕ) (answered : ℕ) (bytes written : List ℕ) : Type 0 where
  pub lines : List (List ℕ)
  pub rest : List ℕ
  pub said : Accepted
  pub cut : IsCut bytes lines rest
  pub frames : AreFrames nothing_accepted 0 lines written said
  pub keeps : Keeps served said
  pub line_is : line ≡ take (LINE_MAX + 1) rest
  pub count : answered ≡ count_after 0 lines

-- Of these frames the sink holds a front after what it held, and the others wait to be written.
pub record Sent (start now : Option (List ℕ)) (waiting frames : List ℕ) : Type 0 where
  pub sent : List ℕ
  pub wrote : Appends start now sent
  pub rest : frames ≡ sent ++ waiting

-- what the code keeps after these bytes, with the frames that wait
pub record ServesTo (start now : Option (List ℕ)) (served : ServedValue) (line : List ℕ) (answered : ℕ) (waiting bytes : List ℕ) : Type 0 where
  pub frames : List ℕ
  pub has : HasServed served line answered bytes frames
  pub sent : Sent start now waiting frames

-- The whole input was served: what was written are the frames of its lines, by which so much was accepted.
pub record HasServedAll (input written : List ℕ) (said : Accepted) : Type 0 where
  pub lines : List (List ℕ)
  pub rest : List ℕ
  pub cut : IsCut input lines rest
  pub frames : AreFrames nothing_accepted 0 (with_rest lines rest) written said

-- The lines that end in these bytes were served, and what was written are their frames.
pub record HasServedLines (bytes written : List ℕ) : Type 0 where
  pub lines : List (List ℕ)
  pub rest : List ℕ
  pub said : Accepted
  pub cut : IsCut bytes lines rest
  pub frames : AreFrames nothing_accepted 0 lines written said

-- it was written, where the sink tells its bytes
abbrev pub WroteAll : List ℕ → Accepted → Option (List ℕ) → Option (List ℕ) → Type 0
WroteAll input said old new = (written : List ℕ) × HasServedAll input written said × Appends old new written

abbrev pub WroteLines : List ℕ → Option (List ℕ) → Option (List ℕ) → Type 0
WroteLines bytes old new = (written : List ℕ) × HasServedLines bytes written × Appends old new written

-- Of the frames of the lines that end in a front of these bytes a first part was written.
pub record WroteFront (bytes : List ℕ) (old new : Option (List ℕ)) : Type 0 where
  pub front : List ℕ
  pub more : List ℕ
  pub frames : List ℕ
  pub count : ℕ
  pub whole : bytes ≡ front ++ more
  pub served : HasServedLines front frames
  pub wrote : Appends old new (take count frames)

-- The frames of the lines that end in a front of these bytes were written, each whole.
pub record WroteWhole (bytes : List ℕ) (old new : Option (List ℕ)) : Type 0 where
  pub front : List ℕ
  pub more : List ℕ
  pub frames : List ℕ
  pub whole : bytes ≡ front ++ more
  pub served : HasServedLines front frames
  pub wrote : Appends old new frames

-- so many bytes at the front of a text were written
abbrev pub WrotePart : List ℕ → Option (List ℕ) → Option (List ℕ) → Type 0
WrotePart text old new = (count : ℕ) × Appends old new (take count text)
