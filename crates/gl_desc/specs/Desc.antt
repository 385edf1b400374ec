-- Who has each line of a chip, by offset. From the kernel's document on the GPIO character device (requests and
-- consumers) and on gpio-sim (hogs); the order of the refusals is this project's choice.
use Rattle.std.specs.Prelude.{ℕ, Bool, true, false, not, ◌==◌, nat_le, List, [], ◌∷◌, Option, length, take, slice_index, slice_index_or}
use Rattle.std.specs.List.{list_any}
use Rattle.gl_base.specs.Positions.{first_fault}
use Rattle.gl_base.specs.Refusals.{when, first_of}
use Rattle.gl_base.specs.declared.lines.Lines.{Lines}
use Rattle.gl_desc.specs.declared.desc.Desc.{Desc}
use Rattle.gl_desc.specs.declared.desc.Holder.{Holder}
use Rattle.gl_desc.specs.declared.desc.Holder.TheVariants.{Free, Claimed, Held, Hog}
use Rattle.gl_desc.specs.declared.desc.LineFault.{LineFault}
use Rattle.gl_desc.specs.declared.desc.LineFault.TheVariants.{BadOffset, Busy}

-- a line at first: nobody has it, and it has no name
abbrev pub first_desc : Desc
first_desc = record { name = []; holder = Free; consumer = [] }

-- the line at an offset
abbrev pub desc_at : List Desc → ℕ → Desc
desc_at descs offset = slice_index_or descs offset first_desc

-- nobody has the line
abbrev pub is_free : Holder → Bool
is_free Free = true
is_free (Claimed fd) = false
is_free (Held fd) = false
is_free Hog = false

-- an offset stands earlier in a request than at position i
abbrev pub stands_earlier : List ℕ → ℕ → Bool
stands_earlier offsets i = list_any (λ offset. offset == slice_index offsets i) (take i offsets)

-- what is wrong with the line at position i of a request, first case first: it isn't there; somebody has it; it stands
-- earlier in the request, which counts as held
abbrev pub line_fault : List Desc → List ℕ → ℕ → Option LineFault
line_fault descs offsets i = first_of
    (when (nat_le (length descs) (slice_index offsets i)) BadOffset
    ∷ when (not (is_free (desc_at descs (slice_index offsets i)).holder)) Busy
    ∷ when (stands_earlier offsets i) Busy
    ∷ [])

-- what is wrong with the first faulty line of a request, if one is
abbrev pub claim_fault : List Desc → Lines → Option LineFault
claim_fault descs lines = first_fault (line_fault descs lines.offsets) 0 lines.count

-- the line, claimed by the request of this number
abbrev pub claimed : ℕ → List ℕ → Desc → Desc
claimed fd consumer line = record line { holder = Claimed fd; consumer = consumer }

-- a claim becomes a hold
abbrev pub settled_holder : Holder → Holder
settled_holder Free = Free
settled_holder (Claimed fd) = Held fd
settled_holder (Held fd) = Held fd
settled_holder Hog = Hog

-- the line, held by the request that claimed it
abbrev pub settled : Desc → Desc
settled line = record line { holder = settled_holder line.holder }

-- the line, which nobody has any more
abbrev pub freed : Desc → Desc
freed line = record line { holder = Free; consumer = [] }

-- the line with another name
abbrev pub named : List ℕ → Desc → Desc
named name line = record line { name = name }

-- the line, held by the board itself
abbrev pub hogged : List ℕ → Desc → Desc
hogged consumer line = record line { holder = Hog; consumer = consumer }
