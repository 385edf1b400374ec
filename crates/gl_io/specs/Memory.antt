-- What contracts see of a source and of a sink in memory. This project's choice.
use Rattle.std.specs.Prelude.{ℕ, List, ◌==◌, Bool, min, length, ◌-◌, drop, take, ◌++◌}
use Rattle.std.specs.List.{list_any}
use Rattle.gl_base.specs.Count.{counted_up}

-- a source in memory: the bytes left, how many one call moves at most, which calls fail, and the calls and faults so far
pub record MemorySource : Type 0 where
  pub left : List ℕ
  pub piece : ℕ
  pub fails : List ℕ
  pub calls : ℕ
  pub faults : ℕ

-- a sink in memory: the bytes held and how many it has room for, and the rest as for a source
pub record MemorySink : Type 0 where
  pub held : List ℕ
  pub room : ℕ
  pub piece : ℕ
  pub fails : List ℕ
  pub calls : ℕ
  pub faults : ℕ

-- whether the call of this number is to fail
abbrev pub is_to_fail : List ℕ → ℕ → Bool
is_to_fail fails call = list_any (λ number. number == call) fails

-- how many bytes a call moves into a buffer of this length
abbrev pub take_count : MemorySource → ℕ → ℕ
take_count source len = min (min len source.piece) (length source.left)

-- the source after a call that moved so many bytes
abbrev pub after_take : MemorySource → ℕ → MemorySource
after_take source count = record source { left = drop count source.left; calls = counted_up source.calls }

-- the source after a call that failed
abbrev pub after_failed_take : MemorySource → MemorySource
after_failed_take source = record source { calls = counted_up source.calls; faults = counted_up source.faults }

-- how many bytes of a piece of this length a call appends
abbrev pub put_count : MemorySink → ℕ → ℕ
put_count sink len = min (min len sink.piece) (sink.room - length sink.held)

-- the sink after a call that appended the first bytes of a piece
abbrev pub after_put : MemorySink → List ℕ → ℕ → MemorySink
after_put sink bytes count = record sink { held = sink.held ++ take count bytes; calls = counted_up sink.calls }

-- the sink after a call that failed
abbrev pub after_failed_put : MemorySink → MemorySink
after_failed_put sink = record sink { calls = counted_up sink.calls; faults = counted_up sink.faults }
