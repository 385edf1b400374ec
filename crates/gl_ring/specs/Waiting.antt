-- What waits in a ring: items in order, and how many there may be. A full ring drops its oldest item, after
-- the kernel's GPIO character device.
use Rattle.std.specs.Prelude.{ℕ, ◌∷◌, ◌++◌, [], ◌+◌, ◌-◌, nat_lt, if◌then◌else◌, List, length, take, drop, min, max, slice_get, Option, None}
use Rattle.circular_buffer.specs.Buffer.{Buffer, buffer, keep_last}

-- All that has come to a ring, in order, and how many of the first no longer wait.
pub record Past (X : Type 0) : Type 0 where
  pub all : List X
  pub next : ℕ

module _ {X : Type 0} where
  -- with one item more: the last of them that there is room for
  abbrev pub pushed : X → Buffer X → Buffer X
  pushed x ring = buffer (keep_last ring.capacity (ring.items ++ x ∷ [])) ring.capacity

  -- what a push drops: the oldest item of a full ring
  abbrev pub dropped : Buffer X → Option X
  dropped ring = if nat_lt (length ring.items) ring.capacity then None else slice_get ring.items 0

  -- how many items a read with room for so many takes
  abbrev pub taken_count : ℕ → Buffer X → ℕ
  taken_count max ring = min max (length ring.items)

  -- the items that it takes: the first ones
  abbrev pub taken : ℕ → Buffer X → List X
  taken max ring = take (taken_count max ring) ring.items

  -- and what it leaves
  abbrev pub left : ℕ → Buffer X → Buffer X
  left max ring = buffer (drop (taken_count max ring) ring.items) ring.capacity

  -- what waits of all that has come: what stands behind the first `next`
  abbrev pub waiting : Past X → List X
  waiting past = drop past.next past.all

  -- One item more has come. Of more than there is room for, the first no longer wait.
  abbrev pub with_item : ℕ → X → Past X → Past X
  with_item capacity x past = record { all = past.all ++ x ∷ []; next = max past.next (length past.all + 1 - capacity) }

  -- a read with room for so many items has taken the first that wait
  abbrev pub read_by : ℕ → Past X → Past X
  read_by max past = record { all = past.all; next = past.next + min max (length (waiting past)) }
