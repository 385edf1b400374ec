-- The first of what is due.
use Rattle.std.proofs.Common.{Bool, true, false, cond, ◌≡◌, List, [], ◌∷◌, Option, Some, None, refl}
use Rattle.std.specs.List.{slice_get}
use Rattle.gl_base.specs.Ordered.{put_in_order}
use Rattle.gl_debounce.specs.declared.timer.Fired.{Fired}
use Rattle.gl_debounce.specs.Fire.{comes_before}

-- the earlier of two lines
abbrev pub earlier_of : Fired → Option Fired → Option Fired
earlier_of line None = Some line
earlier_of line (Some other) = cond (comes_before line other) (Some line) (Some other)

pub put_first : (line : Fired) (others : List Fired) → slice_get (put_in_order comes_before line others) 0 ≡ earlier_of line (slice_get others 0)
put_first line [] = refl
put_first line (other ∷ others) = by_test (comes_before line other)
  where
    by_test : (b : Bool) → slice_get (cond b (line ∷ other ∷ others) (other ∷ put_in_order comes_before line others)) 0 ≡ cond b (Some line) (Some other)
    by_test true = refl
    by_test false = refl
