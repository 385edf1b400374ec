-- When an entry of a history is legal, and where a history stops being legal. Legal histories are those of the machine.
use Rattle.std.specs.Prelude.{◌≡◌, ℕ, false, ◌<◌, ◌+◌, List, length, take, Option, Some, None, IfSome}
use Rattle.gl_world.specs.Ranks.{IsClosing, IsNotGone, rank}
use Rattle.gl_world.specs.declared.history.Entry.{Entry}
use Rattle.gl_model.specs.declared.call.Call.{Call}
use Rattle.gl_model.specs.declared.call.Call.TheVariants.{Unplug, Remove, Ioctl, ReadEdges, ReadInfo}
use Rattle.gl_model.specs.declared.gift.Gift.{Gift}
use Rattle.gl_model.specs.declared.reply.Reply.{Reply}
use Rattle.gl_model.specs.Chips.{phase_at}
use Rattle.gl_model.specs.Entries.{guarded_place, refused_place}
use Rattle.gl_model.specs.Fits.{FitsCall}
use Rattle.gl_model.specs.Machine.{IsLegal, reply_of}
use Rattle.gl_model.specs.World.{World}

-- a call finds its place as it has to: one that needs a guard finds it not Gone, and one that was refused at a closed guard finds
-- it Leaving or Gone
pub record FindsPlace (w : World) (call : Call) : Type 0 where
  pub guarded : IfSome (guarded_place call) (λ p. IsNotGone (rank (phase_at w p)))
  pub refused : IfSome (refused_place call) (λ p. IsClosing (rank (phase_at w p)))

-- an entry that a world's history can go on with: its call is in range and finds its place as it has to, and its reply is the
-- step's
pub record GoesOn (w : World) (actor : ℕ) (call : Call) (reply : Reply) : Type 0 where
  pub fits : FitsCall call
  pub finds : FindsPlace w call
  pub replied : reply ≡ reply_of w actor call

module _ {K : Type 0} (stands_for : K → World → Type 0) where
  -- a history stops being legal at its n-th entry, counted from 0: the entries before it are legal, and with it they aren't
  pub record StopsAt (history : List (Entry K Call Reply Gift)) (n : ℕ) : Type 0 where
    pub within : n < length history
    pub legal_before : IsLegal stands_for (take n history)
    pub not_with_it : IsLegal stands_for (take (n + 1) history) → ⊥

  -- the first bad entry of a history: there is none where it is legal
  abbrev pub IsFirstBad : List (Entry K Call Reply Gift) → Option ℕ → Type 0
  IsFirstBad history None = IsLegal stands_for history
  IsFirstBad history (Some n) = StopsAt history n

-- how many bytes the buffer of a call has
abbrev pub buffer_size : Call → ℕ
buffer_size (Unplug place false) = 2
buffer_size (Remove device false) = 2
buffer_size (Ioctl place fd cmd len bytes part) = len
buffer_size (ReadEdges place fd len) = len
buffer_size (ReadInfo place fd len) = len
buffer_size _ = 0
