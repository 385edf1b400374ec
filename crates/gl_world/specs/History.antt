-- Histories of a machine: lists of entries, and the worlds after them.
use Rattle.std.specs.Prelude.{◌≡◌, ℕ, ◌+◌, ◌-◌, ◌<◌, ◌≤◌, ◌==◌, cond, Some, List, [], ◌∷◌, ◌++◌}
use Rattle.gl_world.specs.declared.machine.Machine.{Ghosts}
use Rattle.gl_world.specs.declared.history.Entry.{Entry}
use Rattle.gl_world.specs.Ranks.{rank}

-- the whole list begins with what was seen
abbrev pub StartsWith : {A : Type 0} → List A → List A → Type 0
StartsWith {A} whole seen = (rest : List A) × (whole ≡ seen ++ rest)

-- M C R G: the machine, its calls, its replies and its gifts
module _ {M C R G : Type 0} where
  abbrev pub entry : ℕ → C → R → Entry M C R G
  entry actor call reply = record { actor = actor; call = call; reply = reply }

  -- the entries of one actor, in order
  abbrev pub entries_of : ℕ → List (Entry M C R G) → List (Entry M C R G)
  entries_of actor [] = []
  entries_of actor (e ∷ es) = cond (e.actor == actor) (e ∷ entries_of actor es) (entries_of actor es)

module _ {M C R G : Type 0} (m : Ghosts M C R G) where
  -- the world after the calls of a history, from w
  abbrev pub fold_from : m.World → List (Entry M C R G) → m.World
  fold_from w [] = w
  fold_from w (e ∷ es) = fold_from (m.world_after w e.actor e.call) es

  -- the world after a whole history
  abbrev pub fold : List (Entry M C R G) → m.World
  fold es = fold_from m.opening es

  -- the phase of a place, as a number
  abbrev pub stage : m.World → ℕ → ℕ
  stage w place = rank (m.phase_of w place)

  -- each call is in range, and each reply is the machine's in the world of the entries before it
  abbrev pub AnsweredFrom : m.World → List (Entry M C R G) → Type 0
  AnsweredFrom w [] = Unit {0}
  AnsweredFrom w (e ∷ es) = (e.reply ≡ m.reply_of w e.actor e.call) × m.FitsCall e.call × AnsweredFrom (m.world_after w e.actor e.call) es

  -- each guarded call finds its place not Gone, and each refused one finds its place Leaving or Gone
  abbrev pub PlacedFrom : m.World → List (Entry M C R G) → Type 0
  PlacedFrom w [] = Unit {0}
  PlacedFrom w (e ∷ es) = ((p : ℕ) → m.place_of e.call ≡ Some p → stage w p < 3) × ((p : ℕ) → m.refused_at e.call ≡ Some p → 2 ≤ stage w p) × PlacedFrom (m.world_after w e.actor e.call) es

  abbrev pub Answered : List (Entry M C R G) → Type 0
  Answered es = AnsweredFrom m.opening es

  abbrev pub Placed : List (Entry M C R G) → Type 0
  Placed es = PlacedFrom m.opening es

  -- a history that the machine can have: each entry is answered as the machine answers there, and finds its place as it has to
  abbrev pub Legal : List (Entry M C R G) → Type 0
  Legal es = Answered es × Placed es

  -- the entries that begin
  abbrev pub begun_in : List (Entry M C R G) → ℕ
  begun_in [] = 0
  begun_in (e ∷ es) = cond (m.begins e.call e.reply) 1 0 + begun_in es

  -- the entries that end
  abbrev pub ended_in : List (Entry M C R G) → ℕ
  ended_in [] = 0
  ended_in (e ∷ es) = cond (m.ends e.call) 1 0 + ended_in es

  -- the second entries that are owed after these
  abbrev pub owed : List (Entry M C R G) → ℕ
  owed es = begun_in es - ended_in es
