-- What an actor removes, as its own entries tell it.
use Rattle.std.specs.Prelude.{◌≡◌, ℕ, false, Some, List, [], ◌∷◌, ◌++◌, ◌⊎◌, Contains}
use Rattle.gl_world.specs.declared.machine.Machine.{Ghosts}
use Rattle.gl_world.specs.declared.history.Entry.{Entry}
use Rattle.gl_world.specs.History.{entry, entries_of, fold, stage, Answered}
use Rattle.gl_world.specs.Ranks.{IsGone, IsLeaving}

module _ {M C R G : Type 0} (m : Ghosts M C R G) where
  -- the place is Leaving, and this actor removes it
  abbrev pub Removes : m.World → ℕ → ℕ → Type 0
  Removes w actor place = IsLeaving (stage m w place) × (m.remover_of w place ≡ Some actor)

  -- An actor had seen a history. Others made the entries between, and then it made a call of its own.
  module _ (actor : ℕ) (seen between : List (Entry M C R G)) (call : C) (reply : R) where
    abbrev pub before_call : m.World
    before_call = fold m (seen ++ between)

    abbrev pub after_call : m.World
    after_call = m.world_after before_call actor call

    -- the places whose removal the call begins
    abbrev pub places_begun : List ℕ
    places_begun = m.begun_places call reply (m.bytes_of before_call actor call)

    pub record RemovalsGoOn : Type 0 where
      -- the entries of others change nothing of what the actor removes
      pub still : (p : ℕ) → Removes (fold m seen) actor p → Removes before_call actor p
      pub nothing_new : (p : ℕ) → Removes before_call actor p → Removes (fold m seen) actor p
      pub awaits_still : (p : ℕ) → Removes (fold m seen) actor p → m.awaited_call before_call p ≡ m.awaited_call (fold m seen) p
      -- its own call begins the removals that it names, and no other
      pub begins : (p : ℕ) → Contains places_begun p → Removes after_call actor p
      pub begins_only : (p : ℕ) → Removes after_call actor p → Removes before_call actor p ⊎ Contains places_begun p
      pub awaits_last : (p : ℕ) → Contains places_begun p → m.awaited_call after_call p ≡ m.last_call call
      -- a call that ends no removal keeps them
      pub goes_on : (p : ℕ) → m.is_last_removal call ≡ false → Removes before_call actor p → Removes after_call actor p
      pub awaits_on : (p : ℕ) → m.is_last_removal call ≡ false → Removes before_call actor p → m.awaited_call after_call p ≡ m.awaited_call before_call p
      -- the call that ends a removal makes its places Gone
      pub ends : (p : ℕ) → Removes before_call actor p → m.awaited_call before_call p ≡ call → IsGone (stage m after_call p)

  -- the places that an actor removes are known from its own entries
  abbrev pub OwnRemovals : Type 0
  OwnRemovals = (actor : ℕ) (seen between : List (Entry M C R G)) (call : C) (reply : R)
      → Answered m ((seen ++ between) ++ entry actor call reply ∷ []) → entries_of actor between ≡ []
      → RemovalsGoOn actor seen between call reply

  -- who made no entry removes nothing
  abbrev pub StrangersRemoveNothing : Type 0
  StrangersRemoveNothing = (actor : ℕ) (history : List (Entry M C R G)) (p : ℕ) → Answered m history → entries_of actor history ≡ []
      → Removes (fold m history) actor p → ⊥

  -- an entry that begins no removal, and whose call is the last one of none
  abbrev pub IsQuiet : Entry M C R G → Type 0
  IsQuiet e = ((bytes : List ℕ) → m.begun_places e.call e.reply bytes ≡ []) × (m.is_last_removal e.call ≡ false)

  abbrev pub AllQuiet : List (Entry M C R G) → Type 0
  AllQuiet [] = Unit {0}
  AllQuiet (e ∷ es) = IsQuiet e × AllQuiet es

  -- what an actor removes stays as it is while its own entries are quiet
  abbrev pub QuietEntriesKeepRemovals : Type 0
  QuietEntriesKeepRemovals = (actor : ℕ) (seen later : List (Entry M C R G)) → Answered m (seen ++ later) → AllQuiet (entries_of actor later) → (p : ℕ)
      → (Removes (fold m seen) actor p → Removes (fold m (seen ++ later)) actor p) × (Removes (fold m (seen ++ later)) actor p → Removes (fold m seen) actor p)
