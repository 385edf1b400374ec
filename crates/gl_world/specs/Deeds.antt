-- What an actor did, as a history alone tells it: the actor's entries, each with the bytes that the machine wrote there.
use Rattle.std.specs.Prelude.{◌≡◌, ℕ, ◌==◌, cond, List, [], ◌∷◌, ◌++◌}
use Rattle.gl_world.specs.declared.machine.Machine.{Ghosts}
use Rattle.gl_world.specs.declared.history.Entry.{Entry}
use Rattle.gl_world.specs.History.{StartsWith, entries_of, fold, Legal}

-- an entry, and what the machine wrote at it
pub record Deed (M C R G : Type 0) : Type 0 where
  pub entry : Entry M C R G
  pub bytes : List ℕ

module _ {M C R G : Type 0} where
  abbrev pub entries_in : List (Deed M C R G) → List (Entry M C R G)
  entries_in [] = []
  entries_in (deed ∷ deeds) = deed.entry ∷ entries_in deeds

module _ {M C R G : Type 0} (m : Ghosts M C R G) where
  -- the deed of an entry that is made in a world
  abbrev pub deed_in : m.World → Entry M C R G → Deed M C R G
  deed_in w e = record { entry = e; bytes = m.bytes_of w e.actor e.call }

  -- an actor's deeds among entries that are made from a world on
  abbrev pub deeds_from : m.World → ℕ → List (Entry M C R G) → List (Deed M C R G)
  deeds_from w actor [] = []
  deeds_from w actor (e ∷ es) =
      cond (e.actor == actor) (deed_in w e ∷ deeds_from (m.world_after w e.actor e.call) actor es) (deeds_from (m.world_after w e.actor e.call) actor es)

  -- an actor's deeds in a history
  abbrev pub deeds_of : ℕ → List (Entry M C R G) → List (Deed M C R G)
  deeds_of actor history = deeds_from m.opening actor history

  -- the deed's entry stands in the history, with the machine's reply and bytes in the world of the entries before it
  pub record StandsIn (actor : ℕ) (history : List (Entry M C R G)) (deed : Deed M C R G) : Type 0 where
    pub before : List (Entry M C R G)
    pub behind : List (Entry M C R G)
    pub at : history ≡ before ++ deed.entry ∷ behind
    pub by_actor : deed.entry.actor ≡ actor
    pub reply : deed.entry.reply ≡ m.reply_of (fold m before) actor deed.entry.call
    pub bytes : deed.bytes ≡ m.bytes_of (fold m before) actor deed.entry.call

  -- each deed of a legal history stands in it
  abbrev pub DeedsStand : Type 0
  DeedsStand = (actor : ℕ) (history : List (Entry M C R G)) → Legal m history → (earlier later : List (Deed M C R G)) (deed : Deed M C R G)
      → deeds_of actor history ≡ earlier ++ deed ∷ later → StandsIn actor history deed

  -- a history has the deeds of a beginning of it, where it has no further entry of the actor
  abbrev pub DeedsStay : Type 0
  DeedsStay = (actor : ℕ) (history seen : List (Entry M C R G)) → StartsWith history seen → entries_of actor history ≡ entries_of actor seen
      → deeds_of actor history ≡ deeds_of actor seen
