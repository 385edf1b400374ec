-- What an aggregator over a planned driver does at a place with a map for an actor that is alone: one list of entries, with one answer. This project's
-- choice.
use Rattle.std.specs.Prelude.{◌≡◌, ◌<◌, ℕ, Bool, true, List, [], ◌∷◌, Option, Some}
use Rattle.gl_base.specs.declared.op.Op.{Op}
use Rattle.gl_core.specs.Device.{OneDeed, core}
use Rattle.gl_driver.specs.Told.{Told}
use Rattle.gl_driver.specs.declared.map.Map.{Map}
use Rattle.gl_model.specs.World.{World}
use Rattle.gl_world.specs.Deeds.{Deed, deed_in, entries_in}
use Rattle.gl_world.specs.History.{entry, stage}
use Rattle.gl_world.specs.Ranks.{IsGone, IsNotGone}
use Rattle.gl_world.specs.declared.machine.Machine.{Ghosts}
use Rattle.gl_aggregator.specs.Aggregating.{FollowsAt, OwnAt}

module _ {M C R G : Type 0} (m : Ghosts M C R G) where
  -- the deed of the first actor's call in a world
  abbrev pub first_deed : m.World → C → Deed M C R G
  first_deed w call = deed_in m w (entry 0 call (m.reply_of w 0 call))

  -- The call was let in where its place isn't gone, and where it was refused at its guard, the place is. A single actor is never between the two
  -- entries of a removal.
  pub record IsAtGuard (w : m.World) (call : C) : Type 0 where
    pub let_in : (place : ℕ) → m.place_of call ≡ Some place → IsNotGone (stage m w place)
    pub refused : (place : ℕ) → m.refused_at call ≡ Some place → IsGone (stage m w place)

  -- the first actor did this from a world on, and nobody else did anything meanwhile
  abbrev pub DidAlone : m.World → List (Deed M C R G) → Type 0
  DidAlone w [] = Unit {0}
  DidAlone w (d ∷ did) = (d ≡ first_deed w d.entry.call) × IsAtGuard w d.entry.call × DidAlone (m.world_after w 0 d.entry.call) did

module _ (Follows : Option Told → Op → List OneDeed → ℕ → ℕ → Option ℕ → Type 0) (w : World) (map : Map) (op : Op) (t : Told) (room : ℕ) where
  -- What an aggregator may do in one call for the first actor, which is alone from this world on, and what it may answer then, through a port that told
  -- this. The history had room for all of it.
  pub record DoesAlone (did : List OneDeed) (answer : Option ℕ) : Type 0 where
    pub alone : DidAlone core w did
    pub own : OwnAt (Some map) op (entries_in did)
    pub seen : ℕ
    pub within : seen < room
    pub follows : FollowsAt Follows (Some map) (Some t) op did room seen answer

-- over a planned driver this is one thing only
abbrev pub DoesOneThing : Bool → (Option Told → Op → List OneDeed → ℕ → ℕ → Option ℕ → Type 0) → Type 0
DoesOneThing is_planned Follows = is_planned ≡ true → (w : World) (map : Map) (op : Op) (t : Told) (room : ℕ) (did other : List OneDeed) (answer another : Option ℕ)
    → DoesAlone Follows w map op t room did answer → DoesAlone Follows w map op t room other another → (did ≡ other) × (answer ≡ another)
