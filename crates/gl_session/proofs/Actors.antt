-- Actors of a session by their numbers, and the maps of their ports.
use Rattle.std.proofs.Common.{◌≡◌, ℕ, ◌+◌, ◌<◌, ◌≤◌, false, List, [], ◌∷◌, length, Option, ap, refl, subst, arith}
use mathlib.Core.Logic.{dite}
use native.Mathlib.Decide.{ℕ_discrete}
use Rattle.gl_driver.specs.Told.{Told}
use Rattle.gl_script.specs.Cost.{has_aggregate, session_cost}
use Rattle.gl_script.specs.Section.{SaidSection}
use Rattle.gl_core.specs.Device.{OneEntry}
use Rattle.gl_check.specs.Drivers.{DriverOver}
use Rattle.gl_check.specs.Joining.{Maps}
use Rattle.gl_check.specs.Many.{ActorPlayedBelow, ActorsPlayed, ActorsPlayedBelow, AllPlayed, AllPlayedBelow, Texts}
use Rattle.gl_session.proofs.NoChips.{asks_none, turns_stay}
use Rattle.gl_session.proofs.Seen.{seen_more}

module _ (driver : DriverOver) (before left : ℕ → Option Told) (sections : List SaidSection) (history : List OneEntry) (most : ℕ) where
  -- the actor of a number
  pub actor_at : (m : Maps) (k : ℕ) (texts : List (List ℕ)) → ActorsPlayedBelow driver before left sections history most m k texts → (n : ℕ) → k ≤ n → n < k + length texts
      → (text : List ℕ) × ActorPlayedBelow driver before left sections history most m n text
  actor_at m k [] h n low high = absurd (omega arith)
  actor_at m k (text ∷ texts) h n low high = dite (ℕ_discrete k n)
      (λ same. (text, subst (λ j. ActorPlayedBelow driver before left sections history most m j text) same h.0))
      (λ other. let ne : (k ≡ n → ⊥) = other in actor_at m (k + 1) texts h.1 n (above k n low ne) (omega arith))
    where
      above : (k n : ℕ) → k ≤ n → (k ≡ n → ⊥) → k + 1 ≤ n
      above k n low ne = omega arith

  module _ (less : most ≤ session_cost sections) where
    actors_within : (m : Maps) (n : ℕ) (texts : List (List ℕ)) → ActorsPlayedBelow driver before left sections history most m n texts → ActorsPlayed driver before left sections history m n texts
    actors_within m n [] h = tt
    actors_within m n (text ∷ texts) h = (
      record {
        names = h.0.names;
        behind = h.0.behind;
        played = h.0.played;
        within = seen_more (session_cost sections) most (session_cost sections) h.0.played.turns less h.0.within;
        left_is = h.0.left_is;
      },
      actors_within m (n + 1) texts h.1,
    )

    -- there was room for all, where the history has no more than this many; the same maps are left
    pub all_within : (texts : Texts) (h : AllPlayedBelow driver before left sections history most texts) → (all : AllPlayed driver before left sections history texts) × (all.behind.maps ≡ h.behind.maps)
    all_within texts h = (
      record {
        legal = h.legal;
        first = h.first;
        middle = h.middle;
        last = h.last;
        is = h.is;
        others_not_first = h.others_not_first;
        zero_not_between = h.zero_not_between;
        others_not_last = h.others_not_last;
        names = h.names;
        waiting = h.waiting;
        setup = h.setup;
        setup_within = seen_more (session_cost sections) most (session_cost sections) h.setup.turns less h.setup_within;
        end = h.end;
        behind = h.behind;
        after = h.after;
        after_within = seen_more (session_cost sections) most (session_cost sections) h.after.turns less h.after_within;
        left_is = h.left_is;
        actors = actors_within h.waiting.maps 1 texts.actors h.actors;
        as_many = h.as_many;
        nobody_else = h.nobody_else;
      },
      refl,
    )

  -- in a session without `aggregate` no port has a map behind `setup`
  pub none_waiting : (texts : Texts) (h : AllPlayedBelow driver before left sections history most texts) → has_aggregate sections ≡ false → h.waiting.maps.kept ≡ []
  none_waiting texts h without = ap (λ (m : Maps). m.kept) (turns_stay driver.kind 0 _ _ h.setup.turns _ h.waiting (asks_none sections without).setup h.setup.follows).1
