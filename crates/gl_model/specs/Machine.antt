-- The machine: all that the trait of machines asks of one, over worlds. A legal history, the world after one, and what the
-- laws say are those of every machine.
use Rattle.std.specs.Prelude.{◌≡◌, ℕ, true, false, List, Option}
use Rattle.gl_world.specs.Events.{CanAllHappen, Event, after_all, beginning}
use Rattle.gl_world.specs.History.{Legal, fold}
use Rattle.gl_world.specs.declared.history.Entry.{Entry}
use Rattle.gl_world.specs.declared.machine.Machine.{Ghosts}
use Rattle.gl_model.specs.declared.call.Call.{Call}
use Rattle.gl_model.specs.declared.gift.Gift.{Gift}
use Rattle.gl_model.specs.declared.reply.Reply.{Reply}
use Rattle.gl_model.specs.Chips.{phase_at}
use Rattle.gl_model.specs.Entries.{awaited_call, begins, begun_places, ends, guarded_place, is_last_removal, last_call, refused_place}
use Rattle.gl_model.specs.Fits.{Fits, FitsCall, Leaves}
use Rattle.gl_model.specs.Places.{origin_at}
use Rattle.gl_model.specs.Sound.{IsSound}
use Rattle.gl_model.specs.Step.{step}
use Rattle.gl_model.specs.World.{World, opening}

abbrev pub world_after : World → ℕ → Call → World
world_after w actor call = (step w actor call).world

abbrev pub reply_of : World → ℕ → Call → Reply
reply_of w actor call = (step w actor call).reply

abbrev pub bytes_of : World → ℕ → Call → List ℕ
bytes_of w actor call = (step w actor call).bytes

-- the actor that removes the chip of a place
abbrev pub remover_of : World → ℕ → Option ℕ
remover_of w place = (origin_at w place).remover

-- the laws that every machine has and that speak of its calls alone: what fits is in range, and no call that ends begins
pub record CallLaws : Type 0 where
  pub fits_calls : (call : Call) (gift : Gift) (out : List ℕ) → Fits call gift out → FitsCall call
  pub ends_not_begins : (call : Call) (reply : Reply) → ends call ≡ true → begins call reply ≡ false

module _ {K : Type 0} (stands_for : K → World → Type 0) where
  -- the machine, over what is kept of its worlds
  abbrev pub machine : Ghosts K Call Reply Gift
  machine = record {
    World = World;
    opening = opening;
    stands_for = stands_for;
    Sound = IsSound;
    world_after = world_after;
    reply_of = reply_of;
    bytes_of = bytes_of;
    FitsCall = FitsCall;
    Fits = Fits;
    Leaves = Leaves;
    begins = begins;
    ends = ends;
    place_of = guarded_place;
    refused_at = refused_place;
    phase_of = phase_at;
    remover_of = remover_of;
    is_last_removal = is_last_removal;
    begun_places = begun_places;
    last_call = last_call;
    awaited_call = awaited_call;
  }

  -- a history that the machine can have
  abbrev pub IsLegal : List (Entry K Call Reply Gift) → Type 0
  IsLegal history = Legal machine history

  -- the world after a history
  abbrev pub world_of : List (Entry K Call Reply Gift) → World
  world_of history = fold machine history

  -- it is true of every legal history, and so of the history that any list of events leads to
  pub record Always (P : List (Entry K Call Reply Gift) → Type 0) : Type 0 where
    pub behind_a_history : (history : List (Entry K Call Reply Gift)) → IsLegal history → P history
    pub whatever_happens : (events : List (Event Call)) → CanAllHappen machine (beginning machine) events → P (after_all machine (beginning machine) events).history
