-- What contracts see of the device and of its actors.
use Rattle.std.specs.Prelude.{◌≡◌, ℕ, List, Option}
use Rattle.gl_world.specs.History.{StartsWith}
use Rattle.gl_rule.specs.declared.view.View.{View}
use Rattle.gl_gate.specs.Values.{GateValue, PassValue, IsPassOf}
use Rattle.gl_gate.specs.Calls.{KnowsAsMuch}
use Rattle.gl_gate.specs.Grown.{IsFree}
use Rattle.gl_base.specs.declared.op.Op.{Op}
use Rattle.gl_driver.specs.declared.map.Map.{Map}
use Rattle.gl_driver.specs.Told.{Told}
use Rattle.gl_model.specs.declared.call.Call.{Call}
use Rattle.gl_model.specs.declared.gift.Gift.{Gift}
use Rattle.gl_model.specs.declared.reply.Reply.{Reply}
use Rattle.gl_model.specs.Calling.{AreOfCalls}
use Rattle.gl_core.specs.Device.{MayOwn, OneDeed, OneEntry, core}
use Rattle.gl_core.specs.Kept.{Kept, StandsFor}

-- what a pass of its gate knows
abbrev pub OneView : Type 0
OneView = View Kept Call Reply Gift

-- an actor: its pass, and the port through which it asks the driver
pub record ActorValue (P : Type 0) : Type 0 where
  pub pass : PassValue Kept Call Reply Gift
  pub port : P

-- the actor is one of this device
abbrev pub IsActorOf : {P : Type 0} → GateValue → ActorValue P → Type 0
IsActorOf gate actor = IsPassOf gate actor.pass

-- The same actor after a call: it has made and taken in no other actor, what it has seen has grown, and it knows of places what it
-- knew, and perhaps more.
pub record IsSameActor (v w : OneView) : Type 0 where
  pub number : w.number ≡ v.number
  pub room : w.room ≡ v.room
  pub made : w.made ≡ v.made
  pub joined : w.joined ≡ v.joined
  pub seen : StartsWith w.seen v.seen
  pub knows_as_much : KnowsAsMuch v w

-- An actor between two calls: it is inside no place, owes no second entry, and removes nothing; and its entries are those of
-- whole calls of the device, one after another.
pub record IsIdle (v : OneView) : Type 0 where
  pub free : IsFree core v
  pub whole_calls : AreOfCalls StandsFor v.number v.mine

-- the entries of its own that a driver may make: of the map by which it goes at the place, the operation, and the entries
abbrev pub OwnRelation : Type 1
OwnRelation = Option Map → Op → List OneEntry → Type 0

-- the answer of a driver that follows: of that map, what the port told before, the operation, what the actor did in the call, its room, how
-- many entries it had seen at the end, and the answer
abbrev pub FollowsRelation : Type 1
FollowsRelation = Option Map → Option Told → Op → List OneDeed → ℕ → ℕ → Option ℕ → Type 0

-- all own entries of a driver are such
abbrev pub IsQuietDriver : OwnRelation → Type 0
IsQuietDriver Own = (map : Option Map) (op : Op) (own : List OneEntry) → Own map op own → MayOwn own
