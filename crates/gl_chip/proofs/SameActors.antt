-- A call leaves an actor the same.
use Rattle.std.proofs.Common.{ℕ, List, Option, None, Some, Result, Ok, Err, IfOk, IfErr, refl}
use Rattle.std.proofs.lemmas.List.{append-nil}
use Rattle.std.proofs.Common.{[], sym}
use Rattle.gl_gate.specs.Calls.{KnowsAsMuch, KnowsTheSame, SamePass}
use Rattle.gl_gate.specs.Grown.{Grew}
use Rattle.gl_chip.specs.Calling.{KnowsBy}
use Rattle.gl_chip.specs.Values.{IsSameActor, OneView}
use Rattle.gl_core.specs.Device.{OneDeed, core}

pub same_grown : (v w : OneView) (did : List OneDeed) → Grew core v did w → KnowsAsMuch v w → IsSameActor v w
same_grown v w did grew knows = record { number = grew.number; room = grew.room; made = grew.made; joined = grew.joined; seen = grew.seen; knows_as_much = knows }

-- who did nothing
pub same_actor : (v : OneView) → IsSameActor v v
same_actor v = record { number = refl; room = refl; made = refl; joined = refl; seen = ([], sym (append-nil v.seen)); knows_as_much = record { closed = λ p h. h; drained = λ p h. h } }

-- what follows of a result, whichever it is
pub either : {X E : Type 0} (r : Result X E) (P : X → Type 0) (Q : E → Type 0) (Y : Type 0) → IfOk r P → IfErr r Q → ((x : X) → P x → Y) → ((e : E) → Q e → Y) → Y
either (Ok x) P Q Y ok err f g = f x ok
either (Err e) P Q Y ok err f g = g e err

-- who knows of places what it knew
pub knows_still : (v w : OneView) → SamePass v w → KnowsTheSame v w
knows_still v w same = record { closed = same.closed; drained = same.drained }

pub knows_itself : (v : OneView) → KnowsTheSame v v
knows_itself v = record { closed = refl; drained = refl }

-- who made no call, whichever guard it needs
pub knows_by_itself : (guard : Option ℕ) (v : OneView) → KnowsBy guard v v
knows_by_itself None v = knows_itself v
knows_by_itself (Some place) v = tt
