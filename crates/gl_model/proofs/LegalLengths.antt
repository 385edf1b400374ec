-- Behind a legal history of calls with names, the reply of each call in range tells how many bytes it has written.
use Rattle.std.proofs.Common.{List, [], ◌∷◌, ◌≡◌, ℕ, length}
use Rattle.gl_world.specs.History.{fold_from, AnsweredFrom}
use Rattle.gl_world.specs.declared.history.Entry.{Entry}
use Rattle.gl_model.specs.declared.call.Call.{Call}
use Rattle.gl_model.specs.declared.call.Call.TheVariants.{Probe, Unplug, MakeDir, RemoveDir, Write, Read, Live, Remove, Tick, Pin, Irq, Pull, Level, Interrupt, OpenChip, Find, Ioctl, ReadEdges, ReadInfo, PollLine, PollChip, Close, Refused as RefusedCall}
use Rattle.gl_model.specs.declared.gift.Gift.{Gift}
use Rattle.gl_model.specs.declared.reply.Reply.{Reply}
use Rattle.gl_model.specs.Fits.{FitsCall}
use Rattle.gl_model.specs.Machine.{machine, world_of, IsLegal}
use Rattle.gl_model.specs.Names.{HasAllNames, HasNames}
use Rattle.gl_model.specs.Step.{step}
use Rattle.gl_model.specs.World.{World, opening}
use Rattle.gl_model.specs.Written.{LengthsRestOn, HasNamedChanges, LegalRepliesTellLengths, bytes_written}
use Rattle.gl_model.proofs.NamedChanges.{changes_keep_names}
use Rattle.gl_model.proofs.Names.{names_stay, names_stay_behind}
use Rattle.gl_model.proofs.Written.{replies_tell_lengths}
use Rattle.gl_model.proofs.MachineLaws.{always}

-- a call in range has all that lengths rest on
structures_fit : (w : World) (call : Call) → HasNames w → HasNamedChanges w → FitsCall call → LengthsRestOn w call
structures_fit w (Ioctl place fd cmd len bytes part) names changes fits = (names, fits.0, fits.1.whole)
structures_fit w (ReadInfo place fd len) names changes fits = changes
structures_fit w (Probe label lines kind) names changes fits = tt
structures_fit w (Unplug place last) names changes fits = tt
structures_fit w (MakeDir path) names changes fits = tt
structures_fit w (RemoveDir path) names changes fits = tt
structures_fit w (Write path value) names changes fits = tt
structures_fit w (Read path) names changes fits = tt
structures_fit w (Live device) names changes fits = tt
structures_fit w (Remove device last) names changes fits = tt
structures_fit w (Tick mono real) names changes fits = tt
structures_fit w (Pin place what) names changes fits = tt
structures_fit w (Irq place offset what) names changes fits = tt
structures_fit w (Pull place offset up) names changes fits = tt
structures_fit w (Level place offset pull) names changes fits = tt
structures_fit w (Interrupt place offset up) names changes fits = tt
structures_fit w (OpenChip word) names changes fits = tt
structures_fit w (Find place name) names changes fits = tt
structures_fit w (ReadEdges place fd len) names changes fits = tt
structures_fit w (PollLine place fd) names changes fits = tt
structures_fit w (PollChip place fd) names changes fits = tt
structures_fit w (Close fd) names changes fits = tt
structures_fit w (RefusedCall place poll) names changes fits = tt

module _ {K : Type 0} (stands_for : K → World → Type 0) where
  changes_stay : (w : World) (history : List (Entry K Call Reply Gift)) → HasAllNames w → HasNamedChanges w → AnsweredFrom (machine stands_for) w history → HasNamedChanges (fold_from (machine stands_for) w history)
  changes_stay w [] names changes h = changes
  changes_stay w (e ∷ history) names changes h =
      changes_stay (step w e.actor e.call).world history (names_stay.stay w e.actor e.call names h.1) (changes_keep_names.kept w (names_stay.shown w names) changes e.actor e.call) h.2

  changes_behind : (history : List (Entry K Call Reply Gift)) → IsLegal stands_for history → HasNamedChanges (world_of stands_for history)
  changes_behind history legal = changes_stay opening history names_stay.opens changes_keep_names.at_first legal.0

  lengths_behind : (history : List (Entry K Call Reply Gift)) → IsLegal stands_for history → (actor : ℕ) (call : Call) → FitsCall call
      → let out = step (world_of stands_for history) actor call in length out.bytes ≡ bytes_written call out.reply
  lengths_behind history legal actor call fits =
      let w : World = world_of stands_for history in
      replies_tell_lengths w actor call (structures_fit w call (names_stay.shown w (names_stay_behind stands_for opening history names_stay.opens legal.0)) (changes_behind history legal) fits)

  pub legal_replies_tell_lengths : LegalRepliesTellLengths stands_for
  legal_replies_tell_lengths = record {
    changes = always stands_for (λ history. HasNamedChanges (world_of stands_for history)) changes_behind;
    lengths = always stands_for
        (λ history. (actor : ℕ) (call : Call) → FitsCall call → let out = step (world_of stands_for history) actor call in length out.bytes ≡ bytes_written call out.reply) lengths_behind;
  }
