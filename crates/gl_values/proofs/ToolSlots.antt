-- The request that a gpioset holds has the slot of its own.
use Rattle.std.proofs.Common.{◌≡◌, ◌+◌, ℕ, Bool, true, List, Option, None, Some}
use Rattle.gl_base.specs.declared.errno.Errno.{Errno}
use Rattle.gl_base.specs.Operation.{refusal}
use Rattle.gl_args.specs.declared.names.ToolName.TheVariants.{Set as SetName}
use Rattle.gl_client.specs.Gives.{Gives}
use Rattle.gl_args.specs.Options.{SaidTool, SaidDetect, SaidInfo, SaidGet, SaidSet, SaidWatch, SaidNotify}
use Rattle.gl_client.proofs.Costs.{gives_any}
use Rattle.gl_lines.specs.declared.found_line.FoundLine.{FoundLine}
use Rattle.gl_lines.specs.Finding.{finds}
use Rattle.gl_values.specs.Client.{held_program}
use Rattle.gl_lines.specs.OwnSlots.{SlotPasses}
use Rattle.gl_values.specs.Set.{Held, behind, closed, stops}
use Rattle.gl_values.specs.declared.set.Hold.TheVariants.{Yes}

module _ (test : ℕ → Bool) where
  closed_slots : (r : Option Errno) → Gives (SlotPasses test) (closed r)
  closed_slots (Some errno) = tt
  closed_slots None = tt

  behind_slots : (made : ℕ) → test made ≡ true → (o : Option (List FoundLine)) → Gives (SlotPasses test) (behind Yes made o)
  behind_slots made h None = tt
  behind_slots made h (Some found) = h

  pub held_slots : (tool : SaidTool) (base : ℕ) → test (base + 1) ≡ true → Gives (SlotPasses test) (held_program tool base)
  held_slots (SaidDetect words) base h = tt
  held_slots (SaidInfo opts) base h = tt
  held_slots (SaidGet opts) base h = tt
  held_slots (SaidSet opts) base h = gives_any (SlotPasses test) (finds SetName base (base + 1) opts) (behind Yes (base + 1)) (behind_slots (base + 1) h)
  held_slots (SaidWatch opts) base h = tt
  held_slots (SaidNotify opts) base h = tt

  pub stopped_slots : (held : Held) → Gives (SlotPasses test) (stops held)
  stopped_slots None = tt
  stopped_slots (Some slot) = λ got. closed_slots (refusal got)
