-- The machine of every device: what its histories are made of, and the answers of a driver that their entries tell.
use Rattle.std.specs.Prelude.{◌≡◌, false, ℕ, List, [], ◌∷◌, ◌++◌, Option}
use Rattle.gl_base.specs.Rows.{Each}
use Rattle.gl_world.specs.declared.machine.Machine.{Ghosts}
use Rattle.gl_world.specs.declared.history.Entry.{Entry}
use Rattle.gl_world.specs.Deeds.{Deed}
use Rattle.gl_world.specs.Removal.{AllQuiet}
use Rattle.gl_model.specs.declared.call.Call.{Call}
use Rattle.gl_model.specs.declared.call.Call.TheVariants.{Ioctl}
use Rattle.gl_model.specs.declared.call.Part.{Part}
use Rattle.gl_model.specs.declared.call.Part.TheVariants.{Whole, Ask, Tell}
use Rattle.gl_model.specs.declared.gift.Gift.{Gift}
use Rattle.gl_model.specs.declared.reply.Reply.{Reply}
use Rattle.gl_model.specs.Entries.{is_get_line_call}
use Rattle.gl_model.specs.Machine.{machine}
use Rattle.gl_core.specs.Kept.{Kept, StandsFor}

-- the machine of every device
abbrev pub core : Ghosts Kept Call Reply Gift
core = machine StandsFor

-- an entry of its history, and what an actor did there
abbrev pub OneEntry : Type 0
OneEntry = Entry Kept Call Reply Gift

abbrev pub OneDeed : Type 0
OneDeed = Deed Kept Call Reply Gift

-- what the last deed wrote
abbrev pub last_bytes : List OneDeed → List ℕ
last_bytes [] = []
last_bytes (d ∷ []) = d.bytes
last_bytes (d ∷ next ∷ later) = last_bytes (next ∷ later)

-- the answer of the driver that a call tells, if it tells one
abbrev pub part_tells : Part → List (Option ℕ)
part_tells Whole = []
part_tells Ask = []
part_tells (Tell answer) = answer ∷ []

abbrev pub call_tells : Call → List (Option ℕ)
call_tells (Ioctl place fd cmd len bytes part) = part_tells part
call_tells _ = []

-- the answers that entries tell, in order
abbrev pub tells_in : List OneEntry → List (Option ℕ)
tells_in [] = []
tells_in (e ∷ es) = call_tells e.call ++ tells_in es

-- entries that a driver may make of its own: they begin no removal, end none, and none of them is a GET_LINE
pub record MayOwn (own : List OneEntry) : Type 0 where
  pub quiet : AllQuiet core own
  pub no_claims : Each (λ (e : OneEntry). is_get_line_call e.call ≡ false) own
