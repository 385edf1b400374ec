-- Which calls take memory before they are made.
use Rattle.std.specs.Prelude.{◌≡◌, ℕ, true, List, take, None}
use Rattle.gl_uapi.specs.Command.{command_of}
use Rattle.gl_uapi.specs.declared.layout.TheConstants.{LINE_REQUEST_SIZE}
use Rattle.gl_model.specs.declared.call.Call.{Call}
use Rattle.gl_model.specs.declared.call.Call.TheVariants.{OpenChip, Ioctl}
use Rattle.gl_model.specs.declared.call.Part.{Part}
use Rattle.gl_model.specs.declared.call.Part.TheVariants.{Whole, Ask, Tell}
use Rattle.gl_model.specs.AskedLines.{request_fault}
use Rattle.gl_model.specs.Entries.{is_get_line}

-- Of a command the ask of GET_LINE alone takes memory, and only where its bytes alone don't have it refused.
abbrev pub PartTakesMemory : ℕ → List ℕ → Part → Type 0
PartTakesMemory cmd bytes Whole = ⊥
PartTakesMemory cmd bytes Ask = (is_get_line (command_of cmd) ≡ true) × (request_fault (take LINE_REQUEST_SIZE bytes) ≡ None)
PartTakesMemory cmd bytes (Tell answer) = ⊥

-- An open takes the queue of its file, and a request of lines its ring and what its bytes ask for. No other call takes memory.
abbrev pub CallTakesMemory : Call → Type 0
CallTakesMemory (OpenChip word) = Unit {0}
CallTakesMemory (Ioctl place fd cmd len bytes part) = PartTakesMemory cmd bytes part
CallTakesMemory _ = ⊥
