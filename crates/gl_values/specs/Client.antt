-- The four tools as one client.
use Rattle.std.specs.Prelude.{ℕ, ◌+◌, Bool, true, false, None}
use Rattle.gl_args.specs.Options.{SaidTool, SaidDetect, SaidInfo, SaidGet, SaidSet}
use Rattle.gl_client.specs.Program.{Program, done, then_by, Left, goes_on, then_left}
use Rattle.gl_values.specs.declared.client.Client.{Client}
use Rattle.gl_values.specs.declared.client.Client.TheVariants.{Detect, Info, Get, Set, Nothing}
use Rattle.gl_values.specs.declared.set.Hold.TheVariants.{No, Yes}
use Rattle.gl_values.specs.Detect.{detects, left}
use Rattle.gl_values.specs.Get.{gets, get_left}
use Rattle.gl_values.specs.Info.{infos, info_left}
use Rattle.gl_values.specs.Set.{Held, sets, set_left, held_of}
use Rattle.gl_values.specs.Set.{has_ended as set_has_ended}

-- a tool that holds nothing at its end
abbrev pub holding_nothing : Program (Unit {0}) → Program Held
holding_nothing p = then_by p (λ _. done None)

-- What a tool does as a statement, by its words, with the slots `base` and `base + 1`. It leaves nothing open. The monitors
-- are no statements of their own.
abbrev pub tool_program : SaidTool → ℕ → Program Held
tool_program (SaidDetect words) base = holding_nothing (detects base words)
tool_program (SaidInfo opts) base = holding_nothing (infos base opts)
tool_program (SaidGet opts) base = holding_nothing (gets base (base + 1) opts)
tool_program (SaidSet opts) base = sets No base (base + 1) opts
tool_program _ base = done None

-- What a gpioset that is started does: it gives the slot of the request that it holds, or nothing where it met a refusal.
abbrev pub held_program : SaidTool → ℕ → Program Held
held_program (SaidSet opts) base = sets Yes base (base + 1) opts
held_program _ base = done None

abbrev pub nothing_held : Left (Unit {0}) → Left Held
nothing_held l = then_left l (λ _. done None)

-- what is left to a client
abbrev pub client_left : Client → Left Held
client_left (Detect d) = nothing_held (left d)
client_left (Info i) = nothing_held (info_left i)
client_left (Get g) = nothing_held (get_left g)
client_left (Set s) = set_left s
client_left Nothing = goes_on (done None)

-- a client has ended; nothing is left then of one that holds nothing
abbrev pub has_ended : Client → Bool
has_ended (Set s) = set_has_ended s.stage
has_ended Nothing = true
has_ended _ = false

-- the slot of the request that a client holds, if it holds one
abbrev pub held_by : Client → Held
held_by (Set s) = held_of s
held_by _ = None
