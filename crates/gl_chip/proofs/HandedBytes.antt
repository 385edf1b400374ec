-- The bytes of commands on open files.
use Rattle.std.proofs.Common.{◌≡◌, ℕ, ◌<◌, Bool, List, refl, sym, subst}
use Rattle.gl_base.specs.declared.limits.TheConstants.{PLACES}
use Rattle.gl_model.specs.declared.device_call.CommandIn.{CommandIn}
use Rattle.gl_model.specs.declared.gift.Gift.{Gift}
use Rattle.gl_model.specs.Fits.{Fits}
use Rattle.gl_model.specs.Parts.{in_whole}
use Rattle.gl_asking.proofs.HandedBytes.{handed_fits, handed_start}
use Rattle.gl_asking.specs.Handed.{command_in}

-- a command with its buffer may be made
pub command_fits : (c : CommandIn) (buffer : List ℕ) (gift : Gift) → c.place < PLACES → c ≡ command_in c.place c.fd c.of_chip c.cmd buffer → Fits (in_whole c) gift buffer
command_fits c buffer gift below is = subst (λ (x : CommandIn). Fits (in_whole x) gift buffer) (sym is) record { fits_call = (below, handed_fits buffer); brings = tt; buffer_fits = (refl, handed_start buffer) }

-- what is the command of a buffer is that of its own parts
pub handed_back : (c : CommandIn) (place fd : ℕ) (of_chip : Bool) (cmd : ℕ) (buffer : List ℕ) → c ≡ command_in place fd of_chip cmd buffer → c ≡ command_in c.place c.fd c.of_chip c.cmd buffer
handed_back c place fd of_chip cmd buffer is = subst (λ (x : CommandIn). x ≡ command_in x.place x.fd x.of_chip x.cmd buffer) (sym is) refl
