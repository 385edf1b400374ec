-- Actor 1 asks a chip for its information while actor 2 removes it: the call comes before the guard is closed.
use Rattle.std.specs.Prelude.{List, [], ◌∷◌, ◌++◌, codes, true, false}
use Rattle.gl_base.specs.declared.kind.Kind.TheVariants.{Simulated}
use Rattle.gl_uapi.specs.Fields.{number_bytes, zeros}
use Rattle.gl_uapi.specs.declared.commands.Command.TheVariants.{ChipInfo}
use Rattle.gl_model.specs.declared.call.Call.TheVariants.{Close, OpenChip, Probe, Unplug}
use Rattle.gl_model.specs.declared.call.Part.TheVariants.{Whole}
use Rattle.gl_model.specs.declared.reply.Reply.TheVariants.{Done, Number}
use Rattle.gl_model_runs.specs.Rows.Structures.{by, ioctl}
use Rattle.gl_model_runs.specs.Run.{Answer, Made, says, shows}

unfoldable pub run : List Made
run =
    by 0 (Probe (codes "demo") 1 Simulated)
    ∷ by 1 (OpenChip (codes "0"))
    ∷ by 2 (Unplug 0 false)
    ∷ by 1 (ioctl 0 3 ChipInfo (zeros 68) Whole)
    ∷ by 1 (Close 3)
    ∷ by 2 (Unplug 0 true)
    ∷ []

unfoldable pub given : List Answer
given =
    says (Number 0)
    ∷ says (Number 3)
    ∷ shows (0 ∷ 1 ∷ [])
    ∷ shows (codes "gpiochip0" ++ zeros 23 ++ codes "demo" ++ zeros 28 ++ number_bytes 4 1)
    ∷ says Done
    ∷ says Done
    ∷ []
