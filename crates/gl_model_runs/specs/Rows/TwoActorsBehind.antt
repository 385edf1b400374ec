-- Actor 1 asks a chip for its information while actor 2 removes it: the call comes behind the closing of the guard.
use Rattle.std.specs.Prelude.{List, [], ◌∷◌, codes, true, false}
use Rattle.gl_base.specs.declared.errno.Errno.TheVariants.{NoDev}
use Rattle.gl_base.specs.declared.kind.Kind.TheVariants.{Simulated}
use Rattle.gl_model.specs.declared.call.Call.TheVariants.{Close, OpenChip, Probe, Refused as RefusedCall, Unplug}
use Rattle.gl_model.specs.declared.reply.Reply.TheVariants.{Done, Number, Refused}
use Rattle.gl_model_runs.specs.Rows.Structures.{by}
use Rattle.gl_model_runs.specs.Run.{Answer, Made, says, shows}

unfoldable pub run : List Made
run =
    by 0 (Probe (codes "demo") 1 Simulated)
    ∷ by 1 (OpenChip (codes "0"))
    ∷ by 2 (Unplug 0 false)
    ∷ by 1 (RefusedCall 0 false)
    ∷ by 1 (Close 3)
    ∷ by 2 (Unplug 0 true)
    ∷ []

unfoldable pub given : List Answer
given =
    says (Number 0)
    ∷ says (Number 3)
    ∷ shows (0 ∷ 1 ∷ [])
    ∷ says (Refused NoDev)
    ∷ says Done
    ∷ says Done
    ∷ []
