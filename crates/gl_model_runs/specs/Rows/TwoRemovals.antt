-- An actor may begin the removal of a second chip before the first has ended: no rule of the machine forbids it.
use Rattle.std.specs.Prelude.{List, [], ◌∷◌, codes, true, false}
use Rattle.gl_base.specs.declared.kind.Kind.TheVariants.{Simulated}
use Rattle.gl_model.specs.declared.call.Call.TheVariants.{Probe, Unplug}
use Rattle.gl_model.specs.declared.reply.Reply.TheVariants.{Done, Number}
use Rattle.gl_model_runs.specs.Rows.Structures.{by}
use Rattle.gl_model_runs.specs.Run.{Answer, Made, says, shows}

-- two chips; actor 1 begins to remove both, and then ends both removals
unfoldable pub run : List Made
run =
    by 0 (Probe (codes "demo") 1 Simulated)
    ∷ by 0 (Probe (codes "demo") 1 Simulated)
    ∷ by 1 (Unplug 0 false)
    ∷ by 1 (Unplug 1 false)
    ∷ by 1 (Unplug 0 true)
    ∷ by 1 (Unplug 1 true)
    ∷ []

unfoldable pub given : List Answer
given = says (Number 0) ∷ says (Number 1) ∷ shows (0 ∷ 1 ∷ []) ∷ shows (1 ∷ 1 ∷ []) ∷ says Done ∷ says Done ∷ []
