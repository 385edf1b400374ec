-- Once there is a chip at each place, one more finds none.
use Rattle.std.specs.Prelude.{List, [], ◌∷◌, ◌++◌, codes, map}
use Rattle.gl_base.specs.declared.limits.TheConstants.{PLACES}
use Rattle.gl_base.specs.declared.errno.Errno.TheVariants.{NoSpc}
use Rattle.gl_base.specs.declared.kind.Kind.TheVariants.{Simulated}
use Rattle.gl_base.specs.Positions.{table_from}
use Rattle.gl_model.specs.declared.call.Call.TheVariants.{Probe}
use Rattle.gl_model.specs.declared.reply.Reply.TheVariants.{Number, Refused}
use Rattle.gl_model_runs.specs.Rows.Structures.{by}
use Rattle.gl_model_runs.specs.Run.{Answer, Made, says}

-- a chip of four lines, and then one of one line for each place
unfoldable pub run : List Made
run =
    by 0 (Probe (codes "demo") 4 Simulated)
    ∷ map (λ place. by 0 (Probe (codes "x") 1 Simulated)) (table_from (λ place. place) 1 PLACES)

-- a place for each but the last one, and no place for the last one
unfoldable pub given : List Answer
given = map (λ place. says (Number place)) (table_from (λ place. place) 0 PLACES) ++ says (Refused NoSpc) ∷ []
