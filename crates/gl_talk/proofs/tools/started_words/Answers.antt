use Rattle.std.proofs.Common.{◌<◌, ℕ, List, length, sym, subst, arith}
use Rattle.gl_script.specs.Columns.{columns}
use Rattle.gl_talk.proofs.Copies.{third_there}
use Rattle.gl_talk.proofs.tools.started_words.Goals as goal

pub behind_two-rest-requires : goal.behind_two-rest-requires
behind_two-rest-requires c =
    let there = third_there c.args.line.now c.requires in
    subst (λ (line : List ℕ). 1 < length (columns line)) (sym c.deref.ensures.value) (omega (arith, there.0))
