use Rattle.std.proofs.Common.{◌≡◌, subst, arith}
use Rattle.gl_trace.specs.Typed.{IsTyped}
use Rattle.gl_trace.proofs.HistoryLines.{has_text}
use Rattle.gl_trace.proofs.history.entry_at.Goals as goal

pub returns-else-at-index-clause-told : goal.returns-else-at-index-clause-told
returns-else-at-index-clause-told c =
    let same : c.in-Some.at ≡ c.args.index = omega arith in
    (subst (λ n. IsTyped n c.in-Some.entry) same c.fits_entry.ensures, has_text c.args.line.now c.in-Some.at c.in-Some.entry c.in-Some.ensures)
