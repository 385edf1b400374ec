use Rattle.std.proofs.Common.{◌≡◌, ℕ, ◌+◌, ◌-◌, ◌<◌, List, Option, drop, length, refl, sym, ap, ◌∙◌, subst, arith}
use Rattle.gl_simtree.specs.declared.node.Directory.TheVariants.{Line, Hog}
use Rattle.gl_simtree.specs.BankRows.{AreFound}
use Rattle.gl_simtree.proofs.BankRows.{found_more, found_none, is_line, is_of_hog, is_of_line}
use Rattle.gl_simtree.proofs.bank_rows.BankRows.of.Goals as goal

pub loop-at-init : goal.loop-at-init
loop-at-init c = (
  found_none (Line c.args.device.now c.args.bank.now) c.args.rows.now _ refl,
  found_none (Hog c.args.device.now c.args.bank.now) c.args.rows.now _ refl,
  refl,
  refl,
)

pub loop-at-preserved : goal.loop-at-preserved
loop-at-preserved c =
    let device : List ℕ = c.args.device.now in
    let bank : List ℕ = c.args.bank.now in
    let rows = c.args.rows.now in
    let next = c.loop-at.at in
    let at = next - 1 in
    let within : at < length rows = omega (arith, c.loop-at-test.true, c.loop-at.auto.at) in
    let behind : next ≡ at + 1 = omega (arith, c.loop-at-test.true) in (
      subst (λ (found : List (Option ℕ)). AreFound (Line device bank) rows (drop at rows) found) (sym c.note.ensures)
          (found_more (Line device bank) rows at next c.index-rows-at.result c.line_in.result c.loop-at.lines within behind c.index-rows-at.is
          (λ line. is_of_line device bank line c.index-rows-at.result ∙ ap (is_line line) (sym c.line_in.ensures)) c.loop-at.invariant.2 c.loop-at.invariant.0),
      subst (λ (found : List (Option ℕ)). AreFound (Hog device bank) rows (drop at rows) found) (sym c.note-in-loop-at.ensures)
          (found_more (Hog device bank) rows at next c.index-rows-at-in-loop-at.result c.hog_in.result c.loop-at.hogs within behind c.index-rows-at-in-loop-at.is
          (λ line. is_of_hog device bank line c.index-rows-at-in-loop-at.result ∙ ap (is_line line) (sym c.hog_in.ensures)) c.loop-at.invariant.3 c.loop-at.invariant.1),
      c.note.array_long,
      c.note-in-loop-at.array_long,
    )
