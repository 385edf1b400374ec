use Rattle.std.proofs.Common.{◌≡◌, ◌+◌, ◌-◌, ℕ, true, false, cond, suc, List, length, map, Some, ap, sym, ◌∙◌, arith, rules}
use Rattle.std.proofs.lemmas.List.{length-map}
use Rattle.gl_asking.specs.Files.{OpenFile}
use Rattle.gl_asking.specs.Rows.{row_file}
use Rattle.gl_served.specs.Slots.{first_free, is_taken}
use Rattle.gl_served.proofs.slots.first_free.Goals as goal

pub loop-pair-init : goal.loop-pair-init
loop-pair-init c = λ count is.
    let all : suc (length (map row_file c.args.rows.now)) ≡ count = omega (arith, is) in
    ap (λ (n : ℕ). first_free n 0 (map row_file c.args.rows.now)) all

pub loop-pair-preserved : goal.loop-pair-preserved
loop-pair-preserved c = λ count is.
    let files : List OpenFile = map row_file c.args.rows.now in
    let taken : is_taken c.loop-pair.pair files ≡ true = search rules in
    c.loop-pair.invariant (suc count) (omega (arith, is)) ∙ ap (λ b. cond b (first_free count (c.loop-pair.pair + 1) files) (Some c.loop-pair.pair)) taken

pub returns-then-not-is_taken : goal.returns-then-not-is_taken
returns-then-not-is_taken c =
    let files : List OpenFile = map row_file c.args.rows.now in
    let free : is_taken c.loop-pair.pair files ≡ false = search rules in
    let left : ℕ = length files - c.loop-pair.pair in
    let whole : c.loop-pair.pair + suc left ≡ suc (length files) = omega (arith, length-map c.args.rows.now row_file) in
    sym (c.loop-pair.invariant (suc left) whole ∙ ap (λ b. cond b (first_free left (c.loop-pair.pair + 1) files) (Some c.loop-pair.pair)) free)

pub returns : goal.returns
returns c =
    let whole : c.loop-pair.pair + 0 ≡ suc (length (map row_file c.args.rows.now)) = omega (arith, length-map c.args.rows.now row_file) in
    sym (c.loop-pair.invariant 0 whole)
