use Rattle.std.proofs.Common.{ℕ, false, true, ◌≡◌, ◌-◌, ◌∙◌, List, Some, None, ap, arith, ltb, sym}
use Rattle.std.specs.Option.{option_or}
use Rattle.std.proofs.lemmas.Bool.{le-ltb}
use Rattle.gl_base.specs.Positions.{first_fault}
use Rattle.gl_base.proofs.AtPositions.{first_fault_here, first_fault_more}
use Rattle.gl_uapi.specs.Fields.{is_zero_at}
use Rattle.gl_attrs.specs.ConfigFault.{line_fault}
use Rattle.gl_attrs.specs.Setting.{num_attrs}
use Rattle.gl_attrs.proofs.Filling.{lines_decide}
use Rattle.gl_attrs.proofs.resolving.resolve.Goals as goal

pub loop-i-init : goal.loop-i-init
loop-i-init c =
    let all : c.args.lines - 0 ≡ c.args.lines = omega arith in
    ap (first_fault (line_fault c.args.config) 0) all

pub loop-i-preserved : goal.loop-i-preserved
loop-i-preserved c =
    sym (first_fault_more (line_fault c.args.config) c.loop-i.i c.args.lines c.loop-i-test.true (sym c.line_fault.ensures ∙ c.in_default.is)) ∙ c.loop-i.invariant

pub returns-in-Some-clause-refused : goal.returns-in-Some-clause-refused
returns-in-Some-clause-refused c =
    let config : List ℕ = c.args.config in
    let few : ltb 10 (num_attrs config) ≡ false = ap (ltb 10) (sym c.num_attrs.ensures) ∙ le-ltb 10 c.num_attrs.result c.if-num_attrs-gt-ATTRIBUTES_MAX.false in
    let zero : is_zero_at 12 20 config ≡ true = sym c.padding_is_zero.ensures ∙ c.if-not-padding_is_zero.false in
    let found : first_fault (line_fault config) c.loop-i.i (c.args.lines - c.loop-i.i) ≡ Some c.in-Some.errno =
    first_fault_here (line_fault config) c.loop-i.i c.args.lines c.in-Some.errno c.loop-i-test.true (sym c.line_fault.ensures ∙ c.in-Some.is) in
    lines_decide config c.args.lines few zero ∙ ap (λ o. option_or o None) (sym c.loop-i.invariant ∙ found)
