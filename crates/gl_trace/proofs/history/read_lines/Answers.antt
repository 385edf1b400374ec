use Rattle.std.proofs.Common.{◌≡◌, ◌+◌, ◌<◌, ◌≤◌, [], ◌∷◌, ◌++◌, length, ap, sym, ◌∙◌, arith, rules}
use Rattle.std.proofs.lemmas.Grind.{common_steps}
use Rattle.gl_trace.specs.HistoryRead.{Broken}
use Rattle.gl_trace.proofs.HistoryLines.{ends, ends_badly, goes_on, stops, told_more}
use Rattle.gl_trace.proofs.history.read_lines.Goals as goal

pub returns-in-None-clause-fault : goal.returns-in-None-clause-fault
returns-in-None-clause-fault c =
    let here : c.from.result ≡ c.loop-index.index = search rules in
    let there : c.loop-index.index < c.args.count = omega arith in
    stops c.args.line c.args.count c.args.text.now c.loop-index.index c.loop-index.entries.items c.loop-index.rest.now c.loop-index.invariant.so_far there c.in-None.ensures.entry
    ∙ ap (λ n. Broken (c.args.line + n)) (sym here)

pub loop-index-preserved : goal.loop-index-preserved
loop-index-preserved c =
    let pushed : c.push.new.self.items ≡ c.loop-index.entries.items ++ c.in-Some.entry ∷ [] = search rules in
    let many : length c.push.new.self.items ≡ c.loop-index.index + 1 = grind (arith, common_steps) in
    record {
      so_far = goes_on c.args.line c.args.count c.args.text.now c.loop-index.index c.loop-index.entries.items c.push.new.self.items c.loop-index.rest.now c.in-Some.after.now c.in-Some.entry c.loop-index.invariant.so_far c.in-Some.ensures.entry pushed;
      many = many;
      told = told_more c.loop-index.index c.loop-index.entries.items c.push.new.self.items c.in-Some.entry c.loop-index.invariant.told c.loop-index.invariant.many c.in-Some.ensures.told.0 c.in-Some.ensures.told.1 pushed;
    }

pub returns-then-is_end-clause-ok : goal.returns-then-is_end-clause-ok
returns-then-is_end-clause-ok c =
    let within : c.loop-index.index ≤ c.args.count = omega arith in
    let past : c.args.count ≤ c.loop-index.index = omega arith in
    ends c.args.line c.args.count c.args.text.now c.loop-index.index c.loop-index.entries.items c.loop-index.rest.now c.is_end.result c.loop-index.invariant.so_far within past c.is_end.ensures c.if-is_end.true

pub returns-else-is_end-clause-fault : goal.returns-else-is_end-clause-fault
returns-else-is_end-clause-fault c =
    let here : c.from-else-is_end.result ≡ c.args.count = search rules in
    let within : c.loop-index.index ≤ c.args.count = omega arith in
    let past : c.args.count ≤ c.loop-index.index = omega arith in
    ends_badly c.args.line c.args.count c.args.text.now c.loop-index.index c.loop-index.entries.items c.loop-index.rest.now c.is_end.result c.loop-index.invariant.so_far within past c.is_end.ensures c.if-is_end.false
    ∙ ap (λ n. Broken (c.args.line + n)) (sym here)
