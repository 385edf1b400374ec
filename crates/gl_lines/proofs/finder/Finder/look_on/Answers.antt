use Rattle.std.proofs.Common.{◌≡◌, [], drop}
use Rattle.std.proofs.lemmas.List.{drop_all}
use Rattle.gl_lines.proofs.finder.Finder.look_on.Goals as goal

pub returns-in-None-clause-goes : goal.returns-in-None-clause-goes
returns-in-None-clause-goes c =
    let t = c.args.self.now in
    let none_left : drop c.in_ok-at.at t.opts.lines.items ≡ [] = drop_all c.in_ok-at.at t.opts.lines.items c.in-None.ensures in
    rw (← c.in_ok-at.ensures.looks t.tool t.base t.made, none_left) c.all_found.ensures.goes
