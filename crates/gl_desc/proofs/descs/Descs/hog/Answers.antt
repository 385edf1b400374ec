use Rattle.std.proofs.Common.{rules, ◌≡◌, List, sym, subst}
use Rattle.gl_base.specs.Positions.{change_at}
use Rattle.gl_desc.specs.Desc.{first_desc, hogged}
use Rattle.gl_desc.specs.Names.{NamesEndBy}
use Rattle.gl_desc.specs.declared.desc.Desc.{Desc}
use Rattle.gl_desc.proofs.Names.{names_hogged, written}
use Rattle.gl_desc.proofs.descs.Descs.hog.Goals as goal

pub invariant_of-self : goal.invariant_of-self
invariant_of-self c =
    let is : c.hog.new.descs ≡ change_at first_desc c.args.offset (hogged c.args.consumer) c.self.inside.lines.items = search rules in
    (c.self.invariant.0, written c.self.inside.lines.len c.self.inside.lines.items c.hog.new.descs (c.self.inside.names_end) (search rules) (search rules) (subst (λ (l : List Desc). NamesEndBy l (c.self.inside.names_end)) (sym is) (names_hogged c.args.consumer c.args.offset c.self.inside.lines.items c.self.inside.names_end c.self.invariant.1)))
