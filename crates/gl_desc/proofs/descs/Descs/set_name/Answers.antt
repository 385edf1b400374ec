use Rattle.std.proofs.Common.{rules, ◌≡◌, ℕ, List, sym, subst}
use Rattle.gl_base.specs.Positions.{change_at}
use Rattle.gl_desc.specs.Desc.{first_desc, named}
use Rattle.gl_desc.specs.Names.{NamesEndBy}
use Rattle.gl_desc.specs.declared.desc.Desc.{Desc}
use Rattle.gl_desc.proofs.Names.{names_more, written}
use Rattle.gl_desc.proofs.descs.Descs.set_name.Goals as goal

pub invariant_of-self : goal.invariant_of-self
invariant_of-self c =
    let is : c.set_name.new.descs ≡ change_at first_desc c.args.offset (named c.args.name) c.self.inside.lines.items = search rules in
    (c.self.invariant.0, written c.self.inside.lines.len c.self.inside.lines.items c.set_name.new.descs (c.max-self-inside.result) (search rules) (search rules) (subst (λ (l : List Desc). NamesEndBy l (c.max-self-inside.result)) (sym is) (subst (λ (n : ℕ). NamesEndBy (change_at first_desc c.args.offset (named c.args.name) c.self.inside.lines.items) n) (sym c.max-self-inside.ensures) (names_more c.args.name c.args.offset c.self.inside.lines.items c.self.inside.names_end c.self.invariant.1))))
