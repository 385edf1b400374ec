use Rattle.std.proofs.Common.{rules, ◌≡◌, List, sym, subst}
use Rattle.gl_base.specs.Positions.{change_each}
use Rattle.gl_base.specs.Lines.{offsets_of}
use Rattle.gl_desc.specs.Desc.{first_desc, freed}
use Rattle.gl_desc.specs.Names.{NamesEndBy}
use Rattle.gl_desc.specs.declared.desc.Desc.{Desc}
use Rattle.gl_desc.proofs.Names.{names_freed, written}
use Rattle.gl_desc.proofs.descs.Descs.free.Goals as goal

pub invariant_of-self : goal.invariant_of-self
invariant_of-self c =
    let is : c.free_each.new.descs ≡ change_each first_desc (offsets_of c.args.lines.now) freed c.self.inside.lines.items = search rules in
    (c.self.invariant.0, written c.self.inside.lines.len c.self.inside.lines.items c.free_each.new.descs (c.self.inside.names_end) (search rules) (search rules) (subst (λ (l : List Desc). NamesEndBy l (c.self.inside.names_end)) (sym is) (names_freed (offsets_of c.args.lines.now) c.self.inside.lines.items c.self.inside.names_end c.self.invariant.1)))
