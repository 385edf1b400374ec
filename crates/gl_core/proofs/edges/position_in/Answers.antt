use Rattle.std.proofs.Common.{◌≡◌, ℕ, true, Option, Some, List, refl, sym, ap, ◌∙◌, subst}
use Rattle.std.specs.Prelude.{nat_eq, position}
use Rattle.std.specs.List.{list_any, position_or_len}
use Rattle.std.specs.Option.{IsSome}
use Rattle.gl_base.specs.Lines.{offsets_of}
use Rattle.gl_core.proofs.NotedEdges.{position_found}
use Rattle.gl_core.proofs.edges.position_in.Goals as goal

-- the line is found where it stands
found : (result : Option ℕ) (offset : ℕ) (offsets all : List ℕ) → result ≡ position (nat_eq offset) offsets → offsets ≡ all → list_any (nat_eq offset) all ≡ true
    → result ≡ Some (position_or_len (nat_eq offset) all)
found result offset offsets all is same some = is ∙ ap (position (nat_eq offset)) same ∙ position_found (nat_eq offset) all some

pub unwrap-requires : goal.unwrap-requires
unwrap-requires c =
    subst (λ (o : Option ℕ). IsSome o) (sym (found c.position_of-position.result c.args.offset c.offsets.result.now (offsets_of c.args.lines.now) c.position_of-position.ensures c.offsets.ensures c.requires.there)) refl

pub returns-clause-position : goal.returns-clause-position
returns-clause-position c =
    let here : Some c.unwrap.result ≡ Some (position_or_len (nat_eq c.args.offset) (offsets_of c.args.lines.now)) =
    sym c.unwrap.ensures ∙ found c.position_of-position.result c.args.offset c.offsets.result.now (offsets_of c.args.lines.now) c.position_of-position.ensures c.offsets.ensures c.requires.there in
    cc
