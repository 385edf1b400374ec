use Rattle.std.proofs.Common.{◌≡◌, List, ℕ, ◌∷◌, Option, None, Some, MatchOption, sym, ◌∙◌, ap, subst}
use Rattle.std.specs.Option.{option_copied}
use Rattle.gl_base.specs.Words.{pieces, pieces_left}
use Rattle.gl_session.specs.Verdict.{Parts, header_of, parts_by}
use Rattle.gl_session.proofs.Headers.{header_alone, header_split}
use Rattle.gl_session.proofs.judging.header_of.Goals as goal

pub returns-in-Some : goal.returns-in-Some
returns-in-Some c =
    let line : List ℕ = c.split_first.result.0.now in
    let split : pieces 10 c.args.input.now ≡ line ∷ pieces 10 c.in-Some.rest.now = c.split_first.ensures.pieces ∙ ap (λ o. line ∷ pieces_left 10 (option_copied o)) c.in-Some.is in
    let same : header_of c.args.input.now ≡ parts_by c.length_told.result c.in-Some.rest.now =
    header_split c.args.input.now line c.in-Some.rest.now split ∙ ap (λ o. parts_by o c.in-Some.rest.now) (sym c.length_told.ensures) in
    subst (λ (o : Option Parts). MatchOption c.parts_of.result (o ≡ None) (λ parts. o ≡ Some (record { session = parts.0.now; output = parts.1.now }))) (sym same) c.parts_of.ensures

pub returns-in-None : goal.returns-in-None
returns-in-None c =
    header_alone c.args.input.now c.split_first.result.0.now (c.split_first.ensures.pieces ∙ ap (λ o. c.split_first.result.0.now ∷ pieces_left 10 (option_copied o)) c.in-None.is)
