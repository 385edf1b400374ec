use Rattle.std.proofs.Common.{List, [], ◌∷◌, ◌++◌, ℕ, ap, ◌∙◌}
use Rattle.gl_script.specs.Gen.{events_line, head_lines, text_of, turns}
use Rattle.gl_script.proofs.Loads.{load_put}
use Rattle.gl_script.proofs.load.put_load.Goals as goal

pub returns-clause-ok : goal.returns-clause-ok
returns-clause-ok c =
    let n : ℕ = c.args.n in
    c.in_ok-extend_from_slice-2.ensures.items
    ∙ ap (λ (t : List ℕ). t ++ text_of (events_line ∷ [])) (c.in_ok-put_turns.ensures.ok ∙ ap (λ (t : List ℕ). t ++ text_of (turns 1 n n)) c.in_ok-extend_from_slice.ensures.items)
    ∙ load_put c.args.out.now.items head_lines (turns 1 n n) (events_line ∷ [])
