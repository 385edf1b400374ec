use Rattle.std.proofs.Common.{ℕ, List, sym, ap, ◌∙◌}
use Rattle.gl_args.specs.Options.{tool_in}
use Rattle.gl_args.specs.Tools.{tool_said}
use Rattle.gl_talk.specs.Copied.{words_of}
use Rattle.gl_talk.proofs.Continuing.{if_ok}
use Rattle.gl_talk.proofs.Copies.{started_goes_on, third_there}
use Rattle.gl_talk.proofs.tools.started_tool_of.Goals as goal

pub returns-in-Ok-clause-started : goal.returns-in-Ok-clause-started
returns-in-Ok-clause-started c =
    let line = c.args.line.now in
    if_ok c.read_tool.result _ _
    (λ tool says. started_goes_on (words_of line) (tool_in tool) (third_there line c.requires) (ap (λ (words : List (List ℕ)). tool_said words) (sym c.in-Ok.ensures.ok) ∙ rw (← c.deref.ensures.value) says))
    c.read_tool.ensures.ok
