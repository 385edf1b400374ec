-- The cost of a statement is that of what it says.
use Rattle.std.proofs.Common.{◌≡◌, ℕ, ◌+◌, List, ◌∷◌, Option, Some, refl, ◌∙◌, ap, subst}
use Rattle.std.specs.Prelude.{if◌then◌else◌}
use Rattle.gl_base.specs.Words.{Span}
use Rattle.gl_v1.specs.Words.{makes_file as makes_old_file}
use Rattle.gl_script.specs.Cost.{cost, cost_by, or_zero, words_cost}
use Rattle.gl_script.specs.Faults.{is_get_line}
use Rattle.gl_script.specs.Said.{AreValues, keyword_said, said_of}
use Rattle.gl_script.specs.SaidCost.{cost_said}
use Rattle.gl_script.specs.declared.said.Said.{Said}
use Rattle.gl_script.specs.declared.said.Said.TheVariants.{Ioctl, OldIoctl, Step}
use Rattle.gl_script.proofs.Saying.{said_is_spelled}

-- each statement, one after the other
row_is : (said : Said) (first : Span) (words : List Span) → AreValues said (first ∷ words) → cost (keyword_said said) words ≡ cost_said said words
row_is (Ioctl command made) first words is = ap (λ (o : Option ℕ). if is_get_line o then 3 else 2) is.0
row_is (OldIoctl command made) first words is = ap (λ (o : Option ℕ). if makes_old_file o then 3 else 2) is.0
row_is (Step name turns) first words is = ap (λ (o : Option ℕ). or_zero o + 1) is.1
row_is said first words is = refl

pub cost_is : (words : List Span) (said : Said) (first : Span) (rest : List Span) → said_of words ≡ Some said → words ≡ first ∷ rest → words_cost words ≡ cost_said said rest
cost_is words said first rest is parts =
    let spelled = said_is_spelled (first ∷ rest) said (subst (λ (ws : List Span). said_of ws ≡ Some said) parts is) in
    ap (λ (ws : List Span). words_cost ws) parts ∙ ap (λ o. cost_by o rest) spelled.keyword ∙ row_is said first rest spelled.each
