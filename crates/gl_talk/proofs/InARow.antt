-- Statements in a row, in parts.
use Rattle.std.proofs.Common.{◌≡◌, ◌+◌, [], ◌∷◌, ◌++◌, length, refl, sym, ◌∙◌, ap, arith}
use Rattle.gl_client.specs.Program.{Program, done, print, ask, then_by}
use Rattle.gl_talk.specs.InParts.{StatementsComeInParts, TalksAreStatementsAndTheEnd}
use Rattle.gl_talk.specs.Talk.{does, quits, says, slot_behind, talks}

-- one program, then another, then a third
in_turn : {A B C : Type 0} (p : Program A) (f : A → Program B) (g : B → Program C) → then_by (then_by p f) g ≡ then_by p (λ value. then_by (f value) g)
in_turn (done value) f g = refl
in_turn (print text p) f g = ap (print text) (in_turn p f g)
in_turn (ask what p) f g = λ i. ask what (λ got. in_turn (p got) f g i)

-- the same comes after a program
same_behind : {A B : Type 0} (p : Program A) (f g : A → Program B) → ((value : A) → f value ≡ g value) → then_by p f ≡ then_by p g
same_behind p f g h = λ i. then_by p (λ value. h value i)

pub come_in_parts : StatementsComeInParts
come_in_parts begun [] second behind names = (λ i. says (same_number i) second behind names) where
  same_number : begun ≡ begun + 0
  same_number = omega arith
come_in_parts begun (words ∷ first) second behind names =
    same_behind (does names (slot_behind begun) words) (says (begun + 1) (first ++ second) behind) (says (begun + 1) first (says (begun + length (words ∷ first)) second behind))
    (λ value. come_in_parts (begun + 1) first second behind value ∙ (λ i. says (begun + 1) first (says (same_number i) second behind) value)) where
      same_number : begun + 1 + length first ≡ begun + length (words ∷ first)
      same_number = omega arith

pub are_statements_and_the_end : TalksAreStatementsAndTheEnd
are_statements_and_the_end begun [] names = refl
are_statements_and_the_end begun (words ∷ statements) names =
    same_behind (does names (slot_behind begun) words) (talks (begun + 1) statements) (λ value. then_by (says (begun + 1) statements done value) quits)
    (are_statements_and_the_end (begun + 1) statements)
    ∙ sym (in_turn (does names (slot_behind begun) words) (says (begun + 1) statements done) quits)
