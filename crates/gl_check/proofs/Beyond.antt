-- No actor beyond the last has anything to do.
use Rattle.std.proofs.Common.{◌≡◌, ℕ, zero, suc, ◌-◌, ◌<◌, ◌≤◌, true, List, [], ◌∷◌, length, get_or, refl, ap, arith}
use Rattle.gl_script.specs.Section.{SaidSection}
use Rattle.gl_talk.specs.Open.{no_names}
use Rattle.gl_talk.specs.Talk.{talks}
use Rattle.gl_check.specs.Many.{actor_sections, no_section, words_of}
use Rattle.gl_check.specs.Misfit.{actors_in, beginning}
use Rattle.gl_check.specs.Seats.{is_ended, new_bearing, settles}

past : (sections : List SaidSection) (i : ℕ) → length sections ≤ i → get_or sections i no_section ≡ no_section
past [] zero low = refl
past [] (suc i) low = refl
past (section ∷ sections) zero low = absurd (omega (arith, low))
past (section ∷ sections) (suc i) low = past sections i (omega (arith, low))

pub beyond_program : (sections : List SaidSection) (n : ℕ) → actors_in sections < n → is_ended ((beginning sections).others n).stand ≡ true
beyond_program sections n more =
    ap (λ (s : SaidSection). is_ended (settles (talks 0 (words_of s) no_names) new_bearing []).stand) (past (actor_sections sections) (n - 1) (omega (arith, more)))
