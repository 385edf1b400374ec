-- What actors printed, written one after another.
use Rattle.std.proofs.Common.{◌≡◌, ℕ, ◌+◌, ◌<◌, true, false, List, ◌∷◌, ◌++◌, length, map, drop, get_or, sym, ap, ◌∙◌, arith}
use Rattle.std.specs.Prelude.{codes}
use Rattle.std.proofs.lemmas.List.{append_assoc, drop_more, get_or-map, length-map}
use Rattle.gl_base.specs.TextLines.{text_line}
use Rattle.gl_script.specs.Section.{SaidSection}
use Rattle.gl_script.specs.declared.section.SectionKind.TheVariants.{Actor}
use Rattle.gl_check.specs.Many.{actor_sections, no_section}
use Rattle.gl_check.specs.One.{is_kind}
use Rattle.gl_check.specs.Seating.{text_in}
use Rattle.gl_check.specs.Texts.{actors_text}
use Rattle.gl_check.specs.declared.seat.Seat.{Seat}
use Rattle.gl_check.proofs.WholeSections.{actors_from}

module _ (sections : List SaidSection) (seats : List Seat) (i at : ℕ) (lt : i < length sections) where
  -- as many actors are left as seats
  pub one_fewer : is_kind Actor (get_or sections i no_section).kind ≡ true → at + length (actor_sections (drop i sections)) ≡ length seats → at + 1 + length (actor_sections (drop (i + 1) sections)) ≡ length seats
  one_fewer is many = let e = ap (λ (l : List SaidSection). length l) (actors_from sections i true lt (sym is)) in omega (arith, e, many)

  pub none_fewer : is_kind Actor (get_or sections i no_section).kind ≡ false → at + length (actor_sections (drop i sections)) ≡ length seats → at + length (actor_sections (drop (i + 1) sections)) ≡ length seats
  none_fewer is many = let e = ap (λ (l : List SaidSection). length l) (actors_from sections i false lt (sym is)) in omega (arith, e, many)

  seat_there : is_kind Actor (get_or sections i no_section).kind ≡ true → at + length (actor_sections (drop i sections)) ≡ length seats → at < length seats
  seat_there is many = let e = ap (λ (l : List SaidSection). length l) (actors_from sections i true lt (sym is)) in omega (arith, e, many)

  -- an actor more was written
  pub one_written : (s : Seat) (name text old new whole : List ℕ) → is_kind Actor (get_or sections i no_section).kind ≡ true → at + length (actor_sections (drop i sections)) ≡ length seats
      → s ≡ get_or seats at s → name ≡ (get_or sections i no_section).name → text ≡ s.text.items → new ≡ old ++ (text_line (codes "== actor " ++ name) ++ text)
      → old ++ actors_text (actor_sections (drop i sections)) (drop at (map text_in seats)) ≡ whole
      → new ++ actors_text (actor_sections (drop (i + 1) sections)) (drop (at + 1) (map text_in seats)) ≡ whole
  one_written s name text old new whole is many seat named told written so_far =
      let rest : List ℕ = actors_text (actor_sections (drop (i + 1) sections)) (drop (at + 1) (map text_in seats)) in
      let section : SaidSection = get_or sections i no_section in
      let long = length-map seats text_in in
      let there = seat_there is many in
      let here : drop at (map text_in seats) ≡ text ∷ drop (at + 1) (map text_in seats)
      = drop_more (map text_in seats) at text (omega (arith, there, long))
      ∙ ap (λ (t : List ℕ). t ∷ drop (at + 1) (map text_in seats)) (get_or-map text_in seats at s text there ∙ ap text_in (sym seat) ∙ sym told) in
      let step : actors_text (actor_sections (drop i sections)) (drop at (map text_in seats)) ≡ text_line (codes "== actor " ++ name) ++ text ++ rest
      = ap (λ (x : List SaidSection × List (List ℕ)). actors_text x.0 x.1) (λ k. (actors_from sections i true lt (sym is) k, here k))
      ∙ ap (λ (n : List ℕ). text_line (codes "== actor " ++ n) ++ text ++ rest) (sym named) in
      ap (λ (n : List ℕ). n ++ rest) written ∙ append_assoc old (text_line (codes "== actor " ++ name) ++ text) rest ∙ ap (λ (l : List ℕ). old ++ l) (sym step) ∙ so_far

  -- and none
  pub none_written : (old whole : List ℕ) → is_kind Actor (get_or sections i no_section).kind ≡ false → old ++ actors_text (actor_sections (drop i sections)) (drop at (map text_in seats)) ≡ whole
      → old ++ actors_text (actor_sections (drop (i + 1) sections)) (drop at (map text_in seats)) ≡ whole
  none_written old whole is so_far = ap (λ (l : List SaidSection). old ++ actors_text l (drop at (map text_in seats))) (sym (actors_from sections i false lt (sym is))) ∙ so_far
