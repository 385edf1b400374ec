-- A history, an entry at a time, and what was printed after it.
use Rattle.std.proofs.Common.{◌≡◌, inl, inr, ℕ, suc, ◌+◌, ◌<◌, Bool, true, List, [], ◌∷◌, ◌++◌, length, map, take, get_or, None, Some, refl, sym, ap, ◌∙◌, subst, arith}
use Rattle.std.proofs.Math.Seq.{take-length}
use Rattle.std.proofs.lemmas.List.{take_more}
use Rattle.gl_script.specs.Section.{SaidSection}
use Rattle.gl_core.specs.Device.{OneEntry}
use Rattle.gl_check.specs.Judging.{AreTaken, IsFirst, Judges}
use Rattle.gl_check.specs.Misfit.{AllFit, AtEnd, FitsIn, IsMisfit, Moment, actors_in, after_entry, beginning, behind, others_texts, texts_of}
use Rattle.gl_check.specs.Seating.{text_in}
use Rattle.gl_check.specs.Seats.{Seat as SeatOf}
use Rattle.gl_check.specs.declared.judge.Judge.{Judge}
use Rattle.gl_check.specs.declared.seat.Seat.{Seat}
use Rattle.gl_check.proofs.Order.{append_fit, behind_append, fit_append}

module _ (sections : List SaidSection) where
  abbrev start : Moment
  start = beginning sections

  -- the moment after the entries so far
  abbrev pub so_far : List OneEntry → ℕ → Moment
  so_far history i = behind sections start (take i history)

  module _ (history : List OneEntry) (i : ℕ) (e : OneEntry) (lt : i < length history) (is : e ≡ get_or history i e) where
    one_more : take (i + 1) history ≡ take i history ++ e ∷ []
    one_more = take_more history i e lt ∙ ap (λ (x : OneEntry). take i history ++ x ∷ []) (sym is)

    pub fit_more : AllFit sections start (take i history) → FitsIn sections (so_far history i) e → AllFit sections start (take (i + 1) history)
    fit_more fit fits = subst (λ (l : List OneEntry). AllFit sections start l) (sym one_more) (append_fit sections start (take i history) (e ∷ []) fit (fits, tt))

    pub fits_no_more : (FitsIn sections (so_far history i) e → ⊥) → AllFit sections start (take (i + 1) history) → ⊥
    fits_no_more never fit = never (fit_append sections start (take i history) (e ∷ []) (subst (λ (l : List OneEntry). AllFit sections start l) one_more fit)).1.0

    pub behind_more : after_entry sections (so_far history i) e ≡ so_far history (i + 1)
    behind_more = sym (behind_append sections start (take i history) (e ∷ [])) ∙ ap (λ (l : List OneEntry). behind sections start l) (sym one_more)

  pub all_taken : (history : List OneEntry) (j : Judge) (i : ℕ) → i ≡ length history → AllFit sections start (take i history) → Judges sections j (so_far history i) → AreTaken sections history j None
  all_taken history j i is fit judges =
      let whole : take i history ≡ history = ap (λ n. take n history) is ∙ take-length history in
      (subst (λ (l : List OneEntry). AllFit sections start l) whole fit, subst (λ (l : List OneEntry). Judges sections j (behind sections start l)) whole judges)

  pub stopped : (history : List OneEntry) (j : Judge) (i : ℕ) → AreTaken sections history j (Some i) → IsMisfit sections history (Some i)
  stopped history j i taken = (taken.1, inl (taken.0, taken.2))

  pub never_ends : (history : List OneEntry) (j : Judge) (n : ℕ) → n ≡ length history → AreTaken sections history j None → (AtEnd sections (behind sections start history) → ⊥) → IsMisfit sections history (Some n)
  never_ends history j n is taken never =
      (subst (λ (l : List OneEntry). AllFit sections start l) (sym (ap (λ k. take k history) is ∙ take-length history)) taken.0, inr (is, never))

  -- what was printed
  texts_from : (n : ℕ) (seats : List Seat) (others : ℕ → SeatOf) → ((i : ℕ) (d : Seat) → i < length seats → text_in (get_or seats i d) ≡ (others (n + i)).text) → map text_in seats ≡ others_texts n (length seats) others
  texts_from n [] others same = refl
  texts_from n (s ∷ seats) others same =
      let zero_is : n + 0 ≡ n = omega arith in
      let here : text_in s ≡ (others n).text = same 0 s (omega arith) ∙ ap (λ k. (others k).text) zero_is in
      let later : map text_in seats ≡ others_texts (n + 1) (length seats) others
      = texts_from (n + 1) seats others (λ i d lt. let next : n + suc i ≡ n + 1 + i = omega arith in same (suc i) d (omega (arith, lt)) ∙ ap (λ k. (others k).text) next) in
      ap (λ (x : List ℕ × List (List ℕ)). x.0 ∷ x.1) (λ i. (here i, later i))

  pub printed : (history : List OneEntry) (j : Judge) → AreTaken sections history j None → AtEnd sections (behind sections start history)
      → record { setup = j.setup.items; actors = map text_in j.others.items; last = j.first.text.items } ≡ texts_of sections history
  printed history j taken end =
      let c : Moment = behind sections start history in
      let judges : Judges sections j c = taken.1 in
      let first : IsFirst sections true j.first j.setup.items c = subst (λ (b : Bool). IsFirst sections b j.first j.setup.items c) (judges.phase ∙ end.setup) judges.first in
      let others : map text_in j.others.items ≡ others_texts 1 (actors_in sections) c.others
      = texts_from 1 j.others.items c.others (λ i d lt. let next : i + 1 ≡ 1 + i = omega arith in ap (λ (s : SeatOf). s.text) (judges.others i d lt).is ∙ ap (λ k. (c.others k).text) next)
      ∙ ap (λ n. others_texts 1 n c.others) judges.as_many in
      λ i. record { setup = first.2 i; actors = others i; last = ap (λ (s : SeatOf). s.text) first.0 i }
