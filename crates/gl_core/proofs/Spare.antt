-- The tables of places that wait for a chip, and of one that has got its own.
use Rattle.std.proofs.Common.{◌≡◌, ℕ, ◌+◌, ◌-◌, ◌<◌, List, ap, ◌∙◌, [], ◌∷◌, ◌++◌, zero, suc, length, take, replicate, length-append, arith}
use Rattle.std.proofs.lemmas.List.{get_or-take, length-take-le}
use Rattle.std.specs.Prelude.{slice_index_or}
use Rattle.std.proofs.Math.Seq.{take-nil}
use Rattle.gl_bank.specs.Level.{first_levels}
use Rattle.gl_bank.specs.declared.levels.Levels.{Levels}
use Rattle.gl_desc.specs.Desc.{first_desc}
use Rattle.gl_desc.specs.declared.desc.Desc.{Desc}
use Rattle.gl_irq.specs.Irq.{first_irq}
use Rattle.gl_irq.specs.declared.irq.Irq.{Irq}
use Rattle.gl_model.specs.Chips.{new_place}
use Rattle.gl_model.specs.Places.{no_place}
use Rattle.gl_core.specs.Shape.{AreNew, IsSpare}
use Rattle.gl_model.specs.declared.place.Place.{Place}

-- a table of so many rows
abbrev fitted_rows : {X : Type 0} → ℕ → X → List X → List X
fitted_rows n x rows = take n rows ++ replicate (n - length rows) x

none_fitted : {X : Type 0} (n : ℕ) (x : X) → fitted_rows n x [] ≡ replicate n x
none_fitted n x = let whole : n - 0 ≡ n = omega arith in ap (λ rows. rows ++ replicate (n - 0) x) (take-nil n) ∙ ap (λ m. replicate m x) whole

-- the tables of a place, for so many lines
abbrev pub fitted : ℕ → Place → Place
fitted n place = record place { descs = fitted_rows n first_desc place.descs; bank = fitted_rows n first_levels place.bank; irqs = fitted_rows n first_irq place.irqs }

pub fitted-new : (n : ℕ) → fitted n no_place ≡ new_place n
fitted-new n =
    ap (λ (ds : List Desc). record (fitted n no_place) { descs = ds }) (none_fitted n first_desc)
    ∙ ap (λ (bs : List Levels). record (fitted n no_place) { descs = (new_place n).descs; bank = bs }) (none_fitted n first_levels)
    ∙ ap (λ (is : List Irq). record (new_place n) { irqs = is }) (none_fitted n first_irq)

-- one more that waits
pub new_pushed : (places : List Place) (place : Place) → AreNew places → place ≡ no_place → AreNew (places ++ place ∷ [])
new_pushed [] place are is zero d lt = is
new_pushed [] place are is (suc k) d lt = absurd (omega arith)
new_pushed (x ∷ places) place are is zero d lt = are zero d (omega arith)
new_pushed (x ∷ places) place are is (suc k) d lt = new_pushed places place (λ i e within. are (suc i) e (omega arith)) is k d (omega arith)

-- one of them gets its chip
pub spare_left : (used spare pushed left : List Place) (place : Place) (capacity more : ℕ) → IsSpare used spare capacity → 0 < length spare → pushed ≡ used ++ place ∷ [] → left ≡ take (length spare - 1) spare → more ≡ capacity
    → IsSpare pushed left more
spare_left used spare pushed left place capacity more s some pushed_is left_is same =
    let longer : length pushed ≡ length used + 1 = ap (λ (l : List Place). length l) pushed_is ∙ length-append used (place ∷ []) in
    let shorter : length left ≡ length spare - 1 = ap (λ (l : List Place). length l) left_is ∙ length-take-le (length spare - 1) spare (omega arith) in
    record {
      all_places = let all = s.all_places in omega (arith, longer, shorter, all);
      room = same ∙ s.room;
      all_new = λ k d lt. ap (λ (l : List Place). slice_index_or l k d) left_is ∙ (get_or-take (length spare - 1) spare k d (omega (arith, shorter)) ∙ s.all_new k d (omega (arith, shorter)));
    }
