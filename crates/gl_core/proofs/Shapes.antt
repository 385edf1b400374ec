-- The tables keep their shape where those of one place change and keep their lengths.
use Rattle.std.proofs.Common.{◌≡◌, ℕ, ◌<◌, ◌≤◌, List, Option, Some, None, length, refl, sym, ◌∙◌, subst, inl, inr}
use Rattle.std.specs.Prelude.{slice_index_or}
use Rattle.std.proofs.lemmas.Bool.{cases_eq, cases_lt}
use Rattle.gl_base.specs.Positions.{change_at}
use Rattle.gl_base.specs.declared.limits.TheConstants.{PLACES}
use Rattle.gl_base.specs.Refusals.{unless}
use Rattle.gl_base.specs.declared.errno.Errno.{Errno}
use Rattle.gl_base.specs.declared.irq.IrqDo.{IrqDo}
use Rattle.gl_base.proofs.AtPositions.{change_at-past, get_or-change_at_other, get_or-change_at_same, length-change_at, length-change_each}
use Rattle.gl_desc.specs.Desc.{first_desc}
use Rattle.gl_desc.specs.declared.desc.Desc.{Desc}
use Rattle.gl_irq.specs.Irq.{act_refusal, done, first_irq}
use Rattle.gl_irq.specs.declared.irq.Irq.{Irq}
use Rattle.gl_registry.specs.Chips.{chip_at}
use Rattle.gl_registry.specs.declared.registry.Chip.{Chip}
use Rattle.gl_model.specs.declared.place.Origin.{Origin}
use Rattle.gl_model.specs.declared.place.Place.{Place}
use Rattle.gl_model.specs.Claiming.{with_descs}
use Rattle.gl_model.specs.Interrupts.{irq_line}
use Rattle.gl_model.specs.Places.{no_place}
use Rattle.gl_core.specs.Shape.{HasLine, HasLines, IsShaped, with_irq_done}

pub shape_changed : (chips : List Chip) (origins : List Origin) (places : List Place) (place : ℕ) (f : Place → Place) → ((x : Place) (lines : ℕ) → HasLines lines x → HasLines lines (f x))
    → IsShaped chips origins places → IsShaped chips origins (change_at no_place place f places)
shape_changed chips origins places place f keeps shape = record {
  few = shape.few;
  origins_as_many = shape.origins_as_many;
  places_as_many = length-change_at no_place place f places ∙ shape.places_as_many;
  lines = λ p. elim (cases_eq p place) as (λ _. HasLines (chip_at chips p).lines (slice_index_or (change_at no_place place f places) p no_place)) [
    | inl same ↦ (elim (cases_lt place (length places)) as (λ _. HasLines (chip_at chips p).lines (slice_index_or (change_at no_place place f places) p no_place)) [
      | inl lt ↦
          (let here : slice_index_or (change_at no_place place f places) place no_place ≡ f (slice_index_or places place no_place) = get_or-change_at_same no_place place f places no_place lt in
          subst (λ k. HasLines (chip_at chips k).lines (slice_index_or (change_at no_place place f places) k no_place)) (sym same)
          (subst (HasLines (chip_at chips place).lines) (sym here) (keeps (slice_index_or places place no_place) (chip_at chips place).lines (shape.lines place))))
      | inr past ↦ subst (λ l. HasLines (chip_at chips p).lines (slice_index_or l p no_place)) (sym (change_at-past no_place place f places past)) (shape.lines p)
    ])
    | inr ne ↦ subst (HasLines (chip_at chips p).lines) (sym (get_or-change_at_other no_place place p f places no_place ne)) (shape.lines p)
  ];
}

irqs_kept : (r : Option Errno) (offset : ℕ) (f : Irq → Irq) (irqs : List Irq) → length (unless r (change_at first_irq offset f irqs) irqs) ≡ length irqs
irqs_kept None offset f irqs = length-change_at first_irq offset f irqs
irqs_kept (Some e) offset f irqs = refl

pub shape_irq : (chips : List Chip) (origins : List Origin) (places : List Place) (place offset : ℕ) (what : IrqDo) → IsShaped chips origins places
    → IsShaped chips origins (change_at no_place place (with_irq_done offset what) places)
shape_irq chips origins places place offset what = shape_changed chips origins places place (with_irq_done offset what) (λ x lines h. record {
  few = h.few;
  descs = h.descs;
  bank = h.bank;
  irqs = irqs_kept (act_refusal x.irqs offset what (irq_line x offset)) offset (done what) x.irqs ∙ h.irqs;
})

-- lines stay where the tables of a place change and keep their lengths
pub line_stays : (places : List Place) (at place offset : ℕ) (f : Place → Place) → ((x : Place) (lines : ℕ) → HasLines lines x → HasLines lines (f x)) → HasLine places place offset → HasLine (change_at no_place at f places) place offset
line_stays places at place offset f keeps line =
    let size : length (change_at no_place at f places) ≡ length places = length-change_at no_place at f places in
    let tables : Place = slice_index_or places place no_place in
    let kept : HasLines (length tables.descs) (slice_index_or (change_at no_place at f places) place no_place) =
    elim (cases_eq place at) [
      | inl same ↦ (elim (cases_lt at (length places)) [
        | inl lt ↦
            subst (λ (p : ℕ). HasLines (length tables.descs) (slice_index_or (change_at no_place at f places) p no_place)) (sym same)
            (subst (HasLines (length tables.descs)) (sym (get_or-change_at_same no_place at f places no_place lt)) (keeps (slice_index_or places at no_place) (length tables.descs) (subst (λ (p : ℕ). HasLines (length tables.descs) (slice_index_or places p no_place)) same line.within)))
        | inr past ↦ subst (λ l. HasLines (length tables.descs) (slice_index_or l place no_place)) (sym (change_at-past no_place at f places past)) line.within
      ])
      | inr ne ↦ subst (HasLines (length tables.descs)) (sym (get_or-change_at_other no_place at place f places no_place ne)) line.within
    ] in
    record {
      few = subst (λ n. n ≤ PLACES) (sym size) line.few;
      place_within = subst (λ n. place < n) (sym size) line.place_within;
      within = subst (λ n. HasLines n (slice_index_or (change_at no_place at f places) place no_place)) (sym kept.descs) kept;
      offset_within = subst (λ n. offset < n) (sym kept.descs) line.offset_within;
    }

-- the holders of some lines of a place change
pub with_descs_keep : (offsets : List ℕ) (f : Desc → Desc) (x : Place) (lines : ℕ) → HasLines lines x → HasLines lines (with_descs offsets f x)
with_descs_keep offsets f x lines h = record {
  few = h.few;
  descs = length-change_each first_desc offsets f x.descs ∙ h.descs;
  bank = h.bank;
  irqs = h.irqs;
}

pub shape_with_descs : (chips : List Chip) (origins : List Origin) (places : List Place) (place : ℕ) (offsets : List ℕ) (f : Desc → Desc) → IsShaped chips origins places
    → IsShaped chips origins (change_at no_place place (with_descs offsets f) places)
shape_with_descs chips origins places place offsets f = shape_changed chips origins places place (with_descs offsets f) (with_descs_keep offsets f)
