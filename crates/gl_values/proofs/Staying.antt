-- What is left of gpioget and gpioset where what finds their lines ran out of memory.
use Rattle.std.proofs.Common.{◌≡◌, Option, None, Some, Result, Ok, Err, OnErr, refl, sym, ◌∙◌, ap}
use Rattle.gl_args.specs.Options.{options_in}
use Rattle.gl_client.specs.Program.{goes_on, then_by, then_left}
use Rattle.gl_lines.specs.declared.finder.Finder.{Finder}
use Rattle.gl_lines.specs.Finding.{Stays, finds, left}
use Rattle.gl_values.specs.declared.get.Get.{Get}
use Rattle.gl_values.specs.declared.get.GetStage.{GetStage}
use Rattle.gl_values.specs.declared.get.GetStage.TheVariants.{Finding as GetFinding}
use Rattle.gl_values.specs.declared.set.Hold.{Hold}
use Rattle.gl_values.specs.declared.set.Set.{Set}
use Rattle.gl_values.specs.declared.set.SetStage.{SetStage}
use Rattle.gl_values.specs.declared.set.SetStage.TheVariants.{Begin as SetBegin, Finding as SetFinding}
use Rattle.gl_values.specs.Get.{get, get_left}
use Rattle.gl_values.specs.Set.{behind, held_at, held_of, set_left}

pub on_err : {T E : Type 0} (result : Result T E) (P : Type 0) → P → OnErr result P
on_err (Ok value) P h = tt
on_err (Err fault) P h = h

module _ (old new : Finder) (stays : Stays old new) where
  abbrev get_with : GetStage → Finder → Get
  get_with stage finder = record { finder = finder; stage = stage }

  pub get_stays : (stage : GetStage) → stage ≡ GetFinding → left new ≡ left old → get_left (get_with stage new) ≡ get_left (get_with stage old)
  get_stays stage e kept =
      ap (λ s. get_left (get_with s new)) e
      ∙ ap (λ l. then_left l (get new.made (options_in new.opts))) kept
      ∙ ap (λ made. then_left (left old) (get made (options_in new.opts))) stays.made
      ∙ ap (λ opts. then_left (left old) (get old.made (options_in opts))) stays.opts
      ∙ ap (λ s. get_left (get_with s old)) (sym e)

  abbrev set_with : Hold → SetStage → Finder → Set
  set_with hold stage finder = record { finder = finder; hold = hold; stage = stage }

  abbrev SetStays : Hold → SetStage → Type 0
  SetStays hold stage = (set_left (set_with hold stage new) ≡ set_left (set_with hold stage old)) × (held_of (set_with hold stage new) ≡ held_of (set_with hold stage old))

  pub finding_stays : (hold : Hold) (stage : SetStage) → stage ≡ SetFinding → left new ≡ left old → SetStays hold stage
  finding_stays hold stage e kept = (
    ap (λ s. set_left (set_with hold s new)) e
        ∙ ap (λ l. then_left l (behind hold new.made)) kept
        ∙ ap (λ made. then_left (left old) (behind hold made)) stays.made
        ∙ ap (λ s. set_left (set_with hold s old)) (sym e),
    ap (λ made. held_at made stage) stays.made,
  )

  pub begin_stays : (hold : Hold) (stage : SetStage) → stage ≡ SetBegin → SetStays hold stage
  begin_stays hold stage e = (
    ap (λ s. set_left (set_with hold s new)) e
        ∙ ap (λ tool. goes_on (then_by (finds tool new.base new.made (options_in new.opts)) (behind hold new.made))) stays.tool
        ∙ ap (λ base. goes_on (then_by (finds old.tool base new.made (options_in new.opts)) (behind hold new.made))) stays.base
        ∙ ap (λ made. goes_on (then_by (finds old.tool old.base made (options_in new.opts)) (behind hold made))) stays.made
        ∙ ap (λ opts. goes_on (then_by (finds old.tool old.base old.made (options_in opts)) (behind hold old.made))) stays.opts
        ∙ ap (λ s. set_left (set_with hold s old)) (sym e),
    ap (λ made. held_at made stage) stays.made,
  )
