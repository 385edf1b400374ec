-- What is left of a monitor where what finds its lines ran out of memory.
use Rattle.std.proofs.Common.{◌≡◌, ℕ, Option, Result, Ok, Err, OnErr, refl, sym, ◌∙◌, ap}
use Rattle.gl_args.specs.Options.{options_in}
use Rattle.gl_client.specs.Program.{goes_on, then_left}
use Rattle.gl_lines.specs.declared.finder.Finder.{Finder}
use Rattle.gl_lines.specs.Finding.{Stays, left}
use Rattle.gl_monitor.specs.declared.monitor.Monitor.{Monitor}
use Rattle.gl_monitor.specs.declared.monitor.MonitorStage.{MonitorStage}
use Rattle.gl_monitor.specs.declared.monitor.MonitorStage.TheVariants.{Begin, Finding}
use Rattle.gl_monitor.specs.Monitor.{begins, monitor_left, started, watched_by}

pub on_err : {T E : Type 0} (result : Result T E) (P : Type 0) → P → OnErr result P
on_err (Ok value) P h = tt
on_err (Err fault) P h = h

module _ (old new : Finder) (stays : Stays old new) (next : ℕ) (missing : Option ℕ) (turns : ℕ) where
  abbrev monitor_with : MonitorStage → Finder → Monitor
  monitor_with stage finder = record { finder = finder; next = next; missing = missing; turns = turns; stage = stage }

  abbrev MonitorStays : MonitorStage → Type 0
  MonitorStays stage = (monitor_left (monitor_with stage new) ≡ monitor_left (monitor_with stage old)) × (watched_by (monitor_with stage new) ≡ watched_by (monitor_with stage old))

  pub begin_stays : (stage : MonitorStage) → stage ≡ Begin → MonitorStays stage
  begin_stays stage e = (
    ap (λ s. monitor_left (monitor_with s new)) e
        ∙ ap (λ tool. goes_on (begins tool new.base new.made (options_in new.opts))) stays.tool
        ∙ ap (λ base. goes_on (begins old.tool base new.made (options_in new.opts))) stays.base
        ∙ ap (λ made. goes_on (begins old.tool old.base made (options_in new.opts))) stays.made
        ∙ ap (λ opts. goes_on (begins old.tool old.base old.made (options_in opts))) stays.opts
        ∙ ap (λ s. monitor_left (monitor_with s old)) (sym e),
    ap (λ s. watched_by (monitor_with s new)) e ∙ ap (λ s. watched_by (monitor_with s old)) (sym e),
  )

  pub finding_stays : (stage : MonitorStage) → stage ≡ Finding → left new ≡ left old → MonitorStays stage
  finding_stays stage e kept = (
    ap (λ s. monitor_left (monitor_with s new)) e
        ∙ ap (λ l. then_left l (started new.tool new.base new.made (options_in new.opts))) kept
        ∙ ap (λ tool. then_left (left old) (started tool new.base new.made (options_in new.opts))) stays.tool
        ∙ ap (λ base. then_left (left old) (started old.tool base new.made (options_in new.opts))) stays.base
        ∙ ap (λ made. then_left (left old) (started old.tool old.base made (options_in new.opts))) stays.made
        ∙ ap (λ opts. then_left (left old) (started old.tool old.base old.made (options_in opts))) stays.opts
        ∙ ap (λ s. monitor_left (monitor_with s old)) (sym e),
    ap (λ s. watched_by (monitor_with s new)) e ∙ ap (λ s. watched_by (monitor_with s old)) (sym e),
  )
