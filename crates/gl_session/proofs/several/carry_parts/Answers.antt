use Rattle.std.proofs.Common.{◌≡◌, ℕ, [], Option, arith, inl, inr, ⊎_elim, refl, sym, ap, subst, ◌∙◌}
use Rattle.std.specs.Prelude.{slice_get}
use Rattle.gl_client.specs.Program.{done}
use Rattle.gl_driver.specs.Told.{Told}
use Rattle.gl_script.specs.Script.{sections_of}
use Rattle.gl_script.specs.declared.section.SectionKind.TheVariants.{After, Setup}
use Rattle.gl_talk.specs.Open.{Names, left_setup, setup_names}
use Rattle.gl_client.specs.Chips.{AsksNoChips}
use Rattle.gl_talk.specs.Talk.{names_in, quits, says}
use Rattle.gl_check.specs.Drivers.{driver_kind, over}
use Rattle.gl_check.specs.Joining.{Maps, no_maps, taught}
use Rattle.gl_check.specs.Programs.{after_of, setup_of}
use Rattle.gl_check.specs.One.{said_in_kind}
use Rattle.gl_check.specs.Turns.{carried}
use Rattle.gl_session.specs.OneActor.{count_in_kind}
use Rattle.gl_session.specs.Performed.{PlaysOn, StoppedFull}
use Rattle.gl_session.specs.Ports.{AllHave, IsTaught}
use Rattle.gl_session.proofs.AllTogether.{new_first}
use Rattle.gl_session.proofs.NoRoom.{full_at_fork, full_in_after, full_in_setup}
use Rattle.gl_session.proofs.Plays.{text_taken}
use Rattle.gl_session.proofs.NoChips.{asks_none, turns_stay}
use Rattle.gl_session.proofs.OutsideSetup.{ends_outside}
use Rattle.gl_session.proofs.Sections.{begins_so, stops_so}
use Rattle.gl_session.proofs.Taught.{all_have_taught, by_turns, learned_first, taught_none, taught_there, taught_told}
use Rattle.gl_session.proofs.several.carry_parts.Goals as goal

pub returns-in-Ok-play_to_end-clause-out : goal.returns-in-Ok-play_to_end-clause-out
returns-in-Ok-play_to_end-clause-out g c =
    let setup : PlaysOn (driver_kind g.D.Driver.ENTRIES g.D.Driver.is_planned g.D.Driver.OwnEntries g.D.Driver.Follows) (setup_of (sections_of c.args.script.now)) c.args.first.now.view (carried [] c.args.first.now.carried.told (no_maps c.args.first.now.carried.maps.left)) []
    (done (names_in c.play_kind.new.talk)) c.take_text-setup.new.self.view c.take_text-setup.new.self.carried c.take_text-setup.result.items
    = (let taken = c.take_text-setup.ensures in
    text_taken (driver_kind g.D.Driver.ENTRIES g.D.Driver.is_planned g.D.Driver.OwnEntries g.D.Driver.Follows) _ _ _ _ _ _ _ _ _ _ _ c.requires.new.1 taken.view taken.carried taken.text
    (begins_so _ _ c.args.first.now.carried.told c.args.first.now.carried.maps (no_maps c.args.first.now.carried.maps.left) (said_in_kind Setup (sections_of c.args.script.now)) done c.args.talk.now.begun 0 (names_in c.args.talk.now) setup_names c.args.first.now.carried.files [] c.requires.talk.1 c.requires.talk.0 c.requires.new.0 c.requires.maps _ _ _ _ _ c.in-Ok.ensures.played)) in
    let number : c.leave_setup.new.self.begun ≡ count_in_kind Setup (sections_of c.args.script.now) = omega (arith, c.requires.talk.1, c.in-Ok.ensures.counted, c.leave_setup.ensures.counted) in
    let waiting = c.take_text-setup.new.self.carried in
    let behind : PlaysOn (driver_kind g.D.Driver.ENTRIES g.D.Driver.is_planned g.D.Driver.OwnEntries g.D.Driver.Follows) (after_of (sections_of c.args.script.now) (names_in c.play_kind.new.talk)) c.fork.new.first.view (carried waiting.files c.fork.new.first.carried.told waiting.maps) c.fork.new.first.text
    (done (names_in c.play_to_end.new.talk)) c.play_to_end.new.player.view c.play_to_end.new.player.carried c.play_to_end.new.player.text
    = begins_so _ _ c.fork.new.first.carried.told c.fork.new.first.carried.maps c.take_text-setup.new.self.carried.maps (said_in_kind After (sections_of c.args.script.now)) quits c.leave_setup.new.self.begun (count_in_kind Setup (sections_of c.args.script.now)) (names_in c.leave_setup.new.self) (left_setup (names_in c.play_kind.new.talk)) c.fork.new.first.carried.files waiting.files number c.leave_setup.ensures.names c.in-Ok-fork.ensures.files c.fork.ensures.maps _ _ _ _ _ c.in-Ok-play_to_end.ensures.played in
    let last : PlaysOn (driver_kind g.D.Driver.ENTRIES g.D.Driver.is_planned g.D.Driver.OwnEntries g.D.Driver.Follows) (after_of (sections_of c.args.script.now) (names_in c.play_kind.new.talk)) c.fork.new.first.view waiting []
    (done (names_in c.play_to_end.new.talk)) c.take_text-last.new.self.view c.take_text-last.new.self.carried c.take_text-last.result.items
    = (let taken = c.take_text-last.ensures in
    text_taken (driver_kind g.D.Driver.ENTRIES g.D.Driver.is_planned g.D.Driver.OwnEntries g.D.Driver.Follows) _ _ _ _ _ _ _ _ _ _ _ (c.in-Ok-fork.ensures.text ∙ c.take_text-setup.ensures.empty) taken.view taken.carried taken.text
    (subst (λ (t : Option Told). PlaysOn (driver_kind g.D.Driver.ENTRIES g.D.Driver.is_planned g.D.Driver.OwnEntries g.D.Driver.Follows) (after_of (sections_of c.args.script.now) (names_in c.play_kind.new.talk)) c.fork.new.first.view (carried waiting.files t waiting.maps) c.fork.new.first.text
    (done (names_in c.play_to_end.new.talk)) c.play_to_end.new.player.view c.play_to_end.new.player.carried c.play_to_end.new.player.text) c.in-Ok-fork.ensures.told behind)) in
    record {
      names = names_in c.play_kind.new.talk;
      waiting = c.take_text-setup.new.self.carried;
      at_fork = c.take_text-setup.new.self.view;
      setup = setup;
      behind_fork = c.fork.new.first.view;
      ports_taught = c.teach_all.new.ports;
      told_same = λ n. taught_told g.D.Port.Port.maps g.D.Port.Port.maps_left g.D.Port.Port.told g.D.Port.Port.faults c.maps.result.now _ _ (c.teach_all.ensures.taught n);
      there_same = λ n. taught_there g.D.Port.Port.maps g.D.Port.Port.maps_left g.D.Port.Port.told g.D.Port.Port.faults c.maps.result.now _ _ (c.teach_all.ensures.taught n);
      taught_len = c.teach_all.ensures.ports_len;
      forked = c.in-Ok-fork.ensures.forked;
      own = c.number-number.ensures.own;
      end = names_in c.play_to_end.new.talk;
      behind = c.take_text-last.new.self.carried;
      last = last;
      left_is = refl;
      maps_are = refl;
    }

pub returns-in-Err-clause-stopped : goal.returns-in-Err-clause-stopped
returns-in-Err-clause-stopped g c =
    ⊎_elim (λ wanted. inl wanted)
    (λ full. inr (full_in_setup (over c.args.first.now.carried.maps.left (driver_kind g.D.Driver.ENTRIES g.D.Driver.is_planned g.D.Driver.OwnEntries g.D.Driver.Follows)) c.requires.few_own (sections_of c.args.script.now) _ c.args.first.now.carried.told c.requires.first _
    (stops_so _ _ c.args.first.now.carried.told c.args.first.now.carried.maps (no_maps c.args.first.now.carried.maps.left) (said_in_kind Setup (sections_of c.args.script.now)) done c.args.talk.now.begun 0 (names_in c.args.talk.now) setup_names c.args.first.now.carried.files [] c.requires.talk.1 c.requires.talk.0 c.requires.new.0 c.requires.maps _ full.1)))
    c.in-Err.ensures.stopped

pub returns-in-Err-fork-clause-stopped : goal.returns-in-Err-fork-clause-stopped
returns-in-Err-fork-clause-stopped g c =
    let setup : PlaysOn (driver_kind g.D.Driver.ENTRIES g.D.Driver.is_planned g.D.Driver.OwnEntries g.D.Driver.Follows) (setup_of (sections_of c.args.script.now)) c.args.first.now.view (carried [] c.args.first.now.carried.told (no_maps c.args.first.now.carried.maps.left)) []
    (done (names_in c.play_kind.new.talk)) c.take_text-setup.new.self.view c.take_text-setup.new.self.carried c.take_text-setup.result.items
    = (let taken = c.take_text-setup.ensures in
    text_taken (driver_kind g.D.Driver.ENTRIES g.D.Driver.is_planned g.D.Driver.OwnEntries g.D.Driver.Follows) _ _ _ _ _ _ _ _ _ _ _ c.requires.new.1 taken.view taken.carried taken.text
    (begins_so _ _ c.args.first.now.carried.told c.args.first.now.carried.maps (no_maps c.args.first.now.carried.maps.left) (said_in_kind Setup (sections_of c.args.script.now)) done c.args.talk.now.begun 0 (names_in c.args.talk.now) setup_names c.args.first.now.carried.files [] c.requires.talk.1 c.requires.talk.0 c.requires.new.0 c.requires.maps _ _ _ _ _ c.in-Ok.ensures.played)) in
    ⊎_elim (λ wanted. inl wanted)
    (λ full. inr (full_at_fork (over c.args.first.now.carried.maps.left (driver_kind g.D.Driver.ENTRIES g.D.Driver.is_planned g.D.Driver.OwnEntries g.D.Driver.Follows)) c.requires.few_own (sections_of c.args.script.now) _ _ c.requires.first _ _ _ _ _ setup _ _ full))
    c.in-Err-fork.ensures.stopped

pub returns-in-Err-play_to_end-clause-stopped : goal.returns-in-Err-play_to_end-clause-stopped
returns-in-Err-play_to_end-clause-stopped g c =
    let setup : PlaysOn (driver_kind g.D.Driver.ENTRIES g.D.Driver.is_planned g.D.Driver.OwnEntries g.D.Driver.Follows) (setup_of (sections_of c.args.script.now)) c.args.first.now.view (carried [] c.args.first.now.carried.told (no_maps c.args.first.now.carried.maps.left)) []
    (done (names_in c.play_kind.new.talk)) c.take_text-setup.new.self.view c.take_text-setup.new.self.carried c.take_text-setup.result.items
    = (let taken = c.take_text-setup.ensures in
    text_taken (driver_kind g.D.Driver.ENTRIES g.D.Driver.is_planned g.D.Driver.OwnEntries g.D.Driver.Follows) _ _ _ _ _ _ _ _ _ _ _ c.requires.new.1 taken.view taken.carried taken.text
    (begins_so _ _ c.args.first.now.carried.told c.args.first.now.carried.maps (no_maps c.args.first.now.carried.maps.left) (said_in_kind Setup (sections_of c.args.script.now)) done c.args.talk.now.begun 0 (names_in c.args.talk.now) setup_names c.args.first.now.carried.files [] c.requires.talk.1 c.requires.talk.0 c.requires.new.0 c.requires.maps _ _ _ _ _ c.in-Ok.ensures.played)) in
    let number : c.leave_setup.new.self.begun ≡ count_in_kind Setup (sections_of c.args.script.now) = omega (arith, c.requires.talk.1, c.in-Ok.ensures.counted, c.leave_setup.ensures.counted) in
    ⊎_elim (λ wanted. inl wanted)
    (λ full.
    let stopped : StoppedFull (driver_kind g.D.Driver.ENTRIES g.D.Driver.is_planned g.D.Driver.OwnEntries g.D.Driver.Follows) (after_of (sections_of c.args.script.now) (names_in c.play_kind.new.talk)) c.fork.new.first.view
    (carried c.take_text-setup.new.self.carried.files c.fork.new.first.carried.told c.take_text-setup.new.self.carried.maps) c.play_to_end.new.player.view
    = stops_so _ _ c.fork.new.first.carried.told c.fork.new.first.carried.maps c.take_text-setup.new.self.carried.maps (said_in_kind After (sections_of c.args.script.now)) quits c.leave_setup.new.self.begun (count_in_kind Setup (sections_of c.args.script.now)) (names_in c.leave_setup.new.self) (left_setup (names_in c.play_kind.new.talk)) c.fork.new.first.carried.files c.take_text-setup.new.self.carried.files number c.leave_setup.ensures.names c.in-Ok-fork.ensures.files c.fork.ensures.maps _ full.1 in
    inr (full_in_after (over c.args.first.now.carried.maps.left (driver_kind g.D.Driver.ENTRIES g.D.Driver.is_planned g.D.Driver.OwnEntries g.D.Driver.Follows)) c.requires.few_own (sections_of c.args.script.now) _ _ c.requires.first _ _ _ _ _ setup g.D.Port.Port.told _ _ _ _ _ c.fork.new.first.carried.told c.in-Ok-fork.ensures.forked stopped))
    c.in-Err-play_to_end.ensures.stopped

pub teach_all-requires-clause-bare : goal.teach_all-requires-clause-bare
teach_all-requires-clause-bare g c κs within =
    (c.args.first.now.carried.maps.left, subst (λ (m : Maps). AllHave g.D.Port.Port.maps g.D.Port.Port.maps_left m c.args.ports.now) c.requires.maps c.requires.bare)

pub fork-requires-clause-maps : goal.fork-requires-clause-maps
fork-requires-clause-maps g c κs within =
    let m = c.args.first.now.carried.maps in
    let waiting = c.take_text-setup.new.self.carried.maps in
    let learned = by_turns _ _ m.left _ _ c.in-Ok.ensures.played.turns _ _ c.in-Ok.ensures.played.follows (learned_first m c.requires.maps) in
    let same : taught c.maps.result.now m ≡ waiting =
    (λ i. taught ((c.maps.ensures.kept ∙ ap (λ k. k.maps.kept) c.take_text-setup.ensures.carried) i) (c.requires.maps i)) ∙ sym learned ∙ ap (λ k. k.maps) (sym c.take_text-setup.ensures.carried) in
    subst (λ (x : Maps). AllHave g.D.Port.Port.maps g.D.Port.Port.maps_left x c.teach_all.new.ports) same
    (all_have_taught g.D.Port.Port.maps g.D.Port.Port.maps_left g.D.Port.Port.told g.D.Port.Port.faults c.maps.result.now m c.args.ports.now c.teach_all.new.ports c.teach_all.ensures.taught c.requires.bare)

pub fork-requires-clause-there : goal.fork-requires-clause-there
fork-requires-clause-there g c κs within = λ n low less. let len = c.teach_all.ensures.ports_len in
    taught_there g.D.Port.Port.maps g.D.Port.Port.maps_left g.D.Port.Port.told g.D.Port.Port.faults c.maps.result.now _ _ (c.teach_all.ensures.taught n) ∙ c.requires.there n low (omega arith)

pub returns-in-Ok-play_to_end-clause-others : goal.returns-in-Ok-play_to_end-clause-others
returns-in-Ok-play_to_end-clause-others g c =
    let m = c.args.first.now.carried.maps in
    let waiting = c.take_text-setup.new.self.carried.maps in
    let learned = by_turns _ _ m.left _ _ c.in-Ok.ensures.played.turns _ _ c.in-Ok.ensures.played.follows (learned_first m c.requires.maps) in
    let same : taught c.maps.result.now m ≡ waiting =
    (λ i. taught ((c.maps.ensures.kept ∙ ap (λ k. k.maps.kept) c.take_text-setup.ensures.carried) i) (c.requires.maps i)) ∙ sym learned ∙ ap (λ k. k.maps) (sym c.take_text-setup.ensures.carried) in
    let after_none : AsksNoChips (says c.leave_setup.new.self.begun (said_in_kind After (sections_of c.args.script.now)) quits (names_in c.leave_setup.new.self))
    = ends_outside c.leave_setup.new.self.begun (said_in_kind After (sections_of c.args.script.now)) (names_in c.leave_setup.new.self) (ap (λ (names : Names). names.in_setup) c.leave_setup.ensures.names) in (
      record {
        taught_maps = c.maps.result.now;
        all_have = subst (λ (x : Maps). AllHave g.D.Port.Port.maps g.D.Port.Port.maps_left x c.fork.new.ports) (sym same) c.in-Ok-fork.ensures.ports_maps;
        learned = λ n far. subst (λ o. IsTaught g.D.Port.Port.maps g.D.Port.Port.maps_left g.D.Port.Port.told g.D.Port.Port.faults c.maps.result.now (slice_get c.args.ports.now n) o) (sym (c.in-Ok-fork.ensures.forked.others n far)) (c.teach_all.ensures.taught n);
        stay = λ without n far.
            let none : c.maps.result.now ≡ [] = c.maps.ensures.kept ∙ ap (λ k. k.maps.kept) c.take_text-setup.ensures.carried
            ∙ ap (λ (m : Maps). m.kept) ((turns_stay _ _ _ _ c.in-Ok.ensures.played.turns _ _ (subst (λ (x : ℕ × Names). AsksNoChips (says x.0 (said_in_kind Setup (sections_of c.args.script.now)) (λ names. done names) x.1)) (λ i. (sym c.requires.talk.1 i, sym c.requires.talk.0 i)) (asks_none (sections_of c.args.script.now) without).setup) c.in-Ok.ensures.played.follows).1 ∙ c.requires.maps) in
            c.in-Ok-fork.ensures.forked.others n far ∙ taught_none g.D.Port.Port.maps g.D.Port.Port.maps_left g.D.Port.Port.told g.D.Port.Port.faults c.maps.result.now none _ _ (c.teach_all.ensures.taught n);
      },
      ap (λ k. k.maps) c.take_text-last.ensures.carried ∙ (turns_stay _ _ _ _ c.in-Ok-play_to_end.ensures.played.turns _ _ after_none c.in-Ok-play_to_end.ensures.played.follows).1 ∙ c.fork.ensures.maps ∙ sym same,
    )

pub returns-in-Ok-play_to_end-clause-ports_len : goal.returns-in-Ok-play_to_end-clause-ports_len
returns-in-Ok-play_to_end-clause-ports_len g c = c.fork.ensures.ports_len ∙ c.teach_all.ensures.ports_len

pub returns-in-Err-play_to_end-clause-ports_len : goal.returns-in-Err-play_to_end-clause-ports_len
returns-in-Err-play_to_end-clause-ports_len g c = c.fork.ensures.ports_len ∙ c.teach_all.ensures.ports_len

pub returns-in-Err-fork-clause-ports_len : goal.returns-in-Err-fork-clause-ports_len
returns-in-Err-fork-clause-ports_len g c = c.fork.ensures.ports_len ∙ c.teach_all.ensures.ports_len

pub returns-in-Ok-play_to_end-clause-device : goal.returns-in-Ok-play_to_end-clause-device
returns-in-Ok-play_to_end-clause-device g c = c.take_text-last.ensures.device ∙ c.play_to_end.ensures.device ∙ c.fork.ensures.device ∙ c.take_text-setup.ensures.device ∙ c.play_kind.ensures.device

pub returns-in-Err-play_to_end-clause-device : goal.returns-in-Err-play_to_end-clause-device
returns-in-Err-play_to_end-clause-device g c = c.play_to_end.ensures.device ∙ c.fork.ensures.device ∙ c.take_text-setup.ensures.device ∙ c.play_kind.ensures.device

pub returns-in-Err-fork-clause-device : goal.returns-in-Err-fork-clause-device
returns-in-Err-fork-clause-device g c = c.fork.ensures.device ∙ c.take_text-setup.ensures.device ∙ c.play_kind.ensures.device

pub fork-requires-clause-alone : goal.fork-requires-clause-alone
fork-requires-clause-alone g c κs within =
    let first = new_first _ _ c.requires.first in (ap (λ v. v.number) c.take_text-setup.ensures.view ∙ c.in-Ok.ensures.played.grew.number ∙ first.0, ap (λ v. v.made) c.take_text-setup.ensures.view ∙ c.in-Ok.ensures.played.grew.made ∙ first.1)
