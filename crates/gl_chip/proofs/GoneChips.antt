-- An unplug that finds the chip removed.
use Rattle.std.proofs.Common.{◌≡◌, ℕ, List, [], ◌∷◌, ◌++◌, sym, refl, ap, ◌∙◌, Bool, true, false, Result, Err}
use Rattle.std.specs.Prelude.{◌↔◌, ◌&&◌, not}
use Rattle.std.proofs.lemmas.Bool.{true≢false}
use Rattle.gl_base.specs.Phases.{is_absent, is_gone, is_leaving}
use Rattle.gl_base.specs.Refusals.{first_of, when}
use Rattle.gl_base.specs.declared.errno.Errno.{Errno}
use Rattle.gl_base.specs.declared.errno.Errno.TheVariants.{Busy, NoDev, NoEnt, Perm}
use Rattle.gl_base.specs.declared.phase.Phase.{Phase}
use Rattle.gl_base.specs.declared.phase.Phase.TheVariants.{Absent, Up, Leaving, Gone}
use Rattle.gl_world.specs.History.{entry, fold}
use Rattle.gl_gate.specs.Calls.{Acts}
use Rattle.gl_model.specs.declared.call.Call.{Call}
use Rattle.gl_model.specs.declared.call.Call.TheVariants.{Unplug}
use Rattle.gl_model.specs.declared.reply.Reply.{Reply}
use Rattle.gl_model.specs.declared.reply.Reply.TheVariants.{Done, Refused}
use Rattle.gl_model.specs.Chips.{phase_at}
use Rattle.gl_model.specs.Entries.{is_done, last_call}
use Rattle.gl_model.specs.Outcome.{done, refused_or, writes}
use Rattle.gl_model.specs.Places.{origin_at}
use Rattle.gl_model.specs.Removal.{begin_unplug, end_unplug, is_actor, is_outside_tree, phase_refusal}
use Rattle.gl_model.specs.World.{World}
use Rattle.gl_chip.specs.Opened.{LastFinds}
use Rattle.gl_chip.specs.Removals.{HasEnded, is_gone_outside}
use Rattle.gl_asking.specs.Results.{done_of}
use Rattle.gl_core.specs.Device.{OneEntry, core}
use Rattle.gl_chip.specs.Values.{OneView}
use Rattle.gl_chip.proofs.CommandCalls.{answered_last}
use Rattle.gl_chip.proofs.OpenedChips.{found_last, is_no_dev}
use Rattle.gl_chip.proofs.WholeCalls.{errno_is_told}

-- the first call of an unplug, by the chip's phase and whether it is of no device
gone_refuses : (phase : Phase) (outside : Bool) (w v : World) (bytes : List ℕ) → is_gone phase && outside ≡ true
    → (refused_or (first_of (when (is_absent phase) NoEnt ∷ when (not outside) Perm ∷ phase_refusal phase ∷ [])) w (writes bytes v)).reply ≡ Refused NoDev
gone_refuses Absent b w v bytes h = absurd (true≢false (sym h))
gone_refuses Up b w v bytes h = absurd (true≢false (sym h))
gone_refuses Leaving b w v bytes h = absurd (true≢false (sym h))
gone_refuses Gone true w v bytes h = refl
gone_refuses Gone false w v bytes h = absurd (true≢false (sym h))

refused_gone : (phase : Phase) (outside : Bool) (w v : World) (bytes : List ℕ) → (refused_or (first_of (when (is_absent phase) NoEnt ∷ when (not outside) Perm ∷ phase_refusal phase ∷ [])) w (writes bytes v)).reply ≡ Refused NoDev
    → is_gone phase && outside ≡ true
refused_gone Absent b w v bytes h = absurd (true≢false (sym (ap is_no_dev h)))
refused_gone Up true w v bytes h = absurd (true≢false (sym (ap is_no_dev h)))
refused_gone Up false w v bytes h = absurd (true≢false (sym (ap is_no_dev h)))
refused_gone Leaving true w v bytes h = absurd (true≢false (sym (ap is_no_dev h)))
refused_gone Leaving false w v bytes h = absurd (true≢false (sym (ap is_no_dev h)))
refused_gone Gone true w v bytes h = refl
refused_gone Gone false w v bytes h = absurd (true≢false (sym (ap is_no_dev h)))

-- its last call, where that was done, found the chip leaving
done_not_gone : (phase : Phase) (outside by : Bool) (w v : World) → (refused_or (when (not (outside && (is_leaving phase && by))) Busy) w (done v)).reply ≡ Done → is_gone phase && outside ≡ true → ⊥
done_not_gone Absent outside by w v is h = true≢false (sym h)
done_not_gone Up outside by w v is h = true≢false (sym h)
done_not_gone Leaving outside by w v is h = true≢false (sym h)
done_not_gone Gone true by w v is h = true≢false (sym (ap is_done is))
done_not_gone Gone false by w v is h = true≢false (sym h)

-- the first call of an unplug finds no such chip exactly where it was removed
pub refused_as_gone : (v w : OneView) (place : ℕ) (call : Call) (reply : Reply) (old new : List ℕ) → call ≡ Unplug place false → Acts core v call reply old new w → (reply ≡ Refused NoDev) ↔ LastFinds (is_gone_outside place) w.seen
refused_as_gone v w place call reply old new is acts =
    let before : List OneEntry = v.seen ++ acts.between in let world : World = fold core before in
    let told : reply ≡ (begin_unplug v.number place world).reply = acts.answer ∙ ap (λ (c : Call). core.reply_of world v.number c) is in (
      (λ gone. (before, entry v.number call reply, acts.seen, refused_gone (phase_at world place) (is_outside_tree world place) world _ _ (sym told ∙ gone))),
      (λ found. told ∙ gone_refuses (phase_at world place) (is_outside_tree world place) world _ _ (found_last (is_gone_outside place) w.seen before (entry v.number call reply) acts.seen found)),
    )

done_no_dev : Done ≡ Refused NoDev → ⊥
done_no_dev e = true≢false (ap is_done e)

-- and one that has ended found it leaving
pub ended_not_gone : (from count : ℕ) (v w : OneView) (place : ℕ) (first : Call) (reply : Reply) → first ≡ Unplug place false → HasEnded from count first v reply w → (reply ≡ Refused NoDev) ↔ LastFinds (is_gone_outside place) w.seen
ended_not_gone from count v w place first reply is ended =
    let world : World = fold core ended.last.0 in
    let told : (end_unplug v.number place world).reply ≡ Done = sym (answered_last v w (last_call first) reply ended.last ended.legal ∙ ap (λ (c : Call). core.reply_of world v.number (last_call c)) is) ∙ ended.done in (
      (λ gone. absurd (done_no_dev (sym ended.done ∙ gone))),
      (λ found. absurd (done_not_gone (phase_at world place) (is_outside_tree world place) (is_actor v.number (origin_at world place).remover) world _ told
          (found_last (is_gone_outside place) w.seen ended.last.0 (entry v.number (last_call first) reply) ended.last.1 found))),
    )

-- what is true of the reply is true of the result
pub gone_is_told : (reply : Reply) (result : Result (Unit {0}) Errno) (P : Type 0) → result ≡ done_of reply → (reply ≡ Refused NoDev) ↔ P → (result ≡ Err NoDev) ↔ P
gone_is_told reply result P is tells = ((λ e. tells.0 (errno_is_told (λ _. tt) NoDev reply (sym is ∙ e))), (λ p. is ∙ ap (λ r. done_of r) (tells.1 p)))
