-- A refused call leaves the core as it was.
use Rattle.std.proofs.Common.{◌≡◌, ℕ, false, List, [], ◌++◌, drop, length, sym, ap, ◌∙◌, subst}
use Rattle.gl_model.specs.Outcome.{Outcome}
use Rattle.gl_model.specs.Refusing.{IsRefused, is_failed_claim}
use Rattle.gl_model.specs.Step.{step}
use Rattle.gl_model.specs.declared.reply.Reply.{Reply}
use Rattle.gl_model.proofs.Refusing.{refusals_leave_all}
use Rattle.gl_core.specs.Kept.{kept_of}
use Rattle.gl_core.specs.Refusing.{RefusalsLeaveTheCore}

pub refusals_leave_the_core : RefusalsLeaveTheCore
refusals_leave_the_core old new actor call reply before after steps w s other refused =
    let out : Outcome = step w actor call in
    let done = steps w s in
    let left : (out.world ≡ w) × (out.bytes ≡ []) =
    refusals_leave_all.leaves w actor call (subst (λ (r : Reply). is_failed_claim call r ≡ false) done.1 other) (subst IsRefused done.1 refused) in
    (sym done.0.kept_so ∙ ap kept_of left.0 ∙ s.kept_so, done.2 ∙ ap (λ (bytes : List ℕ). bytes ++ drop (length bytes) before) left.1)
