use Rattle.std.proofs.Common.{◌≡◌, Bool, true, false, rules, sym, ap, ◌∙◌}
use Rattle.std.proofs.lemmas.Bool.{false≢true}
use Rattle.std.proofs.lemmas.Bool.Decides.{Decides-at, Decides-like}
use Rattle.std.specs.Bool.{Decides}
use Rattle.gl_base.specs.declared.errno.Errno.TheVariants.{NoDev}
use Rattle.gl_model.specs.Step.{guard_reply}
use Rattle.gl_model.specs.declared.call.Call.TheVariants.{Refused as RefusedCall}
use Rattle.gl_model.specs.declared.reply.Reply.{Reply}
use Rattle.gl_model.specs.declared.reply.Reply.TheVariants.{Ready, Refused}
use Rattle.gl_model.specs.contracts.reply.ReplyPartialEq.TheImpl.{ghosts}
use Rattle.gl_check.proofs.SameCalls.{same_call}
use Rattle.gl_check.proofs.suiting.records_guard.Goals as goal

-- the comparison of the code decides whether a reply is that of a closed guard
same_guard : (r : Reply) (poll : Bool) → Decides (ghosts.eq r (guard_reply poll)) (r ≡ guard_reply poll)
same_guard r true = by r
  where
    by : (r : Reply) → Decides (ghosts.eq r (Ready 6)) (r ≡ Ready 6)
    by (Ready n) = search rules
    by _ = (λ e. absurd (false≢true e), λ e. cc)
same_guard r false = by r
  where
    by : (r : Reply) → Decides (ghosts.eq r (Refused NoDev)) (r ≡ Refused NoDev)
    by (Refused errno) = search rules
    by _ = (λ e. absurd (false≢true e), λ e. cc)

pub returns-then-eq : goal.returns-then-eq
returns-then-eq c =
    let call = (same_call c.args.entry.now.call (RefusedCall c.args.place c.args.poll)).0 (sym c.eq.ensures ∙ c.if-eq.true) in
    let reply = Decides-at c.eq-then-eq.result (ghosts.eq c.args.entry.now.reply (guard_reply c.args.poll)) (c.eq-then-eq.ensures ∙ ap (λ r. ghosts.eq c.args.entry.now.reply r) c.guard_reply.ensures) (same_guard c.args.entry.now.reply c.args.poll) in
    Decides-like c.eq-then-eq.result (λ is. (call, is)) (λ both. both.1) reply
