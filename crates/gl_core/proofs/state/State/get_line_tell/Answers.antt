use Rattle.std.proofs.Common.{◌≡◌, ◌++◌, ℕ, Option, Some, None, drop, length, refl, ap, sym, ◌∙◌, subst}
use Rattle.gl_base.specs.declared.errno.Errno.TheVariants.{Io}
use Rattle.gl_request.specs.Request.{is_number, request_at as row_at}
use Rattle.gl_request.proofs.Found.{found_some}
use Rattle.gl_model.specs.Claiming.{claim_at, claim_by, get_line_tell, with_fd}
use Rattle.gl_model.specs.Outcome.{Outcome}
use Rattle.gl_model.specs.declared.reply.Reply.{Reply}
use Rattle.gl_model.specs.declared.reply.Reply.TheVariants.{Number, Refused}
use Rattle.gl_core.specs.Kept.{Kept, StandsFor, kept_request}
use Rattle.gl_core.proofs.Telling.{row_number, told_of}
use Rattle.gl_core.proofs.state.State.get_line_tell.Goals as goal

pub returns-in-None-answer : goal.returns-in-None-answer
returns-in-None-answer c w s =
    let k : Kept = c.args.self.now in
    let len : ℕ = length c.args.out.now in
    let P : Outcome → Type 0 = λ out. StandsFor c.drop_claim.new.self out.world × (◌≡◌ {A = Reply} (Refused Io) out.reply) × (c.args.out.now ≡ out.bytes ++ drop (length out.bytes) c.args.out.now) in
    subst (λ (answer : Option ℕ). P (get_line_tell c.args.place c.args.actor answer len c.args.bytes.now w)) (sym c.in-None-answer.is)
    (told_of P None len c.args.bytes.now w (row_at k.requests c.in-Some.found.fd) (claim_at c.args.place (claim_by w.requests c.args.actor)) (c.in-Some.ensures.told w s)
    (found_some (is_number c.in-Some.found.fd) k.requests c.in-Some.found.at c.in-Some.ensures.stands)
    (λ request same. (c.drop_claim.ensures request same w s, refl, refl)))

pub returns-in-Some-answer : goal.returns-in-Some-answer
returns-in-Some-answer c w s =
    let k : Kept = c.args.self.now in
    let len : ℕ = length c.args.out.now in
    let P : Outcome → Type 0 = λ out. StandsFor c.hold_claim.new.self out.world × (◌≡◌ {A = Reply} (Number c.from.result) out.reply) × (c.write_with_fd.new.out ≡ out.bytes ++ drop (length out.bytes) c.args.out.now) in
    subst (λ (answer : Option ℕ). P (get_line_tell c.args.place c.args.actor answer len c.args.bytes.now w)) (sym c.in-Some-answer.is)
    (told_of P (Some c.in-Some-answer.bits) len c.args.bytes.now w (row_at k.requests c.in-Some.found.fd) (claim_at c.args.place (claim_by w.requests c.args.actor)) (c.in-Some.ensures.told w s)
    (found_some (is_number c.in-Some.found.fd) k.requests c.in-Some.found.at c.in-Some.ensures.stands)
    (λ request same.
    let number : request.fd ≡ c.in-Some.found.fd = row_number k.requests c.in-Some.found.fd (kept_request request) same in (
      c.hold_claim.ensures request same w s,
      ap Number (c.from.ensures ∙ sym number),
      subst (λ (fd : ℕ). let bytes = with_fd len fd c.args.bytes.now in c.write_with_fd.new.out ≡ bytes ++ drop (length bytes) c.args.out.now) (sym number) c.write_with_fd.ensures,
    )))
