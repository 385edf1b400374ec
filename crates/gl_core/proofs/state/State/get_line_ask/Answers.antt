use Rattle.std.proofs.Common.{◌≡◌, Option, Result, Ok, Err, Some, refl, sym, ap, ◌∙◌, subst, take}
use Rattle.gl_base.specs.declared.errno.Errno.{Errno}
use Rattle.gl_uapi.specs.declared.layout.TheConstants.{LINE_REQUEST_SIZE}
use Rattle.gl_model.specs.AskedLines.{AskedLines, asked_by, asked_in, request_fault}
use Rattle.gl_model.specs.Claiming.{claim}
use Rattle.gl_model.specs.Outcome.{Outcome, refused_or}
use Rattle.gl_model.specs.declared.reply.Reply.TheVariants.{Refused}
use Rattle.gl_model.proofs.AskedFor.{faultless_asked, refused_asked}
use Rattle.gl_core.specs.Kept.{StandsFor}
use Rattle.gl_core.proofs.HeldLines.{numbers_known}
use Rattle.gl_core.proofs.state.State.get_line_ask.Goals as goal

pub claim-requires-clause-numbers : goal.claim-requires-clause-numbers
claim-requires-clause-numbers c = numbers_known c.args.self.now c.requires.reached

-- it is refused: the bytes have that fault
pub returns-in-Err-clause-steps : goal.returns-in-Err-clause-steps
returns-in-Err-clause-steps c w s =
    let its = c.args.commanded.now in
    let bytes = take LINE_REQUEST_SIZE its.bytes.now in
    let brought : Some (Err c.in-Err.errno) ≡ Some (asked_by bytes) = ap (λ (asked : Result AskedLines Errno). Some asked) (sym c.in-Err.is) ∙ (sym c.in-Some.is ∙ c.requires.brings.asked) in
    subst (λ (fault : Option Errno). let out = refused_or fault w (claim its.place c.args.actor (asked_in bytes) w) in StandsFor c.args.self.now out.world × (Refused c.in-Err.errno ≡ out.reply))
    (sym (refused_asked (request_fault bytes) bytes c.in-Err.errno brought)) (s, refl)

-- what is asked for is what the bytes ask for, and they have no fault
pub returns-in-Ok-clause-steps : goal.returns-in-Ok-clause-steps
returns-in-Ok-clause-steps c w s =
    let its = c.args.commanded.now in
    let bytes = take LINE_REQUEST_SIZE its.bytes.now in
    let brought : Some (Ok c.in-Ok.asked) ≡ Some (asked_by bytes) = ap (λ (asked : Result AskedLines Errno). Some asked) (sym c.in-Ok.is) ∙ (sym c.in-Some.is ∙ c.requires.brings.asked) in
    let known = faultless_asked (request_fault bytes) bytes c.in-Ok.asked brought in
    let P : Outcome → Type 0 = λ out. StandsFor c.claim.new.self out.world × (c.claim.result ≡ out.reply) in
    subst (λ (fault : Option Errno). P (refused_or fault w (claim its.place c.args.actor (asked_in bytes) w))) (sym known.0)
    (subst (λ (asked : AskedLines). P (claim its.place c.args.actor asked w)) known.1 (c.claim.ensures.steps w s))
