-- The machine answers Go to an ask of GET_LINE only where its structure has no fault.
use Rattle.std.proofs.Common.{◌≡◌, ℕ, true, List, take, Option, None, Some, refl, sym, subst}
use Rattle.std.proofs.lemmas.Bool.{true≢false}
use Rattle.gl_base.specs.declared.errno.Errno.{Errno}
use Rattle.gl_uapi.specs.Command.{size_of}
use Rattle.gl_uapi.specs.declared.commands.Command.{Command}
use Rattle.gl_uapi.specs.declared.commands.Command.TheVariants.{GetLine}
use Rattle.gl_model.specs.AskedLines.{asked_in, request_fault}
use Rattle.gl_model.specs.Claiming.{claim}
use Rattle.gl_model.specs.Entries.{is_go}
use Rattle.gl_model.specs.Ioctl.{act_on, by_number, checked}
use Rattle.gl_model.specs.OpenFiles.{command_refusal}
use Rattle.gl_model.specs.Outcome.{Outcome, refused_or}
use Rattle.gl_model.specs.World.{World}
use Rattle.gl_model.specs.declared.call.Part.TheVariants.{Ask}

-- what is answered Go wasn't refused
go_unrefused : (refusal : Option Errno) (w : World) (out : Outcome) → is_go (refused_or refusal w out).reply ≡ true → (refusal ≡ None) × (is_go out.reply ≡ true)
go_unrefused None w out e = (refl, e)
go_unrefused (Some errno) w out e = absurd (true≢false (sym e))

pub go_by_number : (w : World) (by : ℕ) (place fd len : ℕ) (bytes : List ℕ) (command : Option Command) → command ≡ Some GetLine → is_go (by_number by place fd len command bytes Ask w).reply ≡ true → request_fault (take (size_of GetLine) bytes) ≡ None
go_by_number w by place fd len bytes command is e =
    let go : is_go (checked by place fd len GetLine bytes Ask w).reply ≡ true = subst (λ (o : Option Command). is_go (by_number by place fd len o bytes Ask w).reply ≡ true) is e in
    let passed = go_unrefused (command_refusal place fd len GetLine Ask w) w (act_on by place fd GetLine (take (size_of GetLine) bytes) Ask w) go in
    (go_unrefused (request_fault (take (size_of GetLine) bytes)) w (claim place by (asked_in (take (size_of GetLine) bytes)) w) passed.1).0
