-- Calls that write nothing: what they do is what a call does that has a buffer and leaves it.
use Rattle.std.proofs.Common.{◌≡◌, ℕ, ◌++◌, List, [], ◌∷◌, drop, length, Option, Some, None, refl, sym, subst, arith}
use Rattle.gl_base.specs.declared.errno.Errno.{Errno}
use Rattle.gl_base.specs.declared.lines.Lines.{Lines}
use Rattle.gl_base.specs.declared.settings.Resolved.{Resolved}
use Rattle.gl_model.specs.AskedLines.{asked_in, request_fault}
use Rattle.gl_model.specs.Claiming.{claim_refusal, get_line_ask}
use Rattle.gl_model.specs.Configuring.{set_config}
use Rattle.gl_model.specs.OpenFiles.{in_parts, on_request}
use Rattle.gl_model.specs.Fits.{Leaves}
use Rattle.gl_model.specs.Outcome.{Outcome, refused_or}
use Rattle.gl_model.specs.Step.{step}
use Rattle.gl_model.specs.Values.{set_values}
use Rattle.gl_model.specs.World.{Request, World}
use Rattle.gl_model.specs.declared.call.Call.{Call}
use Rattle.gl_model.specs.declared.call.Part.{Part}
use Rattle.gl_model.specs.declared.call.Part.TheVariants.{Whole, Ask, Tell}
use Rattle.gl_model.specs.declared.gift.Gift.{Gift}
use Rattle.gl_model.specs.declared.reply.Reply.{Reply}
use Rattle.gl_core.specs.Kept.{Kept}
use Rattle.gl_core.specs.Steps.{Steps, StepsInto}

-- an outcome writes nothing
abbrev pub IsSilent : Outcome → Type 0
IsSilent out = length out.bytes ≡ 0

stays : (bytes out : List ℕ) → length bytes ≡ 0 → out ≡ bytes ++ drop (length bytes) out
stays [] out none = refl
stays (byte ∷ bytes) out none = absurd (omega arith)

pub silent : (step : World → Outcome) (old new : Kept) (reply : Reply) (out : List ℕ) → ((w : World) → IsSilent (step w)) → Steps step old new reply → StepsInto step old new reply out out
silent step old new reply out none steps w s = let done = steps w s in (done.0, done.1, stays (step w).bytes out (none w))

-- a call that is known, and writes nothing
pub step_told : (actor : ℕ) (given call : Call) (old new : Kept) (reply : Reply) (out : List ℕ) → given ≡ call → ((w : World) → IsSilent (step w actor call)) → Steps (λ w. step w actor call) old new reply
    → StepsInto (λ w. step w actor given) old new reply out out
step_told actor given call old new reply out is none steps =
    subst (λ call. StepsInto (λ w. step w actor call) old new reply out out) (sym is) (silent (λ w. step w actor call) old new reply out none steps)

-- a call that is known, and writes to its buffer
pub step_known : (actor : ℕ) (given call : Call) (old new : Kept) (reply : Reply) (before after : List ℕ) → given ≡ call → StepsInto (λ w. step w actor call) old new reply before after
    → StepsInto (λ w. step w actor given) old new reply before after
step_known actor given call old new reply before after is steps = subst (λ call. StepsInto (λ w. step w actor call) old new reply before after) (sym is) steps

-- what a call leaves of its gift that is known
pub leaves_known : (given call : Call) (reply : Reply) (old new : Gift) → given ≡ call → Leaves call reply old new → Leaves given reply old new
leaves_known given call reply old new is left = subst (λ call. Leaves call reply old new) (sym is) left

-- refused or silent

unless_refused : (r : Option Errno) (w : World) (out : Outcome) → IsSilent out → IsSilent (refused_or r w out)
unless_refused None w out h = h
unless_refused (Some errno) w out h = refl

in_each_part : (part : Part) (act : ℕ → World → Outcome) (w : World) → ((bits : ℕ) → IsSilent (act bits w)) → IsSilent (in_parts part act w)
in_each_part Whole act w h = refl
in_each_part Ask act w h = refl
in_each_part (Tell None) act w h = refl
in_each_part (Tell (Some bits)) act w h = h bits

on_each_request : (act : Lines → Resolved → World → Outcome) (r : Option Request) (w : World) → ((lines : Lines) (settings : Resolved) → IsSilent (act lines settings w)) → IsSilent (on_request act r w)
on_each_request act None w h = refl
on_each_request act (Some request) w h = h request.lines request.settings

-- the commands that write nothing

pub ask_silent : (place actor : ℕ) (bytes : List ℕ) (w : World) → IsSilent (get_line_ask place actor bytes w)
ask_silent place actor bytes w = unless_refused (request_fault bytes) w _ (unless_refused (claim_refusal place actor (asked_in bytes) w) w _ refl)

pub config_silent : (place fd : ℕ) (bytes : List ℕ) (part : Part) (r : Option Request) (w : World) → IsSilent (on_request (set_config place fd bytes part) r w)
config_silent place fd bytes part r w = on_each_request (set_config place fd bytes part) r w (λ lines settings. unless_refused _ w _ (in_each_part part _ w (λ bits. refl)))

pub values_silent : (place : ℕ) (bytes : List ℕ) (part : Part) (r : Option Request) (w : World) → IsSilent (on_request (set_values place bytes part) r w)
values_silent place bytes part r w = on_each_request (set_values place bytes part) r w (λ lines settings. unless_refused _ w _ (in_each_part part _ w (λ bits. refl)))
