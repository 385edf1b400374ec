-- The calls of a visit as calls of the machine.
use Rattle.std.proofs.Common.{◌≡◌, ℕ, ◌<◌, ◌≤◌, List, length, take, false, Option, Some, None, refl, ap, ◌∙◌, sym, subst, arith, length-take}
use Rattle.std.proofs.lemmas.Bool.{true≢false}
use Rattle.std.proofs.lemmas.List.{take_all}
use Rattle.std.proofs.Math.Nat.{min-eq_left}
use Rattle.gl_base.specs.declared.limits.TheConstants.{PLACES}
use Rattle.gl_core.specs.Device.{core}
use Rattle.gl_model.specs.Fits.{Fits}
use Rattle.gl_model.specs.Parts.{in_ask, in_tell}
use Rattle.gl_model.specs.declared.call.Call.TheVariants.{Refused as RefusedCall}
use Rattle.gl_model.specs.declared.device_call.CommandIn.{CommandIn}
use Rattle.gl_model.specs.declared.gift.Gift.{Gift}
use Rattle.gl_uapi.specs.declared.layout.TheConstants.{LINE_REQUEST_SIZE}
use Rattle.gl_aggregator.specs.Visiting.{IsAskAt, IsAsking, IsRecordOf, IsTellAt}
use Rattle.gl_aggregator.specs.declared.commands.Asking.{Asking}

same_place : (p q : ℕ) → Some p ≡ Some q → q ≡ p
same_place p q e = sym (ap (λ o. place_in o) e) where
  place_in : Option ℕ → ℕ
  place_in None = 0
  place_in (Some x) = x

no_place : (p : ℕ) → None ≡ Some p → ⊥
no_place p e = subst (λ (o : Option ℕ). is_none o) e tt where
  is_none : Option ℕ → Type 0
  is_none None = Unit {0}
  is_none (Some x) = ⊥

pub record_of : (place : ℕ) → IsRecordOf core place (RefusedCall place false)
record_of place = record { ends_not = refl; begins_not = λ reply. refl; no_last_removal = refl; named = λ p e. no_place p e; refused = λ p e. same_place place p e }

pub ask_at : (c : CommandIn) → IsAskAt core c.place (in_ask c)
ask_at c = record { ends_not = refl; no_last_removal = refl; named = λ p e. same_place c.place p e; refused = λ p e. no_place p e }

pub tell_at : (c : CommandIn) (answer : Option ℕ) → IsTellAt core c.place (in_tell answer c)
tell_at c answer = record { ends_it = refl; begins_not = λ reply. refl; no_last_removal = refl; named = λ p e. same_place c.place p e; refused = λ p e. no_place p e }

-- the buffer of a command: as much of its bytes as it has length
buffer_long : (len : ℕ) (bytes : List ℕ) → length bytes ≡ LINE_REQUEST_SIZE → len ≤ LINE_REQUEST_SIZE → length (take len bytes) ≡ len
buffer_long len bytes whole short = length-take len bytes ∙ min-eq_left (omega (arith, whole, short))

buffer_same : (len : ℕ) (bytes : List ℕ) → length bytes ≡ LINE_REQUEST_SIZE → len ≤ LINE_REQUEST_SIZE → take LINE_REQUEST_SIZE (take len bytes) ≡ take len bytes
buffer_same len bytes whole short = take_all LINE_REQUEST_SIZE (take len bytes) (omega (arith, buffer_long len bytes whole short, short))

pub record_fits : (place : ℕ) (gift : Gift) (out : List ℕ) → place < PLACES → Fits (RefusedCall place false) gift out
record_fits place gift out within = record { fits_call = within; brings = tt; buffer_fits = tt }

pub ask_fits : (asking : Asking) (gift : Gift) (out : List ℕ) → asking.command.place < PLACES → IsAsking asking.command.place asking → out ≡ take asking.command.len asking.command.bytes → Fits (in_ask asking.command) gift out
ask_fits asking gift out within is out_is = subst (λ o. Fits (in_ask asking.command) gift o) (sym out_is) (record {
  fits_call = (within, is.bytes);
  brings = λ asks. absurd (true≢false (sym asks ∙ is.no_request));
  buffer_fits = (buffer_long asking.command.len asking.command.bytes is.bytes.whole is.short, buffer_same asking.command.len asking.command.bytes is.bytes.whole is.short);
})

pub tell_fits : (asking : Asking) (answer : Option ℕ) (gift : Gift) (out : List ℕ) → asking.command.place < PLACES → IsAsking asking.command.place asking → out ≡ take asking.command.len asking.command.bytes → Fits (in_tell answer asking.command) gift out
tell_fits asking answer gift out within is out_is = subst (λ o. Fits (in_tell answer asking.command) gift o) (sym out_is) (record {
  fits_call = (within, is.bytes);
  brings = tt;
  buffer_fits = (buffer_long asking.command.len asking.command.bytes is.bytes.whole is.short, buffer_same asking.command.len asking.command.bytes is.bytes.whole is.short);
})
