-- Where EIO of a command comes from.
use Rattle.std.proofs.lemmas.Bool.{true≢false}
use Rattle.gl_model.proofs.Refusals.{Only, OfPlain, only_of, only_when, of_command, of_unknown, of_info, of_watch, of_unwatch, of_request, of_claim, of_new_config, of_mask, of_values}
use Rattle.gl_model.proofs.Replies.{by}
use Rattle.std.proofs.Common.{◌≡◌, ℕ, Bool, true, false, not, nat_le, take, refl, sym, ap, ◌∙◌, inl, inr, List, [], ◌∷◌, Option, Some, None}
use Rattle.gl_base.specs.Refusals.{first_of, when}
use Rattle.gl_base.specs.declared.errno.Errno.TheVariants.{BadF, Busy, Inval, NoSpc, Perm, NoEnt, Io, NxIo, Again, Fault, Exist, MFile, OpNotSupp}
use Rattle.gl_uapi.specs.Fields.{number_at, number_bytes}
use Rattle.gl_watch.specs.Files.{file_at, unwatch_refusal, watch_refusal}
use Rattle.gl_model.specs.AskedLines.{asked_in, request_fault}
use Rattle.gl_model.specs.Commands.{info_refusal, offset_named, get_chip_info, with_watched, write_info}
use Rattle.gl_model.specs.Places.{lines_at}
use Rattle.gl_base.specs.declared.errno.Errno.{Errno}
use Rattle.gl_uapi.specs.Command.{command_of, size_of}
use Rattle.gl_uapi.specs.declared.commands.Command.{Command}
use Rattle.gl_uapi.specs.declared.commands.Command.TheVariants.{ChipInfo, LineInfo, Watch, Unwatch, GetLine, SetConfig, GetValues, SetValues}
use Rattle.gl_model.specs.declared.call.Part.{Part}
use Rattle.gl_model.specs.declared.call.Part.TheVariants.{Whole, Ask, Tell}
use Rattle.gl_model.specs.Claiming.{claim_at, claim_by, claim_refusal, told_claim, claim, claim_lines}
use Rattle.gl_model.specs.Ioctl.{act_on, by_number, checked, in_part}
use Rattle.gl_model.specs.OpenFiles.{command_refusal, in_parts, on_request, unknown_refusal}
use Rattle.gl_model.specs.Outcome.{Outcome, refused_or, done, refused, replies, writes}
use Rattle.gl_model.specs.World.{World, Request, request_at}
use Rattle.gl_base.specs.declared.lines.Lines.{Lines}
use Rattle.gl_base.specs.declared.settings.Resolved.{Resolved}
use Rattle.std.specs.Prelude.{nat_le}
use Rattle.gl_model.specs.Configuring.{config_refusal, reconfigure, set_config}
use Rattle.gl_model.specs.Values.{set_values_refusal, bits_in, drive_from, get_values, mask_in, set_values, values_of}
use Rattle.gl_attrs.specs.Setting.{resolved_for}
use Rattle.gl_model.specs.Bits.{has_bit_below}
use Rattle.gl_model.specs.Replies.{IoCause, IoHasCause}
use Rattle.gl_model.specs.declared.reply.Reply.{Reply}
use Rattle.gl_model.specs.declared.reply.Reply.TheVariants.{Go, Refused}
use Rattle.gl_base.specs.Lines.{offsets_of}
use Rattle.gl_uapi.specs.LineValues.{values_bytes}

abbrev is_io_error : Errno → Bool
is_io_error Io = true
is_io_error _ = false

-- the error of a refusal; of another reply any but EIO
abbrev error_in : Reply → Errno
error_in (Refused e) = e
error_in _ = Inval

other_error : {A : Type 0} (e : Errno) → is_io_error e ≡ false → e ≡ Io → A
other_error e other is = absurd (true≢false (sym (ap is_io_error is) ∙ other))

module _ (C : Type 0) where
  -- a reply EIO has this cause
  abbrev Causes : Outcome → Type 0
  Causes out = out.reply ≡ Refused Io → C

  abbrev Cause : Errno → Type 0
  Cause e = e ≡ Io → C

  refused_causes : (e : Errno) (w : World) → Cause e → Causes (refused e w)
  refused_causes e w cause is = cause (ap error_in is)

  answered_causes : (out : Outcome) → is_io_error (error_in out.reply) ≡ false → Causes out
  answered_causes out other is = other_error (error_in out.reply) other (ap error_in is)

  causes : (r : Option Errno) (w : World) (out : Outcome) → Only Cause r → Causes out → Causes (refused_or r w out)
  causes r w out only h = by Cause Causes refused_causes r w out only (λ _. h)

  others : OfPlain Cause
  others = record {
    perm = other_error Perm refl;
    no_ent = other_error NoEnt refl;
    nx_io = other_error NxIo refl;
    bad_f = other_error BadF refl;
    again = other_error Again refl;
    fault = other_error Fault refl;
    busy = other_error Busy refl;
    exist = other_error Exist refl;
    inval = other_error Inval refl;
    m_file = other_error MFile refl;
    no_spc = other_error NoSpc refl;
    op_not_supp = other_error OpNotSupp refl;
  }

  -- in two parts EIO is the tell's of a driver that failed
  in_parts_causes : (part : Part) (act : ℕ → World → Outcome) (w : World) → (part ≡ Tell None → C) → ((bits : ℕ) → Causes (act bits w)) → Causes (in_parts part act w)
  in_parts_causes Whole act w failed tell = answered_causes (in_parts Whole act w) refl
  in_parts_causes Ask act w failed tell = answered_causes (in_parts Ask act w) refl
  in_parts_causes (Tell None) act w failed tell = λ _. failed refl
  in_parts_causes (Tell (Some bits)) act w failed tell = tell bits

  on_request_causes : (act : Lines → Resolved → World → Outcome) (o : Option Request) (w : World) → ((request : Request) → o ≡ Some request → Causes (act request.lines request.settings w)) → Causes (on_request act o w)
  on_request_causes act None w h = answered_causes (on_request act None w) refl
  on_request_causes act (Some request) w h = h request refl

module _ (actor place fd len : ℕ) (whole : List ℕ) (part : Part) (w : World) where
  acts_cause : (command : Command) → Causes (IoCause w place fd (Some command) whole part) (act_on actor place fd command (take (size_of command) whole) part w)
  acts_cause ChipInfo = answered_causes ⊥ (get_chip_info place w) refl
  acts_cause LineInfo =
      let bytes : List ℕ = take (size_of LineInfo) whole in
      causes ⊥ (info_refusal place bytes w) w (write_info place (offset_named bytes) w) (of_info (Cause ⊥) (others ⊥) place bytes w) (answered_causes ⊥ (write_info place (offset_named bytes) w) refl)
  acts_cause Watch =
      let bytes : List ℕ = take (size_of Watch) whole in
      let faults = info_refusal place bytes w ∷ watch_refusal (offset_named bytes) (file_at fd w.files) ∷ [] in
      let out : Outcome = write_info place (offset_named bytes) (with_watched fd (offset_named bytes) true w) in
      causes ⊥ (first_of faults) w out (only_of (Cause ⊥) faults (of_info (Cause ⊥) (others ⊥) place bytes w, (of_watch (Cause ⊥) (others ⊥) (offset_named bytes) (file_at fd w.files), tt))) (answered_causes ⊥ out refl)
  acts_cause Unwatch =
      let bytes : List ℕ = take (size_of Unwatch) whole in
      let past : Bool = nat_le (lines_at w place) (number_at 4 0 bytes) in
      let faults = when past Inval ∷ unwatch_refusal (number_at 4 0 bytes) (file_at fd w.files) ∷ [] in
      let out : Outcome = writes (number_bytes 4 (number_at 4 0 bytes)) (with_watched fd (number_at 4 0 bytes) false w) in
      causes ⊥ (first_of faults) w out
      (only_of (Cause ⊥) faults (only_when (Cause ⊥) past Inval (λ _. (others ⊥).inval), (of_unwatch (Cause ⊥) (others ⊥) (number_at 4 0 bytes) (file_at fd w.files), tt))) (answered_causes ⊥ out refl)
  acts_cause GetLine =
      let bytes : List ℕ = take (size_of GetLine) whole in
      let C : Type 0 = IoCause w place fd (Some GetLine) whole part in
      let out : Outcome = replies (Go w.next) (claim_lines place actor (asked_in bytes) w) in
      causes C (request_fault bytes) w (claim place actor (asked_in bytes) w) (of_request (Cause C) (others C) bytes)
      (causes C (claim_refusal place actor (asked_in bytes) w) w out (of_claim (Cause C) (others C) place actor (asked_in bytes) w (λ locked _. inr locked)) (answered_causes C out refl))
  acts_cause SetConfig =
      let bytes : List ℕ = take (size_of SetConfig) whole in
      let C : Type 0 = IoCause w place fd (Some SetConfig) whole part in
      on_request_causes C (set_config place fd bytes part) (request_at w.requests fd) w
      (λ request is.
      let act : ℕ → World → Outcome = λ bits v. done (reconfigure place fd request.lines request.settings (resolved_for bytes request.lines.count) bits v) in
      causes C (config_refusal place request.lines bytes w) w (in_parts part act w)
      (of_new_config (Cause C) (others C) place request.lines bytes w (λ locked _. inr (request, is, locked)))
      (in_parts_causes C part act w (λ failed. inl failed) (λ bits. answered_causes C (act bits w) refl)))
  acts_cause GetValues =
      let bytes : List ℕ = take (size_of GetValues) whole in
      let C : Type 0 = part ≡ Tell None in
      on_request_causes C (get_values place bytes part) (request_at w.requests fd) w
      (λ request is.
      let act : ℕ → World → Outcome = λ answered v. writes (values_bytes (values_of place request.lines (mask_in bytes) answered v) (mask_in bytes)) v in
      causes C (when (not (has_bit_below request.lines.count (mask_in bytes))) Inval) w (in_parts part act w)
      (of_mask (Cause C) (others C) request.lines (mask_in bytes))
      (in_parts_causes C part act w (λ failed. failed) (λ bits. answered_causes C (act bits w) refl)))
  acts_cause SetValues =
      let bytes : List ℕ = take (size_of SetValues) whole in
      let C : Type 0 = part ≡ Tell None in
      on_request_causes C (set_values place bytes part) (request_at w.requests fd) w
      (λ request is.
      let act : ℕ → World → Outcome = λ answered v. done (drive_from place (mask_in bytes) (bits_in bytes) 0 (offsets_of request.lines) v) in
      causes C (set_values_refusal place request.lines (mask_in bytes) w) w (in_parts part act w)
      (of_values (Cause C) (others C) place request.lines (mask_in bytes) w)
      (in_parts_causes C part act w (λ failed. failed) (λ bits. answered_causes C (act bits w) refl)))

  checks_cause : (command : Command) → Causes (IoCause w place fd (Some command) whole part) (checked actor place fd len command whole part w)
  checks_cause command =
      let C : Type 0 = IoCause w place fd (Some command) whole part in
      causes C (command_refusal place fd len command part w) w (act_on actor place fd command (take (size_of command) whole) part w) (of_command (Cause C) (others C) place fd len command part w) (acts_cause command)

tells_cause : (answer : Option ℕ) (len : ℕ) (bytes : List ℕ) (o : Option Request) (w : World) → Causes (Tell answer ≡ Tell None) (told_claim answer len bytes o w)
tells_cause answer len bytes None w = answered_causes (Tell answer ≡ Tell None) (told_claim answer len bytes None w) refl
tells_cause None len bytes (Some request) w = λ _. refl
tells_cause (Some bits) len bytes (Some request) w = answered_causes (Tell (Some bits) ≡ Tell None) (told_claim (Some bits) len bytes (Some request) w) refl

in_part_cause : (actor place fd len : ℕ) (command : Command) (bytes : List ℕ) (part : Part) (w : World) → Causes (IoCause w place fd (Some command) bytes part) (in_part actor place fd len command bytes part w)
in_part_cause actor place fd len ChipInfo bytes part w = checks_cause actor place fd len bytes part w ChipInfo
in_part_cause actor place fd len LineInfo bytes part w = checks_cause actor place fd len bytes part w LineInfo
in_part_cause actor place fd len Watch bytes part w = checks_cause actor place fd len bytes part w Watch
in_part_cause actor place fd len Unwatch bytes part w = checks_cause actor place fd len bytes part w Unwatch
in_part_cause actor place fd len GetLine bytes Whole w = checks_cause actor place fd len bytes Whole w GetLine
in_part_cause actor place fd len GetLine bytes Ask w = checks_cause actor place fd len bytes Ask w GetLine
in_part_cause actor place fd len GetLine bytes (Tell answer) w = λ is. inl (tells_cause answer len bytes (claim_at place (claim_by w.requests actor)) w is)
in_part_cause actor place fd len SetConfig bytes part w = checks_cause actor place fd len bytes part w SetConfig
in_part_cause actor place fd len GetValues bytes part w = checks_cause actor place fd len bytes part w GetValues
in_part_cause actor place fd len SetValues bytes part w = checks_cause actor place fd len bytes part w SetValues

by_number_cause : (actor place fd len : ℕ) (command : Option Command) (bytes : List ℕ) (part : Part) (w : World) → Causes (IoCause w place fd command bytes part) (by_number actor place fd len command bytes part w)
by_number_cause actor place fd len None bytes part w = refused_causes ⊥ (unknown_refusal place fd w) w (of_unknown (Cause ⊥) (others ⊥) place fd w)
by_number_cause actor place fd len (Some command) bytes part w = in_part_cause actor place fd len command bytes part w

pub io_has_cause : IoHasCause
io_has_cause w actor place fd cmd len bytes part = by_number_cause actor place fd len (command_of cmd) bytes part w
