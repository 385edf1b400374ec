-- The command by which a target is asked is one that may be made.
use Rattle.std.proofs.Common.{◌≡◌, ℕ, ◌<◌, ◌≤◌, Bool, List, length, Option, Some, None, false, sym, subst, ap, ◌∙◌}
use Rattle.std.specs.Prelude.{if◌then◌else◌}
use Rattle.std.proofs.lemmas.Bool.{lt-ltb}
use Rattle.gl_asking.specs.Driving.{op_of}
use Rattle.gl_base.specs.declared.command.TheConstants.{LINE_SET_CONFIG}
use Rattle.gl_base.specs.declared.op.Op.{Op}
use Rattle.gl_driver.specs.Calls.{FitsOp}
use Rattle.gl_driver.specs.declared.map.Target.{Target}
use Rattle.gl_model.specs.Entries.{is_get_line}
use Rattle.gl_model.specs.Fits.{FitsBytes}
use Rattle.gl_model.specs.declared.device_call.CommandIn.{CommandIn}
use Rattle.gl_uapi.specs.Command.{command_of}
use Rattle.gl_uapi.specs.declared.commands.Command.{Command}
use Rattle.gl_model.specs.Parts.{in_ask, in_tell}
use Rattle.gl_model.specs.declared.call.Call.{Call}
use Rattle.gl_model.specs.declared.call.Call.TheVariants.{Refused as RefusedCall}
use Rattle.gl_uapi.specs.NewRequest.{new_config_bytes}
use Rattle.gl_uapi.specs.declared.commands.Command.TheVariants.{SetConfig}
use Rattle.gl_uapi.specs.declared.layout.TheConstants.{ATTRIBUTES_MAX, LINE_REQUEST_SIZE}
use Rattle.gl_aggregator.specs.Commands.{attributes_to, config_to, flag_words, on_target, visit_by, visit_if}
use Rattle.gl_aggregator.specs.Own.{Visit}
use Rattle.gl_aggregator.specs.Routes.{LineAt}
use Rattle.gl_aggregator.specs.Visiting.{IsAsking, visit_in}

pub asking_fits : (target : Target) (cmd : ℕ) (bytes : List ℕ) (command : CommandIn) (op : Op) → command ≡ on_target target cmd bytes → is_get_line (command_of cmd) ≡ false → FitsBytes command.len command.bytes
    → 16 ≤ command.len → command.len ≤ LINE_REQUEST_SIZE → FitsOp op → IsAsking target.place (record { command = command; op = op })
asking_fits target cmd bytes command op is no_request fits long short op_fits = record {
  place_is = ap (λ (c : CommandIn). c.place) is;
  bytes = fits;
  no_request = ap (λ (c : CommandIn). is_get_line (command_of c.cmd)) is ∙ no_request;
  long = long;
  short = short;
  op = op_fits;
}

-- the visit of a command, whatever the driver behind is asked for it
abbrev visit_of : CommandIn → Option Op → Option (Visit Call)
visit_of command o = Some (record { ask = in_ask command; tell = λ answer. in_tell answer command; refused = RefusedCall command.place false; op = o })

of_config : (target : Target) (command : CommandIn) (o : Option Op) → command_of command.cmd ≡ Some SetConfig → o ≡ op_of target.lines (Some SetConfig) command.bytes → visit_of command o ≡ Some (visit_by target.lines command)
of_config target command o command_is o_is = ap (λ (x : Option Op). visit_of command x) (o_is ∙ ap (λ (x : Option Command). op_of target.lines x command.bytes) (sym command_is))

-- the visit by which lines are configured, where there is room for as many attributes
pub configured : (target : Target) (op : Op) (ls : List LineAt) (words : List ℕ) (command : CommandIn) (asked : Op) → words ≡ flag_words op ls → length words < ATTRIBUTES_MAX
    → command ≡ on_target target LINE_SET_CONFIG (new_config_bytes 0 (attributes_to op ls)) → op_of target.lines (Some SetConfig) command.bytes ≡ Some asked
    → Some (visit_in (record { command = command; op = asked })) ≡ visit_if target.lines (config_to target op ls)
configured target op ls words command asked words_are fit is asks =
    of_config target command (Some asked) (ap (λ (c : CommandIn). command_of c.cmd) is) (sym asks)
    ∙ (ap (λ (c : CommandIn). Some (visit_by target.lines c)) is
    ∙ ap (λ (b : Bool). visit_if target.lines (if b then Some (on_target target LINE_SET_CONFIG (new_config_bytes 0 (attributes_to op ls))) else None))
    (sym (lt-ltb (length (flag_words op ls)) ATTRIBUTES_MAX (subst (λ l. length l < ATTRIBUTES_MAX) words_are fit))))
