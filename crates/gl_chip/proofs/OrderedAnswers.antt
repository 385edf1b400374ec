-- By which of its entries a call of the device is answered, and why it is refused.
use Rattle.std.proofs.Common.{◌≡◌, ℕ, Bool, true, false, List, Option, Some, refl, sym, ◌∙◌, subst}
use Rattle.std.proofs.lemmas.Bool.{true≢false}
use Rattle.gl_base.specs.Count.{Rises}
use Rattle.gl_driver.specs.declared.map.Map.{Map}
use Rattle.gl_driver.specs.Told.{Told}
use Rattle.gl_uapi.specs.Command.{command_of}
use Rattle.gl_uapi.specs.declared.commands.Command.TheVariants.{GetLine}
use Rattle.gl_gate.specs.Calls.{HasItsOwn}
use Rattle.gl_model.specs.declared.device_call.CommandIn.{CommandIn}
use Rattle.gl_model.specs.declared.device_call.DeviceCall.{DeviceCall}
use Rattle.gl_model.specs.declared.device_call.DeviceCall.TheVariants.{Once, Removing, Commanding}
use Rattle.gl_model.specs.declared.reply.Reply.{Reply}
use Rattle.gl_model.specs.Entries.{is_get_line}
use Rattle.gl_model.specs.Parts.{is_driver_asked}
use Rattle.gl_asking.specs.declared.kinds.FileKind.{FileKind}
use Rattle.gl_asking.specs.declared.kinds.FileKind.TheVariants.{Chip, Request}
use Rattle.gl_asking.specs.Driving.{op_for}
use Rattle.gl_chip.specs.Orders.{AnswersByEntries, FitsFile, HasDone, RefusedInOrder, lines_on, outcome_of}
use Rattle.gl_chip.specs.Values.{ActorValue, FollowsRelation, IsIdle, OwnRelation}
use Rattle.gl_chip.proofs.Answering.{answers_in_order, configures_in_order, no_get_line, requests_in_order}
use Rattle.gl_chip.proofs.RequestedLines.{gets_line}

-- which command GET_LINE is
get_line_by : (c : CommandIn) (of_chip : Bool) → c.of_chip ≡ of_chip → is_driver_asked c.of_chip c.len (command_of c.cmd) ≡ true → is_get_line (command_of c.cmd) ≡ true → command_of c.cmd ≡ Some GetLine
get_line_by c true chip asks is = gets_line c chip asks
get_line_by c false chip asks is = absurd (true≢false (sym is ∙ no_get_line c.len (command_of c.cmd) (subst (λ (b : Bool). is_driver_asked b c.len (command_of c.cmd) ≡ true) chip asks)))

module _ {P : Type 0} (told : P → Option Told) (faults : P → ℕ) (maps : P → List Map) (maps_left : P → ℕ) (Own : OwnRelation) (Follows : FollowsRelation) (limit : ℕ) where
  pub answers_by_entries : (call : DeviceCall) (on : FileKind) (a b : ActorValue P) (reply : Reply) (bytes : List ℕ) → HasDone told faults maps maps_left Own Follows limit call on a reply bytes b
      → IsIdle b.pass.view → HasItsOwn b.pass.view → AnswersByEntries call reply a.pass.view b.pass.view
  answers_by_entries (Once call) on a b reply bytes h idle own = tt
  answers_by_entries (Removing removal) on a b reply bytes h idle own = tt
  answers_by_entries (Commanding c) on a b reply bytes h idle own = λ asks let_in.
      answers_in_order told faults maps maps_left Own Follows limit {X = Reply} (λ r. r) (outcome_of reply) (op_for (lines_on on c) c) a b c reply bytes h refl asks let_in.2
      (λ is. (get_line_by c c.of_chip refl asks is, idle, own))

  pub refused_in_order : (call : DeviceCall) (on : FileKind) (a b : ActorValue P) (reply : Reply) (bytes : List ℕ) → FitsFile call on → HasDone told faults maps maps_left Own Follows limit call on a reply bytes b
      → IsIdle a.pass.view → IsIdle b.pass.view → HasItsOwn b.pass.view → RefusedInOrder (Rises (faults a.port) (faults b.port)) call on reply a.pass.view b.pass.view
  refused_in_order (Once call) on a b reply bytes fits h before idle own = tt
  refused_in_order (Removing removal) on a b reply bytes fits h before idle own = tt
  refused_in_order (Commanding c) Chip a b reply bytes fits h before idle own = λ asks let_in.
      requests_in_order told faults maps maps_left Own Follows limit {X = Reply} (λ r. r) (outcome_of reply) (op_for (lines_on Chip c) c) a b c reply bytes h refl asks let_in.2
      (gets_line c fits.0 asks) fits.0 before idle own
  refused_in_order (Commanding c) (Request lines) a b reply bytes fits h before idle own = λ asks let_in sets.
      configures_in_order told faults maps maps_left Own Follows limit {X = Reply} (λ r. r) (outcome_of reply) (op_for (lines_on (Request lines) c) c) a b c reply bytes h refl asks let_in.2 sets fits.0
