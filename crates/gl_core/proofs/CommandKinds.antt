-- A command is what those of its kind are.
use Rattle.std.proofs.Common.{◌≡◌, ℕ, List, refl, sym, subst}
use Rattle.gl_uapi.specs.declared.commands.Command.{Command}
use Rattle.gl_model.specs.Ioctl.{checked, in_part}
use Rattle.gl_model.specs.declared.call.Part.{Part}
use Rattle.gl_model.specs.declared.gift.Gift.{Gift}
use Rattle.gl_model.specs.declared.reply.Reply.{Reply}
use Rattle.gl_core.specs.Claims.{left_by}
use Rattle.gl_core.specs.Commanded.{chip_command, request_command}
use Rattle.gl_core.specs.declared.commanded.ChipCommand.{ChipCommand}
use Rattle.gl_core.specs.declared.commanded.ChipCommand.TheVariants.{ChipInfo, LineInfo, Watch, Unwatch}
use Rattle.gl_core.specs.declared.commanded.RequestCommand.{RequestCommand}
use Rattle.gl_core.specs.declared.commanded.RequestCommand.TheVariants.{SetConfig, GetValues, SetValues}
use Rattle.gl_core.specs.Kept.{Kept}
use Rattle.gl_core.specs.Steps.{StepsInto}

module _ (actor place fd len : ℕ) (bytes : List ℕ) (part : Part) (old new : Kept) (reply : Reply) (before after : List ℕ) where
  -- it does, in each of its parts, what it does once it is checked
  abbrev Comes : Command → Type 0
  Comes command = StepsInto (in_part actor place fd len command bytes part) old new reply before after

  abbrev Checked : Command → Type 0
  Checked command = StepsInto (checked actor place fd len command bytes part) old new reply before after

  chip_comes : (command : ChipCommand) → Checked (chip_command command) → Comes (chip_command command)
  chip_comes ChipInfo steps = steps
  chip_comes LineInfo steps = steps
  chip_comes Watch steps = steps
  chip_comes Unwatch steps = steps

  request_comes : (command : RequestCommand) → Checked (request_command command) → Comes (request_command command)
  request_comes SetConfig steps = steps
  request_comes GetValues steps = steps
  request_comes SetValues steps = steps

  pub on_chip_comes : (given : Command) (command : ChipCommand) → given ≡ chip_command command → Checked (chip_command command) → Comes given
  on_chip_comes given command is steps = subst Comes (sym is) (chip_comes command steps)

  pub on_request_comes : (given : Command) (command : RequestCommand) → given ≡ request_command command → Checked (request_command command) → Comes given
  on_request_comes given command is steps = subst Comes (sym is) (request_comes command steps)

module _ (part : Part) (reply : Reply) (gift : Gift) where
  chip_leaves : (command : ChipCommand) → gift ≡ left_by (chip_command command) part reply gift
  chip_leaves ChipInfo = refl
  chip_leaves LineInfo = refl
  chip_leaves Watch = refl
  chip_leaves Unwatch = refl

  request_leaves : (command : RequestCommand) → gift ≡ left_by (request_command command) part reply gift
  request_leaves SetConfig = refl
  request_leaves GetValues = refl
  request_leaves SetValues = refl

  -- and it leaves the gift
  pub on_chip_leaves : (given : Command) (command : ChipCommand) → given ≡ chip_command command → gift ≡ left_by given part reply gift
  on_chip_leaves given command is = subst (λ (c : Command). gift ≡ left_by c part reply gift) (sym is) (chip_leaves command)

  pub on_request_leaves : (given : Command) (command : RequestCommand) → given ≡ request_command command → gift ≡ left_by given part reply gift
  on_request_leaves given command is = subst (λ (c : Command). gift ≡ left_by c part reply gift) (sym is) (request_leaves command)
