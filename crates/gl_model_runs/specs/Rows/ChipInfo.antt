-- The information on a chip, a buffer that is too short for it, and a number that is no command's.
use Rattle.std.specs.Prelude.{List, [], ◌∷◌, ◌++◌, codes}
use Rattle.gl_base.specs.declared.errno.Errno.TheVariants.{Inval, Fault}
use Rattle.gl_uapi.specs.Fields.{number_bytes, zeros}
use Rattle.gl_uapi.specs.declared.commands.Command.TheVariants.{ChipInfo}
use Rattle.gl_model.specs.declared.call.Call.TheVariants.{Ioctl}
use Rattle.gl_model.specs.declared.call.Part.TheVariants.{Whole}
use Rattle.gl_model.specs.declared.reply.Reply.TheVariants.{Refused}
use Rattle.gl_model_runs.specs.Rows.Structures.{by, command, four_lines, four_lines_given}
use Rattle.gl_model_runs.specs.Run.{Answer, Made, says, shows}

unfoldable pub run : List Made
run =
    four_lines
    ++ command 3 ChipInfo (zeros 68) Whole
    ∷ command 3 ChipInfo (zeros 67) Whole
    ∷ by 0 (Ioctl 0 3 0x0000_B401 68 (zeros 592) Whole)
    ∷ []

unfoldable pub given : List Answer
given =
    four_lines_given
    ++ shows (codes "gpiochip0" ++ zeros 23 ++ codes "demo" ++ zeros 28 ++ number_bytes 4 4)
    ∷ says (Refused Fault)
    ∷ says (Refused Inval)
    ∷ []
