-- A device of three banks goes live: its chips stand at the next places in the order in which the banks were made, with
-- the labels and lines of the banks, and a line is found by its name. Removing the device tells the first of its places and
-- how many there are; until the removal has ended, and by the actor that began it, the device is busy and its chips can't be
-- opened. Then it can be changed, and goes live again at further places.
use Rattle.std.specs.Prelude.{ℕ, List, [], ◌∷◌, ◌++◌, codes, true, false, Some, None}
use Rattle.gl_base.specs.Padded.{padded}
use Rattle.gl_base.specs.declared.errno.Errno.TheVariants.{BadF, Busy, Inval, NoDev, NoEnt, Perm}
use Rattle.gl_uapi.specs.Command.{number_of}
use Rattle.gl_uapi.specs.Fields.{number_bytes, zeros}
use Rattle.gl_uapi.specs.declared.commands.Command.TheVariants.{ChipInfo, LineInfo}
use Rattle.gl_model.specs.declared.call.Call.{Call}
use Rattle.gl_model.specs.declared.call.Call.TheVariants.{Find, Ioctl, Live, MakeDir, OpenChip, Read, Remove, RemoveDir, Unplug, Write}
use Rattle.gl_model.specs.declared.call.Part.TheVariants.{Whole}
use Rattle.gl_model.specs.declared.reply.Reply.TheVariants.{Found, Number, Refused, Text}
use Rattle.gl_model_runs.specs.Rows.Structures.{answers_in, by, calls_in, command, does, fails, info}
use Rattle.gl_model_runs.specs.Run.{Answer, Made, says, shows}

-- lines are looked for by a name, on one chip or on all, and the first one is this, of so many
abbrev pub finds : Call → ℕ → ℕ → ℕ → Made × Answer
finds call place offset count = (by 0 call, says (Found place offset count))

-- a file of the tree is read, and has this value
abbrev pub reads : List ℕ → List ℕ → Made × Answer
reads path value = (by 0 (Read path), says (Text value))

-- the information on a chip, by an open file of it
abbrev pub chip_info : ℕ → ℕ → Call
chip_info place fd = Ioctl place fd (number_of ChipInfo) 68 (zeros 592) Whole

-- the chip has this name and this label, and so many lines
abbrev pub chip_tells : ℕ → ℕ → List ℕ → List ℕ → ℕ → Made × Answer
chip_tells place fd name label lines =
    (by 0 (chip_info place fd), shows (padded 32 name ++ padded 32 label ++ number_bytes 4 lines))

-- the information on line 3 of the first bank: its name, no consumer, its offset, and that it is an input
abbrev pub button : List ℕ
button = padded 32 (codes "BUTTON") ++ zeros 32 ++ number_bytes 4 3 ++ zeros 4 ++ number_bytes 8 0x4 ++ zeros 176

-- The board: eight lines with a label, of which line 3 has a name; one line; two lines, where a name past them is passed
-- over. It isn't live yet.
abbrev pub built : List (Made × Answer)
built =
    does (MakeDir (codes "board"))
    ∷ fails (Live (codes "board")) Inval
    ∷ does (MakeDir (codes "board/soc"))
    ∷ does (Write (codes "board/soc/num_lines") (codes "8"))
    ∷ does (Write (codes "board/soc/label") (codes "soc-gpio"))
    ∷ does (MakeDir (codes "board/soc/line3"))
    ∷ does (Write (codes "board/soc/line3/name") (codes "BUTTON"))
    ∷ does (MakeDir (codes "board/exp"))
    ∷ does (MakeDir (codes "board/aux"))
    ∷ does (Write (codes "board/aux/num_lines") (codes "2"))
    ∷ does (MakeDir (codes "board/aux/line2"))
    ∷ does (Write (codes "board/aux/line2/name") (codes "FAR"))
    ∷ reads (codes "board/live") (codes "0")
    ∷ reads (codes "board/aux/chip_name") (codes "none")
    ∷ fails (Find None (codes "BUTTON")) NoEnt
    ∷ fails (Remove (codes "board") false) Perm
    ∷ []

-- It is live: three chips, which are looked at. A file is that of its own chip alone.
abbrev pub live : List (Made × Answer)
live =
    does (Live (codes "board"))
    ∷ fails (Live (codes "board")) Perm
    ∷ reads (codes "board/live") (codes "1")
    ∷ reads (codes "board/aux/chip_name") (codes "gpiochip2")
    ∷ finds (Find None (codes "BUTTON")) 0 3 1
    ∷ finds (Find (Some 0) (codes "BUTTON")) 0 3 1
    ∷ fails (Find (Some 1) (codes "BUTTON")) NoEnt
    ∷ fails (Find (Some 9) (codes "BUTTON")) NoEnt
    ∷ fails (Find None (codes "FAR")) NoEnt
    ∷ (by 0 (OpenChip (codes "gpiochip0")), says (Number 3))
    ∷ (by 0 (OpenChip (codes "1")), says (Number 4))
    ∷ (by 0 (OpenChip (codes "/dev/gpiochip2")), says (Number 5))
    ∷ fails (OpenChip (codes "gpiochip3")) NoEnt
    ∷ chip_tells 0 3 (codes "gpiochip0") (codes "soc-gpio") 8
    ∷ chip_tells 1 4 (codes "gpiochip1") (codes "board-exp") 1
    ∷ chip_tells 2 5 (codes "gpiochip2") (codes "board-aux") 2
    ∷ fails (chip_info 1 3) BadF
    ∷ (command 3 LineInfo (info [] 3 0) Whole, shows button)
    ∷ []

-- What a live device refuses, in the order of its cases; and its removal, which two actors would end.
abbrev pub leaving : List (Made × Answer)
leaving =
    fails (RemoveDir (codes "board/soc/pin3")) Inval
    ∷ fails (RemoveDir (codes "board/live")) Inval
    ∷ fails (RemoveDir (codes "board/gps")) NoEnt
    ∷ fails (RemoveDir (codes "board/exp")) Busy
    ∷ fails (MakeDir (codes "board/soc/pin3")) Inval
    ∷ fails (MakeDir (codes "board/gps/line0")) NoEnt
    ∷ fails (MakeDir (codes "board")) Busy
    ∷ fails (Write (codes "board/live") (codes "0")) Inval
    ∷ fails (Write (codes "board/gps/chip_name") (codes "x")) NoEnt
    ∷ fails (Write (codes "board/gps/label") (codes "x")) NoEnt
    ∷ fails (Write (codes "board/exp/chip_name") (codes "x")) Perm
    ∷ fails (Write (codes "board/exp/label") (codes "x")) Busy
    ∷ fails (Write (codes "board/exp/num_lines") (codes "0")) Busy
    ∷ fails (Unplug 0 false) Perm
    ∷ fails (Remove (codes "gpiochip0") false) Inval
    ∷ fails (Remove (codes "tray") false) NoEnt
    ∷ fails (Remove (codes "board") true) Busy
    ∷ (by 0 (Remove (codes "board") false), shows (0 ∷ 3 ∷ []))
    ∷ fails (Remove (codes "board") false) Busy
    ∷ fails (Live (codes "board")) Busy
    ∷ fails (RemoveDir (codes "board/exp")) Busy
    ∷ reads (codes "board/live") (codes "1")
    ∷ reads (codes "board/aux/chip_name") (codes "none")
    ∷ fails (Find None (codes "BUTTON")) NoEnt
    ∷ fails (OpenChip (codes "gpiochip1")) NoDev
    ∷ (by 1 (Remove (codes "board") true), says (Refused Busy))
    ∷ does (Remove (codes "board") true)
    ∷ fails (Remove (codes "board") true) Busy
    ∷ fails (OpenChip (codes "gpiochip1")) NoEnt
    ∷ []

-- It is off: directories are removed from below, and a name is given to two lines.
abbrev pub changed : List (Made × Answer)
changed =
    reads (codes "board/live") (codes "0")
    ∷ reads (codes "board/aux/chip_name") (codes "none")
    ∷ fails (RemoveDir (codes "board")) Busy
    ∷ fails (RemoveDir (codes "board/soc")) Busy
    ∷ does (RemoveDir (codes "board/soc/line3"))
    ∷ does (RemoveDir (codes "board/soc"))
    ∷ fails (RemoveDir (codes "board/soc")) NoEnt
    ∷ does (MakeDir (codes "board/aux/line1"))
    ∷ does (Write (codes "board/aux/line1/name") (codes "BUTTON"))
    ∷ does (MakeDir (codes "board/exp/line0"))
    ∷ does (Write (codes "board/exp/line0/name") (codes "BUTTON"))
    ∷ []

-- It is live again, at places 3 and 4, and removed.
abbrev pub again : List (Made × Answer)
again =
    does (Live (codes "board"))
    ∷ reads (codes "board/exp/chip_name") (codes "gpiochip3")
    ∷ finds (Find None (codes "BUTTON")) 3 0 2
    ∷ finds (Find (Some 4) (codes "BUTTON")) 4 1 1
    ∷ fails (Find (Some 0) (codes "BUTTON")) NoEnt
    ∷ (by 0 (Remove (codes "board") false), shows (3 ∷ 2 ∷ []))
    ∷ does (Remove (codes "board") true)
    ∷ fails (Remove (codes "board") false) Perm
    ∷ []

abbrev pub exchanges : List (Made × Answer)
exchanges = built ++ live ++ leaving ++ changed ++ again

unfoldable pub run : List Made
run = calls_in exchanges

unfoldable pub given : List Answer
given = answers_in exchanges
