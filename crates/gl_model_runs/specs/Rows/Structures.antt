-- The calls of worked runs, and the structures of `linux/gpio.h` that they hand in and get, by their fields.
use Rattle.std.specs.Prelude.{ℕ, Bool, false, List, [], ◌∷◌, ◌++◌, codes, length, flat_map, map, Some}
use Rattle.gl_base.specs.Padded.{padded}
use Rattle.gl_base.specs.declared.errno.Errno.{Errno}
use Rattle.gl_base.specs.declared.kind.Kind.TheVariants.{Simulated}
use Rattle.gl_uapi.specs.Command.{number_of}
use Rattle.gl_uapi.specs.Fields.{number_bytes, zeros}
use Rattle.gl_uapi.specs.declared.commands.Command.{Command}
use Rattle.gl_uapi.specs.declared.commands.Command.TheVariants.{GetLine, GetValues, SetConfig}
use Rattle.gl_model.specs.declared.call.Call.{Call}
use Rattle.gl_model.specs.declared.call.Call.TheVariants.{Ioctl, Level, OpenChip, Probe, Pull, Tick}
use Rattle.gl_model.specs.declared.call.Part.{Part}
use Rattle.gl_model.specs.declared.call.Part.TheVariants.{Ask, Tell}
use Rattle.gl_model.specs.declared.reply.Reply.TheVariants.{Done, Go, Number, Refused}
use Rattle.gl_model_runs.specs.Run.{Answer, Made, says, shows}

-- an attribute of this kind, for the lines of a mask
abbrev pub attribute : ℕ → ℕ → ℕ → List ℕ
attribute id value mask = number_bytes 4 id ++ zeros 4 ++ number_bytes 8 value ++ number_bytes 8 mask

-- a configuration: the flags, and some attributes
abbrev pub config : ℕ → List (List ℕ) → List ℕ
config flags attributes =
    number_bytes 8 flags ++ number_bytes 4 (length attributes) ++ zeros 20 ++ padded 240 (flat_map (λ bytes. bytes) attributes)

-- a request of so many lines, the first of them with these offsets and then line 0, without a consumer, with room for so
-- many events; the last field is its file's number
abbrev pub request : List ℕ → List ℕ → ℕ → ℕ → ℕ → List ℕ
request offsets configuration lines events fd =
    padded 288 (flat_map (number_bytes 4) offsets) ++ configuration ++ number_bytes 4 lines ++ number_bytes 4 events ++ zeros 20
    ++ number_bytes 4 fd

-- the information on a line with no name and no period, by its consumer's bytes, its offset and its flags
abbrev pub info : List ℕ → ℕ → ℕ → List ℕ
info consumer offset flags = zeros 32 ++ padded 32 consumer ++ number_bytes 4 offset ++ zeros 4 ++ number_bytes 8 flags ++ zeros 176

-- the values and the mask of a request's lines
abbrev pub values : ℕ → ℕ → List ℕ
values bits mask = number_bytes 8 bits ++ number_bytes 8 mask

-- an event: its time, its kind (1 rising, 2 falling), its line, its number and its number of its line
abbrev pub event : ℕ → ℕ → ℕ → ℕ → ℕ → List ℕ
event timestamp id offset seqno line_seqno =
    number_bytes 8 timestamp ++ number_bytes 4 id ++ number_bytes 4 offset ++ number_bytes 4 seqno ++ number_bytes 4 line_seqno ++ zeros 24

-- the change of a line: its information, the time, and its kind (1 requested, 2 released, 3 configured)
abbrev pub change : List ℕ → ℕ → ℕ → List ℕ
change information timestamp kind = information ++ number_bytes 8 timestamp ++ number_bytes 4 kind ++ zeros 20

-- an actor's call
abbrev pub by : ℕ → Call → Made
by actor call = record { actor = actor; call = call }

-- a command on the file of a number at a place, with its structure in the buffer
abbrev pub ioctl : ℕ → ℕ → Command → List ℕ → Part → Call
ioctl place fd name structure part = Ioctl place fd (number_of name) (length structure) (padded 592 structure) part

-- the same at place 0, by actor 0
abbrev pub command : ℕ → Command → List ℕ → Part → Made
command fd name structure part = by 0 (ioctl 0 fd name structure part)

-- a command whose driver is asked, and a driver that answers 0
abbrev pub ask_and_tell : ℕ → Command → List ℕ → List Made
ask_and_tell fd name structure = command fd name structure Ask ∷ command fd name structure (Tell (Some 0)) ∷ []

-- actor 0 makes a chip of four lines, which is `gpiochip0`, and opens it: the file has number 3
abbrev pub four_lines : List Made
four_lines = by 0 (Probe (codes "demo") 4 Simulated) ∷ by 0 (OpenChip (codes "0")) ∷ []

-- what that is answered
abbrev pub four_lines_given : List Answer
four_lines_given = says (Number 0) ∷ says (Number 3) ∷ []

-- actor 0 pulls a line of the chip up or down
abbrev pub pull : ℕ → Bool → Made
pull offset up = by 0 (Pull 0 offset up)

-- a number is answered, and these bytes are written
abbrev pub gives : ℕ → List ℕ → Answer
gives number bytes = record { reply = Number number; bytes = bytes }

-- what the ask and the tell of GET_LINE are answered: the number of the request's file, and the request with it
abbrev pub opened : ℕ → (ℕ → List ℕ) → List Answer
opened fd asked = says (Go fd) ∷ gives fd (asked fd) ∷ []

-- a call of actor 0 that is done, and one that is refused
abbrev pub does : Call → Made × Answer
does call = (by 0 call, says Done)

abbrev pub fails : Call → Errno → Made × Answer
fails call errno = (by 0 call, says (Refused errno))

-- the clocks are set
abbrev pub ticks : ℕ → ℕ → Made × Answer
ticks mono real = does (Tick mono real)

-- a line of the chip at place 0 is pulled up or down
abbrev pub pulls : ℕ → Bool → Made × Answer
pulls offset up = does (Pull 0 offset up)

-- one line is requested with this configuration, and its request has this number
abbrev pub requests : ℕ → List ℕ → ℕ → List (Made × Answer)
requests offset configuration fd =
    let asked : ℕ → List ℕ = request (offset ∷ []) configuration 1 0 in
    (command 3 GetLine (asked 0) Ask, says (Go fd)) ∷ (command 3 GetLine (asked 0) (Tell (Some 0)), gives fd (asked fd)) ∷ []

-- a request is configured anew, by actor 1
abbrev pub configures : ℕ → List ℕ → List (Made × Answer)
configures fd configuration =
    (by 1 (ioctl 0 fd SetConfig configuration Ask), says (Go 0))
    ∷ (by 1 (ioctl 0 fd SetConfig configuration (Tell (Some 0))), says Done)
    ∷ []

-- the value of a request's one line
abbrev pub has_value : ℕ → ℕ → List (Made × Answer)
has_value fd bit =
    (command fd GetValues (values 0 0x1) Ask, says (Go 0))
    ∷ (command fd GetValues (values 0 0x1) (Tell (Some 0)), shows (values bit 0x1))
    ∷ []

-- a line has this level
abbrev pub has_level : ℕ → ℕ → Made × Answer
has_level offset level = (by 0 (Level 0 offset false), says (Number level))

-- these flags, and a period of 1000 microseconds
abbrev pub debounced : ℕ → List ℕ
debounced flags = config flags (attribute 3 1000 0x1 ∷ [])

-- the calls of some exchanges, each of which is a call beside what it is answered
abbrev pub calls_in : List (Made × Answer) → List Made
calls_in exchanges = map (λ exchange. exchange.0) exchanges

-- the answers of some exchanges
abbrev pub answers_in : List (Made × Answer) → List Answer
answers_in exchanges = map (λ exchange. exchange.1) exchanges
