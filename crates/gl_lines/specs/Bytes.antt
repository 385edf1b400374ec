-- The structures that tools hand in (`linux/gpio.h`), at the front of a buffer of 592 bytes whose other bytes are zero.
-- Which flags and attributes a tool asks for: libgpiod's manual pages.
use Rattle.gl_args.specs.Options.{Options}
use Rattle.std.specs.Prelude.{ℕ, ◌+◌, ◌-◌, ◌^◌, Bool, bit_or, ◌&&◌, ◌==◌, nat_lt, nat_le, if◌then◌else◌, List, [], ◌∷◌, ◌++◌, length, replicate, Option, Some, None}
use Rattle.gl_base.specs.declared.flag.TheConstants.{ACTIVE_LOW, INPUT, OUTPUT}
use Rattle.gl_uapi.specs.declared.new_requests.AttributeValue.TheVariants.{OutputValues, Debounce}
use Rattle.gl_uapi.specs.declared.new_requests.NewAttribute.{NewAttribute}
use Rattle.gl_uapi.specs.LineInfo.{info_bytes}
use Rattle.gl_uapi.specs.LineValues.{values_bytes}
use Rattle.gl_uapi.specs.NewRequest.{new_request_bytes}
use Rattle.gl_args.specs.declared.names.ToolName.{ToolName}
use Rattle.gl_args.specs.declared.names.ToolName.TheVariants.{Set, Watch}
use Rattle.gl_args.specs.Values.{Line}

-- a bit for each of the first lines, of which a request has at most 64
abbrev pub mask_of : ℕ → ℕ
mask_of count = if nat_le 64 count then 2 ^ 64 - 1 else 2 ^ count - 1

-- what asks for the values of so many lines
abbrev pub values_sent : ℕ → List ℕ
values_sent count = values_bytes 0 (mask_of count) ++ replicate 576 0

-- what asks for the information on the line at an offset
abbrev pub info_sent : ℕ → List ℕ
info_sent offset = info_bytes (record { name = []; consumer = []; offset = offset; flags = 0; period = 0 }) ++ replicate 336 0

-- gpioset makes outputs, the others inputs
abbrev pub direction : ToolName → ℕ
direction Set = 2 ^ OUTPUT
direction _ = 2 ^ INPUT

-- the edges of gpiomon; the others ask for none
abbrev pub edges_asked : ToolName → Options → ℕ
edges_asked Watch opts = opts.edges
edges_asked _ opts = 0

abbrev pub active_low_flag : Bool → ℕ
active_low_flag active_low = if active_low then 2 ^ ACTIVE_LOW else 0

-- the flags that a tool asks for
abbrev pub flags_of : ToolName → Options → ℕ
flags_of tool opts = bit_or (bit_or (bit_or (bit_or (direction tool) (edges_asked tool opts)) (active_low_flag opts.active_low)) opts.drive) opts.bias

-- the bit of a line with its value
abbrev pub line_bit : ℕ → Bool → ℕ
line_bit i value = if nat_lt i 64 && value then 2 ^ i else 0

-- bits, and the values of lines, a bit a line, the first at place i
abbrev pub with_values : ℕ → ℕ → List Line → ℕ
with_values bits i [] = bits
with_values bits i (line ∷ lines) = with_values (bit_or bits (line_bit i line.1)) (i + 1) lines

-- a debounce period that isn't 0, for the lines of a mask
abbrev pub debounced : ℕ → ℕ → Option NewAttribute
debounced period mask = if period == 0 then None else Some (record { value = Debounce period; mask = mask })

-- what a tool's lines get beside their flags: gpioset's their values, gpiomon's a debounce period that isn't 0
abbrev pub attribute_of : ToolName → Options → Option NewAttribute
attribute_of Set opts = Some (record { value = OutputValues (with_values 0 0 opts.lines); mask = mask_of (length opts.lines) })
attribute_of Watch opts = debounced opts.period_us (mask_of (length opts.lines))
attribute_of _ opts = None

abbrev pub to_attributes : Option NewAttribute → List NewAttribute
to_attributes None = []
to_attributes (Some attribute) = attribute ∷ []

-- what requests the lines at these offsets for a tool; zeros where there are more than 64
abbrev pub request_sent : ToolName → Options → List ℕ → List ℕ
request_sent tool opts offsets =
    if nat_le (length offsets) 64 then new_request_bytes offsets opts.consumer (flags_of tool opts) (to_attributes (attribute_of tool opts)) 0
    else replicate 592 0
