-- What a target is asked for its lines of an operation, in the structures of `linux/gpio.h`: GET_VALUES for a Get, SET_VALUES for a Set, and
-- SET_CONFIG for an Apply.
use Rattle.std.specs.Prelude.{ℕ, ◌+◌, ◌^◌, Bool, true, false, ◌==◌, ◌||◌, nat_lt, if◌then◌else◌, List, [], ◌∷◌, ◌++◌, length, map, Option, Some, None, bit_and}
use Rattle.std.specs.List.{list_any}
use Rattle.gl_asking.specs.Driving.{op_for}
use Rattle.gl_asking.specs.Handed.{command_in}
use Rattle.gl_base.specs.Bits.{has_bit}
use Rattle.gl_base.specs.declared.command.TheConstants.{LINE_GET_VALUES, LINE_SET_CONFIG, LINE_SET_VALUES}
use Rattle.gl_base.specs.declared.flag.TheConstants.{ACTIVE_LOW, INPUT, OUTPUT, OPEN_DRAIN, OPEN_SOURCE, BIAS_PULL_UP, BIAS_PULL_DOWN, BIAS_DISABLED}
use Rattle.gl_base.specs.declared.lines.Lines.{Lines}
use Rattle.gl_base.specs.declared.op.Op.{Op}
use Rattle.gl_base.specs.declared.op.Op.TheVariants.{Apply, Get, Set}
use Rattle.gl_driver.specs.declared.map.Map.{Map}
use Rattle.gl_driver.specs.declared.map.Target.{Target}
use Rattle.gl_model.specs.Configuring.{settings_of}
use Rattle.gl_model.specs.Parts.{in_ask, in_tell}
use Rattle.gl_model.specs.declared.call.Call.{Call}
use Rattle.gl_model.specs.declared.call.Call.TheVariants.{Refused as RefusedCall}
use Rattle.gl_model.specs.declared.device_call.CommandIn.{CommandIn}
use Rattle.gl_uapi.specs.LineValues.{values_bytes}
use Rattle.gl_uapi.specs.NewRequest.{new_config_bytes}
use Rattle.gl_uapi.specs.declared.layout.TheConstants.{ATTRIBUTES_MAX}
use Rattle.gl_uapi.specs.declared.new_requests.AttributeValue.TheVariants.{Flags, OutputValues}
use Rattle.gl_uapi.specs.declared.new_requests.NewAttribute.{NewAttribute}
use Rattle.gl_aggregator.specs.Own.{Visit}
use Rattle.gl_aggregator.specs.Routes.{LineAt, lines_on, routes, word_where}
use Rattle.gl_aggregator.specs.declared.routes.Route.{Route}

-- the lines, a bit a line of the target's request
abbrev pub mask_of : List LineAt → ℕ
mask_of lines = word_where (λ _. true) (λ l. l.at) lines

-- an operation is to give its line at position i the value 1
abbrev pub is_high : Op → ℕ → Bool
is_high (Get lines) i = false
is_high (Set lines mask bits) i = has_bit bits i
is_high (Apply lines settings) i = (settings_of settings i).value

-- the values that it gives these lines, a bit a line of the target's request
abbrev pub values_to : Op → List LineAt → ℕ
values_to op lines = word_where (λ l. is_high op l.line) (λ l. l.at) lines

-- the flags of a line that its target is to have: whether it is active low, its direction, drive and bias
abbrev pub kept_flags : ℕ
kept_flags = 2 ^ ACTIVE_LOW + (2 ^ INPUT + (2 ^ OUTPUT + (2 ^ OPEN_DRAIN + (2 ^ OPEN_SOURCE + (2 ^ BIAS_PULL_UP + (2 ^ BIAS_PULL_DOWN + 2 ^ BIAS_DISABLED))))))

-- the flag word of an operation's line at position i; only an Apply has any
abbrev pub word_at : Op → ℕ → ℕ
word_at (Get lines) i = 0
word_at (Set lines mask bits) i = 0
word_at (Apply lines settings) i = bit_and (settings_of settings i).flags kept_flags

-- these words, and one more behind them where it isn't 0 and isn't among them
abbrev pub with_word : ℕ → List ℕ → List ℕ
with_word word words = if word == 0 || list_any (λ other. other == word) words then words else words ++ word ∷ []

abbrev pub with_words : Op → List ℕ → List LineAt → List ℕ
with_words op words [] = words
with_words op words (l ∷ ls) = with_words op (with_word (word_at op l.line) words) ls

-- the flag words of the lines, each once, in the order of their first lines
abbrev pub flag_words : Op → List LineAt → List ℕ
flag_words op lines = with_words op [] lines

-- the attribute of a flag word, for the lines that have it
abbrev pub flags_attribute : Op → List LineAt → ℕ → NewAttribute
flags_attribute op lines word = record { value = Flags word; mask = word_where (λ l. word_at op l.line == word) (λ l. l.at) lines }

abbrev pub values_attribute : Op → List LineAt → NewAttribute
values_attribute op lines = record { value = OutputValues (values_to op lines); mask = mask_of lines }

-- the attributes by which a target's lines are configured: one for each flag word, and then the output values
abbrev pub attributes_to : Op → List LineAt → List NewAttribute
attributes_to op lines = map (flags_attribute op lines) (flag_words op lines) ++ values_attribute op lines ∷ []

-- the command on a target's request, by its number and its structure
abbrev pub on_target : Target → ℕ → List ℕ → CommandIn
on_target target cmd bytes = command_in target.place target.fd false cmd bytes

-- a configuration has room for so many attributes, one of which is that of the output values
abbrev pub fit : List ℕ → Bool
fit words = nat_lt (length words) ATTRIBUTES_MAX

abbrev pub config_to : Target → Op → List LineAt → Option CommandIn
config_to target op lines = if fit (flag_words op lines) then Some (on_target target LINE_SET_CONFIG (new_config_bytes 0 (attributes_to op lines))) else None

-- The command by which a target is asked for these lines of an operation: the bits of a Get are 0. There is none where a configuration
-- has no room for its attributes.
abbrev pub command_by : Target → Op → Op → List LineAt → Option CommandIn
command_by target op (Get lines) ls = Some (on_target target LINE_GET_VALUES (values_bytes 0 (mask_of ls)))
command_by target op (Set lines mask bits) ls = Some (on_target target LINE_SET_VALUES (values_bytes (values_to op ls) (mask_of ls)))
command_by target op (Apply lines settings) ls = config_to target op ls

abbrev pub command_to : Target → Op → List LineAt → Option CommandIn
command_to target op ls = command_by target op op ls

-- the visit of a command on a target's request: its ask, its tell, and between them the operation that the device names for it
abbrev pub visit_by : Lines → CommandIn → Visit Call
visit_by lines c = record { ask = in_ask c; tell = λ answer. in_tell answer c; refused = RefusedCall c.place false; op = op_for lines c }

abbrev pub visit_if : Lines → Option CommandIn → Option (Visit Call)
visit_if lines None = None
visit_if lines (Some c) = Some (visit_by lines c)

-- the visit of one target, if it can be asked
abbrev pub visit_on : Op → Route → Option (Visit Call)
visit_on op route = visit_if route.target.lines (command_to route.target op (lines_on op route))

abbrev pub visits_on : Op → List Route → List (Option (Visit Call))
visits_on op [] = []
visits_on op (route ∷ later) = visit_on op route ∷ visits_on op later

-- the visits of an operation at a place with a map
abbrev pub visits : Map → Op → List (Option (Visit Call))
visits map op = visits_on op (routes map op)
