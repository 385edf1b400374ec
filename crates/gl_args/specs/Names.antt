-- The tools and their options, by libgpiod's manual pages. Which options are taken is this project's choice. One row an
-- option: its names, whether it takes a value, and which tools have it.
use Rattle.std.specs.Prelude.{◌≡◌, ℕ, Bool, true, false, not, ◌&&◌, List, [], find, codes, Option, Some}
use Rattle.std.specs.Str.{bytes_eq}
use Rattle.gl_args.specs.declared.names.ToolName.{ToolName}
use Rattle.gl_args.specs.declared.names.ToolName.TheVariants.{Detect, Info, Get, Set, Watch, Notify}
use Rattle.gl_args.specs.declared.names.OptionName.{OptionName}
use Rattle.gl_args.specs.declared.names.OptionName.TheVariants.{Chip, ByName, Strict, Unquoted, Numeric, ActiveLow, Bias, Drive, Period, Edges, Event, Count, Format, Consumer}
use Rattle.gl_args.specs.declared.names.TheConstants.{OPTIONS, TOOLS}

-- a tool's name
abbrev pub tool_text : ToolName → List ℕ
tool_text Detect = codes "gpiodetect"
tool_text Info = codes "gpioinfo"
tool_text Get = codes "gpioget"
tool_text Set = codes "gpioset"
tool_text Watch = codes "gpiomon"
tool_text Notify = codes "gpionotify"

abbrev pub is_named : List ℕ → ToolName → Bool
is_named word tool = bytes_eq (tool_text tool) word

-- the tool that a word names, if it names one
abbrev pub tool_named : List ℕ → Option ToolName
tool_named word = find (is_named word) TOOLS

abbrev pub is_tool_detect : ToolName → Bool
is_tool_detect Detect = true
is_tool_detect _ = false

abbrev pub is_tool_get : ToolName → Bool
is_tool_get Get = true
is_tool_get _ = false

abbrev pub is_tool_set : ToolName → Bool
is_tool_set Set = true
is_tool_set _ = false

abbrev pub is_tool_watch : ToolName → Bool
is_tool_watch Watch = true
is_tool_watch _ = false

abbrev pub is_tool_notify : ToolName → Bool
is_tool_notify Notify = true
is_tool_notify _ = false

-- a tool takes lines
abbrev pub finds_lines : ToolName → Bool
finds_lines Detect = false
finds_lines Info = false
finds_lines _ = true

-- it requests its lines
abbrev pub requests_lines : ToolName → Bool
requests_lines Detect = false
requests_lines Info = false
requests_lines Notify = false
requests_lines _ = true

-- it prints the names of lines
abbrev pub prints_names : ToolName → Bool
prints_names Detect = false
prints_names Set = false
prints_names _ = true

-- it prints what happens to its lines
abbrev pub is_monitor : ToolName → Bool
is_monitor Watch = true
is_monitor Notify = true
is_monitor _ = false

-- which tool has which option
abbrev pub has_option : ToolName → OptionName → Bool
has_option tool Chip = not (is_tool_detect tool)
has_option tool ByName = finds_lines tool
has_option tool Strict = finds_lines tool
has_option tool Unquoted = prints_names tool
has_option tool Numeric = is_tool_get tool
has_option tool ActiveLow = requests_lines tool
has_option tool Bias = requests_lines tool
has_option tool Drive = is_tool_set tool
has_option tool Period = is_tool_watch tool
has_option tool Edges = is_tool_watch tool
has_option tool Event = is_tool_notify tool
has_option tool Count = is_monitor tool
has_option tool Format = is_monitor tool
has_option tool Consumer = requests_lines tool

abbrev pub long_name : OptionName → List ℕ
long_name Chip = codes "--chip"
long_name ByName = codes "--by-name"
long_name Strict = codes "--strict"
long_name Unquoted = codes "--unquoted"
long_name Numeric = codes "--numeric"
long_name ActiveLow = codes "--active-low"
long_name Bias = codes "--bias"
long_name Drive = codes "--drive"
long_name Period = codes "--debounce-period"
long_name Edges = codes "--edges"
long_name Event = codes "--event"
long_name Count = codes "--num-events"
long_name Format = codes "--format"
long_name Consumer = codes "--consumer"

-- those without a short name have the empty one
abbrev pub short_name : OptionName → List ℕ
short_name Chip = codes "-c"
short_name ByName = []
short_name Strict = codes "-s"
short_name Unquoted = []
short_name Numeric = []
short_name ActiveLow = codes "-l"
short_name Bias = codes "-b"
short_name Drive = codes "-d"
short_name Period = codes "-p"
short_name Edges = codes "-e"
short_name Event = codes "-e"
short_name Count = codes "-n"
short_name Format = codes "-F"
short_name Consumer = codes "-C"

abbrev pub has_short_name : OptionName → Bool
has_short_name ByName = false
has_short_name Unquoted = false
has_short_name Numeric = false
has_short_name _ = true

abbrev pub takes_value : OptionName → Bool
takes_value Chip = true
takes_value ByName = false
takes_value Strict = false
takes_value Unquoted = false
takes_value Numeric = false
takes_value ActiveLow = false
takes_value Bias = true
takes_value Drive = true
takes_value Period = true
takes_value Edges = true
takes_value Event = true
takes_value Count = true
takes_value Format = true
takes_value Consumer = true

abbrev pub is_long : ToolName → List ℕ → OptionName → Bool
is_long tool name option = bytes_eq (long_name option) name && has_option tool option

abbrev pub is_short : ToolName → List ℕ → OptionName → Bool
is_short tool name option = bytes_eq (short_name option) name && has_option tool option

-- the option of a tool that has this long name
abbrev pub long_option : ToolName → List ℕ → Option OptionName
long_option tool name = find (is_long tool name) OPTIONS

-- and the one that has this short name
abbrev pub short_option : ToolName → List ℕ → Option OptionName
short_option tool name = find (is_short tool name) OPTIONS

-- Each tool is the one that its name names: its row isn't missing.
abbrev pub ToolsHaveTheirNames : Type 0
ToolsHaveTheirNames = (tool : ToolName) → tool_named (tool_text tool) ≡ Some tool

-- Each option of a tool is the one that its long name says, and its short name, where it has one: its row isn't missing, and no
-- other option of the tool has its names.
abbrev pub OptionsHaveLongNames : Type 0
OptionsHaveLongNames = (tool : ToolName) (option : OptionName) → has_option tool option ≡ true → long_option tool (long_name option) ≡ Some option

abbrev pub OptionsHaveShortNames : Type 0
OptionsHaveShortNames = (tool : ToolName) (option : OptionName) → has_option tool option ≡ true → has_short_name option ≡ true → short_option tool (short_name option) ≡ Some option
