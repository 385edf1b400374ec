-- A tool with its options as plain data, so that two tools of the same words are the same tool. `Tool` and `Opts` of the code
-- stand for them. This project's choice.
use Rattle.std.specs.Prelude.{ℕ, Bool, List, Option}
use Rattle.gl_args.specs.declared.tool.Tool.{Tool}
use Rattle.gl_args.specs.declared.tool.Tool.TheVariants.{Detect, Info, Get, Set, Watch, Notify}
use Rattle.gl_args.specs.declared.tool.Opts.{Opts}
use Rattle.gl_args.specs.Values.{Line}

-- the options of a tool, each as it was given, or as it is where it isn't; a line is its word and gpioset's value
pub record Options : Type 0 where
  pub chip : Option (List ℕ)
  pub by_name : Bool
  pub strict : Bool
  pub unquoted : Bool
  pub numeric : Bool
  pub active_low : Bool
  pub bias : ℕ
  pub drive : ℕ
  pub edges : ℕ
  pub period_us : ℕ
  pub count : Option ℕ
  pub format : Option (List ℕ)
  pub consumer : List ℕ
  pub lines : List Line

-- a tool: gpiodetect with its chip words, or another with its options
pub data SaidTool : Type 0 where
  SaidDetect : List (List ℕ) → SaidTool
  SaidInfo : Options → SaidTool
  SaidGet : Options → SaidTool
  SaidSet : Options → SaidTool
  SaidWatch : Options → SaidTool
  SaidNotify : Options → SaidTool

abbrev pub options_in : Opts → Options
options_in opts = record {
  chip = opts.chip;
  by_name = opts.by_name;
  strict = opts.strict;
  unquoted = opts.unquoted;
  numeric = opts.numeric;
  active_low = opts.active_low;
  bias = opts.bias;
  drive = opts.drive;
  edges = opts.edges;
  period_us = opts.period_us;
  count = opts.count;
  format = opts.format;
  consumer = opts.consumer;
  lines = opts.lines.items;
}

abbrev pub tool_in : Tool → SaidTool
tool_in (Detect words) = SaidDetect words.items
tool_in (Info opts) = SaidInfo (options_in opts)
tool_in (Get opts) = SaidGet (options_in opts)
tool_in (Set opts) = SaidSet (options_in opts)
tool_in (Watch opts) = SaidWatch (options_in opts)
tool_in (Notify opts) = SaidNotify (options_in opts)
