-- The words of a tool's statement. This project's choice.
use Rattle.std.specs.Prelude.{ℕ, Bool, true, false, List, ◌++◌, map, Option, Some, None, codes}
use Rattle.gl_args.specs.Options.{SaidTool, SaidSet, SaidWatch, SaidNotify}
use Rattle.gl_base.specs.Words.{Span}
use Rattle.gl_lines.specs.Texts.{line}
use Rattle.gl_script.specs.declared.table.Keyword.{Keyword}
use Rattle.gl_script.specs.declared.table.Keyword.TheVariants.{Detect, Info, Get, Set, Start, Step, Stop}
use Rattle.gl_script.specs.declared.said.Said.{Said}
use Rattle.gl_script.specs.declared.said.Said.TheVariants.{Start as SaidStart, Step as SaidStep, Stop as SaidStop}
use Rattle.gl_talk.specs.declared.tools.StatementKind.{StatementKind}
use Rattle.gl_talk.specs.declared.tools.StatementKind.TheVariants.{Plain, ToolAlone, Starting, Stepping, Stopping}

-- a statement is a tool's, or starts, steps or stops one, or is another
abbrev pub kind_of : Option Keyword → StatementKind
kind_of (Some Detect) = ToolAlone
kind_of (Some Info) = ToolAlone
kind_of (Some Get) = ToolAlone
kind_of (Some Set) = ToolAlone
kind_of (Some Start) = Starting
kind_of (Some Step) = Stepping
kind_of (Some Stop) = Stopping
kind_of _ = Plain

-- it starts, steps or stops a tool, which has a name
abbrev pub names_tool : StatementKind → Bool
names_tool Starting = true
names_tool Stepping = true
names_tool Stopping = true
names_tool _ = false

-- that name, and the turns of a step, in what the statement says
abbrev pub name_said : Said → Option (List ℕ)
name_said (SaidStart name) = Some name
name_said (SaidStep name turns) = Some name
name_said (SaidStop name) = Some name
name_said _ = None

abbrev pub turns_said : Said → Option ℕ
turns_said (SaidStep name turns) = Some turns
turns_said _ = None

-- a tool that goes on until it is stopped
abbrev pub can_be_started : SaidTool → Bool
can_be_started (SaidSet opts) = true
can_be_started (SaidWatch opts) = true
can_be_started (SaidNotify opts) = true
can_be_started _ = false

-- `TOOL: usage`
abbrev pub usage_text : List ℕ → List ℕ
usage_text tool = line (tool ++ codes ": usage")

abbrev pub word_texts : List Span → List (List ℕ)
word_texts words = map (λ word. word.text) words
