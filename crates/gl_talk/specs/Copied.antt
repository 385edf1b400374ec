-- The statement that is under way, in a copy of its own. This project's choice.
use Rattle.std.specs.Prelude.{List, [], Option, None, Some}
use Rattle.gl_base.specs.Words.{Span}
use Rattle.gl_script.specs.Columns.{columns}
use Rattle.gl_talk.specs.declared.copied.CopiedStatement.{CopiedStatement}

abbrev pub words_of : CopiedStatement → List Span
words_of copied = columns copied.line.items

-- the words of the statement that is under way; where none is, there are none
abbrev pub words_under_way : Option CopiedStatement → List Span
words_under_way None = []
words_under_way (Some copied) = words_of copied
