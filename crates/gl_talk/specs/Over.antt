-- A talk over given results, as the code keeps it.
use Rattle.std.specs.Prelude.{List, ◌++◌}
use Rattle.gl_base.specs.Words.{Span}
use Rattle.gl_script.specs.Columns.{columns}
use Rattle.gl_script.specs.declared.section.Statement.{Statement}
use Rattle.gl_talk.specs.declared.over.TalkedOver.{TalkedOver}
use Rattle.gl_talk.specs.Talk.{Talked}

-- the words of a statement
abbrev pub columns_in : Statement → List Span
columns_in statement = columns statement.line.now

-- what was asked and printed so far
abbrev pub talk_in : TalkedOver → Talked
talk_in over = record { operations = over.operations.items; text = over.text.items }

-- what was asked and printed so far, and what comes after it
abbrev pub joined : TalkedOver → Talked → Talked
joined over behind = record { operations = over.operations.items ++ behind.operations; text = over.text.items ++ behind.text }
