-- What statements and sections mean: the lines of the text that they stand in.
use Rattle.std.specs.Prelude.{[], map, Option, None, Some}
use Rattle.gl_base.specs.Words.{Span, span}
use Rattle.gl_script.specs.Section.{SaidSection, SaidHead, titled}
use Rattle.gl_script.specs.declared.section.SectionKind.TheVariants.{Setup, Actor, After}
use Rattle.gl_script.specs.declared.section.Statement.{Statement}
use Rattle.gl_script.specs.declared.section.Section.{Section}
use Rattle.gl_script.specs.declared.section.Head.{Head}
use Rattle.gl_script.specs.declared.section.Head.TheVariants.{Setup as HeadSetup, Actor as HeadActor, After as HeadAfter}

-- the line of a statement
abbrev pub line_in : Statement → Span
line_in statement = span statement.at statement.line.now

abbrev pub said_in : Section → SaidSection
said_in section = record { kind = section.kind; name = section.name.now; statements = map line_in section.statements.items }

abbrev pub current_in : Option Section → Option SaidSection
current_in None = None
current_in (Some section) = Some (said_in section)

-- what a head says
abbrev pub head_in : Head → SaidHead
head_in HeadSetup = titled Setup []
head_in (HeadActor name) = titled Actor name.now
head_in HeadAfter = titled After []
