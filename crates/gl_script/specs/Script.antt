-- What a script says.
use Rattle.std.specs.Prelude.{List, map}
use Rattle.gl_script.specs.Meaning.{said_in}
use Rattle.gl_script.specs.Section.{SaidSection}
use Rattle.gl_script.specs.declared.script.Script.{Script}

-- the sections of a script
abbrev pub sections_of : Script → List SaidSection
sections_of script = map said_in script.sections.items
