-- What actors carry out: the programs of a session's parts. This project's choice.
use Rattle.std.specs.Prelude.{List, length}
use Rattle.gl_client.specs.Program.{Program, done}
use Rattle.gl_script.specs.Section.{SaidSection}
use Rattle.gl_script.specs.declared.section.SectionKind.TheVariants.{Setup, Actor, After}
use Rattle.gl_talk.specs.Open.{Names, left_setup, no_names, setup_names}
use Rattle.gl_talk.specs.Talk.{quits, says, talks}
use Rattle.gl_check.specs.One.{said_in_kind}

-- the programs of a session's three parts, the last one by the names that the first gave
abbrev pub setup_of : List SaidSection → Program Names
setup_of sections = says 0 (said_in_kind Setup sections) done setup_names

abbrev pub actor_of : List SaidSection → Program Names
actor_of sections = talks 0 (said_in_kind Actor sections) no_names

abbrev pub after_of : List SaidSection → Names → Program Names
after_of sections names = says (length (said_in_kind Setup sections)) (said_in_kind After sections) quits (left_setup names)
