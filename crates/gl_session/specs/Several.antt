-- What the parts of a session printed.
use Rattle.gl_session.specs.declared.several.Printed.{Printed}
use Rattle.gl_check.specs.Many.{Texts}

abbrev pub texts_of : Printed → Texts
texts_of printed = record { setup = printed.setup.items; actors = printed.actors.items; last = printed.last.items }
