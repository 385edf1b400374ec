-- What a statement that is no tool's does first, and how the result is told, as the definitions have them. This project's choice.
use Rattle.std.specs.Prelude.{Bool}
use Rattle.gl_base.specs.declared.errno.Errno.{Errno}
use Rattle.gl_base.specs.declared.operation.Do.{Do}
use Rattle.gl_v1.specs.declared.commands.KindV1.{KindV1}

-- Nothing is printed, or a value, a level or what is ready, the bytes of a structure, or the events that were read; a file is
-- opened, closed or made. The first uAPI has forms of its own.
pub data ResultFormat : Type 0 where
  Silent : ResultFormat
  Value : ResultFormat
  Level : Bool → ResultFormat
  Bytes : ResultFormat
  Edges : ResultFormat
  Infos : ResultFormat
  Ready : ResultFormat
  Opened : ResultFormat
  Closed : ResultFormat
  Made : ResultFormat
  OldBytes : KindV1 → ResultFormat
  OldEdges : ResultFormat
  OldMade : ResultFormat

-- It does nothing, it is refused without a call, or it asks for one operation and tells the result.
pub data Action : Type 0 where
  Nothing : Action
  Refuse : Errno → Action
  Ask : Do → ResultFormat → Action
