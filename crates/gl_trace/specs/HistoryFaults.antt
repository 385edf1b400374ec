-- Why no history was read, as the code says it.
use Rattle.std.specs.Prelude.{◌≡◌}
use Rattle.gl_trace.specs.HistoryRead.{Bad, Broken, History, Lines}
use Rattle.gl_trace.specs.declared.history.NoHistory.{NoHistory}
use Rattle.gl_trace.specs.declared.history.NoHistory.TheVariants.{Line, NoMemory}

-- the line of this number is the one that is at fault; or memory is wanted, of which nothing is said
abbrev pub IsFault : NoHistory → History → Type 0
IsFault (Line number) history = history ≡ Bad number
IsFault NoMemory history = Unit {0}

abbrev pub IsFaultOf : NoHistory → Lines → Type 0
IsFaultOf (Line number) lines = lines ≡ Broken number
IsFaultOf NoMemory lines = Unit {0}
