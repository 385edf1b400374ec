-- Entries whose numbers and texts are of their types are told by their texts.
use Rattle.std.proofs.Common.{◌≡◌, ℕ, ◌+◌, List, ◌∷◌, sym, ◌∙◌, subst}
use Rattle.gl_trace.specs.EntryText.{HasText}
use Rattle.gl_trace.specs.Typed.{IsTyped}
use Rattle.gl_core.specs.Device.{OneEntry}
use Rattle.gl_session.specs.Output.{AreTold}
use Rattle.gl_session.specs.Run.{TextsTellHistory}
use Rattle.gl_session.proofs.Telling.{output_tells_history}
use Rattle.gl_check.specs.Drivers.{DriverOver}

-- what is left of entries is told where the first of it is, and the others are
pub told_before : (index : ℕ) (rest later : List OneEntry) (e : OneEntry) → rest ≡ e ∷ later → IsTyped index e → HasText e → AreTold (index + 1) later → AreTold index rest
told_before index rest later e is typed text more = subst (λ (l : List OneEntry). AreTold index l) (sym is) (typed, text, more)

-- what was printed tells the history that a session came to
pub texts_tell_history : (driver other_driver : DriverOver) → TextsTellHistory driver other_driver
texts_tell_history driver other_driver sections others before left other_before other_left m other_m text a b =
    output_tells_history sections others a.texts b.texts a.history b.history a.told b.told (sym a.prints ∙ b.prints)
