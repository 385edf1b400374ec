-- What a monitor that has come to its end keeps, by what it watches; and a step without one.
use Rattle.std.proofs.Common.{◌≡◌, ℕ, true, false, List, [], ◌∷◌, ◌++◌, Option, None, Some, refl}
use Rattle.std.specs.Prelude.{is_some}
use Rattle.gl_base.specs.Words.{Span}
use Rattle.gl_base.specs.declared.errno.Errno.TheVariants.{BadF, Inval}
use Rattle.gl_client.specs.Program.{done}
use Rattle.gl_monitor.specs.Monitor.{Watched, watched_slot}
use Rattle.gl_values.specs.Set.{Held}
use Rattle.gl_talk.specs.Doing.{refused}
use Rattle.gl_talk.specs.Open.{Names}
use Rattle.gl_talk.specs.Talk.{keeps_monitor, steps}
use Rattle.gl_talk.specs.Words.{name_word}

pub none_kept : (w : Watched) (name : List ℕ) (names : Names) → None ≡ watched_slot w → keeps_monitor name names w ≡ done names
none_kept None name names e = refl
none_kept (Some watching) name names e = cc

pub one_kept : (w : Watched) (name : List ℕ) (names : Names) (slot : ℕ) → Some slot ≡ watched_slot w
    → keeps_monitor name names w ≡ done (record names { monitors = names.monitors ++ record { name = name_word name; watched = w } ∷ [] })
one_kept None name names slot e = cc
one_kept (Some watching) name names slot e = refl

-- a name that no monitor has makes no step
pub no_step : (w : Option Watched) (held : Option Held) (names : Names) (words : List Span) → w ≡ None → is_some held ≡ true → steps w held names words ≡ refused Inval names
no_step None None names words e some = cc
no_step None (Some h) names words e some = refl
no_step (Some x) held names words e some = cc

pub no_tool : (w : Option Watched) (held : Option Held) (names : Names) (words : List Span) → w ≡ None → is_some held ≡ false → steps w held names words ≡ refused BadF names
no_tool None None names words e some = refl
no_tool None (Some h) names words e some = cc
no_tool (Some x) held names words e some = cc
