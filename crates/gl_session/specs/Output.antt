-- Output: what a session with two or more actors prints. This project's choice.
use Rattle.std.specs.Prelude.{◌≡◌, ℕ, List, ◌++◌, codes}
use Rattle.gl_script.specs.Section.{SaidSection}
pub use Rattle.gl_trace.specs.HistoryText.{AreTold, entry_lines, history_text}
use Rattle.gl_core.specs.Device.{OneEntry}
use Rattle.gl_check.specs.Many.{Texts, actor_sections}
pub use Rattle.gl_check.specs.Texts.{actors_text}
use Rattle.gl_session.specs.Lines.{text_line}

-- Output: headers, texts and history. Those of `setup` and `after` have their header also where the section is missing.
abbrev pub output : List SaidSection → Texts → List OneEntry → List ℕ
output sections texts history =
    text_line (codes "== setup") ++ texts.setup
    ++ actors_text (actor_sections sections) texts.actors
    ++ text_line (codes "== after") ++ texts.last
    ++ history_text history

-- Whatever was printed in front of it, an output tells one history at most.
abbrev pub OutputTellsHistory : Type 0
OutputTellsHistory = (sections others : List SaidSection) (texts other_texts : Texts) (history other : List OneEntry) → AreTold 0 history → AreTold 0 other
    → output sections texts history ≡ output others other_texts other → history ≡ other
