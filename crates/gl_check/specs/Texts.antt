-- What a session of several actors prints in front of its history. This project's choice.
use Rattle.std.specs.Prelude.{ℕ, List, [], ◌∷◌, ◌++◌, codes}
use Rattle.gl_base.specs.TextLines.{text_line}
use Rattle.gl_script.specs.Section.{SaidSection}
use Rattle.gl_check.specs.Many.{Texts, actor_sections}

-- `== actor NAME` and the text, for each actor in order
abbrev pub actors_text : List SaidSection → List (List ℕ) → List ℕ
actors_text [] texts = []
actors_text (section ∷ sections) [] = []
actors_text (section ∷ sections) (text ∷ texts) = text_line (codes "== actor " ++ section.name) ++ text ++ actors_text sections texts

-- headers and texts; those of `setup` and `after` have their header also where the section is missing
abbrev pub texts_text : List SaidSection → Texts → List ℕ
texts_text sections texts =
    text_line (codes "== setup") ++ texts.setup
    ++ actors_text (actor_sections sections) texts.actors
    ++ text_line (codes "== after") ++ texts.last
