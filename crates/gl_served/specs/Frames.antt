-- What is written for each line. This project's choice.
use Rattle.std.specs.Prelude.{◌≡◌, ℕ, List, [], ◌∷◌, ◌++◌, length, codes}
use Rattle.gl_base.specs.Count.{counted_up}
use Rattle.gl_base.specs.Decimal.{decimal}
use Rattle.gl_script.specs.Refusal.{kind_word}
use Rattle.gl_script.specs.declared.refusal.Spot.{Spot}
use Rattle.gl_served.specs.Questions.{IsReply}
use Rattle.gl_served.specs.Served.{Accepted}
use Rattle.gl_served.specs.declared.answered.Answer.{Answer}
use Rattle.gl_served.specs.declared.answered.Answer.TheVariants.{Text, Refused}

-- a mark, a blank, how many bytes come after the end of this line, and these bytes
abbrev pub frame : ℕ → List ℕ → List ℕ
frame mark text = (mark ∷ []) ++ (32 ∷ []) ++ decimal (length text) ++ (10 ∷ []) ++ text

-- `refused LINE COLUMN KIND`
abbrev pub refused_line : ℕ → Spot → List ℕ
refused_line number fault = codes "refused " ++ decimal number ++ codes " " ++ decimal fault.column ++ codes " " ++ kind_word fault.kind ++ (10 ∷ [])

-- `= N` and the text of an accepted line, `! N` and the line of a refusal; lines have numbers, counted from 1
abbrev pub frame_of : ℕ → Answer → List ℕ → List ℕ
frame_of number Text text = frame 61 text
frame_of number (Refused fault) text = frame 33 (refused_line number fault)

-- the frames of lines, one after another, where so many were answered before
abbrev pub AreFrames : Accepted → ℕ → List (List ℕ) → List ℕ → Accepted → Type 0
AreFrames said answered [] bytes after = (bytes ≡ []) × (after ≡ said)
AreFrames said answered (line ∷ lines) bytes after = (answer : Answer) × (text : List ℕ) × (mid : Accepted) × (rest : List ℕ)
    × IsReply said line answer text mid × AreFrames mid (counted_up answered) lines rest after × (bytes ≡ frame_of (counted_up answered) answer text ++ rest)
