-- Lines that are no statements of a session: `due` asks for the earliest deadline, and `data NAME N` reads as `events NAME N` or `changes NAME N`
-- does, and prints the bytes. This project's choice.
use Rattle.std.specs.Prelude.{◌≡◌, ℕ, ◌-◌, Bool, true, false, nat_eq, nat_lt, if◌then◌else◌, List, ◌++◌, length, drop, codes, Option, None, Some, Result, Ok, Err}
use Rattle.std.specs.List.{starts_with}
use Rattle.std.specs.Str.{bytes_eq}
use Rattle.gl_client.specs.Program.{Program, done, print, ask}
use Rattle.gl_base.specs.BytesText.{bytes_text}
use Rattle.gl_base.specs.Decimal.{decimal}
use Rattle.gl_base.specs.Words.{text_at}
use Rattle.gl_base.specs.declared.operation.Got.{Got}
use Rattle.gl_base.specs.declared.operation.Got.TheVariants.{Bytes}
use Rattle.gl_debounce.specs.Earliest.{earliest}
use Rattle.gl_lines.specs.Texts.{line as text_line}
use Rattle.gl_script.specs.Columns.{columns}
use Rattle.gl_script.specs.Served.{Kind, Statement, line_kind}
use Rattle.gl_script.specs.declared.refusal.Spot.{Spot}
use Rattle.gl_script.specs.declared.served.Stage.{Stage}
use Rattle.gl_script.specs.declared.served.Stage.TheVariants.{Opening, Headed, Open}
use Rattle.gl_talk.specs.Open.{Names, file_of, is_chip_file}
use Rattle.gl_talk.specs.Talk.{does}
use Rattle.gl_check.specs.One.{PlannedPort, Standing, from_plan, performs}
use Rattle.gl_served.specs.Served.{Accepted, IsAnswer, accepted_after, carried_out, kind_after, limited, pair_after, text_of}
use Rattle.gl_served.specs.Slots.{slot_of}
use Rattle.gl_served.specs.declared.limits.TheConstants.{LINE_MAX}
use Rattle.gl_served.specs.declared.answered.Answer.{Answer}
use Rattle.gl_served.specs.declared.answered.Answer.TheVariants.{Text}
use Rattle.gl_served.specs.declared.question.Question.{Question}
use Rattle.gl_served.specs.declared.question.Question.TheVariants.{Nothing, Due, Data}

-- which question the bytes of a line are; `data` stands at its front
abbrev pub question_in : List ℕ → Question
question_in line = if bytes_eq line (codes "due") then Due else if starts_with nat_eq line (codes "data ") then Data else Nothing

-- questions come where statements do
abbrev pub question_of : Stage → List ℕ → Question
question_of Opening line = Nothing
question_of (Headed version) line = Nothing
question_of (Open version) line = if nat_lt LINE_MAX (length line) then Nothing else question_in line

-- the moment, or `-`
abbrev pub moment_text : Option ℕ → List ℕ
moment_text None = codes "-"
moment_text (Some moment) = decimal moment

abbrev pub due_text : Option ℕ → List ℕ
due_text moment = text_line (moment_text moment)

-- the statement that a `data` stands for: `changes` of a chip's file, and `events` of any other and where there is none
abbrev pub read_word : Bool → List ℕ
read_word true = codes "changes "
read_word false = codes "events "

abbrev pub names_chip : Names → List ℕ → Bool
names_chip names line = is_chip_file (file_of (text_at 0 (columns (drop 5 line))) names.files)

abbrev pub stands_for : Names → List ℕ → List ℕ
stands_for names line = read_word (names_chip names line) ++ drop 5 line

-- its faults, at the columns of the `data`
abbrev pub moved : ℕ → Result Kind Spot → Result Kind Spot
moved count (Ok kind) = Ok kind
moved count (Err fault) = Err (record fault { column = fault.column - count })

abbrev pub shift_of : Bool → ℕ
shift_of true = 3
shift_of false = 2

abbrev pub data_kind : Accepted → List ℕ → Result Kind Spot
data_kind said line =
    let names = (carried_out said.statements).value in
    limited (pair_after said) (moved (shift_of (names_chip names line)) (line_kind said.stage (stands_for names line)))

-- what the first operation of a program is answered, if it asks for one; what it prints before plays no part
abbrev pub first_got : {A : Type 0} → Program A → Standing PlannedPort → Option Got
first_got (done value) s = None
first_got (print text p) s = first_got p s
first_got (ask what p) s = Some (performs 0 from_plan what s).0

-- bytes as a line
abbrev pub bytes_text_line : List ℕ → List ℕ
bytes_text_line bytes = text_line (bytes_text bytes)

-- the first of two texts, or the second where there is no first
abbrev pub text_or : Option (List ℕ) → List ℕ → List ℕ
text_or None text = text
text_or (Some first) text = first

-- the bytes that were read as a line; else what the statement prints
abbrev pub shown_for : Got → List ℕ → List ℕ
shown_for (Bytes bytes) text = bytes_text_line bytes
shown_for got text = text

abbrev pub shown : Option Got → List ℕ → List ℕ
shown None text = text
shown (Some got) text = shown_for got text

-- A `data` was read: the session goes on as after the statement that it stands for, and prints the bytes.
pub record IsRead (said : Accepted) (line : List ℕ) (text : List ℕ) (after : Accepted) : Type 0 where
  pub extra : List ℕ
  pub after_is : after ≡ accepted_after Statement line said
  pub adds : text_of after ≡ text_of said ++ extra
  pub shows : text ≡ shown (first_got (does (carried_out said.statements).value (slot_of (pair_after said)) (columns line)) (carried_out said.statements).behind) extra

abbrev pub IsData : Accepted → List ℕ → Result Kind Spot → Answer → List ℕ → Accepted → Type 0
IsData said line (Ok Statement) answer text after = (answer ≡ Text) × IsRead said line text after
IsData said line (Ok kind) answer text after = IsAnswer said line (Ok kind) answer text after
IsData said line (Err fault) answer text after = IsAnswer said line (Err fault) answer text after

abbrev pub IsReplyTo : Question → Accepted → List ℕ → Answer → List ℕ → Accepted → Type 0
IsReplyTo Nothing said line answer text after = IsAnswer said line (kind_after said line) answer text after
IsReplyTo Due said line answer text after = (answer ≡ Text) × (text ≡ due_text (earliest (carried_out said.statements).behind.world.timers)) × (after ≡ said)
IsReplyTo Data said line answer text after = IsData said (stands_for (carried_out said.statements).value line) (data_kind said line) answer text after

-- what a line is answered, after what was accepted
abbrev pub IsReply : Accepted → List ℕ → Answer → List ℕ → Accepted → Type 0
IsReply said line answer text after = IsReplyTo (question_of said.stage line) said line answer text after
