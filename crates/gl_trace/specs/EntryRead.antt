-- What a line is read as: its index, its actor, its call and its reply. This project's choice.
use Rattle.std.specs.Prelude.{ℕ, min, List, take, Option, Some, None, codes}
use Rattle.gl_base.specs.BytesText.{bytes_text}
use Rattle.gl_model.specs.declared.call.Call.{Call}
use Rattle.gl_model.specs.declared.call.Call.TheVariants.{Ioctl}
use Rattle.gl_model.specs.declared.call.Part.{Part}
use Rattle.gl_model.specs.declared.call.Part.TheVariants.{Whole, Ask, Tell}
use Rattle.gl_model.specs.declared.reply.Reply.{Reply}
use Rattle.gl_trace.specs.declared.verb.CommandPart.{CommandPart}
use Rattle.gl_trace.specs.declared.verb.CommandPart.TheVariants.{Whole as WholePart, Ask as AskPart, Tell as TellPart}
use Rattle.gl_trace.specs.declared.verb.Verb.{Verb}
use Rattle.gl_trace.specs.BufferRead.{whole_guess}
use Rattle.gl_trace.specs.CallRead.{call_of, n8, n32, of_four}
use Rattle.gl_trace.specs.Forms.{form_of}
use Rattle.gl_trace.specs.Fronts.{Fields, Front, fields_of, front_of, three_of}
use Rattle.gl_trace.specs.ReplyRead.{reply_of}
use Rattle.gl_trace.specs.Verbs.{asked_of, verb_count, verb_of}
use Rattle.gl_trace.specs.WordRead.{answer_of, hex_of, stripped}

-- the numbers of a command
pub record Header : Type 0 where
  pub place : ℕ
  pub fd : ℕ
  pub cmd : ℕ
  pub len : ℕ

abbrev pub header : ℕ → ℕ → ℕ → ℕ → Header
header place fd cmd len = record { place = place; fd = fd; cmd = cmd; len = len }

abbrev pub header_of : Fields → Option Header
header_of f = of_four (n8 f.first) (n32 f.second) (hex_of f.third) (n32 f.fourth) header

-- a call, and what stands after its words
pub record Called : Type 0 where
  pub call : Call
  pub rest : List ℕ

abbrev pub called : Call → List ℕ → Called
called call rest = record { call = call; rest = rest }

abbrev pub plainly : Option Call → List ℕ → Option Called
plainly None rest = None
plainly (Some call) rest = Some (called call rest)

abbrev pub command : Header → List ℕ → Part → Call
command h bytes part = Ioctl h.place h.fd h.cmd h.len bytes part

abbrev pub told_by : Header → List ℕ → Option (Option ℕ) → List ℕ → Option Called
told_by h bytes None rest = None
told_by h bytes (Some answer) rest = Some (called (command h bytes (Tell answer)) rest)

abbrev pub told : Header → List ℕ → Option Front → Option Called
told h bytes None = None
told h bytes (Some f) = told_by h bytes (answer_of f.word) f.rest

-- the part of a command
abbrev pub in_part : Header → List ℕ → CommandPart → List ℕ → Option Called
in_part h bytes WholePart rest = Some (called (command h bytes Whole) rest)
in_part h bytes AskPart rest = Some (called (command h bytes Ask) rest)
in_part h bytes TellPart rest = told h bytes (front_of rest)

abbrev pub unblanked : Header → List ℕ → CommandPart → Option (List ℕ) → Option Called
unblanked h bytes asked None = None
unblanked h bytes asked (Some rest) = in_part h bytes asked rest

abbrev pub filled : Header → List ℕ → CommandPart → Option (List ℕ) → Option Called
filled h bytes asked None = None
filled h bytes asked (Some rest) = unblanked h bytes asked (stripped (codes " ") rest)

-- the bytes of a command, and what stands after them; `text` is what stands after its numbers
abbrev pub with_bytes : Header → CommandPart → List ℕ → Option Called
with_bytes h asked text =
    let bytes = whole_guess (min h.len 592) text in
    filled h bytes asked (stripped (bytes_text (take h.len bytes)) text)

abbrev pub command_in : Option Header → CommandPart → List ℕ → Option Called
command_in None asked text = None
command_in (Some h) asked text = with_bytes h asked text

abbrev pub by_asked : Option CommandPart → Verb → Fields → Option Called
by_asked None verb f = plainly (call_of verb f) f.rest
by_asked (Some asked) verb f = command_in (header_of f) asked f.rest

abbrev pub by_fields : Verb → Option Fields → Option Called
by_fields verb None = None
by_fields verb (Some f) = by_asked (asked_of verb) verb f

abbrev pub by_verb : Option Verb → List ℕ → Option Called
by_verb None text = None
by_verb (Some verb) text = by_fields verb (fields_of (verb_count verb) text)

-- the call whose verb is this word
abbrev pub called_in : List ℕ → List ℕ → Option Called
called_in word text = by_verb (verb_of word) text

-- an entry with its index
pub record Read : Type 0 where
  pub index : ℕ
  pub actor : ℕ
  pub call : Call
  pub reply : Reply

abbrev pub read : ℕ → ℕ → Call → Reply → Read
read index actor call reply = record { index = index; actor = actor; call = call; reply = reply }

abbrev pub of_arrow : Call → Option (List ℕ) → Option Reply
of_arrow call None = None
of_arrow call (Some text) = reply_of (form_of call) text

abbrev pub replied : ℕ → ℕ → Call → Option Reply → Option Read
replied index actor call None = None
replied index actor call (Some reply) = Some (read index actor call reply)

abbrev pub answered : ℕ → ℕ → Option Called → Option Read
answered index actor None = None
answered index actor (Some got) = replied index actor got.call (of_arrow got.call (stripped (codes "-> ") got.rest))

abbrev pub numbered : Option ℕ → Option ℕ → Option Called → Option Read
numbered None actor got = None
numbered (Some index) None got = None
numbered (Some index) (Some actor) got = answered index actor got

abbrev pub by_words : Option Fields → Option Read
by_words None = None
by_words (Some f) = numbered (n32 f.first) (n8 f.second) (called_in f.third f.rest)

-- the entry that a line is, if it is one
abbrev pub read_of : List ℕ → Option Read
read_of line = by_words (three_of line)
