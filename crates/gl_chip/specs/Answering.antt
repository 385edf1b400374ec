-- Why a command that asks the driver is refused, and by which of its entries it is answered. Which refusal comes first is this project's
-- choice.
use Rattle.std.specs.Prelude.{◌≡◌, ◌≢◌, ◌⊎◌, ◌<◌, ℕ, List, [], ◌∷◌, ◌++◌, take, true, Option, Some, None, Result, Err}
use Rattle.gl_attrs.specs.ConfigFault.{config_fault}
use Rattle.gl_attrs.specs.Setting.{resolved_for}
use Rattle.gl_base.specs.Refusals.{first_of}
use Rattle.gl_base.specs.declared.errno.Errno.{Errno}
use Rattle.gl_base.specs.declared.errno.Errno.TheVariants.{Full, Io, NoDev, NoMemory}
use Rattle.gl_uapi.specs.Command.{command_of, size_of}
use Rattle.gl_uapi.specs.declared.commands.Command.TheVariants.{GetLine, SetConfig}
use Rattle.gl_world.specs.History.{entries_of, entry, fold}
use Rattle.gl_model.specs.declared.reply.Reply.{Reply}
use Rattle.gl_model.specs.declared.reply.Reply.TheVariants.{Go, Number, Refused}
use Rattle.gl_model.specs.AskedLines.{asked_in, num_lines, request_fault}
use Rattle.gl_model.specs.Claiming.{line_refusal}
use Rattle.gl_model.specs.Configuring.{directed_fault}
use Rattle.gl_model.specs.Entries.{is_get_line}
use Rattle.gl_model.specs.OpenFiles.{chip_file_refusal, number_refusal, request_file_refusal}
use Rattle.gl_model.specs.declared.device_call.CommandIn.{CommandIn}
use Rattle.gl_model.specs.Parts.{in_ask, in_tell}
use Rattle.gl_model.specs.Places.{place_at}
use Rattle.gl_model.specs.World.{World, Request, request_at}
use Rattle.gl_core.specs.Device.{OneEntry, core}
use Rattle.gl_chip.specs.Values.{OneView}

-- the worlds in which a call's entries were made

-- The first entry of a call was made in a world of which this holds: in front of it stand, of the actor's own entries, just those that it
-- had made before.
pub record AtFirst (v w : OneView) (P : World → Type 0) : Type 0 where
  pub before : List OneEntry
  pub first : OneEntry
  pub behind : List OneEntry
  pub at : w.seen ≡ before ++ first ∷ behind
  pub own_before : entries_of v.number before ≡ v.mine
  pub by_actor : first.actor ≡ v.number
  pub holds : P (fold core before)

-- the last entry of what was seen was made in a world of which this holds
pub record AtLast (w : OneView) (P : World → Type 0) : Type 0 where
  pub before : List OneEntry
  pub last : OneEntry
  pub at : w.seen ≡ before ++ last ∷ []
  pub holds : P (fold core before)

-- refusals

-- Of so many lines, the first one that is faulty has this fault: no line in front of it has any.
pub record FirstFaulty (fault_of : ℕ → Option Errno) (lines : ℕ) (errno : Errno) : Type 0 where
  pub position : ℕ
  pub within : position < lines
  pub is_faulty : fault_of position ≡ Some errno
  pub none_in_front : (earlier : ℕ) → earlier < position → fault_of earlier ≡ None

-- why GET_LINE is refused before its lines are looked at, first case first: its file; its bytes alone; no number for a new file
abbrev pub refusal_before_lines : ℕ → ℕ → List ℕ → World → Option Errno
refusal_before_lines place fd bytes w = first_of (chip_file_refusal place fd w ∷ request_fault bytes ∷ number_refusal w ∷ [])

-- GET_LINE with these bytes is refused so: before its lines are looked at, or for the first faulty one of them
abbrev pub RequestRefused : ℕ → ℕ → List ℕ → Errno → World → Type 0
RequestRefused place fd bytes errno w =
    (refusal_before_lines place fd bytes w ≡ Some errno)
    ⊎ ((refusal_before_lines place fd bytes w ≡ None) × FirstFaulty (line_refusal (place_at w place) (asked_in bytes)) (num_lines bytes) errno)

-- SET_CONFIG on this request, with these bytes, is refused so: by the bytes alone, or for the first faulty one of the request's lines
abbrev pub LinesRefused : ℕ → Request → List ℕ → Errno → World → Type 0
LinesRefused place request bytes errno w =
    let count = request.lines.count in
    (config_fault bytes count ≡ Some errno)
    ⊎ ((config_fault bytes count ≡ None) × FirstFaulty (directed_fault (place_at w place) request.lines (resolved_for bytes count)) count errno)

-- SET_CONFIG with these bytes is refused so: for its file, or on the request of its number
abbrev pub ConfigRefused : ℕ → ℕ → List ℕ → Errno → World → Type 0
ConfigRefused place fd bytes errno w =
    (request_file_refusal place fd w ≡ Some errno)
    ⊎ ((request_file_refusal place fd w ≡ None) × (request : Request) × (request_at w.requests fd ≡ Some request) × LinesRefused place request bytes errno w)

-- GET_LINE that its guard let in. Where its ask finds one of these refusals, that is its answer. It is refused for nothing else, but with
-- EIO for a driver that failed, which the actor's port has counted then (`Counted`).
pub record RequestsInOrder {X : Type 0} (Counted : Type 0) (result : Result X Errno) (v w : OneView) (c : CommandIn) : Type 0 where
  pub refused : (errno : Errno) → AtFirst v w (RequestRefused c.place c.fd (take (size_of GetLine) c.bytes) errno) → result ≡ Err errno
  pub only_then : (errno : Errno) → result ≡ Err errno → AtFirst v w (RequestRefused c.place c.fd (take (size_of GetLine) c.bytes) errno) ⊎ ((errno ≡ Io) × Counted)

-- The same of SET_CONFIG: at its last entry, which is its ask, where that was refused, and else its tell.
pub record ConfiguresInOrder {X : Type 0} (Counted : Type 0) (result : Result X Errno) (w : OneView) (c : CommandIn) : Type 0 where
  pub refused : (errno : Errno) → AtLast w (ConfigRefused c.place c.fd (take (size_of SetConfig) c.bytes) errno) → result ≡ Err errno
  pub only_then : (errno : Errno) → result ≡ Err errno → AtLast w (ConfigRefused c.place c.fd (take (size_of SetConfig) c.bytes) errno) ⊎ ((errno ≡ Io) × Counted)

-- the entries of a command

-- what the tell of a claim is answered: EIO where the driver failed, and else a number
abbrev pub IsClaimTold : Option ℕ → Reply → Type 0
IsClaimTold None reply = reply ≡ Refused Io
IsClaimTold (Some bits) reply = (fd : ℕ) × (reply ≡ Number fd)

-- The ask was answered Go. Then the driver made its own entries, and the tell holds what the driver answered. What the tell is answered
-- is the answer. Of GET_LINE that is EIO where the driver failed, and else a number.
pub record AnsweredByTell {X : Type 0} (answer : Reply → Result X Errno) (result : Result X Errno) (v w : OneView) (c : CommandIn) : Type 0 where
  pub number : ℕ
  pub driver : Option ℕ
  pub own : List OneEntry
  pub reply : Reply
  pub made : w.mine ≡ v.mine ++ entry v.number (in_ask c) (Go number) ∷ (own ++ entry v.number (in_tell driver c) reply ∷ [])
  pub result_is : result ≡ answer reply
  pub claim_told : is_get_line (command_of c.cmd) ≡ true → IsClaimTold driver reply

-- A command that asks the driver, and that its guard let in: its ask was refused, which is its one entry and its answer, or the tell
-- answers.
abbrev pub AnswersInOrder : {X : Type 0} → (Reply → Result X Errno) → Result X Errno → OneView → OneView → CommandIn → Type 0
AnswersInOrder answer result v w c =
    ((errno : Errno) × (result ≡ Err errno) × (w.mine ≡ v.mine ++ entry v.number (in_ask c) (Refused errno) ∷ []))
    ⊎ AnsweredByTell answer result v w c

-- the answer isn't that memory was wanted, that the history was full, or that the guard was closed: the machine was asked
abbrev pub WasLetIn : {X : Type 0} → Result X Errno → Type 0
WasLetIn result = (result ≢ Err NoMemory) × (result ≢ Err Full) × (result ≢ Err NoDev)
