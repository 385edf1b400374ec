-- Opening a chip, closing a file, and looking for lines by their names. From the kernel's document on the GPIO character
-- device and libgpiod's manual pages.
use Rattle.std.specs.Prelude.{ℕ, ◌+◌, Bool, ◌||◌, not, is_some, if◌then◌else◌, List, [], ◌∷◌, ◌++◌, length, flat_map, Option, Some, None}
use Rattle.std.specs.Str.{bytes_eq}
use Rattle.gl_bank.specs.Level.{first_levels, released}
use Rattle.gl_base.specs.Lines.{offsets_of}
use Rattle.gl_base.specs.Positions.{change_each}
use Rattle.gl_base.specs.Refusals.{first_of, when}
use Rattle.gl_base.specs.Rows.{without_first}
use Rattle.gl_base.specs.declared.errno.Errno.{Errno}
use Rattle.gl_base.specs.declared.errno.Errno.TheVariants.{BadF, NoDev, NoEnt}
use Rattle.gl_debounce.specs.Timer.{let_go, with_timer}
use Rattle.gl_debounce.specs.declared.timer.Timer.{Timer}
use Rattle.gl_desc.specs.Desc.{first_desc, freed}
use Rattle.gl_desc.specs.declared.desc.Desc.{Desc}
use Rattle.gl_registry.specs.Chips.{place_of_word}
use Rattle.gl_uapi.specs.declared.layout.TheConstants.{CHANGED_RELEASED}
use Rattle.gl_watch.specs.Files.{file_at, is_file, new_file}
use Rattle.gl_model.specs.declared.place.Place.{Place}
use Rattle.gl_model.specs.declared.reply.Reply.TheVariants.{Found}
use Rattle.gl_model.specs.Chips.{is_leaving, is_up, phase_at, used_places}
use Rattle.gl_model.specs.Notify.{notify_each}
use Rattle.gl_model.specs.OpenFiles.{is_hold, number_refusal}
use Rattle.gl_model.specs.Outcome.{Outcome, done, numbers, refused, replies, refused_or}
use Rattle.gl_model.specs.Places.{place_at, with_place}
use Rattle.gl_model.specs.World.{World, Request, has_number, request_at}

-- OpenChip

-- why the chip of a place isn't opened, first case first: it is leaving; there is no number for the file
abbrev pub open_refusal : ℕ → World → Option Errno
open_refusal place w = first_of (when (is_leaving (phase_at w place)) NoDev ∷ number_refusal w ∷ [])

-- the world with a new chip file, of the next number
abbrev pub with_file : ℕ → World → World
with_file place w = record w { files = w.files ++ new_file w.next place [] ∷ []; next = w.next + 1 }

-- the chip of a word is opened, if a chip that is up or leaving has the word
abbrev pub open_at : Option ℕ → World → Outcome
open_at None w = refused NoEnt w
open_at (Some place) w = refused_or (open_refusal place w) w (numbers w.next (with_file place w))

-- OpenChip opens the chip that has this word, and answers the number of the file.
abbrev pub open_chip : List ℕ → World → Outcome
open_chip word w = open_at (place_of_word w.chips word) w

-- Close

-- the number is that of an open file: of a chip file, or of a request that holds its lines
abbrev pub is_open : ℕ → World → Bool
is_open fd w = is_some (file_at fd w.files) || is_hold (request_at w.requests fd)

-- the tables with some lines let go of: nobody has them, and their flags and periods are gone; their directions stay
abbrev pub with_lines_freed : List ℕ → Place → Place
with_lines_freed offsets place = record place {
  descs = change_each first_desc offsets freed place.descs;
  bank = change_each first_levels offsets released place.bank;
}

-- the timers with some lines of a place let go of: no deadline of them runs, and none is hard
abbrev pub with_timers_let_go : ℕ → List ℕ → List (Option Timer) → List (Option Timer)
with_timers_let_go place [] timers = timers
with_timers_let_go place (offset ∷ offsets) timers =
    with_timers_let_go place offsets (with_timer let_go place offset timers)

-- the world without a request, whose lines are let go of
abbrev pub without_request : Request → World → World
without_request request w =
    with_place request.place (with_lines_freed (offsets_of request.lines)) (record w {
      requests = without_first (has_number request.fd) w.requests;
      timers = with_timers_let_go request.place (offsets_of request.lines) w.timers;
    })

-- a request is closed: its lines are let go of, and each is told of as released, in the order of the request
abbrev pub close_request : Option Request → World → World
close_request None w = w
close_request (Some request) w = notify_each request.place (offsets_of request.lines) CHANGED_RELEASED (without_request request w)

-- Close closes a file, whatever the phase of its chip: EBADF where no open file has the number.
abbrev pub close : ℕ → World → Outcome
close fd w =
    refused_or (when (not (is_open fd w)) BadF) w
    (done (close_request (request_at w.requests fd) (record w { files = without_first (is_file fd) w.files })))

-- Find

-- the lines of this name among some of a place, which stand from an offset on: each by its place and offset
abbrev pub named_from : List ℕ → ℕ → ℕ → List Desc → List (ℕ × ℕ)
named_from name place offset [] = []
named_from name place offset (line ∷ lines) =
    if bytes_eq line.name name then (place, offset) ∷ named_from name place (offset + 1) lines
    else named_from name place (offset + 1) lines

-- the lines of this name of the chip of a place, if it is up
abbrev pub named_at : List ℕ → World → ℕ → List (ℕ × ℕ)
named_at name w place = if is_up (phase_at w place) then named_from name place 0 (place_at w place).descs else []

-- the places where lines are looked for: one, or all
abbrev pub searched : Option ℕ → World → List ℕ
searched None w = used_places w
searched (Some place) w = place ∷ []

-- the first of some lines, and how many there are
abbrev pub found : List (ℕ × ℕ) → World → Outcome
found [] w = refused NoEnt w
found (line ∷ lines) w = replies (Found line.0 line.1 (length (line ∷ lines))) w

-- Find answers the first line of this name, in order of place and offset, and how many lines have it.
abbrev pub find_lines : Option ℕ → List ℕ → World → Outcome
find_lines place name w = found (flat_map (named_at name w) (searched place w)) w
