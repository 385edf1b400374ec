-- How a tool finds its lines, and requests them where it does. The order of the calls and the refusals are this project's
-- choice, after libgpiod's tools.
use Rattle.std.specs.Prelude.{◌≡◌, ℕ, ◌^◌, Bool, true, false, not, ◌&&◌, nat_lt, is_some, if◌then◌else◌, List, [], ◌∷◌, ◌++◌, slice_index_or, drop, Option, Some, None}
use Rattle.gl_base.specs.Decimal.{decimal, number_of_text}
use Rattle.gl_base.specs.declared.command.TheConstants.{GET_LINE}
use Rattle.gl_base.specs.declared.errno.Errno.{Errno}
use Rattle.gl_base.specs.declared.errno.Errno.TheVariants.{Inval}
use Rattle.gl_base.specs.declared.operation.Do.TheVariants.{OpenChip, Find, Ioctl, Close}
use Rattle.gl_base.specs.declared.operation.Got.{Got}
use Rattle.gl_base.specs.declared.operation.Got.TheVariants.{Refused, Found as FoundAt}
use Rattle.gl_base.specs.Operation.{refusal}
use Rattle.gl_args.specs.declared.names.ToolName.{ToolName}
use Rattle.gl_args.specs.Names.{tool_text, requests_lines}
use Rattle.gl_args.specs.Options.{options_in, Options}
use Rattle.gl_client.specs.Program.{Program, done, print, ask, Left, goes_on, waits}
use Rattle.gl_args.specs.Values.{Line}
use Rattle.gl_lines.specs.declared.finder.Finder.{Finder}
use Rattle.gl_lines.specs.declared.finder.FinderStage.{FinderStage}
use Rattle.gl_lines.specs.declared.finder.FinderStage.TheVariants.{OpeningNamed, Looking, OpeningFound, Requesting, Closing, ChipOpen, LineOpen, Leaving, Ended}
use Rattle.gl_lines.specs.declared.found_line.FoundLine.{FoundLine}
use Rattle.gl_lines.specs.Bytes.{request_sent}
use Rattle.gl_lines.specs.FoundLines.{are_apart, place_of, offsets_of}
use Rattle.gl_lines.specs.Texts.{failed_line}

-- What finds lines gives the lines, or nothing where it met a refusal. Where a tool requests its lines, the request is
-- open then and the chip isn't; where it doesn't, the chip is.
abbrev pub Finding : Type 0
Finding = Program (Option (List FoundLine))

-- a file is closed, and nothing was found
abbrev pub leaves : ℕ → Finding
leaves slot = ask (Close slot) (λ _. done None)

abbrev pub below_32_bits : Option ℕ → Option ℕ
below_32_bits None = None
below_32_bits (Some number) = if nat_lt number (2 ^ 32) then Some number else None

-- the offset that a line's word says, if it says one: digits whose number fits, with a chip, and where not every word is
-- a name
abbrev pub offset_said : Options → List ℕ → Option ℕ
offset_said opts word = if is_some opts.chip && not opts.by_name then below_32_bits (number_of_text word) else None

-- the word of a line
abbrev pub word_at : Options → ℕ → List ℕ
word_at opts i = (slice_index_or opts.lines i ([], false)).0

-- a line that was given by its offset, and one that was found by its name
abbrev pub given_line : ℕ → FoundLine
given_line offset = record { place = 0; offset = offset; name = None }

abbrev pub named_line : ℕ → ℕ → List ℕ → FoundLine
named_line place offset word = record { place = place; offset = offset; name = Some word }

module _ (tool : ToolName) (base made : ℕ) (opts : Options) where
  -- a refusal with nothing open, and one with a file open
  abbrev pub fails : Errno → Finding
  fails errno = print (failed_line (tool_text tool) errno) (done None)

  abbrev pub fails_at : ℕ → Errno → Finding
  fails_at slot errno = print (failed_line (tool_text tool) errno) (leaves slot)

  -- the chip was closed after the request
  abbrev pub chip_closed : List FoundLine → Option Errno → Finding
  chip_closed found (Some errno) = fails_at made errno
  chip_closed found None = done (Some found)

  -- the lines were requested
  abbrev pub requested : List FoundLine → Option Errno → Finding
  requested found (Some errno) = fails_at base errno
  requested found None = ask (Close base) (λ got. chip_closed found (refusal got))

  -- all lines are known, and the chip is open
  abbrev pub known : List FoundLine → Finding
  known found =
      if requests_lines tool then ask (Ioctl base GET_LINE 592 (request_sent tool opts (offsets_of found)) made) (λ got. requested found (refusal got))
      else done (Some found)

  -- the chip of the lines was opened
  abbrev pub opened : List FoundLine → Option Errno → Finding
  opened found (Some errno) = fails errno
  opened found None = known found

  -- all lines are known
  abbrev pub all_found : List FoundLine → Finding
  all_found found =
      if is_some opts.chip then known found
      else if are_apart found then fails Inval
      else ask (OpenChip base (decimal (place_of found))) (λ got. opened found (refusal got))

  -- a refusal while lines are looked for: the chip is open where it was named
  abbrev pub fails_looking : Errno → Finding
  fails_looking errno = if is_some opts.chip then fails_at base errno else fails errno

  -- a name was looked for; next takes the lines on
  abbrev pub looked : (List FoundLine → Finding) → List FoundLine → List ℕ → Got → Finding
  looked next found word (FoundAt place offset count) =
      if opts.strict && nat_lt 1 count then fails_looking Inval else next (found ++ named_line place offset word ∷ [])
  looked next found word (Refused errno) = fails_looking errno
  looked next found word _ = next found

  abbrev pub chip_slot : Option ℕ
  chip_slot = if is_some opts.chip then Some base else None

  -- one line: its offset, or its name is looked for
  abbrev pub looks_for : Option ℕ → List ℕ → (List FoundLine → Finding) → List FoundLine → Finding
  looks_for (Some offset) word next found = next (found ++ given_line offset ∷ [])
  looks_for None word next found = ask (Find chip_slot word) (λ got. looked next found word got)

  -- the lines one after the other, after those that are known
  abbrev pub looks : List Line → List FoundLine → Finding
  looks [] found = all_found found
  looks (line ∷ lines) found = looks_for (offset_said opts line.0) line.0 (looks lines) found

  -- the chip that was named was opened
  abbrev pub named_opened : Option Errno → Finding
  named_opened (Some errno) = fails errno
  named_opened None = looks opts.lines []

  abbrev pub begins : Option (List ℕ) → Finding
  begins None = looks opts.lines []
  begins (Some chip) = ask (OpenChip base chip) (λ got. named_opened (refusal got))

  -- what a tool does to find its lines, and to request them where it does
  abbrev pub finds : Finding
  finds = begins opts.chip

abbrev pub found_where : Bool → List FoundLine → Option (List FoundLine)
found_where true found = Some found
found_where false found = None

abbrev pub has_found : FinderStage → Bool
has_found (Ended ok) = ok
has_found _ = false

-- what is left; one line a stage
abbrev pub left_at : ToolName → ℕ → ℕ → Options → ℕ → List FoundLine → FinderStage → Left (Option (List FoundLine))
left_at tool base made opts next found OpeningNamed = waits (λ got. named_opened tool base made opts (refusal got))
left_at tool base made opts next found (Looking word) = waits (λ got. looked tool base made opts (looks tool base made opts (drop next opts.lines)) found word got)
left_at tool base made opts next found OpeningFound = waits (λ got. opened tool base made opts found (refusal got))
left_at tool base made opts next found Requesting = waits (λ got. requested tool base made opts found (refusal got))
left_at tool base made opts next found Closing = waits (λ got. chip_closed tool base made opts found (refusal got))
left_at tool base made opts next found ChipOpen = goes_on (leaves base)
left_at tool base made opts next found LineOpen = goes_on (leaves made)
left_at tool base made opts next found Leaving = waits (λ _. done None)
left_at tool base made opts next found (Ended ok) = goes_on (done (found_where ok found))

abbrev pub left : Finder → Left (Option (List FoundLine))
left f = left_at f.tool f.base f.made (options_in f.opts) f.next f.found.items f.stage

-- what a finder keeps: its tool, its slots and its options
pub record Stays (old new : Finder) : Type 0 where
  pub tool : new.tool ≡ old.tool
  pub base : new.base ≡ old.base
  pub made : new.made ≡ old.made
  pub opts : new.opts ≡ old.opts

-- where it stands, and what it has found so far
pub record StaysThere (old new : Finder) : Type 0 where
  pub stage : new.stage ≡ old.stage
  pub next : new.next ≡ old.next
  pub found : new.found.items ≡ old.found.items
