-- The levels of lines, as the outside sets and reads them: the pull of a simulated line, from the kernel's document on
-- gpio-sim, and the level that an interrupt of a remote chip tells.
use Rattle.std.specs.Prelude.{ℕ, Bool, true, false, not, nat_le, if◌then◌else◌, [], ◌∷◌, Option}
use Rattle.gl_bank.specs.Level.{change_between, first_levels, level, levels_at, pulled}
use Rattle.gl_bank.specs.declared.levels.Change.{Change}
use Rattle.gl_bank.specs.declared.levels.Levels.{Levels}
use Rattle.gl_base.specs.Positions.{change_at}
use Rattle.gl_base.specs.Refusals.{first_of, when}
use Rattle.gl_base.specs.declared.errno.Errno.{Errno}
use Rattle.gl_base.specs.declared.errno.Errno.TheVariants.{Inval}
use Rattle.gl_base.specs.declared.kind.Kind.{Kind}
use Rattle.gl_base.specs.declared.kind.Kind.TheVariants.{Simulated, Remote}
use Rattle.gl_model.specs.Chips.{place_refusal}
use Rattle.gl_model.specs.Edges.{raw_edge}
use Rattle.gl_model.specs.Outcome.{Outcome, done, numbers, refused_or}
use Rattle.gl_model.specs.Places.{kind_at, lines_at, place_at, with_place}
use Rattle.gl_model.specs.World.{World}

-- whether a chip is simulated
abbrev pub is_simulated : Kind → Bool
is_simulated Simulated = true
is_simulated Remote = false

-- why a call on a line of one kind of chip is refused, first case first: no chip was made there; the chip has no such line;
-- the chip is of the other kind
abbrev pub level_refusal : ℕ → ℕ → Bool → World → Option Errno
level_refusal place offset is_kind w = first_of
    (place_refusal place w
    ∷ when (nat_le (lines_at w place) offset) Inval
    ∷ when (not is_kind) Inval
    ∷ [])

-- what a new pull does to the physical level of a line
abbrev pub pull_change : Bool → Levels → Option Change
pull_change up line = change_between (level line) (level (pulled up line))

-- the line is pulled, and where its physical level changes by it this is a raw edge
abbrev pub pull_line : ℕ → ℕ → Bool → World → World
pull_line place offset up w =
    raw_edge place offset (pull_change up (levels_at (place_at w place).bank offset))
    (with_place place (λ tables. record tables { bank = change_at first_levels offset (pulled up) tables.bank }) w)

-- Pull sets the pull of a line of a simulated chip.
abbrev pub pull : ℕ → ℕ → Bool → World → Outcome
pull place offset up w = refused_or (level_refusal place offset (is_simulated (kind_at w place)) w) w (done (pull_line place offset up w))

-- Interrupt: a remote chip tells the level of a line, which is kept as its pull.
abbrev pub interrupt : ℕ → ℕ → Bool → World → Outcome
interrupt place offset up w = refused_or (level_refusal place offset (not (is_simulated (kind_at w place))) w) w (done (pull_line place offset up w))

-- a level as a number
abbrev pub bit : Bool → ℕ
bit up = if up then 1 else 0

-- Level answers the physical level of a line of a simulated chip, or its pull.
abbrev pub read_level : ℕ → ℕ → Bool → World → Outcome
read_level place offset pull w =
    let line = levels_at (place_at w place).bank offset in
    refused_or (level_refusal place offset (is_simulated (kind_at w place)) w) w (numbers (bit (if pull then line.pull else level line)) w)
