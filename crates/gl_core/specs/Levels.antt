-- The words in which calls on the levels of lines are promised.
use Rattle.std.specs.Prelude.{ℕ, Bool, not}
use Rattle.gl_bank.specs.Level.{first_levels, pulled}
use Rattle.gl_base.specs.Positions.{change_at}
use Rattle.gl_base.specs.declared.kind.Kind.{Kind}
use Rattle.gl_base.specs.declared.kind.Kind.TheVariants.{Simulated, Remote}
use Rattle.gl_model.specs.Pulls.{is_simulated}
use Rattle.gl_model.specs.declared.place.Place.{Place}

-- a chip of this kind is what a call wants that is for one kind alone
abbrev pub is_wanted : Kind → Kind → Bool
is_wanted Simulated kind = is_simulated kind
is_wanted Remote kind = not (is_simulated kind)

-- the tables of a place after a line was pulled
abbrev pub with_pull : ℕ → Bool → Place → Place
with_pull offset up tables = record tables { bank = change_at first_levels offset (pulled up) tables.bank }
