-- What comes of a session with two or more actors. This project's choice.
use Rattle.std.specs.Prelude.{◌≡◌, ℕ, ◌≤◌, true, List, length, Option, Some}
use Rattle.gl_driver.specs.Told.{Told, new_port}
use Rattle.gl_script.specs.Cost.{session_cost}
use Rattle.gl_script.specs.Section.{SaidSection}
use Rattle.gl_core.specs.Device.{OneEntry}
use Rattle.gl_check.specs.Drivers.{DriverOver}
use Rattle.gl_check.specs.Joining.{Maps}
use Rattle.gl_check.specs.Many.{AllPlayed, Many, PlannedTells, PortsTell, Texts, actor_sections}

-- What a session with two or more actors came to, over ports that told this before and tell that now: its history and its texts are those
-- of Many, and no longer than the session costs. Each actor's port tells all that its statements and its calls make of what it told
-- before: how many calls, the plan, the accepted bits, and the operation and the answer of the last call; and a planned driver answered each call as the port
-- then planned (`ports`). So where the driver is planned and all ports were new, its tells are as planned; and the ports tell
-- in the end what the actors' turns tell, but for what is told in a driver's own entries. The ports keep the
-- maps in the end that the first actor's does behind `after`: those that `setup` taught it.
pub record CameToMany (driver : DriverOver) (sections : List SaidSection) (before left : ℕ → Option Told) (m : Maps) (history : List OneEntry) (texts : Texts) : Type 0 where
  pub many : Many driver sections history texts
  pub ports : AllPlayed driver before left sections history texts
  pub as_planned : driver.kind.is_planned ≡ true → ((n : ℕ) → n ≤ length (actor_sections sections) → before n ≡ Some new_port) → PlannedTells driver sections history texts
  pub tells : PortsTell driver before left sections history texts ports
  pub maps : m ≡ ports.behind.maps
  pub within : length history ≤ session_cost sections

-- Whatever the driver and its ports are: what all actors carried out comes to Many, where it makes eight entries of its own at most for a call.
abbrev pub AllPlayedCameToMany : DriverOver → Type 0
AllPlayedCameToMany driver = driver.kind.limit ≤ 8 → (before left : ℕ → Option Told) (sections : List SaidSection) (history : List OneEntry) (texts : Texts)
    (played : AllPlayed driver before left sections history texts) → CameToMany driver sections before left played.behind.maps history texts
