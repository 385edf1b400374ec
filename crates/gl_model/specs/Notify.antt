-- Changes of watched lines, from `struct gpio_v2_line_info_changed` of `linux/gpio.h` and the kernel's document on the
-- GPIO character device.
use Rattle.std.specs.Prelude.{ℕ, List, [], ◌∷◌, map}
use Rattle.gl_uapi.specs.declared.info_changes.Changed.{Changed}
use Rattle.gl_watch.specs.Files.{notified}
use Rattle.gl_model.specs.Information.{info_of, line_at}
use Rattle.gl_model.specs.Places.{place_at}
use Rattle.gl_model.specs.World.{World}

-- what is told of a change of this kind: the line's information as it is now, and the monotonic clock
abbrev pub change_of : ℕ → ℕ → ℕ → World → Changed
change_of place offset kind w = record {
  info = info_of offset (line_at (place_at w place) offset);
  timestamp = w.mono;
  kind = kind;
}

-- the change goes to each file that watches the line
abbrev pub notify : ℕ → ℕ → ℕ → World → World
notify place offset kind w = record w { files = map (notified place (change_of place offset kind w)) w.files }

-- the same for some lines, in order
abbrev pub notify_each : ℕ → List ℕ → ℕ → World → World
notify_each place [] kind w = w
notify_each place (offset ∷ offsets) kind w = notify_each place offsets kind (notify place offset kind w)
