-- The row of an open file in a slot.
use Rattle.std.specs.Prelude.{ℕ, ◌==◌, Bool}
use Rattle.gl_asking.specs.declared.kinds.FileRow.{FileRow}

abbrev pub is_row : ℕ → FileRow → Bool
is_row slot row = row.slot == slot
