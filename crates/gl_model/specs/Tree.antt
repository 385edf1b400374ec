-- The calls on the tree of gpio-sim, and a device that goes live. From the kernel's document on gpio-sim; the refusals and
-- their order are this project's choice.
use Rattle.std.specs.Prelude.{ℕ, List, [], ◌∷◌, length, map, Some, Result, Ok, Err}
use Rattle.gl_base.specs.Positions.{change_at}
use Rattle.gl_base.specs.declared.errno.Errno.{Errno}
use Rattle.gl_base.specs.declared.kind.Kind.TheVariants.{Simulated}
use Rattle.gl_desc.specs.Desc.{first_desc, named}
use Rattle.gl_desc.specs.declared.desc.Desc.{Desc}
use Rattle.gl_hogs.specs.Hogs.{hogged_bank, hogged_descs}
use Rattle.gl_registry.specs.Chips.{new_chip}
use Rattle.gl_registry.specs.declared.registry.Chip.{Chip}
use Rattle.gl_simtree.specs.Calls.{live_refusal, made, mkdir_refusal, read_answer, removed, rmdir_refusal, write_refusal, written}
use Rattle.gl_simtree.specs.Nodes.{node_at}
use Rattle.gl_simtree.specs.Plans.{planned_hogs, planned_label, planned_lines, planned_names}
use Rattle.gl_simtree.specs.Rows.{banks_of, with_state}
use Rattle.gl_simtree.specs.declared.row.TreeRow.{TreeRow}
use Rattle.gl_simtree.specs.declared.row.State.TheVariants.{Live}
use Rattle.gl_model.specs.declared.place.Origin.{Origin}
use Rattle.gl_model.specs.declared.place.Place.{Place}
use Rattle.gl_model.specs.declared.reply.Reply.TheVariants.{Text}
use Rattle.gl_model.specs.Chips.{new_origin, new_place, places_left, with_chips}
use Rattle.gl_model.specs.Outcome.{Outcome, done, refused, replies, refused_or}
use Rattle.gl_model.specs.World.{World}

-- mkdir
abbrev pub make_dir : List ℕ → World → Outcome
make_dir path w = refused_or (mkdir_refusal (node_at path) w.tree) w (done (record w { tree = made (node_at path) w.tree }))

-- rmdir
abbrev pub remove_dir : List ℕ → World → Outcome
remove_dir path w = refused_or (rmdir_refusal (node_at path) w.tree) w (done (record w { tree = removed (node_at path) w.tree }))

-- a write to a file of the tree
abbrev pub write_file : List ℕ → List ℕ → World → Outcome
write_file path value w =
    refused_or (write_refusal (node_at path) value w.tree) w (done (record w { tree = written (node_at path) value w.tree }))

-- what a read answers: the value, or why it is refused
abbrev pub read_outcome : Result (List ℕ) Errno → World → Outcome
read_outcome (Ok text) w = replies (Text text) w
read_outcome (Err errno) w = refused errno w

-- a read of a file of the tree
abbrev pub read_file : List ℕ → World → Outcome
read_file path w = read_outcome (read_answer (node_at path) w.tree) w

-- lines with names, each at its offset
abbrev pub with_names : List (ℕ × List ℕ) → List Desc → List Desc
with_names [] descs = descs
with_names (name ∷ names) descs = with_names names (change_at first_desc name.0 (named name.1) descs)

-- the chip that a bank becomes
abbrev pub chip_of_bank : TreeRow → Chip
chip_of_bank bank = new_chip (planned_label (Some bank)) (planned_lines (Some bank))

-- the tables of its lines: the lines have their names, and then the hogs are held in order of offset
abbrev pub place_of_bank : List TreeRow → TreeRow → Place
place_of_bank tree bank =
    let place = new_place (planned_lines (Some bank)) in
    record place {
      descs = hogged_descs (planned_hogs (Some bank) tree) (with_names (planned_names (Some bank) tree) place.descs);
      bank = hogged_bank (planned_hogs (Some bank) tree) place.bank;
    }

-- where the chips of a device come from
abbrev pub origin_of_bank : List ℕ → TreeRow → Origin
origin_of_bank device bank = new_origin Simulated (Some device)

-- the world in which some banks of a device have become chips, in order
abbrev pub with_banks : List ℕ → List TreeRow → World → World
with_banks device banks w = with_chips (map chip_of_bank banks) (map (origin_of_bank device) banks) (map (place_of_bank w.tree) banks) w

-- a device is live, from the next place on
abbrev pub gone_live : List ℕ → World → Outcome
gone_live device w =
    done (with_banks device (banks_of device w.tree) (record w { tree = with_state device (Live (length w.chips)) w.tree }))

-- `live` to 1: each bank of the device, in order of its mkdir, takes the next place and becomes a chip.
abbrev pub go_live : List ℕ → World → Outcome
go_live device w = refused_or (live_refusal device (places_left w) w.tree) w (gone_live device w)
