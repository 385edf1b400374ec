-- What a monitor reads: the items in the bytes of an answer (`struct gpio_v2_line_event` and
-- `struct gpio_v2_line_info_changed` of `linux/gpio.h`). That an answer of more than 16 items is none is this project's
-- choice: no read asks for more.
use Rattle.std.specs.Prelude.{ℕ, zero, suc, ◌+◌, ◌*◌, ◌/◌, Bool, nat_lt, nat_le, ◌&&◌, if◌then◌else◌, List, [], ◌∷◌, ◌++◌, length, Option, Some, None}
use Rattle.gl_base.specs.Bits.{has_bit}
use Rattle.gl_uapi.specs.Fields.{stretch}
use Rattle.gl_uapi.specs.InfoChanged.{changed_in}
use Rattle.gl_uapi.specs.LineEvent.{event_in}
use Rattle.gl_uapi.specs.declared.info_changes.Changed.{Changed}
use Rattle.gl_uapi.specs.declared.line_events.Event.{Event}
use Rattle.gl_args.specs.declared.names.ToolName.{ToolName}
use Rattle.gl_args.specs.declared.names.ToolName.TheVariants.{Notify}
use Rattle.gl_monitor.specs.declared.item.Item.{Item}

-- how many bytes an item has
abbrev pub item_size : ToolName → ℕ
item_size Notify = 288
item_size _ = 48

-- an edge as an item
abbrev pub event_item : Event → Item
event_item event = record { time = event.timestamp; number = event.id; offset = event.offset }

-- a change as an item
abbrev pub change_item : Changed → Item
change_item changed = record { time = changed.timestamp; number = changed.kind; offset = changed.info.offset }

-- a kind of change is chosen: the bit of its number stands
abbrev pub is_chosen : ℕ → ℕ → Bool
is_chosen edges kind = nat_lt kind 64 && has_bit edges kind

abbrev pub chosen : ℕ → Item → Option Item
chosen edges item = if is_chosen edges item.number then Some item else None

-- the change at a place, where it is of a chosen kind
abbrev pub change_at : ℕ → List ℕ → ℕ → Option Item
change_at edges bytes i = chosen edges (change_item (changed_in (stretch (288 * i) 288 bytes)))

abbrev pub to_items : Option Item → List Item
to_items None = []
to_items (Some item) = item ∷ []

-- the n edges from the one at place i on
abbrev pub events_from : List ℕ → ℕ → ℕ → List Item
events_from bytes i zero = []
events_from bytes i (suc n) = event_item (event_in (stretch (48 * i) 48 bytes)) ∷ events_from bytes (i + 1) n

-- the chosen ones of the n changes from the one at place i on
abbrev pub changes_from : ℕ → List ℕ → ℕ → ℕ → List Item
changes_from edges bytes i zero = []
changes_from edges bytes i (suc n) = to_items (change_at edges bytes i) ++ changes_from edges bytes (i + 1) n

abbrev pub items_from : ToolName → ℕ → List ℕ → ℕ → ℕ → List Item
items_from Notify edges bytes i n = changes_from edges bytes i n
items_from _ edges bytes i n = events_from bytes i n

-- the items that bytes hold and that are printed: of gpionotify the changes of a chosen kind
abbrev pub items_in : ToolName → ℕ → List ℕ → List Item
items_in tool edges bytes =
    if nat_le (length bytes) (item_size tool * 16) then items_from tool edges bytes 0 (length bytes / item_size tool) else []
