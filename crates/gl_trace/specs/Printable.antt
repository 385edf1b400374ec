-- A text that stands in one line. This project's choice.
use Rattle.std.specs.Prelude.{◌≡◌, ℕ, Bool, true, nat_le, List}
use Rattle.std.specs.List.{list_all}
use Rattle.gl_world.specs.declared.history.Entry.{Entry}
use Rattle.gl_model.specs.declared.call.Call.{Call}
use Rattle.gl_model.specs.declared.gift.Gift.{Gift}
use Rattle.gl_model.specs.declared.reply.Reply.{Reply}
use Rattle.gl_trace.specs.EntryText.{entry_text}
use Rattle.gl_trace.specs.Typed.{IsTyped}

-- no byte is a control byte, as the end of a line is
abbrev pub is_printable : ℕ → Bool
is_printable byte = nat_le 32 byte

abbrev pub IsPrintable : List ℕ → Type 0
IsPrintable text = list_all is_printable text ≡ true

-- the text of an entry stands in one line
abbrev pub EntriesArePrintable : Type 0 → Type 0
EntriesArePrintable K = (index : ℕ) (e : Entry K Call Reply Gift) → IsTyped index e → IsPrintable (entry_text index e)
