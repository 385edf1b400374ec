-- A line is the text of one entry at most, and reading finds it. This project's choice.
use Rattle.std.specs.Prelude.{◌≡◌, ℕ, List}
use Rattle.gl_world.specs.declared.history.Entry.{Entry}
use Rattle.gl_model.specs.declared.call.Call.{Call}
use Rattle.gl_model.specs.declared.gift.Gift.{Gift}
use Rattle.gl_model.specs.declared.reply.Reply.{Reply}
use Rattle.gl_trace.specs.EntryText.{HasText, entry_text}
use Rattle.gl_trace.specs.Typed.{IsTyped}

module _ {K : Type 0} where
  -- the line is the text of the entry
  pub record IsLineOf (line : List ℕ) (index : ℕ) (e : Entry K Call Reply Gift) : Type 0 where
    pub has_text : HasText e
    pub is_text : line ≡ entry_text index e

-- two entries never have one text
abbrev pub OneEntryALine : Type 0 → Type 0
OneEntryALine K = (line : List ℕ) (index other : ℕ) (d e : Entry K Call Reply Gift) → IsTyped index d → IsTyped other e → IsLineOf line index d → IsLineOf line other e → (index ≡ other) × (d ≡ e)
