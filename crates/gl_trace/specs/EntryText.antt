-- The text of an entry of a history, and which entries have one. This project's choice.
use Rattle.std.specs.Prelude.{◌≡◌, ℕ, true, ◌==◌, IsTrue, List, ◌∷◌, ◌++◌, drop, codes}
use Rattle.std.specs.List.{list_all}
use Rattle.gl_base.specs.Decimal.{decimal}
use Rattle.gl_base.specs.Rows.{Each}
use Rattle.gl_world.specs.declared.history.Entry.{Entry}
use Rattle.gl_model.specs.declared.call.Call.{Call}
use Rattle.gl_model.specs.declared.call.Call.TheVariants.{Ioctl}
use Rattle.gl_model.specs.declared.gift.Gift.{Gift}
use Rattle.gl_model.specs.declared.reply.Reply.{Reply}
use Rattle.gl_model.specs.Machine.{Always}
use Rattle.gl_model.specs.World.{World}
use Rattle.gl_trace.specs.CallText.{call_words}
use Rattle.gl_trace.specs.Forms.{form_of, is_of}
use Rattle.gl_trace.specs.ReplyText.{reply_text}
use Rattle.gl_trace.specs.Words.{before}

-- the bytes of a command are zero at and past the buffer's length, which the text doesn't tell
abbrev pub TellsBytes : Call → Type 0
TellsBytes (Ioctl place fd cmd len bytes part) = IsTrue (list_all (λ byte. byte == 0) (drop len bytes))
TellsBytes call = Unit {0}

module _ {K : Type 0} where
  -- the text of an entry: its index, its actor, its call, `->` and its reply
  abbrev pub entry_text : ℕ → Entry K Call Reply Gift → List ℕ
  entry_text index e = before (decimal index ∷ decimal e.actor ∷ call_words e.call) (codes "-> " ++ reply_text e.reply)

  -- an entry has a text: its reply is a refusal or of its call's form, and the text tells all of its bytes
  pub record HasText (e : Entry K Call Reply Gift) : Type 0 where
    pub form : is_of (form_of e.call) e.reply ≡ true
    pub bytes : TellsBytes e.call

-- each entry of a legal history has a text
abbrev pub LegalEntriesHaveTexts : {K : Type 0} → (K → World → Type 0) → Type 0
LegalEntriesHaveTexts {K} stands_for = Always stands_for (λ history. Each (λ (e : Entry K Call Reply Gift). HasText e) history)
