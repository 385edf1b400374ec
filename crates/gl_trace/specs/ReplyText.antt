-- The texts of replies. This project's choice.
use Rattle.std.specs.Prelude.{ℕ, ◌==◌, if◌then◌else◌, List, ◌++◌, ◌∷◌, codes}
use Rattle.gl_base.specs.Decimal.{decimal}
use Rattle.gl_base.specs.Errno.{errno_name}
use Rattle.gl_model.specs.declared.reply.Reply.{Reply}
use Rattle.gl_model.specs.declared.reply.Reply.TheVariants.{Done, Number, Go, Found, Text, Ready, Refused}
use Rattle.gl_trace.specs.TextWord.{text_word}

-- what a file is ready for: nothing, a read, or (6) an error and a hang-up
abbrev pub ready_text : ℕ → List ℕ
ready_text bits = if bits == 0 then codes "poll -" else if bits == 1 then codes "poll IN" else codes "poll HUP ERR"

abbrev pub reply_text : Reply → List ℕ
reply_text Done = codes "ok"
reply_text (Number n) = codes "ok " ++ decimal n
reply_text (Go n) = codes "go " ++ decimal n
reply_text (Found place offset count) = codes "ok " ++ (decimal place ++ (32 ∷ (decimal offset ++ (32 ∷ decimal count))))
reply_text (Text text) = codes "ok " ++ text_word text
reply_text (Ready bits) = ready_text bits
reply_text (Refused errno) = errno_name errno
