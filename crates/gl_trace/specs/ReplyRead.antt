-- What the texts of replies are read as. This project's choice.
use Rattle.std.specs.Prelude.{ℕ, Bool, if◌then◌else◌, List, find, Option, Some, None, codes}
use Rattle.std.specs.Str.{bytes_eq}
use Rattle.gl_base.specs.Errno.{errno_name}
use Rattle.gl_base.specs.declared.errno.Errno.{Errno}
use Rattle.gl_model.specs.declared.reply.Reply.{Reply}
use Rattle.gl_model.specs.declared.reply.Reply.TheVariants.{Done, Number, Go, Found, Text, Ready, Refused}
use Rattle.gl_trace.specs.declared.form.Form.{Form}
use Rattle.gl_trace.specs.declared.form.Form.TheVariants.{Nothing, ANumber, AGo, AFound, AText, AReady, Never}
use Rattle.gl_trace.specs.declared.reply_read.TheConstants.{ERRNOS}
use Rattle.gl_trace.specs.CallRead.{n8, n32, n64, of_one, of_three}
use Rattle.gl_trace.specs.Fronts.{Fields, two_of}
use Rattle.gl_trace.specs.WordRead.{name_word, stripped}

abbrev pub is_errno : List ℕ → Errno → Bool
is_errno text errno = bytes_eq (errno_name errno) text

-- the error of a name
abbrev pub errno_of : List ℕ → Option Errno
errno_of text = find (is_errno text) ERRNOS

abbrev pub just_done : List ℕ → Option Reply
just_done text = if bytes_eq text (codes "ok") then Some Done else None

abbrev pub number_in : Option (List ℕ) → Option Reply
number_in None = None
number_in (Some word) = of_one (n64 word) (λ n. Number n)

abbrev pub number_reply : List ℕ → Option Reply
number_reply text = number_in (stripped (codes "ok ") text)

abbrev pub go_in : Option (List ℕ) → Option Reply
go_in None = None
go_in (Some word) = of_one (n32 word) (λ n. Go n)

abbrev pub go_reply : List ℕ → Option Reply
go_reply text = go_in (stripped (codes "go ") text)

abbrev pub text_in : Option (List ℕ) → Option Reply
text_in None = None
text_in (Some word) = of_one (name_word word) (λ text. Text text)

abbrev pub text_reply : List ℕ → Option Reply
text_reply text = text_in (stripped (codes "ok ") text)

abbrev pub ready_of : List ℕ → Option Reply
ready_of text =
    if bytes_eq text (codes "poll -") then Some (Ready 0)
    else if bytes_eq text (codes "poll IN") then Some (Ready 1)
    else if bytes_eq text (codes "poll HUP ERR") then Some (Ready 6) else None

abbrev pub found_by : Option Fields → Option Reply
found_by None = None
found_by (Some f) = of_three (n8 f.first) (n32 f.second) (n32 f.rest) (λ place offset count. Found place offset count)

abbrev pub found_in : Option (List ℕ) → Option Reply
found_in None = None
found_in (Some text) = found_by (two_of text)

abbrev pub found_of : List ℕ → Option Reply
found_of text = found_in (stripped (codes "ok ") text)

-- a reply of a form that isn't a refusal
abbrev pub done_of : Form → List ℕ → Option Reply
done_of Nothing text = just_done text
done_of ANumber text = number_reply text
done_of AGo text = go_reply text
done_of AFound text = found_of text
done_of AText text = text_reply text
done_of AReady text = ready_of text
done_of Never text = None

abbrev pub refused_or_done : Option Errno → Option Reply → Option Reply
refused_or_done None reply = reply
refused_or_done (Some errno) reply = Some (Refused errno)

-- the reply of a text, where a call may be answered a reply of this form
abbrev pub reply_of : Form → List ℕ → Option Reply
reply_of form text = refused_or_done (errno_of text) (done_of form text)
