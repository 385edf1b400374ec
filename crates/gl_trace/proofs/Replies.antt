-- Replies are read as what they were written for, and as nothing else.
use Rattle.std.proofs.Common.{◌≡◌, ℕ, ◌<◌, Bool, true, false, cond, ◌||◌, List, [], ◌∷◌, ◌++◌, Option, Some, None, refl, sym, ◌∙◌, ap, arith}
use Rattle.std.specs.Prelude.{◌==◌, codes}
use Rattle.std.specs.Str.{bytes_eq}
use Rattle.std.proofs.lemmas.Bool.Decides.{nat_tests}
use Rattle.std.proofs.lemmas.Slice.Eq.{bytes_eq-Decides}
use Rattle.gl_base.specs.Decimal.{decimal}
use Rattle.gl_base.specs.Errno.{errno_name}
use Rattle.gl_base.specs.declared.errno.Errno.{Errno}
use Rattle.gl_base.specs.declared.errno.Errno.TheVariants.{Perm, NoEnt, Io, NxIo, BadF, Again, NoMemory, Fault, Busy, Exist, NoDev, Inval, MFile, NoSpc, OpNotSupp, Full}
use Rattle.gl_model.specs.declared.reply.Reply.{Reply}
use Rattle.gl_model.specs.declared.reply.Reply.TheVariants.{Done, Number, Go, Found, Text, Ready, Refused}
use Rattle.gl_trace.specs.declared.form.Form.{Form}
use Rattle.gl_trace.specs.declared.form.Form.TheVariants.{Nothing, ANumber, AGo, AFound, AText, AReady, Never}
use Rattle.gl_trace.specs.CallRead.{n8, n32, n64, of_one, of_three}
use Rattle.gl_trace.specs.Forms.{is_of, is_readiness}
use Rattle.gl_trace.specs.Fronts.{Fields, two_of}
use Rattle.gl_trace.specs.ReplyRead.{done_of, errno_of, found_by, found_in, go_in, is_errno, number_in, refused_or_done, reply_of, text_in}
use Rattle.gl_trace.specs.ReplyText.{ready_text, reply_text}
use Rattle.gl_trace.specs.TextWord.{text_word}
use Rattle.gl_trace.specs.Typed.{IsTypedReply}
use Rattle.gl_trace.specs.WordRead.{name_word, stripped}
use Rattle.gl_trace.specs.Words.{before}
use Rattle.gl_trace.specs.declared.reply_read.TheConstants.{ERRNOS}
use Rattle.gl_trace.proofs.Fields.{f8, f32, f64, found_passes}
use Rattle.gl_trace.proofs.Shapes.{two_found, two_stands}
use Rattle.gl_trace.proofs.Stripping.{stripped_back, stripped_same}
use Rattle.gl_trace.proofs.Texts.{name_field}

errno_back : (errno : Errno) → errno_of (errno_name errno) ≡ Some errno
errno_back Perm = refl
errno_back NoEnt = refl
errno_back Io = refl
errno_back NxIo = refl
errno_back BadF = refl
errno_back Again = refl
errno_back NoMemory = refl
errno_back Fault = refl
errno_back Busy = refl
errno_back Exist = refl
errno_back NoDev = refl
errno_back Inval = refl
errno_back MFile = refl
errno_back NoSpc = refl
errno_back OpNotSupp = refl
errno_back Full = refl

-- no answer that isn't a refusal begins as the name of an error
ok_is_none : (text : List ℕ) → errno_of (codes "ok " ++ text) ≡ None
ok_is_none text = refl

go_is_none : (text : List ℕ) → errno_of (codes "go " ++ text) ≡ None
go_is_none text = refl

ready_back : (bits : ℕ) → is_readiness bits ≡ true → reply_of AReady (ready_text bits) ≡ Some (Ready bits)
ready_back bits h = by_tests (bits == 0) (bits == 1) (bits == 6) refl refl refl h
  where
    by_tests : (a b c : Bool) → (bits == 0) ≡ a → (bits == 1) ≡ b → (bits == 6) ≡ c → (a || (b || c)) ≡ true → reply_of AReady (cond a (codes "poll -") (cond b (codes "poll IN") (codes "poll HUP ERR"))) ≡ Some (Ready bits)
    by_tests true b c p q r e = let is : 0 ≡ bits = grind (arith, nat_tests) in ap (λ n. Some (Ready n)) is
    by_tests false true c p q r e = let is : 1 ≡ bits = grind (arith, nat_tests) in ap (λ n. Some (Ready n)) is
    by_tests false false true p q r e = let is : 6 ≡ bits = grind (arith, nat_tests) in ap (λ n. Some (Ready n)) is
    by_tests false false false p q r e = cc

found_back : (place offset count : ℕ) → place < 256 → offset < 4294967296 → count < 4294967296 → found_in (Some (decimal place ++ (32 ∷ (decimal offset ++ (32 ∷ decimal count))))) ≡ Some (Found place offset count)
found_back place offset count p q r =
    ap found_by (two_found (decimal place) (decimal offset) (decimal count) (f8.whole place p) (f32.whole offset q))
    ∙ ap (λ o. of_three o (n32 (decimal offset)) (n32 (decimal count)) (λ a b c. Found a b c)) (f8.back place p)
    ∙ ap (λ o. of_three (Some place) o (n32 (decimal count)) (λ a b c. Found a b c)) (f32.back offset q)
    ∙ ap (λ o. of_three (Some place) (Some offset) o (λ a b c. Found a b c)) (f32.back count r)

pub reply_back : (form : Form) (reply : Reply) → is_of form reply ≡ true → IsTypedReply reply → reply_of form (reply_text reply) ≡ Some reply
reply_back Nothing (Refused errno) h t = ap (λ o. refused_or_done o (done_of Nothing (errno_name errno))) (errno_back errno)
reply_back ANumber (Refused errno) h t = ap (λ o. refused_or_done o (done_of ANumber (errno_name errno))) (errno_back errno)
reply_back AGo (Refused errno) h t = ap (λ o. refused_or_done o (done_of AGo (errno_name errno))) (errno_back errno)
reply_back AFound (Refused errno) h t = ap (λ o. refused_or_done o (done_of AFound (errno_name errno))) (errno_back errno)
reply_back AText (Refused errno) h t = ap (λ o. refused_or_done o (done_of AText (errno_name errno))) (errno_back errno)
reply_back AReady (Refused errno) h t = ap (λ o. refused_or_done o (done_of AReady (errno_name errno))) (errno_back errno)
reply_back Never (Refused errno) h t = ap (λ o. refused_or_done o (done_of Never (errno_name errno))) (errno_back errno)
reply_back Nothing Done h t = refl
reply_back ANumber (Number n) h t = ap number_in (stripped_back (codes "ok ") (decimal n)) ∙ ap (λ o. of_one o (λ k. Number k)) (f64.back n t)
reply_back AGo (Go n) h t = ap go_in (stripped_back (codes "go ") (decimal n)) ∙ ap (λ o. of_one o (λ k. Go k)) (f32.back n t)
reply_back AText (Text text) h t = ap text_in (stripped_back (codes "ok ") (text_word text)) ∙ ap (λ o. of_one o (λ k. Text k)) (name_field.back text t)
reply_back AFound (Found place offset count) h t = ap found_in (stripped_back (codes "ok ") (decimal place ++ (32 ∷ (decimal offset ++ (32 ∷ decimal count))))) ∙ found_back place offset count t.0 t.1 t.2
reply_back AReady (Ready bits) h t = ready_back bits h
reply_back Nothing _ h t = cc
reply_back ANumber _ h t = cc
reply_back AGo _ h t = cc
reply_back AFound _ h t = cc
reply_back AText _ h t = cc
reply_back AReady _ h t = cc
reply_back Never _ h t = cc

-- a text was read as a reply of the form
pub record IsReplyText (form : Form) (text : List ℕ) (reply : Reply) : Type 0 where
  pub is : text ≡ reply_text reply
  pub form_is : is_of form reply ≡ true

moved : (form : Form) (text : List ℕ) (a b : Reply) → Some a ≡ Some b → text ≡ reply_text a → is_of form a ≡ true → IsReplyText form text b
moved form text a b e is h = let same : a ≡ b = cc in record { is = is ∙ ap reply_text same; form_is = sym (ap (is_of form) same) ∙ h }

of_number : (text word : List ℕ) (reply : Reply) (o : Option ℕ) → text ≡ codes "ok " ++ word → n64 word ≡ o → of_one o (λ n. Number n) ≡ Some reply → IsReplyText ANumber text reply
of_number text word reply None s p e = cc
of_number text word reply (Some n) s p e = moved ANumber text (Number n) reply e (s ∙ ap (λ w. codes "ok " ++ w) (f64.same word n p)) refl

of_go : (text word : List ℕ) (reply : Reply) (o : Option ℕ) → text ≡ codes "go " ++ word → n32 word ≡ o → of_one o (λ n. Go n) ≡ Some reply → IsReplyText AGo text reply
of_go text word reply None s p e = cc
of_go text word reply (Some n) s p e = moved AGo text (Go n) reply e (s ∙ ap (λ w. codes "go " ++ w) (f32.same word n p)) refl

of_text : (text word : List ℕ) (reply : Reply) (o : Option (List ℕ)) → text ≡ codes "ok " ++ word → name_word word ≡ o → of_one o (λ n. Text n) ≡ Some reply → IsReplyText AText text reply
of_text text word reply None s p e = cc
of_text text word reply (Some n) s p e = moved AText text (Text n) reply e (s ∙ ap (λ w. codes "ok " ++ w) (name_field.same word n p)) refl

of_found : (text : List ℕ) (f : Fields) (reply : Reply) (a b c : Option ℕ) → text ≡ codes "ok " ++ before (f.first ∷ f.second ∷ []) f.rest → n8 f.first ≡ a → n32 f.second ≡ b → n32 f.rest ≡ c → of_three a b c (λ p o n. Found p o n) ≡ Some reply → IsReplyText AFound text reply
of_found text f reply None b c s p q r e = cc
of_found text f reply (Some x) None c s p q r e = cc
of_found text f reply (Some x) (Some y) None s p q r e = cc
of_found text f reply (Some x) (Some y) (Some z) s p q r e =
    moved AFound text (Found x y z) reply e
    (s ∙ ap (λ w. codes "ok " ++ before (w ∷ f.second ∷ []) f.rest) (f8.same f.first x p) ∙ ap (λ w. codes "ok " ++ before (decimal x ∷ w ∷ []) f.rest) (f32.same f.second y q) ∙ ap (λ w. codes "ok " ++ before (decimal x ∷ decimal y ∷ []) w) (f32.same f.rest z r)) refl

found_words : (text rest : List ℕ) (reply : Reply) (o : Option Fields) → text ≡ codes "ok " ++ rest → two_of rest ≡ o → found_by o ≡ Some reply → IsReplyText AFound text reply
found_words text rest reply None s p e = cc
found_words text rest reply (Some f) s p e = of_found text f reply (n8 f.first) (n32 f.second) (n32 f.rest) (s ∙ ap (λ t. codes "ok " ++ t) (two_stands rest f p)) refl refl refl e

done_same : (form : Form) (text : List ℕ) (reply : Reply) → done_of form text ≡ Some reply → IsReplyText form text reply
done_same Nothing text reply e = by_test (bytes_eq text (codes "ok")) refl e
  where
    by_test : (b : Bool) → bytes_eq text (codes "ok") ≡ b → cond b (Some Done) None ≡ Some reply → IsReplyText Nothing text reply
    by_test true p q = moved Nothing text Done reply q ((bytes_eq-Decides text (codes "ok")).0 p) refl
    by_test false p q = cc
done_same ANumber text reply e = by_rest (stripped (codes "ok ") text) refl e
  where
    by_rest : (o : Option (List ℕ)) → stripped (codes "ok ") text ≡ o → number_in o ≡ Some reply → IsReplyText ANumber text reply
    by_rest None p q = cc
    by_rest (Some word) p q = of_number text word reply (n64 word) (stripped_same (codes "ok ") text word p) refl q
done_same AGo text reply e = by_rest (stripped (codes "go ") text) refl e
  where
    by_rest : (o : Option (List ℕ)) → stripped (codes "go ") text ≡ o → go_in o ≡ Some reply → IsReplyText AGo text reply
    by_rest None p q = cc
    by_rest (Some word) p q = of_go text word reply (n32 word) (stripped_same (codes "go ") text word p) refl q
done_same AFound text reply e = by_rest (stripped (codes "ok ") text) refl e
  where
    by_rest : (o : Option (List ℕ)) → stripped (codes "ok ") text ≡ o → found_in o ≡ Some reply → IsReplyText AFound text reply
    by_rest None p q = cc
    by_rest (Some rest) p q = found_words text rest reply (two_of rest) (stripped_same (codes "ok ") text rest p) refl q
done_same AText text reply e = by_rest (stripped (codes "ok ") text) refl e
  where
    by_rest : (o : Option (List ℕ)) → stripped (codes "ok ") text ≡ o → text_in o ≡ Some reply → IsReplyText AText text reply
    by_rest None p q = cc
    by_rest (Some word) p q = of_text text word reply (name_word word) (stripped_same (codes "ok ") text word p) refl q
done_same AReady text reply e = by_tests (bytes_eq text (codes "poll -")) (bytes_eq text (codes "poll IN")) (bytes_eq text (codes "poll HUP ERR")) refl refl refl e
  where
    by_tests : (a b c : Bool) → bytes_eq text (codes "poll -") ≡ a → bytes_eq text (codes "poll IN") ≡ b → bytes_eq text (codes "poll HUP ERR") ≡ c → cond a (Some (Ready 0)) (cond b (Some (Ready 1)) (cond c (Some (Ready 6)) None)) ≡ Some reply → IsReplyText AReady text reply
    by_tests true b c p q r e = moved AReady text (Ready 0) reply e ((bytes_eq-Decides text (codes "poll -")).0 p) refl
    by_tests false true c p q r e = moved AReady text (Ready 1) reply e ((bytes_eq-Decides text (codes "poll IN")).0 q) refl
    by_tests false false true p q r e = moved AReady text (Ready 6) reply e ((bytes_eq-Decides text (codes "poll HUP ERR")).0 r) refl
    by_tests false false false p q r e = cc
done_same Never text reply e = cc

refused_is : (form : Form) (errno : Errno) → is_of form (Refused errno) ≡ true
refused_is Nothing errno = refl
refused_is ANumber errno = refl
refused_is AGo errno = refl
refused_is AFound errno = refl
refused_is AText errno = refl
refused_is AReady errno = refl
refused_is Never errno = refl

pub reply_same : (form : Form) (text : List ℕ) (reply : Reply) → reply_of form text ≡ Some reply → IsReplyText form text reply
reply_same form text reply e = by_errno (errno_of text) refl e
  where
    by_errno : (o : Option Errno) → errno_of text ≡ o → refused_or_done o (done_of form text) ≡ Some reply → IsReplyText form text reply
    by_errno None p q = done_same form text reply q
    by_errno (Some errno) p q = moved form text (Refused errno) reply q (sym ((bytes_eq-Decides (errno_name errno) text).0 (found_passes (is_errno text) ERRNOS errno p))) (refused_is form errno)
