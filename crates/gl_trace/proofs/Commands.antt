-- Commands are read as what they were written for, and as nothing else.
use Rattle.std.proofs.Common.{◌≡◌, ℕ, ◌<◌, List, [], ◌∷◌, ◌++◌, length, take, drop, Option, Some, None, refl, sym, ◌∙◌, ap, subst}
use Rattle.std.specs.Prelude.{◌==◌, codes, min, IsTrue}
use Rattle.std.specs.List.{list_all}
use Rattle.gl_base.specs.BytesText.{bytes_text}
use Rattle.gl_base.specs.Decimal.{decimal}
use Rattle.gl_model.specs.declared.call.Call.TheVariants.{Ioctl}
use Rattle.gl_model.specs.declared.call.Part.{Part}
use Rattle.gl_model.specs.declared.call.Part.TheVariants.{Whole, Ask, Tell}
use Rattle.gl_trace.specs.declared.verb.CommandPart.{CommandPart}
use Rattle.gl_trace.specs.declared.verb.CommandPart.TheVariants.{Whole as WholePart, Ask as AskPart, Tell as TellPart}
use Rattle.gl_trace.specs.declared.verb.Verb.TheVariants.{Ioctl as IoctlVerb, Ask as AskVerb, Tell as TellVerb}
use Rattle.gl_trace.specs.BufferRead.{whole_guess}
use Rattle.gl_trace.specs.CallRead.{n8, n32, of_four}
use Rattle.gl_trace.specs.CallText.{answer_word, answer_words, command_words, part_word}
use Rattle.gl_trace.specs.EntryRead.{Called, Header, by_fields, called, called_in, command, command_in, filled, header, header_of, in_part, told, told_by, unblanked, with_bytes}
use Rattle.gl_trace.specs.Fronts.{Fields, Front, fields, four_of, front_of}
use Rattle.gl_trace.specs.Typed.{AreBytes, IsTypedCommand}
use Rattle.gl_trace.specs.WordRead.{answer_of, hex_of, stripped}
use Rattle.gl_trace.specs.Words.{before, hex_word}
use Rattle.gl_trace.proofs.Buffers.{guess_back, guess_zeros_past}
use Rattle.gl_trace.proofs.Fields.{f8, f32}
use Rattle.gl_trace.proofs.Numbers.{answer_field, hex_field}
use Rattle.gl_trace.proofs.Shapes.{IsTextOf, four_found, four_stands, front_stands}
use Rattle.gl_trace.proofs.Stripping.{stripped_back, stripped_same}

abbrev numbers : ℕ → ℕ → ℕ → ℕ → List (List ℕ)
numbers place fd cmd len = decimal place ∷ decimal fd ∷ hex_word cmd ∷ decimal len ∷ []

-- the numbers are read
header_back : (place fd cmd len : ℕ) (text : List ℕ) → place < 256 → fd < 4294967296 → cmd < 4294967296 → len < 4294967296
    → header_of (fields (decimal place) (decimal fd) (hex_word cmd) (decimal len) text) ≡ Some (header place fd cmd len)
header_back place fd cmd len text p q r s =
    ap (λ o. of_four o (n32 (decimal fd)) (hex_of (hex_word cmd)) (n32 (decimal len)) header) (f8.back place p)
    ∙ ap (λ o. of_four (Some place) o (hex_of (hex_word cmd)) (n32 (decimal len)) header) (f32.back fd q)
    ∙ ap (λ o. of_four (Some place) (Some fd) o (n32 (decimal len)) header) (hex_field.back cmd r)
    ∙ ap (λ o. of_four (Some place) (Some fd) (Some cmd) o header) (f32.back len s)

-- the bytes are read
bytes_back : (h : Header) (asked : CommandPart) (bytes text : List ℕ) → length bytes ≡ 592 → AreBytes bytes → IsTrue (list_all (λ byte. byte == 0) (drop h.len bytes))
    → with_bytes h asked (bytes_text (take h.len bytes) ++ (32 ∷ text)) ≡ in_part h bytes asked text
bytes_back h asked bytes text size are zeros =
    let b = bytes_text (take h.len bytes) in
    ap (λ (g : List ℕ). filled h g asked (stripped (bytes_text (take h.len g)) (b ++ (32 ∷ text)))) (guess_back h.len bytes text size are zeros)
    ∙ ap (filled h bytes asked) (stripped_back b (32 ∷ text))
    ∙ ap (unblanked h bytes asked) (stripped_back (codes " ") text)

module _ (reads : Option Fields → Option Called) (asked : CommandPart) (is : (f : Fields) → reads (Some f) ≡ command_in (header_of f) asked f.rest) where
  asked_back : (place fd cmd len : ℕ) (bytes text : List ℕ) (part : Part) → IsTypedCommand place fd cmd len bytes part → IsTrue (list_all (λ byte. byte == 0) (drop len bytes))
      → reads (four_of (before (numbers place fd cmd len) (bytes_text (take len bytes) ++ (32 ∷ text)))) ≡ in_part (header place fd cmd len) bytes asked text
  asked_back place fd cmd len bytes text part t zeros =
      let rest = bytes_text (take len bytes) ++ (32 ∷ text) in
      ap reads (four_found (decimal place) (decimal fd) (hex_word cmd) (decimal len) rest (f8.whole place t.place_fits) (f32.whole fd t.fd_fits) (hex_field.whole cmd t.cmd_fits) (f32.whole len t.len_fits))
      ∙ is (fields (decimal place) (decimal fd) (hex_word cmd) (decimal len) rest)
      ∙ ap (λ o. command_in o asked rest) (header_back place fd cmd len rest t.place_fits t.fd_fits t.cmd_fits t.len_fits)
      ∙ bytes_back (header place fd cmd len) asked bytes text t.size t.are_bytes zeros

-- words are read as a call
abbrev pub reading : List (List ℕ) → List ℕ → Option Called
reading [] text = None
reading (word ∷ words) text = called_in word (before words text)

pub command_back : (place fd cmd len : ℕ) (bytes : List ℕ) (part : Part) → IsTypedCommand place fd cmd len bytes part → IsTrue (list_all (λ byte. byte == 0) (drop len bytes)) → (text : List ℕ)
    → reading (command_words place fd cmd len bytes part) text ≡ Some (called (Ioctl place fd cmd len bytes part) text)
command_back place fd cmd len bytes Whole t zeros text = asked_back (by_fields IoctlVerb) WholePart (λ f. refl) place fd cmd len bytes text Whole t zeros
command_back place fd cmd len bytes Ask t zeros text = asked_back (by_fields AskVerb) AskPart (λ f. refl) place fd cmd len bytes text Ask t zeros
command_back place fd cmd len bytes (Tell answer) t zeros text =
    let h = header place fd cmd len in
    asked_back (by_fields TellVerb) TellPart (λ f. refl) place fd cmd len bytes (answer_word answer ++ (32 ∷ text)) (Tell answer) t zeros
    ∙ ap (told h bytes) (answer_field.whole answer t.part_fits text) ∙ ap (λ o. told_by h bytes o text) (answer_field.back answer t.part_fits)

-- the other way

-- the bytes were read
abbrev IsFilled : Header → CommandPart → List ℕ → Called → Type 0
IsFilled h asked text got = (bytes : List ℕ) × (rest : List ℕ) × (text ≡ bytes_text (take h.len bytes) ++ (32 ∷ rest)) × (in_part h bytes asked rest ≡ Some got) × IsTrue (list_all (λ byte. byte == 0) (drop h.len bytes))

blank_read : (h : Header) (bytes text rest : List ℕ) (asked : CommandPart) (got : Called) (o : Option (List ℕ)) → text ≡ bytes_text (take h.len bytes) ++ rest → stripped (codes " ") rest ≡ o → unblanked h bytes asked o ≡ Some got
    → IsTrue (list_all (λ byte. byte == 0) (drop h.len bytes)) → IsFilled h asked text got
blank_read h bytes text rest asked got None s p e z = cc
blank_read h bytes text rest asked got (Some left) s p e z = (bytes, left, s ∙ ap (λ t. bytes_text (take h.len bytes) ++ t) (stripped_same (codes " ") rest left p), e, z)

bytes_read : (h : Header) (bytes text : List ℕ) (asked : CommandPart) (got : Called) (o : Option (List ℕ)) → stripped (bytes_text (take h.len bytes)) text ≡ o → filled h bytes asked o ≡ Some got
    → IsTrue (list_all (λ byte. byte == 0) (drop h.len bytes)) → IsFilled h asked text got
bytes_read h bytes text asked got None p e z = cc
bytes_read h bytes text asked got (Some rest) p e z = blank_read h bytes text rest asked got (stripped (codes " ") rest) (stripped_same (bytes_text (take h.len bytes)) text rest p) refl e z

bytes_same : (h : Header) (text : List ℕ) (asked : CommandPart) (got : Called) → with_bytes h asked text ≡ Some got → IsFilled h asked text got
bytes_same h text asked got e =
    let bytes = whole_guess (min h.len 592) text in
    bytes_read h bytes text asked got (stripped (bytes_text (take h.len bytes)) text) refl e (guess_zeros_past h.len text)

-- the numbers were read
abbrev IsHeaded : CommandPart → List ℕ → Called → Type 0
IsHeaded asked text got = (h : Header) × (rest : List ℕ) × (text ≡ before (numbers h.place h.fd h.cmd h.len) rest) × (with_bytes h asked rest ≡ Some got)

header_read : (asked : CommandPart) (text : List ℕ) (f : Fields) (got : Called) (a b c d : Option ℕ) → n8 f.first ≡ a → n32 f.second ≡ b → hex_of f.third ≡ c → n32 f.fourth ≡ d
    → command_in (of_four a b c d header) asked f.rest ≡ Some got → text ≡ before (f.first ∷ f.second ∷ f.third ∷ f.fourth ∷ []) f.rest → IsHeaded asked text got
header_read asked text f got None b c d p q r s e h = cc
header_read asked text f got (Some w) None c d p q r s e h = cc
header_read asked text f got (Some w) (Some x) None d p q r s e h = cc
header_read asked text f got (Some w) (Some x) (Some y) None p q r s e h = cc
header_read asked text f got (Some w) (Some x) (Some y) (Some z) p q r s e h = (
  header w x y z,
  f.rest,
  h ∙ ap (λ t. before (t ∷ f.second ∷ f.third ∷ f.fourth ∷ []) f.rest) (f8.same f.first w p) ∙ ap (λ t. before (decimal w ∷ t ∷ f.third ∷ f.fourth ∷ []) f.rest) (f32.same f.second x q)
      ∙ ap (λ t. before (decimal w ∷ decimal x ∷ t ∷ f.fourth ∷ []) f.rest) (hex_field.same f.third y r) ∙ ap (λ t. before (decimal w ∷ decimal x ∷ hex_word y ∷ t ∷ []) f.rest) (f32.same f.fourth z s),
  e,
)

module _ (reads : Option Fields → Option Called) (asked : CommandPart) (none : reads None ≡ None) (is : (f : Fields) → reads (Some f) ≡ command_in (header_of f) asked f.rest) where
  headed : (text : List ℕ) (got : Called) → reads (four_of text) ≡ Some got → IsHeaded asked text got
  headed text got e = by_fields_of (four_of text) refl e
    where
      by_fields_of : (o : Option Fields) → four_of text ≡ o → reads o ≡ Some got → IsHeaded asked text got
      by_fields_of None p q = absurd (let no : None ≡ Some got = sym none ∙ q in cc)
      by_fields_of (Some f) p q = header_read asked text f got (n8 f.first) (n32 f.second) (hex_of f.third) (n32 f.fourth) refl refl refl refl (sym (is f) ∙ q) (four_stands text f p)

-- the text of a command whose numbers, bytes and part were read
written : (word : List ℕ) (part : Part) (h : Header) (bytes text rest last : List ℕ) (got : Called) → Some (called (command h bytes part) last) ≡ Some got → text ≡ before (numbers h.place h.fd h.cmd h.len) (bytes_text (take h.len bytes) ++ (32 ∷ rest))
    → rest ≡ before (answer_words part) last → part_word part ≡ word → IsTrue (list_all (λ byte. byte == 0) (drop h.len bytes)) → IsTextOf word text got
written word part h bytes text rest last got e s r w z =
    let same : called (command h bytes part) last ≡ got = cc in
    subst (IsTextOf word text) same (
      ap (λ t. before (word ∷ []) t) (s ∙ ap (λ t. before (numbers h.place h.fd h.cmd h.len) (bytes_text (take h.len bytes) ++ (32 ∷ t))) r)
          ∙ ap (λ v. before (v ∷ numbers h.place h.fd h.cmd h.len) (before (bytes_text (take h.len bytes) ∷ answer_words part) last)) (sym w),
      z,
    )

told_read : (h : Header) (bytes text left : List ℕ) (got : Called) (f : Option Front) → text ≡ before (numbers h.place h.fd h.cmd h.len) (bytes_text (take h.len bytes) ++ (32 ∷ left)) → front_of left ≡ f → told h bytes f ≡ Some got
    → IsTrue (list_all (λ byte. byte == 0) (drop h.len bytes)) → IsTextOf (codes "tell") text got
told_read h bytes text left got None s p e z = cc
told_read h bytes text left got (Some f) s p e z = by_answer (answer_of f.word) refl e
  where
    by_answer : (o : Option (Option ℕ)) → answer_of f.word ≡ o → told_by h bytes o f.rest ≡ Some got → IsTextOf (codes "tell") text got
    by_answer None q r = cc
    by_answer (Some answer) q r = written (codes "tell") (Tell answer) h bytes text left f.rest got r s (front_stands left f p ∙ ap (λ w. before (w ∷ []) f.rest) (answer_field.same f.word answer q)) refl z

pub whole_same : (text : List ℕ) (got : Called) → by_fields IoctlVerb (four_of text) ≡ Some got → IsTextOf (codes "ioctl") text got
whole_same text got e =
    let head = headed (by_fields IoctlVerb) WholePart refl (λ f. refl) text got e in
    let fill = bytes_same head.0 head.1 WholePart got head.3 in
    written (codes "ioctl") Whole head.0 fill.0 text fill.1 fill.1 got fill.3 (head.2 ∙ ap (before (numbers head.0.place head.0.fd head.0.cmd head.0.len)) fill.2) refl refl fill.4

pub ask_same : (text : List ℕ) (got : Called) → by_fields AskVerb (four_of text) ≡ Some got → IsTextOf (codes "ask") text got
ask_same text got e =
    let head = headed (by_fields AskVerb) AskPart refl (λ f. refl) text got e in
    let fill = bytes_same head.0 head.1 AskPart got head.3 in
    written (codes "ask") Ask head.0 fill.0 text fill.1 fill.1 got fill.3 (head.2 ∙ ap (before (numbers head.0.place head.0.fd head.0.cmd head.0.len)) fill.2) refl refl fill.4

pub tell_same : (text : List ℕ) (got : Called) → by_fields TellVerb (four_of text) ≡ Some got → IsTextOf (codes "tell") text got
tell_same text got e =
    let head = headed (by_fields TellVerb) TellPart refl (λ f. refl) text got e in
    let fill = bytes_same head.0 head.1 TellPart got head.3 in
    told_read head.0 fill.0 text fill.1 got (front_of fill.1) (head.2 ∙ ap (before (numbers head.0.place head.0.fd head.0.cmd head.0.len)) fill.2) refl fill.3 fill.4
