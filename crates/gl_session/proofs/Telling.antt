-- An output tells one history at most: its lines are compared from the last one on.
use Rattle.std.proofs.Common.{◌≡◌, ◌≢◌, ℕ, suc, ◌+◌, ◌^◌, ◌<◌, ◌≤◌, Bool, true, false, cond, not, ◌&&◌, nat_le, nat_lt, List, [], ◌∷◌, ◌++◌, length, length-append, refl, sym, ◌∙◌, ap, subst, arith, ne_eqb}
use Rattle.std.specs.Prelude.{◌==◌, codes, if◌then◌else◌}
use Rattle.std.specs.Char.{is_ascii_digit}
use Rattle.std.specs.Fmt.{digits}
use Rattle.std.specs.List.{list_all}
use Rattle.std.specs.Str.{all_ascii_digits, bytes_eq}
use Rattle.std.proofs.lemmas.Bool.Decides.{nat_tests}
use Rattle.std.proofs.lemmas.Fmt.{decimal_nonempty}
use Rattle.std.proofs.lemmas.List.{append_assoc}
use Rattle.gl_base.specs.BytesText.{hex_digit, pair}
use Rattle.gl_base.specs.Decimal.{decimal}
use Rattle.gl_base.specs.Words.{is_nonempty, onto_first, pieces}
use Rattle.gl_base.specs.declared.errno.Errno.{Errno}
use Rattle.gl_base.specs.declared.errno.Errno.TheVariants.{Perm, NoEnt, Io, NxIo, BadF, Again, NoMemory, Fault, Busy, Exist, NoDev, Inval, MFile, NoSpc, OpNotSupp, Full}
use Rattle.gl_base.specs.Errno.{errno_name}
use Rattle.gl_base.proofs.Decimals.{digits-decimal}
use Rattle.gl_model.specs.declared.reply.Reply.{Reply}
use Rattle.gl_model.specs.declared.reply.Reply.TheVariants.{Done, Number, Go, Found, Text, Ready, Refused}
use Rattle.gl_script.specs.Section.{SaidSection}
use Rattle.gl_trace.specs.CallText.{call_words}
use Rattle.gl_trace.specs.EntryText.{HasText, entry_text}
use Rattle.gl_trace.specs.Printable.{IsPrintable}
use Rattle.gl_trace.specs.ReplyText.{reply_text}
use Rattle.gl_trace.specs.TextWord.{is_plain, is_plain_byte, pairs_text, text_word}
use Rattle.gl_trace.specs.Typed.{IsTyped, IsTypedReply}
use Rattle.gl_trace.specs.Words.{before}
use Rattle.gl_trace.proofs.Entries.{unique}
use Rattle.gl_trace.proofs.Fields.{both_true}
use Rattle.gl_trace.proofs.Printed.{entries_are_printable}
use Rattle.gl_core.specs.Device.{OneEntry}
use Rattle.gl_check.specs.Many.{Texts, actor_sections}
use Rattle.gl_session.specs.Output.{AreTold, OutputTellsHistory, actors_text, entry_lines, history_text}
use Rattle.gl_session.specs.Lines.{text_line}

-- the three last bytes, after three bytes that stand before
abbrev Three : Type 0
Three = ℕ × ℕ × ℕ

abbrev ends : Three → List ℕ → Three
ends t [] = t
ends t (x ∷ xs) = ends (t.1, t.2, x) xs

ends_append : (t : Three) (xs ys : List ℕ) → ends t (xs ++ ys) ≡ ends (ends t xs) ys
ends_append t [] ys = refl
ends_append t (x ∷ xs) ys = ends_append (t.1, t.2, x) xs ys

abbrev NoBlank : List ℕ → Type 0
NoBlank [] = Unit {0}
NoBlank (x ∷ xs) = (x ≢ 32) × NoBlank xs

no_blank_append : (xs ys : List ℕ) → NoBlank xs → NoBlank ys → NoBlank (xs ++ ys)
no_blank_append [] ys h k = k
no_blank_append (x ∷ xs) ys h k = (h.0, no_blank_append xs ys h.1 k)

-- what a history of no entries is headed by
abbrev Empty : Three
Empty = (121, 32, 48)

second_told : (t : Three) (y : ℕ) (w : List ℕ) → t.2 ≢ 32 → NoBlank (y ∷ w) → (ends t (y ∷ w)).1 ≢ 32
second_told t y [] last h = last
second_told t y (z ∷ w) last h = second_told (t.1, t.2, y) z w h.0 h.1

-- a word after a blank doesn't end so, where no `y` stands before the blank
after_word : (a b x : ℕ) (w : List ℕ) → b ≢ 121 → NoBlank (x ∷ w) → ends (a, b, 32) (x ∷ w) ≡ Empty → ⊥
after_word a b x [] other h e = other (ap (λ (t : Three). t.0) e)
after_word a b x (y ∷ w) other h e = second_told (b, 32, x) y w h.0 h.1 (ap (λ (t : Three). t.1) e)

-- words of digits
digit_told : (byte : ℕ) → is_ascii_digit byte ≡ true → (48 ≤ byte) × (byte ≤ 57)
digit_told byte e = let p = both_true (nat_le 48 byte) (nat_le byte 57) e in let low = p.0 in let high = p.1 in (grind (arith, nat_tests, low), grind (arith, nat_tests, high))

digits_no_blank : (word : List ℕ) → all_ascii_digits word ≡ true → NoBlank word
digits_no_blank [] e = tt
digits_no_blank (byte ∷ word) e = let p = both_true (is_ascii_digit byte) (all_ascii_digits word) e in ((λ same. let d = digit_told byte p.0 in absurd (omega (arith, same, d.0))), digits_no_blank word p.1)

last_digit : (t : Three) (x : ℕ) (word : List ℕ) → all_ascii_digits (x ∷ word) ≡ true → (ends t (x ∷ word)).2 ≢ 121
last_digit t x [] e same = let p = both_true (is_ascii_digit x) true e in let d = digit_told x p.0 in absurd (omega (arith, same, d.1))
last_digit t x (y ∷ word) e same = let p = both_true (is_ascii_digit x) (all_ascii_digits (y ∷ word)) e in last_digit (t.1, t.2, x) y word p.1 same

record IsWordOf (word : List ℕ) : Type 0 where
  pub first : ℕ
  pub rest : List ℕ
  pub is : word ≡ first ∷ rest
  pub no_blank : NoBlank (first ∷ rest)

-- no word ends a text so after a blank and another byte than `y`
ends_word : (word : List ℕ) → IsWordOf word → (a b : ℕ) → b ≢ 121 → ends (a, b, 32) word ≡ Empty → ⊥
ends_word word h a b other e = after_word a b h.first h.rest other h.no_blank (ap (λ w. ends (a, b, 32) w) (sym h.is) ∙ e)

there : (word : List ℕ) → 0 < length word → NoBlank word → IsWordOf word
there [] long h = absurd (omega arith)
there (x ∷ word) long h = record { first = x; rest = word; is = refl; no_blank = h }

number_word : (n : ℕ) → n < 2 ^ 64 → IsWordOf (decimal n)
number_word n small = there (decimal n) (decimal_nonempty n small) (digits_no_blank (decimal n) (digits-decimal n small))

number_last : (n : ℕ) → n < 2 ^ 64 → (t : Three) → (ends t (decimal n)).2 ≢ 121
number_last n small t = by (decimal n) (decimal_nonempty n small) (digits-decimal n small)
  where
    by : (word : List ℕ) → 0 < length word → all_ascii_digits word ≡ true → (ends t word).2 ≢ 121
    by [] long e = absurd (omega arith)
    by (x ∷ word) long e = last_digit t x word e

-- words of texts
plain_no_blank : (text : List ℕ) → list_all is_plain_byte text ≡ true → NoBlank text
plain_no_blank [] e = tt
plain_no_blank (byte ∷ text) e = let p = both_true (is_plain_byte byte) (list_all is_plain_byte text) e in (
  (λ same. let q = both_true (nat_le 33 byte) (nat_le byte 126 && not (byte == 92)) p.0 in let low = q.0 in let l : 33 ≤ byte = grind (arith, nat_tests, low) in absurd (omega (arith, same, l))),
  plain_no_blank text p.1,
)

hex_no_blank : (n : ℕ) → hex_digit n ≢ 32
hex_no_blank n = by (nat_lt n 10)
  where
    by : (b : Bool) → cond b (n + 48) (n + 87) ≢ 32
    by true same = absurd (omega (arith, same))
    by false same = absurd (omega (arith, same))

pairs_no_blank : (text : List ℕ) → NoBlank (pairs_text text)
pairs_no_blank [] = tt
pairs_no_blank (byte ∷ text) = no_blank_append (pair byte) (pairs_text text) (hex_no_blank _, (hex_no_blank _, tt)) (pairs_no_blank text)

nonempty_long : (text : List ℕ) → is_nonempty text ≡ true → 0 < length text
nonempty_long [] e = cc
nonempty_long (x ∷ text) e = omega arith

text_is_word : (text : List ℕ) → IsWordOf (text_word text)
text_is_word text = by (is_plain text) refl
  where
    by : (b : Bool) → is_plain text ≡ b → IsWordOf (if b then text else 92 ∷ pairs_text text)
    by true e = let p = both_true (is_nonempty text) (not (bytes_eq text (codes "-")) && list_all is_plain_byte text) e in
        there text (nonempty_long text p.0) (plain_no_blank text (both_true (not (bytes_eq text (codes "-"))) (list_all is_plain_byte text) p.1).1)
    by false e = there (92 ∷ pairs_text text) (omega arith) ((λ same. absurd (omega (arith, same))), pairs_no_blank text)

last_other : (t : Three) → t.2 ≢ 48 → t ≡ Empty → ⊥
last_other t other e = other (ap (λ (x : Three). x.2) e)

name_ends : (errno : Errno) (t : Three) → (ends t (errno_name errno)).2 ≢ 48
name_ends Perm t e = absurd (omega (arith, e))
name_ends NoEnt t e = absurd (omega (arith, e))
name_ends Io t e = absurd (omega (arith, e))
name_ends NxIo t e = absurd (omega (arith, e))
name_ends BadF t e = absurd (omega (arith, e))
name_ends Again t e = absurd (omega (arith, e))
name_ends NoMemory t e = absurd (omega (arith, e))
name_ends Fault t e = absurd (omega (arith, e))
name_ends Busy t e = absurd (omega (arith, e))
name_ends Exist t e = absurd (omega (arith, e))
name_ends NoDev t e = absurd (omega (arith, e))
name_ends Inval t e = absurd (omega (arith, e))
name_ends MFile t e = absurd (omega (arith, e))
name_ends NoSpc t e = absurd (omega (arith, e))
name_ends OpNotSupp t e = absurd (omega (arith, e))
name_ends Full t e = absurd (omega (arith, e))

not_y : (n : ℕ) → n < 121 → n ≢ 121
not_y n less same = absurd (omega (arith, less, same))

-- no reply ends so
reply_ends : (reply : Reply) → IsTypedReply reply → (t : Three) → ends t (reply_text reply) ≡ Empty → ⊥
reply_ends Done h t e = last_other (ends t (codes "ok")) (λ same. absurd (omega (arith, same))) e
reply_ends (Number n) h t e = ends_word (decimal n) (number_word n (omega arith)) 111 107 (not_y 107 (omega arith)) e
reply_ends (Go n) h t e = ends_word (decimal n) (number_word n (omega arith)) 103 111 (not_y 111 (omega arith)) e
reply_ends (Found place offset count) h t e =
    let start : Three = ends (111, 107, 32) (decimal place) in
    let middle : Three = ends (start.1, start.2, 32) (decimal offset) in
    let same : ends (111, 107, 32) (decimal place ++ (32 ∷ (decimal offset ++ (32 ∷ decimal count)))) ≡ ends (middle.1, middle.2, 32) (decimal count) =
    ends_append (111, 107, 32) (decimal place) (32 ∷ (decimal offset ++ (32 ∷ decimal count))) ∙ ends_append (start.1, start.2, 32) (decimal offset) (32 ∷ decimal count) in
    ends_word (decimal count) (number_word count (let c = h.2 in omega arith)) middle.1 middle.2 (number_last offset (let o = h.1 in omega arith) (start.1, start.2, 32)) (sym same ∙ e)
reply_ends (Text text) h t e = ends_word (text_word text) (text_is_word text) 111 107 (not_y 107 (omega arith)) e
reply_ends (Ready bits) h t e = by (bits == 0) (bits == 1) e
  where
    by : (a b : Bool) → ends t (if a then codes "poll -" else if b then codes "poll IN" else codes "poll HUP ERR") ≡ Empty → ⊥
    by true b e = last_other (ends t (codes "poll -")) (λ same. absurd (omega (arith, same))) e
    by false true e = last_other (ends t (codes "poll IN")) (λ same. absurd (omega (arith, same))) e
    by false false e = last_other (ends t (codes "poll HUP ERR")) (λ same. absurd (omega (arith, same))) e
reply_ends (Refused errno) h t e = last_other (ends t (errno_name errno)) (name_ends errno t) e

before_append : (words : List (List ℕ)) (text : List ℕ) → (front : List ℕ) × (before words text ≡ front ++ text)
before_append [] text = ([], refl)
before_append (word ∷ words) text = let h = before_append words text in (word ++ (32 ∷ h.0), ap (λ l. word ++ (32 ∷ l)) h.1 ∙ sym (append_assoc word (32 ∷ h.0) text))

-- no entry ends so
entry_ends : (index : ℕ) (e : OneEntry) → IsTyped index e → (t : Three) → ends t (entry_text index e) ≡ Empty → ⊥
entry_ends index e typed t is =
    let b = before_append (decimal index ∷ decimal e.actor ∷ call_words e.call) (codes "-> " ++ reply_text e.reply) in
    let whole : ends t (entry_text index e) ≡ ends (ends t b.0) (codes "-> " ++ reply_text e.reply) = ap (λ l. ends t l) b.1 ∙ ends_append t b.0 (codes "-> " ++ reply_text e.reply) in
    reply_ends e.reply typed.reply_fits (45, 62, 32) (sym whole ∙ is)

zero_text : decimal 0 ≡ codes "0"
unfolding digits
zero_text = refl

header_ends : (front : List ℕ) (t : Three) → ends t (front ++ (codes "== history " ++ decimal 0)) ≡ Empty
header_ends front t = ends_append t front (codes "== history " ++ decimal 0) ∙ ap (λ w. ends (ends t front) (codes "== history " ++ w)) zero_text

-- lines

printable_piece : (text : List ℕ) → IsPrintable text → pieces 10 text ≡ text ∷ []
printable_piece [] e = refl
printable_piece (byte ∷ text) e =
    let p = both_true (nat_le 32 byte) (list_all (λ b. nat_le 32 b) text) e in let low = p.0 in
    let far : 32 ≤ byte = grind (arith, nat_tests, low) in
    let other : (byte == 10) ≡ false = ne_eqb byte 10 (λ same. absurd (omega (arith, same, far))) in
    ap (λ b. if b then [] ∷ pieces 10 text else onto_first byte (pieces 10 text)) other ∙ ap (λ l. onto_first byte l) (printable_piece text p.1)

onto_some : (byte : ℕ) (xs ys : List (List ℕ)) → 0 < length xs → onto_first byte (xs ++ ys) ≡ onto_first byte xs ++ ys
onto_some byte [] ys long = absurd (omega arith)
onto_some byte (x ∷ xs) ys long = refl

some_piece : (bytes : List ℕ) → 0 < length (pieces 10 bytes)
some_piece [] = omega arith
some_piece (byte ∷ bytes) = by (byte == 10) (some_piece bytes)
  where
    onto_long : (xs : List (List ℕ)) → 0 < length (onto_first byte xs)
    onto_long [] = omega arith
    onto_long (x ∷ xs) = omega arith

    by : (b : Bool) → 0 < length (pieces 10 bytes) → 0 < length (if b then [] ∷ pieces 10 bytes else onto_first byte (pieces 10 bytes))
    by true h = omega arith
    by false h = onto_long (pieces 10 bytes)

-- a line's end divides
pieces_divide : (xs ys : List ℕ) → pieces 10 (xs ++ (10 ∷ ys)) ≡ pieces 10 xs ++ pieces 10 ys
pieces_divide [] ys = refl
pieces_divide (x ∷ xs) ys = by (x == 10) (pieces_divide xs ys)
  where
    by : (b : Bool) → pieces 10 (xs ++ (10 ∷ ys)) ≡ pieces 10 xs ++ pieces 10 ys
        → (if b then [] ∷ pieces 10 (xs ++ (10 ∷ ys)) else onto_first x (pieces 10 (xs ++ (10 ∷ ys)))) ≡ (if b then [] ∷ pieces 10 xs else onto_first x (pieces 10 xs)) ++ pieces 10 ys
    by true h = ap (λ l. [] ∷ l) h
    by false h = ap (λ l. onto_first x l) h ∙ onto_some x (pieces 10 xs) (pieces 10 ys) (some_piece xs)

-- the last line of a text that ends so
record EndsLine (lines : List (List ℕ)) (text : List ℕ) : Type 0 where
  pub earlier : List (List ℕ)
  pub front : List ℕ
  pub is : lines ≡ earlier ++ (front ++ text) ∷ []

ends_line : (front text : List ℕ) → IsPrintable text → EndsLine (pieces 10 (front ++ text)) text
ends_line [] text e = record { earlier = []; front = []; is = printable_piece text e }
ends_line (x ∷ front) text e = by (x == 10) (ends_line front text e)
  where
    onto : (earlier : List (List ℕ)) (begin : List ℕ) → EndsLine (onto_first x (earlier ++ (begin ++ text) ∷ [])) text
    onto [] begin = record { earlier = []; front = x ∷ begin; is = refl }
    onto (line ∷ earlier) begin = record { earlier = (x ∷ line) ∷ earlier; front = begin; is = refl }

    by : (b : Bool) → EndsLine (pieces 10 (front ++ text)) text → EndsLine (if b then [] ∷ pieces 10 (front ++ text) else onto_first x (pieces 10 (front ++ text))) text
    by true h = record { earlier = [] ∷ h.earlier; front = h.front; is = ap (λ l. [] ∷ l) h.is }
    by false h = subst (λ l. EndsLine (onto_first x l) text) (sym h.is) (onto h.earlier h.front)

-- the texts of entries
abbrev texts : ℕ → List OneEntry → List (List ℕ)
texts index [] = []
texts index (e ∷ es) = entry_text index e ∷ texts (index + 1) es

texts_long : (index : ℕ) (es : List OneEntry) → length (texts index es) ≡ length es
texts_long index [] = refl
texts_long index (e ∷ es) = ap suc (texts_long (index + 1) es)

lines_are : (index : ℕ) (es : List OneEntry) → AreTold index es → pieces 10 (entry_lines index es) ≡ texts index es ++ [] ∷ []
lines_are index [] h = refl
lines_are index (e ∷ es) h =
    ap (λ l. pieces 10 l) (append_assoc (entry_text index e) (10 ∷ []) (entry_lines (index + 1) es))
    ∙ pieces_divide (entry_text index e) (entry_lines (index + 1) es)
    ∙ ap (λ l. l ++ pieces 10 (entry_lines (index + 1) es)) (printable_piece (entry_text index e) (entries_are_printable index e h.0))
    ∙ ap (λ l. entry_text index e ∷ l) (lines_are (index + 1) es h.2)

-- lists that end alike
abbrev last_of : List ℕ → List (List ℕ) → List ℕ
last_of d [] = d
last_of d (x ∷ xs) = last_of x xs

last_is : (d x : List ℕ) (xs : List (List ℕ)) → last_of d (xs ++ x ∷ []) ≡ x
last_is d x [] = refl
last_is d x (y ∷ ys) = last_is y x ys

same_last : (x y : List ℕ) (xs ys : List (List ℕ)) → xs ++ x ∷ [] ≡ ys ++ y ∷ [] → x ≡ y
same_last x y xs ys e = sym (last_is [] x xs) ∙ ap (λ l. last_of [] l) e ∙ last_is [] y ys

same_behind : (xs ys zs ws : List (List ℕ)) → length zs ≡ length ws → xs ++ zs ≡ ys ++ ws → zs ≡ ws
same_behind [] [] zs ws same e = e
same_behind [] (y ∷ ys) zs ws same e = let a : length zs ≡ length (y ∷ (ys ++ ws)) = ap (λ l. length l) e in let b = length-append ys ws in absurd (omega arith)
same_behind (x ∷ xs) [] zs ws same e = let a : length (x ∷ (xs ++ zs)) ≡ length ws = ap (λ l. length l) e in let b = length-append xs zs in absurd (omega arith)
same_behind (x ∷ xs) (y ∷ ys) zs ws same e = same_behind xs ys zs ws same (ap (λ l. rest_of l) e)
  where
    rest_of : List (List ℕ) → List (List ℕ)
    rest_of [] = []
    rest_of (one ∷ more) = more

same_front : (xs ys : List (List ℕ)) (x y : List ℕ) → xs ++ x ∷ [] ≡ ys ++ y ∷ [] → xs ≡ ys
same_front [] [] x y e = refl
same_front [] (b ∷ ys) x y e = let a : length (x ∷ []) ≡ length (b ∷ (ys ++ y ∷ [])) = ap (λ l. length l) e in let c = length-append ys (y ∷ []) in absurd (omega arith)
same_front (a ∷ xs) [] x y e = let b : length (a ∷ (xs ++ x ∷ [])) ≡ length (y ∷ []) = ap (λ l. length l) e in let c = length-append xs (x ∷ []) in absurd (omega arith)
same_front (a ∷ xs) (b ∷ ys) x y e = λ i. first_same i ∷ same_front xs ys x y (ap (λ l. rest_of l) e) i
  where
    rest_of : List (List ℕ) → List (List ℕ)
    rest_of [] = []
    rest_of (one ∷ more) = more

    first_of : List (List ℕ) → List ℕ
    first_of [] = a
    first_of (z ∷ zs) = z

    first_same : a ≡ b
    first_same = ap (λ l. first_of l) e

-- the last entry
record LastTold (index : ℕ) (es : List OneEntry) : Type 0 where
  pub at : ℕ
  pub e : OneEntry
  pub earlier : List (List ℕ)
  pub is : texts index es ≡ earlier ++ entry_text at e ∷ []
  pub counted : at + 1 ≡ index + length es
  pub typed : IsTyped at e
  pub has_text : HasText e

last_told : (index : ℕ) (e : OneEntry) (es : List OneEntry) → AreTold index (e ∷ es) → LastTold index (e ∷ es)
last_told index e [] h = record { at = index; e = e; earlier = []; is = refl; counted = omega arith; typed = h.0; has_text = h.1 }
last_told index e (d ∷ es) h = let l = last_told (index + 1) d es h.2 in let c = l.counted in
    record { at = l.at; e = l.e; earlier = entry_text index e ∷ l.earlier; is = ap (λ x. entry_text index e ∷ x) l.is; counted = omega arith; typed = l.typed; has_text = l.has_text }

same_entry : (index other : ℕ) (d e : OneEntry) → IsTyped index d → IsTyped other e → HasText d → HasText e → entry_text index d ≡ entry_text other e → (index ≡ other) × (d ≡ e)
same_entry index other d e td te hd he same = unique (entry_text index d) index other d e td te (record { has_text = hd; is_text = refl }) (record { has_text = he; is_text = same })

same_entries : (index : ℕ) (xs ys : List OneEntry) → AreTold index xs → AreTold index ys → texts index xs ≡ texts index ys → xs ≡ ys
same_entries index [] [] h k e = refl
same_entries index [] (y ∷ ys) h k e = let a : length (texts index []) ≡ length (texts index (y ∷ ys)) = ap (λ l. length l) e in absurd (omega arith)
same_entries index (x ∷ xs) [] h k e = let a : length (texts index (x ∷ xs)) ≡ length (texts index []) = ap (λ l. length l) e in absurd (omega arith)
same_entries index (x ∷ xs) (y ∷ ys) h k e = let first = (same_entry index index x y h.0 k.0 h.1 k.1 (ap (λ l. first_of l) e)).1 in let later = same_entries (index + 1) xs ys h.2 k.2 (ap (λ l. rest_of l) e) in λ i. first i ∷ later i
  where
    rest_of : List (List ℕ) → List (List ℕ)
    rest_of [] = []
    rest_of (one ∷ more) = more

    first_of : List (List ℕ) → List ℕ
    first_of [] = []
    first_of (z ∷ zs) = z

-- no header of an empty history is the text of an entry
not_empty : (lines others : List (List ℕ)) (e : OneEntry) (es : List OneEntry) → EndsLine lines (codes "== history " ++ decimal 0) → AreTold 0 (e ∷ es) → lines ++ [] ≡ others ++ texts 0 (e ∷ es) → ⊥
not_empty lines others e es line told is =
    let l = last_told 0 e es told in
    let whole : line.earlier ++ (line.front ++ (codes "== history " ++ decimal 0)) ∷ [] ≡ (others ++ l.earlier) ++ entry_text l.at l.e ∷ [] =
    sym line.is ∙ sym (append_nothing lines) ∙ is ∙ ap (λ x. others ++ x) l.is ∙ sym (append_assoc others l.earlier (entry_text l.at l.e ∷ [])) in
    let same = same_last (line.front ++ (codes "== history " ++ decimal 0)) (entry_text l.at l.e) line.earlier (others ++ l.earlier) whole in
    entry_ends l.at l.e l.typed (0, 0, 0) (ap (λ x. ends (0, 0, 0) x) (sym same) ∙ header_ends line.front (0, 0, 0))
  where
    append_nothing : (xs : List (List ℕ)) → xs ++ [] ≡ xs
    append_nothing [] = refl
    append_nothing (x ∷ xs) = ap (λ l. x ∷ l) (append_nothing xs)

-- what stands in front of the entries
abbrev Headed : List (List ℕ) → List OneEntry → Type 0
Headed lines history = EndsLine lines (codes "== history " ++ decimal (length history))

one_history : (lines others : List (List ℕ)) (xs ys : List OneEntry) → Headed lines xs → Headed others ys → AreTold 0 xs → AreTold 0 ys → lines ++ texts 0 xs ≡ others ++ texts 0 ys → xs ≡ ys
one_history lines others [] [] a b h k e = refl
one_history lines others [] (y ∷ ys) a b h k e = absurd (not_empty lines others y ys a k e)
one_history lines others (x ∷ xs) [] a b h k e = absurd (not_empty others lines x xs b h (sym e))
one_history lines others (x ∷ xs) (y ∷ ys) a b h k e =
    let l = last_told 0 x xs h in let m = last_told 0 y ys k in
    let whole : (lines ++ l.earlier) ++ entry_text l.at l.e ∷ [] ≡ (others ++ m.earlier) ++ entry_text m.at m.e ∷ [] =
    append_assoc lines l.earlier (entry_text l.at l.e ∷ []) ∙ ap (λ z. lines ++ z) (sym l.is) ∙ e ∙ ap (λ z. others ++ z) m.is ∙ sym (append_assoc others m.earlier (entry_text m.at m.e ∷ [])) in
    let last = same_entry l.at m.at l.e m.e l.typed m.typed l.has_text m.has_text (same_last (entry_text l.at l.e) (entry_text m.at m.e) (lines ++ l.earlier) (others ++ m.earlier) whole) in
    let same : length (x ∷ xs) ≡ length (y ∷ ys) = let c = l.counted in let d = m.counted in let s = last.0 in omega arith in
    same_entries 0 (x ∷ xs) (y ∷ ys) h k (same_behind lines others (texts 0 (x ∷ xs)) (texts 0 (y ∷ ys)) (texts_long 0 (x ∷ xs) ∙ same ∙ sym (texts_long 0 (y ∷ ys))) e)

-- the header of a history is printable
header_printable : (n : ℕ) → n < 2 ^ 64 → IsPrintable (codes "== history " ++ decimal n)
header_printable n small = by (decimal n) (digits-decimal n small)
  where
    by : (word : List ℕ) → all_ascii_digits word ≡ true → IsPrintable word
    by [] e = refl
    by (byte ∷ word) e = let p = both_true (is_ascii_digit byte) (all_ascii_digits word) e in let d = digit_told byte p.0 in
        let low : nat_le 32 byte ≡ true = (let l = d.0 in grind (arith, nat_tests)) in rw (low, by word p.1) refl

-- an output, as lines
record AsLines (bytes : List ℕ) (history : List OneEntry) : Type 0 where
  pub lines : List (List ℕ)
  pub headed : Headed lines history
  pub is : pieces 10 bytes ≡ (lines ++ texts 0 history) ++ [] ∷ []

told_few : (index : ℕ) (es : List OneEntry) → AreTold index es → 0 < length es → index + length es ≤ 4294967296
told_few index [] h some = absurd (omega arith)
told_few index (e ∷ []) h some = let t = h.0.index_fits in omega arith
told_few index (e ∷ d ∷ es) h some = let t = told_few (index + 1) (d ∷ es) h.2 (omega arith) in omega arith

few_told : (es : List OneEntry) → AreTold 0 es → length es < 2 ^ 64
few_told [] h = omega arith
few_told (e ∷ es) h = let t = told_few 0 (e ∷ es) h (omega arith) in omega arith

as_lines : (front : List ℕ) (history : List OneEntry) → AreTold 0 history → AsLines (front ++ history_text history) history
as_lines front history told =
    let header : List ℕ = codes "== history " ++ decimal (length history) in
    let lines : List (List ℕ) = pieces 10 (front ++ header) in record {
      lines = lines;
      headed = ends_line front header (header_printable (length history) (few_told history told));
      is = ap (λ l. pieces 10 (front ++ l)) (append_assoc header (10 ∷ []) (entry_lines 0 history))
          ∙ ap (λ l. pieces 10 l) (sym (append_assoc front header (10 ∷ entry_lines 0 history)))
          ∙ pieces_divide (front ++ header) (entry_lines 0 history)
          ∙ ap (λ l. lines ++ l) (lines_are 0 history told)
          ∙ sym (append_assoc lines (texts 0 history) ([] ∷ []));
    }

abbrev front_text : List SaidSection → Texts → List ℕ
front_text sections t = text_line (codes "== setup") ++ t.setup ++ actors_text (actor_sections sections) t.actors ++ text_line (codes "== after") ++ t.last

pub output_tells_history : OutputTellsHistory
output_tells_history sections others t other_texts history other h k e =
    let a = as_lines (front_text sections t) history h in let b = as_lines (front_text others other_texts) other k in
    let whole : (a.lines ++ texts 0 history) ++ [] ∷ [] ≡ (b.lines ++ texts 0 other) ++ [] ∷ [] =
    sym a.is ∙ ap (λ l. pieces 10 l) e ∙ b.is in
    one_history a.lines b.lines history other a.headed b.headed h k (same_front (a.lines ++ texts 0 history) (b.lines ++ texts 0 other) [] [] whole)
