-- The text of a load, line by line, and that it is a session.
use Rattle.std.proofs.Common.{◌≡◌, ℕ, zero, suc, ◌+◌, ◌*◌, ◌%◌, ◌^◌, ◌<◌, ◌≤◌, Bool, true, false, cond, not, ◌||◌, eqb, leb, ltb, List, [], ◌∷◌, ◌++◌, length, filter, sum_by, None, Some, refl, sym, ◌∙◌, ap, subst, append_assoc, arith, length-append}
use Rattle.std.specs.Prelude.{codes}
use Rattle.std.specs.List.{list_all, list_any}
use Rattle.std.specs.Char.{is_ascii_digit}
use Rattle.std.specs.Str.{all_ascii_digits}
use Rattle.std.proofs.lemmas.Bool.{and_from, and_parts, le-leb, le-ltb, leb-true, ne_eqb}
use Rattle.std.proofs.lemmas.List.{append-nil}
use Rattle.std.proofs.lemmas.List.Folds.{list_all-append}
use Rattle.std.proofs.lemmas.List.Sums.{sum_by-append, sum_by-cons}
use Rattle.std.proofs.lemmas.Fmt.{decimal_nonempty, length-decimal-le}
use Rattle.gl_base.specs.declared.limits.TheConstants.{COST_MAX}
use Rattle.gl_base.specs.Decimal.{decimal}
use Rattle.gl_base.specs.Rows.{Each}
use Rattle.gl_base.specs.Words.{Span, has_text, lines_of, onto_first, pieces, placed, span}
use Rattle.gl_base.proofs.Cutting.{onto_piece, pieces_begin}
use Rattle.gl_base.proofs.Decimals.{digits-decimal, number_of_text-decimal}
use Rattle.gl_base.proofs.FirstRows.{Each-append}
use Rattle.gl_script.specs.declared.limits.TheConstants.{TURNS_MAX}
use Rattle.gl_script.specs.Columns.{columns}
use Rattle.gl_script.specs.Cost.{has_aggregate, section_cost, session_cost, statement_aggregates, statement_cost, statements_cost, with_own, words_aggregate, words_cost}
use Rattle.gl_script.specs.Faults.{byte_fault, is_printable, size_fault, spot, statement_fault}
use Rattle.gl_script.specs.Forms.{is_path_byte, is_there, meets, within}
use Rattle.gl_script.specs.Gen.{IsSession, clock_line, events_at, events_line, get_line, load_lines, load_text, next_number, is_up, line_pulled, pull_end, pull_line, request_line, text_of, turn, turns}
use Rattle.gl_script.specs.Section.{SaidSection}
use Rattle.gl_script.specs.Sentence.{Sentence, is_counted}
use Rattle.gl_script.specs.Spelled.{AreStatement, IsHeaded, IsLine, IsStatement, Spelled, counted}
use Rattle.gl_script.specs.Table.{keyword_in}
use Rattle.gl_script.specs.declared.version.Version.TheVariants.{One}
use Rattle.gl_script.specs.declared.refusal.RefusalKind.TheVariants.{Limit, Word}
use Rattle.gl_script.specs.declared.section.SectionKind.TheVariants.{Setup}
use Rattle.gl_script.specs.declared.table.Form.TheVariants.{Number, Path}
use Rattle.gl_script.proofs.Back.{sentence}

-- texts of lines behind one another

pub text_of-append : (xs ys : List (List ℕ)) → text_of (xs ++ ys) ≡ text_of xs ++ text_of ys
text_of-append [] ys = refl
text_of-append (x ∷ xs) ys = ap (λ rest. x ++ 10 ∷ rest) (text_of-append xs ys) ∙ sym (append_assoc x (10 ∷ text_of xs) (text_of ys))

pub text_of-push : (out line : List ℕ) (lines : List (List ℕ)) → (out ++ text_of (line ∷ [])) ++ text_of lines ≡ out ++ text_of (line ∷ lines)
text_of-push out line lines = append_assoc out (text_of (line ∷ [])) (text_of lines) ∙ ap (λ t. out ++ t) (sym (text_of-append (line ∷ []) lines))

-- a line with a number, put piece by piece
pub put_together : (out front number back : List ℕ) → (((out ++ front) ++ number) ++ back) ++ 10 ∷ [] ≡ out ++ ((front ++ (number ++ back)) ++ 10 ∷ [])
put_together out front number back =
    ap (λ t. t ++ 10 ∷ []) (ap (λ t. t ++ back) (append_assoc out front number) ∙ append_assoc out (front ++ number) back ∙ ap (λ t. out ++ t) (append_assoc front number back))
    ∙ append_assoc out (front ++ (number ++ back)) (10 ∷ [])

-- the lines of a turn, put line by line
pub three_put : (out clock pull get : List ℕ) (more : List (List ℕ))
    → (((out ++ text_of (clock ∷ [])) ++ text_of (pull ∷ [])) ++ text_of (get ∷ [])) ++ text_of more ≡ out ++ text_of (clock ∷ pull ∷ get ∷ more)
three_put out clock pull get more =
    text_of-push ((out ++ text_of (clock ∷ [])) ++ text_of (pull ∷ [])) get more
    ∙ text_of-push (out ++ text_of (clock ∷ [])) pull (get ∷ more) ∙ text_of-push out clock (pull ∷ get ∷ more)

-- all lines, put part by part
pub load_put : (out : List ℕ) (head lines last : List (List ℕ)) → ((out ++ text_of head) ++ text_of lines) ++ text_of last ≡ out ++ text_of (head ++ (lines ++ last))
load_put out head lines last =
    append_assoc (out ++ text_of head) (text_of lines) (text_of last) ∙ append_assoc out (text_of head) (text_of lines ++ text_of last)
    ∙ ap (λ t. out ++ (text_of head ++ t)) (sym (text_of-append lines last)) ∙ ap (λ t. out ++ t) (sym (text_of-append head (lines ++ last)))

-- a turn, put call by call
pub turn_put : (out a b c d : List ℕ) (k x : ℕ) (end : List ℕ) → end ≡ pull_end (is_up x) → a ≡ out ++ text_of (clock_line k ∷ [])
    → b ≡ a ++ text_of ((codes "write gpiochip0/sim_gpio" ++ (decimal (line_pulled x) ++ end)) ∷ [])
    → c ≡ b ++ text_of ((codes "gpioget -c 0 " ++ (decimal (8 + line_pulled x % 8) ++ [])) ∷ [])
    → d ≡ c ++ text_of (events_at k) → d ≡ out ++ text_of (turn k x)
turn_put out a b c d k x end is_end is_a is_b is_c is_d =
    let pull : text_of ((codes "write gpiochip0/sim_gpio" ++ (decimal (line_pulled x) ++ end)) ∷ []) ≡ text_of (pull_line x ∷ []) =
    ap (λ (e : List ℕ). text_of ((codes "write gpiochip0/sim_gpio" ++ (decimal (line_pulled x) ++ e)) ∷ [])) is_end in
    let get : text_of ((codes "gpioget -c 0 " ++ (decimal (8 + line_pulled x % 8) ++ [])) ∷ []) ≡ text_of (get_line x ∷ []) =
    ap (λ (e : List ℕ). text_of ((codes "gpioget -c 0 " ++ e) ∷ [])) (append-nil (decimal (8 + line_pulled x % 8))) in
    let second : b ≡ (out ++ text_of (clock_line k ∷ [])) ++ text_of (pull_line x ∷ []) = is_b ∙ joined is_a pull in
    let third : c ≡ ((out ++ text_of (clock_line k ∷ [])) ++ text_of (pull_line x ∷ [])) ++ text_of (get_line x ∷ []) = is_c ∙ joined second get in
    is_d ∙ ap (λ (t : List ℕ). t ++ text_of (events_at k)) third ∙ three_put out (clock_line k) (pull_line x) (get_line x) (events_at k)
  where
    joined : {s t u v : List ℕ} → s ≡ t → u ≡ v → s ++ u ≡ t ++ v
    joined e f = cc

-- a turn more
pub turn_more : (out : List ℕ) (k x left count : ℕ) → left ≡ suc count
    → (out ++ text_of (turn k (next_number x))) ++ text_of (turns (k + 1) (next_number x) count) ≡ out ++ text_of (turns k x left)
turn_more out k x left count is =
    append_assoc out (text_of (turn k (next_number x))) (text_of (turns (k + 1) (next_number x) count))
    ∙ ap (λ t. out ++ t) (sym (text_of-append (turn k (next_number x)) (turns (k + 1) (next_number x) count)))
    ∙ ap (λ c. out ++ text_of (turns k x c)) (sym is)

pub turn_done : (out new : List ℕ) (j k x y left count : ℕ) → j ≡ k → y ≡ next_number x → new ≡ out ++ text_of (turn j y) → left ≡ suc count
    → new ++ text_of (turns (k + 1) y count) ≡ out ++ text_of (turns k x left)
turn_done out new j k x y left count same is_y is_new is_left = rw (is_new, same, is_y) (turn_more out k x left count is_left)

-- bytes of texts

-- what digits pass
digits_pass : (test : ℕ → Bool) (ds : List ℕ) → ((byte : ℕ) → is_ascii_digit byte ≡ true → test byte ≡ true) → all_ascii_digits ds ≡ true → list_all test ds ≡ true
digits_pass test [] each e = refl
digits_pass test (d ∷ ds) each e =
    let parts = and_parts (is_ascii_digit d) (all_ascii_digits ds) e in
    and_from (test d) (list_all test ds) (each d parts.0) (digits_pass test ds each parts.1)

all_pass : (some test : ℕ → Bool) (text : List ℕ) → ((byte : ℕ) → some byte ≡ true → test byte ≡ true) → list_all some text ≡ true → list_all test text ≡ true
all_pass some test [] each e = refl
all_pass some test (byte ∷ bytes) each e =
    let parts = and_parts (some byte) (list_all some bytes) e in
    and_from (test byte) (list_all test bytes) (each byte parts.0) (all_pass some test bytes each parts.1)

both_pass : (test : ℕ → Bool) (xs ys : List ℕ) → list_all test xs ≡ true → list_all test ys ≡ true → list_all test (xs ++ ys) ≡ true
both_pass test xs ys e f = list_all-append test xs ys ∙ and_from (list_all test xs) (list_all test ys) e f

digit_within : (byte : ℕ) → is_ascii_digit byte ≡ true → (48 ≤ byte) × (byte ≤ 57)
digit_within byte e = let parts = and_parts (leb 48 byte) (leb byte 57) e in (leb-true 48 byte parts.0, leb-true byte 57 parts.1)

digit_printable : (byte : ℕ) → is_ascii_digit byte ≡ true → is_printable byte ≡ true
digit_printable byte e = let w = digit_within byte e in and_from (leb 32 byte) (leb byte 126) (le-leb 32 byte (omega (arith, w.0))) (le-leb byte 126 (omega (arith, w.1)))

digit_no_blank : (byte : ℕ) → is_ascii_digit byte ≡ true → not (eqb byte 32) ≡ true
digit_no_blank byte e = let w = digit_within byte e in ap not (ne_eqb byte 32 (λ h. omega (arith, w.0)))

digit_of_path : (byte : ℕ) → is_ascii_digit byte ≡ true → is_path_byte byte ≡ true
digit_of_path byte e = rw e refl

printable_no_end : (byte : ℕ) → is_printable byte ≡ true → not (eqb byte 10) ≡ true
printable_no_end byte e =
    let parts = and_parts (leb 32 byte) (leb byte 126) e in
    let low : 32 ≤ byte = leb-true 32 byte parts.0 in
    ap not (ne_eqb byte 10 (λ h. omega arith))

pub no_byte_fault : (at : ℕ) (text : List ℕ) → list_all is_printable text ≡ true → byte_fault at text ≡ None
no_byte_fault at [] e = refl
no_byte_fault at (byte ∷ bytes) e =
    let parts = and_parts (is_printable byte) (list_all is_printable bytes) e in
    rw parts.0 (no_byte_fault (at + 1) bytes parts.1)

-- texts divided at a byte

onto_more : (byte : ℕ) (front : List ℕ) (ps : List (List ℕ)) → onto_first byte (onto_piece front ps) ≡ onto_piece (byte ∷ front) ps
onto_more byte front [] = refl
onto_more byte front (p ∷ ps) = refl

uncut : (byte cut : ℕ) (bytes : List ℕ) → not (eqb byte cut) ≡ true → pieces cut (byte ∷ bytes) ≡ onto_first byte (pieces cut bytes)
uncut byte cut bytes e = by_test (eqb byte cut) e
  where
    by_test : (t : Bool) → not t ≡ true → cond t ([] ∷ pieces cut bytes) (onto_first byte (pieces cut bytes)) ≡ onto_first byte (pieces cut bytes)
    by_test true f = cc
    by_test false f = refl

-- a text in front of another that has no cut
pieces_behind : (cut : ℕ) (front rest : List ℕ) → list_all (λ byte. not (eqb byte cut)) front ≡ true → pieces cut (front ++ rest) ≡ onto_piece front (pieces cut rest)
pieces_behind cut [] rest e = pieces_begin cut rest
pieces_behind cut (byte ∷ front) rest e =
    let parts = and_parts (not (eqb byte cut)) (list_all (λ b. not (eqb b cut)) front) e in
    uncut byte cut (front ++ rest) parts.0 ∙ ap (onto_first byte) (pieces_behind cut front rest parts.1) ∙ onto_more byte front (pieces cut rest)

-- a line of its own
pieces_line : (line rest : List ℕ) → list_all is_printable line ≡ true → pieces 10 (line ++ 10 ∷ rest) ≡ line ∷ pieces 10 rest
pieces_line line rest e =
    pieces_behind 10 line (10 ∷ rest) (all_pass is_printable (λ byte. not (eqb byte 10)) line printable_no_end e)
    ∙ ap (λ l. l ∷ pieces 10 rest) (append-nil line)

-- a word of digits alone
pieces_digits : (ds rest : List ℕ) → all_ascii_digits ds ≡ true → pieces 32 (ds ++ rest) ≡ onto_piece ds (pieces 32 rest)
pieces_digits ds rest e = pieces_behind 32 ds rest (digits_pass (λ byte. not (eqb byte 32)) ds digit_no_blank e)

-- lines of a session that are statements

pub record IsGood (text : List ℕ) : Type 0 where
  pub printable : list_all is_printable text ≡ true
  pub fits : size_fault 0 (columns text) ≡ None
  pub counts : is_counted (columns text) ≡ true
  pub statement : AreStatement One (columns text)
  pub plain : words_aggregate (columns text) ≡ false

line_cost : List ℕ → ℕ
line_cost text = words_cost (columns text)

record AreGood (lines : List (List ℕ)) (most long : ℕ) : Type 0 where
  pub each : Each IsGood lines
  pub cost : sum_by line_cost lines ≤ most
  pub size : length (text_of lines) ≤ long

no_lines : AreGood [] 0 0
no_lines = record { each = tt; cost = omega arith; size = omega arith }

one_line : (line : List ℕ) (cost size : ℕ) → IsGood line → line_cost line ≤ cost → length line + 1 ≤ size → AreGood (line ∷ []) cost size
one_line line cost size good costs long = record {
  each = (good, tt);
  cost = omega (arith, sum_by-cons line_cost line []);
  size = omega (arith, length-append line (10 ∷ []));
}

more_lines : (xs ys : List (List ℕ)) (c d s t : ℕ) → AreGood xs c s → AreGood ys d t → AreGood (xs ++ ys) (c + d) (s + t)
more_lines xs ys c d s t a b = record {
  each = Each-append IsGood xs ys a.each b.each;
  cost = omega (arith, sum_by-append line_cost xs ys, a.cost, b.cost);
  size = (let long : length (text_of (xs ++ ys)) ≡ length (text_of xs) + length (text_of ys) = ap length (text_of-append xs ys) ∙ length-append (text_of xs) (text_of ys) in omega (arith, a.size, b.size));
}

-- digits of a number
record IsDigits (ds : List ℕ) : Type 0 where
  pub digits : all_ascii_digits ds ≡ true
  pub few : length ds ≤ 20

-- what is true of each digits that are there is true of a number's
of_decimal : (P : List ℕ → Type 0) (n : ℕ) → n < 2 ^ 64 → ((b : ℕ) (bs : List ℕ) → IsDigits (b ∷ bs) → b ∷ bs ≡ decimal n → P (b ∷ bs)) → P (decimal n)
of_decimal P n small each = by_digits (decimal n) refl
  where
    by_digits : (ds : List ℕ) → ds ≡ decimal n → P ds
    by_digits [] e = absurd (omega (arith, decimal_nonempty n small, ap length e))
    by_digits (b ∷ bs) e =
        each b bs (record {
          digits = ap all_ascii_digits e ∙ digits-decimal n small;
          few = (let long : length (b ∷ bs) ≡ length (decimal n) = ap length e in omega (arith, length-decimal-le 20 n (omega arith) (omega arith) small));
        }) e

short_word : (ds : List ℕ) → length ds ≤ 20 → ltb 1300 (length ds) ≡ false
short_word ds few = le-ltb 1300 (length ds) (omega arith)

-- clock
clock_columns : (b : ℕ) (bs : List ℕ) → IsDigits (b ∷ bs)
    → columns (codes "clock " ++ ((b ∷ bs) ++ codes " 0")) ≡ span 1 (codes "clock") ∷ span 7 (b ∷ bs) ∷ span (7 + length (b ∷ bs) + 1) (codes "0") ∷ []
clock_columns b bs is =
    ap (λ ps. filter has_text (placed 1 (codes "clock" ∷ ps))) (pieces_digits (b ∷ bs) (codes " 0") is.digits)
    ∙ ap (λ (d : List ℕ). span 1 (codes "clock") ∷ filter has_text (placed 7 (d ∷ codes "0" ∷ []))) (append-nil (b ∷ bs))

clock_good : (b : ℕ) (bs : List ℕ) → IsDigits (b ∷ bs) → meets (Number 0 18446744073709551615) (b ∷ bs) ≡ true → IsGood (codes "clock " ++ ((b ∷ bs) ++ codes " 0"))
clock_good b bs is number =
    let cols = clock_columns b bs is in
    let short : ltb 1300 (length (b ∷ bs)) ≡ false = short_word (b ∷ bs) is.few in
    record {
      printable = both_pass is_printable (b ∷ bs) (codes " 0") (digits_pass is_printable (b ∷ bs) digit_printable is.digits) refl;
      fits = ap (size_fault 0) cols ∙ ap (λ t. cond t (Some (spot 7 Limit)) None) short;
      counts = ap is_counted cols;
      statement = subst (AreStatement One) (sym cols) (refl, ap (λ t. cond t None (Some (spot 7 Word))) number);
      plain = ap words_aggregate cols;
    }

clock_cost : (b : ℕ) (bs : List ℕ) → IsDigits (b ∷ bs) → words_cost (columns (codes "clock " ++ ((b ∷ bs) ++ codes " 0"))) ≡ 1
clock_cost b bs is = ap words_cost (clock_columns b bs is)

-- write
onto_all : List ℕ → List (List ℕ) → List (List ℕ)
onto_all [] ps = ps
onto_all (b ∷ bs) ps = onto_first b (onto_all bs ps)

abbrev pull_word : Bool → List ℕ
pull_word up = cond up (codes "pull-up") (codes "pull-down")

pull_columns : (ds : List ℕ) (up : Bool) → all_ascii_digits ds ≡ true
    → columns (codes "write gpiochip0/sim_gpio" ++ (ds ++ pull_end up))
    ≡ span 1 (codes "write") ∷ span 7 (codes "gpiochip0/sim_gpio" ++ (ds ++ codes "/pull")) ∷ span (7 + length (codes "gpiochip0/sim_gpio" ++ (ds ++ codes "/pull")) + 1) (pull_word up) ∷ []
unfolding onto_all
pull_columns ds true e = ap (λ ps. filter has_text (placed 1 (codes "write" ∷ onto_all (codes "gpiochip0/sim_gpio") ps))) (pieces_digits ds (codes "/pull pull-up") e)
pull_columns ds false e = ap (λ ps. filter has_text (placed 1 (codes "write" ∷ onto_all (codes "gpiochip0/sim_gpio") ps))) (pieces_digits ds (codes "/pull pull-down") e)

path_long : (ds : List ℕ) → length (codes "gpiochip0/sim_gpio" ++ (ds ++ codes "/pull")) ≡ 23 + length ds
path_long ds = let both : length (ds ++ codes "/pull") ≡ length ds + 5 = length-append ds (codes "/pull") in omega (arith, length-append (codes "gpiochip0/sim_gpio") (ds ++ codes "/pull"))

path_meets : (ds : List ℕ) → all_ascii_digits ds ≡ true → length ds ≤ 20 → meets Path (codes "gpiochip0/sim_gpio" ++ (ds ++ codes "/pull")) ≡ true
path_meets ds e few =
    and_from (leb (length (codes "gpiochip0/sim_gpio" ++ (ds ++ codes "/pull"))) 127) (list_all is_path_byte (codes "gpiochip0/sim_gpio" ++ (ds ++ codes "/pull")))
    (le-leb (length (codes "gpiochip0/sim_gpio" ++ (ds ++ codes "/pull"))) 127 (omega (arith, path_long ds)))
    (both_pass is_path_byte ds (codes "/pull") (digits_pass is_path_byte ds digit_of_path e) refl)

pull_good : (ds : List ℕ) (up : Bool) → IsDigits ds → IsGood (codes "write gpiochip0/sim_gpio" ++ (ds ++ pull_end up))
pull_good ds up is =
    let cols = pull_columns ds up is.digits in
    let path : List ℕ = codes "gpiochip0/sim_gpio" ++ (ds ++ codes "/pull") in
    let short : ltb 1300 (length path) ≡ false = le-ltb 1300 (length path) (omega (arith, path_long ds, is.few)) in
    record {
      printable = both_pass is_printable ds (pull_end up) (digits_pass is_printable ds digit_printable is.digits) (end_printable up);
      fits = ap (size_fault 0) cols ∙ fits up path short;
      counts = ap is_counted cols;
      statement = subst (AreStatement One) (sym cols) (refl, statement up path (path_meets ds is.digits is.few));
      plain = ap words_aggregate cols;
    }
  where
    end_printable : (up : Bool) → list_all is_printable (pull_end up) ≡ true
    end_printable true = refl
    end_printable false = refl

    fits : (up : Bool) (path : List ℕ) → ltb 1300 (length path) ≡ false
        → size_fault 0 (span 1 (codes "write") ∷ span 7 path ∷ span (7 + length path + 1) (pull_word up) ∷ []) ≡ None
    fits true path short = ap (λ t. cond t (Some (spot 7 Limit)) None) short
    fits false path short = ap (λ t. cond t (Some (spot 7 Limit)) None) short

    statement : (up : Bool) (path : List ℕ) → meets Path path ≡ true
        → statement_fault One (keyword_in One (codes "write")) (span 1 (codes "write")) (span 7 path ∷ span (7 + length path + 1) (pull_word up) ∷ []) ≡ None
    statement true path is_path = ap (λ t. cond t None (Some (spot 7 Word))) is_path
    statement false path is_path = ap (λ t. cond t None (Some (spot 7 Word))) is_path

pull_cost : (ds : List ℕ) (up : Bool) → all_ascii_digits ds ≡ true → words_cost (columns (codes "write gpiochip0/sim_gpio" ++ (ds ++ pull_end up))) ≡ 2
pull_cost ds up e = ap words_cost (pull_columns ds up e)

-- gpioget
get_columns : (b : ℕ) (bs : List ℕ) → IsDigits (b ∷ bs)
    → columns (codes "gpioget -c 0 " ++ (b ∷ bs)) ≡ span 1 (codes "gpioget") ∷ span 9 (codes "-c") ∷ span 12 (codes "0") ∷ span 14 (b ∷ bs) ∷ []
get_columns b bs is =
    ap (λ (d : List ℕ). columns (codes "gpioget -c 0 " ++ d)) (sym (append-nil (b ∷ bs)))
    ∙ ap (λ ps. filter has_text (placed 1 (codes "gpioget" ∷ codes "-c" ∷ codes "0" ∷ ps))) (pieces_digits (b ∷ bs) [] is.digits)
    ∙ ap (λ (d : List ℕ). span 1 (codes "gpioget") ∷ span 9 (codes "-c") ∷ span 12 (codes "0") ∷ filter has_text (placed 14 (d ∷ []))) (append-nil (b ∷ bs))

get_good : (b : ℕ) (bs : List ℕ) → IsDigits (b ∷ bs) → IsGood (codes "gpioget -c 0 " ++ (b ∷ bs))
get_good b bs is =
    let cols = get_columns b bs is in
    let short : ltb 1300 (length (b ∷ bs)) ≡ false = short_word (b ∷ bs) is.few in
    record {
      printable = digits_pass is_printable (b ∷ bs) digit_printable is.digits;
      fits = ap (size_fault 0) cols ∙ ap (λ t. cond t (Some (spot 14 Limit)) None) short;
      counts = ap is_counted cols;
      statement = subst (AreStatement One) (sym cols) (refl, refl);
      plain = ap words_aggregate cols;
    }

get_cost : (b : ℕ) (bs : List ℕ) → IsDigits (b ∷ bs) → words_cost (columns (codes "gpioget -c 0 " ++ (b ∷ bs))) ≡ 10
get_cost b bs is = ap words_cost (get_columns b bs is)

-- the other lines, which are always the same
events_good : AreGood (events_line ∷ []) 1 14
unfolding line_cost
events_good = one_line events_line 1 14 (record { printable = refl; fits = refl; counts = refl; statement = (refl, refl); plain = refl }) (omega arith) (omega arith)

probe_good : AreGood (codes "probe gen 64" ∷ []) 1 13
unfolding line_cost
probe_good = one_line (codes "probe gen 64") 1 13 (record { printable = refl; fits = refl; counts = refl; statement = (refl, refl); plain = refl }) (omega arith) (omega arith)

open_good : AreGood (codes "open A 0" ∷ []) 2 9
unfolding line_cost
open_good = one_line (codes "open A 0") 2 9 (record { printable = refl; fits = refl; counts = refl; statement = (refl, refl); plain = refl }) (omega arith) (omega arith)

request_good : AreGood (request_line ∷ []) 3 200
unfolding line_cost
request_good = one_line request_line 3 200 (record { printable = refl; fits = refl; counts = refl; statement = (refl, refl {a = None}); plain = refl }) (omega arith) (omega arith)

-- the lines of a turn
clock_part : (k : ℕ) → k ≤ TURNS_MAX → AreGood (clock_line k ∷ []) 1 29
unfolding line_cost
clock_part k few =
    let number : meets (Number 0 18446744073709551615) (decimal (1000 * k)) ≡ true = number_meets (1000 * k) (omega arith) in
    of_decimal (λ ds. meets (Number 0 18446744073709551615) ds ≡ true → AreGood ((codes "clock " ++ (ds ++ codes " 0")) ∷ []) 1 29) (1000 * k) (omega arith)
    (λ b bs is e meet.
    one_line (codes "clock " ++ ((b ∷ bs) ++ codes " 0")) 1 29 (clock_good b bs is meet) (omega (arith, clock_cost b bs is))
    (omega (arith, is.few, length-append (codes "clock ") ((b ∷ bs) ++ codes " 0"), length-append (b ∷ bs) (codes " 0"))))
    number
  where
    number_meets : (n : ℕ) → n < 2 ^ 64 → meets (Number 0 18446744073709551615) (decimal n) ≡ true
    number_meets n small =
        ap (λ o. is_there (within 0 18446744073709551615 o)) (number_of_text-decimal n small)
        ∙ ap (λ t. is_there (cond t (Some n) None)) (and_from (leb 0 n) (leb n 18446744073709551615) (le-leb 0 n (omega arith)) (le-leb n 18446744073709551615 (omega arith)))

pull_part : (x : ℕ) → AreGood (pull_line x ∷ []) 2 60
unfolding line_cost
pull_part x =
    of_decimal (λ ds. AreGood ((codes "write gpiochip0/sim_gpio" ++ (ds ++ pull_end (is_up x))) ∷ []) 2 60) (line_pulled x) (omega arith)
    (λ b bs is e.
    one_line (codes "write gpiochip0/sim_gpio" ++ ((b ∷ bs) ++ pull_end (is_up x))) 2 60 (pull_good (b ∷ bs) (is_up x) is) (omega (arith, pull_cost (b ∷ bs) (is_up x) is.digits))
    (omega (arith, is.few, end_short (is_up x), length-append (codes "write gpiochip0/sim_gpio") ((b ∷ bs) ++ pull_end (is_up x)), length-append (b ∷ bs) (pull_end (is_up x)))))
  where
    end_short : (up : Bool) → length (pull_end up) ≤ 15
    end_short true = omega arith
    end_short false = omega arith

get_part : (x : ℕ) → AreGood (get_line x ∷ []) 10 34
unfolding line_cost
get_part x =
    of_decimal (λ ds. AreGood ((codes "gpioget -c 0 " ++ ds) ∷ []) 10 34) (8 + line_pulled x % 8) (omega arith)
    (λ b bs is e.
    one_line (codes "gpioget -c 0 " ++ (b ∷ bs)) 10 34 (get_good b bs is) (omega (arith, get_cost b bs is))
    (omega (arith, is.few, length-append (codes "gpioget -c 0 ") (b ∷ bs))))

events_part : (k : ℕ) → AreGood (events_at k) 1 14
events_part k = by_test (eqb (k % 16) 0)
  where
    by_test : (t : Bool) → AreGood (cond t (events_line ∷ []) []) 1 14
    by_test true = events_good
    by_test false = record { each = tt; cost = omega arith; size = omega arith }

turn_part : (k x : ℕ) → k ≤ TURNS_MAX → AreGood (turn k x) 14 137
turn_part k x few =
    more_lines (clock_line k ∷ []) (pull_line x ∷ get_line x ∷ events_at k) 1 13 29 108 (clock_part k few)
    (more_lines (pull_line x ∷ []) (get_line x ∷ events_at k) 2 11 60 48 (pull_part x)
    (more_lines (get_line x ∷ []) (events_at k) 10 1 34 14 (get_part x) (events_part k)))

turns_part : (k x count : ℕ) → k + count ≤ TURNS_MAX + 1 → AreGood (turns k x count) (14 * count) (137 * count)
turns_part k x zero few = no_lines
turns_part k x (suc count) few =
    let c : 14 * suc count ≡ 14 + 14 * count = omega arith in
    let s : 137 * suc count ≡ 137 + 137 * count = omega arith in
    rw (c, s)
    (more_lines (turn k (next_number x)) (turns (k + 1) (next_number x) count) 14 (14 * count) 137 (137 * count)
    (turn_part k (next_number x) (omega arith)) (turns_part (k + 1) (next_number x) count (omega arith)))

-- the statements of a load
abbrev statement_lines : ℕ → List (List ℕ)
statement_lines n = codes "probe gen 64" ∷ codes "open A 0" ∷ request_line ∷ (turns 1 n n ++ events_line ∷ [])

statements_part : (n : ℕ) → n ≤ TURNS_MAX → AreGood (statement_lines n) (14 * n + 7) (137 * n + 236)
statements_part n few =
    let c : 14 * n + 7 ≡ 1 + (2 + (3 + (14 * n + 1))) = omega arith in
    let s : 137 * n + 236 ≡ 13 + (9 + (200 + (137 * n + 14))) = omega arith in
    rw (c, s)
    (more_lines (codes "probe gen 64" ∷ []) (codes "open A 0" ∷ request_line ∷ (turns 1 n n ++ events_line ∷ [])) 1 (2 + (3 + (14 * n + 1))) 13 (9 + (200 + (137 * n + 14))) probe_good
    (more_lines (codes "open A 0" ∷ []) (request_line ∷ (turns 1 n n ++ events_line ∷ [])) 2 (3 + (14 * n + 1)) 9 (200 + (137 * n + 14)) open_good
    (more_lines (request_line ∷ []) (turns 1 n n ++ events_line ∷ []) 3 (14 * n + 1) 200 (137 * n + 14) request_good
    (more_lines (turns 1 n n) (events_line ∷ []) (14 * n) 1 (137 * n) 14 (turns_part 1 n n (omega arith)) events_good))))

-- the lines of the text
pieces_text : (lines : List (List ℕ)) → Each (λ line. list_all is_printable line ≡ true) lines → pieces 10 (text_of lines) ≡ lines ++ [] ∷ []
pieces_text [] each = refl
pieces_text (line ∷ lines) each = pieces_line line (text_of lines) each.0 ∙ ap (λ ls. line ∷ ls) (pieces_text lines each.1)

printable_each : (lines : List (List ℕ)) → Each IsGood lines → Each (λ line. list_all is_printable line ≡ true) lines
printable_each [] each = tt
printable_each (line ∷ lines) each = (each.0.printable, printable_each lines each.1)

lines_are : (at : ℕ) (lines : List (List ℕ)) → Each IsGood lines → Each IsLine (placed at (lines ++ [] ∷ []))
lines_are at [] each = (record { printable = refl; fits = refl }, tt)
lines_are at (line ∷ lines) each =
    (record { printable = no_byte_fault 1 line each.0.printable; fits = each.0.fits }, lines_are (at + length line + 1) lines each.1)

all_count : (at : ℕ) (lines : List (List ℕ)) → Each IsGood lines → counted (placed at (lines ++ [] ∷ [])) ≡ placed at lines
all_count at [] each = refl
all_count at (line ∷ lines) each =
    let rest = all_count (at + length line + 1) lines each.1 in
    rw each.0.counts (ap (λ spans. span at line ∷ spans) rest)

are_statements : (at : ℕ) (lines : List (List ℕ)) → Each IsGood lines → Each (IsStatement One) (placed at lines)
are_statements at [] each = tt
are_statements at (line ∷ lines) each = (each.0.statement, are_statements (at + length line + 1) lines each.1)

cost_placed : (at : ℕ) (lines : List (List ℕ)) → sum_by statement_cost (placed at lines) ≡ sum_by line_cost lines
unfolding line_cost
cost_placed at [] = refl
cost_placed at (line ∷ lines) =
    omega (arith, sum_by-cons statement_cost (span at line) (placed (at + length line + 1) lines), sum_by-cons line_cost line lines, cost_placed (at + length line + 1) lines)

none_aggregates : (at : ℕ) (lines : List (List ℕ)) → Each IsGood lines → list_any statement_aggregates (placed at lines) ≡ false
none_aggregates at [] each = refl
none_aggregates at (line ∷ lines) each =
    ap (λ b. b || list_any statement_aggregates (placed (at + length line + 1) lines)) each.0.plain ∙ none_aggregates (at + length line + 1) lines each.1

-- the load's one section
abbrev load_section : ℕ → SaidSection
load_section n = record { kind = Setup; name = []; statements = placed 16 (statement_lines n) }

load_is_plain : (n : ℕ) → n ≤ TURNS_MAX → has_aggregate (load_section n ∷ []) ≡ false
load_is_plain n few = ap (λ b. b || false) (none_aggregates 16 (statement_lines n) (statements_part n few).each)

load_spelled : (n : ℕ) → n ≤ TURNS_MAX → Spelled (load_text n) (load_section n ∷ [])
load_spelled n few =
    let part : AreGood (statement_lines n) (14 * n + 7) (137 * n + 236) = statements_part n few in
    let printable : Each (λ line. list_all is_printable line ≡ true) (load_lines n) = (refl, (refl, printable_each (statement_lines n) part.each)) in
    let are : lines_of (load_text n) ≡ placed 0 (load_lines n ++ [] ∷ []) = ap (placed 0) (pieces_text (load_lines n) printable) in
    let heads : length (load_text n) ≡ 16 + length (text_of (statement_lines n)) = omega arith in
    let costs : sum_by statement_cost (placed 16 (statement_lines n)) ≡ sum_by line_cost (statement_lines n) = cost_placed 16 (statement_lines n) in
    let plain : has_aggregate (load_section n ∷ []) ≡ false = load_is_plain n few in
    let Lines : List Span → Type 0 = λ lines. Each IsLine lines in
    let Heads : List Span → Type 0 = λ lines. IsHeaded lines (load_section n ∷ []) in
    let counted_so : counted (lines_of (load_text n)) ≡ placed 0 (load_lines n) =
    ap counted are ∙ ap (λ spans. span 0 (codes "session 1") ∷ span 10 (codes "setup") ∷ spans) (all_count 16 (statement_lines n) part.each) in
    record {
      size = omega (arith, part.size);
      lines = subst Lines (sym are) (record { printable = refl; fits = refl }, (record { printable = refl; fits = refl }, lines_are 16 (statement_lines n) part.each));
      headed = subst Heads (sym counted_so)
          (One, refl, ((refl, refl, refl), [], sym (append-nil (placed 16 (statement_lines n))), are_statements 16 (statement_lines n) part.each, refl));
      cost = subst (λ b. with_own b (statements_cost (load_section n ∷ [])) ≤ COST_MAX) (sym plain) (omega (arith, part.cost, sum_by-cons section_cost (load_section n) []));
    }

pub load_is_session : (n : ℕ) → 1 ≤ n → n ≤ TURNS_MAX → IsSession (load_text n)
load_is_session n some few =
    let spelled : Spelled (load_text n) (load_section n ∷ []) = load_spelled n few in
    let is : Sentence (load_text n) (load_section n ∷ []) = sentence (load_text n) (load_section n ∷ []) spelled in
    (record { faultless = is.faultless; says = refl }, subst (λ (all : List SaidSection). session_cost all ≤ COST_MAX) is.says spelled.cost)

pub load_has_no_aggregate : (n : ℕ) (sections : List SaidSection) → n ≤ TURNS_MAX → Sentence (load_text n) sections → has_aggregate sections ≡ false
load_has_no_aggregate n sections few is =
    ap has_aggregate (is.says ∙ sym (sentence (load_text n) (load_section n ∷ []) (load_spelled n few)).says) ∙ load_is_plain n few
