-- Where the last line begins that begins as one above entries does.
use Rattle.std.proofs.Common.{◌≡◌, ◌≢◌, ℕ, suc, ◌+◌, ◌<◌, ◌≤◌, Bool, true, false, eqb, List, [], ◌∷◌, ◌++◌, length, take, drop, get_or, Option, Some, None, IfSome, refl, sym, ◌∙◌, ap, subst, arith}
use Rattle.std.specs.Prelude.{◌==◌, codes, option_map, if◌then◌else◌}
use Rattle.std.specs.List.{list_all}
use Rattle.std.proofs.lemmas.Bool.{ne_eqb}
use Rattle.std.proofs.lemmas.List.{at_drop_all, drop_more}
use Rattle.gl_base.specs.TextLines.{ends_lines}
use Rattle.gl_trace.specs.HistoryRead.{here_if, history_head, is_head, last_head, later_or}
use Rattle.gl_trace.specs.Printable.{IsPrintable, is_printable}
use Rattle.gl_trace.proofs.Fields.{both_true}
use Rattle.gl_trace.proofs.Stripping.{starts_complete}
use Rattle.gl_trace.proofs.TextPieces.{printable_other}

-- the code goes forwards: a place after another one
abbrev pub shifted : ℕ → Option ℕ → Option ℕ
shifted at None = None
shifted at (Some k) = Some (at + k)

-- what was found so far, where no later place is right
abbrev pub SoFar : List ℕ → ℕ → Bool → Option ℕ → Type 0
SoFar output at starts found = last_head true output ≡ later_or (shifted at (last_head starts (drop at output))) found

step : (at : ℕ) (later : Option ℕ) (right : Bool) (found : Option ℕ) → later_or (shifted at (later_or (option_map suc later) (here_if right))) found ≡ later_or (shifted (at + 1) later) (if right then Some at else found)
step at (Some k) right found = let e : at + suc k ≡ at + 1 + k = omega arith in ap Some e
step at None true found = let e : at + 0 ≡ at = omega arith in ap Some e
step at None false found = refl

one_more : (output : List ℕ) (at : ℕ) (starts : Bool) (found : Option ℕ) → SoFar output at starts found → at < length output
    → SoFar output (at + 1) (get_or output at 0 == 10) (if is_head starts (drop at output) then Some at else found)
one_more output at starts found so_far within =
    let byte = get_or output at 0 in
    let rest = drop (at + 1) output in
    let front : drop at output ≡ byte ∷ rest = drop_more output at 0 within in
    so_far ∙ ap (λ t. later_or (shifted at (last_head starts t)) found) front ∙ step at (last_head (byte == 10) rest) (is_head starts (byte ∷ rest)) found
    ∙ ap (λ t. later_or (shifted (at + 1) (last_head (byte == 10) rest)) (if is_head starts t then Some at else found)) (sym front)

-- the same, by what the code's calls answered
pub goes_on : (output : List ℕ) (at : ℕ) (starts : Bool) (found : Option ℕ) (text : List ℕ) (right next : Bool) (kept : Option ℕ) → SoFar output at starts found → at < length output
    → text ≡ drop at output → right ≡ is_head starts text → kept ≡ (if right then Some at else found) → next ≡ (get_or output at 0 == 10) → SoFar output (at + 1) next kept
goes_on output at starts found text right next kept so_far within text_is right_is kept_is next_is =
    let here : right ≡ is_head starts (drop at output) = right_is ∙ ap (is_head starts) text_is in
    let same : kept ≡ (if is_head starts (drop at output) then Some at else found) = kept_is ∙ ap (λ r. if r then Some at else found) here in
    let base : SoFar output (at + 1) (get_or output at 0 == 10) (if is_head starts (drop at output) then Some at else found) = one_more output at starts found so_far within in
    subst (λ n. SoFar output (at + 1) n kept) (sym next_is) (subst (λ k. SoFar output (at + 1) (get_or output at 0 == 10) k) (sym same) base)

pub at_end : (output : List ℕ) (at : ℕ) (starts : Bool) (found : Option ℕ) → SoFar output at starts found → length output ≤ at → found ≡ last_head true output
at_end output at starts found so_far past = sym (so_far ∙ at_drop_all (λ t. later_or (shifted at (last_head starts t)) found) output at past)

-- it is a place of the text

pub within : (starts : Bool) (text : List ℕ) → IfSome (last_head starts text) (λ at. at < length text)
within starts [] = tt
within starts (byte ∷ text) = by (last_head (byte == 10) text) (is_head starts (byte ∷ text)) (within (byte == 10) text)
  where
    by : (later : Option ℕ) (right : Bool) → IfSome later (λ at. at < length text) → IfSome (later_or (option_map suc later) (here_if right)) (λ at. at < suc (length text))
    by None true h = omega arith
    by None false h = tt
    by (Some k) right h = omega (arith, h)

-- and what stands in front of it are whole lines

abbrev starts_line : Bool → List ℕ → Bool
starts_line starts [] = starts
starts_line starts (byte ∷ text) = starts_line (byte == 10) text

starts_ends : (text : List ℕ) → ends_lines text ≡ starts_line true text
starts_ends [] = refl
starts_ends (byte ∷ []) = refl
starts_ends (byte ∷ next ∷ text) = starts_ends (next ∷ text)

here_starts : (starts : Bool) (text : List ℕ) → is_head starts text ≡ true → starts ≡ true
here_starts true text e = refl
here_starts false text e = cc

starts_there : (starts : Bool) (text : List ℕ) (at : ℕ) → last_head starts text ≡ Some at → starts_line starts (take at text) ≡ true
starts_there starts [] at e = cc
starts_there starts (byte ∷ text) at e = by (last_head (byte == 10) text) (is_head starts (byte ∷ text)) (λ k. starts_there (byte == 10) text k) refl e
  where
    by : (later : Option ℕ) (right : Bool) → ((k : ℕ) → later ≡ Some k → starts_line (byte == 10) (take k text) ≡ true) → is_head starts (byte ∷ text) ≡ right → later_or (option_map suc later) (here_if right) ≡ Some at → starts_line starts (take at (byte ∷ text)) ≡ true
    by None true p q f = let is : 0 ≡ at = cc in subst (λ n. starts_line starts (take n (byte ∷ text)) ≡ true) is (here_starts starts (byte ∷ text) q)
    by None false p q f = cc
    by (Some k) right p q f = let is : suc k ≡ at = cc in subst (λ n. starts_line starts (take n (byte ∷ text)) ≡ true) is (p k refl)

pub whole_lines : (output : List ℕ) (at : ℕ) → last_head true output ≡ Some at → ends_lines (take at output) ≡ true
whole_lines output at e = starts_ends (take at output) ∙ starts_there true output at e

-- a text whose last such line is its first, after whole lines

behind : (starts : Bool) (front text : List ℕ) (at : ℕ) → last_head (starts_line starts front) text ≡ Some at → last_head starts (front ++ text) ≡ Some (length front + at)
behind starts [] text at e = let none : at ≡ 0 + at = omega arith in e ∙ ap Some none
behind starts (byte ∷ front) text at e = rw (behind (byte == 10) front text at e) (let one : suc (length front + at) ≡ suc (length front) + at = omega arith in ap Some one)

pub behind_lines : (front text : List ℕ) → ends_lines front ≡ true → last_head true text ≡ Some 0 → last_head true (front ++ text) ≡ Some (length front)
behind_lines front text ends first =
    let none : length front + 0 ≡ length front = omega arith in
    behind true front text 0 (ap (λ b. last_head b text) (sym (starts_ends front) ∙ ends) ∙ first) ∙ ap Some none

-- no line begins so within a line

pub none_within : (line rest : List ℕ) → IsPrintable line → last_head true rest ≡ None → last_head false (line ++ 10 ∷ rest) ≡ None
none_within [] rest e none = rw none refl
none_within (byte ∷ line) rest e none =
    let p = both_true (is_printable byte) (list_all is_printable line) e in
    rw (printable_other byte p.0, none_within line rest p.1 none) refl

-- nor does one that begins with another byte
other_head : (byte : ℕ) (text : List ℕ) → byte ≢ 61 → is_head true (byte ∷ text) ≡ false
other_head byte text other = let test : eqb 61 byte ≡ false = ne_eqb 61 byte (λ e. other (sym e)) in rw test refl

pub none_there : (byte : ℕ) (line rest : List ℕ) → byte ≢ 61 → IsPrintable (byte ∷ line) → last_head true rest ≡ None → last_head true (byte ∷ line ++ 10 ∷ rest) ≡ None
none_there byte line rest other e none =
    let p = both_true (is_printable byte) (list_all is_printable line) e in
    rw (printable_other byte p.0, none_within line rest p.1 none, other_head byte (line ++ 10 ∷ rest) other) refl

-- the head itself is one
first_step : (byte : ℕ) (text : List ℕ) → last_head (byte == 10) text ≡ None → is_head true (byte ∷ text) ≡ true → last_head true (byte ∷ text) ≡ Some 0
first_step byte text none here = rw (none, here) refl

pub first_there : (number rest : List ℕ) → IsPrintable number → last_head true rest ≡ None → last_head true (history_head ++ number ++ 10 ∷ rest) ≡ Some 0
first_there number rest e none =
    first_step 61 (codes "= history " ++ number ++ 10 ∷ rest) (none_within (codes "= history " ++ number) rest e none)
    (starts_complete history_head (number ++ 10 ∷ rest) (history_head ++ number ++ 10 ∷ rest) refl)
