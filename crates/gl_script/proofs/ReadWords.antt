-- The next word of a statement, as what it is read as.
use Rattle.std.proofs.Common.{◌≡◌, ℕ, ◌+◌, ◌≤◌, ◌&&◌, [], ◌∷◌, Bool, true, false, List, length, Option, None, Some, refl, sym, ap, subst, ◌∙◌, arith}
use Rattle.std.specs.Prelude.{if◌then◌else◌, is_some, Result, Ok, Err, IfOk, IfErr, OnOk, MatchOption, nat_le}
use Rattle.std.proofs.lemmas.Bool.Decides.{nat_tests}
use Rattle.gl_base.specs.Words.{Span, span}
use Rattle.gl_script.specs.declared.refusal.RefusalKind.TheVariants.{Word, Words}
use Rattle.gl_script.specs.declared.refusal.Spot.{Spot}
use Rattle.gl_script.specs.declared.table.Form.{Form}
use Rattle.gl_script.specs.Faults.{spot}
use Rattle.gl_script.specs.Forms.{is_there, meets, within}
use Rattle.gl_script.specs.Left.{Left, Reads, misread}

pub there_is : (n : Option ℕ) → is_there n ≡ is_some n
there_is None = refl
there_is (Some n) = refl

pub on_ok : {A : Type 0} (result : Result A Spot) (P : Type 0) → P → OnOk result P
on_ok (Ok value) P p = p
on_ok (Err fault) P p = tt

-- a word that isn't of its form is the fault
pub misread_by : (form : Form) (old new : Left) (at : ℕ) (word : List ℕ) → old.words ≡ span at word ∷ new.words → meets form word ≡ false → misread form old.end old.words ≡ Some (spot at Word)
misread_by form old new at word is unmet = ap (λ (words : List Span). misread form old.end words) is ∙ ap (λ (b : Bool). if b then None else Some (spot at Word)) unmet

-- and so is want of a word
pub missing_by : (form : Form) (old : Left) (fault : Spot) → (old.words ≡ []) × (fault ≡ spot old.end Words) → misread form old.end old.words ≡ Some fault
missing_by form old fault missing = ap (λ (words : List Span). misread form old.end words) missing.0 ∙ ap (λ (f : Spot). Some f) (sym missing.1)

-- a number that is within its bounds
passed : (a b : Bool) (m n : ℕ) → (if a && b then Some m else None) ≡ Some n → (b ≡ true) × (m ≡ n)
passed true true m n e = (refl, cc)
passed true false m n e = cc
passed false b m n e = cc

at_most : (m high : ℕ) → nat_le m high ≡ true → m ≤ high
at_most m high e = grind (arith, nat_tests)

pub within_most : (low high : ℕ) (number : Option ℕ) (n : ℕ) → within low high number ≡ Some n → n ≤ high
within_most low high None n e = cc
within_most low high (Some m) n e =
    let both = passed (nat_le low m) (nat_le m high) m n e in subst (λ k. k ≤ high) both.1 (at_most m high both.0)

pub if_err : {A : Type 0} (P Q : Spot → Type 0) (result : Result A Spot) → ((fault : Spot) → P fault → Q fault) → IfErr result P → IfErr result Q
if_err P Q (Ok value) h p = tt
if_err P Q (Err fault) h p = h fault p

pub if_ok : {A : Type 0} (P Q : A → Type 0) (result : Result A Spot) → ((value : A) → P value → Q value) → IfOk result P → IfOk result Q
if_ok P Q (Ok value) h p = h value p
if_ok P Q (Err fault) h p = tt

-- a word is of its form exactly where it is read as something
pub reads_by : {A : Type 0} (form : Form) (read : List ℕ → Option A) (old new : Left) (at : ℕ) (word : List ℕ) (value : Option A) (result : Result A Spot)
    → old.words ≡ span at word ∷ new.words → new.end ≡ at + length word → meets form word ≡ is_some (read word) → value ≡ read word
    → MatchOption value (result ≡ Err (spot at Word)) (λ v. result ≡ Ok v) → Reads form read old new result
reads_by {A} form read old new at word (Some v) result is end same says told =
    subst (λ (r : Result A Spot). Reads form read old new r) (sym told) (span at word, is, end, same ∙ ap (λ (o : Option A). is_some o) (sym says), sym says)
reads_by {A} form read old new at word None result is end same says told =
    subst (λ (r : Result A Spot). Reads form read old new r) (sym told) (misread_by form old new at word is (same ∙ ap (λ (o : Option A). is_some o) (sym says)))
