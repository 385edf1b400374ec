-- Words that are read one after the other have the fault of their forms, and say what their texts say.
use Rattle.std.proofs.Common.{◌≡◌, ℕ, Bool, true, false, List, [], ◌∷◌, Option, None, Some, sym, ◌∙◌, ap}
use Rattle.std.specs.Prelude.{if◌then◌else◌, Result, Ok, Err, IsErrAnd}
use Rattle.gl_base.specs.Words.{Span, end_of, text_at}
use Rattle.gl_script.specs.declared.refusal.RefusalKind.TheVariants.{Word}
use Rattle.gl_script.specs.declared.refusal.Spot.{Spot}
use Rattle.gl_script.specs.declared.said.Said.{Said}
use Rattle.gl_script.specs.declared.table.Form.{Form}
use Rattle.gl_script.specs.Faults.{forms_fault, spot, tail_fault}
use Rattle.gl_script.specs.Forms.{meets}
use Rattle.gl_script.specs.Left.{Finds, Left, Reads, Says, misread}
use Rattle.gl_script.specs.Pieces.{behind_two}
use Rattle.gl_script.specs.Table.{Tail, followed}

by_test : (b : Bool) (next : Option Spot) (other fault : Spot) → (if b then None else Some other) ≡ Some fault → (if b then next else Some other) ≡ Some fault
by_test true next other fault e = cc
by_test false next other fault e = e

-- a word that isn't of its form is the fault of all forms from its own on
module _ (form : Form) (forms : List Form) (tail : ℕ → List Span → Option Spot) where
  pub misread_here : (end : ℕ) (words : List Span) (fault : Spot) → misread form end words ≡ Some fault → forms_fault (form ∷ forms) tail end words ≡ Some fault
  misread_here end [] fault e = e
  misread_here end (word ∷ words) fault e = by_test (meets form word.text) (forms_fault forms tail (end_of word) words) _ fault e

  -- behind a word that is of its form come those of the others
  pub read_on : {A : Type 0} (read : List ℕ → Option A) (old new : Left) (value : A) → Reads form read old new (Ok value) → forms_fault (form ∷ forms) tail old.end old.words ≡ forms_fault forms tail new.end new.words
  read_on read old new value (word, is, place, meets_it, says) =
      ap (λ (ws : List Span). forms_fault (form ∷ forms) tail old.end ws) is
      ∙ ap (λ (b : Bool). if b then forms_fault forms tail (end_of word) new.words else Some (spot word.at Word)) meets_it
      ∙ ap (λ (n : ℕ). forms_fault forms tail n new.words) (sym place)

  pub misread_at : {A : Type 0} (read : List ℕ → Option A) (old new : Left) (fault : Spot) → Reads form read old new (Err fault) → forms_fault (form ∷ forms) tail old.end old.words ≡ Some fault
  misread_at read old new fault e = misread_here old.end old.words fault e

-- what the word says, and where the others stand
module _ (form : Form) {A : Type 0} (read : List ℕ → Option A) (old new : Left) (value : A) where
  pub first_says : Reads form read old new (Ok value) → read (text_at 0 old.words) ≡ Some value
  first_says (word, is, place, meets_it, says) = ap (λ (ws : List Span). read (text_at 0 ws)) is ∙ says

  pub second_is : Reads form read old new (Ok value) → text_at 1 old.words ≡ text_at 0 new.words
  second_is (word, is, place, meets_it, says) = ap (λ (ws : List Span). text_at 1 ws) is

  pub third_is : Reads form read old new (Ok value) → text_at 2 old.words ≡ text_at 1 new.words
  third_is (word, is, place, meets_it, says) = ap (λ (ws : List Span). text_at 2 ws) is

  pub fourth_is : Reads form read old new (Ok value) → text_at 3 old.words ≡ text_at 2 new.words
  fourth_is (word, is, place, meets_it, says) = ap (λ (ws : List Span). text_at 3 ws) is

  pub fifth_is : Reads form read old new (Ok value) → text_at 4 old.words ≡ text_at 3 new.words
  fifth_is (word, is, place, meets_it, says) = ap (λ (ws : List Span). text_at 4 ws) is

-- what is left behind two words
pub behind_are : {A B : Type 0} (form next : Form) (read : List ℕ → Option A) (reads : List ℕ → Option B) (old new more : Left) (value : A) (other : B)
    → Reads form read old new (Ok value) → Reads next reads new more (Ok other) → behind_two old.words ≡ more.words
behind_are form next read reads old new more value other (word, is, place, meets_it, says) (second, so, end, meets_too, too) =
    ap (λ (ws : List Span). behind_two ws) (is ∙ ap (λ (ws : List Span). word ∷ ws) so)

-- `?` passes a fault on as it is
pub passed_on : (found : Option Spot) (said : Option Said) (result : Result Said Spot) (fault : Spot) → IsErrAnd result (λ f. f ≡ fault) → found ≡ Some fault → Finds found said result
passed_on found said (Ok s) fault is e = absurd is
passed_on found said (Err f) fault is e = e ∙ ap (λ (f : Spot). Some f) (sym is)

-- a word that stands for itself
abbrev pub itself : List ℕ → Option (Unit {0})
itself word = Some tt

-- one word, two, three or four, and what may stand behind them: what is said by what each word says
pub one_word : {A : Type 0} (form : Form) (tail : Tail) (read : List ℕ → Option A) (says : Option A → Option Said) (old new : Left) (value : A) (said : Said)
    → says (Some value) ≡ Some said → Reads form read old new (Ok value) → tail_fault tail new.end new.words ≡ None
    → Says (followed (form ∷ []) tail) (says (read (text_at 0 old.words))) old (Ok said)
one_word form tail read says old new value said so is end =
    (read_on form [] (tail_fault tail) read old new value is ∙ end, ap says (first_says form read old new value is) ∙ so)

pub two_words : {A B : Type 0} (form second : Form) (tail : Tail) (read : List ℕ → Option A) (read_second : List ℕ → Option B)
    (says : Option A → Option B → Option Said) (old new more : Left) (value : A) (other : B) (said : Said)
    → says (Some value) (Some other) ≡ Some said → Reads form read old new (Ok value) → Reads second read_second new more (Ok other)
    → tail_fault tail more.end more.words ≡ None
    → Says (followed (form ∷ second ∷ []) tail) (says (read (text_at 0 old.words)) (read_second (text_at 1 old.words))) old (Ok said)
two_words {A} form second tail read read_second says old new more value other said so is is_second end =
    let rest = one_word second tail read_second (says (Some value)) new more other said so is_second end in (
      read_on form (second ∷ []) (tail_fault tail) read old new value is ∙ rest.0,
      ap (λ (a : Option A). says a (read_second (text_at 1 old.words))) (first_says form read old new value is)
          ∙ ap (λ (t : List ℕ). says (Some value) (read_second t)) (second_is form read old new value is) ∙ rest.1,
    )

pub three_words : {A B C : Type 0} (form second third : Form) (tail : Tail) (read : List ℕ → Option A) (read_second : List ℕ → Option B) (read_third : List ℕ → Option C)
    (says : Option A → Option B → Option C → Option Said) (old new more last : Left) (value : A) (other : B) (further : C) (said : Said)
    → says (Some value) (Some other) (Some further) ≡ Some said → Reads form read old new (Ok value) → Reads second read_second new more (Ok other)
    → Reads third read_third more last (Ok further) → tail_fault tail last.end last.words ≡ None
    → Says (followed (form ∷ second ∷ third ∷ []) tail) (says (read (text_at 0 old.words)) (read_second (text_at 1 old.words)) (read_third (text_at 2 old.words))) old (Ok said)
three_words {A} form second third tail read read_second read_third says old new more last value other further said so is is_second is_third end =
    let rest = two_words second third tail read_second read_third (says (Some value)) new more last other further said so is_second is_third end in (
      read_on form (second ∷ third ∷ []) (tail_fault tail) read old new value is ∙ rest.0,
      ap (λ (a : Option A). says a (read_second (text_at 1 old.words)) (read_third (text_at 2 old.words))) (first_says form read old new value is)
          ∙ ap (λ (t : List ℕ). says (Some value) (read_second t) (read_third (text_at 2 old.words))) (second_is form read old new value is)
          ∙ ap (λ (t : List ℕ). says (Some value) (read_second (text_at 0 new.words)) (read_third t)) (third_is form read old new value is) ∙ rest.1,
    )

pub four_words : {A B C D : Type 0} (form second third fourth : Form) (tail : Tail)
    (read : List ℕ → Option A) (read_second : List ℕ → Option B) (read_third : List ℕ → Option C) (read_fourth : List ℕ → Option D)
    (says : Option A → Option B → Option C → Option D → Option Said) (old new more later last : Left) (value : A) (other : B) (further : C) (final : D) (said : Said)
    → says (Some value) (Some other) (Some further) (Some final) ≡ Some said → Reads form read old new (Ok value) → Reads second read_second new more (Ok other)
    → Reads third read_third more later (Ok further) → Reads fourth read_fourth later last (Ok final) → tail_fault tail last.end last.words ≡ None
    → Says (followed (form ∷ second ∷ third ∷ fourth ∷ []) tail)
    (says (read (text_at 0 old.words)) (read_second (text_at 1 old.words)) (read_third (text_at 2 old.words)) (read_fourth (text_at 3 old.words))) old (Ok said)
four_words {A} form second third fourth tail read read_second read_third read_fourth says old new more later last value other further final said so is is_second is_third is_fourth end =
    let rest = three_words second third fourth tail read_second read_third read_fourth (says (Some value)) new more later last other further final said so is_second is_third is_fourth end in (
      read_on form (second ∷ third ∷ fourth ∷ []) (tail_fault tail) read old new value is ∙ rest.0,
      ap (λ (a : Option A). says a (read_second (text_at 1 old.words)) (read_third (text_at 2 old.words)) (read_fourth (text_at 3 old.words))) (first_says form read old new value is)
          ∙ ap (λ (t : List ℕ). says (Some value) (read_second t) (read_third (text_at 2 old.words)) (read_fourth (text_at 3 old.words))) (second_is form read old new value is)
          ∙ ap (λ (t : List ℕ). says (Some value) (read_second (text_at 0 new.words)) (read_third t) (read_fourth (text_at 3 old.words))) (third_is form read old new value is)
          ∙ ap (λ (t : List ℕ). says (Some value) (read_second (text_at 0 new.words)) (read_third (text_at 1 new.words)) (read_fourth t)) (fourth_is form read old new value is) ∙ rest.1,
    )
