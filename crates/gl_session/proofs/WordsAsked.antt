-- Words that ask for one thing ask for no other; and what a load ends with is nothing else.
use Rattle.std.proofs.Common.{◌≡◌, ◌⊎◌, ℕ, List, [], Option, None, Some, false, inl, inr, nat_eq, refl, subst, sym, ◌∙◌, arith}
use Rattle.std.specs.Io.KnownBytes.{Consumes}
use Rattle.gl_words.specs.declared.task.Task.{Task}
use Rattle.gl_words.specs.declared.task.Task.TheVariants.{Check, Load, Session}
use Rattle.gl_session.specs.Status.{status_number}
use Rattle.gl_session.specs.declared.status.Status.{Status}

pub session_is_no_load : (asked : Option Task) (n : ℕ) → asked ≡ Some Session → asked ≡ Some (Load n) → ⊥
session_is_no_load asked n is load = let both : Some Session ≡ Some (Load n) = sym is ∙ load in cc

pub session_is_no_check : (asked : Option Task) → asked ≡ Some Session → asked ≡ Some Check → ⊥
session_is_no_check asked is check = let both : Some Session ≡ Some Check = sym is ∙ check in cc

pub session_is_some : (asked : Option Task) → asked ≡ Some Session → asked ≡ None → ⊥
session_is_some asked is none = let both : Some Session ≡ None = sym is ∙ none in cc

pub load_is_no_check : (asked : Option Task) (n : ℕ) → asked ≡ Some (Load n) → asked ≡ Some Check → ⊥
load_is_no_check asked n is check = let both : Some (Load n) ≡ Some Check = sym is ∙ check in cc

pub load_is_some : (asked : Option Task) (n : ℕ) → asked ≡ Some (Load n) → asked ≡ None → ⊥
load_is_some asked n is none = let both : Some (Load n) ≡ None = sym is ∙ none in cc

pub load_has_words : (asked : Option Task) (n : ℕ) → asked ≡ Some (Load n) → asked ≡ Some Session → ⊥
load_has_words asked n is session = session_is_no_load asked n session is

pub check_is_no_load : (asked : Option Task) (n : ℕ) → asked ≡ Some Check → asked ≡ Some (Load n) → ⊥
check_is_no_load asked n is load = load_is_no_check asked n load is

pub check_is_some : (asked : Option Task) → asked ≡ Some Check → asked ≡ None → ⊥
check_is_some asked is none = let both : Some Check ≡ None = sym is ∙ none in cc

pub check_has_words : (asked : Option Task) → asked ≡ Some Check → asked ≡ Some Session → ⊥
check_has_words asked is session = session_is_no_check asked session is

pub none_is_no_load : (asked : Option Task) (n : ℕ) → asked ≡ None → asked ≡ Some (Load n) → ⊥
none_is_no_load asked n is load = load_is_some asked n load is

pub none_is_no_check : (asked : Option Task) → asked ≡ None → asked ≡ Some Check → ⊥
none_is_no_check asked is check = check_is_some asked check is

pub none_has_words : (asked : Option Task) → asked ≡ None → asked ≡ Some Session → ⊥
none_has_words asked is session = session_is_some asked session is

-- statuses are told apart by their numbers
pub apart : {a b : Status} → nat_eq (status_number a) (status_number b) ≡ false → a ≡ b → ⊥
apart {a} unlike is = differs (status_number a) (subst (λ s. nat_eq (status_number a) (status_number s) ≡ false) (sym is) unlike)
  where
    differs : (n : ℕ) → nat_eq n n ≡ false → ⊥
    differs n unlike = grind (arith, unlike)

-- one of two is no third, and what a load ends with is nothing else
pub no_third : {status a b other : Status} → (status ≡ a) ⊎ (status ≡ b) → nat_eq (status_number a) (status_number other) ≡ false → nat_eq (status_number b) (status_number other) ≡ false → status ≡ other → ⊥
no_third (inl first) unlike _ is = apart unlike (sym first ∙ is)
no_third (inr second) _ unlike is = apart unlike (sym second ∙ is)

pub no_other : {status a b c other : Status} → (status ≡ a) ⊎ ((status ≡ b) ⊎ (status ≡ c)) → nat_eq (status_number a) (status_number other) ≡ false
    → nat_eq (status_number b) (status_number other) ≡ false → nat_eq (status_number c) (status_number other) ≡ false → status ≡ other → ⊥
no_other (inl first) unlike _ _ is = apart unlike (sym first ∙ is)
no_other (inr later) _ second third is = no_third later second third is

-- what there is isn't missing
pub some_is_no_none : {A : Type 0} {found : Option A} {x : A} → found ≡ Some x → found ≡ None → ⊥
some_is_no_none {A} {found} {x} is none = let both : Some x ≡ None = sym is ∙ none in cc

-- nothing was read
pub consumes_none : (left : Option (List ℕ)) → Consumes left left []
consumes_none None = tt
consumes_none (Some bytes) = refl
