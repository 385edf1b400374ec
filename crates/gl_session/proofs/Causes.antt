-- What was read of a source says what the source's bytes say.
use Rattle.std.proofs.Common.{◌≡◌, ◌≤◌, ◌<◌, ◌⊎◌, inl, inr, ℕ, Bool, true, false, List, [], ◌++◌, length, Option, None, Some, IfSome, nat_lt, refl, sym, ◌∙◌, ap, subst, arith, length-append}
use Rattle.std.specs.Prelude.{if◌then◌else◌}
use Rattle.std.specs.Option.{option_or}
use Rattle.std.proofs.lemmas.List.{append-nil}
use Rattle.gl_base.specs.Words.{lines_of}
use Rattle.gl_driver.specs.Told.{Told}
use Rattle.gl_script.specs.Section.{SaidSection}
use Rattle.gl_script.specs.Sentence.{Sentence, cost_fault, fault_from, first_fault, nothing, sections_said}
use Rattle.gl_script.specs.declared.refusal.Refusal.{Refusal}
use Rattle.gl_script.specs.declared.refusal.RefusalKind.TheVariants.{TooLong}
use Rattle.gl_session.specs.declared.status.Status.{Status}
use Rattle.gl_session.specs.declared.status.Status.TheVariants.{Ran, Usage, Refused, ReadFault, WriteFault, NoMemory, No}
use Rattle.gl_session.specs.Streams.{ReadsThrough}
use Rattle.gl_session.specs.Run.{IsOutput, IsRefusal}
use Rattle.gl_session.proofs.FewStatements.{sentence_is_short}
use Rattle.gl_check.specs.Drivers.{DriverOver}
use Rattle.gl_check.specs.Joining.{Maps}

-- a sentence is not refused
pub not_refused : (bytes : List ℕ) (sections : List SaidSection) → Sentence bytes sections → first_fault bytes ≡ None
not_refused bytes sections r = r.faultless

abbrev too_long : Option Refusal
too_long = Some (record { line = 0; column = 0; kind = TooLong })

long_if : (test : Bool) (rest : Option Refusal) → test ≡ true → (if test then too_long else rest) ≡ too_long
long_if true rest e = refl
long_if false rest e = cc

long_refusal : (bytes : List ℕ) → 1048576 < length bytes → first_fault bytes ≡ too_long
long_refusal bytes h =
    let test : nat_lt 1048576 (length bytes) ≡ true = grind (arith, h) in
    long_if (nat_lt 1048576 (length bytes)) (option_or (fault_from nothing 1 (lines_of bytes)) (cost_fault (sections_said bytes))) test

-- a sentence isn't too long
pub short : (bytes : List ℕ) (sections : List SaidSection) → Sentence bytes sections → length bytes ≤ 1048576
short bytes sections r = sentence_is_short bytes sections r

pub single : (bytes : List ℕ) (some others : List SaidSection) → Sentence bytes some → Sentence bytes others → some ≡ others
single bytes some others r s = r.says ∙ sym s.says

module _ (input bytes rest : List ℕ) (whole : input ≡ bytes ++ rest) (ends : length bytes ≤ 1048576 → rest ≡ []) where
  -- a session's bytes were read whole
  same_bytes : length bytes ≤ 1048576 → input ≡ bytes
  same_bytes small = whole ∙ ap (λ l. bytes ++ l) (ends small) ∙ append-nil bytes

  runs_of_read : (sections : List SaidSection) → Sentence bytes sections → Sentence input sections
  runs_of_read sections r = subst (λ l. Sentence l sections) (sym (same_bytes (short bytes sections r))) r

  runs_of_input : (sections : List SaidSection) → Sentence input sections → Sentence bytes sections
  runs_of_input sections r =
      let small : length bytes ≤ 1048576 = omega (arith, short input sections r, ap length whole, length-append bytes rest) in
      subst (λ l. Sentence l sections) (same_bytes small) r

  -- longer bytes are too long, as what was read of them is
  same_if : (test : Bool) → test ≡ nat_lt 1048576 (length bytes) → first_fault input ≡ first_fault bytes
  same_if true e =
      let long : 1048576 < length bytes = grind (arith, e) in
      let longer : 1048576 < length input = omega (arith, long, ap length whole, length-append bytes rest) in
      long_refusal input longer ∙ sym (long_refusal bytes long)
  same_if false e =
      let small : length bytes ≤ 1048576 = grind (arith, e) in
      ap first_fault (same_bytes small)

  same_refusal : first_fault input ≡ first_fault bytes
  same_refusal = same_if (nat_lt 1048576 (length bytes)) refl

  output_of_read : (driver : DriverOver) (before left : ℕ → Option Told) (m : Maps) (text : List ℕ) → IsOutput driver before left m bytes text → IsOutput driver before left m input text
  output_of_read driver before left m text (inl session) = inl (session.0, runs_of_read session.0 session.1, session.2)
  output_of_read driver before left m text (inr refused) = inr (refused.0, same_refusal ∙ refused.1, refused.2)

-- bytes that were read, and then lent
pub as_lent : (limit : ℕ) (old new : Option (List ℕ)) (items lent : List ℕ) → ReadsThrough limit old new items → lent ≡ items → ReadsThrough limit old new lent
as_lent limit old new items lent read is = subst (λ l. ReadsThrough limit old new l) (sym is) read

pub if_ran : (old new : Option (List ℕ)) (bytes : List ℕ) (Ends : Type 0) (Written : List SaidSection → Type 0) → ReadsThrough 1048576 old new bytes → (length bytes ≤ 1048576 → Ends) →
    (sections : List SaidSection) × Sentence bytes sections × Written sections →
    IfSome old (λ input. (sections : List SaidSection) → Sentence input sections → Ends × Written sections)
if_ran None new bytes Ends Written r ends out = tt
if_ran (Some input) None bytes Ends Written r ends out = absurd r.first
if_ran (Some input) (Some rest) bytes Ends Written r ends out =
    λ sections s. (
      ends (short bytes out.0 out.1),
      subst Written (single bytes out.0 sections out.1 (runs_of_input input bytes rest r.first r.end sections s)) out.2,
    )

pub if_session : (old new : Option (List ℕ)) (bytes : List ℕ) → ReadsThrough 1048576 old new bytes → (sections : List SaidSection) → Sentence bytes sections →
    IfSome old (λ input. (sections : List SaidSection) × Sentence input sections)
if_session None new bytes r sections s = tt
if_session (Some input) None bytes r sections s = absurd r.first
if_session (Some input) (Some rest) bytes r sections s = (sections, runs_of_read input bytes rest r.first r.end sections s)

pub if_refused : (old new : Option (List ℕ)) (bytes : List ℕ) (Written : Refusal → Type 0) → ReadsThrough 1048576 old new bytes →
    (refusal : Refusal) × (first_fault bytes ≡ Some refusal) × Written refusal →
    IfSome old (λ input. (refusal : Refusal) × (first_fault input ≡ Some refusal) × Written refusal)
if_refused None new bytes Written r out = tt
if_refused (Some input) None bytes Written r out = absurd r.first
if_refused (Some input) (Some rest) bytes Written r out = (out.0, same_refusal input bytes rest r.first r.end ∙ out.1, out.2)

pub if_output : (driver : DriverOver) (before left : ℕ → Option Told) (m : Maps) (old new : Option (List ℕ)) (bytes : List ℕ) (Written : List ℕ → Type 0) → ReadsThrough 1048576 old new bytes →
    (text : List ℕ) × IsOutput driver before left m bytes text × Written text →
    IfSome old (λ input. (text : List ℕ) × IsOutput driver before left m input text × Written text)
if_output driver before left m None new bytes Written r out = tt
if_output driver before left m (Some input) None bytes Written r out = absurd r.first
if_output driver before left m (Some input) (Some rest) bytes Written r out =
    (out.0, output_of_read input bytes rest r.first r.end driver before left m out.0 out.1, out.2)

-- a run over refused bytes doesn't run
only_refusals : (status : Status) → (status ≡ Usage → ⊥) → (status ≡ No → ⊥) → (status ≡ Ran → ⊥) → IsRefusal status
only_refusals Ran a n b = absurd (b refl)
only_refusals Usage a n b = absurd (a refl)
only_refusals Refused a n b = inl refl
only_refusals ReadFault a n b = inr (inl refl)
only_refusals WriteFault a n b = inr (inr (inl refl))
only_refusals NoMemory a n b = inr (inr (inr refl))
only_refusals No a n b = absurd (n refl)

none_some : (a : Option Refusal) (refusal : Refusal) → a ≡ None → a ≡ Some refusal → ⊥
none_some None refusal e h = cc
none_some (Some other) refusal e h = cc

-- a sentence has no first fault
pub never_refused : (bytes : List ℕ) (sections : List SaidSection) (refusal : Refusal) → Sentence bytes sections → first_fault bytes ≡ Some refusal → ⊥
never_refused bytes sections refusal s is = none_some (first_fault bytes) refusal (not_refused bytes sections s) is

-- what is said of refused bytes that were read is said of those of the source
pub if_faulty : (old new : Option (List ℕ)) (bytes : List ℕ) (Said : Type 0) → ReadsThrough 1048576 old new bytes → ((refusal : Refusal) → first_fault bytes ≡ Some refusal → Said) →
    IfSome old (λ input. (refusal : Refusal) → first_fault input ≡ Some refusal → Said)
if_faulty None new bytes Said r h = tt
if_faulty (Some input) None bytes Said r h = absurd r.first
if_faulty (Some input) (Some rest) bytes Said r h = λ refusal is. h refusal (sym (same_refusal input bytes rest r.first r.end) ∙ is)

pub if_refusal : (status : Status) (old new : Option (List ℕ)) (bytes : List ℕ) → ReadsThrough 1048576 old new bytes →
    (status ≡ Usage → ⊥) → (status ≡ No → ⊥) → (status ≡ Ran → (sections : List SaidSection) × Sentence bytes sections) →
    IfSome old (λ input. (refusal : Refusal) → first_fault input ≡ Some refusal → IsRefusal status)
if_refusal status None new bytes r no_usage no_no ran = tt
if_refusal status (Some input) None bytes r no_usage no_no ran = absurd r.first
if_refusal status (Some input) (Some rest) bytes r no_usage no_no ran =
    λ refusal e. only_refusals status no_usage no_no
    (λ s. never_refused bytes (ran s).0 refusal (ran s).1 (sym (same_refusal input bytes rest r.first r.end) ∙ e))

-- every other answer than these two has a cause
only_these : (status : Status) → (status ≡ Usage → ⊥) → (status ≡ No → ⊥) → (status ≡ ReadFault → ⊥) → (status ≡ Refused → ⊥) → (status ≡ WriteFault → ⊥) →
    (status ≡ Ran) ⊎ (status ≡ NoMemory)
only_these Ran a n b c d = inl refl
only_these Usage a n b c d = absurd (a refl)
only_these Refused a n b c d = absurd (c refl)
only_these ReadFault a n b c d = absurd (b refl)
only_these WriteFault a n b c d = absurd (d refl)
only_these NoMemory a n b c d = inr refl
only_these No a n b c d = absurd (n refl)

pub if_complete : (status : Status) (old new : Option (List ℕ)) (bytes : List ℕ) (ReadRises WriteRises : Type 0) → ReadsThrough 1048576 old new bytes →
    (status ≡ Usage → ⊥) → (status ≡ No → ⊥) → (status ≡ ReadFault → ⊥) → (status ≡ Refused → (refusal : Refusal) × (first_fault bytes ≡ Some refusal)) → (status ≡ WriteFault → WriteRises) →
    IfSome old (λ input. (sections : List SaidSection) → Sentence input sections → ¬ ReadRises → ¬ WriteRises → (status ≡ Ran) ⊎ (status ≡ NoMemory))
if_complete status None new bytes ReadRises WriteRises r no_usage no_no no_read refused write = tt
if_complete status (Some input) None bytes ReadRises WriteRises r no_usage no_no no_read refused write = absurd r.first
if_complete status (Some input) (Some rest) bytes ReadRises WriteRises r no_usage no_no no_read refused write =
    λ sections s reads writes. only_these status no_usage no_no no_read
    (λ e. never_refused bytes sections (refused e).0 (runs_of_input input bytes rest r.first r.end sections s) (refused e).1) (λ e. writes (write e))

-- what is said of the sections that were read is said of those of the source
pub if_sections : (old new : Option (List ℕ)) (bytes : List ℕ) (Said : List SaidSection → Type 0) → ReadsThrough 1048576 old new bytes → ((sections : List SaidSection) → Sentence bytes sections → Said sections) →
    IfSome old (λ input. (sections : List SaidSection) → Sentence input sections → Said sections)
if_sections None new bytes Said r h = tt
if_sections (Some input) None bytes Said r h = absurd r.first
if_sections (Some input) (Some rest) bytes Said r h = λ sections s. h sections (runs_of_input input bytes rest r.first r.end sections s)

-- what holds whatever the source has
pub if_any : (o : Option (List ℕ)) (P : List ℕ → Type 0) → ((input : List ℕ) → P input) → IfSome o P
if_any None P all = tt
if_any (Some input) P all = all input
