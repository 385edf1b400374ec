-- What is judged of the bytes that were read is judged of those of the source; and what statuses say of judgments.
use Rattle.std.proofs.Common.{◌≡◌, ◌≤◌, ◌<◌, ◌⊎◌, inl, inr, ℕ, Bool, true, false, List, [], ◌++◌, length, Option, None, Some, IfSome, nat_lt, nat_le, not, is_some, ◌&&◌, refl, sym, ◌∙◌, ap, subst, arith, length-append}
use Rattle.std.proofs.lemmas.Bool.Decides.{nat_tests}
use Rattle.std.proofs.lemmas.List.{append-nil}
use Rattle.gl_script.specs.Cost.{has_aggregate}
use Rattle.gl_script.specs.Section.{SaidSection}
use Rattle.gl_script.specs.Sentence.{Sentence, first_fault, sections_said}
use Rattle.gl_script.specs.declared.refusal.Refusal.{Refusal}
use Rattle.gl_script.specs.declared.refusal.RefusalKind.TheVariants.{Header as HeaderKind, TooLong as TooLongKind}
use Rattle.gl_trace.specs.HistoryFaults.{IsFault}
use Rattle.gl_trace.specs.HistoryRead.{Bad, Good, History, history_in}
use Rattle.gl_trace.specs.HistoryText.{AreTold}
use Rattle.gl_trace.specs.declared.history.NoHistory.{NoHistory}
use Rattle.gl_trace.specs.declared.history.NoHistory.TheVariants.{Line}
use Rattle.gl_core.specs.Device.{OneEntry}
use Rattle.gl_check.specs.Many.{actor_sections}
use Rattle.gl_check.specs.Misfit.{IsMisfit}
use Rattle.gl_session.specs.declared.judging.TheConstants.{CHECK_MAX}
use Rattle.gl_session.specs.declared.status.Status.{Status}
use Rattle.gl_session.specs.declared.status.Status.TheVariants.{Ran, Refused, WriteFault, NoMemory, No}
use Rattle.gl_session.specs.declared.verdict.Verdict.{Verdict}
use Rattle.gl_session.specs.declared.verdict.Verdict.TheVariants.{TooLong, Header, NoSession, NoFormat, NoEntry, NoText, Yes}
use Rattle.gl_session.specs.Run.{refused_line}
use Rattle.gl_session.specs.Streams.{ReadsThrough}
use Rattle.gl_session.specs.Verdict.{IsJudgment, IsLawful, IsLongVerdict, IsOutputVerdict, IsPartsVerdict, IsSessionVerdict, IsVerdict, LawfulIsYes, Parts, YesIsLawful, entries_verdict, header_of, is_judged, verdict_line, verdict_status, yes_line}
use Rattle.gl_session.proofs.LawfulRuns.{says_judged}

-- an input that is too long, and one that isn't
pub long_verdict : (input : List ℕ) → CHECK_MAX < length input → IsVerdict input TooLong
long_verdict input h =
    let test : nat_lt CHECK_MAX (length input) ≡ true = grind (arith, nat_tests, h) in
    subst (λ (b : Bool). IsLongVerdict b input TooLong) (sym test) refl

pub parts_verdict : (input : List ℕ) (verdict : Verdict) → length input ≤ CHECK_MAX → IsPartsVerdict (header_of input) verdict → IsVerdict input verdict
parts_verdict input verdict h p =
    let test : nat_lt CHECK_MAX (length input) ≡ false = grind (arith, nat_tests, h) in
    subst (λ (b : Bool). IsLongVerdict b input verdict) (sym test) p

pub no_header : (input : List ℕ) → length input ≤ CHECK_MAX → header_of input ≡ None → IsVerdict input Header
no_header input h e = parts_verdict input Header h (subst (λ (o : Option Parts). IsPartsVerdict o Header) (sym e) refl)

pub session_verdict : (input : List ℕ) (parts : Parts) (verdict : Verdict) → length input ≤ CHECK_MAX → header_of input ≡ Some parts → IsSessionVerdict (is_judged parts.session) parts verdict → IsVerdict input verdict
session_verdict input parts verdict h e s = parts_verdict input verdict h (subst (λ (o : Option Parts). IsPartsVerdict o verdict) (sym e) s)

-- a session with a fault, one of few actors, and one with an `aggregate` can't be judged
is_fault : (fault : Option Refusal) (refusal : Refusal) (more : Bool) → fault ≡ Some refusal → (not (is_some fault) && more) ≡ false
is_fault None refusal more e = cc
is_fault (Some fault) refusal more e = refl

pub faulty_session : (parts : Parts) (refusal : Refusal) → first_fault parts.session ≡ Some refusal → IsSessionVerdict (is_judged parts.session) parts NoSession
faulty_session parts refusal e =
    let test : is_judged parts.session ≡ false =
    is_fault (first_fault parts.session) refusal (nat_le 2 (length (actor_sections (sections_said parts.session))) && not (has_aggregate (sections_said parts.session))) e in
    subst (λ (b : Bool). IsSessionVerdict b parts NoSession) (sym test) refl

second_fails : (a b : Bool) → b ≡ false → (a && b) ≡ false
second_fails true b e = e
second_fails false b e = refl

pub lone_session : (parts : Parts) (sections : List SaidSection) → Sentence parts.session sections → length (actor_sections sections) < 2 → IsSessionVerdict (is_judged parts.session) parts NoSession
lone_session parts sections s few =
    let fewer : length (actor_sections (sections_said parts.session)) < 2 = subst (λ (l : List SaidSection). length (actor_sections l) < 2) s.says few in
    let test : nat_le 2 (length (actor_sections (sections_said parts.session))) ≡ false = grind (arith, nat_tests, fewer) in
    let judged : is_judged parts.session ≡ false = second_fails (not (is_some (first_fault parts.session))) (nat_le 2 (length (actor_sections (sections_said parts.session))) && not (has_aggregate (sections_said parts.session)))
    (ap (λ b. b && not (has_aggregate (sections_said parts.session))) test) in
    subst (λ (b : Bool). IsSessionVerdict b parts NoSession) (sym judged) refl

pub aggregating_session : (parts : Parts) (sections : List SaidSection) → Sentence parts.session sections → has_aggregate sections ≡ true → IsSessionVerdict (is_judged parts.session) parts NoSession
aggregating_session parts sections s has =
    let test : has_aggregate (sections_said parts.session) ≡ true = subst (λ (l : List SaidSection). has_aggregate l ≡ true) s.says has in
    let judged : is_judged parts.session ≡ false = second_fails (not (is_some (first_fault parts.session))) (nat_le 2 (length (actor_sections (sections_said parts.session))) && not (has_aggregate (sections_said parts.session)))
    (second_fails (nat_le 2 (length (actor_sections (sections_said parts.session)))) (not (has_aggregate (sections_said parts.session))) (ap not test)) in
    subst (λ (b : Bool). IsSessionVerdict b parts NoSession) (sym judged) refl

pub output_verdict : (parts : Parts) (sections : List SaidSection) (verdict : Verdict) → Sentence parts.session sections → 2 ≤ length (actor_sections sections) → has_aggregate sections ≡ false
    → IsOutputVerdict sections (history_in parts.output) verdict → IsSessionVerdict (is_judged parts.session) parts verdict
output_verdict parts sections verdict s many without h =
    let judged : is_judged parts.session ≡ true = says_judged parts.session sections s many without in
    subst (λ (b : Bool). IsSessionVerdict b parts verdict) (sym judged) (subst (λ (l : List SaidSection). IsOutputVerdict l (history_in parts.output) verdict) s.says h)

-- an output without a history, and one with it
pub faulty_output : (sections : List SaidSection) (found : History) (why : NoHistory) (verdict : Verdict) → IsFault why found → (line : ℕ) × (why ≡ Line line) × (verdict ≡ NoFormat line) → IsOutputVerdict sections found verdict
faulty_output sections found why verdict fault h =
    let bad : found ≡ Bad h.0 = subst (λ (w : NoHistory). IsFault w found) h.1 fault in
    subst (λ (f : History). IsOutputVerdict sections f verdict) (sym bad) h.2

pub with_history : (sections : List SaidSection) (found : History) (front : List ℕ) (history : List OneEntry) (verdict : Verdict) → found ≡ Good front history → AreTold 0 history
    → (misfit : Option ℕ) × IsMisfit sections history misfit × (verdict ≡ entries_verdict misfit sections front history) → IsOutputVerdict sections found verdict
with_history sections found front history verdict e told h = subst (λ (f : History). IsOutputVerdict sections f verdict) (sym e) (told, h)

module _ (input bytes rest : List ℕ) (whole : input ≡ bytes ++ rest) (ends : length bytes ≤ CHECK_MAX → rest ≡ []) where
  -- longer bytes are too long, as what was read of them is
  same_verdict : (verdict : Verdict) → IsVerdict bytes verdict → IsVerdict input verdict
  same_verdict verdict = by (nat_lt CHECK_MAX (length bytes)) refl
    where
      by : (b : Bool) → nat_lt CHECK_MAX (length bytes) ≡ b → IsLongVerdict b bytes verdict → IsVerdict input verdict
      by true e h =
          let long : CHECK_MAX < length bytes = grind (arith, nat_tests, e) in
          let longer : CHECK_MAX < length input = omega (arith, long, ap length whole, length-append bytes rest) in
          subst (λ v. IsVerdict input v) (sym h) (long_verdict input longer)
      by false e h =
          let small : length bytes ≤ CHECK_MAX = grind (arith, nat_tests, e) in
          let same : input ≡ bytes = whole ∙ ap (λ l. bytes ++ l) (ends small) ∙ append-nil bytes in
          subst (λ l. IsVerdict l verdict) (sym same) (subst (λ (b : Bool). IsLongVerdict b bytes verdict) (sym e) h)

pub if_judged : (old new : Option (List ℕ)) (bytes : List ℕ) (IsStatus Written : Verdict → Type 0) → ReadsThrough CHECK_MAX old new bytes → (verdict : Verdict) × IsVerdict bytes verdict × IsStatus verdict × Written verdict
    → IfSome old (λ input. (verdict : Verdict) × IsVerdict input verdict × IsStatus verdict × Written verdict)
if_judged None new bytes IsStatus Written r h = tt
if_judged (Some input) None bytes IsStatus Written r h = absurd r.first
if_judged (Some input) (Some rest) bytes IsStatus Written r h = (h.0, same_verdict input bytes rest r.first r.end h.0 h.1, h.2, h.3)

pub if_front : (old new : Option (List ℕ)) (bytes : List ℕ) (Written : Verdict → Type 0) → ReadsThrough CHECK_MAX old new bytes → (verdict : Verdict) × IsVerdict bytes verdict × Written verdict
    → IfSome old (λ input. (verdict : Verdict) × IsVerdict input verdict × Written verdict)
if_front None new bytes Written r h = tt
if_front (Some input) None bytes Written r h = absurd r.first
if_front (Some input) (Some rest) bytes Written r h = (h.0, same_verdict input bytes rest r.first r.end h.0 h.1, h.2)

-- each verdict has a status of a judgment, and `yes` alone has Ran
pub is_judgment : (verdict : Verdict) → IsJudgment (verdict_status verdict)
is_judgment TooLong = inr (inl refl)
is_judgment Header = inr (inl refl)
is_judgment NoSession = inr (inr refl)
is_judgment (NoFormat line) = inr (inr refl)
is_judgment (NoEntry index) = inr (inr refl)
is_judgment NoText = inr (inr refl)
is_judgment Yes = inl refl

pub no_write_fault : (verdict : Verdict) → verdict_status verdict ≡ WriteFault → ⊥
no_write_fault TooLong e = cc
no_write_fault Header e = cc
no_write_fault NoSession e = cc
no_write_fault (NoFormat line) e = cc
no_write_fault (NoEntry index) e = cc
no_write_fault NoText e = cc
no_write_fault Yes e = cc

ran_alone : (verdict : Verdict) → verdict_status verdict ≡ Ran → verdict ≡ Yes
ran_alone TooLong e = cc
ran_alone Header e = cc
ran_alone NoSession e = cc
ran_alone (NoFormat line) e = cc
ran_alone (NoEntry index) e = cc
ran_alone NoText e = cc
ran_alone Yes e = refl

-- a judgment that refuses writes the line of a refusal
pub refused_verdict : (verdict : Verdict) → verdict_status verdict ≡ Refused → (refusal : Refusal) × (verdict_line verdict ≡ refused_line refusal)
refused_verdict TooLong e = (record { line = 0; column = 0; kind = TooLongKind }, refl)
refused_verdict Header e = (record { line = 1; column = 1; kind = HeaderKind }, refl)
refused_verdict NoSession e = cc
refused_verdict (NoFormat line) e = cc
refused_verdict (NoEntry index) e = cc
refused_verdict NoText e = cc
refused_verdict Yes e = cc

-- a judgment is no fault of writing, and not out of memory
pub no_fault_judged : {A : Type 0} (status : Status) → IsJudgment status → A ⊎ ((status ≡ WriteFault) ⊎ (status ≡ NoMemory)) → A
no_fault_judged status j (inl a) = a
no_fault_judged status (inl j) (inr (inl e)) = absurd (let other : Ran ≡ WriteFault = sym j ∙ e in cc)
no_fault_judged status (inr (inl j)) (inr (inl e)) = absurd (let other : Refused ≡ WriteFault = sym j ∙ e in cc)
no_fault_judged status (inr (inr j)) (inr (inl e)) = absurd (let other : No ≡ WriteFault = sym j ∙ e in cc)
no_fault_judged status (inl j) (inr (inr e)) = absurd (let other : Ran ≡ NoMemory = sym j ∙ e in cc)
no_fault_judged status (inr (inl j)) (inr (inr e)) = absurd (let other : Refused ≡ NoMemory = sym j ∙ e in cc)
no_fault_judged status (inr (inr j)) (inr (inr e)) = absurd (let other : No ≡ NoMemory = sym j ∙ e in cc)

-- what was written as a verdict ends so
pub ends_judged : {Rest : Type 0} (status : Status) (verdict : Verdict) → (status ≡ verdict_status verdict) ⊎ Rest → IsJudgment status ⊎ Rest
ends_judged status verdict (inl e) = inl (subst (λ s. IsJudgment s) (sym e) (is_judgment verdict))
ends_judged status verdict (inr r) = inr r

-- where nothing failed the answer is a judgment, or being out of memory
pub judged_or_none : {WriteRises : Type 0} (status : Status) → IsJudgment status ⊎ ((status ≡ WriteFault) ⊎ (status ≡ NoMemory)) → (status ≡ WriteFault → WriteRises) → ¬ WriteRises → IsJudgment status ⊎ (status ≡ NoMemory)
judged_or_none status (inl j) fault never = inl j
judged_or_none status (inr (inl e)) fault never = absurd (never (fault e))
judged_or_none status (inr (inr e)) fault never = inr e

-- `yes` is written of lawful runs
pub if_yes : YesIsLawful → (old : Option (List ℕ)) (status : Status) (Written : List ℕ → Type 0) → status ≡ Ran
    → IfSome old (λ input. (verdict : Verdict) × IsVerdict input verdict × (status ≡ verdict_status verdict) × Written (verdict_line verdict))
    → IfSome old (λ input. IsLawful input × Written yes_line)
if_yes sound None status Written ran h = tt
if_yes sound (Some input) status Written ran h =
    let is : h.0 ≡ Yes = ran_alone h.0 (sym h.2 ∙ ran) in
    (sound input (subst (λ v. IsVerdict input v) is h.1), subst (λ v. Written (verdict_line v)) is h.3)

pub if_lawful : LawfulIsYes → (old : Option (List ℕ)) (status : Status) (ReadRises WriteRises : Type 0) (Written : Verdict → Type 0) → (¬ ReadRises → ¬ WriteRises → IsJudgment status ⊎ (status ≡ NoMemory))
    → (IsJudgment status → IfSome old (λ input. (verdict : Verdict) × IsVerdict input verdict × (status ≡ verdict_status verdict) × Written verdict))
    → IfSome old (λ input. IsLawful input → ¬ ReadRises → ¬ WriteRises → (status ≡ Ran) ⊎ (status ≡ NoMemory))
if_lawful lawful None status ReadRises WriteRises Written complete judged = tt
if_lawful lawful (Some input) status ReadRises WriteRises Written complete judged = λ l r w. by l (complete r w)
  where
    by : IsLawful input → IsJudgment status ⊎ (status ≡ NoMemory) → (status ≡ Ran) ⊎ (status ≡ NoMemory)
    by l (inl j) = let h = judged j in inl (h.2 ∙ ap verdict_status (lawful input h.0 l h.1))
    by l (inr e) = inr e
