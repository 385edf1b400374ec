-- A talk over given results, a step at a time.
use Rattle.std.proofs.Common.{◌≡◌, ◌<◌, ◌≤◌, ◌+◌, ℕ, true, false, List, [], ◌∷◌, ◌++◌, length, map, drop, get_or, MatchOption, Option, None, Some, refl, sym, ◌∙◌, ap, append_assoc, append-nil, arith}
use Rattle.std.specs.Prelude.{nat_lt}
use Rattle.std.proofs.lemmas.Bool.Decides.{nat_tests}
use Rattle.std.proofs.lemmas.List.{drop_more, drop_all}
use Rattle.gl_base.specs.declared.operation.Do.{Do}
use Rattle.gl_base.specs.declared.operation.Got.{Got}
use Rattle.gl_client.specs.declared.next.Next.TheVariants.{Call, Print}
use Rattle.gl_client.specs.Program.{Program, done, print, ask, then_by, Left, goes_on, waits, given, then_left, Goes}
use Rattle.gl_script.specs.declared.section.Statement.{Statement}
use Rattle.gl_talk.specs.declared.over.TalkedOver.{TalkedOver}
use Rattle.gl_talk.specs.Open.{Names}
use Rattle.gl_talk.specs.Over.{columns_in, joined, talk_in}
use Rattle.gl_talk.proofs.Continuing.{part_step}
use Rattle.gl_talk.specs.Talk.{Does, Talked, nothing_talked, talked, talks}

below : (a b : ℕ) → true ≡ nat_lt a b → a < b
below a b e = grind (arith, nat_tests)

not_below : (a b : ℕ) → false ≡ nat_lt a b → b ≤ a
not_below a b e = grind (arith, nat_tests)

-- what stands in front of what is talked
abbrev pub front : List Do → List ℕ → Talked → Talked
front operations text behind = record { operations = operations ++ behind.operations; text = text ++ behind.text }

pub called : {A : Type 0} (p : Program A) (what : Do) (rest : Left A) (got : Got) (results : List Got) (operations : List Do) (text : List ℕ) → Goes p (Call what) rest
    → front (operations ++ what ∷ []) text (talked (given rest (Some got)) results) ≡ front operations text (talked p (got ∷ results))
called p what (waits f) got results operations text h =
    (λ i. record { operations = append_assoc operations (what ∷ []) (talked (f got) results).operations i; text = text ++ (talked (f got) results).text })
    ∙ ap (λ q. front operations text (talked q (got ∷ results))) (sym h)
called p what (goes_on q) got results operations text h = absurd h

pub called_last : {A : Type 0} (p : Program A) (what : Do) (rest : Left A) (operations : List Do) (text : List ℕ) → Goes p (Call what) rest
    → front (operations ++ what ∷ []) text nothing_talked ≡ front operations text (talked p [])
called_last p what (waits f) operations text h =
    (λ i. record { operations = append-nil (operations ++ what ∷ []) i; text = text ++ [] }) ∙ ap (λ q. front operations text (talked q [])) (sym h)
called_last p what (goes_on q) operations text h = absurd h

pub printed : {A : Type 0} (p : Program A) (more : List ℕ) (rest : Left A) (results : List Got) (operations : List Do) (text : List ℕ) → Goes p (Print more) rest
    → front operations (text ++ more) (talked (given rest None) results) ≡ front operations text (talked p results)
printed p more (goes_on q) results operations text h =
    (λ i. record { operations = operations ++ (talked q results).operations; text = append_assoc text more (talked q results).text i }) ∙ ap (λ r. front operations text (talked r results)) (sym h)
printed p more (waits f) results operations text h = absurd h

-- The same for what the code has: l is left before a step of the talk, rest after it, and f comes after the statement.
module _ (over new : TalkedOver) (l rest : Left Names) (f : Names → Does) (got : Option Got) (results : List Got) (at : ℕ) where
  same_front : (operations : List Do) (text : List ℕ) (behind : Talked) → new.operations.items ≡ operations → new.text.items ≡ text → joined new behind ≡ front operations text behind
  same_front operations text behind e t = λ i. record { operations = e i ++ behind.operations; text = t i ++ behind.text }

  pub call_step : (what : Do) (next : Got) → Goes (given l got) (Call what) rest → new.operations.items ≡ over.operations.items ++ what ∷ [] → new.text.items ≡ over.text.items → true ≡ nat_lt at (length results)
      → next ≡ get_or results at next
      → joined new (talked (given (then_left rest f) (Some next)) (drop (at + 1) results)) ≡ joined over (talked (given (then_left l f) got) (drop at results))
  call_step what next g e t lt is =
      same_front (over.operations.items ++ what ∷ []) over.text.items (talked (given (then_left rest f) (Some next)) (drop (at + 1) results)) e t
      ∙ called (given (then_left l f) got) what (then_left rest f) next (drop (at + 1) results) over.operations.items over.text.items (part_step l rest f got (Call what) g)
      ∙ ap (λ rs. joined over (talked (given (then_left l f) got) rs)) (ap (λ x. x ∷ drop (at + 1) results) is ∙ sym (drop_more results at next (below at (length results) lt)))

  pub last_step : (what : Do) → Goes (given l got) (Call what) rest → new.operations.items ≡ over.operations.items ++ what ∷ [] → new.text.items ≡ over.text.items → false ≡ nat_lt at (length results)
      → joined new nothing_talked ≡ joined over (talked (given (then_left l f) got) (drop at results))
  last_step what g e t le =
      same_front (over.operations.items ++ what ∷ []) over.text.items nothing_talked e t
      ∙ called_last (given (then_left l f) got) what (then_left rest f) over.operations.items over.text.items (part_step l rest f got (Call what) g)
      ∙ ap (λ rs. joined over (talked (given (then_left l f) got) rs)) (sym (drop_all at results (not_below at (length results) le)))

  pub print_step : (more : List ℕ) → Goes (given l got) (Print more) rest → new.operations.items ≡ over.operations.items → new.text.items ≡ over.text.items ++ more
      → joined new (talked (given (then_left rest f) None) (drop at results)) ≡ joined over (talked (given (then_left l f) got) (drop at results))
  print_step more g e t =
      same_front over.operations.items (over.text.items ++ more) (talked (given (then_left rest f) None) (drop at results)) e t
      ∙ printed (given (then_left l f) got) more (then_left rest f) (drop at results) over.operations.items over.text.items (part_step l rest f got (Print more) g)

-- a program and then nothing
pub then_done : {A : Type 0} (p : Program A) → then_by p (λ value. done value) ≡ p
then_done (done value) = refl
then_done (print text p) = ap (print text) (then_done p)
then_done (ask what p) = λ i. ask what (λ got. then_done (p got) i)

-- the end of a talk
either : (o : Option ℕ) (P : Type 0) → MatchOption o P (λ next. P) → P
either None P h = h
either (Some next) P h = h

pub finishing : (over new : TalkedOver) (l : Left Names) (p : Does) (results : List Got) (at : ℕ) (o : Option ℕ) (names : Names) → l ≡ goes_on p
    → MatchOption o (joined new nothing_talked ≡ joined over (talked (given (then_left l (λ value. done value)) None) (drop at results)))
    (λ next. joined new (talked (done names) (drop next results)) ≡ joined over (talked (given (then_left l (λ value. done value)) None) (drop at results)))
    → talk_in new ≡ joined over (talked p (drop at results))
finishing over new l p results at o names e h =
    sym (λ i. record { operations = append-nil new.operations.items i; text = append-nil new.text.items i })
    ∙ either o (joined new nothing_talked ≡ joined over (talked (given (then_left l (λ value. done value)) None) (drop at results))) h
    ∙ (λ i. joined over (talked (given (then_left (e i) (λ value. done value)) None) (drop at results)))
    ∙ (λ i. joined over (talked (then_done p i) (drop at results)))

pub none_left : (over : TalkedOver) (begun i : ℕ) (statements : List Statement) (names : Names) (results : List Got) → length statements ≤ i
    → joined over (talked (talks begun [] names) results) ≡ joined over (talked (talks begun (map columns_in (drop i statements)) names) results)
none_left over begun i statements names results le = ap (λ left. joined over (talked (talks begun (map columns_in left) names) results)) (sym (drop_all i statements le))
