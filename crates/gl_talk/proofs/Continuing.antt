-- Steps of a part, and of a result.
use Rattle.std.proofs.Common.{◌≡◌, ℕ, List, [], ◌∷◌, ◌++◌, map, Option, None, Some, Result, Ok, Err, IfOk, OnOk, sym, ◌∙◌, ap, subst, refl}
use Rattle.gl_base.specs.declared.errno.Errno.{Errno}
use Rattle.gl_base.specs.declared.operation.Got.{Got}
use Rattle.gl_client.specs.declared.next.Next.{Next}
use Rattle.gl_client.specs.declared.next.Next.TheVariants.{Call, Print, End}
use Rattle.gl_client.specs.Program.{Program, done, Left, goes_on, waits, then_left, given, Goes, MatchNext}
use Rattle.gl_client.proofs.Programs.{goes_in_part, given_then}
use Rattle.gl_monitor.specs.declared.monitor.Monitor.{Monitor}
use Rattle.gl_monitor.specs.Monitor.{Watched, monitor_left}
use Rattle.gl_base.specs.Words.{Span, text_at}
use Rattle.gl_script.specs.Table.{keyword_of}
use Rattle.gl_talk.specs.Open.{Names}
use Rattle.gl_talk.specs.Talk.{does, does_by, shows, some_left}
use Rattle.gl_talk.specs.ToolWords.{kind_of}
use Rattle.gl_talk.specs.declared.tools.StatementKind.{StatementKind}

-- a part of a program makes its step
pub part_step : {A B : Type 0} (l rest : Left A) (f : A → Program B) (got : Option Got) (next : Next) → Goes (given l got) next rest
    → MatchNext next (Goes (given (then_left l f) got) next (then_left rest f)) ((value : A) × (rest ≡ goes_on (done value)) × (given (then_left l f) got ≡ f value))
part_step l rest f got (Call what) h = subst (λ p. Goes p (Call what) (then_left rest f)) (sym (given_then l f got)) (goes_in_part (given l got) (Call what) rest f h)
part_step l rest f got (Print text) h = subst (λ p. Goes p (Print text) (then_left rest f)) (sym (given_then l f got)) (goes_in_part (given l got) (Print text) rest f h)
part_step l rest f got End h =
    let e = goes_in_part (given l got) End rest f h in
    (e.0, e.1, given_then l f got ∙ e.2)

same_end : {A : Type 0} (a b : A) → goes_on (done a) ≡ goes_on (done b) → a ≡ b
same_end a b e = cc

-- a part that has come to its end gives this value, and the whole goes on by it
pub part_end : {A B : Type 0} (l rest : Left A) (f : A → Program B) (got : Option Got) (value : A) → Goes (given l got) End rest → rest ≡ goes_on (done value)
    → given (then_left l f) got ≡ f value
part_end l rest f got value h e =
    let s = part_step l rest f got End h in
    s.2 ∙ ap f (same_end s.0 value (sym s.1 ∙ e))

-- a step of a part is one of the whole, and at its end the whole goes on by what is there then
whole_at : {A B : Type 0} (next : Next) (l rest : Left A) (f : A → Program B) (got : Option Got) (value : A) → Goes (given l got) next rest
    → MatchNext next (Unit {0}) (rest ≡ goes_on (done value)) → MatchNext next (Goes (given (then_left l f) got) next (then_left rest f)) (given (then_left l f) got ≡ f value)
whole_at (Call what) l rest f got value g r = part_step l rest f got (Call what) g
whole_at (Print text) l rest f got value g r = part_step l rest f got (Print text) g
whole_at End l rest f got value g r = part_end l rest f got value g r

pub whole_step : {A B : Type 0} (result : Result Next Errno) (l rest : Left A) (f : ℕ → A → Program B) (n m : ℕ) (got : Option Got) (value : A) → IfOk result (λ next. Goes (given l got) next rest)
    → IfOk result (λ next. MatchNext next (Unit {0}) (rest ≡ goes_on (done value))) → OnOk result (m ≡ n)
    → IfOk result (λ next. MatchNext next (Goes (given (then_left l (f n)) got) next (then_left rest (f m))) (given (then_left l (f n)) got ≡ f m value))
whole_step (Ok next) l rest f n m got value g r e =
    subst (λ k. MatchNext next (Goes (given (then_left l (f n)) got) next (then_left rest (f k))) (given (then_left l (f n)) got ≡ f k value)) (sym e) (whole_at next l rest (f n) got value g r)
whole_step (Err fault) l rest f n m got value g r e = tt

-- a monitor that is there makes its step
pub monitor_step : {B : Type 0} (o : Option Monitor) (m : Monitor) (rest : Left Watched) (f : Watched → Program B) (got : Option Got) (next : Next) → o ≡ Some m → Goes (given (monitor_left m) got) next rest
    → MatchNext next (Goes (given (then_left (some_left o) f) got) next (then_left rest f)) (Unit {0})
monitor_step o m rest f got (Call what) e h =
    subst (λ x. Goes (given (then_left (some_left x) f) got) (Call what) (then_left rest f)) (sym e) (part_step (monitor_left m) rest f got (Call what) h)
monitor_step o m rest f got (Print text) e h =
    subst (λ x. Goes (given (then_left (some_left x) f) got) (Print text) (then_left rest f)) (sym e) (part_step (monitor_left m) rest f got (Print text) h)
monitor_step o m rest f got End e h = tt

-- the same text and the same names
pub shows_same : (text same : List ℕ) (names those : Names) (next : Next) (l : Left Names) → text ≡ same → names ≡ those
    → Goes (shows text names) next l → Goes (shows same those) next l
shows_same text same names those next l e f h =
    subst (λ t. Goes (shows t those) next l) e (subst (λ ns. Goes (shows text ns) next l) f h)

-- what is true of each value that a result may hold
pub if_ok : {A E : Type 0} (result : Result A E) (P Q : A → Type 0) → ((value : A) → P value → Q value) → IfOk result P → IfOk result Q
if_ok (Ok value) P Q f h = f value h
if_ok (Err fault) P Q f h = h

-- what is true where a result is Ok
pub on_ok : {A E : Type 0} (result : Result A E) (P Q : Type 0) → (P → Q) → OnOk result P → OnOk result Q
on_ok (Ok value) P Q f h = f h
on_ok (Err fault) P Q f h = h

-- the same whatever the result is
pub any_result : {A : Type 0} (p : Program A) (got : Option Got) (next : Next) (rest : Left A) → Goes p next rest → Goes (given (waits (λ _. p)) got) next rest
any_result p None next rest h = h
any_result p (Some got) next rest h = h

-- a row is added
pub row_added : {Row Item : Type 0} (meaning : Row → Item) (rows : List Row) (row : Row) → map meaning (rows ++ row ∷ []) ≡ map meaning rows ++ meaning row ∷ []
row_added meaning [] row = refl
row_added meaning (first ∷ rows) row = ap (λ items. meaning first ∷ items) (row_added meaning rows row)

-- what a statement does, by its kind
pub started : (kind : StatementKind) (names : Names) (slot : ℕ) (words : List Span) (next : Next) (rest : Left Names) → kind_of (keyword_of (text_at 0 words)) ≡ kind
    → Goes (does_by kind names slot words) next rest → Goes (does names slot words) next rest
started kind names slot words next rest is h = subst (λ k. Goes (does_by k names slot words) next rest) (sym is) h
