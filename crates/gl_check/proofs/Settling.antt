-- How an actor goes on: what it does next, and what comes after its statements.
use Rattle.std.proofs.Common.{◌≡◌, ℕ, ◌+◌, ◌<◌, ◌≤◌, Bool, true, false, List, [], ◌∷◌, ◌++◌, length, map, drop, drop_of_length-le, get_or, None, Some, refl, sym, ap, ◌∙◌, arith}
use Rattle.std.specs.Prelude.{if◌then◌else◌}
use Rattle.std.proofs.lemmas.List.{drop_more, get_or-map, length-map}
use Rattle.gl_base.specs.Words.{Span}
use Rattle.gl_base.specs.declared.operation.Do.{Do}
use Rattle.gl_client.specs.Program.{Goes, Left, Program, ask, done, given, goes_on, print, then_by, then_left, waits}
use Rattle.gl_client.specs.declared.next.Next.TheVariants.{Call, Print}
use Rattle.gl_model.specs.Entries.{begins}
use Rattle.gl_model.specs.declared.call.Call.{Call as CallOf}
use Rattle.gl_script.specs.Columns.{columns}
use Rattle.gl_script.specs.declared.section.Statement.{Statement}
use Rattle.gl_talk.specs.Open.{Names}
use Rattle.gl_talk.specs.Over.{columns_in}
use Rattle.gl_talk.specs.Talk.{does, left, quits, slot_behind}
use Rattle.gl_talk.specs.declared.talk.Talk.{Talk}
use Rattle.gl_core.specs.Device.{OneDeed}
use Rattle.gl_asking.specs.Asking.{asking}
use Rattle.gl_check.specs.Seating.{comes_behind, first_names, left_by}
use Rattle.gl_check.specs.Seats.{Bearing, Seat, answers, called, goes_by, moved, moved_by, seat, settles}
use Rattle.gl_check.specs.declared.stand.Stand.{Stand}
use Rattle.gl_check.specs.declared.stand.Stand.TheVariants.{Ended, Before, Between}

-- what a program does next
pub settles_print : (p : Program Names) (text : List ℕ) (l : Left Names) (b : Bearing) (t : List ℕ) → Goes p (Print text) l → settles (given l None) b (t ++ text) ≡ settles p b t
settles_print p text (goes_on rest) b t is = ap (λ (q : Program Names). settles q b t) (sym is)
settles_print p text (waits rest) b t is = absurd is

pub settles_call : (p : Program Names) (what : Do) (l : Left Names) (b : Bearing) (t : List ℕ) → Goes p (Call what) l
    → goes_by (asking b.files what) what l b t (λ got later. settles (given l (Some got)) later t) ≡ settles p b t
settles_call p what (waits rest) b t is = ap (λ (q : Program Names). settles q b t) (sym is)
settles_call p what (goes_on q) b t is = absurd is

-- nothing comes after
pub then_nothing : {A : Type 0} (p : Program A) → then_by p done ≡ p
then_nothing (done value) = refl
then_nothing (print text p) = ap (print text) (then_nothing p)
then_nothing (ask what p) = λ i. ask what (λ got. then_nothing (p got) i)

-- the words of a statement and of those after it
pub words_from : (statements : List Statement) (n : ℕ) (statement : Statement) → n < length statements → statement ≡ get_or statements n statement
    → drop n (map columns_in statements) ≡ columns_in statement ∷ drop (n + 1) (map columns_in statements)
words_from statements n statement lt is =
    let long = length-map statements columns_in in
    drop_more (map columns_in statements) n (columns_in statement) (omega (arith, lt, long))
    ∙ ap (λ (w : List Span). w ∷ drop (n + 1) (map columns_in statements)) (get_or-map columns_in statements n statement (columns_in statement) lt ∙ ap columns_in (sym is))

pub words_past : (statements : List Statement) (n : ℕ) → length statements ≤ n → drop n (map columns_in statements) ≡ []
words_past statements n most = let long = length-map statements columns_in in drop_of_length-le (map columns_in statements) (omega (arith, most, long))

-- the next statement is begun
pub next_left : (quit : Bool) (statements : List (List Span)) (talk : Talk) (closes : Bool) (begun : ℕ) (names : Names) (words : List Span) → closes ≡ false → talk.begun ≡ begun + 1 → drop begun statements ≡ words ∷ drop (begun + 1) statements
    → left talk ≡ goes_on (does names (slot_behind begun) words) → left_by quit statements talk closes ≡ goes_on (comes_behind closes quit begun (drop begun statements) names)
next_left quit statements talk closes begun names words unclosed counted split is =
    ap (λ (x : Left Names × ℕ × Bool). then_left x.0 (comes_behind x.2 quit x.1 (drop x.1 statements))) (λ i. (is i, counted i, unclosed i))
    ∙ by quit
    ∙ ap (λ (x : List (List Span) × Bool). goes_on (comes_behind x.1 quit begun x.0 names)) (λ i. (sym split i, sym unclosed i))
  where
    by : (b : Bool) → then_left (goes_on (does names (slot_behind begun) words)) (comes_behind false b (begun + 1) (drop (begun + 1) statements)) ≡ goes_on (comes_behind false b begun (words ∷ drop (begun + 1) statements) names)
    by true = refl
    by false = refl

-- the closing of what is open is begun
pub quit_left : (quit : Bool) (statements : List (List Span)) (talk : Talk) (closes before : Bool) (begun : ℕ) (names : Names) → quit ≡ true → closes ≡ true → before ≡ false → drop begun statements ≡ []
    → left talk ≡ goes_on (quits names) → left_by quit statements talk closes ≡ goes_on (comes_behind before quit begun (drop begun statements) names)
quit_left quit statements talk closes before begun names quits_so closing unclosed none is =
    ap (λ (x : Left Names × Bool). then_left x.0 (comes_behind x.1 quit talk.begun (drop talk.begun statements))) (λ i. (is i, closing i))
    ∙ ap goes_on (then_nothing (quits names))
    ∙ ap (λ (x : Bool × Bool × List (List Span)). goes_on (comes_behind x.0 x.1 begun x.2 names)) (λ i. (sym unclosed i, sym quits_so i, sym none i))

-- nothing comes after the last statement
pub none_left : (quit closes : Bool) (begun : ℕ) (statements : List (List Span)) (names : Names) → quit ≡ false → closes ≡ false → drop begun statements ≡ [] → comes_behind closes quit begun (drop begun statements) names ≡ done names
none_left quit closes begun statements names stays unclosed none = ap (λ (x : Bool × Bool × List (List Span)). comes_behind x.0 x.1 begun x.2 names) (λ i. (unclosed i, stays i, none i))

pub closed_left : (quit closes : Bool) (begun : ℕ) (statements : List (List Span)) (names : Names) → closes ≡ true → comes_behind closes quit begun statements names ≡ done names
closed_left quit closes begun statements names closing = ap (λ (c : Bool). comes_behind c quit begun statements names) closing

-- an actor at its beginning
pub started : (quit : Bool) (statements : List (List Span)) (talk : Talk) → left talk ≡ goes_on (done (first_names quit)) → talk.begun ≡ 0
    → given (left_by quit statements talk false) None ≡ comes_behind false quit 0 statements (first_names quit)
started quit statements talk rests new =
    ap (λ (x : Left Names × ℕ). given (then_left x.0 (comes_behind false quit x.1 (drop x.1 statements))) None) (λ i. (rests i, new i))

-- where nothing is left of a statement, what is left comes after it
pub rests_left : (quit : Bool) (statements : List (List Span)) (talk : Talk) (closes : Bool) (names : Names) → left talk ≡ goes_on (done names)
    → left_by quit statements talk closes ≡ goes_on (comes_behind closes quit talk.begun (drop talk.begun statements) names)
rests_left quit statements talk closes names rests = ap (λ (l : Left Names). then_left l (comes_behind closes quit talk.begun (drop talk.begun statements))) rests

-- an entry of an actor's own
pub moved_begun : (s : Seat) (what : Do) (first : CallOf) (d : OneDeed) → s.stand ≡ Before what first → begins d.entry.call d.entry.reply ≡ true → moved s d ≡ seat (Between what first) s.left s.bearing s.text
moved_begun s what first d is begun =
    ap (λ (stand : Stand). moved_by stand s.left s.bearing s.text d) is
    ∙ ap (λ (b : Bool). if b then seat (Between what first) s.left s.bearing s.text else answers what s.left s.bearing s.text d) begun

pub moved_whole : (s : Seat) (what : Do) (first : CallOf) (d : OneDeed) → s.stand ≡ Before what first → begins d.entry.call d.entry.reply ≡ false → moved s d ≡ answers what s.left s.bearing s.text d
moved_whole s what first d is whole =
    ap (λ (stand : Stand). moved_by stand s.left s.bearing s.text d) is
    ∙ ap (λ (b : Bool). if b then seat (Between what first) s.left s.bearing s.text else answers what s.left s.bearing s.text d) whole

pub moved_second : (s : Seat) (what : Do) (first : CallOf) (d : OneDeed) → s.stand ≡ Between what first → moved s d ≡ answers what s.left (called first s.bearing) s.text d
moved_second s what first d is = ap (λ (stand : Stand). moved_by stand s.left s.bearing s.text d) is

pub moved_ended : (s : Seat) (d : OneDeed) → s.stand ≡ Ended → moved s d ≡ s
moved_ended s d is = ap (λ (stand : Stand). moved_by stand s.left s.bearing s.text d) is ∙ ap (λ (stand : Stand). seat stand s.left s.bearing s.text) (sym is)

-- the words of a line and of the statements after it
pub words_line : (statements : List Statement) (n : ℕ) (d : Statement) (line : List ℕ) → n < length statements → line ≡ (get_or statements n d).line.now
    → drop n (map columns_in statements) ≡ columns line ∷ drop (n + 1) (map columns_in statements)
words_line statements n d line lt is =
    let long = length-map statements columns_in in
    drop_more (map columns_in statements) n (columns line) (omega (arith, lt, long))
    ∙ ap (λ (w : List Span). w ∷ drop (n + 1) (map columns_in statements)) (get_or-map columns_in statements n d (columns line) lt ∙ ap columns (sym is))
