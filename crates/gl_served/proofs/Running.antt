-- Programs that are carried out one after another.
use Rattle.std.proofs.Common.{◌≡◌, ℕ, ◌+◌, ◌≤◌, Bool, true, false, cond, List, [], ◌∷◌, ◌++◌, length, map, Option, None, Some, Result, Ok, Err, IfOk, OnErr, OnOk, refl, sym, ◌∙◌, ap, subst, suc, arith, inl, inr, length-append}
use Rattle.std.proofs.lemmas.Bool.{cases_lt, le-ltb, lt-ltb, true≢false}
use Rattle.std.proofs.lemmas.List.{append_assoc, append-nil}
use Rattle.gl_asking.specs.Files.{OpenFile}
use Rattle.gl_asking.specs.Rows.{row_file}
use Rattle.gl_base.specs.declared.errno.Errno.{Errno}
use Rattle.gl_base.specs.declared.operation.Do.{Do}
use Rattle.gl_base.specs.declared.operation.Got.{Got}
use Rattle.gl_client.specs.Program.{Goes, Left, MatchNext, Program, done, print, ask, given, goes_on, then_by, waits}
use Rattle.gl_client.specs.declared.next.Next.{Next}
use Rattle.gl_client.specs.declared.next.Next.TheVariants.{Call, End, Print}
use Rattle.gl_core.specs.Kept.{StandsFor}
use Rattle.gl_script.specs.Columns.{columns}
use Rattle.gl_script.specs.Served.{Statement}
use Rattle.gl_script.specs.declared.served.Stage.{Stage}
use Rattle.gl_talk.specs.Open.{Names, setup_names}
use Rattle.gl_talk.specs.declared.talk.Talk.{Talk}
use Rattle.gl_talk.specs.Talk.{does, left, names_in, says, slot_behind}
use Rattle.gl_check.specs.One.{PlannedPort, Ran, Standing, behind_text, from_plan, performs, run}
use Rattle.gl_served.specs.Alone.{AloneValue, StandsAs, alone_in}
use Rattle.gl_served.specs.Questions.{IsData, IsReply, IsReplyTo, first_got, shown, stands_for}
use Rattle.gl_served.specs.Served.{Accepted, IsAnswer, Keeps, ServedValue, accepted_after, carried_from, carried_out, counted, pair_after, start, stated, text_of}
use Rattle.gl_served.specs.Slots.{lowest_free, pair_behind, slot_of}
use Rattle.gl_served.specs.declared.limits.TheConstants.{PAIRS}
use Rattle.gl_served.specs.UnderWay.{Advances, IsStatementLine, CanAnswer, CanAnswerBy, CarriedOut, HasBegun, HasGone, IsAsBefore, IsLeft, IsSameSession, IsTaken, IsUnderWay, does_behind, first_or, left_by, statement_for, text_shown, told_by}
use Rattle.gl_served.specs.declared.alone.Alone.{Alone}
use Rattle.gl_served.specs.declared.answered.Answer.{Answer}
use Rattle.gl_served.specs.declared.answered.Answer.TheVariants.{Text}
use Rattle.gl_served.specs.declared.under_way.Step.{Step}
use Rattle.gl_served.specs.declared.under_way.Step.TheVariants.{Told, Asks, Prints}
use Rattle.gl_served.specs.declared.under_way.UnderWay.{UnderWay}

texts : {A : Type 0} (a b : List ℕ) (ran : Ran PlannedPort A) → behind_text a (behind_text b ran) ≡ behind_text (a ++ b) ran
texts a b ran = ap (λ (t : List ℕ). record ran { text = t }) (sym (append_assoc a b ran.text))

-- a program, and then another one by what it gives
pub run_then : {A B : Type 0} (p : Program A) (f : A → Program B) (s : Standing PlannedPort)
    → run 0 from_plan (then_by p f) s ≡ behind_text (run 0 from_plan p s).text (run 0 from_plan (f (run 0 from_plan p s).value) (run 0 from_plan p s).behind)
run_then (done value) f s = refl
run_then (print text p) f s = ap (λ ran. behind_text text ran) (run_then p f s) ∙ texts text (run 0 from_plan p s).text (run 0 from_plan (f (run 0 from_plan p s).value) (run 0 from_plan p s).behind)
run_then (ask what p) f s = run_then (p (performs 0 from_plan what s).0) f (performs 0 from_plan what s).1

carried_more : (lines : List (List ℕ)) (line : List ℕ) (count : ℕ) (ran : Ran PlannedPort Names) → carried_from count ran (lines ++ line ∷ []) ≡ stated (count + length lines) (carried_from count ran lines) line
carried_more [] line count ran = let none : count ≡ count + 0 = omega arith in ap (λ (n : ℕ). stated n ran line) none
carried_more (first ∷ lines) line count ran =
    let more : count + 1 + length lines ≡ count + suc (length lines) = omega arith in
    carried_more lines line (count + 1) (stated count ran first) ∙ ap (λ (n : ℕ). stated n (carried_from (count + 1) (stated count ran first) lines) line) more

-- one statement more
pub one_more : (lines : List (List ℕ)) (line : List ℕ) → carried_out (lines ++ line ∷ []) ≡ stated (length lines) (carried_out lines) line
one_more lines line =
    let all : 0 + length lines ≡ length lines = omega arith in
    carried_more lines line 0 (record { text = []; value = setup_names; behind = start }) ∙ ap (λ (n : ℕ). stated n (carried_out lines) line) all

-- statements that have slots of their own are those of a talk
pub carried_says : (lines : List (List ℕ)) (count : ℕ) (ran : Ran PlannedPort Names) → count + length lines ≤ PAIRS
    → carried_from count ran lines ≡ behind_text ran.text (run 0 from_plan (says count (map columns lines) done ran.value) ran.behind)
carried_says [] count ran few = ap (λ (t : List ℕ). record ran { text = t }) (sym (append-nil ran.text))
carried_says (line ∷ lines) count ran few =
    let own : pair_behind count ran.behind.files ≡ Some count = ap (λ b. cond b (Some count) (lowest_free ran.behind.files)) (lt-ltb count PAIRS (omega (arith, few))) in
    let first : Ran PlannedPort Names = run 0 from_plan (does ran.value (slot_behind count) (columns line)) ran.behind in
    let later : Ran PlannedPort Names = run 0 from_plan (says (count + 1) (map columns lines) done first.value) first.behind in
    ap (λ (pair : Option ℕ). carried_from (count + 1) (behind_text ran.text (run 0 from_plan (does ran.value (slot_of pair) (columns line)) ran.behind)) lines) own
    ∙ carried_says lines (count + 1) (behind_text ran.text first) (omega (arith, few))
    ∙ sym (texts ran.text first.text later)
    ∙ ap (λ (r : Ran PlannedPort Names). behind_text ran.text r) (sym (run_then (does ran.value (slot_behind count) (columns line)) (says (count + 1) (map columns lines) done) ran.behind))

-- a count that stands still tells the same pair
pub pair_counted : (count : ℕ) (files : List OpenFile) → pair_behind (counted count) files ≡ pair_behind count files
pair_counted count files = elim (cases_lt count PAIRS) [
  | inl few ↦ (let same : counted count ≡ count = omega (arith, few) in ap (λ (n : ℕ). pair_behind n files) same)
  | inr many ↦
      (let all : counted count ≡ PAIRS = omega (arith, many) in
      ap (λ (n : ℕ). pair_behind n files) all
      ∙ ap (λ b. cond b (Some PAIRS) (lowest_free files)) (le-ltb PAIRS PAIRS (omega arith))
      ∙ sym (ap (λ b. cond b (Some count) (lowest_free files)) (le-ltb count PAIRS many)))
]

-- the pair of the next statement
pub pair_kept : (served : ServedValue) (said : Accepted) → Keeps served said → pair_behind served.count (map row_file served.alone.rows.items) ≡ pair_after said
pair_kept served said keeps =
    ap (λ (n : ℕ). pair_behind n (map row_file served.alone.rows.items)) keeps.count
    ∙ pair_counted (length said.statements) (map row_file served.alone.rows.items)
    ∙ ap (λ (files : List OpenFile). pair_behind (length said.statements) files) keeps.stands.files

first_again : (a b c : Option Got) → first_or a (first_or b c) ≡ first_or (first_or a b) (first_or None c)
first_again None b c = refl
first_again (Some got) b c = refl

first_alone : (a : Option Got) → first_or a (first_or None None) ≡ a
first_alone None = refl
first_alone (Some got) = refl

-- what is left once the talk said what comes next
pub asks_next : (p : Program Names) (what : Do) (left : Left Names) → Goes p (Call what) left → p ≡ left_by left (Asks what)
asks_next p what (goes_on q) goes = absurd goes
asks_next p what (waits rest) goes = goes

pub prints_next : (p : Program Names) (text : List ℕ) (left : Left Names) → Goes p (Print text) left → p ≡ left_by left (Prints text)
prints_next p text (goes_on q) goes = goes
prints_next p text (waits rest) goes = absurd goes

pub ends_next : (p : Program Names) (left : Left Names) (value : Names) → Goes p End left → left ≡ goes_on (done value) → p ≡ left_by left (Told None)
ends_next p left value goes is = subst (λ l. Goes p End l) is goes ∙ ap (λ l. left_by l (Told None)) (sym is)

-- the code stands as it did
pub stands_same : (a b : Alone) (s : Standing PlannedPort) → alone_in b ≡ alone_in a → StandsAs a s → StandsAs b s
stands_same a b s is stands = record {
  world = subst (λ (v : AloneValue). StandsFor v.core s.world) (sym is) stands.world;
  files = ap (λ (v : AloneValue). v.files) is ∙ stands.files;
  source = ap (λ (v : AloneValue). v.port) is ∙ stands.source;
  maps = stands.maps;
}

module _ (p : Program Names) (s : Standing PlannedPort) where
  -- nothing yet
  pub gone_nothing : (left : Left Names) (a : Alone) → StandsAs a s → given left None ≡ p → HasGone p s (Told None) None [] left a
  gone_nothing left a stands is = record { standing = s; stands = stands; runs = ap (λ q. run 0 from_plan q s) (sym is); first_is = ap (λ q. first_got q s) (sym is) }

  -- the same, by other names
  pub gone_as : (step then : Step) (first later : Option Got) (printed text : List ℕ) (left : Left Names) (a : Alone) → then ≡ step → later ≡ first → text ≡ printed
      → HasGone p s step first printed left a → HasGone p s then later text left a
  gone_as step then first later printed text left a steps firsts texts gone =
      subst (λ (st : Step). HasGone p s st later text left a) (sym steps)
      (subst (λ (f : Option Got). HasGone p s step f text left a) (sym firsts) (subst (λ (t : List ℕ). HasGone p s step first t left a) (sym texts) gone))

  -- the talk was told a result, and this comes next
  pub gone_told : (got first : Option Got) (printed : List ℕ) (old new : Left Names) (step : Step) (a b : Alone)
      → HasGone p s (Told got) first printed old a → given old got ≡ left_by new step → told_by step ≡ None → b ≡ a → HasGone p s step (first_or first got) printed new b
  gone_told got first printed old new step a b gone is told same = record {
    standing = gone.standing;
    stands = subst (λ (x : Alone). StandsAs x gone.standing) (sym same) gone.stands;
    runs = gone.runs ∙ ap (λ q. behind_text printed (run 0 from_plan q gone.standing)) is;
    first_is = gone.first_is ∙ ap (λ q. first_or first (first_or got (first_got q gone.standing))) is
        ∙ first_again first got (first_got (left_by new step) gone.standing)
        ∙ ap (λ (t : Option Got). first_or (first_or first got) (first_or t (first_got (left_by new step) gone.standing))) (sym told);
  }

  -- an operation was carried out
  pub gone_done : (what : Do) (got : Got) (first : Option Got) (printed : List ℕ) (left : Left Names) (a b : Alone) (gone : HasGone p s (Asks what) first printed left a)
      → got ≡ (performs 0 from_plan what gone.standing).0 → StandsAs b (performs 0 from_plan what gone.standing).1 → HasGone p s (Told (Some got)) first printed left b
  gone_done what got first printed left a b gone is stands = record {
    standing = (performs 0 from_plan what gone.standing).1;
    stands = stands;
    runs = gone.runs ∙ ap (λ (g : Got). behind_text printed (run 0 from_plan (given left (Some g)) (performs 0 from_plan what gone.standing).1)) (sym is);
    first_is = gone.first_is ∙ ap (λ (g : Got). first_or first (Some g)) (sym is);
  }

  -- a text was printed
  pub gone_printed : (text : List ℕ) (first : Option Got) (printed : List ℕ) (left : Left Names) (a : Alone) → HasGone p s (Prints text) first printed left a
      → HasGone p s (Told None) first (printed ++ text) left a
  gone_printed text first printed left a gone = record {
    standing = gone.standing;
    stands = gone.stands;
    runs = gone.runs ∙ texts printed text (run 0 from_plan (given left None) gone.standing);
    first_is = gone.first_is;
  }

  -- nothing was done
  pub gone_stays : (step : Step) (first : Option Got) (printed : List ℕ) (old new : Left Names) (a b : Alone) → HasGone p s step first printed old a → new ≡ old → alone_in b ≡ alone_in a
      → HasGone p s step first printed new b
  gone_stays step first printed old new a b gone is same =
      subst (λ (l : Left Names). HasGone p s step first printed l b) (sym is)
      (record { standing = gone.standing; stands = stands_same a b gone.standing same gone.stands; runs = gone.runs; first_is = gone.first_is })

-- what a session says with one statement more, by what that was carried out to
pub record Stated (said : Accepted) (line text : List ℕ) (first : Option Got) (b : Alone) (names : Names) : Type 0 where
  pub adds : text_of (accepted_after Statement line said) ≡ text_of said ++ text
  pub names_are : names ≡ (carried_out (said.statements ++ line ∷ [])).value
  pub stands : StandsAs b (carried_out (said.statements ++ line ∷ [])).behind
  pub first_is : first_got (does_behind said line) (carried_out said.statements).behind ≡ first

pub is_carried : (said : Accepted) (line : List ℕ) (step : Step) (first : Option Got) (printed : List ℕ) (left : Left Names) (b : Alone) (names : Names)
    → HasGone (does_behind said line) (carried_out said.statements).behind step first printed left b → left_by left step ≡ done names → told_by step ≡ None → Stated said line printed first b names
is_carried said line step first printed left b names gone ended told =
    let ran : Ran PlannedPort Names = carried_out said.statements in
    let whole : carried_out (said.statements ++ line ∷ []) ≡ behind_text ran.text (behind_text printed (record { text = []; value = names; behind = gone.standing })) =
    one_more said.statements line ∙ ap (λ (r : Ran PlannedPort Names). behind_text ran.text r) (gone.runs ∙ ap (λ q. behind_text printed (run 0 from_plan q gone.standing)) ended) in
    record {
      adds = ap (λ (r : Ran PlannedPort Names). r.text) whole ∙ ap (λ (t : List ℕ). ran.text ++ t) (append-nil printed);
      names_are = ap (λ (r : Ran PlannedPort Names). r.value) (sym whole);
      stands = subst (λ (st : Standing PlannedPort). StandsAs b st) (ap (λ (r : Ran PlannedPort Names). r.behind) (sym whole)) gone.stands;
      first_is = gone.first_is ∙ ap (λ q. first_or first (first_or (told_by step) (first_got q gone.standing))) ended
          ∙ ap (λ (t : Option Got). first_or first (first_or t None)) told ∙ first_alone first;
    }

-- what it is answered
pub is_stated : (reads : Bool) (said : Accepted) (line printed : List ℕ) (first : Option Got) (b : Alone) (names : Names) → Stated said line printed first b names
    → IsTaken reads said line (Ok Statement) Text (text_shown reads first printed) (accepted_after Statement line said)
is_stated false said line printed first b names so = (refl, refl, so.adds)
is_stated true said line printed first b names so =
    (refl, record { extra = printed; after_is = refl; adds = so.adds; shows = ap (λ (f : Option Got). shown f printed) (sym so.first_is) })

-- and how it is kept
pub keeps_more : (served : ServedValue) (said : Accepted) (line printed : List ℕ) (first : Option Got) → served.stage ≡ said.stage → served.count ≡ counted (length said.statements + 1) → served.under_way ≡ None
    → Stated said line printed first served.alone (names_in served.talk) → Keeps served (accepted_after Statement line said)
keeps_more served said line printed first stage count rests so = record {
  stage = stage;
  count = count ∙ ap counted (sym (length-append said.statements (line ∷ [])));
  names = so.names_are;
  stands = so.stands;
  rests = rests;
}

-- a statement that was begun after what was accepted
pub begun_so : (served now : ServedValue) (said : Accepted) (line : List ℕ) (u : UnderWay) (pair : ℕ) → Keeps served said → now.stage ≡ served.stage → now.count ≡ counted (length said.statements + 1) → now.alone ≡ served.alone
    → Some pair ≡ pair_after said → left_by (left now.talk) (Told None) ≡ does (names_in served.talk) (slot_behind pair) (columns line) → u.step ≡ Told None → u.first ≡ None → u.printed.items ≡ [] → HasBegun u now said line
begun_so served now said line u pair keeps stage count alone own is step first printed = record {
  stage = stage ∙ keeps.stage;
  count = count;
  going = gone_as (does_behind said line) (carried_out said.statements).behind (Told None) u.step None u.first [] u.printed.items (left now.talk) now.alone step first printed
      (gone_nothing (does_behind said line) (carried_out said.statements).behind (left now.talk) now.alone
      (subst (λ (a : Alone). StandsAs a (carried_out said.statements).behind) (sym alone) keeps.stands)
      (is ∙ ap (λ (n : Names). does n (slot_behind pair) (columns line)) keeps.names ∙ ap (λ (p : Option ℕ). does (carried_out said.statements).value (slot_of p) (columns line)) own));
}

-- the same session and the same line as before
pub same_session : (a b c : ServedValue) → IsSameSession a b → IsSameSession b c → IsSameSession a c
same_session a b c first then = record { count = then.count ∙ first.count; stage = then.stage ∙ first.stage; under_way = then.under_way ∙ first.under_way }

pub same_line : (a b c : UnderWay) → IsAsBefore a b → IsAsBefore b c → IsAsBefore a c
same_line a b c first then = record { line = then.line ∙ first.line; reads = then.reads ∙ first.reads }

-- where no line is under way any line can be answered
pub keeps_can : (served : ServedValue) (said : Accepted) (line : List ℕ) → Keeps served said → CanAnswer served said line
keeps_can served said line keeps = subst (λ (u : Option UnderWay). CanAnswerBy u served said line) (sym keeps.rests) keeps

-- and where it is left the line itself
pub left_can : (u : Option UnderWay) (given line : List ℕ) (had reads : Bool) (served : ServedValue) (said : Accepted) (statement : List ℕ) → given ≡ line → had ≡ reads → statement ≡ statement_for reads said line → IsStatementLine reads said line
    → IsLeft u given had served said statement → CanAnswerBy u served said line
left_can None given line had reads served said statement same_line same_reads is asked left = absurd left
left_can (Some u) given line had reads served said statement same_line same_reads is asked (line_is, reads_is, has) =
    let by : u.reads ≡ reads = reads_is ∙ same_reads in
    record {
      line_is = line_is ∙ same_line;
      asked = subst (λ (r : Bool). IsStatementLine r said line) (sym by) asked;
      has = subst (λ (r : Bool). HasBegun u served said (statement_for r said line)) (sym by) (subst (λ (l : List ℕ). HasBegun u served said l) is has);
    }

-- what plays no part in what was accepted
pub keeps_as : (served now : ServedValue) (said : Accepted) → Keeps served said → now.stage ≡ served.stage → now.count ≡ served.count → names_in now.talk ≡ names_in served.talk → now.alone ≡ served.alone → now.under_way ≡ served.under_way
    → Keeps now said
keeps_as served now said keeps stage count names alone under_way = record {
  stage = stage ∙ keeps.stage;
  count = count ∙ keeps.count;
  names = names ∙ keeps.names;
  stands = subst (λ (a : Alone). StandsAs a (carried_out said.statements).behind) (sym alone) keeps.stands;
  rests = under_way ∙ keeps.rests;
}

-- a line that was asked is answered as its statement
pub reply_of : (reads : Bool) (said : Accepted) (line : List ℕ) (answer : Answer) (text : List ℕ) (then : Accepted) → IsStatementLine reads said line → IsTaken reads said (statement_for reads said line) (Ok Statement) answer text then
    → IsReply said line answer text then
reply_of false said line answer text then (question, kind) so =
    subst (λ q. IsReplyTo q said line answer text then) (sym question) (subst (λ k. IsAnswer said line k answer text then) (sym kind) so)
reply_of true said line answer text then (question, kind) so =
    subst (λ q. IsReplyTo q said line answer text then) (sym question) (subst (λ k. IsData said (stands_for (carried_out said.statements).value line) k answer text then) (sym kind) so)

pub reply_by : (result : Result Answer Errno) (old new : List ℕ) (now : ServedValue) (said : Accepted) (reads : Bool) (line : List ℕ) → IsStatementLine reads said line
    → IfOk result (λ answer. (text : List ℕ) × (then : Accepted) × (new ≡ old ++ text) × IsTaken reads said (statement_for reads said line) (Ok Statement) answer text then × Keeps now then)
    → IfOk result (λ answer. (text : List ℕ) × (then : Accepted) × (new ≡ old ++ text) × IsReply said line answer text then × Keeps now then)
reply_by (Ok answer) old new now said reads line asked (text, then, is, taken, keeps) = (text, then, is, reply_of reads said line answer text then asked taken, keeps)
reply_by (Err errno) old new now said reads line asked told = tt

-- a line that is under way in a session that stands the same
pub under_way_as : (u : UnderWay) (served now : ServedValue) (said : Accepted) (line : List ℕ) → IsUnderWay u served said line → now.stage ≡ served.stage → now.count ≡ served.count → now.talk ≡ served.talk → now.alone ≡ served.alone
    → IsUnderWay u now said line
under_way_as u served now said line going stage count talk alone = record {
  line_is = going.line_is;
  asked = going.asked;
  has = record {
    stage = stage ∙ going.has.stage;
    count = count ∙ going.has.count;
    going = subst (λ (t : Talk). HasGone (does_behind said (statement_for u.reads said line)) (carried_out said.statements).behind u.step u.first u.printed.items (left t) now.alone) (sym talk)
        (subst (λ (a : Alone). HasGone (does_behind said (statement_for u.reads said line)) (carried_out said.statements).behind u.step u.first u.printed.items (left served.talk) a) (sym alone) going.has.going);
  };
}

-- what holds anyway
pub on_ok_always : {T E X : Type 0} (r : Result T E) → X → OnOk r X
on_ok_always (Ok value) x = x
on_ok_always (Err errno) x = tt

pub on_err_always : {T E X : Type 0} (r : Result T E) → X → OnErr r X
on_err_always (Ok value) x = tt
on_err_always (Err errno) x = x

-- a turn after which there may be more doesn't end
pub never_ends : (X : Type 0) (r : Result Bool Errno) → IfOk r (λ more. more ≡ true) → IfOk r (λ more. more ≡ false → X)
never_ends X (Ok more) goes = λ ends. absurd (true≢false (sym goes ∙ ends))
never_ends X (Err errno) goes = tt

-- a session with another line under way
abbrev pub standing_with : Stage → Talk → ℕ → Alone → Option UnderWay → ServedValue
standing_with stage talk count alone under_way = record { stage = stage; talk = talk; count = count; alone = alone; under_way = under_way }

-- what the talk and the machine say of a turn
pub advanced : (result : Result Next Errno) (before : Left Names) (got : Option Got) (after : Left Names) (names : Names) (begun old : ℕ) → IfOk result (λ next. Goes (given before got) next after) → IfOk result (λ next. MatchNext next (Unit {0}) (after ≡ goes_on (done names)))
    → OnErr result ((after ≡ before) × (begun ≡ old)) → Advances result before got after names
advanced (Ok next) before got after names begun old goes rests kept = (goes, rests)
advanced (Err errno) before got after names begun old goes rests kept = kept.0

pub carried_out_so : (what : Do) (result : Result Got Errno) (a b : Alone) → ((s : Standing PlannedPort) → StandsAs a s → IfOk result (λ got. (got ≡ (performs 0 from_plan what s).0) × StandsAs b (performs 0 from_plan what s).1))
    → OnErr result (alone_in b ≡ alone_in a) → CarriedOut what result a b
carried_out_so what (Ok got) a b so kept = so
carried_out_so what (Err errno) a b so kept = kept
