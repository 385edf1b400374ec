-- A session over a planned driver is the same one over the list of the answers that it takes there.
use Rattle.std.proofs.Common.{◌≡◌, ℕ, ◌+◌, Bool, true, false, ◌&&◌, not, cond, List, [], ◌∷◌, ◌++◌, length, map, None, Option, refl, sym, ◌∙◌, ap}
use Rattle.std.proofs.lemmas.Bool.{true≢false}
use Rattle.std.proofs.lemmas.List.{append_assoc, append-nil, map-append}
use Rattle.gl_base.specs.declared.op.Op.{Op}
use Rattle.gl_base.specs.declared.operation.Do.{Do}
use Rattle.gl_base.specs.declared.operation.Got.{Got}
use Rattle.gl_client.specs.Program.{Program, done, print, ask}
use Rattle.gl_asking.specs.Driving.{op_asked}
use Rattle.gl_asking.specs.declared.kinds.Asking.{Asking}
use Rattle.gl_asking.specs.declared.kinds.Asking.TheVariants.{Calls, Plans, Accepts, Refuses}
use Rattle.gl_model.specs.Chips.{phase_at}
use Rattle.gl_model.specs.Parts.{in_ask, in_tell, in_whole, is_driver_asked}
use Rattle.gl_model.specs.Step.{step}
use Rattle.gl_model.specs.World.{World, opening}
use Rattle.gl_model.specs.declared.call.Call.TheVariants.{Refused as RefusedCall}
use Rattle.gl_model.specs.declared.device_call.DeviceCall.{DeviceCall}
use Rattle.gl_model.specs.declared.device_call.DeviceCall.TheVariants.{Once, Removing, Commanding}
use Rattle.gl_script.specs.Section.{SaidSection}
use Rattle.gl_script.specs.declared.section.SectionKind.TheVariants.{Setup, Actor, After}
use Rattle.gl_talk.specs.Open.{Names, left_setup, no_names, setup_names}
use Rattle.gl_talk.specs.Talk.{quits, says, talks}
use Rattle.gl_uapi.specs.Command.{command_of}
use Rattle.gl_check.specs.Joining.{asking_with, no_maps}
use Rattle.gl_check.specs.One.{Answering, PlannedPort, Ran, Standing, answer_in, at_once, behind_setup, behind_text, came_to, comes_by, entry_count, first_of_list, from_list, from_plan, goes_on, is_asked, is_gone, one, performs, performs_as, run, run_actor, run_after, run_session, run_setup, said_in_kind, with_answer, with_entries, world_behind}

picks : {X : Type 0} (asks goes gone : Bool) (x a b y z : X) → (asks && (not gone && goes)) ≡ false → cond gone x (cond asks (cond goes a y) z) ≡ cond gone x (cond asks (cond goes b y) z)
picks asks goes true x a b y z none = refl
picks false goes false x a b y z none = refl
picks true false false x a b y z none = refl
picks true true false x a b y z none = absurd (true≢false none)

-- where the driver isn't asked nothing counts that it would do
no_answer : (w : World) (call : DeviceCall) (a b : Answering) → is_asked w call ≡ false → comes_by w call a ≡ comes_by w call b
no_answer w (Once call) a b none = refl
no_answer w (Removing removal) a b none = refl
no_answer w (Commanding c) a b none =
    picks (is_driver_asked c.of_chip c.len (command_of c.cmd)) (goes_on w (in_ask c)) (is_gone (phase_at w c.place)) (step w 0 (RefusedCall c.place false))
    (step (world_behind (step w 0 (in_ask c)).world a.own) 0 (in_tell a.answer c)) (step (world_behind (step w 0 (in_ask c)).world b.own) 0 (in_tell b.answer c)) (step w 0 (in_ask c)) (step w 0 (in_whole c)) none

no_count : (w : World) (call : DeviceCall) (n m : ℕ) → is_asked w call ≡ false → entry_count w call n ≡ entry_count w call m
no_count w (Once call) n m none = refl
no_count w (Removing removal) n m none = refl
no_count w (Commanding c) n m none = picks (is_driver_asked c.of_chip c.len (command_of c.cmd)) (goes_on w (in_ask c)) (is_gone (phase_at w c.place)) 1 (2 + n) (2 + m) 1 1 none

-- the same standing, over a list
abbrev listed : Standing PlannedPort → List Answering → Standing (List Answering)
listed s given = record { world = s.world; files = s.files; maps = s.maps; source = given; took = s.took; asked = s.asked; entries = s.entries }

abbrev listed_ran : {A : Type 0} → Ran PlannedPort A → List Answering → Ran (List Answering) A
listed_ran ran given = record { text = ran.text; value = ran.value; behind = listed ran.behind given }

-- the answers that an operation takes, and a program
abbrev takes_if : Bool → Option Op → Standing PlannedPort → List (Option ℕ)
takes_if false op s = []
takes_if true op s = (from_plan.next None op s.source).answer ∷ []

abbrev takes_as : Asking → Option Op → Standing PlannedPort → List (Option ℕ)
takes_as (Calls call) op s = takes_if (is_asked s.world call) op s
takes_as (Plans nth) op s = []
takes_as (Accepts bits) op s = []
takes_as (Refuses errno) op s = []

abbrev takes : Do → Standing PlannedPort → List (Option ℕ)
takes what s = takes_as (asking_with s.maps s.files what) (op_asked s.files what) s

abbrev takes_in : {A : Type 0} → Program A → Standing PlannedPort → List (Option ℕ)
takes_in (done value) s = []
takes_in (print text p) s = takes_in p s
takes_in (ask what p) s = takes what s ++ takes_in (p (performs 0 from_plan what s).0) (performs 0 from_plan what s).1

module _ (op : Option Op) (what : Do) (s : Standing PlannedPort) (rest : List Answering) where
  abbrev planned_to : DeviceCall → Bool → Got × Standing PlannedPort
  planned_to call asks = came_to 0 from_plan what (comes_by s.world call (from_plan.next None op s.source)) (with_entries (entry_count s.world call 0) (with_answer 0 from_plan call op asks s))

  called : (call : DeviceCall) (asks : Bool) → is_asked s.world call ≡ asks → let given = map at_once (takes_if asks op s) ++ rest in
      came_to 0 from_list what (comes_by s.world call (first_of_list given)) (with_entries (entry_count s.world call (length (first_of_list given).own)) (with_answer 0 from_list call op asks (listed s given)))
      ≡ ((planned_to call asks).0, listed (planned_to call asks).1 rest)
  called call true is = refl
  called call false is = λ i. came_to 0 from_list what (no_answer s.world call (first_of_list rest) (from_plan.next None op s.source) is i)
      (with_entries (no_count s.world call (length (first_of_list rest).own) 0 is i) (listed s rest))

  performed : (kind : Asking) → performs_as 0 from_list kind op what (listed s (map at_once (takes_as kind op s) ++ rest)) ≡ ((performs_as 0 from_plan kind op what s).0, listed (performs_as 0 from_plan kind op what s).1 rest)
  performed (Calls call) = called call (is_asked s.world call) refl
  performed (Plans nth) = refl
  performed (Accepts bits) = refl
  performed (Refuses errno) = refl

  took_if : (call : DeviceCall) (asks : Bool) → (with_answer 0 from_plan call op asks s).took ≡ s.took ++ map at_once (takes_if asks op s)
  took_if call true = refl
  took_if call false = sym (append-nil s.took)

  took_as : (kind : Asking) → (performs_as 0 from_plan kind op what s).1.took ≡ s.took ++ map at_once (takes_as kind op s)
  took_as (Calls call) = took_if call (is_asked s.world call)
  took_as (Plans nth) = sym (append-nil s.took)
  took_as (Accepts bits) = sym (append-nil s.took)
  took_as (Refuses errno) = sym (append-nil s.took)

-- a program over the list of what it takes
lists : {A : Type 0} (p : Program A) (s : Standing PlannedPort) (rest : List Answering) → run 0 from_list p (listed s (map at_once (takes_in p s) ++ rest)) ≡ listed_ran (run 0 from_plan p s) rest
lists (done value) s rest = refl
lists (print text p) s rest = ap (λ ran. behind_text text ran) (lists p s rest)
lists (ask what p) s rest =
    let later = takes_in (p (performs 0 from_plan what s).0) (performs 0 from_plan what s).1 in
    ap (λ (l : List Answering). run 0 from_list (ask what p) (listed s l))
    (ap (λ (l : List Answering). l ++ rest) (map-append at_once (takes what s) later) ∙ append_assoc (map at_once (takes what s)) (map at_once later) rest)
    ∙ ap (λ (r : Got × Standing (List Answering)). run 0 from_list (p r.0) r.1) (performed (op_asked s.files what) what s (map at_once later ++ rest) (asking_with s.maps s.files what))
    ∙ lists (p (performs 0 from_plan what s).0) (performs 0 from_plan what s).1 rest

took_in : {A : Type 0} (p : Program A) (s : Standing PlannedPort) → (run 0 from_plan p s).behind.took ≡ s.took ++ map at_once (takes_in p s)
took_in (done value) s = sym (append-nil s.took)
took_in (print text p) s = took_in p s
took_in (ask what p) s =
    let later = takes_in (p (performs 0 from_plan what s).0) (performs 0 from_plan what s).1 in
    took_in (p (performs 0 from_plan what s).0) (performs 0 from_plan what s).1
    ∙ ap (λ (l : List Answering). l ++ map at_once later) (took_as (op_asked s.files what) what s [] (asking_with s.maps s.files what))
    ∙ append_assoc s.took (map at_once (takes what s)) (map at_once later)
    ∙ ap (λ (l : List Answering). s.took ++ l) (sym (map-append at_once (takes what s) later))

answers_of : (answers : List (Option ℕ)) → map answer_in (map at_once answers) ≡ answers
answers_of [] = refl
answers_of (answer ∷ answers) = ap (λ (l : List (Option ℕ)). answer ∷ l) (answers_of answers)

three_mapped : (a b c : List (Option ℕ)) → map at_once (a ++ (b ++ c)) ≡ map at_once a ++ (map at_once b ++ map at_once c)
three_mapped a b c = map-append at_once a (b ++ c) ∙ ap (λ (l : List Answering). map at_once a ++ l) (map-append at_once b c)

-- and a whole session
pub planned_is_one : (sections : List SaidSection) (source : PlannedPort) → (run_session 0 0 from_plan sections source).text ≡ one sections (map answer_in (run_session 0 0 from_plan sections source).behind.took)
planned_is_one sections source =
    let first : Ran PlannedPort Names = run_setup 0 0 from_plan sections source in
    let actor : Ran PlannedPort Names = run_actor 0 0 from_plan sections first.behind in
    let last : Ran PlannedPort Names = run_after 0 0 from_plan sections first actor.behind in
    let by_setup = takes_in (says 0 (said_in_kind Setup sections) done setup_names) (record { world = opening; files = []; maps = no_maps 0; source = source; took = []; asked = []; entries = 0 }) in
    let by_actor = takes_in (talks 0 (said_in_kind Actor sections) no_names) (record first.behind { files = [] }) in
    let by_after = takes_in (says (length (said_in_kind Setup sections)) (said_in_kind After sections) quits (left_setup first.value)) (record actor.behind { files = first.behind.files }) in
    let given : List Answering = map at_once by_setup ++ (map at_once by_actor ++ (map at_once by_after ++ [])) in
    let listed_first : run_setup 0 0 from_list sections given ≡ listed_ran first (map at_once by_actor ++ (map at_once by_after ++ [])) =
    lists (says 0 (said_in_kind Setup sections) done setup_names) (record { world = opening; files = []; maps = no_maps 0; source = source; took = []; asked = []; entries = 0 }) (map at_once by_actor ++ (map at_once by_after ++ [])) in
    let listed_actor : run_actor 0 0 from_list sections (listed first.behind (map at_once by_actor ++ (map at_once by_after ++ []))) ≡ listed_ran actor (map at_once by_after ++ []) =
    lists (talks 0 (said_in_kind Actor sections) no_names) (record first.behind { files = [] }) (map at_once by_after ++ []) in
    let listed_last : run_after 0 0 from_list sections (listed_ran first (map at_once by_actor ++ (map at_once by_after ++ []))) (listed actor.behind (map at_once by_after ++ [])) ≡ listed_ran last [] =
    lists (says (length (said_in_kind Setup sections)) (said_in_kind After sections) quits (left_setup first.value)) (record actor.behind { files = first.behind.files }) [] in
    let whole : (run_session 0 0 from_list sections given).text ≡ (first.text ++ actor.text) ++ last.text =
    ap (λ (setup : Ran (List Answering) Names). (behind_setup 0 0 from_list sections setup).text) listed_first
    ∙ ap (λ (a : Ran (List Answering) Names). (first.text ++ a.text) ++ (run_after 0 0 from_list sections (listed_ran first (map at_once by_actor ++ (map at_once by_after ++ []))) a.behind).text) listed_actor
    ∙ ap (λ (l : Ran (List Answering) Names). (first.text ++ actor.text) ++ l.text) listed_last in
    let took : (run_session 0 0 from_plan sections source).behind.took ≡ map at_once (by_setup ++ (by_actor ++ by_after)) =
    took_in (says (length (said_in_kind Setup sections)) (said_in_kind After sections) quits (left_setup first.value)) (record actor.behind { files = first.behind.files })
    ∙ ap (λ (l : List Answering). l ++ map at_once by_after) (took_in (talks 0 (said_in_kind Actor sections) no_names) (record first.behind { files = [] }))
    ∙ ap (λ (l : List Answering). (l ++ map at_once by_actor) ++ map at_once by_after) (took_in (says 0 (said_in_kind Setup sections) done setup_names) (record { world = opening; files = []; maps = no_maps 0; source = source; took = []; asked = []; entries = 0 }))
    ∙ append_assoc (map at_once by_setup) (map at_once by_actor) (map at_once by_after)
    ∙ sym (three_mapped by_setup by_actor by_after) in
    let answers : map answer_in (run_session 0 0 from_plan sections source).behind.took ≡ by_setup ++ (by_actor ++ by_after) = ap (λ (l : List Answering). map answer_in l) took ∙ answers_of (by_setup ++ (by_actor ++ by_after)) in
    let same : map at_once (by_setup ++ (by_actor ++ by_after)) ≡ given =
    three_mapped by_setup by_actor by_after ∙ ap (λ (l : List Answering). map at_once by_setup ++ (map at_once by_actor ++ l)) (sym (append-nil (map at_once by_after))) in
    sym (ap (λ (l : List (Option ℕ)). one sections l) answers ∙ ap (λ (l : List Answering). (run_session 0 0 from_list sections l).text) same ∙ whole)
