-- A session over a list of what its driver does runs as it does through a port that tells; and what such a port tells in the end.
use Rattle.std.proofs.Common.{◌≡◌, ℕ, Bool, true, false, List, [], ◌∷◌, ◌++◌, length, map, Option, Some, refl, sym, ap, ◌∙◌, subst}
use Rattle.std.proofs.lemmas.List.{append_assoc, append-nil, map-append}
use Rattle.gl_base.specs.Count.{counted_up}
use Rattle.gl_base.specs.Planned.{planned_call}
use Rattle.gl_base.specs.Rows.{Each}
use Rattle.gl_base.specs.declared.op.Op.{Op}
use Rattle.gl_base.specs.declared.operation.Do.{Do}
use Rattle.gl_base.specs.declared.operation.Got.{Got}
use Rattle.gl_client.specs.Program.{Program, ask, done, print}
use Rattle.gl_driver.specs.Told.{Told, counted_on, counts_for, with_bits, with_plan}
use Rattle.gl_driver.specs.declared.map.Map.{Map}
use Rattle.gl_script.specs.Section.{SaidSection}
use Rattle.gl_script.specs.declared.section.SectionKind.TheVariants.{Setup, Actor, After}
use Rattle.gl_talk.specs.Open.{Names, left_setup, no_names, setup_names}
use Rattle.gl_talk.specs.Talk.{quits, says, talks}
use Rattle.gl_model.specs.World.{opening}
use Rattle.gl_model.specs.declared.device_call.DeviceCall.{DeviceCall}
use Rattle.gl_asking.specs.declared.kinds.Asking.{Asking}
use Rattle.gl_asking.specs.declared.kinds.Asking.TheVariants.{Calls, Plans, Accepts, Refuses}
use Rattle.gl_asking.specs.Driving.{op_asked}
use Rattle.gl_asking.specs.Files.{OpenFile}
use Rattle.gl_check.specs.Drivers.{DriverKind, DriverOver}
use Rattle.gl_check.specs.Joining.{asking_with, no_maps}
use Rattle.gl_check.specs.Lawful.{IsLawfulCall}
use Rattle.gl_check.specs.One.{Answering, DriverAsked, Ran, Standing, TellingPort, answer_in, asked_over, behind_setup, behind_text, came_to, comes_by, entry_count, first_of_list, from_list, from_port, is_asked, map_by, performs, performs_as, run, run_actor, run_after, run_session, run_setup, said_in_kind, steps_of, taken_over, tells_among, told_of, told_over, with_answer, with_entries, world_asked}
use Rattle.gl_check.specs.OnePort.{IsForOperation, OneIsThroughPort, through_port}
use Rattle.gl_check.specs.Tells.{TellsAfter}
use Rattle.gl_check.proofs.Outer.{later_told}

-- the same without the port, with other words on the driver's calls
abbrev bare : List DriverAsked → Standing TellingPort → Standing (List Answering)
bare asked t = record { world = t.world; files = t.files; maps = t.maps; source = t.source.left; took = t.took; asked = asked; entries = t.entries }

abbrev bare_ran : {A : Type 0} → List DriverAsked → Ran TellingPort A → Ran (List Answering) A
bare_ran asked ran = record { text = ran.text; value = ran.value; behind = bare asked ran.behind }

module _ (limit left : ℕ) where
  -- who stands so, and stands so through a port
  abbrev Alike : Standing (List Answering) → Standing TellingPort → Type 0
  Alike s t = (asked : List DriverAsked) × (s ≡ bare asked t)

  answer_alike : (call : DeviceCall) (op : Option Op) (b : Bool) (asked : List DriverAsked) (t : Standing TellingPort) → Alike (with_answer limit from_list call op b (bare asked t)) (with_answer limit from_port call op b t)
  answer_alike call op false asked t = (asked, refl)
  answer_alike call op true asked t = ((with_answer limit from_list call op true (bare asked t)).asked, refl)

  abbrev Same : Got × Standing (List Answering) → Got × Standing TellingPort → Type 0
  Same a b = (asked : List DriverAsked) × (a ≡ (b.0, bare asked b.1))

  performs_alike_as : (a : Asking) (op : Option Op) (what : Do) (asked : List DriverAsked) (t : Standing TellingPort) → Same (performs_as limit from_list a op what (bare asked t)) (performs_as limit from_port a op what t)
  performs_alike_as (Calls call) op what asked t = elim (is_asked t.world call) as (λ b. Same (by_list b) (by_port b)) [ true ↦ ((with_answer limit from_list call op true (bare asked t)).asked, refl) | false ↦ (asked, refl) ]
    where
      by_list : Bool → Got × Standing (List Answering)
      by_list b = came_to limit from_list what (comes_by t.world call (first_of_list t.source.left)) (with_entries (entry_count t.world call (length (first_of_list t.source.left).own)) (with_answer limit from_list call op b (bare asked t)))

      by_port : Bool → Got × Standing TellingPort
      by_port b = came_to limit from_port what (comes_by t.world call (first_of_list t.source.left)) (with_entries (entry_count t.world call (length (first_of_list t.source.left).own)) (with_answer limit from_port call op b t))
  performs_alike_as (Plans nth) op what asked t = (asked, refl)
  performs_alike_as (Accepts bits) op what asked t = (asked, refl)
  performs_alike_as (Refuses errno) op what asked t = (asked, refl)

  performs_alike : (what : Do) (asked : List DriverAsked) (t : Standing TellingPort) → Same (performs limit from_list what (bare asked t)) (performs limit from_port what t)
  performs_alike what asked t = performs_alike_as (asking_with t.maps t.files what) (op_asked t.files what) what asked t

  abbrev RanAlike : {A : Type 0} → Ran (List Answering) A → Ran TellingPort A → Type 0
  RanAlike a b = (asked : List DriverAsked) × (a ≡ bare_ran asked b)

  run_alike : {A : Type 0} (p : Program A) (asked : List DriverAsked) (t : Standing TellingPort) → RanAlike (run limit from_list p (bare asked t)) (run limit from_port p t)
  run_alike (done value) asked t = (asked, refl)
  run_alike (print text p) asked t = let more = run_alike p asked t in (more.0, ap (λ ran. behind_text text ran) more.1)
  run_alike (ask what p) asked t =
      let one = performs_alike what asked t in
      let more = run_alike (p (performs limit from_port what t).0) one.0 (performs limit from_port what t).1 in
      (more.0, ap (λ (x : Got × Standing (List Answering)). run limit from_list (p x.0) x.1) one.1 ∙ more.1)

  -- the three parts, the last one first
  last_alike : (sections : List SaidSection) (first second : Ran TellingPort Names) (asked : List DriverAsked)
      → RanAlike (run_after limit left from_list sections (bare_ran asked first) (bare asked second.behind)) (run_after limit left from_port sections first second.behind)
  last_alike sections first second asked =
      run_alike (says (length (said_in_kind Setup sections)) (said_in_kind After sections) quits (left_setup first.value)) asked (record second.behind { files = first.behind.files })

  behind_alike : (sections : List SaidSection) (first second : Ran TellingPort Names) (asked : List DriverAsked) (ran : Ran (List Answering) Names) → RanAlike ran second
      → RanAlike (behind_text (first.text ++ ran.text) (run_after limit left from_list sections (bare_ran asked first) ran.behind)) (behind_text (first.text ++ second.text) (run_after limit left from_port sections first second.behind))
  behind_alike sections first second asked ran h = let last = last_alike sections first second h.0 in (
    last.0,
    ap (λ (ran : Ran (List Answering) Names). behind_text (first.text ++ ran.text) (run_after limit left from_list sections (bare_ran asked first) ran.behind)) h.1
        ∙ ap (λ (ran : Ran (List Answering) Names). behind_text (first.text ++ second.text) ran) last.1,
  )

  whole_alike : (sections : List SaidSection) (first : Ran TellingPort Names) (asked : List DriverAsked) → RanAlike (behind_setup limit left from_list sections (bare_ran asked first)) (behind_setup limit left from_port sections first)
  whole_alike sections first asked =
      behind_alike sections first (run_actor limit left from_port sections first.behind) asked (run_actor limit left from_list sections (bare asked first.behind))
      (run_alike (talks 0 (said_in_kind Actor sections) no_names) asked (record first.behind { files = [] }))

  parts_alike : (sections : List SaidSection) (ran : Ran (List Answering) Names) (first : Ran TellingPort Names) → RanAlike ran first → RanAlike (behind_setup limit left from_list sections ran) (behind_setup limit left from_port sections first)
  parts_alike sections ran first h = let whole = whole_alike sections first h.0 in (whole.0, ap (λ (ran : Ran (List Answering) Names). behind_setup limit left from_list sections ran) h.1 ∙ whole.1)

  session_alike : (sections : List SaidSection) (given : List Answering) (before : Option Told)
      → RanAlike (run_session limit left from_list sections given) (run_session limit left from_port sections (record { left = given; told = before }))
  session_alike sections given before =
      parts_alike sections (run_setup limit left from_list sections given) (run_setup limit left from_port sections (record { left = given; told = before }))
      (run_alike (says 0 (said_in_kind Setup sections) done setup_names) [] (record { world = opening; files = []; maps = no_maps left; source = record { left = given; told = before }; took = []; asked = []; entries = 0 }))

-- What a session did more, through a port: calls of the driver, and what was taken of what it does; and what the port tells then.
pub record Grown (t u : Standing TellingPort) : Type 0 where
  pub asked : List DriverAsked
  pub took : List Answering
  pub asked_is : u.asked ≡ t.asked ++ asked
  pub took_is : u.took ≡ t.took ++ took
  pub tells : (x : Told) → t.source.told ≡ Some x → Each IsForOperation asked → TellsAfter x (map answer_in took) u.source.told

each_parts : (xs ys : List DriverAsked) → Each IsForOperation (xs ++ ys) → Each IsForOperation xs × Each IsForOperation ys
each_parts [] ys h = (tt, h)
each_parts (x ∷ xs) ys h = let more = each_parts xs ys h.1 in ((h.0, more.0), more.1)

still : (x : Told) (left : Option Told) → left ≡ Some x → TellsAfter x [] left
still x left is = record { told = x; left_is = is; calls = refl; last = refl }

grows_none : (t u : Standing TellingPort) → u.asked ≡ t.asked → u.took ≡ t.took → ((x : Told) → t.source.told ≡ Some x → TellsAfter x [] u.source.told) → Grown t u
grows_none t u asked took tells = record {
  asked = [];
  took = [];
  asked_is = asked ∙ sym (append-nil t.asked);
  took_is = took ∙ sym (append-nil t.took);
  tells = λ x is each. tells x is;
}

grows_on : (t u v : Standing TellingPort) → Grown t u → Grown u v → Grown t v
grows_on t u v a b = record {
  asked = a.asked ++ b.asked;
  took = a.took ++ b.took;
  asked_is = b.asked_is ∙ ap (λ (l : List DriverAsked). l ++ b.asked) a.asked_is ∙ append_assoc t.asked a.asked b.asked;
  took_is = b.took_is ∙ ap (λ (l : List Answering). l ++ b.took) a.took_is ∙ append_assoc t.took a.took b.took;
  tells = λ x is each.
      let parts = each_parts a.asked b.asked each in
      let first = a.tells x is parts.0 in
      subst (λ (l : List (Option ℕ)). TellsAfter x l v.source.told) (sym (map-append answer_in a.took b.took))
      (later_told (map answer_in a.took) (map answer_in b.took) x first.told v.source.told
      (record { told = first.told; left_is = refl; calls = first.calls; last = first.last }) (b.tells first.told first.left_is parts.1));
}

-- one call of the driver
tells_one : (map : Option Map) (op : Option Op) (a : Answering) (x : Told) (before : Option Told) → before ≡ Some x → (o : Op) → op ≡ Some o → TellsAfter x (a.answer ∷ []) (told_of map op a before)
tells_one map op a x before is o op_is =
    let u : Told = record {
      calls = counted_up x.calls;
      counted = counted_on (counts_for map (tells_among a.own)) x.counted;
      plan = x.plan;
      bits = x.bits;
      last = Some (record { op = o; answer = a.answer });
    } in
    record { told = u; left_is = (λ i. told_of map (op_is i) a (is i)); calls = refl; last = refl }

module _ (limit left : ℕ) where
  answer_grows : (call : DeviceCall) (op : Option Op) (b : Bool) (t : Standing TellingPort) → Grown t (with_answer limit from_port call op b t)
  answer_grows call op false t = grows_none t t refl refl (λ x is. still x t.source.told is)
  answer_grows call op true t =
      let by : Option Map = map_by limit t.maps call in
      let a : Answering = first_of_list t.source.left in record {
        asked = record { map = by; op = op; before = t.source.told; did = steps_of (world_asked t.world call) a.own; answer = a.answer } ∷ [];
        took = a ∷ [];
        asked_is = refl;
        took_is = refl;
        tells = λ x is each. tells_one by op a x t.source.told is each.0.0 each.0.1;
      }

  performs_grows : (a : Asking) (op : Option Op) (what : Do) (t : Standing TellingPort) → Grown t (performs_as limit from_port a op what t).1
  performs_grows (Calls call) op what t = let g = answer_grows call op (is_asked t.world call) t in
      record { asked = g.asked; took = g.took; asked_is = g.asked_is; took_is = g.took_is; tells = g.tells }
  performs_grows (Plans nth) op what t = grows_none t (performs_as limit from_port (Plans nth) op what t).1 refl refl
      (λ x is. record { told = record x { plan = planned_call x.counted nth }; left_is = ap (with_plan nth) is; calls = refl; last = refl })
  performs_grows (Accepts bits) op what t = grows_none t (performs_as limit from_port (Accepts bits) op what t).1 refl refl
      (λ x is. record { told = record x { bits = bits }; left_is = ap (with_bits bits) is; calls = refl; last = refl })
  performs_grows (Refuses errno) op what t = grows_none t (performs_as limit from_port (Refuses errno) op what t).1 refl refl (λ x is. still x t.source.told is)

  run_grows : {A : Type 0} (p : Program A) (t : Standing TellingPort) → Grown t (run limit from_port p t).behind
  run_grows (done value) t = grows_none t t refl refl (λ x is. still x t.source.told is)
  run_grows (print text p) t = run_grows p t
  run_grows (ask what p) t =
      let next = performs limit from_port what t in
      grows_on t next.1 (run limit from_port (p next.0) next.1).behind (performs_grows (asking_with t.maps t.files what) (op_asked t.files what) what t) (run_grows (p next.0) next.1)

  -- with other files open
  files_grow : (t : Standing TellingPort) (files : List OpenFile) → Grown t (record t { files = files })
  files_grow t files = grows_none t (record t { files = files }) refl refl (λ x is. still x t.source.told is)

  last_grows : (sections : List SaidSection) (first second : Ran TellingPort Names) → Grown second.behind (run_after limit left from_port sections first second.behind).behind
  last_grows sections first second =
      let begun : Standing TellingPort = record second.behind { files = first.behind.files } in
      grows_on second.behind begun (run_after limit left from_port sections first second.behind).behind (files_grow second.behind first.behind.files)
      (run_grows (says (length (said_in_kind Setup sections)) (said_in_kind After sections) quits (left_setup first.value)) begun)

  actor_grows : (sections : List SaidSection) (u : Standing TellingPort) → Grown u (run_actor limit left from_port sections u).behind
  actor_grows sections u = grows_on u (record u { files = [] }) (run_actor limit left from_port sections u).behind (files_grow u []) (run_grows (talks 0 (said_in_kind Actor sections) no_names) (record u { files = [] }))

  behind_grows : (sections : List SaidSection) (t : Standing TellingPort) (first second : Ran TellingPort Names) → Grown t first.behind → Grown first.behind second.behind → Grown t (run_after limit left from_port sections first second.behind).behind
  behind_grows sections t first second a b =
      grows_on t first.behind (run_after limit left from_port sections first second.behind).behind a (grows_on first.behind second.behind (run_after limit left from_port sections first second.behind).behind b (last_grows sections first second))

  whole_grows : (sections : List SaidSection) (t : Standing TellingPort) (first : Ran TellingPort Names) → Grown t first.behind → Grown t (behind_setup limit left from_port sections first).behind
  whole_grows sections t first a = behind_grows sections t first (run_actor limit left from_port sections first.behind) a (actor_grows sections first.behind)

-- what is told by all that was taken from the beginning on
tells_all : (t : Told) (start end : Standing TellingPort) → Grown start end → start.source.told ≡ Some t → start.asked ≡ [] → start.took ≡ [] → Each IsForOperation end.asked → TellsAfter t (map answer_in end.took) end.source.told
tells_all t start end g is no_asked no_took each =
    subst (λ (l : List Answering). TellsAfter t (map answer_in l) end.source.told) (sym (g.took_is ∙ ap (λ (l : List Answering). l ++ g.took) no_took))
    (g.tells t is (subst (λ (l : List DriverAsked). Each IsForOperation l) (g.asked_is ∙ ap (λ (l : List DriverAsked). l ++ g.asked) no_asked) each))

session_tells : (limit left : ℕ) (sections : List SaidSection) (given : List Answering) (t : Told) → Each IsForOperation (asked_over limit left sections given (Some t))
    → TellsAfter t (map answer_in (through_port limit left sections given (Some t)).behind.took) (told_over limit left sections given (Some t))
session_tells limit left sections given t each =
    let start : Standing TellingPort = record { world = opening; files = []; maps = no_maps left; source = record { left = given; told = Some t }; took = []; asked = []; entries = 0 } in
    tells_all t start (through_port limit left sections given (Some t)).behind
    (whole_grows limit left sections start (run_setup limit left from_port sections (record { left = given; told = Some t })) (run_grows limit left (says 0 (said_in_kind Setup sections) done setup_names) start)) refl refl refl each

pub one_through_port : OneIsThroughPort
one_through_port limit left sections given = record {
  prints = λ before. sym (ap (λ (ran : Ran (List Answering) Names). ran.text) (session_alike limit left sections given before).1);
  takes = takes;
  makes = λ before. sym (ap (λ (ran : Ran (List Answering) Names). ran.behind.entries) (session_alike limit left sections given before).1);
  tells = λ t each. subst (λ (l : List Answering). TellsAfter t (map answer_in l) (told_over limit left sections given (Some t))) (takes (Some t)) (session_tells limit left sections given t each);
}
  where
    takes : (before : Option Told) → (through_port limit left sections given before).behind.took ≡ taken_over limit left sections given
    takes before = sym (ap (λ (ran : Ran (List Answering) Names). ran.behind.took) (session_alike limit left sections given before).1)

-- the calls of a driver that are such as it may make are for operations
for_operations : (driver : DriverKind) (room : ℕ) (asked : List DriverAsked) → Each (IsLawfulCall driver room) asked → Each IsForOperation asked
for_operations driver room [] h = tt
for_operations driver room (a ∷ asked) h = ((h.0.op, h.0.asked_for), for_operations driver room asked h.1)

-- So where they are, a port that told tells just the answers of what the driver did.
pub tells_given : (driver : DriverOver) (room : ℕ) (sections : List SaidSection) (given : List Answering) (before left : Option Told)
    → taken_over driver.kind.limit driver.maps_left sections given ≡ given → Each (IsLawfulCall driver.kind room) (asked_over driver.kind.limit driver.maps_left sections given before)
    → left ≡ told_over driver.kind.limit driver.maps_left sections given before → (t : Told) → before ≡ Some t → TellsAfter t (map answer_in given) left
tells_given driver room sections given before left takes lawful port t is =
    let asked : Each IsForOperation (asked_over driver.kind.limit driver.maps_left sections given (Some t))
    = for_operations driver.kind room (asked_over driver.kind.limit driver.maps_left sections given (Some t))
    (subst (λ (o : Option Told). Each (IsLawfulCall driver.kind room) (asked_over driver.kind.limit driver.maps_left sections given o)) is lawful) in
    subst (λ (l : List Answering). TellsAfter t (map answer_in l) left) takes
    (subst (λ (o : Option Told). TellsAfter t (map answer_in (taken_over driver.kind.limit driver.maps_left sections given)) o) (sym (port ∙ ap (told_over driver.kind.limit driver.maps_left sections given) is))
    ((one_through_port driver.kind.limit driver.maps_left sections given).tells t asked))
