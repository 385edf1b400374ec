-- A session that one actor alone carried out, from its turns: what it printed is what One prints over the answers of the driver,
-- wherever One's answers come from.
use Rattle.std.proofs.Common.{◌≡◌, ◌⊎◌, inl, inr, ℕ, zero, suc, ◌+◌, Bool, true, false, List, [], ◌∷◌, ◌++◌, length, length-append, map, Option, None, Some, IfSome, refl, sym, ap, ◌∙◌, subst, arith}
use Rattle.std.specs.Prelude.{if◌then◌else◌, is_some, ◌&&◌}
use Rattle.std.proofs.lemmas.Bool.{true≢false}
use Rattle.std.proofs.lemmas.List.{append_assoc, append-nil, map-append}
use Rattle.gl_base.specs.Count.{counted_up}
use Rattle.gl_base.specs.Planned.{planned_answer, planned_call}
use Rattle.gl_base.specs.Rows.{Each}
use Rattle.gl_base.specs.declared.operation.Do.{Do}
use Rattle.gl_base.specs.declared.operation.Do.TheVariants.{Aggregate}
use Rattle.gl_base.specs.declared.operation.Got.{Got}
use Rattle.gl_world.specs.Deeds.{deeds_of, entries_in}
use Rattle.gl_world.specs.History.{Answered, Placed}
use Rattle.gl_world.specs.Laws.{Laws}
use Rattle.gl_world.proofs.Deeds.{entries_in_append}
use Rattle.gl_client.specs.Chips.{AsksNoChips, IsPlain}
use Rattle.gl_client.specs.Program.{Program, ask, done, print}
use Rattle.gl_core.specs.Kept.{StandsFor}
use Rattle.gl_driver.specs.Maps.{map_at, map_for}
use Rattle.gl_driver.specs.Told.{Told, counts_for, planned_for, with_bits, with_call, with_call_counting, with_plan}
use Rattle.gl_driver.specs.declared.map.Map.{Map}
use Rattle.gl_base.specs.declared.op.Op.{Op}
use Rattle.gl_model.specs.declared.reply.Reply.{Reply}
use Rattle.gl_model.specs.declared.reply.Reply.TheVariants.{Done as DoneReply, Refused as RefusedReply}
use Rattle.gl_uapi.specs.Command.{command_of}
use Rattle.gl_model.specs.Entries.{begins, guarded_place, last_call}
use Rattle.gl_model.specs.Parts.{Makes, MakesAt, MakesCommand, MakesRest, MakesTwo, first_call, in_ask, in_tell, is_driver_asked}
use Rattle.gl_model.specs.declared.call.Call.{Call}
use Rattle.gl_model.specs.declared.device_call.CommandIn.{CommandIn}
use Rattle.gl_model.specs.declared.device_call.DeviceCall.{DeviceCall}
use Rattle.gl_model.specs.declared.device_call.DeviceCall.TheVariants.{Once, Removing, Commanding}
use Rattle.gl_model.specs.declared.device_call.RemovalOf.{RemovalOf}
use Rattle.gl_model.specs.declared.device_call.RemovalOf.TheVariants.{OfChip, OfDevice}
use Rattle.gl_model.specs.World.{World, opening}
use Rattle.gl_model.proofs.MachineLaws.{machine_laws}
use Rattle.gl_script.specs.Cost.{has_aggregate, session_cost}
use Rattle.gl_script.specs.Section.{SaidSection}
use Rattle.gl_script.specs.declared.section.SectionKind.TheVariants.{Setup, After}
use Rattle.gl_talk.specs.Open.{Names, left_setup}
use Rattle.gl_talk.specs.Talk.{quits, says}
use Rattle.gl_core.specs.Device.{MayOwn, OneDeed, OneEntry, call_tells, core, tells_in}
use Rattle.gl_session.specs.Alone.{AnswersAsPlanned, AsksLawfully, IsAlone, KeepsNoMaps, Part, PlayedSession, PortTells, PrintsOne, PrintsOver, answering_in, begins_asked, calls_in, given_by, given_in, given_of, is_command}
use Rattle.gl_check.specs.Drivers.{DriverKind, DriverOver, Gives, MayMake, start_maps}
use Rattle.gl_check.specs.Joining.{Maps, asking_with, maps_behind, no_maps}
use Rattle.gl_check.specs.Lawful.{GivesWithin, IsLawfulCall, IsLetInOrRefused, deed_of}
use Rattle.gl_check.specs.Tells.{TellsAfter, answered_last, calls_after, last_or}
use Rattle.gl_asking.specs.declared.kinds.Asking.{Asking}
use Rattle.gl_asking.specs.declared.kinds.Asking.TheVariants.{Calls, Plans, Accepts, Refuses}
use Rattle.gl_asking.specs.Asking.{files_behind, got_of}
use Rattle.gl_asking.specs.Driving.{op_asked}
use Rattle.gl_asking.specs.Files.{OpenFile}
use Rattle.gl_check.specs.One.{Answering, Answers, DriverAsked, PlannedPort, Ran, Standing, StepDone, TellingPort, answer_in, at_once, bits_asked, came_to, comes_by, entries_over, entry_count, first_of_list, from_list, from_plan, from_port, is_asked, map_by, one_over, performs, performs_as, rest_of_list, run, run_actor, run_session, run_setup, said_in_kind, steps_of, taken_over, told_behind, told_of, told_over, with_answer, with_entries, world_asked}
use Rattle.gl_check.specs.Programs.{actor_of, after_of, setup_of}
use Rattle.gl_check.specs.Turns.{AreSeen, Carried, Carries, Did, DidNothing, Exchange, Follows, HasMade, IsDone, PortBy, Said, Turn, WasAsked, WhereMapped, carried, did_by, is_begun, map_of, said_by, was_asked}
use Rattle.gl_check.proofs.Asked.{unmapped}
use Rattle.gl_check.proofs.Joined.{no_maps_behind}
use Rattle.gl_chip.proofs.Telling.{once_tells, removal_tells}
use Rattle.gl_session.proofs.Mapped.{each_more}
use Rattle.gl_session.proofs.NoChips.{Bare, KeepsNone, asks_none, bare_behind, bare_first, bare_keeps, keeps_on, none_kept}
use Rattle.gl_session.proofs.OneCalls.{Came, Comes, comes, inner_steps, single_is_plain, tells_ended}
use Rattle.gl_session.proofs.OneHistories.{IsSteady, Rest, length_entries}

laws : Laws core
laws = machine_laws StandsFor

-- the answers that deeds tell
abbrev told_by : List OneDeed → List (Option ℕ)
told_by did = tells_in (entries_in did)

pub tells_append : (first later : List OneEntry) → tells_in (first ++ later) ≡ tells_in first ++ tells_in later
tells_append [] later = refl
tells_append (e ∷ first) later = ap (λ l. call_tells e.call ++ l) (tells_append first later) ∙ sym (append_assoc (call_tells e.call) (tells_in first) (tells_in later))

pub told_append : (first later : List OneDeed) → told_by (first ++ later) ≡ told_by first ++ told_by later
told_append first later = ap (λ (l : List OneEntry). tells_in l) (entries_in_append first later) ∙ tells_append (entries_in first) (entries_in later)

abbrev reply_or : Reply → Option Reply → Reply
reply_or d (Some reply) = reply
reply_or d None = d

-- What the driver did in an exchange, by whether it was asked

-- a call's entries begin with an ask that was answered Go just where the driver was asked
commanded_so : (n : ℕ) (answer : Option ℕ) (own made : List OneEntry) (c : CommandIn) (closed : Bool) → MakesAt n (Some c.place) closed (Commanding c) answer own made → begins_asked made ≡ is_begun made
commanded_so n answer own made c true makes = ap (λ (l : List OneEntry). begins_asked l) makes.0 ∙ sym (ap (λ (l : List OneEntry). is_begun l) makes.0)
commanded_so n answer own made c false makes = by (is_driver_asked c.of_chip c.len (command_of c.cmd)) makes
  where
    by : (asks : Bool) → MakesCommand n asks answer c own made → begins_asked made ≡ is_begun made
    by false m = ap (λ (l : List OneEntry). begins_asked l) m.0.1 ∙ sym (ap (λ (l : List OneEntry). is_begun l) m.0.1)
    by true m = ap (λ (l : List OneEntry). begins_asked l) m.2 ∙ sym (ap (λ (l : List OneEntry). is_begun l) m.2)

unasked_once : (n : ℕ) (call : Call) (guard : Option ℕ) (closed : Bool) (answer : Option ℕ) (own made : List OneEntry) → is_command call ≡ false → MakesAt n guard closed (Once call) answer own made → begins_asked made ≡ false
unasked_once n call None closed answer own made none makes = ap (λ (l : List OneEntry). begins_asked l) makes.0.1 ∙ ap (λ (b : Bool). b && begins call makes.0.0) none
unasked_once n call (Some place) false answer own made none makes = ap (λ (l : List OneEntry). begins_asked l) makes.0.1 ∙ ap (λ (b : Bool). b && begins call makes.0.0) none
unasked_once n call (Some place) true answer own made none makes = ap (λ (l : List OneEntry). begins_asked l) makes.0

unasked_removal : (n : ℕ) (removal : RemovalOf) (made : List OneEntry) → MakesTwo n (first_call removal) (last_call (first_call removal)) [] made → begins_asked made ≡ false
unasked_removal n (OfChip place) made makes = ap (λ (l : List OneEntry). begins_asked l) makes.2
unasked_removal n (OfDevice device) made makes = ap (λ (l : List OneEntry). begins_asked l) makes.2

asked_so : (n : ℕ) (call : DeviceCall) (closed : Bool) (answer : Option ℕ) (own made : List OneEntry) → Makes n closed call answer own made → begins_asked made ≡ was_asked call made
asked_so n (Once call) closed answer own made makes = unasked_once n call (guarded_place call) closed answer own made (single_is_plain call makes.0).is_none makes.1
asked_so n (Removing removal) closed answer own made makes = unasked_removal n removal made makes.1.0
asked_so n (Commanding c) closed answer own made makes = commanded_so n answer own made c closed makes.1

-- where it made none of its own, the answers are those that the entries tell
abbrev told_if : Bool → Option ℕ → List (Option ℕ)
told_if b answer = if b then answer ∷ [] else []

command_tells : (n : ℕ) (answer : Option ℕ) (made : List OneEntry) (c : CommandIn) (closed : Bool) → MakesAt n (Some c.place) closed (Commanding c) answer [] made → tells_in made ≡ told_if (is_begun made) answer
command_tells n answer made c true makes = ap (λ (l : List OneEntry). tells_in l) makes.0 ∙ sym (ap (λ (l : List OneEntry). told_if (is_begun l) answer) makes.0)
command_tells n answer made c false makes = by (is_driver_asked c.of_chip c.len (command_of c.cmd)) makes
  where
    rest_tells : (goes : Bool) (rest : List OneEntry) → MakesRest n goes (in_tell answer c) [] rest → tells_in rest ≡ told_if goes answer
    rest_tells false rest m = ap (λ (l : List OneEntry). tells_in l) m.0
    rest_tells true rest m = ap (λ (l : List OneEntry). tells_in l) m.1

    by : (asks : Bool) → MakesCommand n asks answer c [] made → tells_in made ≡ told_if (is_begun made) answer
    by false m = ap (λ (l : List OneEntry). tells_in l) m.0.1 ∙ sym (ap (λ (l : List OneEntry). told_if (is_begun l) answer) m.0.1)
    by true m = ap (λ (l : List OneEntry). tells_in l) m.2 ∙ rest_tells (begins (in_ask c) m.0) m.1 m.3 ∙ sym (ap (λ (l : List OneEntry). told_if (is_begun l) answer) m.2)

tells_so : (n : ℕ) (call : DeviceCall) (closed : Bool) (answer : Option ℕ) (made : List OneEntry) → Makes n closed call answer [] made → tells_in made ≡ told_if (was_asked call made) answer
tells_so n (Once call) closed answer made makes = once_tells n closed call answer [] made makes
tells_so n (Removing removal) closed answer made makes = removal_tells n closed removal answer [] made makes
tells_so n (Commanding c) closed answer made makes = command_tells n answer made c closed makes.1

given_none : (e : Exchange) → e.did ≡ [] → given_in e ≡ []
given_none e none = ap (λ (l : List OneDeed). if begins_asked (entries_in l) then answering_in e ∷ [] else []) none

given_nothing : (e : Exchange) → e.did ≡ [] → given_in e ≡ map at_once (told_by e.did)
given_nothing e none = given_none e none ∙ ap (λ (l : List OneDeed). map at_once (told_by l)) (sym none)

given_if : (b : Bool) (e : Exchange) → e.own ≡ [] → (if b then answering_in e ∷ [] else []) ≡ map at_once (told_if b e.answer)
given_if true e none = ap (λ (own : List OneEntry). record { own = calls_in own; answer = e.answer } ∷ []) none
given_if false e none = refl

module _ (driver : DriverKind) where
  given_plainly : (m : Maps) → m.kept ≡ [] → (a : Asking) (op : Option Op) (e : Exchange) (before after : Option Told) → IsDone driver 0 m a op e before after → given_in e ≡ map at_once (told_by e.did)
  given_plainly m bare (Calls call) op e before after is =
      let u = unmapped driver 0 op e before after m bare call is in let made : List OneEntry = entries_in e.did in
      ap (λ (b : Bool). if b then answering_in e ∷ [] else []) (asked_so 0 call e.closed e.answer [] made u.makes) ∙ given_if (was_asked call made) e u.own
      ∙ ap (λ (l : List (Option ℕ)). map at_once l) (sym (tells_so 0 call e.closed e.answer made u.makes))
  given_plainly m bare (Plans nth) op e before after is = given_nothing e is.0.did
  given_plainly m bare (Accepts bits) op e before after is = given_nothing e is.0.did
  given_plainly m bare (Refuses errno) op e before after is = given_nothing e is.0.did

  -- so in turns, where the port keeps none
  given_plain : {A : Type 0} (turns : List Turn) (p q : Program A) (s r : Carried) → KeepsNone p s → Follows driver 0 p s turns q r → given_by turns ≡ map at_once (told_by (did_by turns))
  given_plain [] p q s r none follows = refl
  given_plain (Said text ∷ turns) p q s r none (next, mid, takes, follows) = given_plain turns next q mid r (keeps_on driver 0 p s (Said text) next mid takes none) follows
  given_plain (Did e ∷ turns) p q s r none (next, mid, (rest, is, goes, carries), follows) =
      (λ i. given_plainly s.maps (none_kept p s none) (asking_with s.maps s.files e.what) (op_asked s.files e.what) e s.told mid.told carries.is_done i
      ++ given_plain turns next q mid r (keeps_on driver 0 p s (Did e) next mid (rest, is, goes, carries) none) follows i)
      ∙ sym (map-append at_once (told_by e.did) (told_by (did_by turns))) ∙ ap (λ (l : List (Option ℕ)). map at_once l) (sym (told_append e.did (did_by turns)))

  part_plain : (program : Program Names) (files : List OpenFile) (told : Option Told) (m : Maps) (part : Part driver program files told m) → KeepsNone program (carried files told m) → given_by part.played.turns ≡ map at_once (told_by part.did)
  part_plain program files told m part none = given_plain part.played.turns program (done part.names) (carried files told m) part.behind none part.played.follows
      ∙ ap (λ (l : List OneDeed). map at_once (told_by l)) (sym part.played.did_is)

-- the maps behind the parts of a session whose ports never keep one
module _ (driver : DriverOver) (sections : List SaidSection) (before left : Option Told) (text : List ℕ) (did : List OneDeed) (p : PlayedSession driver sections before text did left) (none : KeepsNoMaps driver sections) where
  bare_setup : Bare driver sections p.setup.behind.maps
  bare_setup = bare_behind driver sections 0 _ _ p.setup.played.turns _ p.setup.behind p.setup.played.follows (λ without. (asks_none sections without).setup) (bare_first driver sections none)

  bare_actor : Bare driver sections p.actor.behind.maps
  bare_actor = bare_behind driver sections 0 _ _ p.actor.played.turns _ p.actor.behind p.actor.played.follows (λ without. (asks_none sections without).alone) bare_setup

  session_plain : given_of driver sections before text did left p ≡ map at_once (told_by did)
  session_plain =
      let first : List OneDeed = p.setup.did in let middle : List OneDeed = p.actor.did in let last : List OneDeed = p.last.did in
      let by_setup = part_plain driver.kind (setup_of sections) [] before (start_maps driver) p.setup (bare_keeps driver sections (setup_of sections) [] before (start_maps driver) (λ without. (asks_none sections without).setup) (bare_first driver sections none)) in
      let by_actor = part_plain driver.kind (actor_of sections) [] p.setup.behind.told p.setup.behind.maps p.actor (bare_keeps driver sections (actor_of sections) [] p.setup.behind.told p.setup.behind.maps (λ without. (asks_none sections without).alone) bare_setup) in
      let by_after = part_plain driver.kind (after_of sections p.setup.names) p.setup.behind.files p.actor.behind.told p.actor.behind.maps p.last
      (bare_keeps driver sections (after_of sections p.setup.names) p.setup.behind.files p.actor.behind.told p.actor.behind.maps (λ without. (asks_none sections without).after p.setup.names) bare_actor) in
      (λ i. by_setup i ++ (by_actor i ++ by_after i))
      ∙ ap (λ (l : List Answering). map at_once (told_by first) ++ l) (sym (map-append at_once (told_by middle) (told_by last)))
      ∙ sym (map-append at_once (told_by first) (told_by middle ++ told_by last))
      ∙ ap (λ (l : List (Option ℕ)). map at_once l)
      (ap (λ l. told_by first ++ l) (sym (told_append middle last)) ∙ sym (told_append first (middle ++ last)) ∙ ap (λ (l : List OneDeed). told_by l) (sym p.did_is))

-- A run goes by the same maps as who carried a session out, at each point of its talks: what an operation asks is the same, and the map by which
-- the driver goes. `limit`: how many entries the driver makes at most in the run. `left`: how many maps the port takes there at the beginning.
pub record GoAlike (driver : DriverOver) (sections : List SaidSection) (limit left : ℕ) (Alike : Program Names → Maps → Maps → Type 0) : Type 0 where
  pub asks : (what : Do) (rest : Got → Program Names) (m k : Maps) (files : List OpenFile) → Alike (ask what rest) m k → asking_with m files what ≡ asking_with k files what
  pub maps : (p : Program Names) (m k : Maps) (call : DeviceCall) → Alike p m k → map_by limit m call ≡ map_of driver.kind k call
  pub on : (what : Do) (rest : Got → Program Names) (m k : Maps) (reply : Reply) (files : List OpenFile) (got : Got) → Alike (ask what rest) m k → Alike (rest got) (maps_behind what reply files m) (maps_behind what reply files k)
  pub said : (text : List ℕ) (p : Program Names) (m k : Maps) → Alike (print text p) m k → Alike p m k
  pub setup : Alike (setup_of sections) (no_maps left) (start_maps driver)
  pub actor : (names : Names) (m k : Maps) → Alike (done names) m k → Alike (actor_of sections) m k
  pub after : (last names : Names) (m k : Maps) → Alike (done last) m k → Alike (after_of sections names) m k

module _ {X : Type 0} (limit : ℕ) (answers : Answers X) (driver : DriverKind) (Fits : X → Option Told → List Answering → Type 0) where
  -- A source fits a port that tells this, and what is left of what the driver does: it gives what the driver did, where it was asked.
  pub record Serves (Goes : Option Map → Type 0) : Type 0 where
    pub gives : (x : X) (before after : Option Told) (map : Option Map) (op : Option Op) (e : Exchange) (rest : List Answering) → Goes map → Fits x before (answering_in e ∷ rest) → WasAsked driver 0 map op e before after → MayOwn e.own
        → (answers.next map op x ≡ answering_in e) × Fits (answers.behind map op x) after rest
    pub plans : (x : X) (before : Option Told) (nth : ℕ) (rest : List Answering) → Fits x before rest → Fits (answers.planned nth x) (with_plan nth before) rest
    pub accepts : (x : X) (before : Option Told) (bits : ℕ) (rest : List Answering) → Fits x before rest → Fits (answers.accepted bits x) (with_bits bits before) rest

  -- a session stands where who carried it out stands, with these deeds left, and this of what the driver does
  pub record At (st : Standing X) (s : Carried) (ds : List OneDeed) (rest : List Answering) : Type 0 where
    pub files : st.files ≡ s.files
    pub left : Rest core st.world ds
    pub steady : IsSteady core st.world
    pub fits : Fits st.source s.told rest

  pub record Performed (e : Exchange) (r : Carried) (st : Standing X) (ds : List OneDeed) (rest : List Answering) (out : Got × Standing X) : Type 0 where
    pub got : out.0 ≡ got_of e.what e.reply e.wrote
    pub at : At out.1 r ds rest
    pub maps : out.1.maps ≡ maps_behind e.what e.reply st.files st.maps
    pub took : out.1.took ≡ st.took ++ given_in e
    pub entries : out.1.entries ≡ st.entries + length e.did

  pub record RunsAs {A : Type 0} (text : List ℕ) (turns : List Turn) (value : A) (r : Carried) (st : Standing X) (ds : List OneDeed) (rest : List Answering) (ran : Ran X A) : Type 0 where
    pub text_is : ran.text ≡ text
    pub value_is : ran.value ≡ value
    pub at : At ran.behind r ds rest
    pub took_is : ran.behind.took ≡ st.took ++ given_by turns
    pub entries_are : ran.behind.entries ≡ st.entries + length (did_by turns)

  module _ (Goes : Option Map → Type 0) (serves : Serves Goes) where
    -- a call of the device
    called : (m : Maps) (call : DeviceCall) (op : Option Op) (e : Exchange) (s r : Carried) (st : Standing X) (ds : List OneDeed) (rest : List Answering) → Goes (map_of driver m call) → map_by limit st.maps call ≡ map_of driver m call
        → HasMade driver 0 m call op e s.told r.told → r.files ≡ files_behind e.what e.reply s.files → At st s (e.did ++ ds) (given_in e ++ rest) → Performed e r st ds rest (performs_as limit answers (Calls call) op e.what st)
    called m call op e s r st ds rest goes same_map made files at = by (is_asked st.world call) refl
      where
        c : Comes st.world call e.answer e.own e.did ds
        c = comes laws st.world call e.closed e.answer e.own e.did ds made.makes made.may_own.quiet at.left at.steady

        asks : begins_asked (entries_in e.did) ≡ is_asked st.world call
        asks = asked_so 0 call e.closed e.answer e.own (entries_in e.did) made.makes ∙ c.asked

        given : given_in e ≡ (if is_asked st.world call then answering_in e ∷ [] else [])
        given = ap (λ (b : Bool). if b then answering_in e ∷ [] else []) asks

        port : (b : Bool) → is_asked st.world call ≡ b → PortBy driver 0 b (map_of driver m call) op e s.told r.told
        port b is = subst (λ (x : Bool). PortBy driver 0 x (map_of driver m call) op e s.told r.told) (c.asked ∙ is) made.port

        reply_same : (guess : Answering) → Came e.did ds (comes_by st.world call guess) → (comes_by st.world call guess).reply ≡ e.reply
        reply_same guess came = ap (λ x. reply_or e.reply x) (sym came.reply ∙ made.reply_is)

        bytes_same : (guess : Answering) → Came e.did ds (comes_by st.world call guess) → (comes_by st.world call guess).bytes ≡ e.wrote
        bytes_same guess came = sym came.bytes ∙ made.bytes_are

        by : (b : Bool) → is_asked st.world call ≡ b → Performed e r st ds rest
            (came_to limit answers e.what (comes_by st.world call (answers.next (map_by limit st.maps call) op st.source)) (with_entries (entry_count st.world call (length (answers.next (map_by limit st.maps call) op st.source).own)) (with_answer limit answers call op b st)))
        by false unasked = let none : given_in e ≡ [] = given ∙ ap (λ (b : Bool). if b then answering_in e ∷ [] else []) unasked in
            let guess : Answering = answers.next (map_by limit st.maps call) op st.source in
            let right : is_asked st.world call ≡ true → guess ≡ answering_in e = λ is. absurd (true≢false (sym is ∙ unasked)) in
            let came = c.came guess right in record {
              got = λ i. got_of e.what (reply_same guess came i) (bytes_same guess came i);
              at = record {
                files = (λ i. files_behind e.what (reply_same guess came i) (at.files i)) ∙ sym files;
                left = came.rest;
                steady = came.steady;
                fits = subst (λ t. Fits st.source t rest) (sym (port false unasked)) (subst (λ (l : List Answering). Fits st.source s.told (l ++ rest)) none at.fits);
              };
              maps = λ i. maps_behind e.what (reply_same guess came i) st.files st.maps;
              took = sym (append-nil st.took) ∙ ap (λ (l : List Answering). st.took ++ l) (sym none);
              entries = ap (λ n. st.entries + n) (sym (c.count guess right));
            }
        by true is = let one : given_in e ≡ answering_in e ∷ [] = given ∙ ap (λ (b : Bool). if b then answering_in e ∷ [] else []) is in
            let guess : Answering = answers.next (map_by limit st.maps call) op st.source in
            let g = serves.gives st.source s.told r.told (map_of driver m call) op e rest goes (subst (λ (l : List Answering). Fits st.source s.told (l ++ rest)) one at.fits) (port true is) made.may_own in
            let guessed : guess ≡ answering_in e = ap (λ (x : Option Map). answers.next x op st.source) same_map ∙ g.0 in
            let came = c.came guess (λ _. guessed) in record {
              got = λ i. got_of e.what (reply_same guess came i) (bytes_same guess came i);
              at = record {
                files = (λ i. files_behind e.what (reply_same guess came i) (at.files i)) ∙ sym files;
                left = came.rest;
                steady = came.steady;
                fits = subst (λ (x : Option Map). Fits (answers.behind x op st.source) r.told rest) (sym same_map) g.1;
              };
              maps = λ i. maps_behind e.what (reply_same guess came i) st.files st.maps;
              took = ap (λ (a : Answering). st.took ++ a ∷ []) guessed ∙ ap (λ (l : List Answering). st.took ++ l) (sym one);
              entries = ap (λ n. st.entries + n) (sym (c.count guess (λ _. guessed)));
            }

    -- an operation without a call of the device
    nothing : (e : Exchange) (reply : Reply) (s r : Carried) (st next : Standing X) (ds : List OneDeed) (rest : List Answering) → DidNothing driver 0 e reply → r.files ≡ files_behind e.what e.reply s.files
        → At st s (e.did ++ ds) (given_in e ++ rest) → next.world ≡ st.world → next.files ≡ files_behind e.what reply st.files → next.maps ≡ maps_behind e.what reply st.files st.maps → next.took ≡ st.took → next.entries ≡ st.entries
        → (Fits st.source s.told rest → Fits next.source r.told rest) → Performed e r st ds rest (got_of e.what reply [], next)
    nothing e reply s r st next ds rest none files at same_world same_files same_maps same_took same_entries fits = record {
      got = λ i. got_of e.what (sym none.reply_is i) (sym none.bytes_are i);
      at = record {
        files = same_files ∙ (λ i. files_behind e.what (sym none.reply_is i) (at.files i)) ∙ sym files;
        left = subst (λ (w : World). Rest core w ds) (sym same_world) (subst (λ (l : List OneDeed). Rest core st.world (l ++ ds)) none.did at.left);
        steady = subst (λ (w : World). IsSteady core w) (sym same_world) at.steady;
        fits = fits (subst (λ (l : List Answering). Fits st.source s.told (l ++ rest)) (given_none e none.did) at.fits);
      };
      maps = same_maps ∙ ap (λ (reply : Reply). maps_behind e.what reply st.files st.maps) (sym none.reply_is);
      took = same_took ∙ sym (append-nil st.took) ∙ ap (λ (l : List Answering). st.took ++ l) (sym (given_none e none.did));
      entries = let nobody : length e.did ≡ 0 = ap (λ (l : List OneDeed). length l) none.did in omega arith;
    }

    asked : (m : Maps) (a : Asking) (op : Option Op) (e : Exchange) (s r : Carried) (st : Standing X) (ds : List OneDeed) (rest : List Answering) → ((call : DeviceCall) → Goes (map_of driver m call) × (map_by limit st.maps call ≡ map_of driver m call))
        → IsDone driver 0 m a op e s.told r.told → r.files ≡ files_behind e.what e.reply s.files → At st s (e.did ++ ds) (given_in e ++ rest) → Performed e r st ds rest (performs_as limit answers a op e.what st)
    asked m (Calls call) op e s r st ds rest alike is files at = called m call op e s r st ds rest (alike call).0 (alike call).1 is files at
    asked m (Plans nth) op e s r st ds rest alike is files at = nothing e DoneReply s r st (performs_as limit answers (Plans nth) op e.what st).1 ds rest is.0 files at refl refl refl refl refl
        (λ fits. subst (λ t. Fits (answers.planned nth st.source) t rest) (sym is.1) (serves.plans st.source s.told nth rest fits))
    asked m (Accepts bits) op e s r st ds rest alike is files at = nothing e DoneReply s r st (performs_as limit answers (Accepts bits) op e.what st).1 ds rest is.0 files at refl refl refl refl refl
        (λ fits. subst (λ t. Fits (answers.accepted bits st.source) t rest) (sym is.1) (serves.accepts st.source s.told bits rest fits))
    asked m (Refuses errno) op e s r st ds rest alike is files at = nothing e (RefusedReply errno) s r st (performs_as limit answers (Refuses errno) op e.what st).1 ds rest is.0 files at refl refl refl refl refl
        (λ fits. subst (λ t. Fits st.source t rest) (sym is.1) fits)

    pub performed : (e : Exchange) (s r : Carried) (st : Standing X) (ds : List OneDeed) (rest : List Answering) → ((call : DeviceCall) → Goes (map_of driver s.maps call) × (map_by limit st.maps call ≡ map_of driver s.maps call))
        → asking_with st.maps s.files e.what ≡ asking_with s.maps s.files e.what → Carries driver 0 s e r → At st s (e.did ++ ds) (given_in e ++ rest) → Performed e r st ds rest (performs limit answers e.what st)
    performed e s r st ds rest alike same carries at =
        subst (λ (files : List OpenFile). Performed e r st ds rest (performs_as limit answers (asking_with st.maps files e.what) (op_asked files e.what) e.what st)) (sym at.files)
        (subst (λ (a : Asking). Performed e r st ds rest (performs_as limit answers a (op_asked s.files e.what) e.what st)) (sym same)
        (asked s.maps (asking_with s.maps s.files e.what) (op_asked s.files e.what) e s r st ds rest alike carries.is_done carries.files at))

-- a session, over these maps in its run
module _ {X : Type 0} (limit left_over : ℕ) (answers : Answers X) (driver : DriverOver) (sections : List SaidSection) (Fits : X → Option Told → List Answering → Type 0) (Goes : Option Map → Type 0) (serves : Serves limit answers driver.kind Fits Goes)
    (Alike : Program Names → Maps → Maps → Type 0) (alike : GoAlike driver sections limit left_over Alike) (goes : (p : Program Names) (m k : Maps) (call : DeviceCall) → Alike p m k → Goes (map_of driver.kind k call))
  where
    abbrev AtIn : Standing X → Carried → List OneDeed → List Answering → Type 0
    AtIn st s ds rest = At limit answers driver.kind Fits st s ds rest

    abbrev RunsIn : List ℕ → List Turn → Names → Carried → Standing X → List OneDeed → List Answering → Ran X Names → Type 0
    RunsIn text turns value r st ds rest ran = RunsAs limit answers driver.kind Fits text turns value r st ds rest ran × Alike (done value) ran.behind.maps r.maps

    -- what an operation comes to in the run, and that it goes on alike
    pub step_alike : (e : Exchange) (rest_of : Got → Program Names) (s r : Carried) (st : Standing X) (ds : List OneDeed) (rest : List Answering) → Alike (ask e.what rest_of) st.maps s.maps → Carries driver.kind 0 s e r → AtIn st s (e.did ++ ds) (given_in e ++ rest)
        → Performed limit answers driver.kind Fits e r st ds rest (performs limit answers e.what st) × Alike (rest_of (got_of e.what e.reply e.wrote)) (performs limit answers e.what st).1.maps r.maps
    step_alike e rest_of s r st ds rest same carries at =
        let o = performed limit answers driver.kind Fits Goes serves e s r st ds rest
        (λ call. (goes (ask e.what rest_of) st.maps s.maps call same, alike.maps (ask e.what rest_of) st.maps s.maps call same)) (alike.asks e.what rest_of st.maps s.maps s.files same) carries at in (
          o,
          subst (λ (x : Maps × Maps). Alike (rest_of (got_of e.what e.reply e.wrote)) x.0 x.1)
              (λ i. ((ap (λ (files : List OpenFile). maps_behind e.what e.reply files st.maps) (sym at.files) ∙ sym o.maps) i, sym carries.maps i))
              (alike.on e.what rest_of st.maps s.maps e.reply s.files (got_of e.what e.reply e.wrote) same),
        )

    -- turns one after another
    pub follows_run : (turns : List Turn) (p : Program Names) (s r : Carried) (value : Names) (st : Standing X) (ds : List OneDeed) (rest : List Answering)
        → Follows driver.kind 0 p s turns (done value) r → AtIn st s (did_by turns ++ ds) (given_by turns ++ rest) → Alike p st.maps s.maps → RunsIn (said_by turns) turns value r st ds rest (run limit answers p st)
    follows_run [] p s r value st ds rest (is, same) at like = subst (λ (q : Program Names). RunsIn [] [] value r st ds rest (run limit answers q st)) (sym is) (
      record {
        text_is = refl;
        value_is = refl;
        at = subst (λ (c : Carried). AtIn st c ds rest) same at;
        took_is = sym (append-nil st.took);
        entries_are = omega arith;
      },
      subst (λ (x : Program Names × Carried). Alike x.0 st.maps x.1.maps) (λ i. (is i, same i)) like,
    )
    follows_run (Said text ∷ turns) p s r value st ds rest (q, mid, (is, same), follows) at like =
        let here : Alike q st.maps mid.maps = alike.said text q st.maps mid.maps (subst (λ (x : Program Names × Carried). Alike x.0 st.maps x.1.maps) (λ i. (is i, sym same i)) like) in
        let on = follows_run turns q mid r value st ds rest follows (subst (λ (c : Carried). AtIn st c (did_by turns ++ ds) (given_by turns ++ rest)) (sym same) at) here in
        subst (λ (o : Program Names). RunsIn (text ++ said_by turns) (Said text ∷ turns) value r st ds rest (run limit answers o st)) (sym is) (
          record {
            text_is = ap (λ t. text ++ t) on.0.text_is;
            value_is = on.0.value_is;
            at = on.0.at;
            took_is = on.0.took_is;
            entries_are = on.0.entries_are;
          },
          on.1,
        )
    follows_run (Did e ∷ turns) p s r value st ds rest (q, mid, (onward, is, next, carries), follows) at like =
        let now : AtIn st s (e.did ++ (did_by turns ++ ds)) (given_in e ++ (given_by turns ++ rest)) = record {
          files = at.files;
          left = subst (λ (l : List OneDeed). Rest core st.world l) (append_assoc e.did (did_by turns) ds) at.left;
          steady = at.steady;
          fits = subst (λ (l : List Answering). Fits st.source s.told l) (append_assoc (given_in e) (given_by turns) rest) at.fits;
        } in
        let both = step_alike e onward s mid st (did_by turns ++ ds) (given_by turns ++ rest) (subst (λ (x : Program Names). Alike x st.maps s.maps) is like) carries now in
        let o = both.0 in
        let on = follows_run turns q mid r value (performs limit answers e.what st).1 ds rest follows o.at (subst (λ (x : Program Names). Alike x (performs limit answers e.what st).1.maps mid.maps) (sym next) both.1) in
        let here = subst (λ (x : Program Names). RunsIn (said_by turns) turns value r (performs limit answers e.what st).1 ds rest (run limit answers x (performs limit answers e.what st).1)) (next ∙ ap onward (sym o.got)) on in
        subst (λ (x : Program Names). RunsIn (said_by turns) (Did e ∷ turns) value r st ds rest (run limit answers x st)) (sym is) (
          record {
            text_is = here.0.text_is;
            value_is = here.0.value_is;
            at = here.0.at;
            took_is = here.0.took_is ∙ ap (λ (l : List Answering). l ++ given_by turns) o.took ∙ append_assoc st.took (given_in e) (given_by turns);
            entries_are = let more = here.0.entries_are in let first_count = o.entries in let both_count = length-append e.did (did_by turns) in omega arith;
          },
          here.1,
        )

    -- a whole program
    part_runs : (program : Program Names) (files : List OpenFile) (told : Option Told) (m : Maps) (part : Part driver.kind program files told m) (st : Standing X) (ds : List OneDeed) (rest : List Answering)
        → AtIn st (carried files told m) (part.did ++ ds) (given_by part.played.turns ++ rest) → Alike program st.maps m → RunsIn part.text part.played.turns part.names part.behind st ds rest (run limit answers program st)
    part_runs program files told m part st ds rest at like = let turns : List Turn = part.played.turns in
        let now = subst (λ (l : List OneDeed). AtIn st (carried files told m) (l ++ ds) (given_by turns ++ rest)) part.played.did_is at in
        let on = follows_run turns program (carried files told m) part.behind part.names st ds rest part.played.follows now like in
        subst (λ (x : List ℕ). RunsIn x turns part.names part.behind st ds rest (run limit answers program st)) (sym part.played.text_is) on

    -- the three parts of a session, each from where the one before it left off
    module _ (before left : Option Told) (text : List ℕ) (did : List OneDeed) (source : X) (p : PlayedSession driver sections before text did left) (whole : Rest core opening did) (steady : IsSteady core opening)
        (fits : Fits source before (given_of driver sections before text did left p))
      where
        abbrev pub start : Standing X
        start = record { world = opening; files = []; maps = no_maps left_over; source = source; took = []; asked = []; entries = 0 }

        abbrev pub after_setup : Ran X Names
        after_setup = run_setup limit left_over answers sections source

        abbrev pub at_actor : Standing X
        at_actor = record after_setup.behind { files = [] }

        abbrev pub after_actor : Ran X Names
        after_actor = run_actor limit left_over answers sections after_setup.behind

        abbrev pub at_after : Standing X
        at_after = record after_actor.behind { files = after_setup.behind.files }

        abbrev pub rest_setup : List Answering
        rest_setup = given_by p.actor.played.turns ++ (given_by p.last.played.turns ++ [])

        abbrev pub rest_actor : List Answering
        rest_actor = given_by p.last.played.turns ++ []

        pub begins_setup : AtIn start (carried [] before (start_maps driver)) (p.setup.did ++ (p.actor.did ++ (p.last.did ++ []))) (given_by p.setup.played.turns ++ rest_setup)
        begins_setup = record {
          files = refl;
          left = subst (λ (l : List OneDeed). Rest core opening l) (p.did_is ∙ ap (λ l. p.setup.did ++ (p.actor.did ++ l)) (sym (append-nil p.last.did))) whole;
          steady = steady;
          fits = subst (λ (l : List Answering). Fits source before (given_by p.setup.played.turns ++ (given_by p.actor.played.turns ++ l))) (sym (append-nil (given_by p.last.played.turns))) fits;
        }

        setup_runs : RunsIn p.setup.text p.setup.played.turns p.setup.names p.setup.behind start (p.actor.did ++ (p.last.did ++ [])) rest_setup after_setup
        setup_runs = part_runs (setup_of sections) [] before (start_maps driver) p.setup start (p.actor.did ++ (p.last.did ++ [])) rest_setup begins_setup alike.setup

        pub begins_actor : AtIn at_actor (carried [] p.setup.behind.told p.setup.behind.maps) (p.actor.did ++ (p.last.did ++ [])) (given_by p.actor.played.turns ++ rest_actor)
        begins_actor = record { files = refl; left = setup_runs.0.at.left; steady = setup_runs.0.at.steady; fits = setup_runs.0.at.fits }

        pub alike_actor : Alike (actor_of sections) at_actor.maps p.setup.behind.maps
        alike_actor = alike.actor p.setup.names after_setup.behind.maps p.setup.behind.maps setup_runs.1

        actor_runs : RunsIn p.actor.text p.actor.played.turns p.actor.names p.actor.behind at_actor (p.last.did ++ []) rest_actor after_actor
        actor_runs = part_runs (actor_of sections) [] p.setup.behind.told p.setup.behind.maps p.actor at_actor (p.last.did ++ []) rest_actor begins_actor alike_actor

        pub begins_after : AtIn at_after (carried p.setup.behind.files p.actor.behind.told p.actor.behind.maps) (p.last.did ++ []) (given_by p.last.played.turns ++ [])
        begins_after = record { files = setup_runs.0.at.files; left = actor_runs.0.at.left; steady = actor_runs.0.at.steady; fits = actor_runs.0.at.fits }

        pub alike_after : Alike (after_of sections p.setup.names) at_after.maps p.actor.behind.maps
        alike_after = alike.after p.actor.names p.setup.names after_actor.behind.maps p.actor.behind.maps actor_runs.1

        after_runs : RunsIn p.last.text p.last.played.turns p.last.names p.last.behind at_after [] [] (run limit answers (after_of sections p.setup.names) at_after)
        after_runs = part_runs (after_of sections p.setup.names) p.setup.behind.files p.actor.behind.told p.actor.behind.maps p.last at_after [] [] begins_after alike_after

        -- `after` goes on with the names that `setup` gave
        pub names_same : after_setup.value ≡ p.setup.names
        names_same = setup_runs.0.value_is

        pub session_runs : ((run_session limit left_over answers sections source).text ≡ text) × ((run_session limit left_over answers sections source).behind.took ≡ given_of driver sections before text did left p)
            × ((run_session limit left_over answers sections source).behind.entries ≡ length did) × Fits (run_session limit left_over answers sections source).behind.source left []
            × Alike (done p.last.names) (run_session limit left_over answers sections source).behind.maps p.last.behind.maps
        session_runs =
            let first : List OneDeed = p.setup.did in let middle : List OneDeed = p.actor.did in let last : List OneDeed = p.last.did in
            let by_setup : List Answering = given_by p.setup.played.turns in let by_actor : List Answering = given_by p.actor.played.turns in let by_after : List Answering = given_by p.last.played.turns in
            let ends = subst (λ (names : Names). RunsIn p.last.text p.last.played.turns p.last.names p.last.behind at_after [] []
            (run limit answers (says (length (said_in_kind Setup sections)) (said_in_kind After sections) quits (left_setup names)) at_after)) (sym names_same) after_runs in (
              (λ i. (setup_runs.0.text_is i ++ actor_runs.0.text_is i) ++ ends.0.text_is i) ∙ sym p.text_is,
              ends.0.took_is ∙ ap (λ (l : List Answering). l ++ by_after) (actor_runs.0.took_is ∙ ap (λ (l : List Answering). l ++ by_actor) setup_runs.0.took_is) ∙ append_assoc by_setup by_actor by_after,
              (let one = setup_runs.0.entries_are in let two = actor_runs.0.entries_are in let three = ends.0.entries_are in let all : length did ≡ length (first ++ (middle ++ last)) = ap (λ (l : List OneDeed). length l) p.did_is in
                  let of_setup : length first ≡ length (did_by p.setup.played.turns) = ap (λ (l : List OneDeed). length l) p.setup.played.did_is in
                  let of_actor : length middle ≡ length (did_by p.actor.played.turns) = ap (λ (l : List OneDeed). length l) p.actor.played.did_is in
                  let of_after : length last ≡ length (did_by p.last.played.turns) = ap (λ (l : List OneDeed). length l) p.last.played.did_is in
                  let front = length-append first (middle ++ last) in let back = length-append middle last in omega arith),
              subst (λ told. Fits (run_session limit left_over answers sections source).behind.source told []) (sym p.left_is) ends.0.at.fits,
              ends.1,
            )

-- The run has the very maps of the port.
same_maps : (driver : DriverKind) (m : Maps) (call : DeviceCall) → map_by driver.limit m call ≡ map_of driver m call
same_maps driver m (Once call) = refl
same_maps driver m (Removing removal) = refl
same_maps driver m (Commanding c) = refl

abbrev Alike : Program Names → Maps → Maps → Type 0
Alike p m k = m ≡ k

go_same : (driver : DriverOver) (sections : List SaidSection) → GoAlike driver sections driver.kind.limit driver.maps_left Alike
go_same driver sections = record {
  asks = λ what rest m k files same. ap (λ (x : Maps). asking_with x files what) same;
  maps = λ p m k call same. ap (λ (x : Maps). map_by driver.kind.limit x call) same ∙ same_maps driver.kind k call;
  on = λ what rest m k reply files got same. ap (λ (x : Maps). maps_behind what reply files x) same;
  said = λ text p m k same. same;
  setup = refl;
  actor = λ names m k same. same;
  after = λ last names m k same. same;
}

-- The port never keeps one, and the run takes none.
no_map : (limit place : ℕ) (kept : List Map) → kept ≡ [] → map_for limit place kept ≡ None
no_map zero place kept none = refl
no_map (suc limit) place kept none = ap (λ (l : List Map). map_at place l) none

unmapped_run : (driver : DriverKind) (k : Maps) (call : DeviceCall) → k.kept ≡ [] → map_of driver k call ≡ None
unmapped_run driver k (Once call) none = refl
unmapped_run driver k (Removing removal) none = refl
unmapped_run driver k (Commanding c) none = no_map driver.limit c.place k.kept none

none_in_run : (m : Maps) (call : DeviceCall) → map_by 0 m call ≡ None
none_in_run m (Once call) = refl
none_in_run m (Removing removal) = refl
none_in_run m (Commanding c) = refl

abbrev NoneAlike : List SaidSection → Program Names → Maps → Maps → Type 0
NoneAlike sections p m k = (m ≡ no_maps 0) × ((k ≡ no_maps 0) ⊎ ((has_aggregate sections ≡ false) × AsksNoChips p × (k.kept ≡ [])))

plain_asks : (what : Do) → IsPlain what → (m k : Maps) (files : List OpenFile) → asking_with m files what ≡ asking_with k files what
plain_asks (Aggregate label slots count) by_files m k files = absurd by_files
plain_asks what by_files m k files = refl

plain_behind : (what : Do) → IsPlain what → (reply : Reply) (files : List OpenFile) (m : Maps) → maps_behind what reply files m ≡ m
plain_behind (Aggregate label slots count) by_files reply files m = absurd by_files
plain_behind what by_files reply files m = refl

none_kept_by : (sections : List SaidSection) (p : Program Names) (m k : Maps) → NoneAlike sections p m k → k.kept ≡ []
none_kept_by sections p m k (is, inl none) = ap (λ (x : Maps). x.kept) none
none_kept_by sections p m k (is, inr none) = none.2

module _ (driver : DriverOver) (sections : List SaidSection) where
  none_asks : (what : Do) (rest : Got → Program Names) (m k : Maps) (files : List OpenFile) → NoneAlike sections (ask what rest) m k → asking_with m files what ≡ asking_with k files what
  none_asks what rest m k files (is, inl none) = ap (λ (x : Maps). asking_with x files what) (is ∙ sym none)
  none_asks what rest m k files (is, inr none) = plain_asks what none.1.0 m k files

  none_on : (what : Do) (rest : Got → Program Names) (m k : Maps) (reply : Reply) (files : List OpenFile) (got : Got) → NoneAlike sections (ask what rest) m k → NoneAlike sections (rest got) (maps_behind what reply files m) (maps_behind what reply files k)
  none_on what rest m k reply files got (is, inl none) =
      (ap (λ (x : Maps). maps_behind what reply files x) is ∙ no_maps_behind what reply files, inl (ap (λ (x : Maps). maps_behind what reply files x) none ∙ no_maps_behind what reply files))
  none_on what rest m k reply files got (is, inr none) =
      (ap (λ (x : Maps). maps_behind what reply files x) is ∙ no_maps_behind what reply files, inr (none.0, none.1.1 got, ap (λ (x : Maps). x.kept) (plain_behind what none.1.0 reply files k) ∙ none.2))

  none_said : (text : List ℕ) (p : Program Names) (m k : Maps) → NoneAlike sections (print text p) m k → NoneAlike sections p m k
  none_said text p m k like = like

  none_then : (q : Program Names) (names : Names) (m k : Maps) → (has_aggregate sections ≡ false → AsksNoChips q) → NoneAlike sections (done names) m k → NoneAlike sections q m k
  none_then q names m k asks (is, inl none) = (is, inl none)
  none_then q names m k asks (is, inr none) = (is, inr (none.0, asks none.0, none.2))

  none_first : KeepsNoMaps driver sections → NoneAlike sections (setup_of sections) (no_maps 0) (start_maps driver)
  none_first (inl none) = (refl, inl (ap no_maps none))
  none_first (inr without) = (refl, inr (without, (asks_none sections without).setup, refl))

  go_none : KeepsNoMaps driver sections → GoAlike driver sections 0 0 (NoneAlike sections)
  go_none none = record {
    asks = none_asks;
    maps = λ p m k call like. none_in_run m call ∙ sym (unmapped_run driver.kind k call (none_kept_by sections p m k like));
    on = none_on;
    said = none_said;
    setup = none_first none;
    actor = λ names m k like. none_then (actor_of sections) names m k (λ without. (asks_none sections without).alone) like;
    after = λ last names m k like. none_then (after_of sections names) last m k (λ without. (asks_none sections without).after names) like;
  }

  goes_none : (p : Program Names) (m k : Maps) (call : DeviceCall) → NoneAlike sections p m k → map_of driver.kind k call ≡ None
  goes_none p m k call like = unmapped_run driver.kind k call (none_kept_by sections p m k like)

abbrev Any : Option Map → Type 0
Any map = Unit {0}

abbrev Unmapped : Option Map → Type 0
Unmapped map = map ≡ None

-- a history of one actor alone, from the opening world on
whole_rest : (history : List OneEntry) (did : List OneDeed) → IsAlone history did → Rest core opening did
whole_rest history did alone = let r = alone.entries in record {
  answered = subst (λ (l : List OneEntry). Answered core l) r alone.legal.0;
  placed = subst (λ (l : List OneEntry). Placed core l) r alone.legal.1;
  deeds = ap (λ (l : List OneEntry). deeds_of core 0 l) (sym r) ∙ alone.deeds;
  sound = laws.opens_sound;
}

opens_steady : IsSteady core opening
opens_steady p two = let low = laws.opens_places p in absurd (omega arith)

-- what is given in the order of a list
abbrev ListFits : List Answering → Option Told → List Answering → Type 0
ListFits source told rest = source ≡ rest

list_serves : (driver : DriverOver) → Serves driver.kind.limit from_list driver.kind ListFits Any
list_serves driver = record {
  gives = λ x before after map op e rest goes is port own. (ap (λ (l : List Answering). first_of_list l) is, ap (λ (l : List Answering). rest_of_list l) is);
  plans = λ x before nth rest is. is;
  accepts = λ x before bits rest is. is;
}

pub prints_over : (driver : DriverOver) → PrintsOver driver
prints_over driver sections before left text did history p alone =
    let s = session_runs driver.kind.limit driver.maps_left from_list driver sections ListFits Any (list_serves driver) Alike (go_same driver sections) (λ p m k call same. tt) before left text did (given_of driver sections before text did left p) p
    (whole_rest history did alone) opens_steady refl in
    (sym s.0, s.1, s.2 ∙ sym (length_entries did) ∙ ap (λ (l : List OneEntry). length l) (sym alone.entries), s.4)

-- the answers of what the driver did at once
answers_of : (answers : List (Option ℕ)) → map answer_in (map at_once answers) ≡ answers
answers_of [] = refl
answers_of (answer ∷ answers) = ap (λ (l : List (Option ℕ)). answer ∷ l) (answers_of answers)

-- of a history of one actor alone
plain_of : (driver : DriverOver) (sections : List SaidSection) (before left : Option Told) (text : List ℕ) (did : List OneDeed) (history : List OneEntry) (p : PlayedSession driver sections before text did left) → KeepsNoMaps driver sections
    → IsAlone history did → given_of driver sections before text did left p ≡ map at_once (tells_in history)
plain_of driver sections before left text did history p none alone =
    session_plain driver sections before left text did p none ∙ ap (λ (l : List OneEntry). map at_once (tells_in l)) (sym alone.entries)

plain_serves : (driver : DriverOver) → Serves 0 from_list driver.kind ListFits Unmapped
plain_serves driver = record {
  gives = λ x before after map op e rest goes is port own. (ap (λ (l : List Answering). first_of_list l) is, ap (λ (l : List Answering). rest_of_list l) is);
  plans = λ x before nth rest is. is;
  accepts = λ x before bits rest is. is;
}

pub prints_one : (driver : DriverOver) → PrintsOne driver
prints_one driver sections before left text did history none p alone =
    let is = plain_of driver sections before left text did history p none alone in
    let s = session_runs 0 0 from_list driver sections ListFits Unmapped (plain_serves driver) (NoneAlike sections) (go_none driver sections none) (goes_none driver sections) before left text did (given_of driver sections before text did left p) p
    (whole_rest history did alone) opens_steady refl in (
      sym s.0 ∙ ap (λ (given : List Answering). one_over 0 0 sections given) is,
      ap (λ (given : List Answering). map answer_in (taken_over 0 0 sections given)) (sym is) ∙ ap (λ (given : List Answering). map answer_in given) (s.1 ∙ is) ∙ answers_of (tells_in history),
      ap (λ (given : List Answering). entries_over 0 0 sections given) (sym is) ∙ s.2 ∙ sym (length_entries did) ∙ ap (λ (l : List OneEntry). length l) (sym alone.entries),
    )

-- answers as the plan of a port says
abbrev PlannedFits : PlannedPort → Option Told → List Answering → Type 0
PlannedFits port told rest = (t : Told) × (told ≡ Some t) × (port ≡ record { calls = t.counted; plan = t.plan; bits = t.bits })

plan_gives : (driver : DriverKind) → driver.is_planned ≡ true → (x : PlannedPort) (before after : Option Told) (map : Option Map) (op : Option Op) (e : Exchange) (rest : List Answering) → PlannedFits x before (answering_in e ∷ rest)
    → WasAsked driver 0 None op e before after → (from_plan.next map op x ≡ answering_in e) × PlannedFits (from_plan.behind map op x) after rest
plan_gives driver planned x before after map op e rest (t, is, same) asked =
    let answer_is : e.answer ≡ planned_for asked.asked_for t = subst (λ (o : Option Told). IfSome o (λ told. e.answer ≡ planned_for asked.asked_for told)) is (asked.gives planned) in (
      ap (λ (port : PlannedPort). at_once (planned_answer (bits_asked op port.bits) port.plan (counted_up port.calls))) same
          ∙ ap (λ (o : Option Op). at_once (planned_answer (bits_asked o t.bits) t.plan (counted_up t.counted))) asked.is_this
          ∙ (λ i. record { own = calls_in (sym asked.may_make i); answer = sym answer_is i }),
      (
        record { calls = counted_up t.calls; counted = counted_up t.counted; plan = t.plan; bits = t.bits; last = Some (record { op = asked.asked_for; answer = e.answer }) },
        asked.told_then ∙ ap (λ (o : Option Told). with_call asked.asked_for e.answer o) is,
        ap (λ (port : PlannedPort). from_plan.behind map op port) same,
      ),
    )

plan_plans : (x : PlannedPort) (before : Option Told) (nth : ℕ) (rest : List Answering) → PlannedFits x before rest → PlannedFits (from_plan.planned nth x) (with_plan nth before) rest
plan_plans x before nth rest (t, is, same) = (record t { plan = planned_call t.counted nth }, ap (λ (o : Option Told). with_plan nth o) is, ap (λ (port : PlannedPort). from_plan.planned nth port) same)

plan_accepts : (x : PlannedPort) (before : Option Told) (bits : ℕ) (rest : List Answering) → PlannedFits x before rest → PlannedFits (from_plan.accepted bits x) (with_bits bits before) rest
plan_accepts x before bits rest (t, is, same) = (record t { bits = bits }, ap (λ (o : Option Told). with_bits bits o) is, ap (λ (port : PlannedPort). from_plan.accepted bits port) same)

plan_serves : (driver : DriverKind) → driver.is_planned ≡ true → Serves 0 from_plan driver PlannedFits Unmapped
plan_serves driver planned = record {
  gives = λ x before after map op e rest none fits asked own. plan_gives driver planned x before after map op e rest fits (subst (λ (m : Option Map). WasAsked driver 0 m op e before after) none asked);
  plans = plan_plans;
  accepts = plan_accepts;
}

pub answers_as_planned : (driver : DriverOver) → AnswersAsPlanned driver
answers_as_planned driver planned sections t left text did history none p alone =
    let s = session_runs 0 0 from_plan driver sections PlannedFits Unmapped (plan_serves driver.kind planned) (NoneAlike sections) (go_none driver sections none) (goes_none driver sections) (Some t) left text did
    (record { calls = t.counted; plan = t.plan; bits = t.bits }) p (whole_rest history did alone) opens_steady (t, refl, refl) in
    sym (answers_of (tells_in history)) ∙ ap (λ (given : List Answering). map answer_in given) (sym (s.1 ∙ plain_of driver sections (Some t) left text did history p none alone))

-- What is given in the order of a list, of whose answers a port tells how many there were so far, and the last.
abbrev PortFits : Told → List (Option ℕ) → List Answering → Option Told → List Answering → Type 0
PortFits t all source told rest =
    (source ≡ rest) × (u : Told) × (told ≡ Some u) × (calls_after u.calls (map answer_in rest) ≡ calls_after t.calls all) × (last_or (answered_last u.last) (map answer_in rest) ≡ last_or (answered_last t.last) all)

port_gives : (driver : DriverKind) (t : Told) (all : List (Option ℕ)) (x : List Answering) (before after : Option Told) (map_there : Option Map) (op : Option Op) (e : Exchange) (rest : List Answering) → PortFits t all x before (answering_in e ∷ rest)
    → WasAsked driver 0 None op e before after → (from_list.next map_there op x ≡ answering_in e) × PortFits t all (from_list.behind map_there op x) after rest
port_gives driver t all x before after map_there op e rest (is, u, told, count, last) asked = (
  ap (λ (l : List Answering). first_of_list l) is,
  (
    ap (λ (l : List Answering). rest_of_list l) is,
    record { calls = counted_up u.calls; counted = counted_up u.counted; plan = u.plan; bits = u.bits; last = Some (record { op = asked.asked_for; answer = e.answer }) },
    asked.told_then ∙ ap (λ (o : Option Told). with_call asked.asked_for e.answer o) told,
    count,
    last,
  ),
)

port_plans : (t : Told) (all : List (Option ℕ)) (x : List Answering) (before : Option Told) (nth : ℕ) (rest : List Answering) → PortFits t all x before rest → PortFits t all x (with_plan nth before) rest
port_plans t all x before nth rest (is, u, told, count, last) = (is, record u { plan = planned_call u.counted nth }, ap (λ (o : Option Told). with_plan nth o) told, count, last)

port_accepts : (t : Told) (all : List (Option ℕ)) (x : List Answering) (before : Option Told) (bits : ℕ) (rest : List Answering) → PortFits t all x before rest → PortFits t all x (with_bits bits before) rest
port_accepts t all x before bits rest (is, u, told, count, last) = (is, record u { bits = bits }, ap (λ (o : Option Told). with_bits bits o) told, count, last)

port_serves : (driver : DriverKind) (t : Told) (all : List (Option ℕ)) → Serves 0 from_list driver (PortFits t all) Unmapped
port_serves driver t all = record {
  gives = λ x before after map op e rest none fits asked own. port_gives driver t all x before after map op e rest fits (subst (λ (m : Option Map). WasAsked driver 0 m op e before after) none asked);
  plans = port_plans t all;
  accepts = port_accepts t all;
}

port_answers : (driver : DriverOver) (sections : List SaidSection) (t : Told) (left : Option Told) (text : List ℕ) (did : List OneDeed) (history : List OneEntry)
    → KeepsNoMaps driver sections → PlayedSession driver sections (Some t) text did left → IsAlone history did → TellsAfter t (tells_in history) left
port_answers driver sections t left text did history none p alone =
    let given : List Answering = given_of driver sections (Some t) text did left p in let all : List (Option ℕ) = map answer_in given in
    let told : all ≡ tells_in history = ap (λ (given : List Answering). map answer_in given) (plain_of driver sections (Some t) left text did history p none alone) ∙ answers_of (tells_in history) in
    let s = session_runs 0 0 from_list driver sections (PortFits t all) Unmapped (port_serves driver.kind t all) (NoneAlike sections) (go_none driver sections none) (goes_none driver sections) (Some t) left text did given p
    (whole_rest history did alone) opens_steady (refl, t, refl, refl, refl) in
    let u = s.3 in subst (λ (l : List (Option ℕ)). TellsAfter t l left) told (record { told = u.1; left_is = u.2; calls = u.3; last = u.4 })

-- what is given in the order of a list, through a port that tells just what this one does
abbrev SamePort : TellingPort → Option Told → List Answering → Type 0
SamePort x told rest = (x.left ≡ rest) × (x.told ≡ told)

telling_gives : (driver : DriverKind) (x : TellingPort) (before after : Option Told) (map_there : Option Map) (op : Option Op) (e : Exchange) (rest : List Answering) → SamePort x before (answering_in e ∷ rest)
    → WasAsked driver 0 map_there op e before after → MayOwn e.own → (from_port.next map_there op x ≡ answering_in e) × SamePort (from_port.behind map_there op x) after rest
telling_gives driver x before after map_there op e rest (left_is, told_is) asked own = (
  ap (λ (l : List Answering). first_of_list l) left_is,
  (
    ap (λ (l : List Answering). rest_of_list l) left_is,
    (λ i. told_of map_there (asked.is_this i) (first_of_list (left_is i)) (told_is i))
        ∙ ap (λ n. with_call_counting (counts_for map_there n) asked.asked_for e.answer before) (tells_ended e.own own.quiet) ∙ sym asked.told_then,
  ),
)

telling_serves : (limit : ℕ) (driver : DriverKind) (Goes : Option Map → Type 0) → Serves limit from_port driver SamePort Goes
telling_serves limit driver Goes = record {
  gives = λ x before after map_there op e rest goes fits asked own. telling_gives driver x before after map_there op e rest fits asked own;
  plans = λ x before nth rest is. (is.0, ap (λ (o : Option Told). with_plan nth o) is.1);
  accepts = λ x before bits rest is. (is.0, ap (λ (o : Option Told). with_bits bits o) is.1);
}

port_whole : (driver : DriverOver) (sections : List SaidSection) (before left : Option Told) (text : List ℕ) (did : List OneDeed) (history : List OneEntry)
    → KeepsNoMaps driver sections → PlayedSession driver sections before text did left → IsAlone history did → left ≡ told_behind sections (tells_in history) before
port_whole driver sections before left text did history none p alone =
    let s = session_runs 0 0 from_port driver sections SamePort Unmapped (telling_serves 0 driver.kind Unmapped) (NoneAlike sections) (go_none driver sections none) (goes_none driver sections) before left text did
    (record { left = map at_once (tells_in history); told = before }) p (whole_rest history did alone) opens_steady (sym (plain_of driver sections before left text did history p none alone), refl) in
    sym s.3.1

port_over : (driver : DriverOver) (sections : List SaidSection) (before left : Option Told) (text : List ℕ) (did : List OneDeed) (history : List OneEntry)
    (p : PlayedSession driver sections before text did left) → IsAlone history did → left ≡ told_over driver.kind.limit driver.maps_left sections (given_of driver sections before text did left p) before
port_over driver sections before left text did history p alone =
    let s = session_runs driver.kind.limit driver.maps_left from_port driver sections SamePort Any (telling_serves driver.kind.limit driver.kind Any) Alike (go_same driver sections) (λ p m k call same. tt) before left text did
    (record { left = given_of driver sections before text did left p; told = before }) p (whole_rest history did alone) opens_steady (refl, refl) in
    sym s.3.1

pub port_tells : (driver : DriverOver) → PortTells driver
port_tells driver = record { over = port_over driver; whole = port_whole driver; answers = port_answers driver }

-- A call of the driver is one that it may make, and there was room.
gives_within : (driver : DriverKind) (room : ℕ) (there : Option Map) (before : Option Told) (op : Op) (inner : List OneDeed) (e : Exchange) → WhereMapped (is_some there) room room e → Gives driver there before op inner e.room e.seen e.answer
    → GivesWithin driver room there before op inner e.answer
gives_within driver room None before op inner e seen gives = gives
gives_within driver room (Some there) before op inner e (is, less) gives = (e.seen, less, subst (λ (r : ℕ). Gives driver (Some there) before op inner r e.seen e.answer) is gives)

lawful_call : (driver : DriverKind) (room : ℕ) (there : Option Map) (op : Option Op) (e : Exchange) (before after : Option Told) (did : List StepDone) → WhereMapped (is_some there) room room e → (w : WasAsked driver 0 there op e before after)
    → map deed_of did ≡ w.inner → Each IsLetInOrRefused did → IsLawfulCall driver room (record { map = there; op = op; before = before; did = did; answer = e.answer })
lawful_call driver room there op e before after did seen w same guards = record {
  op = w.asked_for;
  asked_for = w.is_this;
  may_make = subst (λ (own : List OneEntry). MayMake driver there w.asked_for own) (sym w.inner_own ∙ ap (λ (l : List OneDeed). entries_in l) (sym same)) w.may_make;
  guards = guards;
  gives = subst (λ (l : List OneDeed). GivesWithin driver room there before w.asked_for l e.answer) (sym same) (gives_within driver room there before w.asked_for w.inner e seen w.gives);
}

module _ (driver : DriverOver) (sections : List SaidSection) (room : ℕ) where
  abbrev Lawful : DriverAsked → Type 0
  Lawful a = IsLawfulCall driver.kind room a

  abbrev AtPort : Standing TellingPort → Carried → List OneDeed → List Answering → Type 0
  AtPort st s ds rest = At driver.kind.limit from_port driver.kind SamePort st s ds rest

  lawful_made : (call : DeviceCall) (op : Option Op) (e : Exchange) (s r : Carried) (st : Standing TellingPort) (ds : List OneDeed) (rest : List Answering) → st.maps ≡ s.maps → HasMade driver.kind 0 s.maps call op e s.told r.told
      → AtPort st s (e.did ++ ds) (given_in e ++ rest) → WhereMapped e.mapped room room e → Each Lawful st.asked → Each Lawful (performs_as driver.kind.limit from_port (Calls call) op e.what st).1.asked
  lawful_made call op e s r st ds rest same made at seen all = by (is_asked st.world call) refl
    where
      c : Comes st.world call e.answer e.own e.did ds
      c = comes laws st.world call e.closed e.answer e.own e.did ds made.makes made.may_own.quiet at.left at.steady

      given : given_in e ≡ (if is_asked st.world call then answering_in e ∷ [] else [])
      given = ap (λ (b : Bool). if b then answering_in e ∷ [] else []) (asked_so 0 call e.closed e.answer e.own (entries_in e.did) made.makes ∙ c.asked)

      by : (b : Bool) → is_asked st.world call ≡ b → Each Lawful (came_to driver.kind.limit from_port e.what (comes_by st.world call (first_of_list st.source.left)) (with_entries (entry_count st.world call (length (first_of_list st.source.left).own))
          (with_answer driver.kind.limit from_port call op b st))).1.asked
      by false unasked = all
      by true is =
          let first : first_of_list st.source.left ≡ answering_in e = ap (λ (l : List Answering). first_of_list l) (at.fits.0 ∙ ap (λ (l : List Answering). l ++ rest) (given ∙ ap (λ (b : Bool). if b then answering_in e ∷ [] else []) is)) in
          let asked : was_asked call (entries_in e.did) ≡ true = c.asked ∙ is in
          let w : WasAsked driver.kind 0 (map_of driver.kind s.maps call) op e s.told r.told = subst (λ (x : Bool). PortBy driver.kind 0 x (map_of driver.kind s.maps call) op e s.told r.told) asked made.port in
          let there : map_by driver.kind.limit st.maps call ≡ map_of driver.kind s.maps call = ap (λ (x : Maps). map_by driver.kind.limit x call) same ∙ same_maps driver.kind s.maps call in
          let inner = inner_steps laws st.world call e.closed e.answer e.own e.did ds w.ask w.tell w.inner made.makes made.may_own.quiet at.left at.steady asked w.deeds_are w.inner_own in
          each_more Lawful st.asked _ all
          (subst (λ (a : DriverAsked). Lawful a) (λ i. record {
            map = sym there i;
            op = op;
            before = sym at.fits.1 i;
            did = steps_of (world_asked st.world call) (sym first i).own;
            answer = (sym first i).answer;
          }) (lawful_call driver.kind room (map_of driver.kind s.maps call) op e s.told r.told (steps_of (world_asked st.world call) (calls_in e.own)) (subst (λ (b : Bool). WhereMapped b room room e) made.mapped_is seen) w inner.0 inner.1))

  lawful_done : (a : Asking) (op : Option Op) (e : Exchange) (s r : Carried) (st : Standing TellingPort) (ds : List OneDeed) (rest : List Answering) → st.maps ≡ s.maps → IsDone driver.kind 0 s.maps a op e s.told r.told
      → AtPort st s (e.did ++ ds) (given_in e ++ rest) → WhereMapped e.mapped room room e → Each Lawful st.asked → Each Lawful (performs_as driver.kind.limit from_port a op e.what st).1.asked
  lawful_done (Calls call) op e s r st ds rest same is at seen all = lawful_made call op e s r st ds rest same is at seen all
  lawful_done (Plans nth) op e s r st ds rest same is at seen all = all
  lawful_done (Accepts bits) op e s r st ds rest same is at seen all = all
  lawful_done (Refuses errno) op e s r st ds rest same is at seen all = all

  lawful_step : (e : Exchange) (s r : Carried) (st : Standing TellingPort) (ds : List OneDeed) (rest : List Answering) → st.maps ≡ s.maps → Carries driver.kind 0 s e r → AtPort st s (e.did ++ ds) (given_in e ++ rest)
      → WhereMapped e.mapped room room e → Each Lawful st.asked → Each Lawful (performs driver.kind.limit from_port e.what st).1.asked
  lawful_step e s r st ds rest same carries at seen all =
      subst (λ (x : Maps × List OpenFile). Each Lawful (performs_as driver.kind.limit from_port (asking_with x.0 x.1 e.what) (op_asked x.1 e.what) e.what st).1.asked) (λ i. (sym same i, sym at.files i))
      (lawful_done (asking_with s.maps s.files e.what) (op_asked s.files e.what) e s r st ds rest same carries.is_done at seen all)

  lawful_turns : (turns : List Turn) (p : Program Names) (s r : Carried) (value : Names) (st : Standing TellingPort) (ds : List OneDeed) (rest : List Answering) → Follows driver.kind 0 p s turns (done value) r
      → AtPort st s (did_by turns ++ ds) (given_by turns ++ rest) → st.maps ≡ s.maps → AreSeen room room turns → Each Lawful st.asked → Each Lawful (run driver.kind.limit from_port p st).behind.asked
  lawful_turns [] p s r value st ds rest (is, same) at like seen all = subst (λ (q : Program Names). Each Lawful (run driver.kind.limit from_port q st).behind.asked) (sym is) all
  lawful_turns (Said text ∷ turns) p s r value st ds rest (q, mid, (is, same), follows) at like seen all =
      subst (λ (o : Program Names). Each Lawful (run driver.kind.limit from_port o st).behind.asked) (sym is)
      (lawful_turns turns q mid r value st ds rest follows (subst (λ (c : Carried). AtPort st c (did_by turns ++ ds) (given_by turns ++ rest)) (sym same) at) (like ∙ ap (λ (c : Carried). c.maps) (sym same)) seen all)
  lawful_turns (Did e ∷ turns) p s r value st ds rest (q, mid, (onward, is, next, carries), follows) at like seen all =
      let now : AtPort st s (e.did ++ (did_by turns ++ ds)) (given_in e ++ (given_by turns ++ rest)) = record {
        files = at.files;
        left = subst (λ (l : List OneDeed). Rest core st.world l) (append_assoc e.did (did_by turns) ds) at.left;
        steady = at.steady;
        fits = subst (λ (l : List Answering). SamePort st.source s.told l) (append_assoc (given_in e) (given_by turns) rest) at.fits;
      } in
      let both = step_alike driver.kind.limit driver.maps_left from_port driver sections SamePort Any (telling_serves driver.kind.limit driver.kind Any) Alike (go_same driver sections) (λ p m k call same. tt) e onward s mid st (did_by turns ++ ds) (given_by turns ++ rest) like carries now in
      let first = lawful_step e s mid st (did_by turns ++ ds) (given_by turns ++ rest) like carries now seen.0 all in
      let later = lawful_turns turns q mid r value (performs driver.kind.limit from_port e.what st).1 ds rest follows both.0.at both.1 seen.1 first in
      subst (λ (o : Program Names). Each Lawful (run driver.kind.limit from_port o st).behind.asked) (sym is)
      (subst (λ (o : Program Names). Each Lawful (run driver.kind.limit from_port o (performs driver.kind.limit from_port e.what st).1).behind.asked) (next ∙ ap onward (sym both.0.got)) later)

  lawful_part : (program : Program Names) (files : List OpenFile) (told : Option Told) (m : Maps) (part : Part driver.kind program files told m) (st : Standing TellingPort) (ds : List OneDeed) (rest : List Answering)
      → AtPort st (carried files told m) (part.did ++ ds) (given_by part.played.turns ++ rest) → st.maps ≡ m → AreSeen room room part.played.turns → Each Lawful st.asked → Each Lawful (run driver.kind.limit from_port program st).behind.asked
  lawful_part program files told m part st ds rest at like seen all =
      lawful_turns part.played.turns program (carried files told m) part.behind part.names st ds rest part.played.follows
      (subst (λ (l : List OneDeed). AtPort st (carried files told m) (l ++ ds) (given_by part.played.turns ++ rest)) part.played.did_is at) like seen all

pub asks_lawfully : (driver : DriverOver) → AsksLawfully driver
asks_lawfully driver sections before left text did history p alone within =
    let room : ℕ = session_cost sections in
    let first : Standing TellingPort = start driver.kind.limit driver.maps_left from_port driver sections SamePort Any (telling_serves driver.kind.limit driver.kind Any) Alike (go_same driver sections) (λ p m k call same. tt) before left text did (record { left = given_of driver sections before text did left p; told = before }) p (whole_rest history did alone) opens_steady (refl, refl) in
    let second : Standing TellingPort = at_actor driver.kind.limit driver.maps_left from_port driver sections SamePort Any (telling_serves driver.kind.limit driver.kind Any) Alike (go_same driver sections) (λ p m k call same. tt) before left text did (record { left = given_of driver sections before text did left p; told = before }) p (whole_rest history did alone) opens_steady (refl, refl) in
    let third : Standing TellingPort = at_after driver.kind.limit driver.maps_left from_port driver sections SamePort Any (telling_serves driver.kind.limit driver.kind Any) Alike (go_same driver sections) (λ p m k call same. tt) before left text did (record { left = given_of driver sections before text did left p; told = before }) p (whole_rest history did alone) opens_steady (refl, refl) in
    let by_setup = lawful_part driver sections room (setup_of sections) [] before (start_maps driver) p.setup first (p.actor.did ++ (p.last.did ++ [])) (given_by p.actor.played.turns ++ (given_by p.last.played.turns ++ []))
    (begins_setup driver.kind.limit driver.maps_left from_port driver sections SamePort Any (telling_serves driver.kind.limit driver.kind Any) Alike (go_same driver sections) (λ p m k call same. tt) before left text did (record { left = given_of driver sections before text did left p; told = before }) p (whole_rest history did alone) opens_steady (refl, refl)) refl within.setup tt in
    let by_actor = lawful_part driver sections room (actor_of sections) [] p.setup.behind.told p.setup.behind.maps p.actor second (p.last.did ++ []) (given_by p.last.played.turns ++ [])
    (begins_actor driver.kind.limit driver.maps_left from_port driver sections SamePort Any (telling_serves driver.kind.limit driver.kind Any) Alike (go_same driver sections) (λ p m k call same. tt) before left text did (record { left = given_of driver sections before text did left p; told = before }) p (whole_rest history did alone) opens_steady (refl, refl))
    (alike_actor driver.kind.limit driver.maps_left from_port driver sections SamePort Any (telling_serves driver.kind.limit driver.kind Any) Alike (go_same driver sections) (λ p m k call same. tt) before left text did (record { left = given_of driver sections before text did left p; told = before }) p (whole_rest history did alone) opens_steady (refl, refl)) within.actor by_setup in
    let by_after = lawful_part driver sections room (after_of sections p.setup.names) p.setup.behind.files p.actor.behind.told p.actor.behind.maps p.last third [] []
    (begins_after driver.kind.limit driver.maps_left from_port driver sections SamePort Any (telling_serves driver.kind.limit driver.kind Any) Alike (go_same driver sections) (λ p m k call same. tt) before left text did (record { left = given_of driver sections before text did left p; told = before }) p (whole_rest history did alone) opens_steady (refl, refl))
    (alike_after driver.kind.limit driver.maps_left from_port driver sections SamePort Any (telling_serves driver.kind.limit driver.kind Any) Alike (go_same driver sections) (λ p m k call same. tt) before left text did (record { left = given_of driver sections before text did left p; told = before }) p (whole_rest history did alone) opens_steady (refl, refl)) within.last by_actor in
    subst (λ (names : Names). Each (Lawful driver sections room) (run driver.kind.limit from_port (says (length (said_in_kind Setup sections)) (said_in_kind After sections) quits (left_setup names)) third).behind.asked)
    (sym (names_same driver.kind.limit driver.maps_left from_port driver sections SamePort Any (telling_serves driver.kind.limit driver.kind Any) Alike (go_same driver sections) (λ p m k call same. tt) before left text did (record { left = given_of driver sections before text did left p; told = before }) p (whole_rest history did alone) opens_steady (refl, refl))) by_after
