-- The three parts of a session make a whole, or stop with less than it costs.
use Rattle.std.proofs.Common.{◌≡◌, ℕ, ◌≤◌, List, [], ◌++◌, length, Option, refl, sym, ap, ◌∙◌, subst, arith}
use Rattle.std.proofs.lemmas.List.{append-nil}
use Rattle.gl_world.specs.Deeds.{entries_in}
use Rattle.gl_world.specs.History.{Legal, StartsWith, entries_of}
use Rattle.gl_rule.specs.Turn.{NoStrangers}
use Rattle.gl_rule.specs.Views.{newcomer}
use Rattle.gl_gate.specs.Grown.{Grew}
use Rattle.gl_gate.proofs.Grown.{grows_on}
use Rattle.gl_client.specs.Program.{Program, ask, done}
use Rattle.gl_driver.specs.Told.{Told}
use Rattle.gl_model.specs.declared.device_call.DeviceCall.{DeviceCall}
use Rattle.gl_script.specs.Cost.{session_cost}
use Rattle.gl_script.specs.Section.{SaidSection}
use Rattle.gl_talk.specs.Open.{Names}
use Rattle.gl_chip.specs.Values.{OneView}
use Rattle.gl_core.specs.Device.{OneDeed, OneEntry, core, tells_in}
use Rattle.gl_session.specs.Alone.{IsAlone, KeepsNoMaps, Part, PlayedSession, given_of}
use Rattle.gl_check.specs.Drivers.{DriverKind, DriverOver, start_maps}
use Rattle.gl_check.specs.Joining.{Maps, asking_with}
use Rattle.gl_base.specs.Rows.{Each}
use Rattle.gl_check.specs.Lawful.{IsLawfulCall}
use Rattle.gl_check.specs.One.{Answering, asked_over, entries_over, maps_over, one_over, taken_over, told_over}
use Rattle.gl_check.proofs.ThroughPort.{tells_given}
use Rattle.gl_check.specs.Programs.{actor_of, after_of, setup_of}
use Rattle.gl_asking.specs.declared.kinds.Asking.{Asking}
use Rattle.gl_asking.specs.declared.kinds.Asking.TheVariants.{Calls, Plans, Accepts, Refuses}
use Rattle.gl_asking.specs.Files.{OpenFile}
use Rattle.gl_session.specs.OneActor.{CameAloneWith, CameToOneOver, CameWithEntries, HasPlayed, StoppedBelow}
use Rattle.gl_session.specs.Performed.{IsCall, PlaysOn, StoppedFull}
use Rattle.gl_check.specs.Turns.{AreSeen, Carried, carried, did_by, said_by}
use Rattle.gl_session.specs.Within.{Stop}
use Rattle.gl_session.proofs.Alone.{first_actor_is_alone, first_actor_sees_itself}
use Rattle.gl_session.proofs.AloneRuns.{answers_as_planned, asks_lawfully, port_tells, prints_one, prints_over}
use Rattle.gl_session.proofs.Plays.{number_same}
use Rattle.gl_session.proofs.Seen.{no_shorter, seen_more}
use Rattle.gl_session.proofs.OneHistories.{length_entries}
use Rattle.gl_session.proofs.Within.{calls_have_room, sessions_keep_within_cost}

pub call_of : (a : Asking) → IsCall a → (call : DeviceCall) × (a ≡ Calls call)
call_of (Calls call) is = (call, refl)
call_of (Plans nth) is = absurd is
call_of (Accepts bits) is = absurd is
call_of (Refuses errno) is = absurd is

module _ (driver : DriverKind) where
  abbrev as_part : (program : Program Names) (v w : OneView) (files : List OpenFile) (told : Option Told) (m : Maps) (t0 t1 : List ℕ) (names : Names) (r : Carried) → v.number ≡ 0
      → PlaysOn driver program v (carried files told m) t0 (done names) w r t1 → Part driver program files told m
  as_part program v w files told m t0 t1 names r zero p = record {
    text = said_by p.turns;
    did = did_by p.turns;
    names = names;
    behind = r;
    played = record { turns = p.turns; follows = number_same driver program (carried files told m) p.turns (done names) r 0 v.number zero p.follows; text_is = refl; did_is = refl };
  }

  abbrev as_stop : (program : Program Names) (v w : OneView) (files : List OpenFile) (told : Option Told) (m : Maps) → v.number ≡ 0 → StoppedFull driver program v (carried files told m) w → Stop driver program files told m
  as_stop program v w files told m zero s = let call = call_of (asking_with s.then.maps s.then.files s.what) s.full.0 in record {
    turns = s.turns;
    what = s.what;
    later = s.rest;
    behind = s.then;
    call = call.0;
    follows = number_same driver program (carried files told m) s.turns (ask s.what s.rest) s.then 0 v.number zero s.follows;
    calls = call.1;
  }

module _ (driver : DriverOver) (limit : driver.kind.limit ≤ 8) (sections : List SaidSection) (v w : OneView) (told : Option Told) (zero : v.number ≡ 0) where
  pub stops_in_setup : StoppedFull driver.kind (setup_of sections) v (carried [] told (start_maps driver)) w → StoppedBelow (session_cost sections) v w
  stops_in_setup s = record {
    did = did_by s.turns;
    view = s.view;
    grew = s.grew;
    full = s.full.1;
    few = (calls_have_room driver).in_setup limit sections told (as_stop driver.kind (setup_of sections) v w [] told (start_maps driver) zero s);
  }

module _ (driver : DriverOver) (limit : driver.kind.limit ≤ 8) (sections : List SaidSection) (v w : OneView) (told : Option Told) (zero : v.number ≡ 0) (t0 t1 : List ℕ) (names : Names) (r : Carried)
    (setup : PlaysOn driver.kind (setup_of sections) v (carried [] told (start_maps driver)) t0 (done names) w r t1)
  where
    abbrev setup_part : Part driver.kind (setup_of sections) [] told (start_maps driver)
    setup_part = as_part driver.kind (setup_of sections) v w [] told (start_maps driver) t0 t1 names r zero setup

    zero_then : w.number ≡ 0
    zero_then = setup.grew.number ∙ zero

    pub stops_in_actor : (u : OneView) → StoppedFull driver.kind (actor_of sections) w (carried [] r.told r.maps) u → StoppedBelow (session_cost sections) v u
    stops_in_actor u s = record {
      did = did_by setup.turns ++ did_by s.turns;
      view = s.view;
      grew = grows_on core v w s.view (did_by setup.turns) (did_by s.turns) setup.grew s.grew;
      full = s.full.1;
      few = (calls_have_room driver).in_actor limit sections told setup_part (as_stop driver.kind (actor_of sections) w u [] r.told r.maps zero_then s);
    }

    module _ (u : OneView) (t2 : List ℕ) (own_names : Names) (own : Carried) (actor : PlaysOn driver.kind (actor_of sections) w (carried [] r.told r.maps) t1 (done own_names) u own t2) where
      abbrev actor_part : Part driver.kind (actor_of sections) [] r.told r.maps
      actor_part = as_part driver.kind (actor_of sections) w u [] r.told r.maps t1 t2 own_names own zero_then actor

      zero_last : u.number ≡ 0
      zero_last = actor.grew.number ∙ zero_then

      pub stops_in_after : (x : OneView) → StoppedFull driver.kind (after_of sections names) u (carried r.files own.told own.maps) x → StoppedBelow (session_cost sections) v x
      stops_in_after x s = record {
        did = did_by setup.turns ++ (did_by actor.turns ++ did_by s.turns);
        view = s.view;
        grew = grows_on core v w s.view (did_by setup.turns) (did_by actor.turns ++ did_by s.turns) setup.grew (grows_on core w u s.view (did_by actor.turns) (did_by s.turns) actor.grew s.grew);
        full = s.full.1;
        few = (calls_have_room driver).in_after limit sections told setup_part actor_part (as_stop driver.kind (after_of sections names) u x r.files own.told own.maps zero_last s);
      }

      pub has_played : (x : OneView) (t3 : List ℕ) (last_names : Names) (last : Carried) → t0 ≡ [] → PlaysOn driver.kind (after_of sections names) u (carried r.files own.told own.maps) t2 (done last_names) x last t3
          → HasPlayed driver sections told t3 last.told last.maps v x
      has_played x t3 last_names last empty after =
          let later = no_shorter x.seen u.seen after.grew.seen in let between = no_shorter u.seen w.seen actor.grew.seen in (
            did_by setup.turns ++ (did_by actor.turns ++ did_by after.turns),
            record {
              setup = setup_part;
              actor = actor_part;
              last = as_part driver.kind (after_of sections names) u x r.files own.told own.maps t2 t3 last_names last zero_last after;
              text_is = after.text_is ∙ ap (λ l. l ++ said_by after.turns) (actor.text_is ∙ ap (λ l. l ++ said_by actor.turns) (setup.text_is ∙ ap (λ l. l ++ said_by setup.turns) empty));
              did_is = refl;
              left_is = refl;
            },
            grows_on core v w x (did_by setup.turns) (did_by actor.turns ++ did_by after.turns) setup.grew (grows_on core w u x (did_by actor.turns) (did_by after.turns) actor.grew after.grew),
            record {
              setup = seen_more v.room (length w.seen) (length x.seen) setup.turns (omega arith) setup.seen;
              actor = subst (λ (room : ℕ). AreSeen room (length x.seen) actor.turns) setup.grew.room (seen_more w.room (length u.seen) (length x.seen) actor.turns later actor.seen);
              last = subst (λ (room : ℕ). AreSeen room (length x.seen) after.turns) (actor.grew.room ∙ setup.grew.room) after.seen;
            },
            refl,
          )

-- The first actor of a new device finds no full history before as many entries as the history takes.
pub never_full : (limit : ℕ) (v w : OneView) → v ≡ newcomer 0 limit [] 1 [] [] → NoStrangers w w.seen → StoppedBelow limit v w → ⊥
never_full limit v w new strangers s =
    let grew : Grew core v (s.did ++ []) w = grows_on core v s.view w s.did [] s.grew s.full.grew in
    let seen : w.seen ≡ entries_in (s.did ++ []) = first_actor_sees_itself limit v w (s.did ++ []) new grew strangers in
    let room : s.view.room ≡ limit = s.grew.room ∙ ap (λ (x : OneView). x.room) new in
    let count : length w.seen ≡ length s.did = ap (λ (l : List OneEntry). length l) seen ∙ length_entries (s.did ++ []) ∙ ap (λ (l : List OneDeed). length l) (append-nil s.did) in
    let full = s.full.full in let few = s.few in omega arith

module _ (driver : DriverOver) (limit : driver.kind.limit ≤ 8) (sections : List SaidSection) (before left : Option Told) (text : List ℕ) (m : Maps) (v w : OneView) (history : List OneEntry) where
  -- where no port keeps maps
  came_plainly : (did : List OneDeed) (played : PlayedSession driver sections before text did left) → IsAlone history did → KeepsNoMaps driver sections → CameWithEntries driver.kind sections before text left (length history)
  came_plainly did played alone none =
      let prints = prints_one driver sections before left text did history none played alone in record {
        came = record {
          answers = tells_in history;
          prints = prints.0;
          takes = prints.1;
          within = (let fits = sessions_keep_within_cost driver limit sections before left text did played in
              let count : length history ≡ length did = ap (λ (l : List OneEntry). length l) alone.entries ∙ length_entries did in let makes = prints.2 in omega arith);
          as_planned = λ yes t is. answers_as_planned driver yes sections t left text did history none (subst (λ (o : Option Told). PlayedSession driver sections o text did left) is played) alone;
          port = (port_tells driver).whole sections before left text did history none played alone;
          tells = λ t is. (port_tells driver).answers sections t left text did history none (subst (λ (o : Option Told). PlayedSession driver sections o text did left) is played) alone;
        };
        makes = sym prints.2;
      }

  came_over : (given : List Answering) → text ≡ one_over driver.kind.limit driver.maps_left sections given → taken_over driver.kind.limit driver.maps_left sections given ≡ given
      → entries_over driver.kind.limit driver.maps_left sections given ≤ session_cost sections
      → Each (IsLawfulCall driver.kind (session_cost sections)) (asked_over driver.kind.limit driver.maps_left sections given before) → left ≡ told_over driver.kind.limit driver.maps_left sections given before
      → m ≡ maps_over driver.kind.limit driver.maps_left sections given → CameToOneOver driver sections before text left m
  came_over given prints takes within lawful port kept = record {
    given = given;
    prints = prints;
    takes = takes;
    within = within;
    lawful = lawful;
    port = port;
    tells = tells_given driver (session_cost sections) sections given before left takes lawful port;
    maps = kept;
  }

  pub came_with_entries : v ≡ newcomer 0 (session_cost sections) [] 1 [] [] → HasPlayed driver sections before text left m v w → Legal core history → StartsWith history w.seen → entries_of 0 history ≡ w.mine
      → ((n : ℕ) → w.made ≤ n → entries_of n history ≡ []) → CameAloneWith driver sections before text left m (length history)
  came_with_entries new (did, played, grew, seen, kept) legal begins mine others =
      let alone = first_actor_is_alone (session_cost sections) v w did history new grew legal begins mine others in
      let given : List Answering = given_of driver sections before text did left played in
      let prints = prints_over driver sections before left text did history played alone in
      let fits = sessions_keep_within_cost driver limit sections before left text did played in
      let count : length history ≡ length did = ap (λ (l : List OneEntry). length l) alone.entries ∙ length_entries did in
      let room : v.room ≡ session_cost sections = ap (λ (x : OneView). x.room) new in
      let less : length w.seen ≤ session_cost sections = (let long = no_shorter history w.seen begins in omega arith) in record {
        over = came_over given prints.0 prints.1 (let makes = prints.2 in omega arith)
            (asks_lawfully driver sections before left text did history played alone (record {
              setup = seen_more (session_cost sections) (length w.seen) (session_cost sections) played.setup.played.turns less (subst (λ (k : ℕ). AreSeen k (length w.seen) played.setup.played.turns) room seen.setup);
              actor = seen_more (session_cost sections) (length w.seen) (session_cost sections) played.actor.played.turns less (subst (λ (k : ℕ). AreSeen k (length w.seen) played.actor.played.turns) room seen.actor);
              last = seen_more (session_cost sections) (length w.seen) (session_cost sections) played.last.played.turns less (subst (λ (k : ℕ). AreSeen k (length w.seen) played.last.played.turns) room seen.last);
            }))
            ((port_tells driver).over sections before left text did history played alone) (kept ∙ sym prints.3);
        plainly = λ none. came_plainly did played alone none;
      }
