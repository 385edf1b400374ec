-- No history is full before a session has ended: where an actor found it so, no history fits what the first actor knows then.
use Rattle.std.proofs.Common.{◌≡◌, ℕ, zero, suc, ◌+◌, ◌<◌, ◌≤◌, false, List, [], ◌∷◌, ◌++◌, length, length-append, get_or, map, Option, Result, Ok, Err, refl, sym, ap, ◌∙◌, subst, arith}
use Rattle.std.specs.List.{Contains}
use Rattle.std.proofs.lemmas.List.{append-nil, length-map}
use Rattle.gl_base.specs.declared.errno.Errno.{Errno}
use Rattle.gl_base.specs.declared.errno.Errno.TheVariants.{NoMemory}
use Rattle.gl_world.specs.Deeds.{deeds_of, entries_in}
use Rattle.gl_world.specs.History.{entries_of}
use Rattle.gl_world.proofs.Deeds.{deeds_entries}
use Rattle.gl_rule.specs.Views.{newcomer}
use Rattle.gl_gate.specs.Calls.{HasAllOf}
use Rattle.gl_gate.specs.Grown.{Grew}
use Rattle.gl_gate.proofs.Grown.{grows_on}
use Rattle.gl_client.specs.Program.{done}
use Rattle.gl_driver.specs.Told.{Told}
use Rattle.gl_script.specs.Cost.{has_aggregate, session_cost, with_own}
use Rattle.gl_script.specs.Section.{SaidSection}
use Rattle.gl_script.specs.declared.section.SectionKind.TheVariants.{Actor, After, Setup}
use Rattle.gl_talk.specs.Open.{Names}
use Rattle.gl_core.specs.Device.{OneDeed, OneEntry, core}
use Rattle.gl_chip.specs.Values.{OneView}
use Rattle.gl_check.specs.Drivers.{DriverOver, start_maps}
use Rattle.gl_check.specs.Joining.{Maps, asking_with}
use Rattle.gl_check.specs.Programs.{after_of, setup_of}
use Rattle.gl_check.specs.Many.{actor_sections, program_of}
use Rattle.gl_session.specs.Performed.{PlaysOn, StoppedFull}
use Rattle.gl_check.specs.Turns.{Carried, carried, did_by}
use Rattle.gl_session.specs.Within.{cost_in_kind}
use Rattle.gl_session.specs.Workers.{AreKept, CannotEnd, HasForked, HasForkedFull, IsKept, told_at}
use Rattle.gl_session.proofs.Alone.{first_actor_is_alone}
use Rattle.gl_session.proofs.Counting.{count, count_all, count_costs, own_costs, played_within, section_costs}
use Rattle.gl_session.proofs.NoChips.{asks_none, turns_stay}
use Rattle.gl_session.proofs.OneHistories.{length_entries}
use Rattle.gl_session.proofs.Seen.{no_shorter}
use Rattle.gl_session.proofs.Together.{costs, count_below, made, section_at}
use Rattle.gl_session.proofs.Whole.{call_of, stops_in_setup}
use Rattle.gl_session.proofs.Within.{below, few_behind, few_in, own_most, own_none, own_plus, parts_cost, sessions_cost_their_parts, within}

-- The other actors, as the first one took them in: together they have no more entries than their sections cost, and fewer where one of
-- them found the history full.
module _ (driver : DriverOver) (limit : driver.kind.limit ≤ 8) (sections : List SaidSection) (m : Maps) (bare : has_aggregate sections ≡ false → m.kept ≡ []) (start left : ℕ → Option Told) (v w : OneView) (history : List OneEntry) (all : HasAllOf w.joined history) where
  abbrev Kept : ℕ → Result (List ℕ) Errno → Type 0
  Kept n text = IsKept driver.kind m (program_of sections) start left v w n text

  abbrev counted : ℕ → ℕ
  counted n = with_own (has_aggregate sections) n

  kept_nth : (n : ℕ) (texts : List (Result (List ℕ) Errno)) → AreKept driver.kind m (program_of sections) start left v w n texts → (i k : ℕ) (d : Result (List ℕ) Errno) → i < length texts → n + i ≡ k → Kept k (get_or texts i d)
  kept_nth n [] h i k d less is = absurd (omega arith)
  kept_nth n (t ∷ ts) h zero k d less is = let same : n ≡ k = omega arith in subst (λ j. Kept j t) same h.0
  kept_nth n (t ∷ ts) h (suc i) k d less is = kept_nth (n + 1) ts h.1 i k d (omega arith) (omega arith)

  entries_are : (n : ℕ) (t : Result (List ℕ) Errno) (k : Kept n t) → entries_of n history ≡ entries_of n k.saw
  entries_are n t k = all k.place (record { number = n; mine = k.mine }) k.joined ∙ sym k.own

  one_within : (i : ℕ) (t : Result (List ℕ) Errno) → Kept (suc i) t → length (entries_of (suc i) history) ≤ counted (section_costs (section_at sections i))
  one_within i (Ok text) k =
      let bounded = played_within (has_aggregate sections) driver.kind (suc i) (section_costs (section_at sections i)) (program_of sections (suc i)) (carried [] (start (suc i)) m) (carried k.came.files (left (suc i)) k.came.maps_then) text (deeds_of core (suc i) k.saw) k.came.names
      (entries_of (suc i) history) (costs sections i) k.came.played (few_behind driver sections limit (suc i) _ _ k.came.played.turns _ _ k.came.played.follows (λ without. (asks_none sections without).actors (suc i)) bare)
      (deeds_entries core core.opening (suc i) k.saw ∙ sym (entries_are (suc i) (Ok text) k)) in
      let files = own_plus (has_aggregate sections) (section_costs (section_at sections i)) 0 in let nothing = own_none (has_aggregate sections) in omega (arith, bounded)
  one_within i (Err errno) k =
      let bounded = within (has_aggregate sections) driver.kind (suc i) k.came.turns (section_costs (section_at sections i)) (program_of sections (suc i)) (carried [] (start (suc i)) m) _ k.came.behind (costs sections i) k.came.follows
      (few_behind driver sections limit (suc i) _ _ k.came.turns _ k.came.behind k.came.follows (λ without. (asks_none sections without).actors (suc i)) bare) in
      let many = made (suc i) k.saw k.came.turns k.came.did in let files = own_plus (has_aggregate sections) (section_costs (section_at sections i)) 0 in let nothing = own_none (has_aggregate sections) in
      let same : length (entries_of (suc i) history) ≡ length (entries_of (suc i) k.saw) = ap (λ (es : List OneEntry). length es) (entries_are (suc i) (Err errno) k) in omega (arith, bounded.2)

  one_below : (i : ℕ) (errno : Errno) → Kept (suc i) (Err errno) → length (entries_of (suc i) history) < counted (section_costs (section_at sections i))
  one_below i errno k =
      let call = call_of (asking_with k.came.behind.maps k.came.behind.files k.came.what) k.came.calls in
      let fewer = below (has_aggregate sections) driver.kind (suc i) (section_costs (section_at sections i)) (program_of sections (suc i)) (carried [] (start (suc i)) m) k.came.turns k.came.what k.came.later k.came.behind call.0 (costs sections i) k.came.follows
      (few_behind driver sections limit (suc i) _ _ k.came.turns _ k.came.behind k.came.follows (λ without. (asks_none sections without).actors (suc i)) bare) call.1 in
      let many = made (suc i) k.saw k.came.turns k.came.did in let files = own_plus (has_aggregate sections) (section_costs (section_at sections i)) 0 in let nothing = own_none (has_aggregate sections) in
      let same : length (entries_of (suc i) history) ≡ length (entries_of (suc i) k.saw) = ap (λ (es : List OneEntry). length es) (entries_are (suc i) (Err errno) k) in omega arith

  module _ (texts : List (Result (List ℕ) Errno)) (kept : AreKept driver.kind m (program_of sections) start left v w 1 texts) (as_many : length texts ≡ length (actor_sections sections)) where
    each_within : (i : ℕ) → i < length (actor_sections sections) → length (entries_of (1 + i) history) ≤ counted (section_costs (section_at sections i))
    each_within i less = let n : suc i ≡ 1 + i = omega arith in
        subst (λ k. length (entries_of k history) ≤ counted (section_costs (section_at sections i))) n (one_within i (get_or texts i (Err NoMemory)) (kept_nth 1 texts kept i (suc i) (Err NoMemory) (omega arith) (omega arith)))

    pub others_within : count (length (actor_sections sections)) 1 history ≤ counted (cost_in_kind Actor sections)
    others_within = let same = own_costs (has_aggregate sections) sections in let sum = count_costs (λ section. counted (section_costs section)) history 1 (actor_sections sections) each_within in omega arith

    pub others_below : (errno : Errno) → Contains texts (Err errno) → count (length (actor_sections sections)) 1 history < counted (cost_in_kind Actor sections)
    others_below errno at = let less : at.0 < length texts = at.1 in
        let k : Kept (suc at.0) (Err errno) = subst (λ t. Kept (suc at.0) t) at.2 (kept_nth 1 texts kept at.0 (suc at.0) (Err errno) less (omega arith)) in
        let n : suc at.0 ≡ 1 + at.0 = omega arith in
        let fewer : length (entries_of (1 + at.0) history) < counted (section_costs (section_at sections at.0)) = subst (λ j. length (entries_of j history) < counted (section_costs (section_at sections at.0))) n (one_below at.0 errno k) in
        let sum = count_below (λ section. counted (section_costs section)) history 1 (actor_sections sections) each_within at.0 (omega arith) fewer in
        let same = own_costs (has_aggregate sections) sections in omega arith

-- v0: the first actor at the beginning; v1: after `setup`
module _ (driver : DriverOver) (limit : driver.kind.limit ≤ 8) (sections : List SaidSection) (v0 : OneView) (told : Option Told) (new : v0 ≡ newcomer 0 (session_cost sections) [] 1 [] []) where
  pub full_in_setup : (w : OneView) → StoppedFull driver.kind (setup_of sections) v0 (carried [] told (start_maps driver)) w → CannotEnd w
  full_in_setup w stopped =
      let s = stops_in_setup driver limit sections v0 w told (ap (λ (v : OneView). v.number) new) stopped in
      let grew : Grew core v0 (s.did ++ []) w = grows_on core v0 s.view w s.did [] s.grew s.full.grew in
      let room : s.view.room ≡ session_cost sections = s.grew.room ∙ ap (λ (v : OneView). v.room) new in
      let none : length w.joined ≡ 0 = ap (λ l. length l) (grew.joined ∙ ap (λ (v : OneView). v.joined) new) in
      let alone : w.made ≡ 1 = grew.made ∙ ap (λ (v : OneView). v.made) new in record {
        number = grew.number ∙ ap (λ (v : OneView). v.number) new;
        all_joined = omega arith;
        no_history = λ history legal begins mine all others.
            let is = first_actor_is_alone (session_cost sections) v0 w (s.did ++ []) history new grew legal begins mine others in
            let many : length history ≡ length s.did = ap (λ (l : List OneEntry). length l) is.entries ∙ length_entries (s.did ++ []) ∙ ap (λ (l : List OneDeed). length l) (append-nil s.did) in
            let long = no_shorter history w.seen begins in let full = s.full.full in let few = s.few in omega arith;
      }

  module _ (v1 : OneView) (names : Names) (waiting : Carried) (t0 t1 : List ℕ) (setup : PlaysOn driver.kind (setup_of sections) v0 (carried [] told (start_maps driver)) t0 (done names) v1 waiting t1) where
    room_is : v1.room ≡ session_cost sections
    room_is = setup.grew.room ∙ ap (λ (v : OneView). v.room) new

    own_are : v1.mine ≡ entries_in (did_by setup.turns)
    own_are = setup.grew.mine ∙ ap (λ (v : OneView). v.mine ++ entries_in (did_by setup.turns)) new

    bare : has_aggregate sections ≡ false → waiting.maps.kept ≡ []
    bare without = ap (λ (m : Maps). m.kept) (turns_stay driver.kind v0.number _ _ setup.turns _ waiting (asks_none sections without).setup setup.follows).1

    few_own : length (did_by setup.turns) + with_own (has_aggregate sections) (length waiting.files) ≤ with_own (has_aggregate sections) (cost_in_kind Setup sections)
    few_own =
        let bounded = within (has_aggregate sections) driver.kind v0.number setup.turns (cost_in_kind Setup sections) (setup_of sections) (carried [] told (start_maps driver)) (done names) waiting (sessions_cost_their_parts sections).setup setup.follows
        (few_in driver sections limit waiting.maps bare) in
        let less = own_most (has_aggregate sections) (length waiting.files) (length waiting.files + bounded.0) (omega arith) in
        let files = own_plus (has_aggregate sections) (cost_in_kind Setup sections) 0 in
        let nothing = own_none (has_aggregate sections) in omega (arith, bounded.2)

    -- one of the others found it full
    pub full_at_fork : (start : ℕ → Option Told) (w : OneView) → HasForkedFull driver.kind waiting.maps (program_of sections) start (length (actor_sections sections)) v1 w → CannotEnd w
    full_at_fork start w f =
        let none : length v1.joined ≡ 0 = ap (λ l. length l) (setup.grew.joined ∙ ap (λ (v : OneView). v.joined) new) in
        let first : v1.made ≡ 1 = setup.grew.made ∙ ap (λ (v : OneView). v.made) new in
        let split_made = f.split.made in let joined_made = f.joined.made in let joined = f.joined.joined in
        let before : length f.between.joined ≡ length v1.joined = ap (λ l. length l) f.split.joined in record {
          number = f.joined.number ∙ f.split.number ∙ setup.grew.number ∙ ap (λ (v : OneView). v.number) new;
          all_joined = omega arith;
          no_history = λ history legal begins mine all others.
              let zeroth : length (entries_of 0 history) ≡ length (did_by setup.turns) =
              ap (λ (l : List OneEntry). length l) (mine ∙ f.joined.mine ∙ f.split.mine ∙ own_are) ∙ length_entries (did_by setup.turns) in
              let fewer = others_below driver limit sections waiting.maps bare start f.left v1 w history all f.texts f.kept f.as_many f.errno f.stopped in
              let total = count_all (suc (length (actor_sections sections))) history (λ n far. others n (omega arith)) in
              let whole = parts_cost sections in let own = few_own in
              let k = kept_nth driver limit sections waiting.maps bare start f.left v1 w history all 1 f.texts f.kept f.stopped.0 (1 + f.stopped.0) (Err f.errno) f.stopped.1 refl in
              let stood : IsKept driver.kind waiting.maps (program_of sections) start f.left v1 w (1 + f.stopped.0) (Err f.errno) = subst (λ t. IsKept driver.kind waiting.maps (program_of sections) start f.left v1 w (1 + f.stopped.0) t) f.stopped.2 k in
              let full : session_cost sections ≤ length stood.saw = subst (λ r. r ≤ length stood.saw) room_is stood.came.full in
              let seen = no_shorter w.seen stood.saw stood.begins in let long = no_shorter history w.seen begins in omega arith;
        }

    -- the first actor itself found it full, in `after`
    pub full_in_after : {P : Type 0} (tells : P → Option Told) (w x : OneView) (ports ports_then : List (Option P)) (texts : List (List ℕ)) (between : Option Told)
        → HasForked tells driver.kind waiting.maps (program_of sections) (length (actor_sections sections)) v1 ports w texts ports_then
        → StoppedFull driver.kind (after_of sections names) w (carried waiting.files between waiting.maps) x → CannotEnd x
    full_in_after tells w x ports ports_then texts between f s =
        let did : List OneDeed = did_by s.turns ++ [] in
        let grew : Grew core w did x = grows_on core w s.view x (did_by s.turns) [] s.grew s.full.1.grew in
        let none : length v1.joined ≡ 0 = ap (λ l. length l) (setup.grew.joined ∙ ap (λ (v : OneView). v.joined) new) in
        let first : v1.made ≡ 1 = setup.grew.made ∙ ap (λ (v : OneView). v.made) new in
        let split_made = f.split.made in let joined_made = f.joined.made in let joined = f.joined.joined in let made_then = grew.made in
        let before : length f.between.joined ≡ length v1.joined = ap (λ l. length l) f.split.joined in
        let then : length x.joined ≡ length w.joined = ap (λ l. length l) grew.joined in record {
          number = grew.number ∙ f.joined.number ∙ f.split.number ∙ setup.grew.number ∙ ap (λ (v : OneView). v.number) new;
          all_joined = omega arith;
          no_history = λ history legal begins mine all others.
              let own_then : x.mine ≡ entries_in (did_by setup.turns) ++ entries_in did = grew.mine ∙ ap (λ (l : List OneEntry). l ++ entries_in did) (f.joined.mine ∙ f.split.mine ∙ own_are) in
              let zeroth : length (entries_of 0 history) ≡ length (did_by setup.turns) + length (did_by s.turns) =
              ap (λ (l : List OneEntry). length l) (mine ∙ own_then) ∙ length-append (entries_in (did_by setup.turns)) (entries_in did)
              ∙ (λ i. length_entries (did_by setup.turns) i + (length_entries did ∙ ap (λ (l : List OneDeed). length l) (append-nil (did_by s.turns))) i) in
              let as_many : length (map Ok texts) ≡ length (actor_sections sections) = length-map texts Ok ∙ f.as_many in
              let others_few = others_within driver limit sections waiting.maps bare (told_at tells ports) (told_at tells ports_then) v1 w history (subst (λ l. HasAllOf l history) grew.joined all) (map Ok texts) f.kept as_many in
              let total = count_all (suc (length (actor_sections sections))) history (λ n far. others n (omega arith)) in
              let whole = parts_cost sections in let own = few_own in
              let call = call_of (asking_with s.then.maps s.then.files s.what) s.full.0 in
              let fewer = below (has_aggregate sections) driver.kind w.number (cost_in_kind After sections) (after_of sections names) (carried waiting.files between waiting.maps) s.turns s.what s.rest s.then call.0 ((sessions_cost_their_parts sections).last names) s.follows
              (few_behind driver sections limit w.number _ _ s.turns _ s.then s.follows (λ without. (asks_none sections without).after names) bare) call.1 in
              let files = own_plus (has_aggregate sections) (cost_in_kind After sections) (length waiting.files) in
              let full : session_cost sections ≤ length x.seen = subst (λ r. r ≤ length x.seen) (s.grew.room ∙ f.joined.room ∙ f.split.room ∙ room_is) s.full.1.full in
              let long = no_shorter history x.seen begins in omega arith;
        }
