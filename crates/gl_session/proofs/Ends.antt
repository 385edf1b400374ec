-- The end of a session of several actors: what all promises say of the one history.
use Rattle.std.proofs.Common.{◌≡◌, ◌⊎◌, ⊎_elim, inl, inr, ℕ, zero, suc, ◌+◌, ◌<◌, ◌≤◌, List, [], ◌∷◌, ◌++◌, length, length-append, map, sym, refl, ap, ◌∙◌, subst, arith, Option, Result, Ok}
use Rattle.std.proofs.lemmas.List.{append_assoc, length-map}
use mathlib.Core.Logic.{dite}
use native.Mathlib.Decide.{ℕ_discrete}
use Rattle.gl_base.specs.declared.errno.Errno.{Errno}
use Rattle.gl_world.specs.Deeds.{deeds_from, deeds_of}
use Rattle.gl_world.specs.History.{Legal, StartsWith, entries_of, fold}
use Rattle.gl_world.proofs.Deeds.{deeds_append, deeds_stay}
use Rattle.gl_world.proofs.Histories.{entries_append, entries_none}
use Rattle.gl_gate.specs.Calls.{HasAllOf, HasItsOwn}
use Rattle.gl_gate.proofs.Grown.{begins_further, grown_has_its_own}
use Rattle.gl_rule.specs.Views.{newcomer}
use Rattle.gl_client.specs.Program.{done}
use Rattle.gl_driver.specs.Told.{Told}
use Rattle.gl_script.specs.Cost.{session_cost}
use Rattle.gl_script.specs.Section.{SaidSection}
use Rattle.gl_talk.specs.Open.{Names}
use Rattle.gl_core.specs.Device.{OneDeed, OneEntry, core}
use Rattle.gl_chip.specs.Values.{OneView}
use Rattle.gl_check.specs.Drivers.{DriverOver, start_maps}
use Rattle.gl_check.specs.Joining.{Maps}
use Rattle.gl_check.specs.Programs.{after_of, setup_of}
use Rattle.gl_check.specs.Many.{ActorsPlayedBelow, AllPlayedBelow, actor_sections, program_of}
use Rattle.gl_session.specs.Performed.{PlaysOn}
use Rattle.gl_check.specs.Turns.{AreSeen, Carried, Follows, Played, carried, did_by}
use Rattle.gl_session.specs.Workers.{AreKept, HasJoined, HasSplit, IsKept}
use Rattle.gl_session.proofs.Seen.{no_shorter, seen_more}

nothing_more : (xs ys : List OneEntry) → xs ++ ys ≡ xs → ys ≡ []
nothing_more xs [] e = refl
nothing_more xs (y ∷ ys) e = let l = length-append xs (y ∷ ys) in let k : length (xs ++ y ∷ ys) ≡ length xs = ap (λ l. length l) e in absurd (omega arith)

nothing_behind : (xs ys : List OneEntry) → xs ++ ys ≡ [] → ys ≡ []
nothing_behind [] ys e = e
nothing_behind (x ∷ xs) ys e = let z : length (x ∷ (xs ++ ys)) ≡ 0 = ap (λ l. length l) e in absurd (omega arith)

append_cancel : (xs ys zs : List OneDeed) → xs ++ ys ≡ xs ++ zs → ys ≡ zs
append_cancel [] ys zs e = e
append_cancel (x ∷ xs) ys zs e = append_cancel xs ys zs (ap rest_of e)
  where
    rest_of : List OneDeed → List OneDeed
    rest_of [] = []
    rest_of (d ∷ ds) = ds

-- what stands after a beginning that has all of an actor's entries has none of them
none_behind : (n : ℕ) (seen rest mine : List OneEntry) → entries_of n (seen ++ rest) ≡ mine → entries_of n seen ≡ mine → entries_of n rest ≡ []
none_behind n seen rest mine all before = nothing_more (entries_of n seen) (entries_of n rest) (sym (entries_append n seen rest) ∙ (all ∙ sym before))

none_last : (n : ℕ) (xs ys : List OneEntry) → entries_of n (xs ++ ys) ≡ [] → entries_of n ys ≡ []
none_last n xs ys e = nothing_behind (entries_of n xs) (entries_of n ys) (sym (entries_append n xs ys) ∙ e)

-- a promise that was kept, of one of several numbers
module _ (driver : DriverOver) (m : Maps) (sections : List SaidSection) (before left : ℕ → Option Told) (v : OneView) where
  pub kept_at : (first : OneView) (k : ℕ) (texts : List (Result (List ℕ) Errno)) → AreKept driver.kind m (program_of sections) before left v first k texts → (n : ℕ) → k ≤ n → n < k + length texts → (t : Result (List ℕ) Errno) × IsKept driver.kind m (program_of sections) before left v first n t
  kept_at first k [] h n low high = absurd (omega arith)
  kept_at first k (t ∷ ts) h n low high = dite (ℕ_discrete k n)
      (λ same. (t, subst (λ j. IsKept driver.kind m (program_of sections) before left v first j t) same h.0))
      (λ other. let ne : (k ≡ n → ⊥) = other in kept_at first (k + 1) ts h.1 n (above k n low ne) (omega arith))
    where
      above : (k n : ℕ) → k ≤ n → (k ≡ n → ⊥) → k + 1 ≤ n
      above k n low ne = omega arith

  module _ (history : List OneEntry) (first : OneView) (begins : StartsWith history first.seen) (all : HasAllOf first.joined history) (room_is : v.room ≡ session_cost sections) where
    -- the deeds of such an actor in the history are those that it knew of
    abbrev kept_deeds : (n : ℕ) (t : List ℕ) (k : IsKept driver.kind m (program_of sections) before left v first n (Ok t))
        → Played driver.kind n (program_of sections n) (carried [] (before n) m) t (deeds_of core n history) k.came.names (carried k.came.files (left n) k.came.maps_then)
    kept_deeds n t k = record {
      turns = k.came.played.turns;
      follows = k.came.played.follows;
      text_is = k.came.played.text_is;
      did_is = deeds_stay core n history k.saw (begins_further history first.seen k.saw begins k.begins) (all k.place (record { number = n; mine = k.mine }) k.joined ∙ sym k.own) ∙ k.came.played.did_is;
    }

    pub kept_played : (n : ℕ) (texts : List (List ℕ)) → AreKept driver.kind m (program_of sections) before left v first n (map Ok texts) → ActorsPlayedBelow driver before left sections history (length history) m n texts
    kept_played n [] h = tt
    kept_played n (t ∷ ts) h = (
      record {
        names = h.0.came.names;
        behind = carried h.0.came.files (left n) h.0.came.maps_then;
        played = kept_deeds n t h.0;
        within = subst (λ (room : ℕ). AreSeen room (length history) h.0.came.played.turns) room_is
            (seen_more v.room (length h.0.saw) (length history) h.0.came.played.turns (no_shorter history h.0.saw (begins_further history first.seen h.0.saw begins h.0.begins)) h.0.came.seen);
        left_is = refl;
      },
      kept_played (n + 1) ts h.1,
    )

    -- and after what the first actor had seen as it took them in, there is no entry of them
    kept_last : (last : List OneEntry) → history ≡ first.seen ++ last → (n : ℕ) (t : Result (List ℕ) Errno) → IsKept driver.kind m (program_of sections) before left v first n t → entries_of n last ≡ []
    kept_last last is n t k = let rest : List OneEntry = k.begins.0 in let whole : history ≡ k.saw ++ (rest ++ last) = is ∙ (ap (λ l. l ++ last) k.begins.1 ∙ append_assoc k.saw rest last) in
        none_last n rest last (none_behind n k.saw (rest ++ last) k.mine (ap (λ l. entries_of n l) (sym whole) ∙ all k.place (record { number = n; mine = k.mine }) k.joined) k.own)

side : (n k : ℕ) → (n < k) ⊎ (k ≤ n)
side n zero = inr (omega arith)
side zero (suc k) = inl (omega arith)
side (suc n) (suc k) = ⊎_elim (λ h. inl (omega arith)) (λ h. inr (omega arith)) (side n k)

-- v0: the first actor at the beginning; v1: after `setup`; v2: after the others were made; v3: after they were taken in; v4: after `after`
pub all_played : (driver : DriverOver) (before left : ℕ → Option Told) (sections : List SaidSection) (made_count joined_count : ℕ) (v0 v1 v2 v3 v4 : OneView) (names end : Names) (waiting behind : Carried) (first_text last_text : List ℕ) (texts : List (List ℕ)) (history : List OneEntry)
    → v0 ≡ newcomer 0 (session_cost sections) [] 1 [] []
    → PlaysOn driver.kind (setup_of sections) v0 (carried [] (before 0) (start_maps driver)) [] (done names) v1 waiting first_text
    → HasSplit v1 made_count v2 → HasJoined v2 joined_count v3 → AreKept driver.kind waiting.maps (program_of sections) before left v1 v3 1 (map Ok texts) → HasItsOwn v3
    → PlaysOn driver.kind (after_of sections names) v3 waiting [] (done end) v4 behind last_text
    → behind.told ≡ left 0
    → Legal core history → StartsWith history v4.seen → entries_of 0 history ≡ v4.mine → HasAllOf v4.joined history → ((n : ℕ) → v4.made ≤ n → entries_of n history ≡ [])
    → made_count ≡ length texts → length texts ≡ length (actor_sections sections)
    → (all : AllPlayedBelow driver before left sections history (length history) (record { setup = first_text; actors = texts; last = last_text })) × (all.behind.maps ≡ behind.maps)
all_played driver before left sections made_count joined_count v0 v1 v2 v3 v4 names end waiting behind first_text last_text texts history new setup split joined kept own3 after left_is legal begins mine all others split_all as_many =
    let results : List (Result (List ℕ) Errno) = map Ok texts in
    let as_results : length results ≡ length texts = length-map texts Ok in
    let d1 : List OneDeed = did_by setup.turns in let d2 : List OneDeed = did_by after.turns in
    let grew1 = setup.grew in let grew2 = after.grew in
    let number0 : v0.number ≡ 0 = ap (λ (v : OneView). v.number) new in
    let room1 : v1.room ≡ session_cost sections = grew1.room ∙ ap (λ (v : OneView). v.room) new in
    let room3 : v3.room ≡ session_cost sections = joined.room ∙ (split.room ∙ room1) in
    let number1 : v1.number ≡ 0 = grew1.number ∙ number0 in
    let number3 : v3.number ≡ 0 = joined.number ∙ (split.number ∙ number1) in
    let number4 : v4.number ≡ 0 = grew2.number ∙ number3 in
    let own0 : HasItsOwn v0 = subst (λ (v : OneView). HasItsOwn v) (sym new) refl in
    let own1 : HasItsOwn v1 = grown_has_its_own core v0 v1 d1 own0 grew1 in
    let own4 : HasItsOwn v4 = grown_has_its_own core v3 v4 d2 own3 grew2 in
    let first : List OneEntry = v1.seen in
    let whole3 : StartsWith v3.seen first = subst (λ l. StartsWith v3.seen l) split.seen joined.seen in
    let middle : List OneEntry = whole3.0 in
    let begins3 : StartsWith history v3.seen = begins_further history v4.seen v3.seen begins grew2.seen in
    let last : List OneEntry = begins3.0 in
    let all3 : HasAllOf v3.joined history = subst (λ l. HasAllOf l history) grew2.joined all in
    let made : v4.made ≡ 1 + length texts = (let a : v0.made ≡ 1 = ap (λ (v : OneView). v.made) new in let b = grew1.made in let c = split.made in let d = joined.made in let e = grew2.made in omega arith) in
    let own_first : entries_of 0 first ≡ v1.mine = ap (λ k. entries_of k v1.seen) (sym number1) ∙ own1 in
    let own_third : entries_of 0 v3.seen ≡ v1.mine = ap (λ k. entries_of k v3.seen) (sym number3) ∙ (own3 ∙ (joined.mine ∙ split.mine)) in
    let deeds1 : deeds_of core 0 first ≡ d1 = ap (λ k. deeds_of core k v1.seen) (sym number0) ∙ (grew1.deeds ∙ ap (λ (v : OneView). deeds_of core v.number v.seen ++ d1) new) in
    let to_v4 : deeds_of core 0 history ≡ deeds_of core 0 v4.seen = deeds_stay core 0 history v4.seen begins (mine ∙ sym (ap (λ k. entries_of k v4.seen) (sym number4) ∙ own4)) in
    let v4_is : deeds_of core 0 v4.seen ≡ deeds_of core 0 v3.seen ++ d2 = ap (λ k. deeds_of core k v4.seen) (sym number3) ∙ (grew2.deeds ∙ ap (λ k. deeds_of core k v3.seen ++ d2) number3) in
    let cut : deeds_of core 0 history ≡ deeds_of core 0 v3.seen ++ deeds_from core (fold core v3.seen) 0 last = ap (λ l. deeds_of core 0 l) begins3.1 ∙ deeds_append core core.opening 0 v3.seen last in
    let deeds2 : deeds_from core (fold core v3.seen) 0 last ≡ d2 = sym (append_cancel (deeds_of core 0 v3.seen) d2 (deeds_from core (fold core v3.seen) 0 last) (sym (to_v4 ∙ v4_is) ∙ cut)) in
    let no_number : (n : ℕ) → 1 + length texts ≤ n → entries_of n history ≡ [] = λ n far. others n (subst (λ k. k ≤ n) (sym made) far) in
    let whole1 : history ≡ first ++ (middle ++ last) = begins3.1 ∙ (ap (λ l. l ++ last) whole3.1 ∙ append_assoc first middle last) in (
      record {
        legal = legal;
        first = first;
        middle = middle;
        last = last;
        is = begins3.1 ∙ ap (λ l. l ++ last) whole3.1;
        others_not_first = λ n positive. ⊎_elim (λ near. (kept_at driver waiting.maps sections before left v1 v3 1 results kept n positive (let same = as_results in omega arith)).1.nothing_before)
            (λ far. entries_none n first (middle ++ last) (ap (λ l. entries_of n l) (sym whole1) ∙ no_number n far)) (side n (1 + length texts));
        zero_not_between = none_behind 0 first middle v1.mine (ap (λ l. entries_of 0 l) (sym whole3.1) ∙ own_third) own_first;
        others_not_last = λ n positive. ⊎_elim (λ near. let k = kept_at driver waiting.maps sections before left v1 v3 1 results kept n positive (let same = as_results in omega arith) in kept_last driver waiting.maps sections before left v1 history v3 begins3 all3 room1 last begins3.1 n k.0 k.1)
            (λ far. none_last n v3.seen last (ap (λ l. entries_of n l) (sym begins3.1) ∙ no_number n far)) (side n (1 + length texts));
        names = names;
        waiting = waiting;
        setup = record {
          turns = setup.turns;
          follows = subst (λ k. Follows driver.kind k (setup_of sections) (carried [] (before 0) (start_maps driver)) setup.turns (done names) waiting) number0 setup.follows;
          text_is = setup.text_is;
          did_is = deeds1;
        };
        setup_within = subst (λ (room : ℕ). AreSeen room (length history) setup.turns) (ap (λ (v : OneView). v.room) new)
            (seen_more v0.room (length v1.seen) (length history) setup.turns (no_shorter history v1.seen (middle ++ last, whole1)) setup.seen);
        end = end;
        behind = behind;
        after = record {
          turns = after.turns;
          follows = subst (λ k. Follows driver.kind k (after_of sections names) waiting after.turns (done end) behind) number3 after.follows;
          text_is = after.text_is;
          did_is = ap (λ (l : List OneEntry). deeds_from core (fold core l) 0 last) (sym whole3.1) ∙ deeds2;
        };
        after_within = subst (λ (room : ℕ). AreSeen room (length history) after.turns) room3 (seen_more v3.room (length v4.seen) (length history) after.turns (no_shorter history v4.seen begins) after.seen);
        left_is = left_is;
        actors = kept_played driver waiting.maps sections before left v1 history v3 begins3 all3 room1 1 texts kept;
        as_many = as_many;
        nobody_else = λ n far. no_number n (let m = as_many in omega arith);
      },
      refl,
    )
