-- A session of several actors makes no more entries than it costs.
use Rattle.std.proofs.Common.{◌≡◌, ◌≢◌, ℕ, zero, suc, ◌+◌, ◌-◌, ◌<◌, ◌≤◌, Bool, true, false, List, [], ◌∷◌, ◌++◌, length, length-append, get_or, Option, refl, sym, ap, ◌∙◌, subst, arith, eq-eqb, ne_eqb}
use Rattle.std.specs.Prelude.{cond, if◌then◌else◌, sum_by}
use Rattle.std.proofs.lemmas.List.Sums.{sum_by-append, sum_by-cons}
use mathlib.Core.Logic.{dite}
use native.Mathlib.Decide.{ℕ_discrete}
use Rattle.gl_base.specs.Words.{Span}
use Rattle.gl_world.specs.Deeds.{deeds_from, deeds_of, entries_in}
use Rattle.gl_world.specs.History.{entries_of, fold}
use Rattle.gl_world.proofs.Deeds.{deeds_entries}
use Rattle.gl_world.proofs.Histories.{entries_append, none_of}
use Rattle.gl_client.specs.Costs.{CostsAtMost}
use Rattle.gl_client.specs.Program.{Program, done}
use Rattle.gl_driver.specs.Told.{Told}
use Rattle.gl_script.specs.Cost.{has_aggregate, session_cost, with_own, words_cost}
use Rattle.gl_script.specs.Section.{SaidSection}
use Rattle.gl_script.specs.declared.section.SectionKind.TheVariants.{Setup, Actor, After}
use Rattle.gl_talk.specs.Open.{Names, no_names}
use Rattle.gl_talk.specs.Talk.{quits, talks}
use Rattle.gl_talk.proofs.StatementCosts.{end_cost, says_cost}
use Rattle.gl_core.specs.Device.{OneDeed, OneEntry, core}
use Rattle.gl_check.specs.Drivers.{DriverKind, DriverOver, start_maps}
use Rattle.gl_check.specs.Programs.{after_of, setup_of}
use Rattle.gl_check.specs.Many.{AllPlayedBelow, Texts, actor_sections, no_section, program_of, words_of}
use Rattle.gl_check.specs.One.{is_kind, said_in_kind}
use Rattle.gl_check.specs.Turns.{Carried, Played, carried, did_by}
use Rattle.gl_session.specs.Within.{cost_in_kind}
use Rattle.gl_session.proofs.Actors.{actor_at, none_waiting}
use Rattle.gl_session.proofs.NoChips.{asks_none}
use Rattle.gl_session.proofs.Within.{Few, few_behind, few_in, own_most, own_none, own_plus, parts_cost, sessions_cost_their_parts, sum_own, within}

-- how many entries so many actors have, from this number on
abbrev pub count : ℕ → ℕ → List OneEntry → ℕ
count zero n history = 0
count (suc k) n history = length (entries_of n history) + count k (suc n) history

module _ (e : OneEntry) (es : List OneEntry) where
  own : (n : ℕ) → e.actor ≡ n → length (entries_of n (e ∷ es)) ≡ suc (length (entries_of n es))
  own n is = ap (λ b. length (cond b (e ∷ entries_of n es) (entries_of n es))) (eq-eqb e.actor n is)

  anothers : (n : ℕ) → e.actor ≢ n → length (entries_of n (e ∷ es)) ≡ length (entries_of n es)
  anothers n ne = ap (λ b. length (cond b (e ∷ entries_of n es) (entries_of n es))) (ne_eqb e.actor n ne)

  not_counted : (k n : ℕ) → e.actor < n → count k n (e ∷ es) ≡ count k n es
  not_counted zero n less = refl
  not_counted (suc k) n less = let here = anothers n (λ same. absurd (omega (arith, same))) in let later = not_counted k (suc n) (omega arith) in omega arith

  counted_once : (k n : ℕ) → n ≤ e.actor → e.actor < n + k → count k n (e ∷ es) ≡ suc (count k n es)
  counted_once zero n low high = absurd (omega arith)
  counted_once (suc k) n low high = dite (ℕ_discrete e.actor n)
      (λ same. let here = own n same in let later = not_counted k (suc n) (omega (arith, same)) in omega arith)
      (λ other. let ne : e.actor ≢ n = other in let here = anothers n ne in let later = counted_once k (suc n) (omega arith) (omega arith) in omega arith)

-- where nobody else has an entry these are all
pub count_all : (k : ℕ) (history : List OneEntry) → ((n : ℕ) → k ≤ n → entries_of n history ≡ []) → length history ≡ count k 0 history
count_all k [] none = sym (nothing k 0)
  where
    nothing : (k n : ℕ) → count k n [] ≡ 0
    nothing zero n = refl
    nothing (suc k) n = let h = nothing k (suc n) in omega arith
count_all k (e ∷ es) none =
    let low : e.actor < k = lower e.actor (λ far. (none_of e.actor e es (none e.actor far)).0 refl) in
    let more = counted_once e es k 0 (omega arith) (omega arith) in
    let rest = count_all k es (λ n far. (none_of n e es (none n far)).1) in omega arith
  where
    lower : (n : ℕ) → (k ≤ n → ⊥) → n < k
    lower n not_far = omega arith

-- so many actors have no more entries than sections cost, where each has no more than its section
pub count_costs : (cost : SaidSection → ℕ) (history : List OneEntry) (n : ℕ) (sections : List SaidSection) → ((i : ℕ) → i < length sections → length (entries_of (n + i) history) ≤ cost (get_or sections i no_section))
    → count (length sections) n history ≤ sum_by cost sections
count_costs cost history n [] h = omega arith
count_costs cost history n (section ∷ sections) h =
    let first : length (entries_of n history) ≤ cost section = (let z : n + 0 ≡ n = omega arith in subst (λ k. length (entries_of k history) ≤ cost section) z (h 0 (omega arith))) in
    let later = count_costs cost history (suc n) sections (λ i less. let s : n + suc i ≡ suc n + i = omega arith in subst (λ k. length (entries_of k history) ≤ cost (get_or sections i no_section)) s (h (suc i) (omega arith))) in
    let whole = sum_by-cons cost section sections in omega arith

abbrev pub section_costs : SaidSection → ℕ
section_costs section = sum_by words_cost (words_of section)

pub actors_cost : (sections : List SaidSection) → sum_by section_costs (actor_sections sections) ≡ cost_in_kind Actor sections
actors_cost [] = refl
actors_cost (section ∷ sections) = by (is_kind Actor section.kind) (actors_cost sections)
  where
    said : List (List Span)
    said = words_of section

    by : (b : Bool) → sum_by section_costs (actor_sections sections) ≡ cost_in_kind Actor sections → sum_by section_costs (if b then section ∷ actor_sections sections else actor_sections sections) ≡ sum_by words_cost (if b then said ++ said_in_kind Actor sections else said_in_kind Actor sections)
    by true h = sum_by-cons section_costs section (actor_sections sections) ∙ ap (λ n. section_costs section + n) h ∙ sym (sum_by-append words_cost said (said_in_kind Actor sections))
    by false h = h

pub entries_length : (did : List OneDeed) → length (entries_in did) ≡ length did
entries_length [] = refl
entries_length (d ∷ did) = ap suc (entries_length did)

-- a program that was carried out made no more entries than it costs, counted once or five times
pub played_within : (b : Bool) (driver : DriverKind) (n limit : ℕ) (program : Program Names) (s r : Carried) (text : List ℕ) (did : List OneDeed) (names : Names) (es : List OneEntry) → CostsAtMost limit program
    → Played driver n program s text did names r → Few b driver r.maps → entries_in did ≡ es → length es + with_own b (length r.files) ≤ with_own b (limit + length s.files)
played_within b driver n limit program s r text did names es costs h few entries =
    let w = within b driver n h.turns limit program s (done names) r costs h.follows few in
    let less = own_most b (length r.files) (length r.files + w.0) (omega arith) in
    let same : length did ≡ length (did_by h.turns) = ap (λ (l : List OneDeed). length l) h.did_is in
    let many : length es ≡ length did = ap (λ (l : List OneEntry). length l) (sym entries) ∙ entries_length did in omega (arith, w.2)

-- what the sections of actors cost, each counted so
pub own_costs : (b : Bool) (sections : List SaidSection) → sum_by (λ section. with_own b (section_costs section)) (actor_sections sections) ≡ with_own b (cost_in_kind Actor sections)
own_costs b sections = sum_own b section_costs (actor_sections sections) ∙ ap (with_own b) (actors_cost sections)

pub within_cost : (driver : DriverOver) → driver.kind.limit ≤ 8 → (before left : ℕ → Option Told) (sections : List SaidSection) (history : List OneEntry) (most : ℕ) (texts : Texts)
    → AllPlayedBelow driver before left sections history most texts → length history ≤ session_cost sections
within_cost driver limit before left sections history most texts h =
    let costs = sessions_cost_their_parts sections in let whole = parts_cost sections in
    let actors : ℕ = length (actor_sections sections) in let many = h.as_many in
    let first = played_within (has_aggregate sections) driver.kind 0 (cost_in_kind Setup sections) (setup_of sections) (carried [] (before 0) (start_maps driver)) h.waiting texts.setup (deeds_of core 0 h.first) h.names (entries_of 0 h.first) costs.setup h.setup
    (few_in driver sections limit h.waiting.maps none) (deeds_entries core core.opening 0 h.first) in
    let last = played_within (has_aggregate sections) driver.kind 0 (cost_in_kind After sections) (after_of sections h.names) h.waiting h.behind texts.last (deeds_from core (fold core (h.first ++ h.middle)) 0 h.last) h.end (entries_of 0 h.last) (costs.last h.names) h.after
    (few_behind driver sections limit 0 _ _ h.after.turns _ h.behind h.after.follows (λ without. (asks_none sections without).after h.names) none) (deeds_entries core (fold core (h.first ++ h.middle)) 0 h.last) in
    let zeroth : length (entries_of 0 history) ≡ length (entries_of 0 h.first) + length (entries_of 0 h.last) =
    ap (λ (l : List OneEntry). length (entries_of 0 l)) h.is ∙ ap (λ (l : List OneEntry). length l) (entries_append 0 (h.first ++ h.middle) h.last)
    ∙ length-append (entries_of 0 (h.first ++ h.middle)) (entries_of 0 h.last)
    ∙ ap (λ (l : List OneEntry). length l + length (entries_of 0 h.last)) (entries_append 0 h.first h.middle ∙ ap (λ (l : List OneEntry). entries_of 0 h.first ++ l) h.zero_not_between)
    ∙ ap (λ n. n + length (entries_of 0 h.last)) (length-append (entries_of 0 h.first) [] ∙ plus_none (length (entries_of 0 h.first))) in
    let middle = count_costs (λ section. with_own (has_aggregate sections) (section_costs section)) history 1 (actor_sections sections) (λ i less. one_within i less) in
    let same = own_costs (has_aggregate sections) sections in
    let setup_files = own_plus (has_aggregate sections) (cost_in_kind Setup sections) 0 in let after_files = own_plus (has_aggregate sections) (cost_in_kind After sections) (length h.waiting.files) in let nothing = own_none (has_aggregate sections) in
    let all = count_all (suc actors) history (λ n far. h.nobody_else n (omega arith)) in omega arith
  where
    none : has_aggregate sections ≡ false → h.waiting.maps.kept ≡ []
    none = none_waiting driver before left sections history most texts h

    plus_none : (n : ℕ) → n + 0 ≡ n
    plus_none n = omega arith

    one_within : (i : ℕ) → i < length (actor_sections sections) → length (entries_of (1 + i) history) ≤ with_own (has_aggregate sections) (section_costs (get_or (actor_sections sections) i no_section))
    one_within i less = let many = h.as_many in let a = actor_at driver before left sections history most h.waiting.maps 1 texts.actors h.actors (suc i) (omega arith) (omega arith) in
        let words : List (List Span) = words_of (get_or (actor_sections sections) i no_section) in
        let first : i ≡ suc i - 1 = omega arith in
        let w = played_within (has_aggregate sections) driver.kind (suc i) (sum_by words_cost words) (program_of sections (suc i)) (carried [] (before (suc i)) h.waiting.maps) a.1.behind a.0 (deeds_of core (suc i) history) a.1.names (entries_of (suc i) history)
        (subst (λ j. CostsAtMost (sum_by words_cost words) (talks 0 (words_of (get_or (actor_sections sections) j no_section)) no_names)) first (says_cost 0 words quits end_cost no_names))
        a.1.played (few_behind driver sections limit (suc i) _ _ a.1.played.turns _ a.1.behind a.1.played.follows (λ without. (asks_none sections without).actors (suc i)) none) (deeds_entries core core.opening (suc i) history) in
        let files = own_plus (has_aggregate sections) (sum_by words_cost words) 0 in let nothing = own_none (has_aggregate sections) in
        let n : 1 + i ≡ suc i = omega arith in let same : length (entries_of (1 + i) history) ≡ length (entries_of (suc i) history) = ap (λ k. length (entries_of k history)) n in omega arith
