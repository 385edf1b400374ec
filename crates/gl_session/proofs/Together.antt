-- Actors at work together make fewer entries than their session costs, while one of them has a call before it.
use Rattle.std.proofs.Common.{◌≡◌, ℕ, zero, suc, ◌+◌, ◌-◌, ◌<◌, ◌≤◌, false, List, [], ◌∷◌, length, get_or, Option, sym, ap, ◌∙◌, subst, arith}
use Rattle.std.specs.Prelude.{sum_by}
use Rattle.std.proofs.lemmas.List.Sums.{sum_by-cons}
use Rattle.gl_base.specs.Words.{Span}
use Rattle.gl_world.specs.Deeds.{deeds_of, entries_in}
use Rattle.gl_world.specs.History.{entries_of}
use Rattle.gl_world.proofs.Deeds.{deeds_entries}
use Rattle.gl_client.specs.Costs.{CostsAtMost}
use Rattle.gl_script.specs.Cost.{has_aggregate, session_cost, with_own, words_cost}
use Rattle.gl_script.specs.Section.{SaidSection}
use Rattle.gl_script.specs.declared.section.SectionKind.TheVariants.{Setup}
use Rattle.gl_talk.specs.Open.{no_names}
use Rattle.gl_talk.specs.Talk.{quits, talks}
use Rattle.gl_talk.proofs.StatementCosts.{end_cost, says_cost}
use Rattle.gl_driver.specs.Told.{Told}
use Rattle.gl_core.specs.Device.{OneDeed, OneEntry, core}
use Rattle.gl_check.specs.Drivers.{DriverOver, start_maps}
use Rattle.gl_check.specs.Programs.{setup_of}
use Rattle.gl_check.specs.Many.{actor_sections, no_section, program_of, words_of}
use Rattle.gl_check.specs.Turns.{Turn, carried, did_by}
use Rattle.gl_session.specs.Together.{ActorsAtWorkHaveRoom, AtWork, BeforeCall, SoFar}
use Rattle.gl_session.specs.Within.{cost_in_kind}
use Rattle.gl_session.proofs.Counting.{count, count_all, count_costs, entries_length, own_costs, played_within, section_costs}
use Rattle.gl_session.proofs.NoChips.{asks_none}
use Rattle.gl_session.proofs.Within.{below, few_behind, few_in, none_behind_setup, own_none, own_plus, parts_cost, sessions_cost_their_parts, within}

abbrev pub section_at : List SaidSection → ℕ → SaidSection
section_at sections i = get_or (actor_sections sections) i no_section

-- what a section costs, its program costs at most
pub costs : (sections : List SaidSection) (i : ℕ) → CostsAtMost (section_costs (section_at sections i)) (program_of sections (suc i))
costs sections i =
    let words : List (List Span) = words_of (section_at sections i) in
    let first : i ≡ suc i - 1 = omega arith in
    subst (λ j. CostsAtMost (sum_by words_cost words) (talks 0 (words_of (section_at sections j)) no_names)) first (says_cost 0 words quits end_cost no_names)

-- so many entries has an actor
pub made : (n : ℕ) (history : List OneEntry) (turns : List Turn) → deeds_of core n history ≡ did_by turns → length (entries_of n history) ≡ length (did_by turns)
made n history turns did = ap (λ (l : List OneEntry). length l) (sym (deeds_entries core core.opening n history)) ∙ entries_length (deeds_of core n history) ∙ ap (λ (l : List OneDeed). length l) did

-- actors have fewer entries than sections cost, where none has more than its section and one has fewer
pub count_below : (cost : SaidSection → ℕ) (history : List OneEntry) (n : ℕ) (sections : List SaidSection) → ((i : ℕ) → i < length sections → length (entries_of (n + i) history) ≤ cost (get_or sections i no_section))
    → (m : ℕ) → m < length sections → length (entries_of (n + m) history) < cost (get_or sections m no_section) → count (length sections) n history < sum_by cost sections
count_below cost history n [] h m less fewer = absurd (omega arith)
count_below cost history n (section ∷ sections) h zero less fewer =
    let z : n + 0 ≡ n = omega arith in
    let first : length (entries_of n history) < cost section = subst (λ k. length (entries_of k history) < cost section) z fewer in
    let later = count_costs cost history (suc n) sections (λ i l. let s : n + suc i ≡ suc n + i = omega arith in subst (λ k. length (entries_of k history) ≤ cost (get_or sections i no_section)) s (h (suc i) (omega arith))) in
    let whole = sum_by-cons cost section sections in omega arith
count_below cost history n (section ∷ sections) h (suc m) less fewer =
    let z : n + 0 ≡ n = omega arith in
    let first : length (entries_of n history) ≤ cost section = subst (λ k. length (entries_of k history) ≤ cost section) z (h 0 (omega arith)) in
    let s : n + suc m ≡ suc n + m = omega arith in
    let later = count_below cost history (suc n) sections (λ i l. let t : n + suc i ≡ suc n + i = omega arith in subst (λ k. length (entries_of k history) ≤ cost (get_or sections i no_section)) t (h (suc i) (omega arith)))
    m (omega arith) (subst (λ k. length (entries_of k history) < cost (get_or sections m no_section)) s fewer) in
    let whole = sum_by-cons cost section sections in omega arith

module _ (driver : DriverOver) (limit : driver.kind.limit ≤ 8) (before : ℕ → Option Told) (sections : List SaidSection) (history : List OneEntry) (w : AtWork driver before sections history) where
  abbrev counted : ℕ → ℕ
  counted n = with_own (has_aggregate sections) n

  none : has_aggregate sections ≡ false → w.setup.behind.maps.kept ≡ []
  none = none_behind_setup driver sections (before 0) w.setup

  one_within : (i : ℕ) → i < length (actor_sections sections) → length (entries_of (1 + i) history) ≤ counted (section_costs (section_at sections i))
  one_within i less =
      let a : SoFar driver before sections history w.setup.behind.maps (suc i) = w.actors (suc i) (omega arith) (omega arith) in
      let bounded = within (has_aggregate sections) driver.kind (suc i) a.turns (section_costs (section_at sections i)) (program_of sections (suc i)) (carried [] (before (suc i)) w.setup.behind.maps) a.rest a.behind (costs sections i) a.come.follows
      (few_behind driver sections limit (suc i) _ _ a.turns _ a.behind a.come.follows (λ without. (asks_none sections without).actors (suc i)) none) in
      let many = made (suc i) history a.turns a.come.did in let files = own_plus (has_aggregate sections) (section_costs (section_at sections i)) 0 in let nothing = own_none (has_aggregate sections) in
      let n : 1 + i ≡ suc i = omega arith in let same : length (entries_of (1 + i) history) ≡ length (entries_of (suc i) history) = ap (λ k. length (entries_of k history)) n in omega (arith, bounded.2)

  one_below : (i : ℕ) → BeforeCall driver before sections history w.setup.behind.maps (suc i) → length (entries_of (1 + i) history) < counted (section_costs (section_at sections i))
  one_below i b =
      let fewer = below (has_aggregate sections) driver.kind (suc i) (section_costs (section_at sections i)) (program_of sections (suc i)) (carried [] (before (suc i)) w.setup.behind.maps) b.turns b.what b.later b.behind b.call (costs sections i) b.come.follows
      (few_behind driver sections limit (suc i) _ _ b.turns _ b.behind b.come.follows (λ without. (asks_none sections without).actors (suc i)) none) b.calls in
      let many = made (suc i) history b.turns b.come.did in let files = own_plus (has_aggregate sections) (section_costs (section_at sections i)) 0 in let nothing = own_none (has_aggregate sections) in
      let n : 1 + i ≡ suc i = omega arith in let same : length (entries_of (1 + i) history) ≡ length (entries_of (suc i) history) = ap (λ k. length (entries_of k history)) n in omega arith

  pub at_work : (m : ℕ) → m < length (actor_sections sections) → BeforeCall driver before sections history w.setup.behind.maps (suc m) → length history < session_cost sections
  at_work m low b =
      let parts = sessions_cost_their_parts sections in let whole = parts_cost sections in
      let first = played_within (has_aggregate sections) driver.kind 0 (cost_in_kind Setup sections) (setup_of sections) (carried [] (before 0) (start_maps driver)) w.setup.behind w.setup.text w.setup.did w.setup.names (entries_of 0 history) parts.setup w.setup.played
      (few_in driver sections limit w.setup.behind.maps none) (ap (λ (l : List OneDeed). entries_in l) (sym w.first) ∙ deeds_entries core core.opening 0 history) in
      let middle = count_below (λ section. counted (section_costs section)) history 1 (actor_sections sections) (λ i less. one_within i less) m low (one_below m b) in
      let same = own_costs (has_aggregate sections) sections in let files = own_plus (has_aggregate sections) (cost_in_kind Setup sections) 0 in let nothing = own_none (has_aggregate sections) in
      let all = count_all (suc (length (actor_sections sections))) history (λ n far. w.nobody_else n (omega arith)) in omega arith

pub actors_at_work_have_room : (driver : DriverOver) → ActorsAtWorkHaveRoom driver
actors_at_work_have_room driver limit before sections history w zero positive low b = absurd (omega arith)
actors_at_work_have_room driver limit before sections history w (suc m) positive low b = at_work driver limit before sections history w m (omega arith) b
