-- A gate at its making, and what is left of one whose passes were all joined.
use Rattle.std.proofs.Common.{◌≡◌, ℕ, zero, suc, ◌+◌, ◌≤◌, List, [], ◌∷◌, length, get_or, sym, refl, ap, ◌∙◌, subst, false}
use Rattle.std.specs.Prelude.{replicate}
use Rattle.std.specs.Vec.{vec_capacity}
use mathlib.Core.Option.{some-injective}
use lib.ListN.{get_elem?}
use mathlib.Core.Option.{some}
use Rattle.atomic_table.specs.Table.{Final, Seen, opening}
use Rattle.gl_world.specs.declared.machine.Machine.{Ghosts}
use Rattle.gl_world.specs.declared.history.Entry.{Entry}
use Rattle.gl_world.specs.History.{StartsWith, Answered, Placed, Legal, fold, entries_of}
use Rattle.gl_world.specs.Laws.{Laws}
use Rattle.gl_rule.specs.declared.held.Held.{Held}
use Rattle.gl_rule.specs.declared.view.View.{View}
use Rattle.gl_rule.specs.Views.{newcomer}
use Rattle.gl_rule.specs.Rule.{Rule}
use Rattle.gl_rule.proofs.Ends.{ends, opens}
use Rattle.gl_gate.specs.Calls.{HasAllOf}

pub all_zero : (n i : ℕ) → get_or {A = ℕ} (replicate n 0) i 0 ≡ 0
all_zero zero i = refl
all_zero (suc n) zero = refl
all_zero (suc n) (suc i) = all_zero n i

module _ {M C R G : Type 0} (m : Ghosts M C R G) (laws : Laws m) (places : ℕ) where
  pub record Finished (v : View M C R G) (h : Held M C R G) : Type 0 where
    pub machine : m.stands_for h.machine (fold m h.history.items)
    pub legal : Legal m h.history.items
    pub seen : StartsWith h.history.items v.seen
    pub mine : entries_of v.number h.history.items ≡ v.mine
    pub joined : HasAllOf v.joined h.history.items
    -- a number that no pass was given has no entry
    pub others : (n : ℕ) → v.made ≤ n → entries_of n h.history.items ≡ []

  pub finished : (id : ℕ) (v : View M C R G) (words : List ℕ) (slots : List (Held M C R G)) (h : Held M C R G) → Final (Seen (Rule m places) id v) words slots → v.spent ≡ false → v.turn ≡ false → v.number ≡ 0 → length v.joined + 1 ≡ v.made
      → get_elem? slots 0 ≡ some h → Finished v h
  finished id v words slots h final live resting first all here = let s = final.0 in let r = final.1.0.0 in let g = final.1.0.1 in let at = final.1.1 in let end = ends m laws places s r id v at live resting first all in let old = r.each id v at live in
      let same : end.0 ≡ h = some-injective end.0 h (sym (final.4 0 end.0 (ap (λ l. get_elem? l 0) end.1)) ∙ here) in
      let log : h.history.items ≡ r.log = ap (λ (k : Held M C R G). k.history.items) (sym same) ∙ end.2.kept in record {
        machine = subst (λ (x : Held M C R G × List (Entry M C R G)). m.stands_for x.0.machine (fold m x.1)) (λ i. (same i, sym log i)) end.2.stands;
        legal = (subst (λ l. Answered m l) (sym log) r.answered, subst (λ l. Placed m l) (sym log) g.placed);
        seen = subst (λ l. StartsWith l v.seen) (sym log) old.seen;
        mine = ap (λ l. entries_of v.number l) log ∙ (ap (λ k. entries_of k r.log) old.number ∙ old.mine);
        joined = λ k j e. ap (λ l. entries_of j.number l) log ∙ (old.joined k j e).1;
        others = λ n far. let made : v.made ≡ length s.views = (r.first v (subst (λ k. get_elem? s.views k ≡ some v) (sym old.number ∙ first) at)).1 in
            ap (λ l. entries_of n l) log ∙ (r.others n (subst (λ k. k ≤ n) made far)).0;
      }

  pub opened : (room : ℕ) (machine : M) (h : Held M C R G) (words : List ℕ) (slots : List (Held M C R G)) → length words ≡ places + 2 → ((i : ℕ) → get_or words i 0 ≡ 0) → slots ≡ h ∷ [] → m.stands_for machine m.opening
      → h.machine ≡ machine → h.history.items ≡ [] → h.room ≡ room → room + 512 ≤ vec_capacity h.history → Rule m places (opening words slots (newcomer 0 room [] 1 [] []))
  opened room machine h words slots wide zeros is stands same none asked space = subst (λ l. Rule m places (opening words l (newcomer 0 room [] 1 [] []))) (sym is)
      (opens m laws places room h words wide zeros record { stands = subst (λ x. m.stands_for x m.opening) (sym same) stands; kept = none; asked = asked; space = space })
