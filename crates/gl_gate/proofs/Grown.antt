-- How calls of a gate make a pass grow.
use Rattle.std.proofs.Common.{ℕ, List, [], ◌∷◌, ◌++◌, sym, ap, ◌∙◌, subst, arith, ⊎_elim}
use Rattle.std.specs.Prelude.{Contains}
use Rattle.std.proofs.lemmas.List.{append_assoc, append-nil}
use Rattle.gl_world.specs.declared.machine.Machine.{Ghosts}
use Rattle.gl_world.specs.declared.history.Entry.{Entry}
use Rattle.gl_world.specs.History.{StartsWith, entry, entries_of}
use Rattle.gl_world.specs.Removal.{Removes}
use Rattle.gl_world.specs.Deeds.{entries_in, deeds_of}
use Rattle.gl_world.proofs.Deeds.{deeds_one, deeds_stay, deeds_entries, entries_in_append}
use Rattle.gl_gate.specs.Grown.{GrowsOn, MovesDoNothing, ActsAreDeeds, RefusalsDoNothing, GrownHasItsOwn, StillRemovesNothing}

pub begins_further : {A : Type 0} (later middle first : List A) → StartsWith later middle → StartsWith middle first → StartsWith later first
begins_further later middle first h k = (k.0 ++ h.0, h.1 ∙ (ap (λ l. l ++ h.0) k.1 ∙ append_assoc first k.0 h.0))

nothing_in : (p : ℕ) → Contains {X = ℕ} [] p → ⊥
nothing_in p c = let less = c.1 in absurd (omega arith)

module _ {M C R G : Type 0} (m : Ghosts M C R G) where
  pub moves_do_nothing : MovesDoNothing m
  moves_do_nothing v w moved = record {
    number = moved.number;
    room = moved.room;
    made = moved.made;
    joined = moved.joined;
    seen = ([], moved.seen ∙ sym (append-nil v.seen));
    mine = moved.mine ∙ sym (append-nil v.mine);
    deeds = ap (λ l. deeds_of m v.number l) moved.seen ∙ sym (append-nil (deeds_of m v.number v.seen));
  }

  pub grows_on : GrowsOn m
  grows_on v w u first later g h = record {
    number = h.number ∙ g.number;
    room = h.room ∙ g.room;
    made = h.made ∙ g.made;
    joined = h.joined ∙ g.joined;
    seen = begins_further u.seen w.seen v.seen h.seen g.seen;
    mine = h.mine ∙ (ap (λ l. l ++ entries_in later) g.mine ∙ (append_assoc v.mine (entries_in first) (entries_in later) ∙ ap (λ l. v.mine ++ l) (sym (entries_in_append first later))));
    deeds = ap (λ k. deeds_of m k u.seen) (sym g.number) ∙ (h.deeds ∙ (ap (λ l. l ++ later) (ap (λ k. deeds_of m k w.seen) g.number ∙ g.deeds) ∙ append_assoc (deeds_of m v.number v.seen) first later));
  }

  pub acts_are_deeds : ActsAreDeeds m
  acts_are_deeds v call reply old new w acts same = let e : Entry M C R G = entry v.number call reply in record {
    number = same.number;
    room = same.room;
    made = same.made;
    joined = same.joined;
    seen = (acts.between ++ e ∷ [], acts.seen ∙ append_assoc v.seen acts.between (e ∷ []));
    mine = acts.mine;
    deeds = deeds_one m v.number v.seen acts.between w.seen call reply acts.seen acts.others;
  }

  pub refusals_do_nothing : RefusalsDoNothing m
  refusals_do_nothing v call w refuses same own own' = record {
    number = same.number;
    room = same.room;
    made = same.made;
    joined = same.joined;
    seen = refuses.seen;
    mine = refuses.mine ∙ sym (append-nil v.mine);
    deeds = deeds_stay m v.number w.seen v.seen refuses.seen (ap (λ k. entries_of k w.seen) (sym same.number) ∙ (own' ∙ (refuses.mine ∙ sym own))) ∙ sym (append-nil (deeds_of m v.number v.seen));
  }

  pub grown_has_its_own : GrownHasItsOwn m
  grown_has_its_own v w deeds own g = ap (λ k. entries_of k w.seen) g.number ∙ (sym (deeds_entries m m.opening v.number w.seen) ∙ (ap (λ l. entries_in l) g.deeds ∙ (entries_in_append (deeds_of m v.number v.seen) deeds
      ∙ (ap (λ l. l ++ entries_in deeds) (deeds_entries m m.opening v.number v.seen ∙ own) ∙ sym g.mine))))

  pub still_removes_nothing : StillRemovesNothing m
  still_removes_nothing v call reply old new w acts same quiet nothing p removes = let r = acts.removals in
      let now = subst (λ (x : m.World × ℕ). Removes m x.0 x.1 p) (λ i. (acts.world i, same.number i)) removes in
      ⊎_elim (λ h. nothing p (r.nothing_new p h)) (λ c. nothing_in p (subst (λ l. Contains l p) (quiet _) c)) (r.begins_only p now)
