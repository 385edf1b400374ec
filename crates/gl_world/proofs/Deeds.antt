-- An actor's deeds in histories that go on.
use Rattle.std.proofs.Common.{◌≡◌, ◌≢◌, ℕ, List, [], ◌∷◌, ◌++◌, length, length-append, sym, refl, ap, ◌∙◌, subst, arith, eq-eqb, ne_eqb, true, false}
use Rattle.std.specs.Prelude.{cond, ◌==◌}
use Rattle.std.proofs.lemmas.List.{append-nil}
use mathlib.Core.Logic.{dite}
use native.Mathlib.Decide.{ℕ_discrete}
use Rattle.gl_world.specs.declared.machine.Machine.{Ghosts}
use Rattle.gl_world.specs.declared.history.Entry.{Entry}
use Rattle.gl_world.specs.History.{entry, entries_of, fold, fold_from, AnsweredFrom}
use Rattle.gl_world.specs.Deeds.{Deed, entries_in, deed_in, deeds_from, deeds_of, DeedsStand, DeedsStay}
use Rattle.gl_world.proofs.Histories.{entries_append, none_of}

module _ {M C R G : Type 0} where
  pub entries_in_append : (xs ys : List (Deed M C R G)) → entries_in (xs ++ ys) ≡ entries_in xs ++ entries_in ys
  entries_in_append [] ys = refl
  entries_in_append (x ∷ xs) ys = ap (λ l. x.entry ∷ l) (entries_in_append xs ys)

  abbrev head_or : Deed M C R G → List (Deed M C R G) → Deed M C R G
  head_or deed [] = deed
  head_or deed (x ∷ xs) = x

  abbrev tail_of : List (Deed M C R G) → List (Deed M C R G)
  tail_of [] = []
  tail_of (x ∷ xs) = xs

  not_empty : (earlier later : List (Deed M C R G)) (deed : Deed M C R G) → [] ≡ earlier ++ deed ∷ later → ⊥
  not_empty earlier later deed is = let l = length-append earlier (deed ∷ later) in let k : 0 ≡ length (earlier ++ deed ∷ later) = ap (λ l. length l) is in absurd (omega arith)

module _ {M C R G : Type 0} (m : Ghosts M C R G) where
  -- an entry of the actor's own is a deed, and one of another is none
  own_first : (w : m.World) (actor : ℕ) (e : Entry M C R G) (es : List (Entry M C R G)) → e.actor ≡ actor
      → deeds_from m w actor (e ∷ es) ≡ deed_in m w e ∷ deeds_from m (m.world_after w e.actor e.call) actor es
  own_first w actor e es is = let more : List (Deed M C R G) = deeds_from m (m.world_after w e.actor e.call) actor es in ap (λ b. cond b (deed_in m w e ∷ more) more) (eq-eqb e.actor actor is)

  anothers_first : (w : m.World) (actor : ℕ) (e : Entry M C R G) (es : List (Entry M C R G)) → e.actor ≢ actor
      → deeds_from m w actor (e ∷ es) ≡ deeds_from m (m.world_after w e.actor e.call) actor es
  anothers_first w actor e es ne = let more : List (Deed M C R G) = deeds_from m (m.world_after w e.actor e.call) actor es in ap (λ b. cond b (deed_in m w e ∷ more) more) (ne_eqb e.actor actor ne)

  pub deeds_append : (w : m.World) (actor : ℕ) (xs ys : List (Entry M C R G)) → deeds_from m w actor (xs ++ ys) ≡ deeds_from m w actor xs ++ deeds_from m (fold_from m w xs) actor ys
  deeds_append w actor [] ys = refl
  deeds_append w actor (x ∷ xs) ys = let w' : m.World = m.world_after w x.actor x.call in let more = deeds_append w' actor xs ys in
      elim (x.actor == actor) as (λ b. cond b (deed_in m w x ∷ deeds_from m w' actor (xs ++ ys)) (deeds_from m w' actor (xs ++ ys))
      ≡ cond b (deed_in m w x ∷ deeds_from m w' actor xs) (deeds_from m w' actor xs) ++ deeds_from m (fold_from m w' xs) actor ys)
      [ true ↦ ap (λ l. deed_in m w x ∷ l) more | false ↦ more ]

  -- the entries of an actor's deeds are the actor's entries
  pub deeds_entries : (w : m.World) (actor : ℕ) (xs : List (Entry M C R G)) → entries_in (deeds_from m w actor xs) ≡ entries_of actor xs
  deeds_entries w actor [] = refl
  deeds_entries w actor (x ∷ xs) = let w' : m.World = m.world_after w x.actor x.call in let more = deeds_entries w' actor xs in
      elim (x.actor == actor) as (λ b. entries_in (cond b (deed_in m w x ∷ deeds_from m w' actor xs) (deeds_from m w' actor xs)) ≡ cond b (x ∷ entries_of actor xs) (entries_of actor xs))
      [ true ↦ ap (λ l. x ∷ l) more | false ↦ more ]

  -- who has no entry has no deed
  pub deeds_none : (w : m.World) (actor : ℕ) (xs : List (Entry M C R G)) → entries_of actor xs ≡ [] → deeds_from m w actor xs ≡ []
  deeds_none w actor [] none = refl
  deeds_none w actor (x ∷ xs) none = let o = none_of actor x xs none in anothers_first w actor x xs o.0 ∙ deeds_none (m.world_after w x.actor x.call) actor xs o.1

  nothing_more : (xs ys : List (Entry M C R G)) → xs ++ ys ≡ xs → ys ≡ []
  nothing_more xs [] e = refl
  nothing_more xs (y ∷ ys) e = let l = length-append xs (y ∷ ys) in let k : length (xs ++ y ∷ ys) ≡ length xs = ap (λ l. length l) e in absurd (omega arith)

  pub deeds_stay : DeedsStay m
  deeds_stay actor history seen begins same = let rest : List (Entry M C R G) = begins.0 in
      let none : entries_of actor rest ≡ [] = nothing_more (entries_of actor seen) (entries_of actor rest) (sym (entries_append actor seen rest) ∙ (ap (λ l. entries_of actor l) (sym begins.1) ∙ same)) in
      ap (λ l. deeds_of m actor l) begins.1 ∙ (deeds_append m.opening actor seen rest ∙ (ap (λ l. deeds_of m actor seen ++ l) (deeds_none (fold m seen) actor rest none) ∙ append-nil (deeds_of m actor seen)))

  -- an actor's call behind what it had seen and what others did is one deed more
  pub deeds_one : (actor : ℕ) (seen between later : List (Entry M C R G)) (call : C) (reply : R) → later ≡ (seen ++ between) ++ entry actor call reply ∷ [] → entries_of actor between ≡ []
      → deeds_of m actor later ≡ deeds_of m actor seen ++ deed_in m (fold m (seen ++ between)) (entry actor call reply) ∷ []
  deeds_one actor seen between later call reply is none = let e : Entry M C R G = entry actor call reply in let before : List (Entry M C R G) = seen ++ between in
      let still : deeds_of m actor before ≡ deeds_of m actor seen = deeds_append m.opening actor seen between ∙ (ap (λ l. deeds_of m actor seen ++ l) (deeds_none (fold m seen) actor between none) ∙ append-nil (deeds_of m actor seen)) in
      ap (λ l. deeds_of m actor l) is ∙ (deeds_append m.opening actor before (e ∷ []) ∙ (λ i. still i ++ own_first (fold m before) actor e [] refl i))

  -- where a deed stands among entries that are made from a world on
  record Stands (w : m.World) (actor : ℕ) (entries : List (Entry M C R G)) (deed : Deed M C R G) : Type 0 where
    pub before : List (Entry M C R G)
    pub behind : List (Entry M C R G)
    pub at : entries ≡ before ++ deed.entry ∷ behind
    pub by_actor : deed.entry.actor ≡ actor
    pub reply : deed.entry.reply ≡ m.reply_of (fold_from m w before) actor deed.entry.call
    pub bytes : deed.bytes ≡ m.bytes_of (fold_from m w before) actor deed.entry.call

  behind_one : (w : m.World) (actor : ℕ) (e : Entry M C R G) (es : List (Entry M C R G)) (deed : Deed M C R G) → Stands (m.world_after w e.actor e.call) actor es deed → Stands w actor (e ∷ es) deed
  behind_one w actor e es deed s = record { before = e ∷ s.before; behind = s.behind; at = ap (λ l. e ∷ l) s.at; by_actor = s.by_actor; reply = s.reply; bytes = s.bytes }

  stands : (w : m.World) (actor : ℕ) (es : List (Entry M C R G)) → AnsweredFrom m w es → (earlier later : List (Deed M C R G)) (deed : Deed M C R G) → deeds_from m w actor es ≡ earlier ++ deed ∷ later → Stands w actor es deed
  stands w actor [] answered earlier later deed is = absurd (not_empty earlier later deed is)
  stands w actor (e ∷ es) answered [] later deed is = dite (ℕ_discrete e.actor actor)
      (λ own. let same : deed_in m w e ≡ deed = ap (head_or deed) (sym (own_first w actor e es own) ∙ is) in subst (λ x. Stands w actor (e ∷ es) x) same
      record { before = []; behind = es; at = refl; by_actor = own; reply = answered.0 ∙ ap (λ k. m.reply_of w k e.call) own; bytes = ap (λ k. m.bytes_of w k e.call) own })
      (λ ne. behind_one w actor e es deed (stands (m.world_after w e.actor e.call) actor es answered.2 [] later deed (sym (anothers_first w actor e es ne) ∙ is)))
  stands w actor (e ∷ es) answered (x ∷ earlier) later deed is = dite (ℕ_discrete e.actor actor)
      (λ own. behind_one w actor e es deed (stands (m.world_after w e.actor e.call) actor es answered.2 earlier later deed (ap tail_of (sym (own_first w actor e es own) ∙ is))))
      (λ ne. behind_one w actor e es deed (stands (m.world_after w e.actor e.call) actor es answered.2 (x ∷ earlier) later deed (sym (anothers_first w actor e es ne) ∙ is)))

  pub deeds_stand : DeedsStand m
  deeds_stand actor history legal earlier later deed is = let s = stands m.opening actor history legal.0 earlier later deed is in
      record { before = s.before; behind = s.behind; at = s.at; by_actor = s.by_actor; reply = s.reply; bytes = s.bytes }
