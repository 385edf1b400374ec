-- What an actor's unfinished removals await, from one of its own entries to the next.
use Rattle.std.proofs.Common.{Option, Some, None, eq-eqb, ne_eqb, ◌≡◌, ℕ, List, [], ◌∷◌, refl, sym, ap, ◌∙◌, arith, subst, inl, inr}
use Rattle.std.specs.Prelude.{Contains, ◌⊎◌, cond}
use mathlib.Core.Logic.{dite}
use native.Mathlib.Decide.{ℕ_discrete, dec_lt}
use Rattle.gl_world.specs.declared.machine.Machine.{Ghosts}
use Rattle.gl_world.specs.declared.history.Entry.{Entry}
use Rattle.gl_world.specs.History.{AnsweredFrom, entries_of, fold_from, stage}
use Rattle.gl_world.specs.Laws.{Laws}
use Rattle.gl_world.specs.Removal.{AllQuiet, IsQuiet, Removes}
use Rattle.gl_model.proofs.Leading.{Leads as LeadsBy}

abbrev some_number : Option ℕ → ℕ
some_number (Some n) = n
some_number None = 0

nothing_in : (p : ℕ) → Contains {X = ℕ} [] p → ⊥
nothing_in p c = let less = c.1 in absurd (omega arith)

module _ {M C R G : Type 0} (m : Ghosts M C R G) where
  -- all removals of the actor await this call, or there is none
  abbrev pub Awaits : ℕ → m.World → Option C → Type 0
  Awaits actor w None = (p : ℕ) → Removes m w actor p → ⊥
  Awaits actor w (Some call) = (p : ℕ) → Removes m w actor p → m.awaited_call w p ≡ call

  -- an entry of an actor begins no removal
  abbrev pub BeginsNone : Entry M C R G → Type 0
  BeginsNone e = (bytes : List ℕ) → m.begun_places e.call e.reply bytes ≡ []

  -- what is awaited before and after one entry of the actor: the entry has nothing to do with it, begins it, or ends it
  abbrev pub Moves : Option C → Entry M C R G → Option C → Type 0
  Moves old e new = (IsQuiet m e × (old ≡ new)) ⊎ (((old ≡ None) × (new ≡ Some (m.last_call e.call))) ⊎ ((old ≡ Some e.call) × (new ≡ None) × BeginsNone e))

  -- the same over a list of its entries
  abbrev pub Leads : Option C → List (Entry M C R G) → Option C → Type 0
  Leads old entries new = LeadsBy Moves old entries new

  pub quiet_leads : (old : Option C) (xs : List (Entry M C R G)) → AllQuiet m xs → Leads old xs old
  quiet_leads old [] quiet = refl
  quiet_leads old (x ∷ xs) quiet = (old, inl (quiet.0, refl), quiet_leads old xs quiet.1)

  module _ (laws : Laws m) (a : ℕ) where
    -- a removal after an entry, by the actor or another, was there before it or was begun by the actor with it
    removed_before : (w : m.World) (x : Entry M C R G) (p : ℕ) → m.Sound w → m.FitsCall x.call → x.reply ≡ m.reply_of w x.actor x.call → Removes m (m.world_after w x.actor x.call) a p
        → (Removes m w a p × (m.awaited_call (m.world_after w x.actor x.call) p ≡ m.awaited_call w p)) ⊎ ((x.actor ≡ a) × Contains (m.begun_places x.call x.reply (m.bytes_of w x.actor x.call)) p)
    removed_before w x p s fits reply at = let f = laws.goes_forward w x.actor x.call p s fits in let now = at.0 in dite (dec_lt (stage m w p) 2)
        (λ less. let o = laws.begins_place w x.actor x.call p s fits less at.0 in
        inr (ap some_number (sym o.0 ∙ at.1), subst (λ r. Contains (m.begun_places x.call r (m.bytes_of w x.actor x.call)) p) (sym reply) o.1))
        (λ more. let two : stage m w p ≡ 2 = omega arith in let still = laws.removal_stays w x.actor x.call p s fits two at.0 in inl ((two, sym still.0 ∙ at.1), still.1))

    -- where the entry begins no removal of the actor, what is awaited stays
    stays_awaited : (w : m.World) (x : Entry M C R G) (t : Option C) → m.Sound w → m.FitsCall x.call → x.reply ≡ m.reply_of w x.actor x.call → (x.actor ≡ a → BeginsNone x) → Awaits a w t → Awaits a (m.world_after w x.actor x.call) t
    stays_awaited w x None s fits reply none awaits = λ p at. elim (removed_before w x p s fits reply at) as (λ _. ⊥) [
      | inl before ↦ awaits p before.0
      | inr begun ↦ nothing_in p (subst (λ l. Contains l p) (none begun.0 (m.bytes_of w x.actor x.call)) begun.1)
    ]
    stays_awaited w x (Some call) s fits reply none awaits = λ p at. elim (removed_before w x p s fits reply at) as (λ _. m.awaited_call (m.world_after w x.actor x.call) p ≡ call) [
      | inl before ↦ before.1 ∙ awaits p before.0
      | inr begun ↦ absurd (nothing_in p (subst (λ l. Contains l p) (none begun.0 (m.bytes_of w x.actor x.call)) begun.1))
    ]

    -- where nothing was awaited, the call that ends a removal is awaited once it has begun
    begins_awaiting : (w : m.World) (x : Entry M C R G) → m.Sound w → m.FitsCall x.call → x.reply ≡ m.reply_of w x.actor x.call → Awaits a w None → Awaits a (m.world_after w x.actor x.call) (Some (m.last_call x.call))
    begins_awaiting w x s fits reply awaits = λ p at. elim (removed_before w x p s fits reply at) as (λ _. m.awaited_call (m.world_after w x.actor x.call) p ≡ m.last_call x.call) [
      | inl before ↦ absurd (awaits p before.0)
      | inr begun ↦ (laws.begins_removal w x.actor x.call p s fits (subst (λ r. Contains (m.begun_places x.call r (m.bytes_of w x.actor x.call)) p) reply begun.1)).2
    ]

    -- the call that is awaited leaves nothing to await
    ends_awaiting : (w : m.World) (x : Entry M C R G) → m.Sound w → m.FitsCall x.call → x.reply ≡ m.reply_of w x.actor x.call → x.actor ≡ a → BeginsNone x → Awaits a w (Some x.call) → Awaits a (m.world_after w x.actor x.call) None
    ends_awaiting w x s fits reply mine none awaits = λ p at. elim (removed_before w x p s fits reply at) as (λ _. ⊥) [
      | inl before ↦ (let gone = laws.ends_removal w x.actor x.call p s fits before.0.0 (before.0.1 ∙ ap (λ n. Some n) (sym mine)) (awaits p before.0) in let now = at.0 in absurd (omega arith))
      | inr begun ↦ nothing_in p (subst (λ l. Contains l p) (none (m.bytes_of w x.actor x.call)) begun.1)
    ]

    moves_awaited : (w : m.World) (x : Entry M C R G) (old new : Option C) → m.Sound w → m.FitsCall x.call → x.reply ≡ m.reply_of w x.actor x.call → x.actor ≡ a → Moves old x new → Awaits a w old → Awaits a (m.world_after w x.actor x.call) new
    moves_awaited w x old new s fits reply mine moves awaits = elim moves as (λ _. Awaits a (m.world_after w x.actor x.call) new) [
      | inl quiet ↦ stays_awaited w x new s fits reply (λ _. quiet.0.0) (subst (λ t. Awaits a w t) quiet.1 awaits)
      | inr other ↦ (elim other as (λ _. Awaits a (m.world_after w x.actor x.call) new) [
        | inl begins ↦ subst (λ t. Awaits a (m.world_after w x.actor x.call) t) (sym begins.1) (begins_awaiting w x s fits reply (subst (λ t. Awaits a w t) begins.0 awaits))
        | inr ends ↦ subst (λ t. Awaits a (m.world_after w x.actor x.call) t) (sym ends.1) (ends_awaiting w x s fits reply mine ends.2 (subst (λ t. Awaits a w t) ends.0 awaits))
      ])
    ]

    -- what is awaited after a history, by the actor's own entries in it
    pub leads_awaited : (w : m.World) (xs : List (Entry M C R G)) (old new : Option C) → m.Sound w → AnsweredFrom m w xs → Leads old (entries_of a xs) new → Awaits a w old → Awaits a (fold_from m w xs) new
    leads_awaited w [] old new s h leads awaits = subst (λ t. Awaits a w t) leads awaits
    leads_awaited w (x ∷ xs) old new s h leads awaits = let sound = laws.keeps_sound w x.actor x.call s h.1 in dite (ℕ_discrete x.actor a)
        (λ is. let own : Leads old (x ∷ entries_of a xs) new = subst (λ b. Leads old (cond b (x ∷ entries_of a xs) (entries_of a xs)) new) (eq-eqb x.actor a is) leads in
        leads_awaited (m.world_after w x.actor x.call) xs own.0 new sound h.2 own.2 (moves_awaited w x old own.0 s h.1 h.0 is own.1 awaits))
        (λ ne. let others : Leads old (entries_of a xs) new = subst (λ b. Leads old (cond b (x ∷ entries_of a xs) (entries_of a xs)) new) (ne_eqb x.actor a ne) leads in
        leads_awaited (m.world_after w x.actor x.call) xs old new sound h.2 others (stays_awaited w x old s h.1 h.0 (λ is. absurd (ne is)) awaits))
