-- One actor alone: its deeds are taken off the history one after another, and between its calls no place is Leaving. Over every
-- machine.
use Rattle.std.proofs.Common.{◌≡◌, ℕ, suc, ◌<◌, ◌≤◌, Bool, true, false, List, [], ◌∷◌, ◌++◌, length, sym, refl, ap, ◌∙◌, subst, arith, Some, ne_eqb}
use Rattle.std.specs.Prelude.{Contains, cond, ◌==◌}
use Rattle.std.proofs.lemmas.Bool.{true≢false}
use mathlib.Core.Logic.{dite}
use native.Mathlib.Decide.{dec_lt, ℕ_discrete}
use Rattle.gl_world.specs.declared.machine.Machine.{Ghosts}
use Rattle.gl_world.specs.declared.history.Entry.{Entry}
use Rattle.gl_world.specs.History.{AnsweredFrom, PlacedFrom, entries_of, entry, stage}
use Rattle.gl_world.specs.Deeds.{Deed, deed_in, deeds_from, entries_in}
use Rattle.gl_world.specs.Laws.{Laws}
use Rattle.gl_world.proofs.Deeds.{deeds_entries}

nothing_in : (p : ℕ) → Contains {X = ℕ} [] p → ⊥
nothing_in p c = let less = c.1 in absurd (omega arith)

module _ {M C R G : Type 0} where
  abbrev deed_or : Deed M C R G → List (Deed M C R G) → Deed M C R G
  deed_or d [] = d
  deed_or d (x ∷ xs) = x

  abbrev other_deeds : List (Deed M C R G) → List (Deed M C R G)
  other_deeds [] = []
  other_deeds (x ∷ xs) = xs

  abbrev entry_or : Entry M C R G → List (Entry M C R G) → Entry M C R G
  entry_or d [] = d
  entry_or d (x ∷ xs) = x

  abbrev other_entries : List (Entry M C R G) → List (Entry M C R G)
  other_entries [] = []
  other_entries (x ∷ xs) = xs

  -- deeds have as many entries
  pub length_entries : (did : List (Deed M C R G)) → length (entries_in did) ≡ length did
  length_entries [] = refl
  length_entries (d ∷ did) = ap suc (length_entries did)

  -- deeds of one entry, and of two
  pub one_deed : (did : List (Deed M C R G)) (e : Entry M C R G) → entries_in did ≡ e ∷ [] → (x : Deed M C R G) × (did ≡ x ∷ []) × (x.entry ≡ e)
  one_deed [] e is = let z : 0 ≡ length (e ∷ []) = ap (λ l. length l) is in absurd (omega arith)
  one_deed (x ∷ []) e is = (x, refl, ap (entry_or e) is)
  one_deed (x ∷ y ∷ ys) e is = let z : length (x.entry ∷ y.entry ∷ entries_in ys) ≡ length (e ∷ []) = ap (λ l. length l) is in absurd (omega arith)

  -- the first deed, and the rest
  pub head_deed : (did : List (Deed M C R G)) (e : Entry M C R G) (es : List (Entry M C R G)) → entries_in did ≡ e ∷ es
      → (x : Deed M C R G) × (xs : List (Deed M C R G)) × (did ≡ x ∷ xs) × (x.entry ≡ e) × (entries_in xs ≡ es)
  head_deed [] e es is = let z : 0 ≡ length (e ∷ es) = ap (λ l. length l) is in absurd (omega arith)
  head_deed (x ∷ xs) e es is = (x, xs, refl, ap (entry_or e) is, ap other_entries is)

  -- the last deed, and those before it
  pub last_deed : (did : List (Deed M C R G)) (own : List (Entry M C R G)) (f : Entry M C R G) → entries_in did ≡ own ++ f ∷ []
      → (inner : List (Deed M C R G)) × (y : Deed M C R G) × (did ≡ inner ++ y ∷ []) × (entries_in inner ≡ own) × (y.entry ≡ f)
  last_deed did [] f is = let o = one_deed did f is in ([], o.0, o.1, refl, o.2)
  last_deed did (e ∷ own) f is =
      let first = head_deed did e (own ++ f ∷ []) is in
      let later = last_deed first.1 own f first.4 in (
        first.0 ∷ later.0,
        later.1,
        first.2 ∙ ap (λ l. first.0 ∷ l) later.2,
        (λ i. first.3 i ∷ later.3 i),
        later.4,
      )

  pub no_deeds : (did : List (Deed M C R G)) → entries_in did ≡ [] → did ≡ []
  no_deeds [] is = refl
  no_deeds (x ∷ xs) is = let z : length (x.entry ∷ entries_in xs) ≡ 0 = ap (λ l. length l) is in absurd (omega arith)

  -- entries that are all of an actor's own
  few_of : (n : ℕ) (es : List (Entry M C R G)) → length (entries_of n es) ≤ length es
  few_of n [] = omega arith
  few_of n (e ∷ es) = by (e.actor == n) (few_of n es)
    where
      by : (b : Bool) → length (entries_of n es) ≤ length es → length (cond b (e ∷ entries_of n es) (entries_of n es)) ≤ length (e ∷ es)
      by true few = omega arith
      by false few = omega arith

  own_first : (n : ℕ) (e : Entry M C R G) (es : List (Entry M C R G)) → entries_of n (e ∷ es) ≡ e ∷ es → e.actor ≡ n
  own_first n e es all = dite (ℕ_discrete e.actor n) (λ is. is) (λ other. absurd (by (e.actor == n) (ne_eqb e.actor n other) all))
    where
      by : (b : Bool) → b ≡ false → cond b (e ∷ entries_of n es) (entries_of n es) ≡ e ∷ es → ⊥
      by false is h = let same : length (entries_of n es) ≡ length (e ∷ es) = ap (λ l. length l) h in let few = few_of n es in omega arith
      by true is h = true≢false is

module _ {M C R G : Type 0} (m : Ghosts M C R G) where
  -- what is left of a history that actor 0 made alone, from this world on: just these deeds
  pub record Rest (w : m.World) (ds : List (Deed M C R G)) : Type 0 where
    pub answered : AnsweredFrom m w (entries_in ds)
    pub placed : PlacedFrom m w (entries_in ds)
    pub deeds : deeds_from m w 0 (entries_in ds) ≡ ds
    pub sound : m.Sound w

  -- the first deed is the machine's
  pub record FirstDeed (w : m.World) (call : C) (d : Deed M C R G) (ds : List (Deed M C R G)) : Type 0 where
    pub reply : d.entry.reply ≡ m.reply_of w 0 call
    pub bytes : d.bytes ≡ m.bytes_of w 0 call
    pub rest : Rest (m.world_after w 0 call) ds
    pub named : (p : ℕ) → m.place_of call ≡ Some p → stage m w p < 3
    pub refused : (p : ℕ) → m.refused_at call ≡ Some p → 2 ≤ stage m w p
    pub fits : m.FitsCall call

  -- whoever made a deed of these, it is the actor's
  pub rest_own : (w : m.World) (d : Deed M C R G) (ds : List (Deed M C R G)) → Rest w (d ∷ ds) → d.entry.actor ≡ 0
  rest_own w d ds rest = own_first 0 d.entry (entries_in ds) (sym (deeds_entries m w 0 (d.entry ∷ entries_in ds)) ∙ ap entries_in rest.deeds)

  -- no place is Leaving
  abbrev pub IsSteady : m.World → Type 0
  IsSteady w = (p : ℕ) → stage m w p ≡ 2 → ⊥

  module _ (laws : Laws m) where
    pub first_deed : (w : m.World) (call : C) (reply : R) (d : Deed M C R G) (ds : List (Deed M C R G)) → d.entry ≡ entry 0 call reply → Rest w (d ∷ ds) → FirstDeed w call d ds
    first_deed w call reply d ds is rest =
        let answered : AnsweredFrom m w (entry 0 call reply ∷ entries_in ds) = subst (λ (e : Entry M C R G). AnsweredFrom m w (e ∷ entries_in ds)) is rest.answered in
        let placed : PlacedFrom m w (entry 0 call reply ∷ entries_in ds) = subst (λ (e : Entry M C R G). PlacedFrom m w (e ∷ entries_in ds)) is rest.placed in
        let deeds : deeds_from m w 0 (entry 0 call reply ∷ entries_in ds) ≡ d ∷ ds = subst (λ (e : Entry M C R G). deeds_from m w 0 (e ∷ entries_in ds) ≡ d ∷ ds) is rest.deeds in
        let same : deed_in m w (entry 0 call reply) ≡ d = ap (deed_or d) deeds in record {
          reply = ap (λ (e : Entry M C R G). e.reply) is ∙ answered.0;
          bytes = sym (ap (λ (x : Deed M C R G). x.bytes) same);
          rest = record { answered = answered.2; placed = placed.2; deeds = ap other_deeds deeds; sound = laws.keeps_sound w 0 call rest.sound answered.1 };
          named = placed.0;
          refused = placed.1;
          fits = answered.1;
        }

    -- a call that begins no removal
    pub still_steady : (w : m.World) (call : C) → m.Sound w → m.FitsCall call → IsSteady w → m.begun_places call (m.reply_of w 0 call) (m.bytes_of w 0 call) ≡ [] → IsSteady (m.world_after w 0 call)
    still_steady w call sound fits steady none p two = let forward = laws.goes_forward w 0 call p sound fits in dite (dec_lt (stage m w p) 2)
        (λ less. nothing_in p (subst (λ l. Contains l p) none (laws.begins_place w 0 call p sound fits less two).1))
        (λ more. steady p (omega arith))

    -- a removal from its first call to its last
    pub removal_steady : (w : m.World) (first last : C) → m.Sound w → m.FitsCall first → m.FitsCall last → IsSteady w → last ≡ m.last_call first
        → m.begun_places last (m.reply_of (m.world_after w 0 first) 0 last) (m.bytes_of (m.world_after w 0 first) 0 last) ≡ [] → IsSteady (m.world_after (m.world_after w 0 first) 0 last)
    removal_steady w first last sound fits fits_last steady is none p two =
        let between : m.World = m.world_after w 0 first in let sound_between = laws.keeps_sound w 0 first sound fits in
        let forward = laws.goes_forward w 0 first p sound fits in let on = laws.goes_forward between 0 last p sound_between fits_last in dite (dec_lt (stage m between p) 2)
        (λ less. nothing_in p (subst (λ l. Contains l p) none (laws.begins_place between 0 last p sound_between fits_last less two).1))
        (λ more. let leaving : stage m between p ≡ 2 = omega arith in dite (dec_lt (stage m w p) 2)
        (λ less. let begun = laws.begins_removal w 0 first p sound fits (laws.begins_place w 0 first p sound fits less leaving).1 in
        let gone : stage m (m.world_after between 0 last) p ≡ 3 = laws.ends_removal between 0 last p sound_between fits_last leaving begun.1 (begun.2 ∙ sym is) in absurd (omega arith))
        (λ more. steady p (omega arith)))
