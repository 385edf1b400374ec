-- Entries that fit, one after the other: what they are to each actor.
use Rattle.std.proofs.Common.{◌≡◌, ◌≢◌, ◌⊎◌, inl, inr, ℕ, zero, suc, ◌≤◌, Bool, true, false, List, [], ◌∷◌, ◌++◌, Option, None, Some, IfSome, refl, sym, ap, ◌∙◌, subst, arith, eq-eqb, ne_eqb}
use Rattle.std.specs.Prelude.{cond, ◌==◌, ◌&&◌}
use Rattle.std.proofs.lemmas.Bool.{false≢true, true≢false}
use mathlib.Core.Logic.{dite}
use native.Mathlib.Decide.{ℕ_discrete}
use Rattle.gl_world.specs.Deeds.{deed_in, deeds_from, entries_in}
use Rattle.gl_world.specs.History.{AnsweredFrom, PlacedFrom, entries_of, fold_from}
use Rattle.gl_script.specs.Section.{SaidSection}
use Rattle.gl_model.specs.Machine.{reply_of, world_after}
use Rattle.gl_model.specs.World.{World}
use Rattle.gl_core.specs.Device.{OneDeed, OneEntry, core}
use Rattle.gl_core.specs.Legal.{GoesOn}
use Rattle.gl_check.specs.Misfit.{AllFit, MayGo, Moment, actors_in, after_by, after_entry, all_ended, behind, last_of}
use Rattle.gl_check.specs.One.{PlannedPort}
use Rattle.gl_check.specs.Seats.{Passes, Seat, Suits, SuitsStand, is_ended, moved}
use Rattle.gl_check.specs.declared.stand.Stand.{Stand}
use Rattle.gl_check.specs.declared.stand.Stand.TheVariants.{Ended, Before, Between}

-- who stands at the end has no next entry
nothing_stands : (stand : Stand) (port : PlannedPort) (e : OneEntry) → is_ended stand ≡ true → SuitsStand stand port e → ⊥
nothing_stands Ended port e is suits = suits
nothing_stands (Before what first) port e is suits = false≢true is
nothing_stands (Between what first) port e is suits = false≢true is

pub nothing_suits : (s : Seat) (e : OneEntry) → is_ended s.stand ≡ true → Suits s e → ⊥
nothing_suits s e is suits = nothing_stands s.stand s.bearing.port e is suits

and_left : (a b : Bool) → (a && b) ≡ true → a ≡ true
and_left true b h = refl
and_left false b h = h

and_right : (a b : Bool) → (a && b) ≡ true → b ≡ true
and_right true b h = h
and_right false b h = absurd (false≢true h)

pub ended_at : (count n : ℕ) (others : ℕ → Seat) → all_ended count others ≡ true → 1 ≤ n → n ≤ count → is_ended (others n).stand ≡ true
ended_at zero n others h one most = absurd (omega arith)
ended_at (suc count) n others h one most = dite (ℕ_discrete n (suc count))
    (λ is. subst (λ k. is_ended (others k).stand ≡ true) (sym is) (and_left (is_ended (others (suc count)).stand) (all_ended count others) h))
    (λ other. ended_at count n others (and_right (is_ended (others (suc count)).stand) (all_ended count others) h) one (less n other most))
  where
    less : (n : ℕ) → n ≢ suc count → n ≤ suc count → n ≤ count
    less n other most = omega arith

-- a history that goes on with each of its entries is legal, and the other way round
abbrev pub LegalFrom : World → List OneEntry → Type 0
LegalFrom w [] = Unit {0}
LegalFrom w (e ∷ es) = GoesOn w e.actor e.call e.reply × LegalFrom (world_after w e.actor e.call) es

named : (o : Option ℕ) (P : ℕ → Type 0) → ((p : ℕ) → o ≡ Some p → P p) → IfSome o P
named None P h = tt
named (Some p) P h = h p refl

of_named : (o : Option ℕ) (P : ℕ → Type 0) → IfSome o P → (p : ℕ) → o ≡ Some p → P p
of_named o P h p is = subst (λ (x : Option ℕ). IfSome x P) is h

pub goes_legal : (w : World) (es : List OneEntry) → AnsweredFrom core w es → PlacedFrom core w es → LegalFrom w es
goes_legal w [] answered placed = tt
goes_legal w (e ∷ es) answered placed = (
  record { fits = answered.1; finds = record { guarded = named _ _ placed.0; refused = named _ _ placed.1 }; replied = answered.0 },
  goes_legal (world_after w e.actor e.call) es answered.2 placed.2,
)

pub legal_goes : (w : World) (es : List OneEntry) → LegalFrom w es → AnsweredFrom core w es × PlacedFrom core w es
legal_goes w [] legal = (tt, tt)
legal_goes w (e ∷ es) legal =
    let more = legal_goes (world_after w e.actor e.call) es legal.1 in
    ((legal.0.replied, legal.0.fits, more.0), (of_named _ _ legal.0.finds.guarded, of_named _ _ legal.0.finds.refused, more.1))

pub legal_append : (w : World) (xs ys : List OneEntry) → LegalFrom w (xs ++ ys) → LegalFrom w xs × LegalFrom (fold_from core w xs) ys
legal_append w [] ys legal = (tt, legal)
legal_append w (e ∷ xs) ys legal = let more = legal_append (world_after w e.actor e.call) xs ys legal.1 in ((legal.0, more.0), more.1)

-- deeds of this actor, as the machine answered them
abbrev pub AreOf : ℕ → List OneDeed → Type 0
AreOf n [] = Unit {0}
AreOf n (d ∷ ds) = (d.entry.actor ≡ n) × ((w : World) × (d.entry.reply ≡ reply_of w n d.entry.call)) × AreOf n ds

pub own_first : (w : World) (n : ℕ) (e : OneEntry) (es : List OneEntry) → e.actor ≡ n → deeds_from core w n (e ∷ es) ≡ deed_in core w e ∷ deeds_from core (world_after w e.actor e.call) n es
own_first w n e es is = let more : List OneDeed = deeds_from core (world_after w e.actor e.call) n es in ap (λ b. cond b (deed_in core w e ∷ more) more) (eq-eqb e.actor n is)

pub others_first : (w : World) (n : ℕ) (e : OneEntry) (es : List OneEntry) → e.actor ≢ n → deeds_from core w n (e ∷ es) ≡ deeds_from core (world_after w e.actor e.call) n es
others_first w n e es ne = let more : List OneDeed = deeds_from core (world_after w e.actor e.call) n es in ap (λ b. cond b (deed_in core w e ∷ more) more) (ne_eqb e.actor n ne)

pub deeds_are_of : (w : World) (n : ℕ) (es : List OneEntry) → LegalFrom w es → AreOf n (deeds_from core w n es)
deeds_are_of w n [] legal = tt
deeds_are_of w n (e ∷ es) legal = dite (ℕ_discrete e.actor n)
    (λ is. subst (λ (l : List OneDeed). AreOf n l) (sym (own_first w n e es is)) (is, (w, legal.0.replied ∙ ap (λ k. reply_of w k e.call) is), deeds_are_of (world_after w e.actor e.call) n es legal.1))
    (λ ne. subst (λ (l : List OneDeed). AreOf n l) (sym (others_first w n e es ne)) (deeds_are_of (world_after w e.actor e.call) n es legal.1))

pub deeds_entries : (w : World) (n : ℕ) (es : List OneEntry) → entries_in (deeds_from core w n es) ≡ entries_of n es
deeds_entries w n [] = refl
deeds_entries w n (e ∷ es) = let w' : World = world_after w e.actor e.call in let more = deeds_entries w' n es in
    elim (e.actor == n) as (λ b. entries_in (cond b (deed_in core w e ∷ deeds_from core w' n es) (deeds_from core w' n es)) ≡ cond b (e ∷ entries_of n es) (entries_of n es))
    [ true ↦ ap (λ l. e ∷ l) more | false ↦ more ]

pub deeds_append : (w : World) (n : ℕ) (xs ys : List OneEntry) → deeds_from core w n (xs ++ ys) ≡ deeds_from core w n xs ++ deeds_from core (fold_from core w xs) n ys
deeds_append w n [] ys = refl
deeds_append w n (e ∷ xs) ys = let w' : World = world_after w e.actor e.call in let more = deeds_append w' n xs ys in
    elim (e.actor == n) as (λ b. cond b (deed_in core w e ∷ deeds_from core w' n (xs ++ ys)) (deeds_from core w' n (xs ++ ys))
    ≡ cond b (deed_in core w e ∷ deeds_from core w' n xs) (deeds_from core w' n xs) ++ deeds_from core (fold_from core w' xs) n ys)
    [ true ↦ ap (λ l. deed_in core w e ∷ l) more | false ↦ more ]

module _ (sections : List SaidSection) where
  module _ (b : Bool) (d : OneDeed) (w : World) (c : Moment) (e : OneEntry) where
    pub world_by : (k : ℕ) → (after_by sections b k d w c).world ≡ w
    world_by zero = elim b as (λ b. (after_by sections b zero d w c).world ≡ w) [ true ↦ refl | false ↦ refl ]
    world_by (suc k) = elim b as (λ b. (after_by sections b (suc k) d w c).world ≡ w) [ true ↦ refl | false ↦ refl ]

    -- an actor's own entry, and another's
    pub own_by : (k : ℕ) → 1 ≤ k → MayGo sections b k c e → Suits (c.others k) e × ((after_by sections b k d w c).others k ≡ moved (c.others k) d)
    own_by zero one may = absurd (omega arith)
    own_by (suc k) one may = elim b as (λ b. MayGo sections b (suc k) c e → Suits (c.others (suc k)) e × ((after_by sections b (suc k) d w c).others (suc k) ≡ moved (c.others (suc k)) d))
        [ true ↦ (λ may. (may, ap (λ t. cond t (moved (c.others (suc k)) d) (c.others (suc k))) (eq-eqb (suc k) (suc k) refl))) | false ↦ (λ may. absurd may) ] may

    pub other_by : (k n : ℕ) → 1 ≤ n → k ≢ n → (after_by sections b k d w c).others n ≡ c.others n
    other_by zero n one ne = elim b as (λ b. (after_by sections b zero d w c).others n ≡ c.others n) [ true ↦ refl | false ↦ refl ]
    other_by (suc k) n one ne = elim b as (λ b. (after_by sections b (suc k) d w c).others n ≡ c.others n)
        [ true ↦ ap (λ t. cond t (moved (c.others (suc k)) d) (c.others n)) (ne_eqb (suc k) n ne) | false ↦ ap (λ t. cond t (moved (c.others (suc k)) d) (c.others n)) (ne_eqb (suc k) n ne) ]

  pub world_next : (c : Moment) (e : OneEntry) → (after_entry sections c e).world ≡ world_after c.world e.actor e.call
  world_next c e = world_by (is_ended c.setup.stand) (deed_in core c.world e) (world_after c.world e.actor e.call) c e e.actor

  pub world_behind : (c : Moment) (es : List OneEntry) → (behind sections c es).world ≡ fold_from core c.world es
  world_behind c [] = refl
  world_behind c (e ∷ es) = world_behind (after_entry sections c e) es ∙ ap (λ w. fold_from core w es) (world_next c e)

  pub behind_append : (c : Moment) (xs ys : List OneEntry) → behind sections c (xs ++ ys) ≡ behind sections (behind sections c xs) ys
  behind_append c [] ys = refl
  behind_append c (e ∷ xs) ys = behind_append (after_entry sections c e) xs ys

  pub fit_legal : (c : Moment) (es : List OneEntry) → AllFit sections c es → LegalFrom c.world es
  fit_legal c [] fit = tt
  fit_legal c (e ∷ es) fit = (fit.0.0, subst (λ w. LegalFrom w es) (world_next c e) (fit_legal (after_entry sections c e) es fit.1))

  -- each further actor passes through its deeds
  pub others_pass : (n : ℕ) → 1 ≤ n → (c : Moment) (es : List OneEntry) → AllFit sections c es → Passes (c.others n) (deeds_from core c.world n es) ((behind sections c es).others n)
  others_pass n one c [] fit = refl
  others_pass n one c (e ∷ es) fit =
      let d : OneDeed = deed_in core c.world e in
      let w : World = world_after c.world e.actor e.call in
      let goal : Seat = (behind sections c (e ∷ es)).others n in
      let more : Passes ((after_entry sections c e).others n) (deeds_from core w n es) goal
      = subst (λ w. Passes ((after_entry sections c e).others n) (deeds_from core w n es) goal) (world_next c e) (others_pass n one (after_entry sections c e) es fit.1) in
      dite (ℕ_discrete e.actor n)
      (λ is. let o : Suits (c.others n) e × ((after_entry sections c e).others n ≡ moved (c.others n) d)
      = subst (λ k. Suits (c.others k) e × ((after_entry sections c e).others k ≡ moved (c.others k) d)) is
      (own_by (is_ended c.setup.stand) d w c e e.actor (subst (λ k. 1 ≤ k) (sym is) one) fit.0.1) in
      subst (λ (l : List OneDeed). Passes (c.others n) l goal) (sym (own_first c.world n e es is)) (o.0, subst (λ (s : Seat). Passes s (deeds_from core w n es) goal) o.1 more))
      (λ ne. subst (λ (l : List OneDeed). Passes (c.others n) l goal) (sym (others_first c.world n e es ne))
      (subst (λ (s : Seat). Passes s (deeds_from core w n es) goal) (other_by (is_ended c.setup.stand) d w c e e.actor n one ne) more))

  -- who stands at the end has no deed
  pub passes_nothing : (s t : Seat) (ds : List OneDeed) → is_ended s.stand ≡ true → Passes s ds t → ds ≡ []
  passes_nothing s t [] is passes = refl
  passes_nothing s t (d ∷ ds) is passes = absurd (nothing_suits s d.entry is passes.0)

  abbrev Own : Bool → ℕ → OneDeed → World → Moment → Type 0
  Own b k d w c = (k ≡ 0) × ((after_by sections b k d w c).setup ≡ moved c.setup d) × ((after_by sections b k d w c).last ≡ c.last) × ((after_by sections b k d w c).others ≡ c.others)

  -- an entry while `setup` is under way
  pub early_by : (b : Bool) (k : ℕ) (d : OneDeed) (w : World) (c : Moment) (e : OneEntry) → b ≡ false → MayGo sections b k c e → Own b k d w c × Suits c.setup e
  early_by true k d w c e is may = absurd (true≢false is)
  early_by false zero d w c e is may = ((refl, refl, refl, refl), may)
  early_by false (suc k) d w c e is may = absurd may

  -- an entry after `setup`: one of `after`, or of a further actor
  pub record OfLast (b : Bool) (k : ℕ) (d : OneDeed) (w : World) (c : Moment) (e : OneEntry) : Type 0 where
    pub zero_is : k ≡ 0
    pub ended : all_ended (actors_in sections) c.others ≡ true
    pub suits : Suits (last_of sections c) e
    pub setup : (after_by sections b k d w c).setup ≡ c.setup
    pub last : last_of sections (after_by sections b k d w c) ≡ moved (last_of sections c) d
    pub others : (after_by sections b k d w c).others ≡ c.others

  pub record OfOther (b : Bool) (k : ℕ) (d : OneDeed) (w : World) (c : Moment) (e : OneEntry) : Type 0 where
    pub positive : 1 ≤ k
    pub suits : Suits (c.others k) e
    pub setup : (after_by sections b k d w c).setup ≡ c.setup
    pub last : (after_by sections b k d w c).last ≡ c.last

  pub late_by : (b : Bool) (k : ℕ) (d : OneDeed) (w : World) (c : Moment) (e : OneEntry) → b ≡ true → MayGo sections b k c e → OfLast b k d w c e ⊎ OfOther b k d w c e
  late_by false k d w c e is may = absurd (false≢true is)
  late_by true zero d w c e is may = inl (record { zero_is = refl; ended = may.0; suits = may.1; setup = refl; last = refl; others = refl })
  late_by true (suc k) d w c e is may = inr (record { positive = omega arith; suits = may; setup = refl; last = refl })

  pub fit_append : (c : Moment) (xs ys : List OneEntry) → AllFit sections c (xs ++ ys) → AllFit sections c xs × AllFit sections (behind sections c xs) ys
  fit_append c [] ys fit = (tt, fit)
  fit_append c (e ∷ xs) ys fit = let more = fit_append (after_entry sections c e) xs ys fit.1 in ((fit.0, more.0), more.1)

  pub append_fit : (c : Moment) (xs ys : List OneEntry) → AllFit sections c xs → AllFit sections (behind sections c xs) ys → AllFit sections c (xs ++ ys)
  append_fit c [] ys first later = later
  append_fit c (e ∷ xs) ys first later = (first.0, append_fit (after_entry sections c e) xs ys first.1 later)

  -- where `setup` is at its end it stays so
  pub setup_stays : (c : Moment) (es : List OneEntry) → is_ended c.setup.stand ≡ true → AllFit sections c es → (behind sections c es).setup ≡ c.setup
  setup_stays c [] is fit = refl
  setup_stays c (e ∷ es) is fit = setup_stays (after_entry sections c e) es (subst (λ (s : Seat). is_ended s.stand ≡ true) (sym same) is) fit.1 ∙ same
    where
      same : (after_entry sections c e).setup ≡ c.setup
      same = elim (late_by (is_ended c.setup.stand) e.actor (deed_in core c.world e) (world_after c.world e.actor e.call) c e is fit.0.1) as (λ _. (after_entry sections c e).setup ≡ c.setup)
          [ inl o ↦ o.setup | inr o ↦ o.setup ]

  -- deeds lead to one stand
  pub passes_one : (s t u : Seat) (ds : List OneDeed) → Passes s ds t → Passes s ds u → t ≡ u
  passes_one s t u [] first other = sym first ∙ other
  passes_one s t u (d ∷ ds) first other = passes_one (moved s d) t u ds first.1 other.1
