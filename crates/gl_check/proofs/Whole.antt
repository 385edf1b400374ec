-- A history whose entries all fit, in its three parts; and what was carried out there.
use Rattle.std.proofs.Common.{◌≡◌, ◌≢◌, ◌⊎◌, inl, inr, ℕ, zero, suc, ◌+◌, ◌<◌, ◌≤◌, Bool, true, false, List, [], ◌∷◌, ◌++◌, length, Option, refl, sym, ap, ◌∙◌, subst, arith, ne_eqb}
use Rattle.std.specs.Prelude.{cond}
use Rattle.std.proofs.lemmas.List.{append_assoc}
use mathlib.Core.Logic.{dite}
use native.Mathlib.Decide.{dec_lt}
use Rattle.gl_client.specs.Program.{Program, done, goes_on}
use Rattle.gl_driver.specs.Told.{Told}
use Rattle.gl_script.specs.Cost.{session_cost}
use Rattle.gl_script.specs.Section.{SaidSection}
use Rattle.gl_talk.specs.Open.{Names}
use Rattle.gl_world.specs.Deeds.{deed_in, deeds_from, deeds_of, entries_in}
use Rattle.gl_world.specs.History.{entries_of, fold_from}
use Rattle.gl_model.specs.Machine.{world_after}
use Rattle.gl_model.specs.World.{World, opening}
use Rattle.gl_core.specs.Device.{OneDeed, OneEntry, core}
use Rattle.gl_check.specs.Drivers.{over, plain, planning}
use Rattle.gl_check.specs.Joining.{Maps, no_maps}
use Rattle.gl_check.specs.Many.{ActorPlayed, ActorsPlayed, PlannedTells, all_new, program_of}
use Rattle.gl_check.specs.Misfit.{AllFit, AtEnd, Moment, actors_in, after_begun, after_entry, all_ended, beginning, behind, last_by, last_of, others_texts, texts_in}
use Rattle.gl_check.specs.Programs.{after_of, setup_of}
use Rattle.gl_check.specs.Seats.{Bearing, Passes, Seat, is_ended, moved, new_bearing, seat, settles}
use Rattle.gl_check.specs.Turns.{AreWithin, Carried, Played, carried}
use Rattle.gl_check.specs.declared.stand.Stand.TheVariants.{Ended}
use Rattle.gl_check.proofs.Through.{IsTold, bearing_by}
use Rattle.gl_check.proofs.Back.{passes_back}
use Rattle.gl_check.proofs.Beyond.{beyond_program}
use Rattle.gl_check.proofs.Order.{AreOf, LegalFrom, OfLast, OfOther, behind_append, deeds_are_of, deeds_entries, early_by, ended_at, fit_append, fit_legal, late_by, legal_append, legal_goes, nothing_suits, others_pass, own_first, passes_nothing, setup_stays, world_behind, world_next}

pub none_first : (n : ℕ) (e : OneEntry) (es : List OneEntry) → e.actor ≢ n → entries_of n (e ∷ es) ≡ entries_of n es
none_first n e es ne = ap (λ b. cond b (e ∷ entries_of n es) (entries_of n es)) (ne_eqb e.actor n ne)

pub is_not : (k n : ℕ) → k ≡ 0 → 1 ≤ n → k ≢ n
is_not k n is one same = let e : 0 ≡ n = sym is ∙ same in absurd (omega arith)

pub not_zero : (k : ℕ) → 1 ≤ k → k ≢ 0
not_zero k one is = absurd (omega arith)

module _ (sections : List SaidSection) where
  abbrev pub w_after : Moment → OneEntry → World
  w_after c e = world_after c.world e.actor e.call

  pub record First (c : Moment) (es : List OneEntry) : Type 0 where
    pub first : List OneEntry
    pub rest : List OneEntry
    pub is : es ≡ first ++ rest
    pub alone : (n : ℕ) → 1 ≤ n → entries_of n first ≡ []
    pub passes : Passes c.setup (deeds_from core c.world 0 first) (behind sections c first).setup
    pub ended : is_ended (behind sections c first).setup.stand ≡ true
    pub last_is : (behind sections c first).last ≡ c.last
    pub fit : AllFit sections (behind sections c first) rest

  nothing_first : (c : Moment) (es : List OneEntry) → AllFit sections c es → is_ended c.setup.stand ≡ true → First c es
  nothing_first c es fit ended = record { first = []; rest = es; is = refl; alone = λ n one. refl; passes = refl; ended = ended; last_is = refl; fit = fit }

  first_part : (c : Moment) (es : List OneEntry) → AllFit sections c es → is_ended (behind sections c es).setup.stand ≡ true → First c es
  first_part c [] fit ended = nothing_first c [] fit ended
  first_part c (e ∷ es) fit ended = by (is_ended c.setup.stand) refl (first_part (after_entry sections c e) es fit.1 ended)
    where
      by : (b : Bool) → is_ended c.setup.stand ≡ b → First (after_entry sections c e) es → First c (e ∷ es)
      by true is more = nothing_first c (e ∷ es) fit is
      by false is more =
          let o = early_by sections (is_ended c.setup.stand) e.actor (deed_in core c.world e) (w_after c e) c e is fit.0.1 in
          let zero_is : e.actor ≡ 0 = o.0.0 in
          let passes : Passes (moved c.setup (deed_in core c.world e)) (deeds_from core (w_after c e) 0 more.first) (behind sections c (e ∷ more.first)).setup
          = subst (λ w. Passes (moved c.setup (deed_in core c.world e)) (deeds_from core w 0 more.first) (behind sections c (e ∷ more.first)).setup) (world_next sections c e)
          (subst (λ (s : Seat). Passes s (deeds_from core (after_entry sections c e).world 0 more.first) (behind sections c (e ∷ more.first)).setup) o.0.1 more.passes) in record {
            first = e ∷ more.first;
            rest = more.rest;
            is = ap (λ l. e ∷ l) more.is;
            alone = λ n one. none_first n e more.first (is_not e.actor n zero_is one) ∙ more.alone n one;
            passes = subst (λ (l : List OneDeed). Passes c.setup l (behind sections c (e ∷ more.first)).setup) (sym (own_first c.world 0 e more.first zero_is)) (o.1, passes);
            ended = more.ended;
            last_is = more.last_is ∙ o.0.2;
            fit = more.fit;
          }

  pub record Middle (c : Moment) (es : List OneEntry) : Type 0 where
    pub middle : List OneEntry
    pub last : List OneEntry
    pub is : es ≡ middle ++ last
    pub alone : entries_of 0 middle ≡ []
    pub setup_is : (behind sections c middle).setup ≡ c.setup
    pub last_is : (behind sections c middle).last ≡ c.last
    pub rest : (last ≡ []) ⊎ (all_ended (actors_in sections) (behind sections c middle).others ≡ true)
    pub fit : AllFit sections (behind sections c middle) last

  middle_part : (c : Moment) (es : List OneEntry) → AllFit sections c es → is_ended c.setup.stand ≡ true → Middle c es
  middle_part c [] fit ended = record { middle = []; last = []; is = refl; alone = refl; setup_is = refl; last_is = refl; rest = inl refl; fit = tt }
  middle_part c (e ∷ es) fit ended =
      by (late_by sections (is_ended c.setup.stand) e.actor (deed_in core c.world e) (w_after c e) c e ended fit.0.1) (λ still. middle_part (after_entry sections c e) es fit.1 still)
    where
      by : OfLast sections (is_ended c.setup.stand) e.actor (deed_in core c.world e) (w_after c e) c e ⊎ OfOther sections (is_ended c.setup.stand) e.actor (deed_in core c.world e) (w_after c e) c e
          → (is_ended (after_entry sections c e).setup.stand ≡ true → Middle (after_entry sections c e) es) → Middle c (e ∷ es)
      by (inl o) later = record { middle = []; last = e ∷ es; is = refl; alone = refl; setup_is = refl; last_is = refl; rest = inr o.ended; fit = fit }
      by (inr o) later = let more = later (subst (λ (s : Seat). is_ended s.stand ≡ true) (sym o.setup) ended) in record {
        middle = e ∷ more.middle;
        last = more.last;
        is = ap (λ l. e ∷ l) more.is;
        alone = none_first 0 e more.middle (not_zero e.actor o.positive) ∙ more.alone;
        setup_is = more.setup_is ∙ o.setup;
        last_is = more.last_is ∙ o.last;
        rest = more.rest;
        fit = more.fit;
      }

  -- what stands after the middle is of `after` alone
  pub record Last (c : Moment) (es : List OneEntry) : Type 0 where
    pub alone : (n : ℕ) → 1 ≤ n → entries_of n es ≡ []
    pub passes : Passes (last_of sections c) (deeds_from core c.world 0 es) (last_of sections (behind sections c es))

  last_part : (c : Moment) (es : List OneEntry) → AllFit sections c es → is_ended c.setup.stand ≡ true → ((n : ℕ) → 1 ≤ n → is_ended (c.others n).stand ≡ true) → Last c es
  last_part c [] fit ended all = record { alone = λ n one. refl; passes = refl }
  last_part c (e ∷ es) fit ended all =
      by (late_by sections (is_ended c.setup.stand) e.actor (deed_in core c.world e) (w_after c e) c e ended fit.0.1) (λ still others. last_part (after_entry sections c e) es fit.1 still others)
    where
      by : OfLast sections (is_ended c.setup.stand) e.actor (deed_in core c.world e) (w_after c e) c e ⊎ OfOther sections (is_ended c.setup.stand) e.actor (deed_in core c.world e) (w_after c e) c e
          → (is_ended (after_entry sections c e).setup.stand ≡ true → ((n : ℕ) → 1 ≤ n → is_ended ((after_entry sections c e).others n).stand ≡ true) → Last (after_entry sections c e) es) → Last c (e ∷ es)
      by (inr o) later = absurd (nothing_suits (c.others e.actor) e (all e.actor o.positive) o.suits)
      by (inl o) later =
          let more = later (subst (λ (s : Seat). is_ended s.stand ≡ true) (sym o.setup) ended) (subst (λ (f : ℕ → Seat). (n : ℕ) → 1 ≤ n → is_ended (f n).stand ≡ true) (sym o.others) all) in
          let d : OneDeed = deed_in core c.world e in
          let goal : Seat = last_of sections (behind sections c (e ∷ es)) in
          let passes : Passes (moved (last_of sections c) d) (deeds_from core (w_after c e) 0 es) goal
          = subst (λ w. Passes (moved (last_of sections c) d) (deeds_from core w 0 es) goal) (world_next sections c e)
          (subst (λ (s : Seat). Passes s (deeds_from core (after_entry sections c e).world 0 es) goal) o.last more.passes) in record {
            alone = λ n one. none_first n e es (is_not e.actor n o.zero_is one) ∙ more.alone n one;
            passes = subst (λ (l : List OneDeed). Passes (last_of sections c) l goal) (sym (own_first c.world 0 e es o.zero_is)) (o.suits, passes);
          }

  abbrev pub start : Moment
  start = beginning sections

  pub beyond_ended : (n : ℕ) → actors_in sections < n → is_ended (start.others n).stand ≡ true
  beyond_ended n more = beyond_program sections n more

  -- an actor beyond the last has no entry, and stays at its end
  beyond_still : (n : ℕ) → (actors_in sections) < n → (es : List OneEntry) → AllFit sections start es → (deeds_from core opening n es ≡ []) × (is_ended ((behind sections start es).others n).stand ≡ true)
  beyond_still n more es fit =
      let passes = others_pass sections n (omega arith) start es fit in
      let none : deeds_from core opening n es ≡ [] = passes_nothing sections (start.others n) ((behind sections start es).others n) (deeds_from core opening n es) (beyond_ended n more) passes in
      let same : start.others n ≡ (behind sections start es).others n = subst (λ (l : List OneDeed). Passes (start.others n) l ((behind sections start es).others n)) none passes in
      (none, subst (λ (s : Seat). is_ended s.stand ≡ true) same (beyond_ended n more))

  all_still : (es : List OneEntry) → AllFit sections start es → all_ended (actors_in sections) (behind sections start es).others ≡ true → (n : ℕ) → 1 ≤ n → is_ended ((behind sections start es).others n).stand ≡ true
  all_still es fit all n one = dite (dec_lt (actors_in sections) n) (λ more. (beyond_still n more es fit).1) (λ less. ended_at (actors_in sections) n (behind sections start es).others all one (omega arith))

  -- one actor's deeds lead it to its end: it carried its program out
  seat_played : (n : ℕ) (p : Program Names) (s : Carried) (b : Bearing) (t : Seat) (ds : List OneDeed) → bearing_by s ≡ b → IsTold s.told → s.maps ≡ no_maps 0 → is_ended t.stand ≡ true → (w : World) (es : List OneEntry) → LegalFrom w es → ds ≡ deeds_from core w n es
      → Passes (settles p b []) ds t → (value : Names) × (r : Carried) × (played : Played (planning plain) n p s t.text ds value r) × (t ≡ seat Ended (goes_on (done value)) (bearing_by r) t.text) × IsTold r.told × (r.maps ≡ no_maps 0)
      × ((room : ℕ) → AreWithin room played.turns)
  seat_played n p s b t ds bearing told bare ended w es legal ds_is passes =
      passes_back n p s ds t (subst (λ (l : List OneDeed). AreOf n l) (sym ds_is) (deeds_are_of w n es legal)) told bare ended (subst (λ (b : Bearing). Passes (settles p b []) ds t) (sym bearing) passes)

  many_texts : (k n : ℕ) (others : ℕ → Seat) → length (others_texts n k others) ≡ k
  many_texts zero n others = refl
  many_texts (suc k) n others = ap suc (many_texts k (n + 1) others)

  last_by_rest : (d : Moment) (es : List OneEntry) → AllFit sections d es → is_ended d.setup.stand ≡ true → (es ≡ []) ⊎ (all_ended (actors_in sections) d.others ≡ true)
      → (all_ended (actors_in sections) d.others ≡ true → (n : ℕ) → 1 ≤ n → is_ended (d.others n).stand ≡ true) → Last d es
  last_by_rest d es fit ended (inl none) all = subst (λ (l : List OneEntry). Last d l) (sym none) (record { alone = λ n one. refl; passes = refl })
  last_by_rest d es fit ended (inr done_all) all = last_part d es fit ended (all done_all)

  -- where all are at their end, each further actor carried its program out
  module _ (es : List OneEntry) (fit : AllFit sections start es) (all : all_ended (actors_in sections) (behind sections start es).others ≡ true) where
    abbrev at_last : ℕ → Seat
    at_last n = (behind sections start es).others n

    pub record Carried_out (n : ℕ) : Type 0 where
      pub names : Names
      pub behind : Carried
      pub played : Played (planning plain) n (program_of sections n) (carried [] (all_new n) (no_maps 0)) (at_last n).text (deeds_of core n es) names behind
      pub within : AreWithin (session_cost sections) played.turns

    played_at : (m : ℕ) → Carried_out (suc m)
    played_at m =
        let p = seat_played (suc m) (program_of sections (suc m)) (carried [] (all_new (suc m)) (no_maps 0)) new_bearing (at_last (suc m)) (deeds_from core opening (suc m) es) refl tt refl
        (all_still es fit all (suc m) (omega arith)) opening es (fit_legal sections start es fit) refl (others_pass sections (suc m) (omega arith) start es fit) in
        record { names = p.0; behind = p.1; played = p.2; within = p.6 (session_cost sections) }

    -- what the ports tell then
    module _ (first : Option Told) where
      pub left : ℕ → Option Told
      left zero = first
      left (suc m) = (played_at m).behind.told

      first_left : first ≡ left 0
      unfolding left
      first_left = refl

      actor_played : (n : ℕ) → 1 ≤ n → ActorPlayed (over 0 (planning plain)) all_new left sections es (no_maps 0) n (at_last n).text
      unfolding left
      actor_played zero one = absurd (omega arith)
      actor_played (suc m) one = let p = played_at m in record { names = p.names; behind = p.behind; played = p.played; within = p.within; left_is = refl }

      actors_played : (k n : ℕ) → 1 ≤ n → ActorsPlayed (over 0 (planning plain)) all_new left sections es (no_maps 0) n (others_texts n k (behind sections start es).others)
      actors_played zero n one = tt
      actors_played (suc k) n one = (actor_played n one, actors_played k (n + 1) (omega arith))

  -- Where all entries fit and all actors are at their end, the history is that of all that was carried out, with these texts.
  pub fit_played : (es : List OneEntry) → AllFit sections start es → AtEnd sections (behind sections start es) → PlannedTells (over 0 plain) sections es (texts_in sections (behind sections start es))
  fit_played es fit end =
      let b : Moment = behind sections start es in
      let f = first_part start es fit end.setup in
      let c : Moment = behind sections start f.first in
      let mid = middle_part c f.rest f.fit f.ended in
      let d : Moment = behind sections c mid.middle in
      let es_is : es ≡ (f.first ++ mid.middle) ++ mid.last = f.is ∙ ap (λ l. f.first ++ l) mid.is ∙ sym (append_assoc f.first mid.middle mid.last) in
      let d_is : behind sections start (f.first ++ mid.middle) ≡ d = behind_append sections start f.first mid.middle in
      let b_is : b ≡ behind sections d mid.last
      = ap (behind sections start) es_is ∙ behind_append sections start (f.first ++ mid.middle) mid.last ∙ ap (λ (d : Moment). behind sections d mid.last) d_is in
      let fit_front : AllFit sections start (f.first ++ mid.middle)
      = (fit_append sections start (f.first ++ mid.middle) mid.last (subst (λ (l : List OneEntry). AllFit sections start l) es_is fit)).0 in
      let d_ended : is_ended d.setup.stand ≡ true = subst (λ (s : Seat). is_ended s.stand ≡ true) (sym mid.setup_is) f.ended in
      let last = last_by_rest d mid.last mid.fit d_ended mid.rest
      (λ all. subst (λ (d : Moment). (n : ℕ) → 1 ≤ n → is_ended (d.others n).stand ≡ true) d_is
      (all_still (f.first ++ mid.middle) fit_front (subst (λ (d : Moment). all_ended (actors_in sections) d.others ≡ true) (sym d_is) all))) in
      let b_setup : b.setup ≡ c.setup = ap (λ (c : Moment). c.setup) b_is ∙ setup_stays sections d mid.last d_ended mid.fit ∙ mid.setup_is in
      let legal = fit_legal sections start es fit in
      let in_parts = legal_append opening (f.first ++ mid.middle) mid.last (subst (λ (l : List OneEntry). LegalFrom opening l) es_is legal) in
      let in_front = legal_append opening f.first mid.middle in_parts.0 in
      let setup = seat_played 0 (setup_of sections) (carried [] (all_new 0) (no_maps 0)) new_bearing c.setup (deeds_from core opening 0 f.first) refl tt refl f.ended opening f.first in_front.0 refl f.passes in
      let last_is : last_of sections d ≡ settles (after_of sections setup.0) (bearing_by setup.1) []
      = (λ i. last_by sections ((mid.last_is ∙ f.last_is) i) (mid.setup_is i)) ∙ ap (λ (s : Seat). after_begun sections s) setup.3 in
      let world_is : d.world ≡ fold_from core opening (f.first ++ mid.middle) = ap (λ (d : Moment). d.world) (sym d_is) ∙ world_behind sections start (f.first ++ mid.middle) in
      let end_is : last_of sections b ≡ last_of sections (behind sections d mid.last) = ap (λ (c : Moment). last_of sections c) b_is in
      let passes : Passes (settles (after_of sections setup.0) (bearing_by setup.1) []) (deeds_from core (fold_from core opening (f.first ++ mid.middle)) 0 mid.last) (last_of sections b)
      = subst (λ (t : Seat). Passes (settles (after_of sections setup.0) (bearing_by setup.1) []) (deeds_from core (fold_from core opening (f.first ++ mid.middle)) 0 mid.last) t) (sym end_is)
      (subst (λ w. Passes (settles (after_of sections setup.0) (bearing_by setup.1) []) (deeds_from core w 0 mid.last) (last_of sections (behind sections d mid.last))) world_is
      (subst (λ (s : Seat). Passes s (deeds_from core d.world 0 mid.last) (last_of sections (behind sections d mid.last))) last_is last.passes)) in
      let after = seat_played 0 (after_of sections setup.0) setup.1 (bearing_by setup.1) (last_of sections b) (deeds_from core (fold_from core opening (f.first ++ mid.middle)) 0 mid.last) refl setup.4 setup.5 end.last
      (fold_from core opening (f.first ++ mid.middle)) mid.last in_parts.1 refl passes in
      let setup_then : (played : Played (planning plain) 0 (setup_of sections) (carried [] (all_new 0) (no_maps 0)) b.setup.text (deeds_from core opening 0 f.first) setup.0 setup.1) × AreWithin (session_cost sections) played.turns
      = subst (λ text. (played : Played (planning plain) 0 (setup_of sections) (carried [] (all_new 0) (no_maps 0)) text (deeds_from core opening 0 f.first) setup.0 setup.1) × AreWithin (session_cost sections) played.turns)
      (ap (λ (s : Seat). s.text) (sym b_setup)) (setup.2, setup.6 (session_cost sections)) in
      let told_last : ℕ → Option Told = left es fit end.others after.1.told in (
        told_last,
        record {
          legal = legal_goes opening es legal;
          first = f.first;
          middle = mid.middle;
          last = mid.last;
          is = es_is;
          others_not_first = f.alone;
          zero_not_between = mid.alone;
          others_not_last = last.alone;
          names = setup.0;
          waiting = setup.1;
          setup = setup_then.0;
          setup_within = setup_then.1;
          end = after.0;
          behind = after.1;
          after = after.2;
          after_within = after.6 (session_cost sections);
          left_is = first_left es fit end.others after.1.told;
          actors = subst (λ (m : Maps). ActorsPlayed (over 0 (planning plain)) all_new told_last sections es m 1 (others_texts 1 (actors_in sections) b.others)) (sym setup.5)
              (actors_played es fit end.others after.1.told (actors_in sections) 1 (omega arith));
          as_many = many_texts (actors_in sections) 1 b.others;
          nobody_else = λ n more. sym (deeds_entries opening n es) ∙ ap (λ (l : List OneDeed). entries_in l) (beyond_still n more es fit).0;
        },
      )
