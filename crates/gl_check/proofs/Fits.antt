-- What was carried out fits, entry by entry; and both ways together.
use Rattle.std.proofs.Common.{◌≡◌, ◌≢◌, inl, inr, ℕ, zero, suc, ◌+◌, ◌<◌, ◌≤◌, Bool, true, false, List, [], ◌∷◌, ◌++◌, length, Option, None, Some, refl, sym, ap, ◌∙◌, subst, arith, ne_eqb, eq-eqb}
use Rattle.std.specs.Prelude.{take, cond, ◌&&◌}
use Rattle.std.proofs.lemmas.Bool.{false≢true, true≢false}
use Rattle.std.proofs.lemmas.List.{append-nil}
use mathlib.Core.Logic.{dite}
use native.Mathlib.Decide.{ℕ_discrete, dec_lt}
use Rattle.gl_client.specs.Program.{Program, done, goes_on}
use Rattle.gl_driver.specs.Told.{Told}
use Rattle.gl_script.specs.Section.{SaidSection}
use Rattle.gl_talk.specs.Open.{Names}
use Rattle.gl_world.specs.Deeds.{deed_in, deeds_from}
use Rattle.gl_world.specs.History.{entries_of, fold_from}
use Rattle.gl_model.specs.Machine.{world_after}
use Rattle.gl_model.specs.World.{World, opening}
use Rattle.gl_core.specs.Device.{OneDeed, OneEntry, core}
use Rattle.gl_check.specs.Drivers.{over, plain, planning}
use Rattle.gl_check.specs.Joining.{Maps, no_maps}
use Rattle.gl_check.specs.Many.{ActorPlayed, ActorsPlayed, AllPlayed, Texts, all_new, program_of}
use Rattle.gl_check.specs.Misfit.{AllFit, AtEnd, IsMisfit, MayGo, MisfitIsNoneForMany, Moment, actors_in, after_begun, after_by, after_entry, all_ended, behind, last_by, last_of, others_texts, texts_in, texts_of}
use Rattle.gl_check.specs.One.{PlannedPort}
use Rattle.gl_check.specs.Programs.{after_of, setup_of}
use Rattle.gl_check.specs.Seats.{Passes, Seat, Suits, SuitsStand, is_ended, moved, seat, settles}
use Rattle.gl_check.specs.Turns.{Carried, Played, carried, did_by}
use Rattle.gl_check.specs.declared.stand.Stand.{Stand}
use Rattle.gl_check.specs.declared.stand.Stand.TheVariants.{Ended, Before, Between}
use Rattle.gl_check.proofs.Through.{IsTold, bearing_by, follows_through}
use Rattle.gl_check.proofs.Order.{LegalFrom, append_fit, behind_append, deeds_append, goes_legal, legal_append, other_by, others_first, others_pass, own_first, passes_one, world_behind, world_next}
use Rattle.gl_check.proofs.Silent.{without_ports}
use Rattle.gl_check.proofs.Whole.{beyond_ended, fit_played, start, w_after}

-- who has a next entry isn't at the end
going_by : (stand : Stand) (port : PlannedPort) (e : OneEntry) → SuitsStand stand port e → is_ended stand ≡ false
going_by Ended port e suits = absurd suits
going_by (Before what first) port e suits = refl
going_by (Between what first) port e suits = refl

going : (s : Seat) (e : OneEntry) → Suits s e → is_ended s.stand ≡ false
going s e suits = going_by s.stand s.bearing.port e suits

all_ended_from : (count : ℕ) (others : ℕ → Seat) → ((n : ℕ) → 1 ≤ n → is_ended (others n).stand ≡ true) → all_ended count others ≡ true
all_ended_from zero others h = refl
all_ended_from (suc count) others h = ap (λ b. b && all_ended count others) (h (suc count) (omega arith)) ∙ all_ended_from count others h

-- the first entry of a list that has none of an actor's
other_first : (n : ℕ) (e : OneEntry) (es : List OneEntry) → entries_of n (e ∷ es) ≡ [] → (e.actor ≢ n) × (entries_of n es ≡ [])
other_first n e es none = dite (ℕ_discrete e.actor n)
    (λ is. let l : e ∷ entries_of n es ≡ [] = sym (ap (λ b. cond b (e ∷ entries_of n es) (entries_of n es)) (eq-eqb e.actor n is)) ∙ none in
    let z : length (e ∷ entries_of n es) ≡ 0 = ap (λ l. length l) l in absurd (omega arith))
    (λ ne. (ne, sym (ap (λ b. cond b (e ∷ entries_of n es) (entries_of n es)) (ne_eqb e.actor n ne)) ∙ none))

is_zero : (k : ℕ) → ((n : ℕ) → 1 ≤ n → k ≢ n) → k ≡ 0
is_zero zero h = refl
is_zero (suc k) h = absurd (h (suc k) (omega arith) refl)

module _ (sections : List SaidSection) where
  deeds_none : (w : World) (n : ℕ) (es : List OneEntry) → entries_of n es ≡ [] → deeds_from core w n es ≡ []
  deeds_none w n [] none = refl
  deeds_none w n (e ∷ es) none = let o = other_first n e es none in others_first w n e es o.0 ∙ deeds_none (world_after w e.actor e.call) n es o.1

  -- an entry of actor 0 in `setup`
  early : (b : Bool) (k : ℕ) (d : OneDeed) (w : World) (c : Moment) (e : OneEntry) → b ≡ false → k ≡ 0 → Suits c.setup e
      → MayGo sections b k c e × ((after_by sections b k d w c).setup ≡ moved c.setup d) × ((after_by sections b k d w c).others ≡ c.others) × ((after_by sections b k d w c).last ≡ c.last)
  early false zero d w c e is none suits = (suits, refl, refl, refl)
  early false (suc k) d w c e is none suits = let z : suc k ≡ 0 = none in absurd (omega arith)
  early true k d w c e is none suits = absurd (true≢false is)

  -- one of a further actor
  between : (b : Bool) (k : ℕ) (d : OneDeed) (w : World) (c : Moment) (e : OneEntry) → b ≡ true → 1 ≤ k → Suits (c.others k) e
      → MayGo sections b k c e × ((after_by sections b k d w c).setup ≡ c.setup) × ((after_by sections b k d w c).last ≡ c.last)
      × ((after_by sections b k d w c).others k ≡ moved (c.others k) d)
  between true zero d w c e is one suits = absurd (omega arith)
  between true (suc k) d w c e is one suits = (suits, refl, refl, ap (λ t. cond t (moved (c.others (suc k)) d) (c.others (suc k))) (eq-eqb (suc k) (suc k) refl))
  between false k d w c e is one suits = absurd (false≢true is)

  -- one of actor 0 in `after`
  late : (b : Bool) (k : ℕ) (d : OneDeed) (w : World) (c : Moment) (e : OneEntry) → b ≡ true → k ≡ 0 → all_ended (actors_in sections) c.others ≡ true → Suits (last_of sections c) e
      → MayGo sections b k c e × ((after_by sections b k d w c).setup ≡ c.setup) × ((after_by sections b k d w c).others ≡ c.others)
      × (last_of sections (after_by sections b k d w c) ≡ moved (last_of sections c) d)
  late true zero d w c e is none all suits = ((all, suits), refl, refl, refl)
  late true (suc k) d w c e is none all suits = let z : suc k ≡ 0 = none in absurd (omega arith)
  late false k d w c e is none all suits = absurd (false≢true is)

  pub record RunFirst (c : Moment) (es : List OneEntry) (t : Seat) : Type 0 where
    pub fit : AllFit sections c es
    pub setup : (behind sections c es).setup ≡ t
    pub others : (behind sections c es).others ≡ c.others
    pub last : (behind sections c es).last ≡ c.last

  run_first : (c : Moment) (es : List OneEntry) (t : Seat) → ((n : ℕ) → 1 ≤ n → entries_of n es ≡ []) → Passes c.setup (deeds_from core c.world 0 es) t → LegalFrom c.world es → RunFirst c es t
  run_first c [] t alone passes legal = record { fit = tt; setup = passes; others = refl; last = refl }
  run_first c (e ∷ es) t alone passes legal =
      let zero_is : e.actor ≡ 0 = is_zero e.actor (λ n one. (other_first n e es (alone n one)).0) in
      let d : OneDeed = deed_in core c.world e in
      let p : Suits c.setup e × Passes (moved c.setup d) (deeds_from core (w_after sections c e) 0 es) t = subst (λ (l : List OneDeed). Passes c.setup l t) (own_first c.world 0 e es zero_is) passes in
      let o = early (is_ended c.setup.stand) e.actor d (w_after sections c e) c e (going c.setup e p.0) zero_is p.0 in
      let next : Moment = after_entry sections c e in
      let more = run_first next es t (λ n one. (other_first n e es (alone n one)).1)
      (subst (λ w. Passes next.setup (deeds_from core w 0 es) t) (sym (world_next sections c e)) (subst (λ (s : Seat). Passes s (deeds_from core (w_after sections c e) 0 es) t) (sym o.1) p.1))
      (subst (λ w. LegalFrom w es) (sym (world_next sections c e)) legal.1) in
      record { fit = ((legal.0, o.0), more.fit); setup = more.setup; others = more.others ∙ o.2; last = more.last ∙ o.3 }

  pub record RunMiddle (c : Moment) (es : List OneEntry) : Type 0 where
    pub fit : AllFit sections c es
    pub setup : (behind sections c es).setup ≡ c.setup
    pub last : (behind sections c es).last ≡ c.last

  run_middle : (c : Moment) (es : List OneEntry) → is_ended c.setup.stand ≡ true → entries_of 0 es ≡ [] → ((n : ℕ) → 1 ≤ n → (t : Seat) × Passes (c.others n) (deeds_from core c.world n es) t)
      → LegalFrom c.world es → RunMiddle c es
  run_middle c [] ended alone passes legal = record { fit = tt; setup = refl; last = refl }
  run_middle c (e ∷ es) ended alone passes legal =
      let none = other_first 0 e es alone in
      let one : 1 ≤ e.actor = positive e.actor none.0 in
      let d : OneDeed = deed_in core c.world e in
      let own = passes e.actor one in
      let p : Suits (c.others e.actor) e × Passes (moved (c.others e.actor) d) (deeds_from core (w_after sections c e) e.actor es) own.0
      = subst (λ (l : List OneDeed). Passes (c.others e.actor) l own.0) (own_first c.world e.actor e es refl) own.1 in
      let o = between (is_ended c.setup.stand) e.actor d (w_after sections c e) c e ended one p.0 in
      let next : Moment = after_entry sections c e in
      let more = run_middle next es (subst (λ (s : Seat). is_ended s.stand ≡ true) (sym o.1) ended) none.1
      (λ n some. dite (ℕ_discrete e.actor n)
      (λ is. subst (λ k. (t : Seat) × Passes (next.others k) (deeds_from core next.world k es) t) is (
        own.0,
        subst (λ w. Passes (next.others e.actor) (deeds_from core w e.actor es) own.0) (sym (world_next sections c e))
            (subst (λ (s : Seat). Passes s (deeds_from core (w_after sections c e) e.actor es) own.0) (sym o.3) p.1),
      ))
      (λ ne. let q = passes n some in (
        q.0,
        subst (λ w. Passes (next.others n) (deeds_from core w n es) q.0) (sym (world_next sections c e))
            (subst (λ (s : Seat). Passes s (deeds_from core (w_after sections c e) n es) q.0) (sym (other_by sections (is_ended c.setup.stand) d (w_after sections c e) c e e.actor n some ne))
            (subst (λ (l : List OneDeed). Passes (c.others n) l q.0) (others_first c.world n e es ne) q.1)),
      )))
      (subst (λ w. LegalFrom w es) (sym (world_next sections c e)) legal.1) in
      record { fit = ((legal.0, o.0), more.fit); setup = more.setup ∙ o.1; last = more.last ∙ o.2 }
    where
      positive : (k : ℕ) → k ≢ 0 → 1 ≤ k
      positive zero ne = absurd (ne refl)
      positive (suc k) ne = omega arith

  pub record RunLast (c : Moment) (es : List OneEntry) (t : Seat) : Type 0 where
    pub fit : AllFit sections c es
    pub setup : (behind sections c es).setup ≡ c.setup
    pub others : (behind sections c es).others ≡ c.others
    pub last : last_of sections (behind sections c es) ≡ t

  run_last : (c : Moment) (es : List OneEntry) (t : Seat) → is_ended c.setup.stand ≡ true → all_ended (actors_in sections) c.others ≡ true → ((n : ℕ) → 1 ≤ n → entries_of n es ≡ [])
      → Passes (last_of sections c) (deeds_from core c.world 0 es) t → LegalFrom c.world es → RunLast c es t
  run_last c [] t ended all alone passes legal = record { fit = tt; setup = refl; others = refl; last = passes }
  run_last c (e ∷ es) t ended all alone passes legal =
      let zero_is : e.actor ≡ 0 = is_zero e.actor (λ n one. (other_first n e es (alone n one)).0) in
      let d : OneDeed = deed_in core c.world e in
      let p : Suits (last_of sections c) e × Passes (moved (last_of sections c) d) (deeds_from core (w_after sections c e) 0 es) t
      = subst (λ (l : List OneDeed). Passes (last_of sections c) l t) (own_first c.world 0 e es zero_is) passes in
      let o = late (is_ended c.setup.stand) e.actor d (w_after sections c e) c e ended zero_is all p.0 in
      let next : Moment = after_entry sections c e in
      let more = run_last next es t (subst (λ (s : Seat). is_ended s.stand ≡ true) (sym o.1) ended) (subst (λ (f : ℕ → Seat). all_ended (actors_in sections) f ≡ true) (sym o.2) all) (λ n one. (other_first n e es (alone n one)).1)
      (subst (λ w. Passes (last_of sections next) (deeds_from core w 0 es) t) (sym (world_next sections c e)) (subst (λ (s : Seat). Passes s (deeds_from core (w_after sections c e) 0 es) t) (sym o.3) p.1))
      (subst (λ w. LegalFrom w es) (sym (world_next sections c e)) legal.1) in
      record { fit = ((legal.0, o.0), more.fit); setup = more.setup ∙ o.1; others = more.others ∙ o.2; last = more.last }

  played_passes : (n : ℕ) (p : Program Names) (s : Carried) (text : List ℕ) (ds : List OneDeed) (value : Names) (r : Carried) → IsTold s.told → s.maps ≡ no_maps 0 → Played (planning plain) n p s text ds value r
      → Passes (settles p (bearing_by s) []) ds (seat Ended (goes_on (done value)) (bearing_by r) text) × IsTold r.told × (r.maps ≡ no_maps 0)
  played_passes n p s text ds value r told bare played =
      let f = follows_through n played.turns p s value r [] told bare played.follows in (
        subst (λ (l : List OneDeed). Passes (settles p (bearing_by s) []) l (seat Ended (goes_on (done value)) (bearing_by r) text)) (sym played.did_is)
            (subst (λ t. Passes (settles p (bearing_by s) []) (did_by played.turns) (seat Ended (goes_on (done value)) (bearing_by r) t)) (sym played.text_is) f.0),
        f.1,
        f.2,
      )

  -- the text of an actor among those of all
  actor_at : (left : ℕ → Option Told) (es : List OneEntry) (m : Maps) (texts : List (List ℕ)) (k n : ℕ) → ActorsPlayed (over 0 (planning plain)) all_new left sections es m k texts → k ≤ n → n < k + length texts → (text : List ℕ) × ActorPlayed (over 0 (planning plain)) all_new left sections es m n text
  actor_at left es m [] k n played low high = absurd (omega arith)
  actor_at left es m (text ∷ texts) k n played low high = dite (ℕ_discrete k n)
      (λ is. (text, subst (λ n. ActorPlayed (over 0 (planning plain)) all_new left sections es m n text) is played.0))
      (λ ne. actor_at left es m texts (k + 1) n played.1 (above ne low) (omega arith))
    where
      above : k ≢ n → k ≤ n → k + 1 ≤ n
      above ne low = omega arith

  -- where each further actor comes to, by what it carried out
  pub record Comes (es : List OneEntry) (n : ℕ) : Type 0 where
    pub to : Seat
    pub passes : Passes ((start sections).others n) (deeds_from core opening n es) to
    pub ended : is_ended to.stand ≡ true

  comes_to : (left : ℕ → Option Told) (es : List OneEntry) (m : Maps) → m ≡ no_maps 0 → (n : ℕ) (text : List ℕ) → ActorPlayed (over 0 (planning plain)) all_new left sections es m n text → (o : Comes es n) × (o.to.text ≡ text)
  comes_to left es m bare n text played = let p = played_passes n (program_of sections n) (carried [] (all_new n) m) text (deeds_from core opening n es) played.names played.behind tt bare played.played in
      (record { to = seat Ended (goes_on (done played.names)) (bearing_by played.behind) text; passes = p.0; ended = refl }, refl)

  all_come : (left : ℕ → Option Told) (es : List OneEntry) (texts : Texts) → AllPlayed (over 0 (planning plain)) all_new left sections es texts → (n : ℕ) → 1 ≤ n → Comes es n
  all_come left es texts played n one = let bare = (played_passes 0 (setup_of sections) (carried [] (all_new 0) (no_maps 0)) texts.setup (deeds_from core opening 0 played.first) played.names played.waiting tt refl played.setup).2 in dite (dec_lt (actors_in sections) n)
      (λ more. record {
        to = (start sections).others n;
        passes = subst (λ (l : List OneDeed). Passes ((start sections).others n) l ((start sections).others n)) (sym (deeds_none opening n es (played.nobody_else n more))) refl;
        ended = beyond_ended sections n more;
      })
      (λ less. let a = actor_at left es played.waiting.maps texts.actors 1 n played.actors one (let l = played.as_many in omega arith) in (comes_to left es played.waiting.maps bare n a.0 a.1).0)

  texts_are : (left : ℕ → Option Told) (es : List OneEntry) → AllFit sections (start sections) es → (m : Maps) → m ≡ no_maps 0 → (texts : List (List ℕ)) (n : ℕ) → 1 ≤ n → ActorsPlayed (over 0 (planning plain)) all_new left sections es m n texts
      → texts ≡ others_texts n (length texts) (behind sections (start sections) es).others
  texts_are left es fit m bare [] n one played = refl
  texts_are left es fit m bare (text ∷ texts) n one played =
      let o = comes_to left es m bare n text played.0 in
      let same : o.0.to ≡ (behind sections (start sections) es).others n
      = passes_one sections ((start sections).others n) o.0.to ((behind sections (start sections) es).others n) (deeds_from core opening n es) o.0.passes (others_pass sections n one (start sections) es fit) in
      (λ i. (sym o.1 ∙ ap (λ (s : Seat). s.text) same) i ∷ texts) ∙ ap (λ l. ((behind sections (start sections) es).others n).text ∷ l) (texts_are left es fit m bare texts (n + 1) (omega arith) played.1)

  pub played_fit : (left : ℕ → Option Told) (es : List OneEntry) (texts : Texts) → AllPlayed (over 0 (planning plain)) all_new left sections es texts
      → AllFit sections (start sections) es × AtEnd sections (behind sections (start sections) es) × (texts ≡ texts_in sections (behind sections (start sections) es))
  played_fit left es texts played =
      let c : Moment = start sections in
      let legal = legal_append opening (played.first ++ played.middle) played.last (subst (λ (l : List OneEntry). LegalFrom opening l) played.is (goes_legal opening es played.legal.0 played.legal.1)) in
      let legal_front = legal_append opening played.first played.middle legal.0 in
      let setup = played_passes 0 (setup_of sections) (carried [] (all_new 0) (no_maps 0)) texts.setup (deeds_from core opening 0 played.first) played.names played.waiting tt refl played.setup in
      let setup_to : Seat = seat Ended (goes_on (done played.names)) (bearing_by played.waiting) texts.setup in
      let r1 = run_first c played.first setup_to played.others_not_first setup.0 legal_front.0 in
      let c1 : Moment = behind sections c played.first in
      let c1_world : c1.world ≡ fold_from core opening played.first = world_behind sections c played.first in
      let c1_ended : is_ended c1.setup.stand ≡ true = subst (λ (s : Seat). is_ended s.stand ≡ true) (sym r1.setup) refl in
      let come : (n : ℕ) → 1 ≤ n → Comes es n = all_come left es texts played in
      let deeds_are : (n : ℕ) → 1 ≤ n → deeds_from core opening n es ≡ deeds_from core c1.world n played.middle = λ n one.
      ap (deeds_from core opening n) played.is ∙ deeds_append opening n (played.first ++ played.middle) played.last
      ∙ ap (λ (l : List OneDeed). deeds_from core opening n (played.first ++ played.middle) ++ l) (deeds_none (fold_from core opening (played.first ++ played.middle)) n played.last (played.others_not_last n one))
      ∙ append-nil (deeds_from core opening n (played.first ++ played.middle)) ∙ deeds_append opening n played.first played.middle
      ∙ ap (λ (l : List OneDeed). l ++ deeds_from core (fold_from core opening played.first) n played.middle) (deeds_none opening n played.first (played.others_not_first n one))
      ∙ ap (λ w. deeds_from core w n played.middle) (sym c1_world) in
      let middle_passes : (n : ℕ) (one : 1 ≤ n) → Passes (c1.others n) (deeds_from core c1.world n played.middle) (come n one).to = λ n one.
      subst (λ (f : ℕ → Seat). Passes (f n) (deeds_from core c1.world n played.middle) (come n one).to) (sym r1.others)
      (subst (λ (l : List OneDeed). Passes (c.others n) l (come n one).to) (deeds_are n one) (come n one).passes) in
      let r2 = run_middle c1 played.middle c1_ended played.zero_not_between (λ n one. ((come n one).to, middle_passes n one)) (subst (λ w. LegalFrom w played.middle) (sym c1_world) legal_front.1) in
      let c2 : Moment = behind sections c1 played.middle in
      let c2_is : behind sections c (played.first ++ played.middle) ≡ c2 = behind_append sections c played.first played.middle in
      let c2_world : c2.world ≡ fold_from core opening (played.first ++ played.middle) = ap (λ (c : Moment). c.world) (sym c2_is) ∙ world_behind sections c (played.first ++ played.middle) in
      let c2_ended : is_ended c2.setup.stand ≡ true = subst (λ (s : Seat). is_ended s.stand ≡ true) (sym r2.setup) c1_ended in
      let c2_all : all_ended (actors_in sections) c2.others ≡ true = all_ended_from (actors_in sections) c2.others (λ n one.
      subst (λ (s : Seat). is_ended s.stand ≡ true)
      (passes_one sections (c1.others n) (come n one).to (c2.others n) (deeds_from core c1.world n played.middle) (middle_passes n one) (others_pass sections n one c1 played.middle r2.fit)) (come n one).ended) in
      let after = played_passes 0 (after_of sections played.names) played.waiting texts.last (deeds_from core (fold_from core opening (played.first ++ played.middle)) 0 played.last) played.end played.behind setup.1 setup.2 played.after in
      let last_to : Seat = seat Ended (goes_on (done played.end)) (bearing_by played.behind) texts.last in
      let last_is : last_of sections c2 ≡ settles (after_of sections played.names) (bearing_by played.waiting) []
      = (λ i. last_by sections ((r2.last ∙ r1.last) i) (r2.setup i)) ∙ ap (λ (s : Seat). after_begun sections s) r1.setup in
      let r3 = run_last c2 played.last last_to c2_ended c2_all played.others_not_last
      (subst (λ w. Passes (last_of sections c2) (deeds_from core w 0 played.last) last_to) (sym c2_world)
      (subst (λ (s : Seat). Passes s (deeds_from core (fold_from core opening (played.first ++ played.middle)) 0 played.last) last_to) (sym last_is) after.0))
      (subst (λ w. LegalFrom w played.last) (sym c2_world) legal.1) in
      let fit : AllFit sections c es = subst (λ (l : List OneEntry). AllFit sections c l) (sym played.is)
      (append_fit sections c (played.first ++ played.middle) played.last (append_fit sections c played.first played.middle r1.fit r2.fit)
      (subst (λ (c : Moment). AllFit sections c played.last) (sym c2_is) r3.fit)) in
      let b : Moment = behind sections c es in
      let b_is : b ≡ behind sections c2 played.last
      = ap (behind sections c) played.is ∙ behind_append sections c (played.first ++ played.middle) played.last ∙ ap (λ (c : Moment). behind sections c played.last) c2_is in
      let b_setup : b.setup ≡ setup_to = ap (λ (c : Moment). c.setup) b_is ∙ r3.setup ∙ r2.setup ∙ r1.setup in
      let b_last : last_of sections b ≡ last_to = ap (λ (c : Moment). last_of sections c) b_is ∙ r3.last in
      let b_others : b.others ≡ c2.others = ap (λ (c : Moment). c.others) b_is ∙ r3.others in
      let actors : texts.actors ≡ others_texts 1 (actors_in sections) b.others = texts_are left es fit played.waiting.maps setup.2 texts.actors 1 (omega arith) played.actors ∙ ap (λ k. others_texts 1 k b.others) played.as_many in (
        fit,
        record {
          setup = subst (λ (s : Seat). is_ended s.stand ≡ true) (sym b_setup) refl;
          others = subst (λ (f : ℕ → Seat). all_ended (actors_in sections) f ≡ true) (sym b_others) c2_all;
          last = subst (λ (s : Seat). is_ended s.stand ≡ true) (sym b_last) refl;
        },
        λ i. record { setup = (sym b_setup i).text; actors = actors i; last = (sym b_last i).text },
      )

  -- a front of what fits fits
  fit_take : (c : Moment) (es : List OneEntry) (i j : ℕ) → i ≤ j → AllFit sections c (take j es) → AllFit sections c (take i es)
  fit_take c [] zero zero low fit = tt
  fit_take c [] zero (suc j) low fit = tt
  fit_take c [] (suc i) zero low fit = tt
  fit_take c [] (suc i) (suc j) low fit = tt
  fit_take c (e ∷ es) zero j low fit = tt
  fit_take c (e ∷ es) (suc i) zero low fit = absurd (omega arith)
  fit_take c (e ∷ es) (suc i) (suc j) low fit = (fit.0, fit_take (after_entry sections c e) es i j (omega arith) fit.1)

  abbrev none : List OneEntry → Type 0
  none es = IsMisfit sections es None

  abbrev some : List OneEntry → ℕ → Type 0
  some es i = IsMisfit sections es (Some i)

  whole_fit : (es : List OneEntry) (i : ℕ) → AllFit sections (start sections) es → AllFit sections (start sections) (take i es)
  whole_fit es i fit = dite (dec_lt i (length es))
      (λ less. fit_take (start sections) es i (length es) (omega arith) (subst (λ (l : List OneEntry). AllFit sections (start sections) l) (sym (over es (length es) (omega arith))) fit))
      (λ more. subst (λ (l : List OneEntry). AllFit sections (start sections) l) (sym (over es i (omega arith))) fit)
    where
      over : (es : List OneEntry) (i : ℕ) → length es ≤ i → take i es ≡ es
      over [] zero low = refl {a = []}
      over [] (suc i) low = refl {a = []}
      over (e ∷ es) zero low = let z : length (e ∷ es) ≤ 0 = low in absurd (omega arith)
      over (e ∷ es) (suc i) low = ap (λ l. e ∷ l) (over es i (omega arith))

  none_alone : (es : List OneEntry) (i : ℕ) → none es → some es i → ⊥
  none_alone es i clean one = elim one.1 as (λ _. ⊥) [ inl stops ↦ stops.1 (whole_fit es (i + 1) clean.0) | inr ends ↦ ends.1 clean.1 ]

  least : (es : List OneEntry) (i j : ℕ) → some es i → some es j → i < j → ⊥
  least es i j one other less = elim one.1 as (λ _. ⊥) [
    | inl stops ↦ stops.1 (fit_take (start sections) es (i + 1) j (omega arith) other.0)
    | inr ends ↦ elim other.1 as (λ _. ⊥) [ inl stops ↦ (let a = stops.0 in let b = ends.0 in absurd (omega arith)) | inr more ↦ (let a = more.0 in let b = ends.0 in absurd (omega arith)) ]
  ]

  pub misfits_are_one : (es : List OneEntry) (i j : Option ℕ) → IsMisfit sections es i → IsMisfit sections es j → i ≡ j
  misfits_are_one es None None a b = refl
  misfits_are_one es None (Some j) a b = absurd (none_alone es j a b)
  misfits_are_one es (Some i) None a b = absurd (none_alone es i b a)
  misfits_are_one es (Some i) (Some j) a b = dite (dec_lt i j) (λ less. absurd (least es i j a b less)) (λ above. dite (dec_lt j i) (λ less. absurd (least es j i b a less)) (λ below. ap Some (same above below)))
    where
      same : ((i < j) → ⊥) → ((j < i) → ⊥) → i ≡ j
      same above below = omega arith

pub judged : MisfitIsNoneForMany
judged sections history = record {
  sound = λ fits. let p = fit_played sections history fits.0 fits.1 in (without_ports (over 0 (planning plain)) all_new p.0 sections history (texts_of sections history) p.1, p);
  complete = λ texts played. let f = played_fit sections played.0 history texts played.1 in ((f.0, f.1), f.2);
  at_most_one = misfits_are_one sections history;
}
