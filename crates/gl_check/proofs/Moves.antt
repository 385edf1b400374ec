-- The judge, an entry at a time.
use Rattle.std.proofs.Common.{◌≡◌, ◌≢◌, ◌⊎◌, ℕ, zero, suc, ◌+◌, ◌<◌, ◌≤◌, Bool, true, false, List, [], ◌∷◌, ◌++◌, length, length-append, map, drop, set, get_or, Option, None, Some, refl, sym, ap, ◌∙◌, subst, arith, eq-eqb, ne_eqb, inl, inr}
use Rattle.std.specs.Prelude.{◌&&◌, cond}
use Rattle.std.specs.Bool.{Decides}
use Rattle.std.proofs.Math.Seq.{drop-append_seam, drop-length, get_or-append_seam}
use Rattle.std.proofs.lemmas.Bool.{cases_eq, cases_lt, false≢true}
use Rattle.std.proofs.lemmas.List.{get_or-set_other, get_or-set_same, get_or_append_left}
use Rattle.std.proofs.lemmas.List.{length-map, length-set}
use Rattle.gl_base.specs.Words.{Span}
use Rattle.gl_world.specs.Deeds.{deed_in}
use Rattle.gl_client.specs.Program.{Left, Program, done, given, goes_on}
use Rattle.gl_model.specs.Machine.{world_after}
use Rattle.gl_model.specs.World.{World, opening}
use Rattle.gl_script.specs.Section.{SaidSection}
use Rattle.gl_script.specs.declared.section.SectionKind.TheVariants.{Setup, After}
use Rattle.gl_script.specs.declared.section.Statement.{Statement}
use Rattle.gl_talk.specs.Open.{Names, left_setup, no_names, setup_names}
use Rattle.gl_talk.specs.Over.{columns_in}
use Rattle.gl_talk.specs.Talk.{left, names_in, quits, says}
use Rattle.gl_talk.specs.declared.talk.Talk.{Talk}
use Rattle.gl_core.specs.Device.{OneDeed, OneEntry, core}
use Rattle.gl_core.specs.Kept.{StandsFor}
use Rattle.gl_core.specs.Legal.{GoesOn}
use Rattle.gl_check.specs.Judging.{AreSeats, IsFirst, IsSeatOf, Judges, actor_words, all_words, setup_words}
use Rattle.gl_check.specs.Misfit.{AtEnd, FitsIn, MayGo, Moment, actors_in, after_by, after_entry, all_ended, beginning, last_by, last_of, value_left, with_other}
use Rattle.gl_check.specs.One.{said_in_kind}
use Rattle.gl_check.specs.Programs.{after_of}
use Rattle.gl_check.specs.Seating.{HasEnded, IsKept, bearing_by, comes_behind, left_by, port_in, seat_in}
use Rattle.gl_check.specs.Seats.{Seat as SeatOf, Suits, SuitsStand, is_ended, moved, new_bearing, settles}
use Rattle.gl_check.specs.declared.judge.Judge.{Judge}
use Rattle.gl_check.specs.declared.seat.Seat.{Seat}
use Rattle.gl_check.proofs.Beyond.{beyond_program}
use Rattle.gl_check.proofs.Order.{ended_at, nothing_suits}
use Rattle.gl_check.proofs.Settling.{rests_left}

and_both : (a b : Bool) → (a && b) ≡ true → (a ≡ true) × (b ≡ true)
and_both true b h = (refl, h)
and_both false b h = absurd (false≢true h)

-- all actors at their end, one after another
pub all_more : (i : ℕ) (f : ℕ → SeatOf) → all_ended i f ≡ true → is_ended (f (i + 1)).stand ≡ true → all_ended (i + 1) f ≡ true
all_more i f all last = let e : suc i ≡ i + 1 = omega arith in subst (λ n. all_ended n f ≡ true) e
    (ap (λ b. b && all_ended i f) (subst (λ n. is_ended (f n).stand ≡ true) (sym e) last) ∙ all)

pub not_all : (i n : ℕ) (f : ℕ → SeatOf) → i < n → is_ended (f (i + 1)).stand ≡ false → false ≡ all_ended n f
not_all i n f less never = by (all_ended n f) refl
  where
    by : (b : Bool) → all_ended n f ≡ b → false ≡ b
    by false is = refl
    by true is = absurd (false≢true (sym never ∙ ended_at n (i + 1) f is (omega arith) (omega arith)))

module _ (sections : List SaidSection) where
  -- `after`, as it begins
  pub after_begins : (s : Seat) (talk : Talk) (printed : List ℕ) (c : Moment) → IsFirst sections false s printed c → is_ended s.stand ≡ true
      → left talk ≡ goes_on (done (left_setup (names_in s.talk))) → talk.begun ≡ s.talk.begun
      → settles (given (left_by true (all_words sections) talk s.closes) None) (bearing_by s.rows.items s.port) [] ≡ last_of sections c
  after_begins s talk printed c first ended rests same =
      ap (λ (p : Program Names). settles p (bearing_by s.rows.items s.port) []) program ∙ sym last
    where
      has : HasEnded false (setup_words sections) s
      has = first.1.ended ended

      names : Names
      names = names_in s.talk

      unclosed : s.closes ≡ false
      unclosed = first.1.going.stays_open refl

      begun : s.talk.begun ≡ length (setup_words sections)
      begun = has.all unclosed

      program : given (left_by true (all_words sections) talk s.closes) None ≡ after_of sections names
      program = ap (λ (l : Left Names). given l None) (rests_left true (all_words sections) talk s.closes (left_setup names) rests)
          ∙ ap (λ (x : Bool × ℕ). comes_behind x.0 true x.1 (drop x.1 (all_words sections)) (left_setup names)) (λ i. (unclosed i, (same ∙ begun) i))
          ∙ ap (λ (l : List (List Span)). says (length (setup_words sections)) l quits (left_setup names)) (drop-append_seam (setup_words sections) (said_in_kind After sections))

      value : value_left (left_by false (setup_words sections) s.talk s.closes) ≡ names
      value = ap (λ (l : Left Names). value_left l) (rests_left false (setup_words sections) s.talk s.closes names has.rests)
          ∙ ap (λ (x : Bool × ℕ). value_left (goes_on (comes_behind x.0 false x.1 (drop x.1 (setup_words sections)) names))) (λ i. (unclosed i, begun i))
          ∙ ap (λ (l : List (List Span)). value_left (goes_on (says (length (setup_words sections)) l (λ given_names. done given_names) names))) (drop-length (setup_words sections))

      last : last_of sections c ≡ settles (after_of sections names) (bearing_by s.rows.items s.port) []
      last = ap (λ (x : Option SeatOf × SeatOf). last_by sections x.0 x.1) (λ i. (first.2 i, sym first.0 i))
          ∙ ap (λ (n : Names). settles (after_of sections n) (bearing_by s.rows.items s.port) []) value

  -- an entry of `setup`
  module _ (j : Judge) (c : Moment) (e : OneEntry) (judges : Judges sections j c) (zero_is : e.actor ≡ 0) where
    abbrev d : OneDeed
    d = deed_in core c.world e

    abbrev w : World
    w = world_after c.world e.actor e.call

    abbrev Goes : Type 0
    Goes = GoesOn c.world e.actor e.call e.reply

    phase_is : (b : Bool) → j.after ≡ b → is_ended c.setup.stand ≡ b
    phase_is b is = sym judges.phase ∙ is

    first_in : (b : Bool) → j.after ≡ b → IsFirst sections b j.first j.setup.items c
    first_in b is = subst (λ (x : Bool). IsFirst sections x j.first j.setup.items c) is judges.first

    pub setup_fits : (good : Bool) → j.after ≡ false → Decides good (Goes × SuitsStand j.first.stand (port_in j.first.port) e) → Decides good (FitsIn sections c e)
    setup_fits good is told =
        subst (λ (P : Type 0). Decides good P)
        (ap (λ (s : SeatOf). Goes × Suits s e) (first_in false is).0
        ∙ sym (ap (λ (x : Bool × ℕ). Goes × MayGo sections x.0 x.1 c e) (λ i. (phase_is false is i, zero_is i)))) told

    setup_after : j.after ≡ false → after_entry sections c e ≡ record { world = w; setup = moved c.setup d; last = c.last; others = c.others }
    setup_after is = ap (λ (x : Bool × ℕ). after_by sections x.0 x.1 d w c) (λ i. (phase_is false is i, zero_is i))

    pub setup_goes : (first then : Seat) (printed : List ℕ) (k : Judge) → j.after ≡ false
        → StandsFor k.core w → seat_in false (setup_words sections) first ≡ moved (seat_in false (setup_words sections) j.first) d → IsKept false (setup_words sections) first
        → ((m : Moment) → IsFirst sections false first printed m → IsFirst sections k.after k.first k.setup.items m) → k.after ≡ is_ended first.stand → k.others.items ≡ j.others.items
        → Judges sections k (after_entry sections c e)
    setup_goes first then printed k is world moves kept begins after others =
        let m : Moment = record { world = w; setup = moved c.setup d; last = c.last; others = c.others } in
        let seated : seat_in false (setup_words sections) first ≡ moved c.setup d = moves ∙ ap (λ (s : SeatOf). moved s d) (first_in false is).0 in
        subst (λ (n : Moment). Judges sections k n) (sym (setup_after is)) (record {
          world = world;
          phase = after ∙ ap (λ (s : SeatOf). is_ended s.stand) seated;
          first = begins m (seated, kept, (first_in false is).2);
          others = subst (λ (l : List Seat). AreSeats sections l c.others) (sym others) judges.others;
          as_many = ap (λ (l : List Seat). length l) others ∙ judges.as_many;
          beyond = judges.beyond;
        })

    -- an entry of `after`
    last_fit : j.after ≡ true → FitsIn sections c e ≡ (Goes × ((all_ended (actors_in sections) c.others ≡ true) × Suits (last_of sections c) e))
    last_fit is = ap (λ (x : Bool × ℕ). Goes × MayGo sections x.0 x.1 c e) (λ i. (phase_is true is i, zero_is i))

    pub last_early : (all : Bool) → j.after ≡ true → all ≡ all_ended (length j.others.items) c.others → all ≡ false → Decides false (FitsIn sections c e)
    last_early all is told not_all_ended =
        (λ never. absurd (false≢true never), λ fits. let fit = subst (λ (P : Type 0). P) (last_fit is) fits in sym not_all_ended ∙ told ∙ ap (λ n. all_ended n c.others) judges.as_many ∙ fit.1.0)

    pub last_fits : (good all : Bool) → j.after ≡ true → all ≡ all_ended (length j.others.items) c.others → all ≡ true → Decides good (Goes × SuitsStand j.first.stand (port_in j.first.port) e)
        → Decides good (FitsIn sections c e)
    last_fits good all is told ended decides =
        let first = (first_in true is).0 in
        let all_are : all_ended (actors_in sections) c.others ≡ true = ap (λ n. all_ended n c.others) (sym judges.as_many) ∙ sym told ∙ ended in
        let same : (Goes × SuitsStand j.first.stand (port_in j.first.port) e) ≡ (Goes × Suits (last_of sections c) e) = ap (λ (s : SeatOf). Goes × Suits s e) first in (
          λ so. let fit = subst (λ (P : Type 0). P) same (decides.0 so) in subst (λ (P : Type 0). P) (sym (last_fit is)) (fit.0, (all_are, fit.1)),
          λ fits. let fit = subst (λ (P : Type 0). P) (last_fit is) fits in decides.1 (subst (λ (P : Type 0). P) (sym same) (fit.0, fit.1.1)),
        )

    last_after : j.after ≡ true → after_entry sections c e ≡ record { world = w; setup = c.setup; last = Some (moved (last_of sections c) d); others = c.others }
    last_after is = ap (λ (x : Bool × ℕ). after_by sections x.0 x.1 d w c) (λ i. (phase_is true is i, zero_is i))

    pub last_goes : (k : Judge) → j.after ≡ true → StandsFor k.core w → seat_in true (all_words sections) k.first ≡ moved (seat_in true (all_words sections) j.first) d
        → IsKept true (all_words sections) k.first → k.after ≡ j.after → k.setup.items ≡ j.setup.items → k.others.items ≡ j.others.items → Judges sections k (after_entry sections c e)
    last_goes k is world moves kept after printed others =
        let m : Moment = record { world = w; setup = c.setup; last = Some (moved (last_of sections c) d); others = c.others } in
        subst (λ (n : Moment). Judges sections k n) (sym (last_after is)) (record {
          world = world;
          phase = after ∙ judges.phase;
          first = subst (λ (b : Bool). IsFirst sections b k.first k.setup.items m) (sym (after ∙ is))
              (moves ∙ ap (λ (s : SeatOf). moved s d) (first_in true is).0, kept, printed ∙ (first_in true is).2);
          others = subst (λ (l : List Seat). AreSeats sections l c.others) (sym others) judges.others;
          as_many = ap (λ (l : List Seat). length l) others ∙ judges.as_many;
          beyond = judges.beyond;
        })

  -- an entry of another actor
  module _ (j : Judge) (c : Moment) (e : OneEntry) (judges : Judges sections j c) (at : ℕ) (number : e.actor ≡ at + 1) where
    abbrev d2 : OneDeed
    d2 = deed_in core c.world e

    abbrev w2 : World
    w2 = world_after c.world e.actor e.call

    abbrev Goes2 : Type 0
    Goes2 = GoesOn c.world e.actor e.call e.reply

    may_other : (n : ℕ) → 1 ≤ n → MayGo sections true n c e ≡ Suits (c.others n) e
    may_other zero one = absurd (omega (arith, one))
    may_other (suc n) one = refl

    may_not : (n : ℕ) → 1 ≤ n → MayGo sections false n c e → ⊥
    may_not zero one may = absurd (omega (arith, one))
    may_not (suc n) one may = may

    after_other : (n : ℕ) → 1 ≤ n → after_by sections true n d2 w2 c ≡ record { world = w2; setup = c.setup; last = c.last; others = with_other n (moved (c.others n) d2) c.others }
    after_other zero one = absurd (omega (arith, one))
    after_other (suc n) one = refl

    one_is : 1 ≤ e.actor
    one_is = omega (arith, number)

    other_fit : j.after ≡ true → FitsIn sections c e ≡ (Goes2 × Suits (c.others (at + 1)) e)
    other_fit is = ap (λ (b : Bool). Goes2 × MayGo sections b e.actor c e) (sym judges.phase ∙ is) ∙ ap (λ (P : Type 0). Goes2 × P) (may_other e.actor one_is) ∙ ap (λ n. Goes2 × Suits (c.others n) e) number

    pub other_early : j.after ≡ false → Decides false (FitsIn sections c e)
    other_early is = (λ never. absurd (false≢true never), λ fits. absurd (may_not e.actor one_is (subst (λ (b : Bool). MayGo sections b e.actor c e) (sym judges.phase ∙ is) fits.1)))

    pub nobody_fits : j.after ≡ true → length j.others.items ≤ at → Decides false (FitsIn sections c e)
    nobody_fits is past = (
      λ never. absurd (false≢true never),
      λ fits. let many = judges.as_many in absurd (nothing_suits (c.others (at + 1)) e (judges.beyond (at + 1) (omega (arith, past, many))) (subst (λ (P : Type 0). P) (other_fit is) fits).1),
    )

    pub other_fits : (good : Bool) → j.after ≡ true → Decides good (Goes2 × Suits (c.others (at + 1)) e) → Decides good (FitsIn sections c e)
    other_fits good is told = subst (λ (P : Type 0). Decides good P) (sym (other_fit is)) told

    pub other_goes : (k : Judge) → j.after ≡ true → at < length j.others.items → StandsFor k.core w2
        → AreSeats sections k.others.items (with_other (at + 1) (moved (c.others (at + 1)) d2) c.others) → length k.others.items ≡ length j.others.items
        → k.after ≡ j.after → k.setup.items ≡ j.setup.items → k.first ≡ j.first → Judges sections k (after_entry sections c e)
    other_goes k is lt world others many after printed first =
        let m : Moment = record { world = w2; setup = c.setup; last = c.last; others = with_other (at + 1) (moved (c.others (at + 1)) d2) c.others } in
        let next : after_entry sections c e ≡ m
        = ap (λ (b : Bool). after_by sections b e.actor d2 w2 c) (sym judges.phase ∙ is) ∙ after_other e.actor one_is
        ∙ ap (λ n. record { world = w2; setup = c.setup; last = c.last; others = with_other n (moved (c.others n) d2) c.others }) number in
        let few = judges.as_many in
        subst (λ (n : Moment). Judges sections k n) (sym next) (record {
          world = world;
          phase = after ∙ judges.phase;
          first = subst (λ (b : Bool). IsFirst sections b k.first k.setup.items m) (sym (after ∙ is))
              (ap (λ (s : Seat). seat_in true (all_words sections) s) first ∙ in_last.0, subst (λ (s : Seat). IsKept true (all_words sections) s) (sym first) in_last.1, printed ∙ in_last.2);
          others = others;
          as_many = many ∙ judges.as_many;
          beyond = λ n more. ap (λ (b : Bool). is_ended (cond b (moved (c.others (at + 1)) d2) (c.others n)).stand) (ne_eqb (at + 1) n (apart n more)) ∙ judges.beyond n more;
        })
      where
        in_last : IsFirst sections true j.first j.setup.items c
        in_last = subst (λ (x : Bool). IsFirst sections x j.first j.setup.items c) is judges.first

        apart : (n : ℕ) → actors_in sections < n → at + 1 ≢ n
        apart n more = let few = judges.as_many in omega (arith, few, lt, more)

  -- a seat of the code is that of an actor
  pub ended_as : (seats : List Seat) (others : ℕ → SeatOf) (i : ℕ) (s : Seat) (b : Bool) → i < length seats → s ≡ get_or seats i s → AreSeats sections seats others → b ≡ is_ended s.stand
      → is_ended (others (i + 1)).stand ≡ b
  ended_as seats others i s b lt is are told =
      ap (λ (t : SeatOf). is_ended t.stand) (sym (are i s lt).is) ∙ ap (λ (x : Seat). is_ended x.stand) (sym is) ∙ sym told

  seated_at : (seats : List Seat) (others : ℕ → SeatOf) (at : ℕ) (d : Seat) (words : List (List Span)) → at < length seats → words ≡ actor_words sections (at + 1) → AreSeats sections seats others
      → seat_in true words (get_or seats at d) ≡ others (at + 1)
  seated_at seats others at d words lt same are = ap (λ (w : List (List Span)). seat_in true w (get_or seats at d)) same ∙ (are at d lt).is

  pub suits_at : (seats : List Seat) (others : ℕ → SeatOf) (at : ℕ) (d : Seat) (words : List (List Span)) (good : Bool) (e : OneEntry) (P : Type 0) → at < length seats → words ≡ actor_words sections (at + 1)
      → AreSeats sections seats others → Decides good (P × SuitsStand (get_or seats at d).stand (port_in (get_or seats at d).port) e) → Decides good (P × Suits (others (at + 1)) e)
  suits_at seats others at d words good e P lt same are told =
      subst (λ (t : SeatOf). Decides good (P × Suits t e)) (seated_at seats others at d words lt same are) told

  pub moved_at : (seats : List Seat) (others : ℕ → SeatOf) (at : ℕ) (x then : Seat) (words : List (List Span)) (d : OneDeed) → at < length seats → words ≡ actor_words sections (at + 1)
      → AreSeats sections seats others → seat_in true words then ≡ moved (seat_in true words (get_or seats at x)) d → IsKept true words then → IsSeatOf sections (at + 1) then (moved (others (at + 1)) d)
  moved_at seats others at x then words d lt same are moves kept = record {
    is = ap (λ (w : List (List Span)). seat_in true w then) (sym same) ∙ moves ∙ ap (λ (t : SeatOf). moved t d) (seated_at seats others at x words lt same are);
    kept = subst (λ (w : List (List Span)). IsKept true w then) same kept;
  }

  -- one seat among others moved
  pub seats_more : (seats : List Seat) (others : ℕ → SeatOf) (at : ℕ) (s : Seat) (t : SeatOf) → at < length seats → AreSeats sections seats others → IsSeatOf sections (at + 1) s t
      → AreSeats sections (set seats at s) (with_other (at + 1) t others)
  seats_more seats others at s t lt are is = λ i d less. by i d less (cases_eq i at)
    where
      by : (i : ℕ) (d : Seat) → i < length (set seats at s) → (i ≡ at) ⊎ (i ≢ at) → IsSeatOf sections (i + 1) (get_or (set seats at s) i d) (with_other (at + 1) t others (i + 1))
      by i d less (inl same) =
          subst (λ k. IsSeatOf sections (k + 1) (get_or (set seats at s) k d) (with_other (at + 1) t others (k + 1))) (sym same)
          (subst (λ (x : Seat × SeatOf). IsSeatOf sections (at + 1) x.0 x.1)
          (λ i. (sym (get_or-set_same seats at s d lt) i, sym (ap (λ b. cond b t (others (at + 1))) (eq-eqb (at + 1) (at + 1) refl)) i)) is)
      by i d less (inr other) =
          let apart : at + 1 ≢ i + 1 = omega (arith, other) in
          let few = length-set seats at s in
          subst (λ (x : Seat × SeatOf). IsSeatOf sections (i + 1) x.0 x.1)
          (λ k. (sym (get_or-set_other seats at i s d other) k, sym (ap (λ b. cond b t (others (i + 1))) (ne_eqb (at + 1) (i + 1) apart)) k)) (are i d (omega (arith, less, few)))

  -- the end
  module _ (j : Judge) (c : Moment) (judges : Judges sections j c) where
    pub at_end : (all last : Bool) → all ≡ all_ended (length j.others.items) c.others → last ≡ is_ended j.first.stand → j.after ≡ true → all ≡ true → last ≡ true → AtEnd sections c
    at_end all last told_all told_last is ended last_ended = record {
      setup = sym judges.phase ∙ is;
      others = ap (λ n. all_ended n c.others) (sym judges.as_many) ∙ sym told_all ∙ ended;
      last = ap (λ (s : SeatOf). is_ended s.stand) (sym (subst (λ (x : Bool). IsFirst sections x j.first j.setup.items c) is judges.first).0) ∙ sym told_last ∙ last_ended;
    }

    pub of_end : (all last : Bool) → all ≡ all_ended (length j.others.items) c.others → last ≡ is_ended j.first.stand → AtEnd sections c → (j.after ≡ true) × (all ≡ true) × (last ≡ true)
    of_end all last told_all told_last end =
        let is : j.after ≡ true = judges.phase ∙ end.setup in (
          is,
          told_all ∙ ap (λ n. all_ended n c.others) judges.as_many ∙ end.others,
          told_last ∙ ap (λ (s : SeatOf). is_ended s.stand) (subst (λ (x : Bool). IsFirst sections x j.first j.setup.items c) is judges.first).0 ∙ end.last,
        )

    -- whether the others are at their end
    pub all_told : (seats : List Seat) (all : Bool) → seats ≡ j.others.items → (AreSeats sections seats c.others → all ≡ all_ended (length seats) c.others) → all ≡ all_ended (length j.others.items) c.others
    all_told seats all same told = told (subst (λ (l : List Seat). AreSeats sections l c.others) (sym same) judges.others) ∙ ap (λ (l : List Seat). all_ended (length l) c.others) same

    pub decides_end : (seats : List Seat) (all last r : Bool) → seats ≡ j.others.items → (AreSeats sections seats c.others → all ≡ all_ended (length seats) c.others) → last ≡ is_ended j.first.stand
        → r ≡ (j.after && (all && last)) → Decides r (AtEnd sections c)
    decides_end seats all last r same told_all told_last is =
        subst (λ (b : Bool). Decides b (AtEnd sections c)) (sym is) (
          λ so. let first = and_both j.after (all && last) so in let rest = and_both all last first.1 in at_end all last all_are told_last first.0 rest.0 rest.1,
          λ end. let of = of_end all last all_are told_last end in ap (λ (x : Bool × Bool × Bool). x.0 && (x.1 && x.2)) (λ i. (of.0 i, of.1 i, of.2 i)),
        )
      where
        all_are : all ≡ all_ended (length j.others.items) c.others
        all_are = all_told seats all same told_all

  -- the actors at their beginning
  pub seats_pushed : (seats new : List Seat) (s : Seat) (words : List (List Span)) (i : ℕ) → length seats ≡ i → new ≡ seats ++ s ∷ [] → AreSeats sections seats (beginning sections).others → words ≡ actor_words sections (i + 1)
      → seat_in true words s ≡ settles (comes_behind false true 0 words no_names) new_bearing [] → IsKept true words s → AreSeats sections new (beginning sections).others
  seats_pushed seats new s words i long is are same begins kept = λ k d lt. subst (λ (l : List Seat). IsSeatOf sections (k + 1) (get_or l k d) ((beginning sections).others (k + 1))) (sym is)
      (by k d (subst (λ (l : List Seat). k < length l) is lt) (cases_lt k (length seats)))
    where
      by : (k : ℕ) (d : Seat) → k < length (seats ++ s ∷ []) → (k < length seats) ⊎ (length seats ≤ k) → IsSeatOf sections (k + 1) (get_or (seats ++ s ∷ []) k d) ((beginning sections).others (k + 1))
      by k d lt (inl less) = subst (λ (x : Seat). IsSeatOf sections (k + 1) x ((beginning sections).others (k + 1))) (sym (get_or_append_left seats (s ∷ []) d k less)) (are k d less)
      by k d lt (inr most) =
          let size = length-append seats (s ∷ []) in
          let here : k ≡ length seats = omega (arith, lt, most, size) in
          subst (λ (x : Seat × ℕ). IsSeatOf sections (x.1 + 1) x.0 ((beginning sections).others (x.1 + 1)))
          (λ n. ((sym (get_or-append_seam seats s [] d) ∙ ap (λ m. get_or (seats ++ s ∷ []) m d) (sym here)) n, (sym long ∙ sym here) n))
          (record {
            is = ap (λ (w : List (List Span)). seat_in true w s) (sym same) ∙ begins ∙ ap (λ (w : List (List Span)). settles (comes_behind false true 0 w no_names) new_bearing []) same;
            kept = subst (λ (w : List (List Span)). IsKept true w s) same kept;
          })

  -- actor 0 at the beginning
  pub first_begins : (first new : Seat) (after : Bool) (printed told : List ℕ) (setup : List (List Span)) → setup ≡ setup_words sections
      → seat_in false setup first ≡ settles (comes_behind false false 0 setup setup_names) new_bearing [] → IsKept false setup first → after ≡ is_ended first.stand
      → ((m : Moment) → IsFirst sections false first printed m → IsFirst sections after new told m)
      → IsFirst sections after new told (beginning sections) × (after ≡ is_ended (beginning sections).setup.stand)
  first_begins first new after printed told setup same begins kept ends goes =
      let seated : seat_in false (setup_words sections) first ≡ (beginning sections).setup
      = ap (λ (w : List (List Span)). seat_in false w first) (sym same) ∙ begins ∙ ap (λ (w : List (List Span)). settles (comes_behind false false 0 w setup_names) new_bearing []) same in (
        goes (beginning sections) (seated, subst (λ (w : List (List Span)). IsKept false w first) same kept, refl),
        ends ∙ ap (λ (s : SeatOf). is_ended s.stand) seated,
      )

  -- all at the beginning
  pub judge_begins : (j : Judge) → StandsFor j.core opening → IsFirst sections j.after j.first j.setup.items (beginning sections)
      → j.after ≡ is_ended (beginning sections).setup.stand → AreSeats sections j.others.items (beginning sections).others
      → length j.others.items ≡ actors_in sections → Judges sections j (beginning sections)
  judge_begins j world first phase others many =
      record {
        world = world;
        phase = phase;
        first = first;
        others = others;
        as_many = many;
        beyond = beyond_program sections;
      }

  -- `setup` has no more statements than `setup` and `after`
  pub no_more : (setup all : List Statement) → map columns_in setup ≡ setup_words sections → map columns_in all ≡ all_words sections → length setup ≤ length all
  no_more setup all same as_all =
      omega (arith, length-map setup columns_in, length-map all columns_in, ap length same, ap length as_all, length-append (said_in_kind Setup sections) (said_in_kind After sections))
