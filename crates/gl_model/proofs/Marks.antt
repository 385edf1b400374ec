-- Which lines are hard after a tell: line by line, each at its turn, and none before or after it.
use Rattle.std.proofs.Common.{◌≡◌, ◌≢◌, ◌+◌, ◌*◌, ◌<◌, ◌≤◌, ℕ, zero, suc, List, [], ◌∷◌, length, take, set, get_or, refl, sym, ap, ◌∙◌, subst, Bool, true, false, cond, Option, Some, None, arith, inl, inr, length-set, get_or-set_same}
use Rattle.std.specs.Prelude.{nat_eq, ◌==◌, ◌&&◌, ◌||◌, slice_index, slice_index_or}
use Rattle.std.specs.Bool.{beq}
use Rattle.std.specs.List.{AllByRecursion, IsDistinct, list_any}
use Rattle.std.specs.Option.{option_map}
use Rattle.std.proofs.lemmas.Bool.{eqb-false, eqb-true}
use Rattle.std.proofs.lemmas.Bool.Decides.{nat_tests}
use Rattle.std.proofs.lemmas.List.{get_or-set_other}
use Rattle.gl_base.specs.Bits.{has_bit}
use Rattle.gl_base.specs.Lines.{offsets_of}
use Rattle.gl_base.specs.Rows.{Each, change_first}
use Rattle.gl_base.specs.declared.limits.TheConstants.{LINES_MAX, PLACES}
use Rattle.gl_base.specs.declared.lines.Lines.{Lines}
use Rattle.gl_base.specs.declared.settings.Resolved.{Resolved}
use Rattle.gl_base.specs.declared.settings.Settings.{Settings}
use Rattle.gl_bank.specs.declared.levels.Levels.{Levels}
use Rattle.gl_bank.specs.Level.{level, levels_at}
use Rattle.gl_debounce.specs.Timer.{hard_at, is_hard, let_go, line_number, still, timer_at, with_new_timer, with_timer}
use Rattle.gl_debounce.specs.declared.timer.Timer.{Timer}
use Rattle.gl_uapi.specs.declared.layout.TheConstants.{CHANGED_CONFIG, CHANGED_REQUESTED}
use Rattle.gl_desc.specs.Desc.{settled}
use Rattle.gl_model.specs.Claiming.{held, hold_claim, with_descs}
use Rattle.gl_model.specs.Configuring.{configure, configure_each, configure_from, configured_on, is_debounced_hard, is_directed, reconfigure, reconfigure_from, settings_after, settings_of, with_period, with_settings}
use Rattle.gl_model.specs.Marks.{HasTimers, MarksLines, TellsMarkLines, is_hard_behind, is_one_of}
use Rattle.gl_model.specs.Notify.{notify, notify_each}
use Rattle.gl_model.specs.Opening.{with_timers_let_go, without_request}
use Rattle.gl_model.specs.Places.{kind_at, place_at, with_place}
use Rattle.gl_model.specs.World.{Request, World, has_number}
use Rattle.gl_model.proofs.Holds.{offsets_differ}

-- lines by their numbers

same_place : (place x y : ℕ) → line_number place x ≡ line_number place y → x ≡ y
same_place place x y same = Prim.omega arith

other_number : (place other x y : ℕ) → x < LINES_MAX → y < LINES_MAX → other ≢ place → line_number other x ≢ line_number place y
other_number place other x y x_in y_in ne same = ne (Prim.omega arith)

is_within : (place x : ℕ) → place < PLACES → x < LINES_MAX → line_number place x < PLACES * LINES_MAX
is_within place x at within = Prim.omega arith

unequal : (x y : ℕ) → nat_eq x y ≡ false → x ≢ y
unequal x y ne = grind (arith, nat_tests)

-- what is done with some lines one by one, to what has timers

module _ {X : Type 0} (does : ℕ → ℕ → X → X) where
  abbrev run : ℕ → List ℕ → X → X
  run i [] v = v
  run i (x ∷ xs) v = run (i + 1) xs (does i x v)

module _ {X : Type 0} (timers : X → List (Option Timer)) (place : ℕ) (does : ℕ → ℕ → X → X) (mark : ℕ → Bool → Bool)
    (long : (i x : ℕ) (v : X) → length (timers (does i x v)) ≡ length (timers v))
    (here : (i x : ℕ) (v : X) → line_number place x < length (timers v) → hard_at (timers (does i x v)) place x ≡ mark i (hard_at (timers v) place x))
    (there : (i x n : ℕ) (v : X) → n ≢ line_number place x → get_or (timers (does i x v)) n None ≡ get_or (timers v) n None)
  where
    untouched : (i : ℕ) (xs : List ℕ) (n : ℕ) (v : X) → Each (λ x. n ≢ line_number place x) xs → get_or (timers (run does i xs v)) n None ≡ get_or (timers v) n None
    untouched i [] n v ne = refl
    untouched i (x ∷ xs) n v ne = untouched (i + 1) xs n (does i x v) ne.1 ∙ there i x n v ne.0

    marked : (i k size : ℕ) (xs : List ℕ) (v : X) → k < length xs → length (timers v) ≡ size → Each (λ x. line_number place x < size) xs → IsDistinct nat_eq xs
        → hard_at (timers (run does i xs v)) place (slice_index xs k) ≡ mark (i + k) (hard_at (timers v) place (slice_index xs k))
    unfolding IsDistinct
    marked i k size [] v lt whole within d = absurd (omega arith)
    marked i zero size (x ∷ xs) v lt whole within d =
        ap is_hard (untouched (i + 1) xs (line_number place x) (does i x v) (apart x xs d.0))
        ∙ here i x v (omega (arith, within.0, whole))
        ∙ ap (λ j. mark j (hard_at (timers v) place x)) (let same : i ≡ i + 0 = omega arith in same)
      where
        apart : (x : ℕ) (ys : List ℕ) → AllByRecursion (λ y. nat_eq x y ≡ false) ys → Each (λ y. line_number place x ≢ line_number place y) ys
        apart x [] all = tt
        apart x (y ∷ ys) all = (λ same. unequal x y all.0 (same_place place x y same), apart x ys all.1)
    marked i (suc k) size (x ∷ xs) v lt whole within d =
        marked (i + 1) k size xs (does i x v) (omega (arith, lt)) (long i x v ∙ whole) within.1 d.1
        ∙ ap (mark (i + 1 + k)) (ap is_hard (there i x (line_number place (slice_index xs k)) v (λ same. other x xs k d.0 (omega (arith, lt)) (same_place place (slice_index xs k) x same))))
        ∙ ap (λ j. mark j (hard_at (timers v) place (slice_index xs k))) (let same : i + 1 + k ≡ i + suc k = omega arith in same)
      where
        other : (x : ℕ) (ys : List ℕ) (k : ℕ) → AllByRecursion (λ y. nat_eq x y ≡ false) ys → k < length ys → slice_index ys k ≢ x
        other x [] k all lt same = absurd (omega arith)
        other x (y ∷ ys) zero all lt same = unequal x y all.0 (sym same)
        other x (y ∷ ys) (suc k) all lt same = other x ys k all.1 (omega (arith, lt)) same

    pub run_marks : (lines : Lines) (v : X) → HasTimers place lines (timers v) → MarksLines place lines mark (timers v) (timers (run does 0 (offsets_of lines) v))
    run_marks lines v has = record {
      each = λ k lt.
          marked 0 k (PLACES * LINES_MAX) (offsets_of lines) v lt has.whole (all_within (offsets_of lines) has.within) (offsets_differ lines.offsets lines.count has.differ)
          ∙ ap (λ j. mark j (hard_at (timers v) place (slice_index (offsets_of lines) k))) (let same : 0 + k ≡ k = omega arith in same);
      others = λ p o within misses. ap is_hard (untouched 0 (offsets_of lines) (line_number p o) v (none p o within (offsets_of lines) has.within misses));
    }
      where
        all_within : (xs : List ℕ) → Each (λ x. x < LINES_MAX) xs → Each (λ x. line_number place x < PLACES * LINES_MAX) xs
        all_within [] all = tt
        all_within (x ∷ xs) all = (is_within place x has.at all.0, all_within xs all.1)

        elsewhere : (p o x : ℕ) (b : Bool) → o < LINES_MAX → x < LINES_MAX → (p == place) ≡ b → (b && nat_eq o x) ≡ false → line_number p o ≢ line_number place x
        elsewhere p o x true o_in x_in is misses same =
            let at_place : p ≡ place = eqb-true p place is in
            unequal o x misses (same_place place o x (subst (λ q. line_number q o ≡ line_number place x) at_place same))
        elsewhere p o x false o_in x_in is misses same = other_number place p o x o_in x_in (eqb-false p place is) same

        first_no : (a b c : Bool) → (a && (b || c)) ≡ false → (a && b) ≡ false
        first_no true false c misses = refl
        first_no true true c misses = cc
        first_no false b c misses = refl

        rest_no : (a b c : Bool) → (a && (b || c)) ≡ false → (a && c) ≡ false
        rest_no true false c misses = misses
        rest_no true true c misses = cc
        rest_no false b c misses = refl

        none : (p o : ℕ) → o < LINES_MAX → (xs : List ℕ) → Each (λ x. x < LINES_MAX) xs → (p == place && list_any (nat_eq o) xs) ≡ false → Each (λ x. line_number p o ≢ line_number place x) xs
        none p o within [] all misses = tt
        none p o within (x ∷ xs) all misses = (
          elsewhere p o x (p == place) within all.0 refl (first_no (p == place) (nat_eq o x) (list_any (nat_eq o) xs) misses),
          none p o within xs all.1 (rest_no (p == place) (nat_eq o x) (list_any (nat_eq o) xs) misses),
        )

-- a line that is configured

kept_mark : (a x y : Bool) → (a && beq x y) ≡ true → x ≡ y
kept_mark true true true h = refl
kept_mark true false false h = refl
kept_mark true true false h = cc
kept_mark true false true h = cc
kept_mark false x y h = cc

period_length : (place x : ℕ) (before after : Levels) (hard : Bool) (ts : List (Option Timer)) → length (with_period place x before after hard ts) ≡ length ts
period_length place x before after hard ts =
    elim (before.debounce_us == after.debounce_us && beq (hard_at ts place x) hard) as (λ b. length (cond b ts (with_new_timer (still (level after) hard) place x ts)) ≡ length ts) [
      | true ↦ refl
      | false ↦ length-set ts (line_number place x) (Some (still (level after) hard))
    ]

period_here : (place x : ℕ) (before after : Levels) (hard : Bool) (ts : List (Option Timer)) → line_number place x < length ts → hard_at (with_period place x before after hard ts) place x ≡ hard
period_here place x before after hard ts lt = by_test (before.debounce_us == after.debounce_us && beq (hard_at ts place x) hard) refl
  where
    by_test : (b : Bool) → (before.debounce_us == after.debounce_us && beq (hard_at ts place x) hard) ≡ b
        → hard_at (cond b ts (with_new_timer (still (level after) hard) place x ts)) place x ≡ hard
    by_test true is = kept_mark (before.debounce_us == after.debounce_us) (hard_at ts place x) hard is
    by_test false is = ap is_hard (get_or-set_same ts (line_number place x) (Some (still (level after) hard)) None lt)

period_there : (place x n : ℕ) (before after : Levels) (hard : Bool) (ts : List (Option Timer)) → n ≢ line_number place x → get_or (with_period place x before after hard ts) n None ≡ get_or ts n None
period_there place x n before after hard ts ne =
    elim (before.debounce_us == after.debounce_us && beq (hard_at ts place x) hard) as (λ b. get_or (cond b ts (with_new_timer (still (level after) hard) place x ts)) n None ≡ get_or ts n None) [
      | true ↦ refl
      | false ↦ get_or-set_other ts (line_number place x) n (Some (still (level after) hard)) None ne
    ]

-- the calls, each as such a run

abbrev configured_so : ℕ → Resolved → ℕ → ℕ → ℕ → World → World
configured_so place settings bits i x v = configure place (settings_of settings i) (has_bit bits i) x v

configure_is_run : (place : ℕ) (settings : Resolved) (bits i : ℕ) (offsets : List ℕ) (w : World) → configure_from place settings bits i offsets w ≡ run (configured_so place settings bits) i offsets w
configure_is_run place settings bits i [] w = refl
configure_is_run place settings bits i (x ∷ xs) w = configure_is_run place settings bits (i + 1) xs (configure place (settings_of settings i) (has_bit bits i) x w)

abbrev reconfigured_so : ℕ → Resolved → ℕ → ℕ → ℕ → World → World
reconfigured_so place settings bits i x v = cond (is_directed settings i) (notify place x CHANGED_CONFIG (configure place (settings_of settings i) (has_bit bits i) x v)) v

reconfigure_is_run : (place : ℕ) (settings : Resolved) (bits i : ℕ) (offsets : List ℕ) (w : World) → reconfigure_from place settings bits i offsets w ≡ run (reconfigured_so place settings bits) i offsets w
reconfigure_is_run place settings bits i [] w = refl
reconfigure_is_run place settings bits i (x ∷ xs) w = reconfigure_is_run place settings bits (i + 1) xs (reconfigured_so place settings bits i x w)

let_go_is_run : (place i : ℕ) (offsets : List ℕ) (ts : List (Option Timer)) → with_timers_let_go place offsets ts ≡ run (λ j x us. with_timer let_go place x us) i offsets ts
let_go_is_run place i [] ts = refl
let_go_is_run place i (x ∷ xs) ts = let_go_is_run place (i + 1) xs (with_timer let_go place x ts)

notified_timers : (place : ℕ) (offsets : List ℕ) (kind : ℕ) (w : World) → (notify_each place offsets kind w).timers ≡ w.timers
notified_timers place [] kind w = refl
notified_timers place (x ∷ xs) kind w = notified_timers place xs kind (notify place x kind w)

not_hard : (t : Option Timer) → is_hard (option_map let_go t) ≡ false
not_hard None = refl
not_hard (Some t) = refl

-- what configuring a line does to the timers

abbrev before_of : ℕ → ℕ → World → Levels
before_of place x v = levels_at (place_at v place).bank x

abbrev after_of : ℕ → Settings → ℕ → World → Levels
after_of place settings x v = configured_on (kind_at v place) settings (before_of place x v)

configure_long : (place : ℕ) (settings : Settings) (answered : Bool) (x : ℕ) (v : World) → length (configure place settings answered x v).timers ≡ length v.timers
configure_long place settings answered x v = period_length place x (before_of place x v) (after_of place settings x v) (is_debounced_hard settings answered) v.timers

configure_here : (place : ℕ) (settings : Settings) (answered : Bool) (x : ℕ) (v : World) → line_number place x < length v.timers
    → hard_at (configure place settings answered x v).timers place x ≡ is_debounced_hard settings answered
configure_here place settings answered x v lt = period_here place x (before_of place x v) (after_of place settings x v) (is_debounced_hard settings answered) v.timers lt

configure_there : (place : ℕ) (settings : Settings) (answered : Bool) (x n : ℕ) (v : World) → n ≢ line_number place x
    → get_or (configure place settings answered x v).timers n None ≡ get_or v.timers n None
configure_there place settings answered x n v ne = period_there place x n (before_of place x v) (after_of place settings x v) (is_debounced_hard settings answered) v.timers ne

-- the law

requested_marks : (w : World) (request : Request) (bits : ℕ) → HasTimers request.place request.lines w.timers
    → MarksLines request.place request.lines (λ i was. is_hard_behind request.settings bits i) w.timers (hold_claim bits request w).timers
requested_marks w request bits has =
    let offsets : List ℕ = offsets_of request.lines in
    let settings : Resolved = request.settings in
    let lines_held : World = with_place request.place (with_descs offsets settled) (record w { requests = change_first (has_number request.fd) held w.requests }) in
    let set : World = configure_each request.place request.lines settings bits lines_held in
    subst (λ ts. MarksLines request.place request.lines (λ i was. is_hard_behind settings bits i) w.timers ts)
    (sym (notified_timers request.place offsets CHANGED_REQUESTED set ∙ ap (λ (v : World). v.timers) (configure_is_run request.place settings bits 0 offsets lines_held)))
    (run_marks (λ (v : World). v.timers) request.place (configured_so request.place settings bits) (λ i was. is_hard_behind settings bits i)
    (λ i x v. configure_long request.place (settings_of settings i) (has_bit bits i) x v)
    (λ i x v lt. configure_here request.place (settings_of settings i) (has_bit bits i) x v lt)
    (λ i x n v ne. configure_there request.place (settings_of settings i) (has_bit bits i) x n v ne)
    request.lines lines_held has)

configured_marks : (w : World) (place fd : ℕ) (lines : Lines) (before after : Resolved) (bits : ℕ) → HasTimers place lines w.timers
    → MarksLines place lines (λ i was. cond (is_directed after i) (is_hard_behind after bits i) was) w.timers (reconfigure place fd lines before after bits w).timers
configured_marks w place fd lines before after bits has =
    let kept : World = record w { requests = change_first (has_number fd) (with_settings (settings_after before after lines.count)) w.requests } in
    subst (λ ts. MarksLines place lines (λ i was. cond (is_directed after i) (is_hard_behind after bits i) was) w.timers ts)
    (sym (ap (λ (v : World). v.timers) (reconfigure_is_run place after bits 0 (offsets_of lines) kept)))
    (run_marks (λ (v : World). v.timers) place (reconfigured_so place after bits) (λ i was. cond (is_directed after i) (is_hard_behind after bits i) was)
    (λ i x v. elim (is_directed after i) as (λ b. length (cond b (notify place x CHANGED_CONFIG (set i x v)) v).timers ≡ length v.timers) [
      | true ↦ configure_long place (settings_of after i) (has_bit bits i) x v
      | false ↦ refl
    ])
    (λ i x v lt. elim (is_directed after i) as (λ b. hard_at (cond b (notify place x CHANGED_CONFIG (set i x v)) v).timers place x ≡ cond b (is_hard_behind after bits i) (hard_at v.timers place x)) [
      | true ↦ configure_here place (settings_of after i) (has_bit bits i) x v lt
      | false ↦ refl
    ])
    (λ i x n v ne. elim (is_directed after i) as (λ b. get_or (cond b (notify place x CHANGED_CONFIG (set i x v)) v).timers n None ≡ get_or v.timers n None) [
      | true ↦ configure_there place (settings_of after i) (has_bit bits i) x n v ne
      | false ↦ refl
    ])
    lines kept has)
  where
    set : ℕ → ℕ → World → World
    set i x v = configure place (settings_of after i) (has_bit bits i) x v

released_marks : (w : World) (request : Request) → HasTimers request.place request.lines w.timers
    → MarksLines request.place request.lines (λ i was. false) w.timers (without_request request w).timers
released_marks w request has =
    let place : ℕ = request.place in
    subst (λ ts. MarksLines place request.lines (λ i was. false) w.timers ts) (sym (let_go_is_run place 0 (offsets_of request.lines) w.timers))
    (run_marks (λ (ts : List (Option Timer)). ts) place (λ j x us. with_timer let_go place x us) (λ i was. false)
    (λ i x ts. length-set ts (line_number place x) (option_map let_go (timer_at ts place x)))
    (λ i x ts lt. ap is_hard (get_or-set_same ts (line_number place x) (option_map let_go (timer_at ts place x)) None lt) ∙ not_hard (timer_at ts place x))
    (λ i x n ts ne. get_or-set_other ts (line_number place x) n (option_map let_go (timer_at ts place x)) None ne)
    request.lines w.timers has)

pub tells_mark_lines : TellsMarkLines
tells_mark_lines = record { requested = requested_marks; configured = configured_marks; released = released_marks }
