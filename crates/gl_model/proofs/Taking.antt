-- A read takes just what it gives, and of its own file alone.
use Rattle.std.proofs.Common.{◌≡◌, ℕ, zero, true, false, cond, ◌+◌, ◌-◌, ◌*◌, ◌/◌, Bool, refl, sym, ap, ◌∙◌, min, List, [], ◌∷◌, ◌++◌, length, take, drop, suc, subst, Option, Some, None, inl, inr, arith}
use Rattle.std.specs.Prelude.{◌&&◌, ◌≢◌, find, flat_map, not, ◌==◌, ◌||◌}
use Rattle.std.specs.Option.{option_map, option_map_or}
use Rattle.std.proofs.lemmas.Bool.{cases_Bool, false≢true}
use Rattle.std.proofs.lemmas.List.{drop-drop, length-drop, length-take-le, take-append-drop}
use Rattle.gl_base.specs.Refusals.{first_of, when}
use Rattle.gl_base.specs.Rows.{change_first}
use Rattle.gl_base.specs.declared.errno.Errno.{Errno}
use Rattle.gl_base.specs.declared.errno.Errno.TheVariants.{BadF, Inval}
use Rattle.gl_ring.specs.Edges.{events_of}
use Rattle.gl_ring.proofs.Edges.{length-events_behind}
use Rattle.gl_ring.specs.Waiting.{waiting}
use Rattle.gl_uapi.specs.InfoChanged.{changed_bytes}
use Rattle.gl_uapi.specs.LineEvent.{event_bytes}
use Rattle.gl_uapi.specs.declared.layout.TheConstants.{INFO_CHANGED_SIZE, LINE_EVENT_SIZE}
use Rattle.gl_watch.specs.Answers.{place_of}
use Rattle.gl_watch.specs.Files.{file_at, is_file, waiting_in, without_changes}
use Rattle.gl_watch.specs.declared.file.ChipFile.{ChipFile}
use Rattle.gl_model.specs.OpenFiles.{chip_file_refusal, is_chip_file, is_hold, is_place, is_request_file, request_file_refusal, request_place}
use Rattle.gl_model.specs.Outcome.{Outcome, refused_or}
use Rattle.gl_model.specs.Reading.{changes_for, events_for, events_waiting, read_from, read_refusal, take_changes, take_events}
use Rattle.gl_model.specs.Taking.{ChangesOne, OnNumberOrRefusal, ReadsTakeChanges, ReadsTakeEvents, Takes, TakesChanges, TakesEvents, with_next, with_queue}
use Rattle.gl_model.specs.World.{World, Request, has_number, request_at}
use Rattle.gl_model.proofs.Phases.{not_false, nothing_first, nothing_when, same_number}

module _ {X : Type 0} where
  -- the first row that passes a test, after it was changed
  pub find-change_first : (test : X → Bool) (f : X → X) → ((x : X) → test (f x) ≡ test x) → (xs : List X) → find test (change_first test f xs) ≡ option_map f (find test xs)
  find-change_first test f keeps [] = refl
  find-change_first test f keeps (x ∷ xs) = elim (cases_Bool (test x)) [ inl e ↦ rw (e, keeps x ∙ e) | inr e ↦ rw (e) (rw (e) (find-change_first test f keeps xs)) ]

  -- a row that fails the test isn't the one that is changed
  pub find-other : (test other : X → Bool) (f : X → X) → ((x : X) → test x ≡ true → (other x ≡ false) × (other (f x) ≡ false)) → (xs : List X)
      → find other (change_first test f xs) ≡ find other xs
  find-other test other f apart [] = refl
  find-other test other f apart (x ∷ xs) = elim (cases_Bool (test x)) [
    | inl e ↦ rw (e, (apart x e).0, (apart x e).1)
    | inr e ↦ rw (e) (ap (λ o. cond (other x) (Some x) o) (find-other test other f apart xs))
  ]

  -- where a row passes, the first that does is changed, and the others stay
  pub one_changed : (test : X → Bool) (f change : X → X) (xs : List X) (row : X) → find test xs ≡ Some row → f row ≡ change row
      → ChangesOne test change xs (change_first test f xs)
  one_changed test f change [] row is same = cc
  one_changed test f change (x ∷ xs) row is same = elim (cases_Bool (test x)) [
    | inl e ↦
        (let found : Some x ≡ Some row = sym (ap (λ b. cond b (Some x) (find test xs)) e) ∙ is in
        let here : x ≡ row = cc in
        record {
          front = [];
          row = row;
          back = xs;
          passes = subst (λ y. test y ≡ true) here e;
          none_in_front = refl;
          was = ap (λ y. y ∷ xs) here;
          is_now = ap (λ b. cond b (f x ∷ xs) (x ∷ change_first test f xs)) e ∙ ap (λ y. y ∷ xs) (ap f here ∙ same);
        })
    | inr e ↦
        (let behind = one_changed test f change xs row (sym (ap (λ b. cond b (Some x) (find test xs)) e) ∙ is) same in
        record {
          front = x ∷ behind.front;
          row = behind.row;
          back = behind.back;
          passes = behind.passes;
          none_in_front = ap (λ b. cond b (Some x) (find test behind.front)) e ∙ behind.none_in_front;
          was = ap (λ ys. x ∷ ys) behind.was;
          is_now = ap (λ b. cond b (f x ∷ xs) (x ∷ change_first test f xs)) e ∙ ap (λ ys. x ∷ ys) behind.is_now;
        })
  ]

  pub none_dropped : (n : ℕ) → let none : List X = [] in none ≡ drop n none
  none_dropped zero = refl
  none_dropped (suc n) = refl

  -- the first items, as many as there are or as there is room for, and the others
  pub taken : (spell : X → List ℕ) (size len : ℕ) (before after : List X) → after ≡ drop (min (len / size) (length before)) before
      → Takes spell size len before after (flat_map spell (take (min (len / size) (length before)) before)) (size * min (len / size) (length before))
  taken spell size len before after e =
      let count = min (len / size) (length before) in
      let long : length (take count before) ≡ count = length-take-le count before (omega arith) in
      record {
        given = take count before;
        in_order = sym (take-append-drop count before) ∙ ap (λ xs. take count before ++ xs) (sym e);
        as_many = long;
        spelled = refl;
        number = ap (λ n. size * n) (sym long);
      }

-- of a request's events, as many wait as of its edges
pub length-events_waiting : (request : Request) → length (events_waiting request) ≡ length (waiting request.past)
length-events_waiting request =
    length-drop request.past.next (events_of request.past.all)
    ∙ ap (λ n. n - request.past.next) (length-events_behind [] request.past.all)
    ∙ sym (length-drop request.past.next request.past.all)

-- the events that wait after a read
waiting_after : (room : ℕ) (request : Request) → events_waiting (read_from room request) ≡ drop (min room (length (events_waiting request))) (events_waiting request)
waiting_after room request =
    let past = request.past in
    ap (λ n. drop (past.next + min room n) (events_of past.all)) (sym (length-events_waiting request))
    ∙ sym (drop-drop (min room (length (events_waiting request))) past.next (events_of past.all))

waiting_after_some : (room : ℕ) (r : Option Request)
    → option_map_or events_waiting (option_map (read_from room) r) [] ≡ drop (min room (length (option_map_or events_waiting r []))) (option_map_or events_waiting r [])
waiting_after_some room None = none_dropped (min room 0)
waiting_after_some room (Some request) = waiting_after room request

changes_after : (count : ℕ) (file : Option ChipFile) → waiting_in (option_map (without_changes count) file) ≡ drop count (waiting_in file)
changes_after count None = none_dropped count
changes_after count (Some file) = refl

-- what holds of the number that a call answers holds where it is refused
on_unless : (P : Outcome → ℕ → Type 0) (r : Option Errno) (w : World) (out : Outcome) → (r ≡ None → OnNumberOrRefusal out.reply (P out))
    → OnNumberOrRefusal (refused_or r w out).reply (P (refused_or r w out))
on_unless P None w out h = h refl
on_unless P (Some errno) w out h = tt

-- a file that isn't refused is there

pub its_kind : (is_open is_kind : Bool) → first_of (when (not is_open) BadF ∷ when (not is_kind) Inval ∷ []) ≡ None → is_kind ≡ true
its_kind is_open is_kind e =
    let behind = (nothing_first (when (not is_open) BadF) (first_of (when (not is_kind) Inval ∷ [])) e).1 in
    not_false is_kind (nothing_when (not is_kind) Inval (nothing_first (when (not is_kind) Inval) None behind).0)

pub held_there : (place : ℕ) (r : Option Request) → (is_hold r && is_place place (request_place r)) ≡ true → (request : Request) × (r ≡ Some request)
held_there place None e = absurd (false≢true e)
held_there place (Some request) e = (request, refl)

open_there : (place : ℕ) (f : Option ChipFile) → is_place place (place_of f) ≡ true → (file : ChipFile) × (f ≡ Some file)
open_there place None e = absurd (false≢true e)
open_there place (Some file) e = (file, refl)

-- a number that is one isn't another
pub is_other : (n fd other : ℕ) → other ≢ fd → (n == fd) ≡ true → (n == other) ≡ false
is_other n fd other ne e = elim (cases_Bool (n == other)) [
  | inl t ↦ absurd (ne (sym (same_number n other t) ∙ same_number n fd e))
  | inr f ↦ f
]

events_taken : (place fd len : ℕ) (w : World) → request_file_refusal place fd w ≡ None
    → TakesEvents fd len w (take_events fd len w) (LINE_EVENT_SIZE * min (len / LINE_EVENT_SIZE) (length (events_for fd w)))
events_taken place fd len w free =
    let room = len / LINE_EVENT_SIZE in
    let there = held_there place (request_at w.requests fd) (its_kind (is_chip_file place fd w || is_request_file place fd w) (is_request_file place fd w) free) in
    record {
      takes = taken event_bytes LINE_EVENT_SIZE len (events_for fd w) _
          (ap (λ r. option_map_or events_waiting r []) (find-change_first (has_number fd) (read_from room) (λ x. refl) w.requests) ∙ waiting_after_some room (request_at w.requests fd));
      others_wait = λ other ne. ap (λ r. option_map_or events_waiting r [])
          (find-other (has_number fd) (has_number other) (read_from room) (λ x t. (is_other x.fd fd other ne t, is_other x.fd fd other ne t)) w.requests);
      next = (read_from room there.0).past.next;
      one_request_changes = one_changed (has_number fd) (read_from room) (with_next (read_from room there.0).past.next) w.requests there.0 there.1 refl;
      all_else_stays = refl;
    }

changes_taken : (place fd len : ℕ) (w : World) → chip_file_refusal place fd w ≡ None
    → TakesChanges fd len w (take_changes fd len w) (INFO_CHANGED_SIZE * min (len / INFO_CHANGED_SIZE) (length (changes_for fd w)))
changes_taken place fd len w free =
    let count = min (len / INFO_CHANGED_SIZE) (length (changes_for fd w)) in
    let there = open_there place (file_at fd w.files) (its_kind (is_chip_file place fd w || is_request_file place fd w) (is_chip_file place fd w) free) in
    record {
      takes = taken changed_bytes INFO_CHANGED_SIZE len (changes_for fd w) _
          (ap waiting_in (find-change_first (is_file fd) (without_changes count) (λ x. refl) w.files) ∙ changes_after count (file_at fd w.files));
      others_wait = λ other ne. ap waiting_in
          (find-other (is_file fd) (is_file other) (without_changes count) (λ x t. (is_other x.fd fd other ne t, is_other x.fd fd other ne t)) w.files);
      queue = (without_changes count there.0).changes;
      one_file_changes = one_changed (is_file fd) (without_changes count) (with_queue (without_changes count there.0).changes) w.files there.0 there.1 refl;
      all_else_stays = refl;
    }

pub reads_take_events : ReadsTakeEvents
reads_take_events w actor place fd len =
    let behind = read_refusal LINE_EVENT_SIZE len (length (events_for fd w)) in
    on_unless (λ out n. TakesEvents fd len w out n) (first_of (request_file_refusal place fd w ∷ behind ∷ [])) w (take_events fd len w)
    (λ e. events_taken place fd len w (nothing_first (request_file_refusal place fd w) (first_of (behind ∷ [])) e).0)

pub reads_take_changes : ReadsTakeChanges
reads_take_changes w actor place fd len =
    let behind = read_refusal INFO_CHANGED_SIZE len (length (changes_for fd w)) in
    on_unless (λ out n. TakesChanges fd len w out n) (first_of (chip_file_refusal place fd w ∷ behind ∷ [])) w (take_changes fd len w)
    (λ e. changes_taken place fd len w (nothing_first (chip_file_refusal place fd w) (first_of (behind ∷ [])) e).0)
