-- Which numbers are missing: a ring of numbers holds a run of them, up to the last that came.
use Rattle.std.proofs.Common.{ℕ, zero, suc, Bool, true, false, ◌||◌, ◌==◌, eqb, ◌≡◌, ◌+◌, ◌-◌, ◌<◌, ◌≤◌, ◌↔◌, List, [], ◌∷◌, ◌++◌, length, take, drop, min, ap, refl, sym, ◌∙◌, inl, inr, arith, append_assoc}
use Rattle.std.proofs.lemmas.Bool.{cases_lt, eq-eqb, false≢true, ne_eqb}
use Rattle.std.proofs.lemmas.List.{append-nil}
use Rattle.std.proofs.lemmas.List.Folds.{list_any-append}
use Rattle.circular_buffer.specs.Buffer.{Buffer, buffer}
use Rattle.gl_ring.specs.Run.{Turn, Came, Read, IsMissing, WasOvertaken, after, came, given, is_among, numbered, numbers_read, numbers_waiting}
use Rattle.gl_ring.specs.Waiting.{left, pushed, taken, taken_count}

-- the m numbers that follow a
ups : ℕ → ℕ → List ℕ
ups a zero = []
ups a (suc m) = (a + 1) ∷ ups (a + 1) m

length-ups : (a m : ℕ) → length (ups a m) ≡ m
unfolding ups
length-ups a zero = refl
length-ups a (suc m) = ap suc (length-ups (a + 1) m)

ups_push : (a m : ℕ) → ups a m ++ (a + m + 1) ∷ [] ≡ ups a (suc m)
unfolding ups
ups_push a zero = let e : a + 0 + 1 ≡ a + 1 = omega arith in ap (λ n. n ∷ []) e
ups_push a (suc m) =
    let e : a + suc m + 1 ≡ a + 1 + m + 1 = omega arith in
    ap (λ n. (a + 1) ∷ (ups (a + 1) m ++ n ∷ [])) e ∙ ap (λ ns. (a + 1) ∷ ns) (ups_push (a + 1) m)

drop-ups : (k a m : ℕ) → k ≤ m → drop k (ups a m) ≡ ups (a + k) (m - k)
unfolding ups
drop-ups zero a m below =
    let e : a ≡ a + 0 = omega arith in
    let f : m ≡ m - 0 = omega arith in
    ap (λ n. ups n m) e ∙ ap (ups (a + 0)) f
drop-ups (suc k) a zero below = absurd (omega arith)
drop-ups (suc k) a (suc m) below =
    let e : a + 1 + k ≡ a + suc k = omega arith in
    let f : m - k ≡ suc m - suc k = omega arith in
    drop-ups k (a + 1) m (omega arith) ∙ ap (λ n. ups n (m - k)) e ∙ ap (ups (a + suc k)) f

take-ups : (k a m : ℕ) → k ≤ m → take k (ups a m) ≡ ups a k
unfolding ups
take-ups zero a m below = refl
take-ups (suc k) a zero below = absurd (omega arith)
take-ups (suc k) a (suc m) below = ap (λ ns. (a + 1) ∷ ns) (take-ups k (a + 1) m (omega arith))

either_false : (a b : Bool) → a ≡ false → b ≡ false → (a || b) ≡ false
either_false true b e h = cc
either_false false b e h = h

neither : (a b : Bool) → (a || b) ≡ false → (a ≡ false) × (b ≡ false)
neither true b e = cc
neither false b e = (refl, e)

-- a number that is no later than a isn't among those that follow
not_among_before : (k a m : ℕ) → k ≤ a → is_among k (ups a m) ≡ false
unfolding ups
not_among_before k a zero low = refl
not_among_before k a (suc m) low =
    either_false (eqb (a + 1) k) (is_among k (ups (a + 1) m)) (ne_eqb (a + 1) k (λ e. omega arith)) (not_among_before k (a + 1) m (omega arith))

-- a number that isn't among those that follow a, and is later than a, is later than they
not_among_late : (k a m : ℕ) → a < k → is_among k (ups a m) ≡ false → a + m < k
unfolding ups
not_among_late k a zero high out = omega arith
not_among_late k a (suc m) high out =
    let parts = neither (eqb (a + 1) k) (is_among k (ups (a + 1) m)) out in
    let other : a + 1 ≡ k → ⊥ = λ e. false≢true (sym parts.0 ∙ eq-eqb (a + 1) k e) in
    let later : a + 1 < k = omega (arith, other) in
    let rest = not_among_late k (a + 1) m later parts.1 in
    omega arith

-- the ring after one more number
pushed_ups : (a m c n : ℕ) → n ≡ a + m → pushed (n + 1) (buffer (ups a m) c) ≡ buffer (ups (a + (suc m - c)) (suc m - (suc m - c))) c
pushed_ups a m c n is =
    let whole : ups a m ++ (n + 1) ∷ [] ≡ ups a (suc m) = ap (λ k. ups a m ++ (k + 1) ∷ []) is ∙ ups_push a m in
    ap (λ (ns : List ℕ). buffer (drop (length ns - c) ns) c) whole
    ∙ ap (λ (k : ℕ). buffer (drop (k - c) (ups a (suc m))) c) (length-ups a (suc m))
    ∙ ap (λ (ns : List ℕ). buffer ns c) (drop-ups (suc m - c) a (suc m) (omega arith))

count_ups : (max a m c : ℕ) → taken_count max (buffer (ups a m) c) ≡ min max m
count_ups max a m c = ap (min max) (length-ups a m)

taken_ups : (max a m c : ℕ) → taken max (buffer (ups a m) c) ≡ ups a (min max m)
taken_ups max a m c = ap (λ k. take k (ups a m)) (count_ups max a m c) ∙ take-ups (min max m) a m (omega arith)

left_ups : (max a m c : ℕ) → left max (buffer (ups a m) c) ≡ buffer (ups (a + min max m) (m - min max m)) c
left_ups max a m c =
    ap (λ (k : ℕ). buffer (drop k (ups a m)) c) (count_ups max a m c) ∙ ap (λ (ns : List ℕ). buffer ns c) (drop-ups (min max m) a m (omega arith))

-- What becomes of number k from a ring that holds the m numbers behind a.
record Fate {X : Type 0} (c a m n k : ℕ) (turns : List (Turn X)) : Type 0 where
  early_unread : k ≤ a → is_among k (given (buffer (ups a m) c) (numbered n turns)) ≡ false
  early_gone : k ≤ a → is_among k (after (buffer (ups a m) c) (numbered n turns)).items ≡ false
  late : a < k → k ≤ n + length (came turns) → is_among k (given (buffer (ups a m) c) (numbered n turns)) ≡ false
      → is_among k (after (buffer (ups a m) c) (numbered n turns)).items ≡ false → k + c ≤ n + length (came turns)

among_append : (k : ℕ) (xs ys : List ℕ) → is_among k (xs ++ ys) ≡ (is_among k xs || is_among k ys)
among_append k xs ys = list_any-append (λ n. n == k) xs ys

fate : {X : Type 0} (c a m n k : ℕ) (turns : List (Turn X)) → n ≡ a + m → m ≤ c → Fate c a m n k turns
fate c a m n k [] is within = record {
  early_unread = λ low. refl;
  early_gone = λ low. not_among_before k a m low;
  late = λ high known unread gone. let past = not_among_late k a m high gone in absurd (omega arith);
}
fate {X} c a m n k (Came x ∷ turns) is within =
    let d : ℕ = suc m - c in
    let next : Buffer ℕ = buffer (ups (a + d) (suc m - d)) c in
    let ih : Fate c (a + d) (suc m - d) (n + 1) k turns = fate c (a + d) (suc m - d) (n + 1) k turns (omega arith) (omega arith) in
    let ring : pushed (n + 1) (buffer (ups a m) c) ≡ next = pushed_ups a m c n is in
    let reads : given (pushed (n + 1) (buffer (ups a m) c)) (numbered (n + 1) turns) ≡ given next (numbered (n + 1) turns) =
    ap (λ (r : Buffer ℕ). given r (numbered (n + 1) turns)) ring in
    let ends : (after (pushed (n + 1) (buffer (ups a m) c)) (numbered (n + 1) turns)).items ≡ (after next (numbered (n + 1) turns)).items =
    ap (λ (r : Buffer ℕ). (after r (numbered (n + 1) turns)).items) ring in
    record {
      early_unread = λ low. ap (is_among k) reads ∙ ih.early_unread (omega arith);
      early_gone = λ low. ap (is_among k) ends ∙ ih.early_gone (omega arith);
      late = λ high known unread gone.
          elim (cases_lt (a + d) k) [
            | inl later ↦
                (let more = ih.late later (omega arith) (sym (ap (is_among k) reads) ∙ unread) (sym (ap (is_among k) ends) ∙ gone) in omega arith)
            | inr dropped ↦ omega arith
          ];
    }
fate {X} c a m n k (Read max ∷ turns) is within =
    let j : ℕ = min max m in
    let next : Buffer ℕ = buffer (ups (a + j) (m - j)) c in
    let ih : Fate c (a + j) (m - j) n k turns = fate c (a + j) (m - j) n k turns (omega arith) (omega arith) in
    let ring : left max (buffer (ups a m) c) ≡ next = left_ups max a m c in
    let rest : given (left max (buffer (ups a m) c)) (numbered n turns) ≡ given next (numbered n turns) = ap (λ (r : Buffer ℕ). given r (numbered n turns)) ring in
    let reads : given (buffer (ups a m) c) (numbered n (Read max ∷ turns)) ≡ ups a j ++ given next (numbered n turns) =
    ap (λ (ns : List ℕ). ns ++ given (left max (buffer (ups a m) c)) (numbered n turns)) (taken_ups max a m c) ∙ ap (λ (ns : List ℕ). ups a j ++ ns) rest in
    let among : is_among k (given (buffer (ups a m) c) (numbered n (Read max ∷ turns))) ≡ (is_among k (ups a j) || is_among k (given next (numbered n turns))) =
    ap (is_among k) reads ∙ among_append k (ups a j) (given next (numbered n turns)) in
    let ends : (after (left max (buffer (ups a m) c)) (numbered n turns)).items ≡ (after next (numbered n turns)).items =
    ap (λ (r : Buffer ℕ). (after r (numbered n turns)).items) ring in
    record {
      early_unread = λ low.
          among ∙ either_false (is_among k (ups a j)) (is_among k (given next (numbered n turns))) (not_among_before k a j low) (ih.early_unread (omega arith));
      early_gone = λ low. ap (is_among k) ends ∙ ih.early_gone (omega arith);
      late = λ high known unread gone.
          let parts = neither (is_among k (ups a j)) (is_among k (given next (numbered n turns))) (sym among ∙ unread) in
          ih.late (not_among_late k a j high parts.0) known parts.1 (sym (ap (is_among k) ends) ∙ gone);
    }

-- A ring that numbers came to and were read from holds a run of them, up to the last.
record Holds (c n : ℕ) (ring : Buffer ℕ) : Type 0 where
  first : ℕ
  count : ℕ
  held : ring ≡ buffer (ups first count) c
  up_to : first + count ≡ n
  within : count ≤ c

holds : {X : Type 0} (c a m n : ℕ) (turns : List (Turn X)) → n ≡ a + m → m ≤ c → Holds c (n + length (came turns)) (after (buffer (ups a m) c) (numbered n turns))
holds c a m n [] is within = record { first = a; count = m; held = refl; up_to = omega arith; within = within }
holds c a m n (Came x ∷ turns) is within =
    let d : ℕ = suc m - c in
    let ih = holds c (a + d) (suc m - d) (n + 1) turns (omega arith) (omega arith) in
    record {
      first = ih.first;
      count = ih.count;
      held = ap (λ (r : Buffer ℕ). after r (numbered (n + 1) turns)) (pushed_ups a m c n is) ∙ ih.held;
      up_to = omega (arith, ih.up_to);
      within = ih.within;
    }
holds c a m n (Read max ∷ turns) is within =
    let j : ℕ = min max m in
    let ih = holds c (a + j) (m - j) n turns (omega arith) (omega arith) in
    record {
      first = ih.first;
      count = ih.count;
      held = ap (λ (r : Buffer ℕ). after r (numbered n turns)) (left_ups max a m c) ∙ ih.held;
      up_to = ih.up_to;
      within = ih.within;
    }

numbered_append : {X : Type 0} (n : ℕ) (before behind : List (Turn X)) → numbered n (before ++ behind) ≡ numbered n before ++ numbered (n + length (came before)) behind
numbered_append n [] behind = let e : n ≡ n + 0 = omega arith in ap (λ k. numbered k behind) e
numbered_append n (Came x ∷ before) behind =
    let e : n + 1 + length (came before) ≡ n + suc (length (came before)) = omega arith in
    ap (λ ts. Came (n + 1) ∷ ts) (numbered_append (n + 1) before behind ∙ ap (λ k. numbered (n + 1) before ++ numbered k behind) e)
numbered_append n (Read max ∷ before) behind = ap (λ ts. Read max ∷ ts) (numbered_append n before behind)

pub given_append : {X : Type 0} (ring : Buffer X) (before behind : List (Turn X)) → given ring (before ++ behind) ≡ given ring before ++ given (after ring before) behind
given_append ring [] behind = refl
given_append ring (Came x ∷ before) behind = given_append (pushed x ring) before behind
given_append ring (Read max ∷ before) behind =
    ap (λ xs. taken max ring ++ xs) (given_append (left max ring) before behind) ∙ sym (append_assoc (taken max ring) (given (left max ring) before) (given (after (left max ring) before) behind))

pub after_append : {X : Type 0} (ring : Buffer X) (before behind : List (Turn X)) → after ring (before ++ behind) ≡ after (after ring before) behind
after_append ring [] behind = refl
after_append ring (Came x ∷ before) behind = after_append (pushed x ring) before behind
after_append ring (Read max ∷ before) behind = after_append (left max ring) before behind

append_none : {X : Type 0} (xs : List X) → xs ≡ xs ++ []
append_none xs = sym (append-nil xs)

overtaken : {X : Type 0} (c k : ℕ) (turns : List (Turn X)) → 1 ≤ k → k ≤ length (came turns) → IsMissing c turns k → WasOvertaken c turns k
unfolding ups
overtaken c k turns some known missing =
    let all = fate c 0 0 0 k turns refl (omega arith) in
    record {
      before = turns;
      behind = [];
      moment = append_none turns;
      came_since = let late = all.late (omega arith) (omega arith) missing.unread missing.gone in omega arith;
      unread = missing.unread;
    }

missing : {X : Type 0} (c k : ℕ) (turns : List (Turn X)) → WasOvertaken c turns k → IsMissing c turns k
unfolding ups
missing c k turns over =
    let n : ℕ = length (came over.before) in
    let at = holds c 0 0 0 over.before refl (omega arith) in
    let later = fate c at.first at.count n k over.behind (omega (arith, at.up_to)) at.within in
    let low : k ≤ at.first = omega (arith, at.up_to, at.within, over.came_since) in
    let split : numbered 0 turns ≡ numbered 0 over.before ++ numbered n over.behind =
    ap (numbered 0) over.moment ∙ numbered_append 0 over.before over.behind ∙ (let e : 0 + n ≡ n = omega arith in ap (λ k. numbered 0 over.before ++ numbered k over.behind) e) in
    let reads : numbers_read c turns ≡ numbers_read c over.before ++ given (buffer (ups at.first at.count) c) (numbered n over.behind) =
    ap (given (buffer [] c)) split ∙ given_append (buffer [] c) (numbered 0 over.before) (numbered n over.behind)
    ∙ ap (λ (r : Buffer ℕ). numbers_read c over.before ++ given r (numbered n over.behind)) at.held in
    let waits : numbers_waiting c turns ≡ (after (buffer (ups at.first at.count) c) (numbered n over.behind)).items =
    ap (λ ts. (after (buffer [] c) ts).items) split ∙ ap (λ (r : Buffer ℕ). r.items) (after_append (buffer [] c) (numbered 0 over.before) (numbered n over.behind))
    ∙ ap (λ (r : Buffer ℕ). (after r (numbered n over.behind)).items) at.held in
    record {
      unread =
          ap (is_among k) reads ∙ among_append k (numbers_read c over.before) (given (buffer (ups at.first at.count) c) (numbered n over.behind))
          ∙ either_false (is_among k (numbers_read c over.before)) (is_among k (given (buffer (ups at.first at.count) c) (numbered n over.behind)))
          over.unread (later.early_unread low);
      gone = ap (is_among k) waits ∙ later.early_gone low;
    }

pub gaps : {X : Type 0} (c k : ℕ) (turns : List (Turn X)) → 1 ≤ k → k ≤ length (came turns) → IsMissing c turns k ↔ WasOvertaken c turns k
gaps c k turns some known = (overtaken c k turns some known, missing c k turns)
