-- What is left where fields are written one after the other.
use Rattle.std.proofs.Common.{ℕ, ◌≡◌, ◌+◌, ◌≤◌, List, ◌++◌, [], length, take, drop, refl, sym, ap, ◌∙◌, append_assoc, add-zero, zero-add, arith, length-append, length-drop}
use Rattle.std.proofs.lemmas.List.{drop-append-le, take-append-drop, drop-drop, drop_at, length-take-le, take_at}
use Rattle.gl_uapi.specs.Fields.{number_bytes, overwritten, zeros}
use Rattle.gl_uapi.proofs.Reading.{length-number_bytes, length-zeros}
use borrow.Rule.Slice.PartMut.{put_mid}

-- a piece written to the front of the k bytes from a on
pub overwritten_part : (a k : ℕ) (xs piece ys : List ℕ) → a + k ≤ length xs → length piece ≤ k
    → ys ≡ piece ++ drop (length piece) (take k (drop a xs)) → put_mid a k xs ys ≡ overwritten a piece xs
overwritten_part a k xs piece ys fits short e =
    let part : List ℕ = drop a xs in
    let long : length (take k part) ≡ k = length-take-le k part (omega (arith, length-drop a xs)) in
    let joined : drop (length piece) (take k part) ++ drop k part ≡ drop (length piece) part =
    sym (drop-append-le (length piece) (take k part) (drop k part) (omega arith)) ∙ ap (drop (length piece)) (take-append-drop k part) in
    let moved : drop (length piece) (drop a xs) ≡ drop (a + length piece) xs = drop-drop (length piece) a xs in
    ap (λ (zs : List ℕ). take a xs ++ (zs ++ drop k part)) e
    ∙ ap (λ (zs : List ℕ). take a xs ++ zs) (append_assoc piece _ _ ∙ ap (λ (zs : List ℕ). piece ++ zs) (joined ∙ moved))

-- The first a bytes have been written: they are `front`, and the others are those that were there at the start.
pub record Written (front start : List ℕ) (a : ℕ) (bytes : List ℕ) : Type 0 where
  pub long : length front ≡ a
  pub holds : bytes ≡ front ++ drop a start

pub nothing_written : (start : List ℕ) → Written [] start 0 start
nothing_written start = record { long = refl; holds = refl }

-- a piece behind what was written so far
pub piece_written : {front start bytes : List ℕ} {a : ℕ} → Written front start a bytes → (piece new : List ℕ) (w : ℕ) → length piece ≡ w
    → new ≡ overwritten a piece bytes → Written (front ++ piece) start (a + w) new
piece_written {front} {start} {bytes} {a} written piece new w long after =
    let kept : take a bytes ≡ front = ap (take a) written.holds ∙ take_at front (drop a start) a written.long in
    let behind : drop (a + length piece) bytes ≡ drop (a + w) start =
    ap (λ n. drop (a + n) bytes) long ∙ sym (drop-drop w a bytes) ∙ ap (λ xs. drop w (drop a xs)) written.holds
    ∙ ap (drop w) (drop_at front (drop a start) a written.long) ∙ drop-drop w a start in
    record {
      long = omega (arith, length-append front piece, long, written.long);
      holds =
          after ∙ ap (λ xs. xs ++ (piece ++ drop (a + length piece) bytes)) kept ∙ ap (λ xs. front ++ (piece ++ xs)) behind
          ∙ sym (append_assoc front piece (drop (a + w) start));
    }

-- a number behind what was written so far
pub number_written : {front start bytes : List ℕ} {a : ℕ} → Written front start a bytes → (w n : ℕ) (new : List ℕ)
    → new ≡ overwritten a (number_bytes w n) bytes → Written (front ++ number_bytes w n) start (a + w) new
number_written written w n new after = piece_written written (number_bytes w n) new w (length-number_bytes w n) after

-- zeros behind what was written so far
pub zeros_written : {front start bytes : List ℕ} {a : ℕ} → Written front start a bytes → (n : ℕ) (new : List ℕ)
    → new ≡ overwritten a (zeros n) bytes → Written (front ++ zeros n) start (a + n) new
zeros_written written n new after = piece_written written (zeros n) new n (length-zeros n) after

-- what was written is the front
pub front_written : {front start bytes : List ℕ} {a : ℕ} → Written front start a bytes → take a bytes ≡ front
front_written {front} {start} {bytes} {a} written = ap (take a) written.holds ∙ take_at front (drop a start) a written.long

-- pieces are written one after the other from a place on: nothing so far
pub started : (a : ℕ) (start : List ℕ) → a ≤ length start → Written (take a start) start a start
started a start fits = record { long = length-take-le a start fits; holds = sym (take-append-drop a start) }

-- a whole piece has been written over those from a place on
pub overwritten_by : {start bytes : List ℕ} (a b : ℕ) (piece : List ℕ) → Written (take a start ++ piece) start b bytes → b ≡ a + length piece
    → bytes ≡ overwritten a piece start
overwritten_by {start} a b piece written e =
    written.holds ∙ append_assoc (take a start) piece (drop b start) ∙ ap (λ n. take a start ++ (piece ++ drop n start)) e

-- a piece behind another
pub overwritten_more : (a b : ℕ) (p q xs ys zs : List ℕ) → a ≤ length xs → ys ≡ overwritten a p xs → b ≡ a + length p → zs ≡ overwritten b q ys
    → zs ≡ overwritten a (p ++ q) xs
overwritten_more a b p q xs ys zs fits first there second =
    let one = piece_written (started a xs fits) p ys (length p) refl first in
    let two = piece_written one q zs (length q) refl (second ∙ ap (λ n. overwritten n q ys) there) in
    let whole : Written (take a xs ++ (p ++ q)) xs (a + length p + length q) zs = record {
      long = ap length (sym (append_assoc (take a xs) p q)) ∙ two.long;
      holds = two.holds ∙ ap (λ fs. fs ++ drop (a + length p + length q) xs) (append_assoc (take a xs) p q);
    } in
    overwritten_by a (a + length p + length q) (p ++ q) whole (omega (arith, length-append p q))

-- no piece
pub overwritten_none : (a : ℕ) (xs : List ℕ) → xs ≡ overwritten a [] xs
overwritten_none a xs = sym (ap (λ n. take a xs ++ drop n xs) (add-zero a) ∙ take-append-drop a xs)

-- a piece over the front
pub overwritten_front : (n : ℕ) (p xs ys : List ℕ) → length p ≡ n → ys ≡ overwritten 0 p xs → ys ≡ p ++ drop n xs
overwritten_front n p xs ys long e = e ∙ ap (λ k. p ++ drop k xs) (zero-add (length p) ∙ long)
