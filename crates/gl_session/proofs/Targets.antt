-- Requests in an array with room for four, one after another.
use Rattle.std.proofs.Common.{◌≡◌, ◌<◌, ◌≤◌, ℕ, zero, suc, ◌+◌, ◌-◌, List, [], ◌∷◌, ◌++◌, length, length-append, take, set, get_or, refl, sym, ◌∙◌, ap, subst, arith}
use Rattle.std.specs.Prelude.{replicate}
use Rattle.std.proofs.lemmas.List.{append_assoc}
use Rattle.std.proofs.lemmas.List.Sums.{sum_by-append, sum_by-cons}
use Rattle.gl_base.specs.Rows.{Each}
use Rattle.gl_driver.specs.declared.map.Target.{Target}
use Rattle.gl_asking.specs.Files.{OpenFile, file_in}
use Rattle.gl_check.specs.Joining.{line_count, no_target, target_in, targets_in}
use Rattle.gl_session.specs.Targets.{AreTargets, IsTarget}
use Rattle.gl_session.proofs.Mapped.{each_at, each_more}

set_seam : {A : Type 0} (xs ys : List A) (y x : A) → set (xs ++ y ∷ ys) (length xs) x ≡ xs ++ x ∷ ys
set_seam [] ys y x = refl
set_seam (z ∷ xs) ys y x = ap (λ l. z ∷ l) (set_seam xs ys y x)

pub take_seam : {A : Type 0} (xs ys : List A) → take (length xs) (xs ++ ys) ≡ xs
take_seam [] ys = refl
take_seam (x ∷ xs) ys = ap (λ l. x ∷ l) (take_seam xs ys)

taken_length : {A : Type 0} (xs : List A) (n : ℕ) → n ≤ length xs → length (take n xs) ≡ n
taken_length xs zero less = refl
taken_length [] (suc n) less = absurd (omega arith)
taken_length (x ∷ xs) (suc n) less = ap suc (taken_length xs n (omega arith))

-- one more of a list
pub take_one : {A : Type 0} (xs : List A) (n : ℕ) (d : A) → n < length xs → take (n + 1) xs ≡ take n xs ++ get_or xs n d ∷ []
take_one {A} xs n d less = let same : n + 1 ≡ suc n = omega arith in ap (λ k. take k xs) same ∙ by xs n less
  where
    by : (xs : List A) (n : ℕ) → n < length xs → take (suc n) xs ≡ take n xs ++ get_or xs n d ∷ []
    by [] n less = absurd (omega arith)
    by (x ∷ xs) zero less = refl
    by (x ∷ xs) (suc n) less = ap (λ l. x ∷ l) (by xs n (omega arith))

got_taken : {A : Type 0} (xs : List A) (count n : ℕ) (d : A) → n < count → get_or (take count xs) n d ≡ get_or xs n d
got_taken [] zero n d less = absurd (omega arith)
got_taken [] (suc count) n d less = refl
got_taken (x ∷ xs) zero n d less = absurd (omega arith)
got_taken (x ∷ xs) (suc count) zero d less = refl
got_taken (x ∷ xs) (suc count) (suc n) d less = got_taken xs count n d (omega arith)

took_all : {A : Type 0} (xs : List A) (n : ℕ) → length xs ≤ n → take n xs ≡ xs
took_all [] zero less = refl
took_all [] (suc n) less = refl
took_all (x ∷ xs) zero less = absurd (omega arith)
took_all (x ∷ xs) (suc n) less = ap (λ l. x ∷ l) (took_all xs n (omega arith))

taken_most : {A : Type 0} (xs : List A) (n : ℕ) → length (take n xs) ≤ n
taken_most xs zero = omega arith
taken_most [] (suc n) = omega arith
taken_most (x ∷ xs) (suc n) = let rest = taken_most xs n in omega arith

-- A target more in the array
module _ (count : ℕ) (targets : List Target) (target : Target) (are : AreTargets count targets) (few : count < 4) where
  abbrev first : List Target
  first = take count targets

  abbrev behind : List Target
  behind = replicate (4 - (count + 1)) no_target

  first_count : length first ≡ count
  first_count = let whole = are.whole in taken_length targets count (omega arith)

  changed : set targets count target ≡ (first ++ target ∷ []) ++ behind
  changed =
      let more : 4 - count ≡ suc (4 - (count + 1)) = omega arith in
      let is : targets ≡ first ++ no_target ∷ behind = are.none_behind ∙ ap (λ (k : ℕ). first ++ replicate k no_target) more in
      (λ i. set (is i) (sym first_count i) target) ∙ set_seam first behind no_target target ∙ sym (append_assoc first (target ∷ []) behind)

  one_longer : length (first ++ target ∷ []) ≡ count + 1
  one_longer = let all = length-append first (target ∷ []) in let same = first_count in omega arith

  -- they are those before it, and this one
  pub are_then : take (count + 1) (set targets count target) ≡ first ++ target ∷ []
  are_then = (λ i. take (sym one_longer i) (changed i)) ∙ take_seam (first ++ target ∷ []) behind

  pub still_targets : IsTarget target → AreTargets (count + 1) (set targets count target)
  still_targets is = record {
    few = omega arith;
    whole = (let all = length-append (first ++ target ∷ []) behind in let long : length (set targets count target) ≡ length ((first ++ target ∷ []) ++ behind) = ap (λ (l : List Target). length l) changed in
        let old : length targets ≡ length (first ++ replicate (4 - count) no_target) = ap (λ (l : List Target). length l) are.none_behind in let whole = are.whole in let one = one_longer in
        let padding = length-append first (replicate (4 - count) no_target) in let same = first_count in
        let more : 4 - count ≡ suc (4 - (count + 1)) = omega arith in
        let padded : length (replicate (4 - count) no_target) ≡ suc (length behind) = ap (λ (k : ℕ). length (replicate k no_target)) more in omega arith);
    none_behind = changed ∙ ap (λ (l : List Target). l ++ behind) (sym are_then);
    each = subst (λ (l : List Target). Each IsTarget l) (sym are_then) (each_more IsTarget first target are.each is);
  }

-- Requests in slots, the first of them so far
targets_append : (first later : List ℕ) (files : List OpenFile) → targets_in (first ++ later) files ≡ targets_in first files ++ targets_in later files
targets_append [] later files = refl
targets_append (slot ∷ first) later files =
    ap (λ (l : List Target). target_in (file_in slot files) ++ l) (targets_append first later files) ∙ sym (append_assoc (target_in (file_in slot files)) (targets_in first files) (targets_in later files))

nothing_more : (l : List Target) → l ++ [] ≡ l
nothing_more [] = refl
nothing_more (t ∷ l) = ap (λ r. t ∷ r) (nothing_more l)

pub slot_more : (slots : List ℕ) (files : List OpenFile) (count n d : ℕ) → n < length slots → n < count
    → targets_in (take (n + 1) (take count slots)) files ≡ targets_in (take n (take count slots)) files ++ target_in (file_in (get_or slots n d) files)
slot_more slots files count n d less asked =
    let long : n < length (take count slots) = shorter slots count less asked in
    ap (λ l. targets_in l files) (take_one (take count slots) n d long ∙ ap (λ k. take n (take count slots) ++ k ∷ []) (got_taken slots count n d asked))
    ∙ targets_append (take n (take count slots)) (get_or slots n d ∷ []) files
    ∙ ap (λ (l : List Target). targets_in (take n (take count slots)) files ++ l) (nothing_more (target_in (file_in (get_or slots n d) files)))
  where
    shorter : (xs : List ℕ) (k : ℕ) → n < length xs → n < k → n < length (take k xs)
    shorter xs k less asked = by xs k n less asked
      where
        by : (xs : List ℕ) (k n : ℕ) → n < length xs → n < k → n < length (take k xs)
        by xs zero n less asked = absurd (omega arith)
        by [] (suc k) n less asked = absurd (omega arith)
        by (x ∷ xs) (suc k) zero less asked = omega arith
        by (x ∷ xs) (suc k) (suc n) less asked = let rest = by xs k n (omega arith) (omega arith) in omega arith

pub slot_past : (slots : List ℕ) (files : List OpenFile) (count n : ℕ) → count ≤ n → targets_in (take (n + 1) (take count slots)) files ≡ targets_in (take n (take count slots)) files
slot_past slots files count n past = let most = taken_most slots count in
    ap (λ l. targets_in l files) (took_all (take count slots) (n + 1) (omega arith) ∙ sym (took_all (take count slots) n (omega arith)))

pub slots_done : (slots : List ℕ) (files : List OpenFile) (count n : ℕ) → length slots ≤ n → targets_in (take n (take count slots)) files ≡ targets_in (take count slots) files
slots_done slots files count n long = ap (λ l. targets_in l files) (took_all (take count slots) n (shorter slots count long))
  where
    shorter : (xs : List ℕ) (k : ℕ) → length xs ≤ n → length (take k xs) ≤ n
    shorter xs k less = by xs k n less
      where
        by : (xs : List ℕ) (k n : ℕ) → length xs ≤ n → length (take k xs) ≤ n
        by xs zero n less = omega arith
        by [] (suc k) n less = omega arith
        by (x ∷ xs) (suc k) zero less = absurd (omega arith)
        by (x ∷ xs) (suc k) (suc n) less = let rest = by xs k n (omega arith) in omega arith

-- How many lines the first ones have
pub lines_more : (count : ℕ) (targets : List Target) (n : ℕ) (d : Target) → AreTargets count targets → n < count → (line_count (take (n + 1) targets) ≡ line_count (take n targets) + (get_or targets n d).lines.count) × ((get_or targets n d).lines.count ≤ 64)
lines_more count targets n d are less =
    let whole = are.whole in let few = are.few in
    let sum = sum_by-append (λ (target : Target). target.lines.count) (take n targets) (get_or targets n d ∷ []) in
    let one = sum_by-cons (λ (target : Target). target.lines.count) (get_or targets n d) [] in
    let all : line_count (take (n + 1) targets) ≡ line_count (take n targets ++ get_or targets n d ∷ []) = ap (λ (l : List Target). line_count l) (take_one targets n d (omega arith)) in
    let is : IsTarget (get_or targets n d) = subst (λ (t : Target). IsTarget t) (got_taken targets count n d less) (each_at IsTarget (take count targets) are.each n d (let long = taken_length targets count (omega arith) in omega arith)) in
    let most : (get_or targets n d).lines.count ≤ 64 = is.lines.1 in (omega (arith, all, sum, one), most)
