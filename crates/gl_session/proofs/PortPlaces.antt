-- Ports by the numbers of their actors, as they are taken out and put back.
use Rattle.std.proofs.Common.{◌≡◌, ◌≢◌, ◌<◌, ℕ, zero, suc, true, List, [], ◌∷◌, drop, get_or, length, set, Option, Some, None, refl, sym, ap, ◌∙◌, subst, arith}
use Rattle.std.specs.Prelude.{slice_get, is_some}
use Rattle.std.specs.List.{AllPass}
use Rattle.std.proofs.lemmas.Option.{slice_get-get_or}
use Rattle.gl_driver.specs.Told.{Told}
use Rattle.gl_session.specs.Ports.{AreAllThere}
use Rattle.gl_session.specs.Workers.{is_found, there_at, told_at, told_found}

pub get_set : {X : Type 0} (xs : List X) (n : ℕ) (x : X) → n < length xs → slice_get (set xs n x) n ≡ Some x
get_set [] n x lt = absurd (omega arith)
get_set (y ∷ ys) zero x lt = refl
get_set (y ∷ ys) (suc n) x lt = get_set ys n x (omega arith)

pub get_other : {X : Type 0} (xs : List X) (n k : ℕ) (x : X) → k ≢ n → slice_get (set xs n x) k ≡ slice_get xs k
get_other [] n k x other = refl
get_other (y ∷ ys) zero zero x other = absurd (other refl)
get_other (y ∷ ys) zero (suc k) x other = refl
get_other (y ∷ ys) (suc n) zero x other = refl
get_other (y ∷ ys) (suc n) (suc k) x other = get_other ys n k x (λ same. other (ap suc same))

module _ {P : Type 0} where
  -- a port that is there
  pub told_got : (told : P → Option Told) (ports : List (Option P)) (n : ℕ) (port : P) → slice_get ports n ≡ Some (Some port) → told_at told ports n ≡ told port
  told_got told ports n port is = ap (λ o. told_found told o) is

  pub there_got : (ports : List (Option P)) (n : ℕ) (port : P) → slice_get ports n ≡ Some (Some port) → there_at ports n ≡ true
  there_got ports n port is = ap (λ (o : Option (Option P)). is_found o) is

  -- a port that isn't there
  pub not_there : (ports : List (Option P)) (n : ℕ) → slice_get ports n ≡ Some None → there_at ports n ≡ true → ⊥
  not_there ports n is there = let no : is_found {P = P} (Some None) ≡ true = ap (λ (o : Option (Option P)). is_found o) (sym is) ∙ there in cc

  pub told_same : (told : P → Option Told) (ports others : List (Option P)) (n : ℕ) → slice_get ports n ≡ slice_get others n → told_at told ports n ≡ told_at told others n
  told_same told ports others n is = ap (λ o. told_found told o) is

  pub there_same : (ports others : List (Option P)) (n : ℕ) → slice_get ports n ≡ slice_get others n → there_at ports n ≡ there_at others n
  there_same ports others n is = ap (λ (o : Option (Option P)). is_found o) is

-- all are there
pub all_found : {P : Type 0} (ports : List (Option P)) → AllPass is_some ports → (n : ℕ) → n < length ports → there_at ports n ≡ true
all_found {P} ports all n lt = ap (λ (o : Option (Option P)). is_found o) (slice_get-get_or ports n None lt) ∙ all n None lt

pub found_all : {P : Type 0} (ports : List (Option P)) → ((n : ℕ) → n < length ports → there_at ports n ≡ true) → AllPass is_some ports
found_all {P} ports h n d lt = sym (ap (λ (o : Option (Option P)). is_found o) (slice_get-get_or ports n d lt)) ∙ h n lt

-- the first port, taken out and another one put in its place
module _ {P : Type 0} where
  still_there : (port : P) (x : Option P) (xs : List (Option P)) → AllPass is_some (x ∷ xs) → (n : ℕ) (d : Option P) → n < length (Some port ∷ xs) → is_some (get_or (Some port ∷ xs) n d) ≡ true
  still_there port x xs all zero d lt = refl
  still_there port x xs all (suc n) d lt = all (suc n) d lt

  put_back : (ports : List (Option P)) (port : P) → AreAllThere ports → AreAllThere (set (set ports 0 None) 0 (Some port)) × (drop 1 (set (set ports 0 None) 0 (Some port)) ≡ drop 1 ports)
  put_back [] port were = let n : 0 ≡ 17 = were.count in absurd (omega arith)
  put_back (x ∷ xs) port were = (record { count = were.count; there = λ n d lt. still_there port x xs were.there n d lt }, refl)

  pub all_put_back : (ports taken given : List (Option P)) (port : P) → taken ≡ set ports 0 None → given ≡ set taken 0 (Some port) → AreAllThere ports → AreAllThere given × (drop 1 given ≡ drop 1 ports)
  all_put_back ports taken given port left_is given_is were =
      subst (λ (l : List (Option P)). AreAllThere l × (drop 1 l ≡ drop 1 ports)) (sym (given_is ∙ ap (λ (l : List (Option P)). set l 0 (Some port)) left_is)) (put_back ports port were)
