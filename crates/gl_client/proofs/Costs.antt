-- What programs cost.
use Rattle.std.proofs.Common.{◌≤◌, ◌+◌, ◌-◌, ℕ, arith}
use Rattle.gl_client.specs.Gives.{Gives}
use Rattle.gl_client.specs.Program.{Program, done, print, ask, then_by}
use Rattle.gl_client.specs.Costs.{CostsAtMost, entries_of}

-- what costs little costs no more
pub costs_more : {A : Type 0} (p : Program A) (n m : ℕ) → n ≤ m → CostsAtMost n p → CostsAtMost m p
costs_more (done value) n m le h = tt
costs_more (print text p) n m le h = costs_more p n m le h
costs_more (ask what p) n m le h =
    (omega (arith, h.0), λ got. costs_more (p got) (n - entries_of what) (m - entries_of what) (omega (arith, h.0)) (h.1 got))

-- one program and then another cost what both cost
pub costs_then : {A B : Type 0} (p : Program A) (f : A → Program B) (n m : ℕ) → CostsAtMost n p → ((value : A) → CostsAtMost m (f value)) → CostsAtMost (n + m) (then_by p f)
costs_then (done value) f n m h k = costs_more (f value) m (n + m) (omega arith) (k value)
costs_then (print text p) f n m h k = costs_then p f n m h k
costs_then (ask what p) f n m h k = (
  omega (arith, h.0),
  λ got.
      costs_more (then_by (p got) f) (n - entries_of what + m) (n + m - entries_of what) (omega (arith, h.0))
      (costs_then (p got) f (n - entries_of what) m (h.1 got) k),
)

-- what one program and then another give
pub gives_then : {A B : Type 0} (P : A → Type 0) (Q : B → Type 0) (p : Program A) (f : A → Program B) → Gives P p → ((value : A) → P value → Gives Q (f value)) → Gives Q (then_by p f)
gives_then P Q (done value) f h k = k value h
gives_then P Q (print text p) f h k = gives_then P Q p f h k
gives_then P Q (ask what p) f h k = λ got. gives_then P Q (p got) f (h got) k

pub gives_any : {A B : Type 0} (Q : B → Type 0) (p : Program A) (f : A → Program B) → ((value : A) → Gives Q (f value)) → Gives Q (then_by p f)
gives_any Q (done value) f k = k value
gives_any Q (print text p) f k = gives_any Q p f k
gives_any Q (ask what p) f k = λ got. gives_any Q (p got) f k

-- one program and then another that costs so much after each value that the first may give
pub costs_then_given : {A B : Type 0} (P : A → Type 0) (p : Program A) (f : A → Program B) (n m : ℕ) → CostsAtMost n p → Gives P p
    → ((value : A) → P value → CostsAtMost m (f value)) → CostsAtMost (n + m) (then_by p f)
costs_then_given P (done value) f n m h g k = costs_more (f value) m (n + m) (omega arith) (k value g)
costs_then_given P (print text p) f n m h g k = costs_then_given P p f n m h g k
costs_then_given P (ask what p) f n m h g k = (
  omega (arith, h.0),
  λ got.
      costs_more (then_by (p got) f) (n - entries_of what + m) (n + m - entries_of what) (omega (arith, h.0))
      (costs_then_given P (p got) f (n - entries_of what) m (h.1 got) (g got) k),
)
