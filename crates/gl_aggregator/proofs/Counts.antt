-- What the port behind counts, call by call.
use Rattle.std.proofs.Common.{◌≡◌, ℕ, ◌+◌, List, [], ◌∷◌, ◌++◌, Option, Some, None, zero, suc, sym, refl, ap, ◌∙◌, arith}
use Rattle.gl_base.specs.Count.{counted_up}
use Rattle.gl_base.specs.declared.op.Op.{Op}
use Rattle.gl_driver.specs.Told.{Told, counted_on, with_call, with_call_counting}
use Rattle.gl_driver.specs.declared.op.DriverCall.{DriverCall}
use Rattle.gl_world.specs.Deeds.{Deed, entries_in}
use Rattle.gl_world.specs.History.{ended_in}
use Rattle.gl_world.specs.declared.machine.Machine.{Ghosts}
use Rattle.gl_aggregator.specs.Course.{CountsMore, with_more}
use Rattle.gl_aggregator.specs.Ports.{SameBehind, told_over}

pub counts_none : (t : Option Told) → CountsMore 0 t t
counts_none None calls last = refl
counts_none (Some t) calls last = refl

pub counts_one : (op : Op) (answer : Option ℕ) (t : Option Told) → CountsMore 1 t (with_call op answer t)
counts_one op answer None calls last = refl
counts_one op answer (Some t) calls last = refl

counted_twice : (a b n : ℕ) → counted_on (a + b) n ≡ counted_on b (counted_on a n)
counted_twice zero b n = let e : 0 + b ≡ b = omega arith in ap (λ k. counted_on k n) e
counted_twice (suc a) b n = let e : suc a + b ≡ suc (a + b) = omega arith in ap (λ k. counted_on k n) e ∙ counted_twice a b (counted_up n)

more_twice : (a b : ℕ) (t : Option Told) → with_more (a + b) t ≡ with_more b (with_more a t)
more_twice a b None = refl
more_twice a b (Some t) = ap (λ n. Some (record t { counted = n })) (counted_twice a b t.counted)

pub counts_on : (a b : ℕ) (t u x : Option Told) → CountsMore a t u → CountsMore b u x → CountsMore (a + b) t x
counts_on a b t u x h k calls last = k calls last ∙ (ap (λ o. with_more b o) (h calls last) ∙ sym (more_twice a b (told_over calls last t)))

-- the tells of what was done, and then more
pub ended_append : {M C R G : Type 0} (m : Ghosts M C R G) (xs ys : List (Deed M C R G)) → ended_in m (entries_in (xs ++ ys)) ≡ ended_in m (entries_in xs) + ended_in m (entries_in ys)
ended_append m [] ys = omega arith
ended_append m (x ∷ xs) ys = let e = ended_append m xs ys in omega arith

-- what a port tells over the one behind it
pub told_then : (op : Op) (answer : Option ℕ) (calls more : ℕ) (last : Option DriverCall) (t u : Option Told) → CountsMore more t u
    → told_over (counted_up calls) (Some (record { op = op; answer = answer })) u ≡ with_call_counting more op answer (told_over calls last t)
told_then op answer calls more last None u counts = counts (counted_up calls) (Some (record { op = op; answer = answer }))
told_then op answer calls more last (Some t) u counts = counts (counted_up calls) (Some (record { op = op; answer = answer }))

pub same_behind : (t : Option Told) (calls : ℕ) (last : Option DriverCall) → SameBehind t (told_over calls last t)
same_behind None calls last c l = refl
same_behind (Some t) calls last c l = refl
