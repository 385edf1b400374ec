-- Steps of programs that are parts of others, and of programs by a choice.
use Rattle.std.proofs.Common.{◌≡◌, Bool, true, false, cond, Option, None, Some, refl, ap}
use Rattle.gl_base.specs.declared.operation.Got.{Got}
use Rattle.gl_client.specs.declared.next.Next.{Next}
use Rattle.gl_client.specs.declared.next.Next.TheVariants.{Call, Print, End}
use Rattle.gl_client.specs.Program.{Program, done, print, ask, then_by, Left, goes_on, waits, given, Goes, then_left, MatchNext}

-- the whole goes as its part does, until the part is done
pub goes_in_part : {A B : Type 0} (p : Program A) (next : Next) (left : Left A) (f : A → Program B) → Goes p next left
    → MatchNext next (Goes (then_by p f) next (then_left left f)) ((value : A) × (left ≡ goes_on (done value)) × (then_by p f ≡ f value))
goes_in_part p (Call what) (waits rest) f e = ap (λ q. then_by q f) e
goes_in_part p (Call what) (goes_on rest) f e = absurd e
goes_in_part p (Print text) (waits rest) f e = absurd e
goes_in_part p (Print text) (goes_on rest) f e = ap (λ q. then_by q f) e
goes_in_part p End (waits rest) f e = absurd e
goes_in_part p End (goes_on (done value)) f e = (value, refl, ap (λ q. then_by q f) e)
goes_in_part p End (goes_on (print text rest)) f e = absurd e
goes_in_part p End (goes_on (ask what rest)) f e = absurd e

-- what is left of the whole, given a result, is what is left of the part, and then the rest
pub given_then : {A B : Type 0} (left : Left A) (f : A → Program B) (got : Option Got) → given (then_left left f) got ≡ then_by (given left got) f
given_then (goes_on p) f got = refl
given_then (waits p) f None = refl
given_then (waits p) f (Some got) = refl

pub goes_then : {A : Type 0} (b : Bool) (p q : Program A) (next : Next) (left : Left A) → b ≡ true → Goes p next left → Goes (cond b p q) next left
goes_then true p q next left e h = h
goes_then false p q next left e h = cc

pub goes_else : {A : Type 0} (b : Bool) (p q : Program A) (next : Next) (left : Left A) → b ≡ false → Goes q next left → Goes (cond b p q) next left
goes_else true p q next left e h = cc
goes_else false p q next left e h = h

-- a choice by a test that doesn't compute
pub ruleset choices = (goes_then, goes_else)
