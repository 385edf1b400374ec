-- Programs that ask the device and print: what a tool or a statement of a session does, whatever it is answered. This
-- project's choice.
use Rattle.std.specs.Prelude.{◌≡◌, ℕ, List, Option, Some, None}
use Rattle.gl_base.specs.declared.operation.Do.{Do}
use Rattle.gl_base.specs.declared.operation.Got.{Got}
use Rattle.gl_base.specs.declared.operation.Got.TheVariants.{Done}
use Rattle.gl_client.specs.declared.next.Next.{Next}
use Rattle.gl_client.specs.declared.next.Next.TheVariants.{Call, Print, End}

-- It is done, and gives a value; or it prints a text and goes on; or it asks for an operation, and goes on by what it
-- is answered.
pub data Program (A : Type 0) : Type 0 where
  done : A → Program A
  print : List ℕ → Program A → Program A
  ask : Do → (Got → Program A) → Program A

-- one program, and then another by what the first gives
abbrev pub then_by : {A B : Type 0} → Program A → (A → Program B) → Program B
then_by (done value) f = f value
then_by (print text p) f = print text (then_by p f)
then_by (ask what p) f = ask what (λ got. then_by (p got) f)

-- what is left to a client: a program; or, where it waits for a result, a program for each result
pub data Left (A : Type 0) : Type 0 where
  goes_on : Program A → Left A
  waits : (Got → Program A) → Left A

-- the program that is left, given the result where one is waited for; none given counts as Done
abbrev pub given : {A : Type 0} → Left A → Option Got → Program A
given (goes_on p) got = p
given (waits p) None = p Done
given (waits p) (Some got) = p got

-- a client whose program is p does this next, and this is left to it
abbrev pub Goes : {A : Type 0} → Program A → Next → Left A → Type 0
Goes p (Call what) (waits rest) = p ≡ ask what rest
Goes p (Call what) (goes_on rest) = ⊥
Goes p (Print text) (waits rest) = ⊥
Goes p (Print text) (goes_on rest) = p ≡ print text rest
Goes p End (waits rest) = ⊥
Goes p End (goes_on (done value)) = p ≡ done value
Goes p End (goes_on _) = ⊥

-- what is left, and then another program by what it gives
abbrev pub then_left : {A B : Type 0} → Left A → (A → Program B) → Left B
then_left (goes_on p) f = goes_on (then_by p f)
then_left (waits p) f = waits (λ got. then_by (p got) f)

-- by whether a client goes on or has come to its end
abbrev pub MatchNext : Next → Type 0 → Type 0 → Type 0
MatchNext (Call what) goes ends = goes
MatchNext (Print text) goes ends = goes
MatchNext End goes ends = ends
