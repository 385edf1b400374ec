-- Programs that ask for no chip over requests.
use Rattle.gl_client.specs.Chips.{AsksNoChips}
use Rattle.gl_client.specs.Program.{Program, done, print, ask, then_by}

-- one program and then another ask for none where neither does
pub asks_then : {A B : Type 0} (p : Program A) (f : A → Program B) → AsksNoChips p → ((value : A) → AsksNoChips (f value)) → AsksNoChips (then_by p f)
asks_then (done value) f h k = k value
asks_then (print text p) f h k = asks_then p f h k
asks_then (ask what p) f h k = (h.0, λ got. asks_then (p got) f (h.1 got) k)
