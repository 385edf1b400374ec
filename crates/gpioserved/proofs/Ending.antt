-- How serving ended, as the status tells it; and what is served where nothing was read.
use Rattle.std.proofs.Common.{◌≡◌, ℕ, List, [], ◌∷◌, Option, None, Some, refl, sym, ap}
use Rattle.std.proofs.lemmas.List.{append-nil}
use Rattle.std.specs.Io.KnownBytes.{Appends, Consumes}
use Rattle.gl_served.specs.CutLines.{WroteFront, WroteWhole}
use Rattle.gl_served.specs.Served.{nothing_accepted}
use Rattle.gl_served.specs.declared.ended.Ended.{Ended}
use Rattle.gl_served.specs.declared.ended.Ended.TheVariants.{AtEnd, ReadFault as EndedReadFault, WriteFault as EndedWriteFault, NoMemory as EndedNoMemory}
use Rattle.gpioserved.specs.Program.{status_of}
use Rattle.gpioserved.specs.declared.program.Status.{Status}
use Rattle.gpioserved.specs.declared.program.Status.TheVariants.{Ran, Usage, ReadFault, WriteFault, NoMemory}

pub at_end : (ended : Ended) → status_of ended ≡ Ran → ended ≡ AtEnd
at_end AtEnd is = refl
at_end EndedReadFault is = cc
at_end EndedWriteFault is = cc
at_end EndedNoMemory is = cc

pub not_at_end : (ended : Ended) → (status_of ended ≡ Ran → ⊥) → ended ≡ AtEnd → ⊥
not_at_end ended other is = other (ap (λ (e : Ended). status_of e) is)

pub no_memory : (ended : Ended) → status_of ended ≡ NoMemory → ended ≡ EndedNoMemory
no_memory AtEnd is = cc
no_memory EndedReadFault is = cc
no_memory EndedWriteFault is = cc
no_memory EndedNoMemory is = refl

pub read_fault : (ended : Ended) → status_of ended ≡ ReadFault → ended ≡ EndedReadFault
read_fault AtEnd is = cc
read_fault EndedReadFault is = refl
read_fault EndedWriteFault is = cc
read_fault EndedNoMemory is = cc

pub write_fault : (ended : Ended) → status_of ended ≡ WriteFault → ended ≡ EndedWriteFault
write_fault AtEnd is = cc
write_fault EndedReadFault is = cc
write_fault EndedWriteFault is = refl
write_fault EndedNoMemory is = cc

pub no_usage : (ended : Ended) → status_of ended ≡ Usage → ⊥
no_usage AtEnd is = cc
no_usage EndedReadFault is = cc
no_usage EndedWriteFault is = cc
no_usage EndedNoMemory is = cc

pub consumes_nothing : (left : Option (List ℕ)) → Consumes left left []
consumes_nothing None = tt
consumes_nothing (Some bytes) = refl

appends_nothing : (held : Option (List ℕ)) → Appends held held []
appends_nothing None = tt
appends_nothing (Some bytes) = sym (append-nil bytes)

pub front_nothing : (held : Option (List ℕ)) → WroteFront (10 ∷ []) held held
front_nothing held = record {
  front = [];
  more = 10 ∷ [];
  frames = [];
  count = 0;
  whole = refl;
  served = record { lines = []; rest = []; said = nothing_accepted; cut = record { whole = refl; each = tt; no_end = refl }; frames = (refl, refl) };
  wrote = appends_nothing held;
}

pub whole_nothing : (held : Option (List ℕ)) → WroteWhole (10 ∷ []) held held
whole_nothing held = record {
  front = [];
  more = 10 ∷ [];
  frames = [];
  whole = refl;
  served = record { lines = []; rest = []; said = nothing_accepted; cut = record { whole = refl; each = tt; no_end = refl }; frames = (refl, refl) };
  wrote = appends_nothing held;
}
