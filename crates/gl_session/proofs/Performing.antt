-- What comes of an operation of a talk on the device.
use Rattle.std.proofs.Common.{◌≡◌, ◌⊎◌, inl, inr, ⊎_elim, ℕ, Bool, false, List, [], ◌++◌, length, take, drop, Option, None, Result, Ok, Err, refl, sym, ◌∙◌, ap, subst, arith}
use Rattle.std.specs.Prelude.{IfErr, is_some}
use Rattle.std.proofs.lemmas.List.{append-nil, drop_all, take_all}
use Rattle.gl_base.specs.declared.errno.Errno.{Errno}
use Rattle.gl_base.specs.declared.errno.Errno.TheVariants.{Full, NoMemory}
use Rattle.gl_base.specs.declared.op.Op.{Op}
use Rattle.gl_base.specs.declared.operation.Do.{Do}
use Rattle.gl_base.specs.declared.operation.Do.TheVariants.{Ioctl, ReadFile}
use Rattle.gl_base.specs.declared.operation.Got.{Got}
use Rattle.gl_world.specs.Deeds.{deeds_of, entries_in}
use Rattle.gl_gate.specs.Grown.{Grew}
use Rattle.gl_driver.specs.Told.{Told}
use Rattle.gl_model.specs.declared.device_call.DeviceCall.{DeviceCall}
use Rattle.gl_model.specs.declared.reply.Reply.{Reply}
use Rattle.gl_core.specs.Device.{core}
use Rattle.gl_asking.specs.declared.kinds.Asking.{Asking}
use Rattle.gl_asking.specs.declared.kinds.Asking.TheVariants.{Calls}
use Rattle.gl_asking.specs.declared.kinds.FileKind.{FileKind}
use Rattle.gl_asking.specs.Asking.{files_behind, got_of}
use Rattle.gl_asking.specs.Changes.{IsFilled}
use Rattle.gl_asking.specs.Driving.{op_asked}
use Rattle.gl_chip.specs.Files.{plain_result}
use Rattle.gl_chip.specs.Orders.{CouldNot, WroteTo, op_ordered}
use Rattle.gl_chip.specs.Steps.{FoundNoRoom}
use Rattle.gl_chip.specs.Values.{ActorValue, OneView}
use Rattle.gl_check.specs.Drivers.{DriverKind}
use Rattle.gl_check.specs.Joining.{asking_with, maps_behind}
use Rattle.gl_check.specs.Turns.{Carried, Exchange, IsDone, PortBy, map_of, was_asked}
use Rattle.gl_session.specs.Asked.{HasAnswered, behind}
use Rattle.gl_session.specs.Performed.{HasPerformed, IsCall, MadeFor, MetFull, exchange}
use Rattle.gl_check.specs.Buffers.{buffer_for}
use Rattle.gl_session.proofs.Seen.{where_mapped}
use Rattle.gl_session.proofs.Suiting.{Suits}

pub unmoved : (v : OneView) → Grew core v [] v
unmoved v = record {
  number = refl;
  room = refl;
  made = refl;
  joined = refl;
  seen = ([], sym (append-nil v.seen));
  mine = sym (append-nil v.mine);
  deeds = sym (append-nil (deeds_of core v.number v.seen));
}

module _ (driver : DriverKind) (what : Do) (v w : OneView) (s r : Carried) where
  -- An operation that is a call.
  pub made_exchange : (u : OneView) (call : DeviceCall) (on : FileKind) (reply : Reply) (bytes : List ℕ) (got : Got) → Calls call ≡ asking_with s.maps s.files what → op_asked s.files what ≡ op_ordered call on
      → got ≡ got_of what reply bytes → r.files ≡ files_behind what reply s.files → r.maps ≡ maps_behind what reply s.files s.maps → MadeFor driver s.maps call on v reply bytes u s.told r.told → HasPerformed driver what v s got u r
  made_exchange u call on reply bytes got asks op gets files maps made = let called = made.called in let mapped : Bool = is_some (map_of driver s.maps call) in
      let e : Exchange = exchange what mapped called.closed called.answer called.own v.room made.saw called.did reply bytes in
      record {
        exchange = e;
        what_is = refl;
        got_is = gets;
        carries = record {
          is_done = subst (λ (a : Asking). IsDone driver v.number s.maps a (op_asked s.files what) e s.told r.told) asks (record {
            mapped_is = refl;
            makes = called.makes;
            few_own = called.few_own;
            may_own = called.may_own;
            reply_is = called.reply_is;
            bytes_are = called.bytes_are;
            port = subst (λ (o : Option Op). PortBy driver v.number (was_asked call (entries_in called.did)) (map_of driver s.maps call) o e s.told r.told) (sym op) (made.port what);
          });
          files = files;
          maps = maps;
        };
        seen = where_mapped mapped v.room (length u.seen) e refl made.fewer;
        grew = called.grew;
      }

  -- An operation that is no call.
  pub nothing_done : (asks : Asking) (reply : Reply) (got : Got) → asks ≡ asking_with s.maps s.files what → w ≡ v → r.files ≡ files_behind what reply s.files → r.maps ≡ maps_behind what reply s.files s.maps → got ≡ got_of what reply []
      → IsDone driver v.number s.maps asks (op_asked s.files what) (exchange what false false None [] 0 0 [] reply []) s.told r.told → HasPerformed driver what v s got w r
  nothing_done asks reply got is same files maps gets done =
      let e : Exchange = exchange what false false None [] 0 0 [] reply [] in
      record {
        exchange = e;
        what_is = refl;
        got_is = gets;
        carries = record {
          is_done = subst (λ (a : Asking). IsDone driver v.number s.maps a (op_asked s.files what) e s.told r.told) is done;
          files = files;
          maps = maps;
        };
        seen = tt;
        grew = subst (λ (u : OneView). Grew core v [] u) (sym same) (unmoved v);
      }

-- nothing was written into its buffer
unfilled : (what : Do) → IsFilled what [] (buffer_for what)
unfilled (Ioctl slot cmd len bytes made) = refl
unfilled (ReadFile slot len) = refl
unfilled what = tt

-- What an operation was answered, before its files and its maps were kept; the port reports this then.
module _ (driver : DriverKind) (what : Do) (v w : OneView) (s : Carried) (told : Option Told) where
  -- Its call was made, with its own buffer.
  pub called_answers : (call : DeviceCall) (on : FileKind) (reply : Reply) (old new : List ℕ) → Calls call ≡ asking_with s.maps s.files what → Suits what (op_asked s.files what) on call → old ≡ buffer_for what
      → (bytes : List ℕ) × WroteTo call bytes old new × MadeFor driver s.maps call on v reply bytes w s.told told → HasAnswered driver what v s reply new w told
  called_answers call on reply old new asks suits handed (bytes, wrote, made) = (
    bytes,
    made_exchange driver what v w s (behind what reply told s) w call on reply bytes (got_of what reply bytes) asks suits.op refl refl refl made,
    suits.filled bytes new (subst (λ (b : List ℕ). WroteTo call bytes b new) handed wrote),
  )

  -- It was no call.
  pub alone_answers : (asks : Asking) (reply : Reply) (buffer : List ℕ) → asks ≡ asking_with s.maps s.files what → w ≡ v → buffer ≡ buffer_for what
      → IsDone driver v.number s.maps asks (op_asked s.files what) (exchange what false false None [] 0 0 [] reply []) s.told told → HasAnswered driver what v s reply buffer w told
  alone_answers asks reply buffer is same handed done = (
    [],
    nothing_done driver what v w s (behind what reply told s) asks reply (got_of what reply []) is same refl refl refl done,
    subst (λ (b : List ℕ). IsFilled what [] b) (sym handed) (unfilled what),
  )

  -- Its call couldn't be made.
  pub could_not_answer : (call : DeviceCall) (errno : Errno) → Calls call ≡ asking_with s.maps s.files what → (errno ≡ NoMemory) ⊎ ((errno ≡ Full) × FoundNoRoom core v w)
      → (errno ≡ NoMemory) ⊎ ((errno ≡ Full) × MetFull what v s w)
  could_not_answer call errno asks = ⊎_elim (λ wanted. inl wanted) (λ full. inr (full.0, (subst IsCall asks tt, full.1)))

  -- Then they were kept, or memory was wanted.
  pub kept_performs : (reply : Reply) (buffer : List ℕ) (got : Got) (r : Carried) → HasAnswered driver what v s reply buffer w told → ((wrote : List ℕ) → IsFilled what wrote buffer → got ≡ got_of what reply wrote)
      → r ≡ behind what reply told s → HasPerformed driver what v s got w r
  kept_performs reply buffer got r (wrote, performed, filled) gets is =
      subst (λ (x : Got × Carried). HasPerformed driver what v s x.0 w x.1) (λ i. (sym (gets wrote filled) i, sym is i)) performed

-- why a call was not made
pub not_made : {X O P : Type 0} (call : DeviceCall) (result : Result X (O × Errno)) (a b : ActorValue P) (old new : List ℕ) → IfErr result (λ e. CouldNot call e.1 a b × (new ≡ old))
    → IfErr (plain_result result) (λ e. (e ≡ NoMemory) ⊎ ((e ≡ Full) × FoundNoRoom core a.pass.view b.pass.view))
not_made call (Ok x) a b old new h = tt
not_made call (Err errno) a b old new h = ⊎_elim (λ wanted. inl wanted.0) (λ full. inr (full.0, full.2)) h.0

-- a vector of n bytes that was lent whole is what it was given back, where that has n bytes again
pub whole_again : (n : ℕ) (given_back old : List ℕ) → length given_back ≡ n → length old ≡ n → take n (given_back ++ drop (length given_back) old) ≡ given_back
whole_again n given_back old back there =
    ap (λ (rest : List ℕ). take n (given_back ++ rest)) (drop_all (length given_back) old (omega (arith, back, there))) ∙ ap (λ (l : List ℕ). take n l) (append-nil given_back) ∙ take_all n given_back (omega (arith, back))
