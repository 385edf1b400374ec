-- The first faulty line of a request decides: GET_LINE and SET_CONFIG, as the machine steps.
use Rattle.std.proofs.Common.{◌≡◌, ℕ, zero, suc, ◌+◌, ◌<◌, ◌≤◌, List, [], ◌∷◌, length, take, sym, refl, ap, ◌∙◌, subst, arith, Bool, true, false, cond, Option, Some, None, ◌⊎◌, inl, inr, ⊎_elim}
use Rattle.std.specs.List.{filter, find}
use Rattle.std.specs.Option.{option_map, option_or}
use Rattle.std.specs.Prelude.{◌↔◌, ◌&&◌, ◌||◌, is_some, nat_le, nat_lt, not}
use Rattle.std.proofs.lemmas.Bool.{true≢false}
use Rattle.std.proofs.lemmas.Bool.Decides.{nat_tests}
use mathlib.Core.Logic.{dite}
use native.Mathlib.Decide.{dec_lt}
use Rattle.gl_attrs.specs.ConfigFault.{config_fault}
use Rattle.gl_attrs.specs.Setting.{resolved_for}
use Rattle.gl_base.specs.Positions.{first_fault}
use Rattle.gl_base.specs.Refusals.{first_of, when}
use Rattle.gl_base.specs.declared.errno.Errno.{Errno}
use Rattle.gl_base.specs.declared.errno.Errno.TheVariants.{BadF, Busy, Fault, Inval, Io}
use Rattle.gl_uapi.specs.Command.{size_of}
use Rattle.gl_uapi.specs.declared.commands.Command.TheVariants.{GetLine, SetConfig}
use Rattle.gl_model.specs.declared.call.Part.{Part}
use Rattle.gl_model.specs.declared.call.Part.TheVariants.{Whole, Ask, Tell}
use Rattle.gl_model.specs.declared.reply.Reply.{Reply}
use Rattle.gl_model.specs.declared.reply.Reply.TheVariants.{Go, Refused}
use Rattle.gl_model.specs.AskedLines.{asked_in, num_lines, request_fault}
use Rattle.gl_model.specs.Claiming.{claim_lines, claim_number, is_claim_of, line_refusal}
use Rattle.gl_model.specs.Configuring.{directed_fault, reconfigure, set_config}
use Rattle.gl_model.specs.Ioctl.{by_number}
use Rattle.gl_model.specs.OneClaim.{claims_of}
use Rattle.gl_model.specs.OpenFiles.{chip_file_refusal, in_parts, is_chip_file, is_hold, is_place, is_request_file, is_whole, number_refusal, on_request, request_file_refusal, request_place}
use Rattle.gl_model.specs.Outcome.{Outcome, done, refused_or, replies}
use Rattle.gl_model.specs.Parts.{is_driver_asked}
use Rattle.gl_model.specs.Places.{place_at}
use Rattle.gl_model.specs.World.{World, Request, request_at}
use Rattle.gl_chip.specs.Answering.{ConfigRefused, FirstFaulty, LinesRefused, RequestRefused}

-- the first faulty line

abbrev is_fault : Option Errno → Bool
is_fault None = false
is_fault (Some errno) = true

none_no_fault : {X : Type 0} (e : Errno) → None ≡ Some e → X
none_no_fault e h = absurd (true≢false (sym (ap is_fault h)))

fault_or_later : (a b : Option Errno) (e : Errno) → option_or a b ≡ Some e → (a ≡ Some e) ⊎ ((a ≡ None) × (b ≡ Some e))
fault_or_later None b e h = inr (refl, h)
fault_or_later (Some x) b e h = inl h

-- The first fault at the n numbers from i on: where it is, and that there is none in front of it.
pub record FoundFrom (f : ℕ → Option Errno) (i n : ℕ) (e : Errno) : Type 0 where
  pub at : ℕ
  pub low : i ≤ at
  pub high : at < i + n
  pub is : f at ≡ Some e
  pub none : (j : ℕ) → i ≤ j → j < at → f j ≡ None

found_later : (f : ℕ → Option Errno) (i n : ℕ) (e : Errno) → f i ≡ None → FoundFrom f (i + 1) n e → FoundFrom f i (suc n) e
found_later f i n e here next = record {
  at = next.at;
  low = let low = next.low in omega arith;
  high = let high = next.high in omega arith;
  is = next.is;
  none = λ j low high. dite (dec_lt i j) (λ more. next.none j (omega arith) high) (λ not_more. let same : i ≡ j = omega arith in subst (λ k. f k ≡ None) same here);
}

found_from : (f : ℕ → Option Errno) (i n : ℕ) (e : Errno) → first_fault f i n ≡ Some e → FoundFrom f i n e
found_from f i zero e h = none_no_fault e h
found_from f i (suc n) e h =
    ⊎_elim (λ here. record { at = i; low = omega arith; high = omega arith; is = here; none = λ j low high. absurd (omega arith) })
    (λ later. found_later f i n e later.0 (found_from f (i + 1) n e later.1)) (fault_or_later (f i) (first_fault f (i + 1) n) e h)

found_is_first : (f : ℕ → Option Errno) (i n : ℕ) (e : Errno) → FoundFrom f i n e → first_fault f i n ≡ Some e
found_is_first f i zero e found = let low = found.low in let high = found.high in absurd (omega arith)
found_is_first f i (suc n) e found = let low = found.low in let high = found.high in
    dite (dec_lt i found.at)
    (λ more. ap (λ o. option_or o (first_fault f (i + 1) n)) (found.none i (omega arith) more)
    ∙ found_is_first f (i + 1) n e (record { at = found.at; low = omega arith; high = omega arith; is = found.is; none = λ j l h. found.none j (omega arith) h }))
    (λ not_more. let same : found.at ≡ i = omega arith in ap (λ o. option_or o (first_fault f (i + 1) n)) (subst (λ k. f k ≡ Some e) same found.is))

first_is : (f : ℕ → Option Errno) (n : ℕ) (e : Errno) → first_fault f 0 n ≡ Some e → FirstFaulty f n e
first_is f n e h = let found = found_from f 0 n e h in let high = found.high in record { position = found.at; within = omega arith; is_faulty = found.is; none_in_front = λ j lt. found.none j (omega arith) lt }

is_first : (f : ℕ → Option Errno) (n : ℕ) (e : Errno) → FirstFaulty f n e → first_fault f 0 n ≡ Some e
is_first f n e first = let within = first.within in found_is_first f 0 n e (record { at = first.position; low = omega arith; high = omega arith; is = first.is_faulty; none = λ j low lt. first.none_in_front j lt })

-- refusals in order

abbrev pub error_of : Errno → Reply → Errno
error_of d (Refused e) = e
error_of d _ = d

abbrev error_or : Errno → Option Errno → Errno
error_or d (Some e) = e
error_or d None = d

abbrev pub is_refusal : Reply → Bool
is_refusal (Refused e) = true
is_refusal _ = false

told_is : (x e : Errno) → Refused x ≡ Refused e → Some x ≡ Some e
told_is x e h = ap Some (ap (λ r. error_of x r) h)

is_told : (x e : Errno) → Some x ≡ Some e → Refused x ≡ Refused e
is_told x e h = ap Refused (ap (λ o. error_or x o) h)

pub not_refused : {X : Type 0} (reply : Reply) (e : Errno) → is_refusal reply ≡ false → reply ≡ Refused e → X
not_refused reply e isnt h = absurd (true≢false (sym (ap is_refusal h) ∙ isnt))

-- a refusal of the file, of the bytes or of a number, or of a line
abbrev InOrder : Option Errno → Option Errno → Errno → Type 0
InOrder earlier of_line e = (earlier ≡ Some e) ⊎ ((earlier ≡ None) × (of_line ≡ Some e))

told_earlier : (x e : Errno) (d : Option Errno) → (Refused x ≡ Refused e) ↔ InOrder (Some x) d e
told_earlier x e d = ((λ h. inl (told_is x e h)), (λ r. ⊎_elim (λ h. is_told x e h) (λ h. none_no_fault x (sym h.0)) r))

told_of_line : (x e : Errno) → (Refused x ≡ Refused e) ↔ InOrder None (Some x) e
told_of_line x e = ((λ h. inr (refl, told_is x e h)), (λ r. ⊎_elim (λ h. none_no_fault e h) (λ h. is_told x e h.1) r))

told_go : (n : ℕ) (e : Errno) → (Go n ≡ Refused e) ↔ InOrder None None e
told_go n e = ((λ h. not_refused (Go n) e refl h), (λ r. ⊎_elim (λ h. none_no_fault e h) (λ h. none_no_fault e h.1) r))

asked_in_order : (short busy : Bool) (a b c d : Option Errno) (w v : World) (n : ℕ) (e : Errno) → short ≡ false → busy ≡ false
    → ((refused_or (first_of (a ∷ when short Fault ∷ when false Inval ∷ [])) w (refused_or b w (refused_or (first_of (c ∷ when busy Busy ∷ d ∷ [])) w (replies (Go n) v)))).reply ≡ Refused e) ↔ InOrder (first_of (a ∷ b ∷ c ∷ [])) d e
asked_in_order true busy a b c d w v n e s t = absurd (true≢false s)
asked_in_order false true a b c d w v n e s t = absurd (true≢false t)
asked_in_order false false (Some x) b c d w v n e s t = told_earlier x e d
asked_in_order false false None (Some x) c d w v n e s t = told_earlier x e d
asked_in_order false false None None (Some x) d w v n e s t = told_earlier x e d
asked_in_order false false None None None (Some x) w v n e s t = told_of_line x e
asked_in_order false false None None None None w v n e s t = told_go n e

not_short : (size len : ℕ) → nat_le size len ≡ true → nat_lt len size ≡ false
not_short size len h = grind (arith, nat_tests)

none_found : (u : Request → Bool) (rows : List Request) → filter u rows ≡ [] → is_some (option_map (λ (r : Request). r.fd) (find u rows)) ≡ false
none_found u [] e = refl
none_found u (x ∷ rows) e = elim (u x) as (λ b. cond b (x ∷ filter u rows) (filter u rows) ≡ [] → is_some (option_map (λ (r : Request). r.fd) (cond b (Some x) (find u rows))) ≡ false) [
  | true ↦ (λ none. let n : length (x ∷ filter u rows) ≡ 0 = ap (λ (l : List Request). length l) none in absurd (omega arith))
  | false ↦ (λ none. none_found u rows none)
] e

-- the ask of GET_LINE, by an actor that has no unfinished claim
pub request_refused : (w : World) (actor place fd len : ℕ) (bytes : List ℕ) (e : Errno) → is_driver_asked true len (Some GetLine) ≡ true → claims_of actor w ≡ []
    → ((by_number actor place fd len (Some GetLine) bytes Ask w).reply ≡ Refused e) ↔ RequestRefused place fd (take (size_of GetLine) bytes) e w
request_refused w actor place fd len bytes e long free =
    let its : List ℕ = take (size_of GetLine) bytes in
    let fault_of : ℕ → Option Errno = line_refusal (place_at w place) (asked_in its) in
    let told = asked_in_order (nat_lt len (size_of GetLine)) (is_some (claim_number w.requests actor)) (chip_file_refusal place fd w) (request_fault its) (number_refusal w) (first_fault fault_of 0 (num_lines its))
    w (claim_lines place actor (asked_in its) w) w.next e (not_short (size_of GetLine) len long) (none_found (is_claim_of actor) w.requests free) in (
      (λ h. ⊎_elim (λ earlier. inl earlier) (λ r. inr (r.0, first_is fault_of (num_lines its) e r.1)) (told.0 h)),
      (λ r. told.1 (⊎_elim (λ earlier. inl earlier) (λ q. inr (q.0, is_first fault_of (num_lines its) e q.1)) r)),
    )

-- SET_CONFIG, in one of its two parts

abbrev for_config : Option Errno → Bool → Part → World → Outcome → Outcome
for_config a short part w out = refused_or (first_of (a ∷ when short Fault ∷ when (not (not (is_whole part))) Inval ∷ [])) w out

file_in_order : (a : Option Errno) (short : Bool) (part : Part) (w : World) (out : Outcome) (e : Errno) → short ≡ false → is_whole part ≡ false
    → (for_config a short part w out).reply ≡ Refused e → (a ≡ Some e) ⊎ ((a ≡ None) × (out.reply ≡ Refused e))
file_in_order a true part w out e s p h = absurd (true≢false s)
file_in_order (Some x) false part w out e s p h = inl (told_is x e h)
file_in_order None false Whole w out e s p h = absurd (true≢false p)
file_in_order None false Ask w out e s p h = inr (refl, h)
file_in_order None false (Tell answer) w out e s p h = inr (refl, h)

past_file : (a : Option Errno) (short : Bool) (part : Part) (w : World) (out : Outcome) (e : Errno) → short ≡ false → is_whole part ≡ false
    → (a ≡ Some e) ⊎ ((a ≡ None) × (out.reply ≡ Refused e)) → (for_config a short part w out).reply ≡ Refused e
past_file a true part w out e s p h = absurd (true≢false s)
past_file (Some x) false part w out e s p h = ⊎_elim (λ is. is_told x e is) (λ is. none_no_fault x (sym is.0)) h
past_file None false Whole w out e s p h = absurd (true≢false p)
past_file None false Ask w out e s p h = ⊎_elim (λ is. none_no_fault e is) (λ is. is.1) h
past_file None false (Tell answer) w out e s p h = ⊎_elim (λ is. none_no_fault e is) (λ is. is.1) h

-- what a command in two parts does that is refused for its bytes, or for one of its lines
abbrev on_lines : Option Errno → Option Errno → Part → (ℕ → World → World) → World → Outcome
on_lines a b part f w = refused_or (first_of (a ∷ b ∷ [])) w (in_parts part (λ bits v. done (f bits v)) w)

lines_in_order : (a b : Option Errno) (part : Part) (f : ℕ → World → World) (w : World) (e : Errno) → is_whole part ≡ false → (on_lines a b part f w).reply ≡ Refused e → InOrder a b e ⊎ ((part ≡ Tell None) × (e ≡ Io))
lines_in_order (Some x) b part f w e p h = inl (inl (told_is x e h))
lines_in_order None (Some x) part f w e p h = inl (inr (refl, told_is x e h))
lines_in_order None None Whole f w e p h = absurd (true≢false p)
lines_in_order None None Ask f w e p h = not_refused (Go 0) e refl h
lines_in_order None None (Tell None) f w e p h = inr (refl, sym (ap (λ r. error_of Io r) h))
lines_in_order None None (Tell (Some bits)) f w e p h = not_refused _ e refl h

past_lines : (a b : Option Errno) (part : Part) (f : ℕ → World → World) (w : World) (e : Errno) → InOrder a b e → (on_lines a b part f w).reply ≡ Refused e
past_lines (Some x) b part f w e h = (told_earlier x e b).1 h
past_lines None (Some x) part f w e h = (told_of_line x e).1 h
past_lines None None part f w e h = ⊎_elim (λ is. none_no_fault e is) (λ is. none_no_fault e is.1) h

request_kind : (chip req : Bool) → first_of (when (not (chip || req)) BadF ∷ when (not req) Inval ∷ []) ≡ None → req ≡ true
request_kind true true h = refl
request_kind false true h = refl
request_kind true false h = none_no_fault Inval (sym h)
request_kind false false h = none_no_fault BadF (sym h)

held_is : (o : Option Request) (b : Bool) → is_hold o && b ≡ true → (request : Request) × (o ≡ Some request)
held_is None b h = absurd (true≢false (sym h))
held_is (Some request) b h = (request, refl)

-- a request that is refused for no file is there
request_there : (w : World) (place fd : ℕ) → request_file_refusal place fd w ≡ None → (request : Request) × (request_at w.requests fd ≡ Some request)
request_there w place fd h = held_is (request_at w.requests fd) (is_place place (request_place (request_at w.requests fd))) (request_kind (is_chip_file place fd w) (is_request_file place fd w) h)

module _ (w : World) (place fd len : ℕ) (bytes : List ℕ) (part : Part) (e : Errno) (not_whole : is_whole part ≡ false) where
  abbrev its : List ℕ
  its = take (size_of SetConfig) bytes

  abbrev faults : Request → ℕ → Option Errno
  faults request = directed_fault (place_at w place) request.lines (resolved_for its request.lines.count)

  abbrev doing : Request → ℕ → World → World
  doing request bits v = reconfigure place fd request.lines request.settings (resolved_for its request.lines.count) bits v

  -- by the first of them at which it is refused
  by_order : (request : Request) → InOrder (config_fault its request.lines.count) (first_fault (faults request) 0 request.lines.count) e ⊎ ((part ≡ Tell None) × (e ≡ Io)) → LinesRefused place request its e w ⊎ ((part ≡ Tell None) × (e ≡ Io))
  by_order request (inl (inl early)) = inl (inl early)
  by_order request (inl (inr late)) = inl (inr (late.0, first_is (faults request) request.lines.count e late.1))
  by_order request (inr silent) = inr silent

  lines_told : (o : Option Request) (request : Request) → o ≡ Some request → (on_request (set_config place fd its part) o w).reply ≡ Refused e → LinesRefused place request its e w ⊎ ((part ≡ Tell None) × (e ≡ Io))
  lines_told o request is h =
      let count : ℕ = request.lines.count in
      by_order request (lines_in_order (config_fault its count) (first_fault (faults request) 0 count) part (doing request) w e not_whole (subst (λ (x : Option Request). (on_request (set_config place fd its part) x w).reply ≡ Refused e) is h))

  told_lines : (o : Option Request) (request : Request) → o ≡ Some request → LinesRefused place request its e w → (on_request (set_config place fd its part) o w).reply ≡ Refused e
  told_lines o request is r =
      let count : ℕ = request.lines.count in
      subst (λ (x : Option Request). (on_request (set_config place fd its part) x w).reply ≡ Refused e) (sym is)
      (past_lines (config_fault its count) (first_fault (faults request) 0 count) part (doing request) w e (⊎_elim (λ early. inl early) (λ q. inr (q.0, is_first (faults request) count e q.1)) r))

  pub config_only : (actor : ℕ) → is_driver_asked false len (Some SetConfig) ≡ true → (by_number actor place fd len (Some SetConfig) bytes part w).reply ≡ Refused e → ConfigRefused place fd its e w ⊎ ((part ≡ Tell None) × (e ≡ Io))
  config_only actor long h =
      ⊎_elim (λ is. inl (inl is))
      (λ past. let there = request_there w place fd past.0 in ⊎_elim (λ r. inl (inr (past.0, there.0, there.1, r))) (λ r. inr r) (lines_told (request_at w.requests fd) there.0 there.1 past.1))
      (file_in_order (request_file_refusal place fd w) (nat_lt len (size_of SetConfig)) part w (on_request (set_config place fd its part) (request_at w.requests fd) w) e (not_short (size_of SetConfig) len long) not_whole h)

  pub config_refused : (actor : ℕ) → is_driver_asked false len (Some SetConfig) ≡ true → ConfigRefused place fd its e w → (by_number actor place fd len (Some SetConfig) bytes part w).reply ≡ Refused e
  config_refused actor long r =
      past_file (request_file_refusal place fd w) (nat_lt len (size_of SetConfig)) part w (on_request (set_config place fd its part) (request_at w.requests fd) w) e (not_short (size_of SetConfig) len long) not_whole
      (⊎_elim (λ is. inl is) (λ q. inr (q.0, told_lines (request_at w.requests fd) q.1 q.2 q.3)) r)
