-- The numbers that an actor's calls are answered: each file that is opened gets one that no file had before.
use Rattle.std.proofs.Common.{◌≡◌, ◌≤◌, ◌<◌, ◌⊎◌, inl, inr, ℕ, Bool, true, false, cond, List, [], ◌∷◌, ◌++◌, length, map, Option, None, Some, refl, sym, ◌∙◌, ap, subst, arith}
use Rattle.std.specs.Prelude.{◌==◌, nat_lt, take, find}
use Rattle.std.proofs.lemmas.Bool.{true≢false}
use Rattle.std.proofs.lemmas.List.{append_assoc}
use Rattle.gl_base.specs.Refusals.{first_of, when}
use Rattle.gl_base.specs.Rows.{Each, change_first, without_first}
use Rattle.gl_base.specs.declared.errno.Errno.{Errno}
use Rattle.gl_base.specs.declared.errno.Errno.TheVariants.{Fault, Inval, Io, NoDev, NoEnt}
use Rattle.gl_uapi.specs.Command.{command_of, size_of}
use Rattle.gl_uapi.specs.declared.commands.Command.TheVariants.{GetLine}
use Rattle.gl_world.specs.History.{AnsweredFrom, entries_of, entry, fold_from}
use Rattle.gl_world.proofs.Histories.{fold_append}
use Rattle.gl_model.specs.declared.call.Call.{Call}
use Rattle.gl_model.specs.declared.call.Call.TheVariants.{Ioctl, OpenChip, Refused as RefusedCall}
use Rattle.gl_model.specs.declared.call.Part.{Part}
use Rattle.gl_model.specs.declared.call.Part.TheVariants.{Whole, Ask, Tell}
use Rattle.gl_model.specs.declared.reply.Reply.{Reply}
use Rattle.gl_model.specs.declared.reply.Reply.TheVariants.{Done, Number, Go, Found, Text, Ready, Refused}
use Rattle.gl_model.specs.AskedLines.{asked_in}
use Rattle.gl_model.specs.Claiming.{claim_at, claim_by, get_line_ask, get_line_tell, held, is_claim_of, new_claim, told_claim}
use Rattle.gl_model.specs.Edges.{is_monitored, with_edge}
use Rattle.gl_model.specs.Entries.{is_go}
use Rattle.gl_model.specs.Holders.{HoldersAgree}
use Rattle.gl_model.specs.Ioctl.{by_number}
use Rattle.gl_model.specs.Opening.{open_at, open_chip, open_refusal, with_file}
use Rattle.gl_model.specs.OpenFiles.{chip_file_refusal}
use Rattle.gl_model.specs.Outcome.{Outcome, numbers, refused_or}
use Rattle.gl_model.specs.declared.device_call.CommandIn.{CommandIn}
use Rattle.gl_model.specs.declared.device_call.DeviceCall.TheVariants.{Commanding}
use Rattle.gl_model.specs.Parts.{Makes, MakesCommand, MakesRest, in_ask, in_tell, in_whole, is_driver_asked, last_reply}
use Rattle.gl_model.specs.Reading.{read_from}
use Rattle.gl_model.specs.Replies.{has_form, numbered_form}
use Rattle.gl_model.specs.Step.{guard_reply, step}
use Rattle.gl_model.specs.World.{World, Request, has_number}
use Rattle.gl_model.proofs.Bounds.{next_rises}
use Rattle.gl_model.proofs.Claims.{edge_same}
use Rattle.gl_model.proofs.Finishing.{claim_found, differ_in, first_true}
use Rattle.gl_model.proofs.HoldersLaw.{holders_stay_agreed}
use Rattle.gl_model.proofs.Phases.{some_none}
use Rattle.gl_model.proofs.Replies.{replies_have_form}
use Rattle.gl_model.proofs.Requests.{world_keeps}
use Rattle.gl_core.specs.Device.{OneEntry, core}

-- rows of which P is true

abbrev request_or : Request → Option Request → Request
request_or d None = d
request_or d (Some x) = x

module _ (P : Request → Type 0) where
  each_changed : (test : Request → Bool) (f : Request → Request) → ((x : Request) → P x → P (f x)) → (rows : List Request) → Each P rows → Each P (change_first test f rows)
  each_changed test f h [] all = tt
  each_changed test f h (x ∷ rows) all = by (test x) (each_changed test f h rows all.1)
    where
      by : (b : Bool) → Each P (change_first test f rows) → Each P (cond b (f x ∷ rows) (x ∷ change_first test f rows))
      by true later = (h x all.0, all.1)
      by false later = (all.0, later)

  each_without : (test : Request → Bool) (rows : List Request) → Each P rows → Each P (without_first test rows)
  each_without test [] all = tt
  each_without test (x ∷ rows) all = by (test x) (each_without test rows all.1)
    where
      by : (b : Bool) → Each P (without_first test rows) → Each P (cond b rows (x ∷ without_first test rows))
      by true later = all.1
      by false later = (all.0, later)

  each_pushed : (rows : List Request) (x : Request) → P x → Each P rows → Each P (rows ++ x ∷ [])
  each_pushed [] x h all = (h, tt)
  each_pushed (y ∷ rows) x h all = (all.0, each_pushed rows x h all.1)

  found_has : (u : Request → Bool) (rows : List Request) (c : Request) → Each P rows → find u rows ≡ Some c → P c
  found_has u [] c all e = absurd (some_none c (sym e))
  found_has u (x ∷ rows) c all e = by (u x) e (λ h. found_has u rows c all.1 h)
    where
      by : (b : Bool) → cond b (Some x) (find u rows) ≡ Some c → (find u rows ≡ Some c → P c) → P c
      by true h later = subst P (ap (λ (o : Option Request). request_or x o) h) all.0
      by false h later = later h

-- An actor's unfinished claims have numbers from this one on.

abbrev IsFrom : ℕ → ℕ → Request → Type 0
IsFrom a low x = is_claim_of a x ≡ true → low ≤ x.fd

abbrev pub ClaimsFrom : ℕ → ℕ → List Request → Type 0
ClaimsFrom a low rows = Each (IsFrom a low) rows

one_of_two : (b : Bool) (x y : Request) → y.fd ≡ x.fd → (cond b y x).fd ≡ x.fd
one_of_two true x y same = same
one_of_two false x y same = refl

edge_number : (offset : ℕ) (rising : Bool) (timestamp : ℕ) (x : Request) → (with_edge offset rising timestamp x).fd ≡ x.fd
edge_number offset rising timestamp x = one_of_two (is_monitored offset rising x) x _ refl

claims_step : (a low : ℕ) (w : World) (actor : ℕ) (call : Call) → low ≤ w.next → ClaimsFrom a low w.requests → ClaimsFrom a low (step w actor call).world.requests
claims_step a low w actor call le = world_keeps (ClaimsFrom a low) (λ v. low ≤ v.next) (λ actor. Unit {0})
    (λ fd offset rising timestamp rows. each_changed (IsFrom a low) (has_number fd) (with_edge offset rising timestamp)
    (λ x h is. subst (λ n. low ≤ n) (sym (edge_number offset rising timestamp x)) (h (edge_same offset rising timestamp a x is))) rows)
    (λ fd settings rows. each_changed (IsFrom a low) (has_number fd) (λ request. record request { settings = settings request.settings }) (λ x h. h) rows)
    (λ fd max rows. each_changed (IsFrom a low) (has_number fd) (read_from max) (λ x h. h) rows)
    (λ v actor request before may by. each_changed (IsFrom a low) (has_number request.fd) held (λ x h is. absurd (true≢false (sym is))) v.requests)
    (λ v actor request before may by. each_without (IsFrom a low) (has_number request.fd) v.requests)
    (λ v fd request before is by. each_without (IsFrom a low) (has_number request.fd) v.requests)
    (λ place actor bytes v before may f e. each_pushed (IsFrom a low) v.requests (new_claim v.next place actor (asked_in bytes)) (λ is. before))
    w actor call le (λ is. tt)

-- over the entries of a history

pub next_after : (w : World) (es : List OneEntry) → w.next ≤ (fold_from core w es).next
next_after w [] = omega arith
next_after w (e ∷ es) = let here = next_rises w e.actor e.call in let on = next_after (step w e.actor e.call).world es in omega (arith, here, on)

claims_after : (a low : ℕ) (w : World) (es : List OneEntry) → low ≤ w.next → ClaimsFrom a low w.requests → ClaimsFrom a low (fold_from core w es).requests
claims_after a low w [] le h = h
claims_after a low w (e ∷ es) le h =
    let here = next_rises w e.actor e.call in
    claims_after a low (step w e.actor e.call).world es (omega (arith, le, here)) (claims_step a low w e.actor e.call le h)

agree_after : (w : World) (es : List OneEntry) → HoldersAgree w → HoldersAgree (fold_from core w es)
agree_after w [] h = h
agree_after w (e ∷ es) h = agree_after (step w e.actor e.call).world es (holders_stay_agreed w e.actor e.call h)

-- what a call that opens a file is answered: a number from low on and below high, or that it is refused
abbrev pub IsRefused : Reply → Type 0
IsRefused reply = (errno : Errno) × (reply ≡ Refused errno)

abbrev pub IsAnswer : ℕ → ℕ → Reply → Type 0
IsAnswer low high reply = ((fd : ℕ) × (reply ≡ Number fd) × (low ≤ fd) × (fd < high)) ⊎ IsRefused reply

widen : (low high least most : ℕ) (reply : Reply) → least ≤ low → high ≤ most → IsAnswer low high reply → IsAnswer least most reply
widen low high least most reply le ge (inl n) = let a : low ≤ n.0 = n.2 in let b : n.0 < high = n.3 in inl (n.0, n.1, omega (arith, a, le), omega (arith, b, ge))
widen low high least most reply le ge (inr r) = inr r

by_word : (word : List ℕ) (w : World) (P : Outcome → Type 0) → ((place : Option ℕ) → P (open_at place w)) → P (open_chip word w)
by_word word w P each = each _

opened_number : (word : List ℕ) (w : World) (actor : ℕ) → IsAnswer w.next (step w actor (OpenChip word)).world.next (step w actor (OpenChip word)).reply
opened_number word w actor = by_word word w (λ out. IsAnswer w.next out.world.next out.reply) by
  where
    unless : (place : ℕ) (r : Option Errno) → let out = refused_or r w (numbers w.next (with_file place w)) in IsAnswer w.next out.world.next out.reply
    unless place None = inl (w.next, refl, omega arith, omega arith)
    unless place (Some errno) = inr (errno, refl)

    by : (o : Option ℕ) → IsAnswer w.next (open_at o w).world.next (open_at o w).reply
    by None = inr (NoEnt, refl)
    by (Some place) = unless place (open_refusal place w)

-- the tell of GET_LINE

claim_is : (place : ℕ) (o : Option Request) (request : Request) → claim_at place o ≡ Some request → o ≡ Some request
claim_is place None request e = absurd (some_none request (sym e))
claim_is place (Some other) request e = elim (other.place == place) as (λ b. cond b (Some other) None ≡ Some request → Some other ≡ Some request) [
  | true ↦ (λ is. is)
  | false ↦ (λ no. absurd (some_none request (sym no)))
] e

rows_below : (n : ℕ) (rows : List Request) (ys : List ℕ) → Each (λ fd. fd < n) (map (λ (x : Request). x.fd) rows ++ ys) → Each (λ (x : Request). x.fd < n) rows
rows_below n [] ys all = tt
rows_below n (x ∷ rows) ys all = (all.0, rows_below n rows ys all.1)

told_number : (a place : ℕ) (answer : Option ℕ) (len : ℕ) (bytes : List ℕ) (w : World) (low : ℕ) → HoldersAgree w → ClaimsFrom a low w.requests
    → IsAnswer low w.next (get_line_tell place a answer len bytes w).reply
told_number a place answer len bytes w low agree claims = by answer (claim_at place (claim_by w.requests a)) refl
  where
    by : (answer : Option ℕ) (o : Option Request) → claim_at place (claim_by w.requests a) ≡ o → IsAnswer low w.next (told_claim answer len bytes o w).reply
    by answer None e = inr (Inval, refl)
    by None (Some request) e = inr (Io, refl)
    by (Some bits) (Some request) e =
        let found : find (is_claim_of a) w.requests ≡ Some request = claim_found a w.requests request (differ_in w agree.numbers_differ) (claim_is place (claim_by w.requests a) request e) in
        inl (
          request.fd,
          refl,
          found_has (IsFrom a low) (is_claim_of a) w.requests request claims found (first_true (is_claim_of a) w.requests request found),
          found_has (λ (x : Request). x.fd < w.next) (is_claim_of a) w.requests request (rows_below w.next w.requests _ agree.numbers_below) found,
        )

-- a command GET_LINE
by_command : (P : Outcome → Type 0) (w : World) (a place fd cmd len : ℕ) (bytes : List ℕ) (part : Part) → command_of cmd ≡ Some GetLine
    → P (by_number a place fd len (Some GetLine) bytes part w) → P (step w a (Ioctl place fd cmd len bytes part))
by_command P w a place fd cmd len bytes part command h = subst (λ o. P (by_number a place fd len o bytes part w)) (sym command) h

refused_third : (one two : Option Errno) (errno : Errno) (w : World) (out : Outcome) → IsRefused (refused_or (first_of (one ∷ two ∷ Some errno ∷ [])) w out).reply
refused_third (Some e) two errno w out = (e, refl)
refused_third None (Some e) errno w out = (e, refl)
refused_third None None errno w out = (errno, refl)

whole_refused : (w : World) (a place fd cmd len : ℕ) (bytes : List ℕ) → command_of cmd ≡ Some GetLine → IsRefused (step w a (Ioctl place fd cmd len bytes Whole)).reply
whole_refused w a place fd cmd len bytes command = by_command (λ out. IsRefused out.reply) w a place fd cmd len bytes Whole command
    (refused_third (chip_file_refusal place fd w) (when (nat_lt len (size_of GetLine)) Fault) Inval w (get_line_ask place a (take (size_of GetLine) bytes) w))

ask_refused : (place fd cmd len : ℕ) (bytes : List ℕ) (reply : Reply) → command_of cmd ≡ Some GetLine → has_form (Ioctl place fd cmd len bytes Ask) reply ≡ true → is_go reply ≡ false → IsRefused reply
ask_refused place fd cmd len bytes Done command form go = absurd (true≢false (sym form ∙ ap (λ o. numbered_form o Ask Done) command))
ask_refused place fd cmd len bytes (Number n) command form go = absurd (true≢false (sym form ∙ ap (λ o. numbered_form o Ask (Number n)) command))
ask_refused place fd cmd len bytes (Go n) command form go = absurd (true≢false go)
ask_refused place fd cmd len bytes (Found p o n) command form go = absurd (true≢false (sym form ∙ ap (λ c. numbered_form c Ask (Found p o n)) command))
ask_refused place fd cmd len bytes (Text text) command form go = absurd (true≢false (sym form ∙ ap (λ o. numbered_form o Ask (Text text)) command))
ask_refused place fd cmd len bytes (Ready bits) command form go = absurd (true≢false (sym form ∙ ap (λ o. numbered_form o Ask (Ready bits)) command))
ask_refused place fd cmd len bytes (Refused errno) command form go = (errno, refl)

-- where an actor's next entry stands
abbrev entry_or : {X : Type 0} → X → List X → X
entry_or d [] = d
entry_or d (x ∷ xs) = x

abbrev others_of : {X : Type 0} → List X → List X
others_of [] = []
others_of (x ∷ xs) = xs

record NextEntry (a : ℕ) (w : World) (es : List OneEntry) (x : OneEntry) (xs : List OneEntry) : Type 0 where
  pub before : List OneEntry
  pub behind : List OneEntry
  pub at : es ≡ before ++ x ∷ behind
  pub reply : x.reply ≡ (step (fold_from core w before) x.actor x.call).reply
  pub own : entries_of a behind ≡ xs
  pub answered : AnsweredFrom core (step (fold_from core w before) x.actor x.call).world behind

next_entry : (a : ℕ) (w : World) (es : List OneEntry) (x : OneEntry) (xs : List OneEntry) → AnsweredFrom core w es → entries_of a es ≡ x ∷ xs → NextEntry a w es x xs
next_entry a w [] x xs answered is = absurd (let n : 0 ≡ length (x ∷ xs) = ap (λ (l : List OneEntry). length l) is in omega (arith, n))
next_entry a w (e ∷ es) x xs answered is = by (e.actor == a) is (λ own. next_entry a (step w e.actor e.call).world es x xs answered.2 own)
  where
    by : (b : Bool) → cond b (e ∷ entries_of a es) (entries_of a es) ≡ x ∷ xs → (entries_of a es ≡ x ∷ xs → NextEntry a (step w e.actor e.call).world es x xs) → NextEntry a w (e ∷ es) x xs
    by true own later =
        let same : e ≡ x = ap (λ (l : List OneEntry). entry_or e l) own in
        subst (λ y. NextEntry a w (e ∷ es) y xs) same (record { before = []; behind = es; at = refl; reply = answered.0; own = ap (λ (l : List OneEntry). others_of l) own; answered = answered.2 })
    by false own later =
        let n = later own in
        record { before = e ∷ n.before; behind = n.behind; at = ap (λ (l : List OneEntry). e ∷ l) n.at; reply = n.reply; own = n.own; answered = n.answered }

-- the world after that entry
after_entry : (a : ℕ) (w : World) (es : List OneEntry) (x : OneEntry) (xs : List OneEntry) (n : NextEntry a w es x xs)
    → fold_from core w es ≡ fold_from core (step (fold_from core w n.before) x.actor x.call).world n.behind
after_entry a w es x xs n = ap (λ (l : List OneEntry). fold_from core w l) n.at ∙ fold_append core w n.before (x ∷ n.behind)

-- where the last of an actor's entries stands
record LastEntry (a : ℕ) (w : World) (es : List OneEntry) (x : OneEntry) : Type 0 where
  pub before : List OneEntry
  pub behind : List OneEntry
  pub at : es ≡ before ++ x ∷ behind
  pub reply : x.reply ≡ (step (fold_from core w before) x.actor x.call).reply

last_entry : (a : ℕ) (front : List OneEntry) (w : World) (es : List OneEntry) (x : OneEntry) → AnsweredFrom core w es → entries_of a es ≡ front ++ x ∷ [] → LastEntry a w es x
last_entry a [] w es x answered is = let n = next_entry a w es x [] answered is in record { before = n.before; behind = n.behind; at = n.at; reply = n.reply }
last_entry a (e ∷ front) w es x answered is =
    let n = next_entry a w es e (front ++ x ∷ []) answered is in
    let l = last_entry a front (step (fold_from core w n.before) e.actor e.call).world n.behind x n.answered n.own in record {
      before = n.before ++ e ∷ l.before;
      behind = l.behind;
      at = n.at ∙ ap (λ (later : List OneEntry). n.before ++ e ∷ later) l.at ∙ sym (append_assoc n.before (e ∷ l.before) (x ∷ l.behind));
      reply = l.reply ∙ ap (λ (v : World). (step v x.actor x.call).reply) (sym (fold_append core w n.before (e ∷ l.before)));
    }

last_said : (e : OneEntry) (own : List OneEntry) (x : OneEntry) → last_reply (e ∷ (own ++ x ∷ [])) ≡ Some x.reply
last_said e [] x = refl
last_said e (o ∷ own) x = last_said o own x

abbrev value_or : Reply → Option Reply → Reply
value_or d None = d
value_or d (Some x) = x

-- opening a chip
pub open_answers : (a : ℕ) (w : World) (es : List OneEntry) (word : List ℕ) (reply : Reply) → AnsweredFrom core w es → entries_of a es ≡ entry a (OpenChip word) reply ∷ []
    → IsAnswer w.next (fold_from core w es).next reply
open_answers a w es word reply answered is =
    let n = next_entry a w es (entry a (OpenChip word) reply) [] answered is in
    let v : World = fold_from core w n.before in
    let rise = next_after w n.before in
    let on = next_after (step v a (OpenChip word)).world n.behind in
    let end : (fold_from core w es).next ≡ (fold_from core (step v a (OpenChip word)).world n.behind).next = ap (λ (u : World). u.next) (after_entry a w es (entry a (OpenChip word) reply) [] n) in
    widen v.next (step v a (OpenChip word)).world.next w.next (fold_from core w es).next reply rise (omega (arith, on, end))
    (subst (λ r. IsAnswer v.next (step v a (OpenChip word)).world.next r) (sym n.reply) (opened_number word v a))

-- what is answered on a chip's file, and on another
abbrev pub IsMade : Bool → ℕ → ℕ → Reply → Type 0
IsMade true low high reply = IsAnswer low high reply
IsMade false low high reply = IsRefused reply

refused_made : (b : Bool) (low high : ℕ) (reply : Reply) → IsRefused reply → IsMade b low high reply
refused_made true low high reply r = inr r
refused_made false low high reply r = r

module _ (a : ℕ) (w : World) (es : List OneEntry) (c : CommandIn) (reply : Reply) (command : command_of c.cmd ≡ Some GetLine) (agree : HoldersAgree w) (claims : ClaimsFrom a w.next w.requests) (answered : AnsweredFrom core w es)
    (last : last_reply (entries_of a es) ≡ Some reply)
  where
    abbrev high : ℕ
    high = (fold_from core w es).next

    last_is : (x : OneEntry) → entries_of a es ≡ x ∷ [] → x.reply ≡ reply
    last_is x is = ap (λ o. value_or reply o) (ap (λ (l : List OneEntry). last_reply l) (sym is) ∙ last)

    whole_answers : (told : Reply) → entries_of a es ≡ entry a (in_whole c) told ∷ [] → IsRefused reply
    whole_answers told is =
        let n = next_entry a w es (entry a (in_whole c) told) [] answered is in
        subst IsRefused (sym n.reply ∙ last_is (entry a (in_whole c) told) is) (whole_refused (fold_from core w n.before) a c.place c.fd c.cmd c.len c.bytes command)

    rest_answers : (answer : Option ℕ) (own : List OneEntry) (asked : Reply) (rest : List OneEntry) (b : Bool) → entries_of a es ≡ entry a (in_ask c) asked ∷ rest → is_go asked ≡ b
        → MakesRest a b (in_tell answer c) own rest → IsAnswer w.next high reply
    rest_answers answer own asked rest false is go makes =
        let one : entries_of a es ≡ entry a (in_ask c) asked ∷ [] = is ∙ ap (λ (l : List OneEntry). entry a (in_ask c) asked ∷ l) makes.0 in
        let n = next_entry a w es (entry a (in_ask c) asked) [] answered one in
        let form : has_form (in_ask c) asked ≡ true = subst (λ r. has_form (in_ask c) r ≡ true) (sym n.reply) (replies_have_form.form (fold_from core w n.before) a (in_ask c)) in
        inr (subst IsRefused (last_is (entry a (in_ask c) asked) one) (ask_refused c.place c.fd c.cmd c.len c.bytes asked command form go))
    rest_answers answer own asked rest true is go makes =
        let ask : OneEntry = entry a (in_ask c) asked in
        let tell : OneEntry = entry a (in_tell answer c) makes.0 in
        let all : entries_of a es ≡ (ask ∷ own) ++ tell ∷ [] = is ∙ ap (λ (l : List OneEntry). ask ∷ l) makes.1 in
        let n = last_entry a (ask ∷ own) w es tell answered all in
        let x : World = fold_from core w n.before in
        let from_x = claims_after a w.next w n.before (omega arith) claims in
        let agree_x : HoldersAgree x = agree_after w n.before agree in
        let told : IsAnswer w.next x.next (step x a (in_tell answer c)).reply = by_command (λ out. IsAnswer w.next x.next out.reply) x a c.place c.fd c.cmd c.len c.bytes (Tell answer) command (told_number a c.place answer c.len c.bytes x w.next agree_x from_x) in
        let said : makes.0 ≡ reply = ap (λ o. value_or reply o) (sym (last_said ask own tell) ∙ ap (λ (l : List OneEntry). last_reply l) (sym all) ∙ last) in
        let here = next_rises x a (in_tell answer c) in
        let on = next_after (step x a (in_tell answer c)).world n.behind in
        let end : high ≡ (fold_from core (step x a (in_tell answer c)).world n.behind).next =
        ap (λ (y : World). y.next) (ap (λ (l : List OneEntry). fold_from core w l) n.at ∙ fold_append core w n.before (tell ∷ n.behind)) in
        widen w.next x.next w.next high reply (omega arith) (omega (arith, here, on, end)) (subst (λ r. IsAnswer w.next x.next r) (sym n.reply ∙ said) told)

    inside_answers : (of_chip asked : Bool) (answer : Option ℕ) (own : List OneEntry) → is_driver_asked of_chip c.len (Some GetLine) ≡ asked → MakesCommand a asked answer c own (entries_of a es) → IsMade of_chip w.next high reply
    inside_answers of_chip false answer own is makes = refused_made of_chip w.next high reply (whole_answers makes.0.0 makes.0.1)
    inside_answers true true answer own is makes = rest_answers answer own makes.0 makes.1 (is_go makes.0) makes.2 refl makes.3
    inside_answers false true answer own is makes = absurd (true≢false (sym is))

    at_guard : (closed : Bool) (answer : Option ℕ) (own : List OneEntry) → Makes a closed (Commanding c) answer own (entries_of a es) → IsMade c.of_chip w.next high reply
    at_guard true answer own makes = refused_made c.of_chip w.next high reply (NoDev, sym (last_is (entry a (RefusedCall c.place false) (guard_reply false)) makes.1.0))
    at_guard false answer own makes = inside_answers c.of_chip (is_driver_asked c.of_chip c.len (Some GetLine)) answer own refl
        (subst (λ o. MakesCommand a (is_driver_asked c.of_chip c.len o) answer c own (entries_of a es)) command makes.1)

    -- whatever entries the driver made of its own
    pub get_line_answers : (closed : Bool) (answer : Option ℕ) (own : List OneEntry) → Makes a closed (Commanding c) answer own (entries_of a es) → IsMade c.of_chip w.next high reply
    get_line_answers closed answer own makes = at_guard closed answer own makes
