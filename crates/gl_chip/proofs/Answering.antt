-- What a command that asks the driver is answered, and why.
use Rattle.std.proofs.Common.{◌≡◌, ◌≢◌, ℕ, List, [], ◌∷◌, ◌++◌, length, take, sym, refl, ap, ◌∙◌, subst, arith, eq-eqb, Bool, true, false, cond, Option, Some, None, Result, Err, ◌⊎◌, inl, inr, ⊎_elim}
use Rattle.std.specs.Prelude.{◌==◌}
use Rattle.std.proofs.lemmas.Bool.{true≢false}
use Rattle.gl_base.specs.Count.{Rises}
use Rattle.gl_base.specs.declared.errno.Errno.{Errno}
use Rattle.gl_base.specs.declared.errno.Errno.TheVariants.{Io, NoDev}
use Rattle.gl_driver.specs.declared.map.Map.{Map}
use Rattle.gl_driver.specs.Told.{Told}
use Rattle.gl_base.specs.declared.op.Op.{Op}
use Rattle.gl_uapi.specs.Command.{command_of, size_of}
use Rattle.gl_uapi.specs.declared.commands.Command.{Command}
use Rattle.gl_uapi.specs.declared.commands.Command.TheVariants.{ChipInfo, LineInfo, Watch, Unwatch, GetLine, SetConfig, GetValues, SetValues}
use Rattle.gl_world.specs.Deeds.{entries_in}
use Rattle.gl_world.specs.History.{Answered, Legal, entries_of, entry, fold}
use Rattle.gl_world.proofs.Histories.{answered_prefix, answered_rest, entries_append, placed_prefix}
use Rattle.gl_gate.specs.Calls.{HasItsOwn}
use Rattle.gl_core.specs.Kept.{Kept, StandsFor}
use Rattle.gl_model.specs.declared.call.Call.{Call}
use Rattle.gl_model.specs.declared.call.Call.TheVariants.{Ioctl}
use Rattle.gl_model.specs.declared.call.Part.{Part}
use Rattle.gl_model.specs.declared.call.Part.TheVariants.{Whole, Ask, Tell}
use Rattle.gl_model.specs.declared.reply.Reply.{Reply}
use Rattle.gl_model.specs.declared.reply.Reply.TheVariants.{Done, Number, Go, Found, Text, Ready, Refused}
use Rattle.gl_model.specs.Calling.{AreOfCalls}
use Rattle.gl_model.specs.Entries.{is_get_line, is_go}
use Rattle.gl_model.specs.Ioctl.{by_number}
use Rattle.gl_model.specs.OneClaim.{claims_of, first_get_line, told_reply}
use Rattle.gl_model.specs.OpenFiles.{is_whole}
use Rattle.gl_model.specs.declared.device_call.CommandIn.{CommandIn}
use Rattle.gl_model.specs.declared.device_call.DeviceCall.TheVariants.{Commanding}
use Rattle.gl_model.specs.Parts.{MakesAt, MakesCommand, MakesRest, MakesTwo, in_ask, in_tell, is_driver_asked, last_reply}
use Rattle.gl_model.specs.Replies.{has_form, numbered_form}
use Rattle.gl_model.specs.Step.{guard_reply}
use Rattle.gl_model.specs.World.{World, Request}
use Rattle.gl_model.proofs.FinishingCalls.{calls_finish_claims}
use Rattle.gl_model.proofs.Replies.{replies_have_form}
use Rattle.gl_chip.specs.Answering.{AnswersInOrder, AtFirst, AtLast, ConfigRefused, ConfiguresInOrder, IsClaimTold, RequestRefused, RequestsInOrder}
use Rattle.gl_chip.specs.Called.{HasCalled, first_entry, last_entry}
use Rattle.gl_chip.specs.DriverCommands.{HasCommanded, PortOf, WasAsked, is_asked}
use Rattle.gl_asking.specs.Results.{value_of}
use Rattle.gl_chip.specs.Values.{ActorValue, FollowsRelation, IsIdle, OneView, OwnRelation}
use Rattle.gl_core.specs.Device.{OneEntry, core}
use Rattle.gl_chip.proofs.CommandCalls.{go_is, last_entry_on, last_reply_snoc}
use Rattle.gl_chip.proofs.CommandResults.{entry_or}
use Rattle.gl_chip.proofs.FaultyLines.{config_only, config_refused, error_of, not_refused, request_refused}
use Rattle.gl_chip.proofs.RequestedFiles.{below_is_go}
use Rattle.gl_chip.proofs.WholeCalls.{errno_is_told, reply_or}

-- two ways in which a history has an actor's next entry after its own are one

abbrev head_or : OneEntry → List OneEntry → OneEntry
head_or d [] = d
head_or d (x ∷ xs) = x

abbrev tail_of : List OneEntry → List OneEntry
tail_of [] = []
tail_of (x ∷ xs) = xs

own_first : (n : ℕ) (e : OneEntry) (es : List OneEntry) → e.actor ≡ n → entries_of n (e ∷ es) ≡ e ∷ entries_of n es
own_first n e es by = ap (λ b. cond b (e ∷ entries_of n es) (entries_of n es)) (eq-eqb e.actor n by)

none_of_own : {X : Type 0} (n : ℕ) (e : OneEntry) (es : List OneEntry) → e.actor ≡ n → [] ≡ entries_of n (e ∷ es) → X
none_of_own n e es by none = let some : length (entries_of n (e ∷ es)) ≡ length (e ∷ entries_of n es) = ap (λ (l : List OneEntry). length l) (own_first n e es by) in
    let zero : 0 ≡ length (entries_of n (e ∷ es)) = ap (λ (l : List OneEntry). length l) none in absurd (omega arith)

same_rest : (n : ℕ) (x : OneEntry) (xs ys : List OneEntry) → entries_of n (x ∷ xs) ≡ entries_of n (x ∷ ys) → entries_of n xs ≡ entries_of n ys
same_rest n x xs ys own = elim (x.actor == n) as (λ b. cond b (x ∷ entries_of n xs) (entries_of n xs) ≡ cond b (x ∷ entries_of n ys) (entries_of n ys) → entries_of n xs ≡ entries_of n ys) [
  | true ↦ (λ same. ap tail_of same)
  | false ↦ (λ same. same)
] own

same_front : (n : ℕ) (xs ys : List OneEntry) (e f : OneEntry) (es fs : List OneEntry) → e.actor ≡ n → f.actor ≡ n → xs ++ e ∷ es ≡ ys ++ f ∷ fs → entries_of n xs ≡ entries_of n ys → xs ≡ ys
same_front n [] [] e f es fs by by' at own = refl
same_front n [] (y ∷ ys) e f es fs by by' at own = none_of_own n y ys (ap (λ (x : OneEntry). x.actor) (sym (ap (λ l. head_or e l) at)) ∙ by) own
same_front n (x ∷ xs) [] e f es fs by by' at own = none_of_own n x xs (ap (λ (y : OneEntry). y.actor) (ap (λ l. head_or e l) at) ∙ by') (sym own)
same_front n (x ∷ xs) (y ∷ ys) e f es fs by by' at own =
    let same : x ≡ y = ap (λ l. head_or e l) at in
    let rest : entries_of n xs ≡ entries_of n ys = same_rest n x xs ys (own ∙ ap (λ k. entries_of n (k ∷ ys)) (sym same)) in
    let tails : xs ≡ ys = same_front n xs ys e f es fs by by' (ap tail_of at) rest in λ i. same i ∷ tails i

abbrev front_of : List OneEntry → List OneEntry
front_of [] = []
front_of (x ∷ []) = []
front_of (x ∷ y ∷ zs) = x ∷ front_of (y ∷ zs)

front_is : (xs : List OneEntry) (e : OneEntry) → front_of (xs ++ e ∷ []) ≡ xs
front_is [] e = refl
front_is (x ∷ []) e = refl
front_is (x ∷ y ∷ zs) e = ap (λ l. x ∷ l) (front_is (y ∷ zs) e)

legal_front : (before behind : List OneEntry) (seen : List OneEntry) → seen ≡ before ++ behind → Legal core seen → Legal core before
legal_front before behind seen at legal = let whole : Legal core (before ++ behind) = subst (λ l. Legal core l) at legal in
    (answered_prefix core core.opening before behind whole.0, placed_prefix core core.opening before behind whole.1)

-- an ask that isn't answered Go is refused

asks_go : (of_chip : Bool) (len : ℕ) (command : Option Command) (reply : Reply) → is_driver_asked of_chip len command ≡ true → numbered_form command Ask reply ≡ true → is_go reply ≡ true
asks_go of_chip len None reply asks form = absurd (true≢false (sym asks))
asks_go of_chip len (Some ChipInfo) reply asks form = absurd (true≢false (sym asks))
asks_go of_chip len (Some LineInfo) reply asks form = absurd (true≢false (sym asks))
asks_go of_chip len (Some Watch) reply asks form = absurd (true≢false (sym asks))
asks_go of_chip len (Some Unwatch) reply asks form = absurd (true≢false (sym asks))
asks_go of_chip len (Some GetLine) reply asks form = below_is_go _ reply form
asks_go of_chip len (Some SetConfig) reply asks form = below_is_go _ reply form
asks_go of_chip len (Some GetValues) reply asks form = below_is_go _ reply form
asks_go of_chip len (Some SetValues) reply asks form = below_is_go _ reply form

ask_is_refused : (c : CommandIn) (reply : Reply) → is_driver_asked c.of_chip c.len (command_of c.cmd) ≡ true → has_form (in_ask c) reply ≡ true → is_go reply ≡ false → (e : Errno) × (reply ≡ Refused e)
ask_is_refused c Done asks form other = absurd (true≢false (sym (asks_go c.of_chip c.len (command_of c.cmd) Done asks form)))
ask_is_refused c (Number n) asks form other = absurd (true≢false (sym (asks_go c.of_chip c.len (command_of c.cmd) (Number n) asks form)))
ask_is_refused c (Go n) asks form other = absurd (true≢false other)
ask_is_refused c (Found p o n) asks form other = absurd (true≢false (sym (asks_go c.of_chip c.len (command_of c.cmd) (Found p o n) asks form)))
ask_is_refused c (Text t) asks form other = absurd (true≢false (sym (asks_go c.of_chip c.len (command_of c.cmd) (Text t) asks form)))
ask_is_refused c (Ready b) asks form other = absurd (true≢false (sym (asks_go c.of_chip c.len (command_of c.cmd) (Ready b) asks form)))
ask_is_refused c (Refused e) asks form other = (e, refl)

-- the entries of such a command

-- its one entry, the ask, is answered so
pub record OnlyAsked (n : ℕ) (c : CommandIn) (made : List OneEntry) (reply : Reply) : Type 0 where
  pub other : is_go reply ≡ false
  pub is : made ≡ entry n (in_ask c) reply ∷ []

-- the ask was answered Go, and the tell so
pub record AskedAndTold (n : ℕ) (c : CommandIn) (answer : Option ℕ) (own made : List OneEntry) (reply : Reply) : Type 0 where
  pub number : ℕ
  pub is : made ≡ entry n (in_ask c) (Go number) ∷ (own ++ entry n (in_tell answer c) reply ∷ [])

same_reply : (made : List OneEntry) (reply told : Reply) → last_reply made ≡ Some reply → last_reply made ≡ Some told → told ≡ reply
same_reply made reply told is other = ap (reply_or reply) (sym other ∙ is)

made_rest : (n : ℕ) (c : CommandIn) (answer : Option ℕ) (own made rest : List OneEntry) (first reply : Reply) (b : Bool) → is_go first ≡ b → MakesRest {M = Kept} n b (in_tell answer c) own rest → made ≡ entry n (in_ask c) first ∷ rest → last_reply made ≡ Some reply
    → OnlyAsked n c made reply ⊎ AskedAndTold n c answer own made reply
made_rest n c answer own made rest first reply false other makes is last =
    let one : made ≡ entry n (in_ask c) first ∷ [] = is ∙ ap (λ l. entry n (in_ask c) first ∷ l) makes.0 in
    let same : first ≡ reply = same_reply made reply first last (ap (λ (l : List OneEntry). last_reply l) one) in
    inl (record { other = sym (ap is_go same) ∙ other; is = one ∙ ap (λ r. entry n (in_ask c) r ∷ []) same })
made_rest n c answer own made rest first reply true go makes is last =
    let g = go_is first go in
    let told : Reply = makes.0 in
    let both : made ≡ entry n (in_ask c) (Go g.0) ∷ (own ++ entry n (in_tell answer c) told ∷ []) = is ∙ (λ i. entry n (in_ask c) (g.1 i) ∷ makes.1 i) in
    let same : told ≡ reply = same_reply made reply told last (ap (λ (l : List OneEntry). last_reply l) both ∙ last_reply_snoc (entry n (in_ask c) (Go g.0) ∷ own) (entry n (in_tell answer c) told)) in
    inr (record { number = g.0; is = both ∙ ap (λ r. entry n (in_ask c) (Go g.0) ∷ (own ++ entry n (in_tell answer c) r ∷ [])) same })

made_by : (n : ℕ) (closed : Bool) (c : CommandIn) (answer : Option ℕ) (own made : List OneEntry) (reply : Reply) → is_driver_asked c.of_chip c.len (command_of c.cmd) ≡ true → MakesAt {M = Kept} n (Some c.place) closed (Commanding c) answer own made
    → last_reply made ≡ Some reply → reply ≢ guard_reply false → OnlyAsked n c made reply ⊎ AskedAndTold n c answer own made reply
made_by n true c answer own made reply asks makes last let_in = absurd (let_in (sym (same_reply made reply (guard_reply false) last (ap (λ (l : List OneEntry). last_reply l) makes.0))))
made_by n false c answer own made reply asks makes last let_in =
    let two : MakesTwo {M = Kept} n (in_ask c) (in_tell answer c) own made = subst (λ asked. MakesCommand {M = Kept} n asked answer c own made) asks makes in
    made_rest n c answer own made two.1 two.0 reply (is_go two.0) refl two.3 two.2 last

-- what the machine answered at the first entry of a call, and at its last
pub record FirstTold (v w : OneView) (e : OneEntry) : Type 0 where
  pub before : List OneEntry
  pub behind : List OneEntry
  pub at : w.seen ≡ before ++ e ∷ behind
  pub own_before : entries_of v.number before ≡ v.mine
  pub legal : Legal core before
  pub told : core.reply_of (fold core before) e.actor e.call ≡ e.reply

pub record LastTold (w : OneView) (e : OneEntry) : Type 0 where
  pub before : List OneEntry
  pub at : w.seen ≡ before ++ e ∷ []
  pub legal : Legal core before
  pub told : core.reply_of (fold core before) e.actor e.call ≡ e.reply

first_told : (limit : ℕ) (v w : OneView) (c : CommandIn) (reply : Reply) (bytes : List ℕ) (called : HasCalled limit v (Commanding c) reply bytes w) (e : OneEntry) (rest : List OneEntry) → entries_in called.did ≡ e ∷ rest → FirstTold v w e
first_told limit v w c reply bytes called e rest is =
    let h = called.had_room in
    let same : e ≡ h.first = ap (entry_or e) (sym (ap (λ (l : List OneEntry). first_entry l) is) ∙ h.is_first) in
    let at : w.seen ≡ h.before ++ e ∷ h.behind = h.at ∙ ap (λ x. h.before ++ x ∷ h.behind) (sym same) in
    record {
      before = h.before;
      behind = h.behind;
      at = at;
      own_before = h.own_before;
      legal = legal_front h.before (e ∷ h.behind) w.seen at called.legal;
      told = sym (answered_rest core core.opening h.before (e ∷ h.behind) (subst (λ s. Answered core s) at called.legal.0)).0;
    }

last_told : (limit : ℕ) (v w : OneView) (c : CommandIn) (reply : Reply) (bytes : List ℕ) (called : HasCalled limit v (Commanding c) reply bytes w) (e : OneEntry) → last_entry (entries_in called.did) ≡ Some e → LastTold w e
last_told limit v w c reply bytes called e is =
    let l = called.last in
    let same : e ≡ l.last = ap (entry_or e) (sym is ∙ l.is_last) in
    let at : w.seen ≡ l.at.0 ++ e ∷ [] = l.at.1 ∙ ap (λ x. l.at.0 ++ x ∷ []) (sym same) in
    record {
      before = l.at.0;
      at = at;
      legal = legal_front l.at.0 (e ∷ []) w.seen at called.legal;
      told = sym (answered_rest core core.opening l.at.0 (e ∷ []) (subst (λ s. Answered core s) at called.legal.0)).0;
    }

-- claims

-- who makes whole calls has no claim when its next one begins
no_claim : (v w : OneView) (e : OneEntry) (first : FirstTold v w e) → IsIdle v → claims_of v.number (fold core first.before) ≡ []
no_claim v w e first idle = (calls_finish_claims StandsFor).between_calls first.before first.legal v.number (subst (λ l. AreOfCalls StandsFor v.number l) (sym first.own_before) idle.whole_calls)

told_so : (answer : Option ℕ) (claim : Request) (reply : Reply) → told_reply answer claim ≡ reply → IsClaimTold answer reply
told_so None claim reply is = sym is
told_so (Some bits) claim reply is = (claim.fd, sym is)

-- and the tell of a claim is answered for it
claim_is_told : (w : OneView) (c : CommandIn) (answer : Option ℕ) (reply : Reply) → LastTold w (entry w.number (in_tell answer c) reply) → command_of c.cmd ≡ Some GetLine → IsIdle w → HasItsOwn w → IsClaimTold answer reply
claim_is_told w c answer reply last command idle own =
    let tell : OneEntry = entry w.number (in_tell answer c) reply in
    let so_far : entries_of w.number last.before ++ tell ∷ [] ≡ w.mine =
    ap (λ l. entries_of w.number last.before ++ l) (sym (own_first w.number tell [] refl)) ∙ (sym (entries_append w.number last.before (tell ∷ [])) ∙ (ap (λ l. entries_of w.number l) (sym last.at) ∙ own)) in
    let next : first_get_line (tell ∷ []) ≡ Some (in_tell answer c) = ap (λ o. cond (is_get_line o) (Some (in_tell answer c)) None) command in
    let law = (calls_finish_claims StandsFor).before_a_tell last.before last.legal w.number
    (record { to_come = tell ∷ []; whole = subst (λ l. AreOfCalls StandsFor w.number l) (sym so_far) idle.whole_calls }) c.place c.fd c.cmd c.len c.bytes answer next in
    told_so answer law.claim reply (sym law.is_told ∙ last.told)

-- no such command of a request is GET_LINE
pub no_get_line : (len : ℕ) (command : Option Command) → is_driver_asked false len command ≡ true → is_get_line command ≡ false
no_get_line len None e = refl
no_get_line len (Some ChipInfo) e = refl
no_get_line len (Some LineInfo) e = refl
no_get_line len (Some Watch) e = refl
no_get_line len (Some Unwatch) e = refl
no_get_line len (Some GetLine) e = absurd (true≢false (sym e))
no_get_line len (Some SetConfig) e = refl
no_get_line len (Some GetValues) e = refl
no_get_line len (Some SetValues) e = refl

-- what the caller gets

no_dev_is_told : {X : Type 0} (value : Reply → X) (result : Result X Errno) (reply : Reply) → result ≡ value_of value reply → result ≢ Err NoDev → reply ≢ guard_reply false
no_dev_is_told value result reply is let_in gone = let_in (is ∙ ap (λ r. value_of value r) gone)

abbrev answer_in : Part → Option ℕ
answer_in (Tell answer) = answer
answer_in Whole = Some 0
answer_in Ask = Some 0

abbrev is_some_answer : Option ℕ → Bool
is_some_answer (Some bits) = true
is_some_answer None = false

module _ {P : Type 0} (told : P → Option Told) (faults : P → ℕ) (maps : P → List Map) (maps_left : P → ℕ) (Own : OwnRelation) (Follows : FollowsRelation) (limit : ℕ) {X : Type 0} (value : Reply → X) where
  module _ (result : Result X Errno) (op : Option Op) (a b : ActorValue P) (c : CommandIn) (reply : Reply) (bytes : List ℕ) (did : HasCommanded told faults maps maps_left Own Follows limit op a c reply bytes b)
      (is : result ≡ value_of value reply) (asks : is_driver_asked c.of_chip c.len (command_of c.cmd) ≡ true) (let_in : result ≢ Err NoDev) where
    abbrev n : ℕ
    n = a.pass.view.number

    abbrev made : List OneEntry
    made = entries_in did.called.did

    abbrev Counted : Type 0
    Counted = Rises (faults a.port) (faults b.port)

    ways : OnlyAsked n c made reply ⊎ AskedAndTold n c did.called.answer did.called.own made reply
    ways = made_by n did.called.closed c did.called.answer did.called.own made reply asks did.called.makes.1 did.called.reply_is (no_dev_is_told value result reply is let_in)

    -- a failure of the driver is counted
    failed : AskedAndTold n c did.called.answer did.called.own made reply → did.called.answer ≡ None → Counted
    failed both none =
        let was : WasAsked told faults maps maps_left Own Follows limit op c.place did.called.answer did.called.own did.called.did a.pass.view.room (length did.called.last.at.0) a.port b.port =
        subst (λ (l : List OneEntry). PortOf told faults maps maps_left Own Follows limit (is_asked l) op c.place did.called.answer did.called.own did.called.did a.pass.view.room (length did.called.last.at.0) a.port b.port) both.is did.port in was.counted none

    last_of_two : AskedAndTold n c did.called.answer did.called.own made reply → LastTold b.pass.view (entry n (in_tell did.called.answer c) reply)
    last_of_two both = last_told limit a.pass.view b.pass.view c reply bytes did.called (entry n (in_tell did.called.answer c) reply)
        (ap (λ (l : List OneEntry). last_entry l) both.is ∙ last_entry_on (entry n (in_ask c) (Go both.number)) did.called.own (entry n (in_tell did.called.answer c) reply))

    last_of_one : OnlyAsked n c made reply → LastTold b.pass.view (entry n (in_ask c) reply)
    last_of_one one = last_told limit a.pass.view b.pass.view c reply bytes did.called (entry n (in_ask c) reply) (ap (λ (l : List OneEntry). last_entry l) one.is)

    first_of_one : OnlyAsked n c made reply → FirstTold a.pass.view b.pass.view (entry n (in_ask c) reply)
    first_of_one one = first_told limit a.pass.view b.pass.view c reply bytes did.called (entry n (in_ask c) reply) [] one.is

    first_of_two : (both : AskedAndTold n c did.called.answer did.called.own made reply) → FirstTold a.pass.view b.pass.view (entry n (in_ask c) (Go both.number))
    first_of_two both = first_told limit a.pass.view b.pass.view c reply bytes did.called (entry n (in_ask c) (Go both.number)) (did.called.own ++ entry n (in_tell did.called.answer c) reply ∷ []) both.is

    claim_of_two : (both : AskedAndTold n c did.called.answer did.called.own made reply) → command_of c.cmd ≡ Some GetLine → IsIdle b.pass.view → HasItsOwn b.pass.view → IsClaimTold did.called.answer reply
    claim_of_two both command idle own = claim_is_told b.pass.view c did.called.answer reply (subst (λ k. LastTold b.pass.view (entry k (in_tell did.called.answer c) reply)) (sym did.called.grew.number) (last_of_two both)) command idle own

    ask_refused : (one : OnlyAsked n c made reply) → (e : Errno) × (reply ≡ Refused e)
    ask_refused one = let first = first_of_one one in
        ask_is_refused c reply asks (subst (λ r. has_form (in_ask c) r ≡ true) first.told (replies_have_form.form (fold core first.before) n (in_ask c))) one.other

    -- by which entry it is answered
    pub answers_in_order : (is_get_line (command_of c.cmd) ≡ true → (command_of c.cmd ≡ Some GetLine) × IsIdle b.pass.view × HasItsOwn b.pass.view) → AnswersInOrder (λ r. value_of value r) result a.pass.view b.pass.view c
    answers_in_order claims =
        ⊎_elim (λ one. let r = ask_refused one in
        inl (r.0, is ∙ ap (λ x. value_of value x) r.1, did.called.grew.mine ∙ ap (λ l. a.pass.view.mine ++ l) (one.is ∙ ap (λ x. entry n (in_ask c) x ∷ []) r.1)))
        (λ both. inr record {
          number = both.number;
          driver = did.called.answer;
          own = did.called.own;
          reply = reply;
          made = did.called.grew.mine ∙ ap (λ l. a.pass.view.mine ++ l) both.is;
          result_is = is;
          claim_told = λ command. let known = claims command in claim_of_two both known.0 known.1 known.2;
        }) ways

    -- GET_LINE
    module _ (command : command_of c.cmd ≡ Some GetLine) (of_chip : c.of_chip ≡ true) (idle : IsIdle a.pass.view) (idle' : IsIdle b.pass.view) (own' : HasItsOwn b.pass.view) where
      abbrev Refuses : Errno → World → Type 0
      Refuses e world = RequestRefused c.place c.fd (take (size_of GetLine) c.bytes) e world

      long : is_driver_asked true c.len (Some GetLine) ≡ true
      long = subst (λ (x : Bool × Option Command). is_driver_asked x.0 c.len x.1 ≡ true) (λ i. (of_chip i, command i)) asks

      by_its_name : (world : World) (r : Reply) → core.reply_of world n (in_ask c) ≡ r → (by_number n c.place c.fd c.len (Some GetLine) c.bytes Ask world).reply ≡ r
      by_its_name world r h = subst (λ (o : Option Command). (by_number n c.place c.fd c.len o c.bytes Ask world).reply ≡ r) command h

      refused_by : (r : Reply) (first : FirstTold a.pass.view b.pass.view (entry n (in_ask c) r)) (e : Errno) → AtFirst a.pass.view b.pass.view (Refuses e) → r ≡ Refused e
      refused_by r first e at =
          let same : at.before ≡ first.before = same_front n at.before first.before at.first (entry n (in_ask c) r) at.behind first.behind at.by_actor refl (sym at.at ∙ first.at) (at.own_before ∙ sym first.own_before) in
          let world : World = fold core first.before in
          let tells = (request_refused world n c.place c.fd c.len c.bytes e long (no_claim a.pass.view b.pass.view (entry n (in_ask c) r) first idle)).1 (subst (λ l. Refuses e (fold core l)) same at.holds) in
          sym (by_its_name world r first.told) ∙ tells

      refuses_at : (e : Errno) (first : FirstTold a.pass.view b.pass.view (entry n (in_ask c) (Refused e))) → AtFirst a.pass.view b.pass.view (Refuses e)
      refuses_at e first = let world : World = fold core first.before in record {
        before = first.before;
        first = entry n (in_ask c) (Refused e);
        behind = first.behind;
        at = first.at;
        own_before = first.own_before;
        by_actor = refl;
        holds = (request_refused world n c.place c.fd c.len c.bytes e long (no_claim a.pass.view b.pass.view (entry n (in_ask c) (Refused e)) first idle)).0 (by_its_name world (Refused e) first.told);
      }

      only_io : (answer : Option ℕ) (e : Errno) → IsClaimTold answer (Refused e) → (answer ≡ None → Counted) → (e ≡ Io) × Counted
      only_io None e told' counted = (ap (λ r. error_of Io r) told', counted refl)
      only_io (Some bits) e told' counted = not_refused (Number told'.0) e refl (sym told'.1)

      go_not_refused : (k : ℕ) (e : Errno) → Go k ≡ Refused e → ⊥
      go_not_refused k e h = not_refused (Go k) e refl h

      pub requests_in_order : RequestsInOrder Counted result a.pass.view b.pass.view c
      requests_in_order = record {
        refused = λ e at. ⊎_elim (λ one. is ∙ ap (λ r. value_of value r) (refused_by reply (first_of_one one) e at))
            (λ both. absurd (go_not_refused both.number e (refused_by (Go both.number) (first_of_two both) e at))) ways;
        only_then = λ e err. let told' : reply ≡ Refused e = errno_is_told value e reply (sym is ∙ err) in
            ⊎_elim (λ one. inl (refuses_at e (subst (λ r. FirstTold a.pass.view b.pass.view (entry n (in_ask c) r)) told' (first_of_one one))))
            (λ both. inr (only_io did.called.answer e (subst (λ r. IsClaimTold did.called.answer r) told' (claim_of_two both command idle' own')) (failed both))) ways;
      }

    -- SET_CONFIG
    module _ (command : command_of c.cmd ≡ Some SetConfig) (of_request : c.of_chip ≡ false) where
      abbrev RefusesConfig : Errno → World → Type 0
      RefusesConfig e world = ConfigRefused c.place c.fd (take (size_of SetConfig) c.bytes) e world

      long_config : is_driver_asked false c.len (Some SetConfig) ≡ true
      long_config = subst (λ (x : Bool × Option Command). is_driver_asked x.0 c.len x.1 ≡ true) (λ i. (of_request i, command i)) asks

      abbrev in_part_of : Part → Call
      in_part_of part = Ioctl c.place c.fd c.cmd c.len c.bytes part

      config_named : (world : World) (part : Part) (r : Reply) → core.reply_of world n (in_part_of part) ≡ r → (by_number n c.place c.fd c.len (Some SetConfig) c.bytes part world).reply ≡ r
      config_named world part r h = subst (λ (o : Option Command). (by_number n c.place c.fd c.len o c.bytes part world).reply ≡ r) command h

      config_refused_by : (part : Part) → is_whole part ≡ false → LastTold b.pass.view (entry n (in_part_of part) reply) → (e : Errno) → AtLast b.pass.view (RefusesConfig e) → reply ≡ Refused e
      config_refused_by part parted last e at =
          let same : at.before ≡ last.before = sym (front_is at.before at.last) ∙ (ap (λ l. front_of l) (sym at.at ∙ last.at) ∙ front_is last.before (entry n (in_part_of part) reply)) in
          let world : World = fold core last.before in
          sym (config_named world part reply last.told) ∙ config_refused world c.place c.fd c.len c.bytes part e parted n long_config (subst (λ l. RefusesConfig e (fold core l)) same at.holds)

      config_refuses_at : (part : Part) → is_whole part ≡ false → LastTold b.pass.view (entry n (in_part_of part) reply) → (e : Errno) → reply ≡ Refused e → AtLast b.pass.view (RefusesConfig e) ⊎ ((part ≡ Tell None) × (e ≡ Io))
      config_refuses_at part parted last e is_refused =
          let world : World = fold core last.before in
          ⊎_elim (λ holds. inl (record { before = last.before; last = entry n (in_part_of part) reply; at = last.at; holds = holds })) (λ tells. inr tells)
          (config_only world c.place c.fd c.len c.bytes part e parted n long_config (config_named world part reply last.told ∙ is_refused))

      pub configures_in_order : ConfiguresInOrder Counted result b.pass.view c
      configures_in_order = record {
        refused = λ e at. is ∙ ap (λ r. value_of value r) (⊎_elim (λ one. config_refused_by Ask refl (last_of_one one) e at) (λ both. config_refused_by (Tell did.called.answer) refl (last_of_two both) e at) ways);
        only_then = λ e err. let is_refused : reply ≡ Refused e = errno_is_told value e reply (sym is ∙ err) in
            ⊎_elim (λ one. ⊎_elim (λ at. inl at) (λ tells. absurd (true≢false (ap (λ p. is_some_answer (answer_in p)) tells.0))) (config_refuses_at Ask refl (last_of_one one) e is_refused))
            (λ both. ⊎_elim (λ at. inl at) (λ tells. inr (tells.1, failed both (ap answer_in tells.0))) (config_refuses_at (Tell did.called.answer) refl (last_of_two both) e is_refused)) ways;
      }
