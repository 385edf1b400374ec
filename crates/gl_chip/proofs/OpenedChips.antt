-- Opening a chip: what the reply tells of the chip that the word names.
use Rattle.std.proofs.Common.{◌≡◌, ℕ, ◌<◌, ◌≤◌, List, [], ◌∷◌, ◌++◌, length, sym, refl, ap, ◌∙◌, subst, arith, Bool, true, false, Option, Some, None, Result, Err, IfOk, inl, inr}
use Rattle.std.specs.Prelude.{◌↔◌, ◌^◌, ◌||◌, if◌then◌else◌, nat_le}
use Rattle.std.proofs.lemmas.Bool.{cases_lt, true≢false}
use Rattle.gl_base.specs.ChipWord.{chip_number_of}
use Rattle.gl_base.specs.Refusals.{first_of, when}
use Rattle.gl_base.specs.declared.errno.Errno.{Errno}
use Rattle.gl_base.specs.declared.errno.Errno.TheVariants.{MFile, NoDev}
use Rattle.gl_base.specs.declared.limits.TheConstants.{FILES_MAX, PLACES}
use Rattle.gl_registry.specs.Chips.{can_be_named, chip_at, named_place, no_chip}
use Rattle.gl_registry.specs.declared.registry.Chip.{Chip}
use Rattle.gl_world.specs.Deeds.{entries_in}
use Rattle.gl_world.specs.History.{Legal, entry, fold}
use Rattle.gl_world.proofs.Histories.{answered_prefix, answered_rest, placed_prefix}
use Rattle.gl_core.specs.Kept.{StandsFor}
use Rattle.gl_model.specs.declared.call.Call.TheVariants.{OpenChip}
use Rattle.gl_model.specs.declared.reply.Reply.{Reply}
use Rattle.gl_model.specs.declared.reply.Reply.TheVariants.{Done, Number, Go, Found, Text, Ready, Refused}
use Rattle.gl_model.specs.Chips.{is_leaving, phase_at}
use Rattle.gl_model.specs.OpenFiles.{number_refusal, open_count}
use Rattle.gl_model.specs.Opening.{open_at, with_file}
use Rattle.gl_model.specs.Outcome.{numbers, refused_or}
use Rattle.gl_model.specs.declared.device_call.DeviceCall.TheVariants.{Once}
use Rattle.gl_model.specs.Parts.{last_reply}
use Rattle.gl_model.specs.Replies.{has_form}
use Rattle.gl_model.specs.World.{World}
use Rattle.gl_model.proofs.Bounds.{legal_worlds_have_bounds}
use Rattle.gl_model.proofs.Columns.{read_past}
use Rattle.gl_chip.proofs.WholeCalls.{errno_is_told}
use Rattle.gl_chip.specs.Called.{HasCalled, last_entry}
use Rattle.gl_asking.specs.Opened.{ChipFile, file_in, opened_of, place_named, place_or_first}
use Rattle.gl_chip.specs.Opened.{LastFinds, is_leaving_at, names_leaving}
use Rattle.gl_core.specs.Device.{OneEntry, core}
use Rattle.gl_chip.specs.Values.{OneView}

abbrev pub is_no_dev : Reply → Bool
is_no_dev (Refused NoDev) = true
is_no_dev _ = false

abbrev is_a_number : Reply → Bool
is_a_number (Number n) = true
is_a_number _ = false

-- where the chip is leaving, its open is refused so
leaving_refuses : (p : Option ℕ) (w : World) → is_leaving_at p w ≡ true → (open_at p w).reply ≡ Refused NoDev
leaving_refuses None w h = absurd (true≢false (sym h))
leaving_refuses (Some p) w h = ap (λ b. (refused_or (first_of (when b NoDev ∷ number_refusal w ∷ [])) w (numbers w.next (with_file p w))).reply) h

by_refusal : (b c : Bool) (n : ℕ) (w v : World) → (refused_or (first_of (when b NoDev ∷ when c MFile ∷ [])) w (numbers n v)).reply ≡ Refused NoDev → b ≡ true
by_refusal true c n w v h = refl
by_refusal false true n w v h = absurd (true≢false (sym (ap is_no_dev h)))
by_refusal false false n w v h = absurd (true≢false (sym (ap is_no_dev h)))

-- and only there
refused_leaving : (p : Option ℕ) (w : World) → (open_at p w).reply ≡ Refused NoDev → is_leaving_at p w ≡ true
refused_leaving None w h = absurd (true≢false (sym (ap is_no_dev h)))
refused_leaving (Some p) w h = by_refusal (is_leaving (phase_at w p)) (nat_le FILES_MAX (open_count w) || nat_le (2 ^ 31) w.next) w.next w (with_file p w) h

-- a chip that can be named stands among the chips
can_be_named_within : (chips : List Chip) (n : ℕ) → can_be_named (chip_at chips n).phase ≡ true → n < length chips
can_be_named_within chips n h = elim (cases_lt n (length chips)) as (λ _. n < length chips) [
  | inl lt ↦ lt
  | inr le ↦ absurd (true≢false (sym h ∙ ap (λ (c : Chip). can_be_named c.phase) (read_past chips n no_chip le)))
]

by_name : (b : Bool) (n fd : ℕ) (w : World) → (open_at (if b then Some n else None) w).reply ≡ Number fd → b ≡ true
by_name true n fd w h = refl
by_name false n fd w h = absurd (true≢false (sym (ap is_a_number h)))

opened_place : (named : Option ℕ) (w : World) (fd : ℕ) → (open_at (named_place w.chips named) w).reply ≡ Number fd → (place : ℕ) × (named ≡ Some place) × (place < length w.chips)
opened_place None w fd h = absurd (true≢false (sym (ap is_a_number h)))
opened_place (Some n) w fd h = (n, refl, can_be_named_within w.chips n (by_name (can_be_named (chip_at w.chips n).phase) n fd w h))

-- What the one entry of an open was answered, and in which world.
pub record OpenedIn (v : OneView) (word : List ℕ) (reply : Reply) (w : OneView) : Type 0 where
  pub before : List OneEntry
  pub legal : Legal core before
  pub at : w.seen ≡ before ++ entry v.number (OpenChip word) reply ∷ []
  pub answered : reply ≡ (open_at (named_place (fold core before).chips (chip_number_of word)) (fold core before)).reply

abbrev entry_or : OneEntry → Option OneEntry → OneEntry
entry_or d (Some e) = e
entry_or d None = d

abbrev reply_or : Reply → Option Reply → Reply
reply_or d (Some r) = r
reply_or d None = d

pub opened_in : (limit : ℕ) (v w : OneView) (word : List ℕ) (reply : Reply) (bytes : List ℕ) → HasCalled limit v (Once (OpenChip word)) reply bytes w → OpenedIn v word reply w
opened_in limit v w word reply bytes c =
    let made : List OneEntry = entries_in c.did in
    let told : Reply = c.makes.1.0.0 in
    let e : OneEntry = entry v.number (OpenChip word) told in
    let one : made ≡ e ∷ [] = c.makes.1.0.1 in
    let same : told ≡ reply = ap (reply_or reply) (sym (ap (λ (es : List OneEntry). last_reply es) one) ∙ c.reply_is) in
    let last : e ≡ c.last.last = ap (entry_or e) (sym (ap (λ (es : List OneEntry). last_entry es) one) ∙ c.last.is_last) in
    let before : List OneEntry = c.last.at.0 in
    let at : w.seen ≡ before ++ entry v.number (OpenChip word) reply ∷ [] = c.last.at.1 ∙ ap (λ (x : OneEntry). before ++ x ∷ []) (sym last ∙ ap (λ (r : Reply). entry v.number (OpenChip word) r) same) in
    let whole : Legal core (before ++ entry v.number (OpenChip word) reply ∷ []) = subst (λ s. Legal core s) at c.legal in
    let answered = answered_rest core core.opening before (entry v.number (OpenChip word) reply ∷ []) whole.0 in
    record {
      before = before;
      legal = (answered_prefix core core.opening before _ whole.0, placed_prefix core core.opening before _ whole.1);
      at = at;
      answered = answered.0;
    }

-- the place of a chip that was opened is the one that the word names
pub names_place : (v w : OneView) (word : List ℕ) (reply : Reply) → OpenedIn v word reply w → (fd : ℕ) → reply ≡ Number fd → (place : ℕ) × (chip_number_of word ≡ Some place) × (place < PLACES)
names_place v w word reply o fd is =
    let h = opened_place (chip_number_of word) (fold core o.before) fd (sym o.answered ∙ is) in
    let b : length (fold core o.before).chips ≤ PLACES = ((legal_worlds_have_bounds StandsFor).behind_a_history o.before o.legal).bounded.chips in
    let within : h.0 < length (fold core o.before).chips = h.2 in
    (h.0, h.1, omega (arith, b, within))

pub named_within : (v w : OneView) (word : List ℕ) (reply : Reply) → OpenedIn v word reply w → (fd : ℕ) → reply ≡ Number fd → place_named word < PLACES
named_within v w word reply o fd is = let h = names_place v w word reply o fd is in subst (λ p. place_or_first p < PLACES) (sym h.1) h.2

abbrev front : {A : Type 0} → List A → List A
front [] = []
front (x ∷ []) = []
front (x ∷ y ∷ zs) = x ∷ front (y ∷ zs)

front_is : {A : Type 0} (xs : List A) (x : A) → front (xs ++ x ∷ []) ≡ xs
front_is [] x = refl
front_is (a ∷ []) x = refl
front_is (a ∷ b ∷ cs) x = ap (λ l. a ∷ l) (front_is (b ∷ cs) x)

-- the last entry of this history was made in a world that passes the test
pub found_last : (test : World → Bool) (seen before : List OneEntry) (e : OneEntry) → seen ≡ before ++ e ∷ [] → LastFinds test seen → test (fold core before) ≡ true
found_last test seen before e at found = let same : found.0 ≡ before = sym (front_is found.0 found.1) ∙ (ap (λ (l : List OneEntry). front l) (sym found.2 ∙ at) ∙ front_is before e) in subst (λ b. test (fold core b) ≡ true) same found.3

-- an open is refused so exactly where its last entry found the chip leaving
pub no_dev_leaving : (v w : OneView) (word : List ℕ) (reply : Reply) → OpenedIn v word reply w → (reply ≡ Refused NoDev) ↔ LastFinds (names_leaving word) w.seen
no_dev_leaving v w word reply o = (
  (λ is. (o.before, entry v.number (OpenChip word) reply, o.at, refused_leaving (named_place (fold core o.before).chips (chip_number_of word)) (fold core o.before) (sym o.answered ∙ is))),
  (λ found. o.answered ∙ leaving_refuses (named_place (fold core o.before).chips (chip_number_of word)) (fold core o.before) (found_last (names_leaving word) w.seen o.before (entry v.number (OpenChip word) reply) o.at found)),
)

-- the file of a chip that was opened has the place that the word names
pub file_place : (v w : OneView) (word : List ℕ) (reply : Reply) (result : Result ChipFile Errno) → OpenedIn v word reply w → has_form (OpenChip word) reply ≡ true → result ≡ opened_of word reply
    → IfOk result (λ file. chip_number_of word ≡ Some file.place)
file_place v w word reply result o form is = subst (λ (r : Result ChipFile Errno). IfOk r (λ file. chip_number_of word ≡ Some file.place)) (sym is) (by_reply reply form (names_place v w word reply o))
  where
    by_reply : (reply : Reply) → has_form (OpenChip word) reply ≡ true → ((fd : ℕ) → reply ≡ Number fd → (place : ℕ) × (chip_number_of word ≡ Some place) × (place < PLACES)) → IfOk (opened_of word reply) (λ file. chip_number_of word ≡ Some file.place)
    by_reply Done form names = absurd (true≢false (sym form))
    by_reply (Number fd) form names = let h = names fd refl in h.1 ∙ ap Some (sym (ap place_or_first h.1))
    by_reply (Go n) form names = absurd (true≢false (sym form))
    by_reply (Found p o n) form names = absurd (true≢false (sym form))
    by_reply (Text t) form names = absurd (true≢false (sym form))
    by_reply (Ready b) form names = absurd (true≢false (sym form))
    by_reply (Refused errno) form names = tt

pub opened_no_dev : (v w : OneView) (word : List ℕ) (reply : Reply) (result : Result ChipFile Errno) → OpenedIn v word reply w → result ≡ opened_of word reply → (result ≡ Err NoDev) ↔ LastFinds (names_leaving word) w.seen
opened_no_dev v w word reply result o is = (
  (λ e. (no_dev_leaving v w word reply o).0 (errno_is_told (file_in word) NoDev reply (sym is ∙ e))),
  (λ found. is ∙ ap (λ r. opened_of word r) ((no_dev_leaving v w word reply o).1 found)),
)
