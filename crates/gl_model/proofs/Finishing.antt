-- Where an actor's unfinished claims are, from one of its own entries to the next.
use Rattle.std.proofs.Common.{◌≡◌, ◌+◌, ◌≤◌, ℕ, List, [], ◌∷◌, ◌++◌, length, refl, sym, ap, ◌∙◌, subst, eq-eqb, ne_eqb, Bool, true, false, cond, Option, Some, None, arith}
use Rattle.std.specs.Prelude.{◌==◌, ◌&&◌, ◌||◌, is_some, map, nat_eq, nat_lt, not, take}
use Rattle.std.specs.List.{AllByRecursion, IsDistinct, filter, find}
use Rattle.std.specs.Option.{option_and_then, option_map}
use Rattle.std.proofs.lemmas.Bool.{true≢false}
use Rattle.std.proofs.lemmas.Bool.Decides.{nat_tests}
use mathlib.Core.Logic.{dite}
use native.Mathlib.Decide.{ℕ_discrete}
use Rattle.gl_base.specs.Lines.{offsets_of}
use Rattle.gl_base.specs.Refusals.{first_of, when}
use Rattle.gl_base.specs.Rows.{Each, change_first, without_first}
use Rattle.gl_base.specs.declared.errno.Errno.{Errno}
use Rattle.gl_base.specs.declared.errno.Errno.TheVariants.{Fault, Inval}
use Rattle.gl_base.specs.declared.settings.Resolved.{Resolved}
use Rattle.gl_desc.specs.Desc.{settled}
use Rattle.gl_ring.specs.Waiting.{with_item}
use Rattle.gl_uapi.specs.Command.{command_of, size_of}
use Rattle.gl_uapi.specs.declared.commands.Command.TheVariants.{GetLine}
use Rattle.gl_uapi.specs.declared.layout.TheConstants.{CHANGED_REQUESTED}
use Rattle.gl_watch.specs.Files.{file_at}
use Rattle.gl_watch.specs.declared.file.ChipFile.{ChipFile}
use Rattle.gl_world.specs.History.{AnsweredFrom, entries_of, fold_from}
use Rattle.gl_world.specs.declared.history.Entry.{Entry}
use Rattle.gl_model.specs.declared.call.Call.{Call}
use Rattle.gl_model.specs.declared.call.Call.TheVariants.{Ioctl}
use Rattle.gl_model.specs.declared.call.Part.{Part}
use Rattle.gl_model.specs.declared.call.Part.TheVariants.{Whole, Ask, Tell}
use Rattle.gl_model.specs.declared.gift.Gift.{Gift}
use Rattle.gl_model.specs.declared.reply.Reply.{Reply}
use Rattle.gl_model.specs.declared.reply.Reply.TheVariants.{Go}
use Rattle.gl_model.specs.AskedLines.{asked_in, request_fault}
use Rattle.gl_model.specs.Claiming.{claim, claim_at, claim_by, claim_lines, claim_refusal, get_line_ask, get_line_tell, held, hold_claim, is_claim_of, new_claim, told_claim, with_descs}
use Rattle.gl_model.specs.Configuring.{configure, configure_each, configure_from, settings_of}
use Rattle.gl_model.specs.Edges.{is_monitored, with_edge}
use Rattle.gl_model.specs.Entries.{is_go, is_get_line_call}
use Rattle.gl_model.specs.Holders.{HoldersAgree, file_numbers}
use Rattle.gl_model.specs.Ioctl.{by_number, checked}
use Rattle.gl_model.specs.Machine.{machine}
use Rattle.gl_model.specs.Notify.{notify, notify_each}
use Rattle.gl_model.specs.OneClaim.{claims_of, told_reply}
use Rattle.gl_model.specs.Opening.{is_open}
use Rattle.gl_model.specs.OpenFiles.{is_hold}
use Rattle.gl_model.specs.OpenFiles.{chip_file_refusal, command_refusal}
use Rattle.gl_model.specs.Outcome.{Outcome, replies, refused_or}
use Rattle.gl_model.specs.declared.device_call.CommandIn.{CommandIn}
use Rattle.gl_model.specs.Parts.{in_ask, in_tell, in_whole}
use Rattle.gl_model.specs.Places.{with_place}
use Rattle.gl_model.specs.Reading.{read_from}
use Rattle.gl_model.specs.Step.{step}
use Rattle.gl_model.specs.World.{World, Request, has_number, request_at}
use Rattle.gl_model.proofs.Claims.{OneEach, edge_same, keeps}
use Rattle.gl_model.proofs.HoldersLaw.{holders_stay_agreed}
use Rattle.gl_model.proofs.Ledger.{file_number}
use Rattle.gl_model.proofs.Leading.{Leads as LeadsBy}
use Rattle.gl_model.proofs.Phases.{same_number, some_none}
use Rattle.gl_model.proofs.Requests.{world_keeps}
use Rattle.gl_base.specs.Bits.{has_bit}

-- P holds of each row that passes

module _ (u : Request → Bool) (P : Request → Type 0) where
  abbrev EachPassing : List Request → Type 0
  EachPassing rows = Each P (filter u rows)

  passing_tail : (x : Request) (rows : List Request) → EachPassing (x ∷ rows) → EachPassing rows
  passing_tail x rows all = elim (u x) as (λ b. Each P (cond b (x ∷ filter u rows) (filter u rows)) → EachPassing rows) [ true ↦ (λ h. h.1) | false ↦ (λ h. h) ] all

  passing_head : (x : Request) (rows : List Request) → u x ≡ true → EachPassing (x ∷ rows) → P x
  passing_head x rows e all = let here : Each P (x ∷ filter u rows) = subst (λ b. Each P (cond b (x ∷ filter u rows) (filter u rows))) e all in here.0

  passing_cons : (x : Request) (rows : List Request) → (u x ≡ true → P x) → EachPassing rows → EachPassing (x ∷ rows)
  passing_cons x rows here all = elim (u x) as (λ b. u x ≡ b → Each P (cond b (x ∷ filter u rows) (filter u rows))) [ true ↦ (λ e. (here e, all)) | false ↦ (λ e. all) ] refl

  passing_change : (test : Request → Bool) (f : Request → Request) → ((x : Request) → u (f x) ≡ true → u x ≡ true) → ((x : Request) → P x → P (f x)) → (rows : List Request)
      → EachPassing rows → EachPassing (change_first test f rows)
  passing_change test f before stays [] all = tt
  passing_change test f before stays (x ∷ rows) all = elim (test x) as (λ b. EachPassing (cond b (f x ∷ rows) (x ∷ change_first test f rows))) [
    | true ↦ passing_cons (f x) rows (λ e. stays x (passing_head x rows (before x e) all)) (passing_tail x rows all)
    | false ↦ passing_cons x (change_first test f rows) (λ e. passing_head x rows e all) (passing_change test f before stays rows (passing_tail x rows all))
  ]

  passing_without : (test : Request → Bool) (rows : List Request) → EachPassing rows → EachPassing (without_first test rows)
  passing_without test [] all = tt
  passing_without test (x ∷ rows) all = elim (test x) as (λ b. EachPassing (cond b rows (x ∷ without_first test rows))) [
    | true ↦ passing_tail x rows all
    | false ↦ passing_cons x (without_first test rows) (λ e. passing_head x rows e all) (passing_without test rows (passing_tail x rows all))
  ]

  passing_push : (rows : List Request) (x : Request) → (u x ≡ true → P x) → EachPassing rows → EachPassing (rows ++ x ∷ [])
  passing_push [] x here all = passing_cons x [] here tt
  passing_push (y ∷ rows) x here all = passing_cons y (rows ++ x ∷ []) (λ e. passing_head y rows e all) (passing_push rows x here (passing_tail y rows all))

-- numbers

-- the requests have different numbers
abbrev pub Differ : List Request → Type 0
Differ [] = Unit {0}
Differ (x ∷ rows) = Each (λ (y : Request). nat_eq x.fd y.fd ≡ false) rows × Differ rows

abbrev request_number : Request → ℕ
request_number request = request.fd

first_others : (n : ℕ) (rows : List Request) (ys : List ℕ) → AllByRecursion (λ y. nat_eq n y ≡ false) (map request_number rows ++ ys) → Each (λ (y : Request). nat_eq n y.fd ≡ false) rows
first_others n [] ys all = tt
first_others n (x ∷ rows) ys all = (all.0, first_others n rows ys all.1)

pub requests_differ : (rows : List Request) (ys : List ℕ) → IsDistinct nat_eq (map request_number rows ++ ys) → Differ rows
unfolding IsDistinct
requests_differ [] ys d = tt
requests_differ (x ∷ rows) ys d = (first_others x.fd rows ys d.0, requests_differ rows ys d.1)

-- a number that all of these differ from is that of no chip file among them
no_file : (n fd : ℕ) (xs : List ℕ) (files : List ChipFile) → AllByRecursion (λ y. nat_eq n y ≡ false) (xs ++ map file_number files) → is_some (file_at fd files) ≡ true → (n == fd) ≡ false
no_file n fd [] [] all is = absurd (true≢false (sym is))
no_file n fd [] (file ∷ files) all is = elim (file.fd == fd) as (λ b. (file.fd == fd) ≡ b → is_some (cond b (Some file) (file_at fd files)) ≡ true → (n == fd) ≡ false) [
  | true ↦ (λ same h. let other : nat_eq n file.fd ≡ false = all.0 in grind (arith, nat_tests))
  | false ↦ (λ other h. no_file n fd [] files all.1 h)
] refl is
no_file n fd (x ∷ xs) files all is = no_file n fd xs files all.1 is

-- no request has the number of a chip file
no_request_at : (fd : ℕ) (rows : List Request) (files : List ChipFile) → IsDistinct nat_eq (map request_number rows ++ map file_number files)
    → is_some (file_at fd files) ≡ true → request_at rows fd ≡ None
unfolding IsDistinct
no_request_at fd [] files d is = refl
no_request_at fd (x ∷ rows) files d is =
    ap (λ b. cond b (Some x) (request_at rows fd)) (no_file x.fd fd (map request_number rows) files d.0 is) ∙ no_request_at fd rows files d.1 is

-- the first row that passes, and the row of its number

some_same : (x y : Request) → Some x ≡ Some y → x ≡ y
some_same x y e = cc

module _ (u : Request → Bool) where
  none_passes : (rows : List Request) → find u rows ≡ None → Each (λ (x : Request). ⊥) (filter u rows)
  none_passes [] e = tt
  none_passes (x ∷ rows) e = elim (u x) as (λ b. cond b (Some x) (find u rows) ≡ None → Each (λ (x : Request). ⊥) (cond b (x ∷ filter u rows) (filter u rows))) [
    | true ↦ (λ h. absurd (some_none x h))
    | false ↦ (λ h. none_passes rows h)
  ] e

  first_is : (Q : Request → Type 0) (rows : List Request) (c : Request) → Each Q rows → find u rows ≡ Some c → Q c
  first_is Q [] c all e = absurd (some_none c (sym e))
  first_is Q (x ∷ rows) c all e = elim (u x) as (λ b. cond b (Some x) (find u rows) ≡ Some c → Q c) [
    | true ↦ (λ h. subst Q (some_same x c h) all.0)
    | false ↦ (λ h. first_is Q rows c all.1 h)
  ] e

  first_passes : (P : Request → Type 0) (rows : List Request) (c : Request) → Each P (filter u rows) → find u rows ≡ Some c → P c
  first_passes P [] c all e = absurd (some_none c (sym e))
  first_passes P (x ∷ rows) c all e = elim (u x) as (λ b. Each P (cond b (x ∷ filter u rows) (filter u rows)) → cond b (Some x) (find u rows) ≡ Some c → P c) [
    | true ↦ (λ a h. subst P (some_same x c h) a.0)
    | false ↦ (λ a h. first_passes P rows c a h)
  ] all e

  -- where the first row of those after x passes, x has another number
  other_number : (x c : Request) (rows : List Request) → Each (λ (y : Request). nat_eq x.fd y.fd ≡ false) rows → find u rows ≡ Some c → (x.fd == c.fd) ≡ false
  other_number x c rows differ e = let other : nat_eq x.fd c.fd ≡ false = first_is (λ y. nat_eq x.fd y.fd ≡ false) rows c differ e in grind (arith, nat_tests)

  pub first_by_number : (rows : List Request) (c : Request) → Differ rows → find u rows ≡ Some c → request_at rows c.fd ≡ Some c
  first_by_number [] c differ e = absurd (some_none c (sym e))
  first_by_number (x ∷ rows) c differ e = elim (u x) as (λ b. cond b (Some x) (find u rows) ≡ Some c → request_at (x ∷ rows) c.fd ≡ Some c) [
    | true ↦ (λ h. subst (λ y. cond (x.fd == y.fd) (Some x) (request_at rows y.fd) ≡ Some y) (some_same x c h) (ap (λ b. cond b (Some x) (request_at rows x.fd)) (eq-eqb x.fd x.fd refl)))
    | false ↦ (λ h. ap (λ b. cond b (Some x) (request_at rows c.fd)) (other_number x c rows differ.0 h) ∙ first_by_number rows c differ.1 h)
  ] e

  -- no other row passes after one that does
  one_passes : (x : Request) (rows : List Request) → u x ≡ true → length (filter u (x ∷ rows)) ≤ 1 → Each (λ (y : Request). ⊥) (filter u rows)
  one_passes x rows e one = empty_each (filter u rows) (subst (λ b. length (cond b (x ∷ filter u rows) (filter u rows)) ≤ 1) e one)
    where
      empty_each : (ys : List Request) → length (x ∷ ys) ≤ 1 → Each (λ (y : Request). ⊥) ys
      empty_each [] h = tt
      empty_each (y ∷ ys) h = absurd (omega arith)

  rest_one : (x : Request) (rows : List Request) → u x ≡ false → length (filter u (x ∷ rows)) ≤ 1 → length (filter u rows) ≤ 1
  rest_one x rows e one = subst (λ b. length (cond b (x ∷ filter u rows) (filter u rows)) ≤ 1) e one

  -- without the only row that passes, or with that row changed so that it doesn't, none does
  none_without : (rows : List Request) (c : Request) → Differ rows → length (filter u rows) ≤ 1 → find u rows ≡ Some c
      → Each (λ (y : Request). ⊥) (filter u (without_first (has_number c.fd) rows))
  none_without [] c differ one e = tt
  none_without (x ∷ rows) c differ one e = elim (u x) as (λ b. u x ≡ b → cond b (Some x) (find u rows) ≡ Some c → Each (λ (y : Request). ⊥)
      (filter u (without_first (has_number c.fd) (x ∷ rows)))) [
        | true ↦ (λ t h. subst (λ y. Each (λ (y : Request). ⊥) (filter u (cond (x.fd == y.fd) rows (x ∷ without_first (has_number y.fd) rows)))) (some_same x c h)
            (subst (λ b. Each (λ (y : Request). ⊥) (filter u (cond b rows (x ∷ without_first (has_number x.fd) rows)))) (sym (eq-eqb x.fd x.fd refl)) (one_passes x rows t one)))
        | false ↦ (λ f h. subst (λ b. Each (λ (y : Request). ⊥) (filter u (cond b rows (x ∷ without_first (has_number c.fd) rows)))) (sym (other_number x c rows differ.0 h))
            (subst (λ b. Each (λ (y : Request). ⊥) (cond b (x ∷ filter u (without_first (has_number c.fd) rows)) (filter u (without_first (has_number c.fd) rows)))) (sym f)
            (none_without rows c differ.1 (rest_one x rows f one) h)))
      ] refl e

  none_changed : (f : Request → Request) → ((x : Request) → u (f x) ≡ false) → (rows : List Request) (c : Request) → Differ rows → length (filter u rows) ≤ 1
      → find u rows ≡ Some c
      → Each (λ (y : Request). ⊥) (filter u (change_first (has_number c.fd) f rows))
  none_changed f drops [] c differ one e = tt
  none_changed f drops (x ∷ rows) c differ one e = elim (u x) as (λ b. u x ≡ b → cond b (Some x) (find u rows) ≡ Some c → Each (λ (y : Request). ⊥)
      (filter u (change_first (has_number c.fd) f (x ∷ rows)))) [
        | true ↦ (λ t h. subst (λ y. Each (λ (y : Request). ⊥) (filter u (cond (x.fd == y.fd) (f x ∷ rows) (x ∷ change_first (has_number y.fd) f rows)))) (some_same x c h)
            (subst (λ b. Each (λ (y : Request). ⊥) (filter u (cond b (f x ∷ rows) (x ∷ change_first (has_number x.fd) f rows)))) (sym (eq-eqb x.fd x.fd refl))
            (subst (λ b. Each (λ (y : Request). ⊥) (cond b (f x ∷ filter u rows) (filter u rows))) (sym (drops x)) (one_passes x rows t one))))
        | false ↦ (λ n h. subst (λ b. Each (λ (y : Request). ⊥) (filter u (cond b (f x ∷ rows) (x ∷ change_first (has_number c.fd) f rows)))) (sym (other_number x c rows differ.0 h))
            (subst (λ b. Each (λ (y : Request). ⊥) (cond b (x ∷ filter u (change_first (has_number c.fd) f rows)) (filter u (change_first (has_number c.fd) f rows)))) (sym n)
            (none_changed f drops rows c differ.1 (rest_one x rows n one) h)))
      ] refl e

-- where an actor's unfinished claims are: nowhere, or at one place
abbrev pub IsAt : Option ℕ → Request → Type 0
IsAt None request = ⊥
IsAt (Some place) request = request.place ≡ place

abbrev pub ClaimsAt : ℕ → Option ℕ → List Request → Type 0
ClaimsAt a at rows = Each (IsAt at) (filter (is_claim_of a) rows)

-- who has no claim has none elsewhere
none_at : (at : Option ℕ) (rows : List Request) → Each (IsAt None) rows → Each (IsAt at) rows
none_at at [] none = tt
none_at at (x ∷ rows) none = absurd none.0

same_place : (at : Option ℕ) (x y : Request) → y.place ≡ x.place → IsAt at x → IsAt at y
same_place None x y e h = h
same_place (Some place) x y e h = e ∙ h

edge_place : (offset : ℕ) (rising : Bool) (timestamp : ℕ) (x : Request) → (with_edge offset rising timestamp x).place ≡ x.place
edge_place offset rising timestamp x = elim (is_monitored offset rising x) as (λ b. (cond b (record x {
  past = with_item x.capacity
      (record { timestamp = timestamp; rising = rising; offset = offset }) x.past;
}) x).place ≡ x.place) [ true ↦ refl | false ↦ refl ]

-- whatever is done but an actor's own GET_LINE, its claims stay where they are
stays_at : (a : ℕ) (at : Option ℕ) (w : World) (actor : ℕ) (call : Call) → (is_get_line_call call ≡ true → actor ≡ a → ⊥)
    → ClaimsAt a at w.requests → ClaimsAt a at (step w actor call).world.requests
stays_at a at w actor call other = world_keeps (ClaimsAt a at) (λ w. Unit {0}) (λ actor. actor ≡ a → ⊥)
    (λ fd offset rising timestamp rows. passing_change (is_claim_of a) (IsAt at) (has_number fd) (with_edge offset rising timestamp)
    (λ x. edge_same offset rising timestamp a x) (λ x. same_place at x (with_edge offset rising timestamp x) (edge_place offset rising timestamp x)) rows)
    (λ fd settings rows. passing_change (is_claim_of a) (IsAt at) (has_number fd) (λ request. record request { settings = settings request.settings }) (λ x e. e)
    (λ x. same_place at x _ refl) rows)
    (λ fd max rows. passing_change (is_claim_of a) (IsAt at) (has_number fd) (read_from max) (λ x e. e) (λ x. same_place at x _ refl) rows)
    (λ v actor request before may by. passing_change (is_claim_of a) (IsAt at) (has_number request.fd) held (λ x e. absurd (true≢false (sym e))) (λ x. same_place at x _ refl) v.requests)
    (λ v actor request before may by. passing_without (is_claim_of a) (IsAt at) (has_number request.fd) v.requests)
    (λ v fd request before is by. passing_without (is_claim_of a) (IsAt at) (has_number request.fd) v.requests)
    (λ place actor bytes v before may f e all. passing_push (is_claim_of a) (IsAt at) v.requests (new_claim v.next place actor (asked_in bytes)) (λ same. absurd (may (same_number actor a same))) all)
    w actor call tt other

-- the actor has a claim

abbrev pub HasClaim : ℕ → List Request → Type 0
HasClaim a rows = is_some (find (is_claim_of a) rows) ≡ true

module _ (u : Request → Bool) where
  abbrev SomePasses : List Request → Type 0
  SomePasses rows = is_some (find u rows) ≡ true

  pub first_true : (rows : List Request) (c : Request) → find u rows ≡ Some c → u c ≡ true
  first_true [] c e = absurd (some_none c (sym e))
  first_true (x ∷ rows) c e = elim (u x) as (λ b. u x ≡ b → cond b (Some x) (find u rows) ≡ Some c → u c ≡ true) [
    | true ↦ (λ t h. subst (λ y. u y ≡ true) (some_same x c h) t)
    | false ↦ (λ f h. first_true rows c h)
  ] refl e

  some_behind : (x : Request) (rows : List Request) → SomePasses rows → SomePasses (x ∷ rows)
  some_behind x rows h = elim (u x) as (λ b. is_some (cond b (Some x) (find u rows)) ≡ true) [ true ↦ refl | false ↦ h ]

  some_cons : (x : Request) (rows other : List Request) → (SomePasses rows → SomePasses other) → SomePasses (x ∷ rows) → SomePasses (x ∷ other)
  some_cons x rows other stays h = elim (u x) as (λ b. is_some (cond b (Some x) (find u rows)) ≡ true → is_some (cond b (Some x) (find u other)) ≡ true) [ true ↦ (λ k. refl) | false ↦ stays ] h

  some_head : (x y : Request) (rows : List Request) → u y ≡ u x → SomePasses (x ∷ rows) → SomePasses (y ∷ rows)
  some_head x y rows same h = subst (λ b. is_some (cond b (Some y) (find u rows)) ≡ true) (sym same)
      (elim (u x) as (λ b. is_some (cond b (Some x) (find u rows)) ≡ true → is_some (cond b (Some y) (find u rows)) ≡ true) [ true ↦ (λ k. refl) | false ↦ (λ k. k) ] h)

  some_tail : (x : Request) (rows : List Request) → u x ≡ false → SomePasses (x ∷ rows) → SomePasses rows
  some_tail x rows e h = subst (λ b. is_some (cond b (Some x) (find u rows)) ≡ true) e h

  some_change : (test : Request → Bool) (f : Request → Request) → ((x : Request) → u (f x) ≡ u x) → (rows : List Request) → SomePasses rows → SomePasses (change_first test f rows)
  some_change test f same [] h = h
  some_change test f same (x ∷ rows) h = elim (test x) as (λ b. SomePasses (cond b (f x ∷ rows) (x ∷ change_first test f rows))) [
    | true ↦ some_head x (f x) rows (same x) h
    | false ↦ some_cons x rows (change_first test f rows) (some_change test f same rows) h
  ]

  -- where another row is changed, or gone
  some_change_other : (test : Request → Bool) (f : Request → Request) (y : Request) → u y ≡ false → (rows : List Request) → find test rows ≡ Some y → SomePasses rows
      → SomePasses (change_first test f rows)
  some_change_other test f y other [] e h = h
  some_change_other test f y other (x ∷ rows) e h = elim (test x) as (λ b. cond b (Some x) (find test rows) ≡ Some y → SomePasses (cond b (f x ∷ rows) (x ∷ change_first test f rows))) [
    | true ↦ (λ k. some_behind (f x) rows (some_tail x rows (ap u (some_same x y k) ∙ other) h))
    | false ↦ (λ k. some_cons x rows (change_first test f rows) (some_change_other test f y other rows k) h)
  ] e

  some_without_other : (test : Request → Bool) (y : Request) → u y ≡ false → (rows : List Request) → find test rows ≡ Some y → SomePasses rows → SomePasses (without_first test rows)
  some_without_other test y other [] e h = h
  some_without_other test y other (x ∷ rows) e h = elim (test x) as (λ b. cond b (Some x) (find test rows) ≡ Some y → SomePasses (cond b rows (x ∷ without_first test rows))) [
    | true ↦ (λ k. some_tail x rows (ap u (some_same x y k) ∙ other) h)
    | false ↦ (λ k. some_cons x rows (without_first test rows) (some_without_other test y other rows k) h)
  ] e

  some_push : (rows : List Request) (x : Request) → SomePasses rows → SomePasses (rows ++ x ∷ [])
  some_push [] x h = absurd (true≢false (sym h))
  some_push (y ∷ rows) x h = some_cons y rows (rows ++ x ∷ []) (some_push rows x) h

  some_pushed : (rows : List Request) (x : Request) → u x ≡ true → SomePasses (rows ++ x ∷ [])
  some_pushed [] x e = ap (λ b. is_some (cond b (Some x) None)) e
  some_pushed (y ∷ rows) x e = some_behind y (rows ++ x ∷ []) (some_pushed rows x e)

-- the claim that is found is the actor's
pub claim_found : (b : ℕ) (rows : List Request) (y : Request) → Differ rows → claim_by rows b ≡ Some y → find (is_claim_of b) rows ≡ Some y
claim_found b rows y differ e = found (find (is_claim_of b) rows) refl e
  where
    found : (o : Option Request) → find (is_claim_of b) rows ≡ o → option_and_then (request_at rows) (option_map (λ (request : Request). request.fd) o) ≡ Some y → o ≡ Some y
    found None is h = absurd (some_none y (sym h))
    found (Some c) is h = sym (first_by_number (is_claim_of b) rows c differ is) ∙ h

and_right : (b c : Bool) → (b && c) ≡ true → c ≡ true
and_right true c e = e
and_right false c e = absurd (true≢false (sym e))

and_false : (b c : Bool) → c ≡ false → (b && c) ≡ false
and_false true c e = e
and_false false c e = refl

-- a claim of one actor is none of another's
others_claim : (a b : ℕ) (y : Request) → (b ≡ a → ⊥) → is_claim_of b y ≡ true → is_claim_of a y ≡ false
others_claim a b y other is = and_false (not y.held) (y.actor == a) (ne_eqb y.actor a (λ same. other (sym (same_number y.actor b (and_right (not y.held) (y.actor == b) is)) ∙ same)))

edge_claim : (a offset : ℕ) (rising : Bool) (timestamp : ℕ) (x : Request) → is_claim_of a (with_edge offset rising timestamp x) ≡ is_claim_of a x
edge_claim a offset rising timestamp x = elim (is_monitored offset rising x) as (λ b. is_claim_of a (cond b
    (record x { past = with_item x.capacity (record { timestamp = timestamp; rising = rising; offset = offset }) x.past }) x) ≡ is_claim_of a x) [ true ↦ refl | false ↦ refl ]

-- the requests of a world have different numbers, and no chip file has one of these
abbrev pub HasNumbers : World → Type 0
HasNumbers w = IsDistinct nat_eq (file_numbers w)

pub differ_in : (w : World) → HasNumbers w → Differ w.requests
differ_in w numbers = requests_differ w.requests (map file_number w.files) numbers

-- whatever is done but an actor's own GET_LINE, its claim stays
module _ (a : ℕ) where
  -- the claim of another actor is finished, or dropped
  finished_other : (w : World) (actor : ℕ) (y : Request) → HasNumbers w → (actor ≡ a → ⊥) → claim_by w.requests actor ≡ Some y → HasClaim a w.requests
      → HasClaim a (change_first (has_number y.fd) held w.requests)
  finished_other w actor y numbers other by h =
      let found : find (is_claim_of actor) w.requests ≡ Some y = claim_found actor w.requests y (differ_in w numbers) by in
      some_change_other (is_claim_of a) (has_number y.fd) held y (others_claim a actor y other (first_true (is_claim_of actor) w.requests y found)) w.requests
      (first_by_number (is_claim_of actor) w.requests y (differ_in w numbers) found) h

  dropped_other : (w : World) (actor : ℕ) (y : Request) → HasNumbers w → (actor ≡ a → ⊥) → claim_by w.requests actor ≡ Some y → HasClaim a w.requests
      → HasClaim a (without_first (has_number y.fd) w.requests)
  dropped_other w actor y numbers other by h =
      let found : find (is_claim_of actor) w.requests ≡ Some y = claim_found actor w.requests y (differ_in w numbers) by in
      some_without_other (is_claim_of a) (has_number y.fd) y (others_claim a actor y other (first_true (is_claim_of actor) w.requests y found)) w.requests
      (first_by_number (is_claim_of actor) w.requests y (differ_in w numbers) found) h

  -- a close lets go of a hold, or of a chip file
  closed_other : (w : World) (fd : ℕ) (y : Request) → HasNumbers w → is_open fd w ≡ true → request_at w.requests fd ≡ Some y → HasClaim a w.requests
      → HasClaim a (without_first (has_number y.fd) w.requests)
  closed_other w fd y numbers is e h = elim (is_some (file_at fd w.files)) as (λ b. is_some (file_at fd w.files) ≡ b → (b || is_hold (request_at w.requests fd)) ≡ true
      → HasClaim a (without_first (has_number y.fd) w.requests)) [
        | true ↦ (λ file _. absurd (some_none y (sym e ∙ no_request_at fd w.requests w.files numbers file)))
        | false ↦ (λ no_file hold.
            let held_so : y.held ≡ true = sym (ap is_hold e) ∙ hold in
            let number : y.fd ≡ fd = same_number y.fd fd (first_true (has_number fd) w.requests y e) in
            some_without_other (is_claim_of a) (has_number y.fd) y (ap (λ b. not b && y.actor == a) held_so) w.requests (subst (λ n. request_at w.requests n ≡ Some y) (sym number) e) h)
      ] refl is

  claim_stays : (w : World) (actor : ℕ) (call : Call) → (is_get_line_call call ≡ true → actor ≡ a → ⊥) → HasNumbers w → HasClaim a w.requests → HasClaim a (step w actor call).world.requests
  claim_stays w actor call other numbers h = world_keeps (HasClaim a) HasNumbers (λ actor. actor ≡ a → ⊥)
      (λ fd offset rising timestamp rows. some_change (is_claim_of a) (has_number fd) (with_edge offset rising timestamp) (edge_claim a offset rising timestamp) rows)
      (λ fd settings rows. some_change (is_claim_of a) (has_number fd) (λ request. record request { settings = settings request.settings }) (λ x. refl) rows)
      (λ fd max rows. some_change (is_claim_of a) (has_number fd) (read_from max) (λ x. refl) rows)
      finished_other
      dropped_other
      closed_other
      (λ place actor bytes v before may f e. some_push (is_claim_of a) v.requests _)
      w actor call numbers other h

-- where a claim stands at a place, there is one
abbrev pub HasAt : ℕ → Option ℕ → List Request → Type 0
HasAt a None rows = Unit {0}
HasAt a (Some place) rows = HasClaim a rows

has_stays : (a : ℕ) (at : Option ℕ) (w : World) (actor : ℕ) (call : Call) → (is_get_line_call call ≡ true → actor ≡ a → ⊥) → HasNumbers w → HasAt a at w.requests
    → HasAt a at (step w actor call).world.requests
has_stays a None w actor call other numbers h = tt
has_stays a (Some place) w actor call other numbers h = claim_stays a w actor call other numbers h

-- an actor has a claim at a place and none elsewhere, or none
abbrev pub StandsAt : ℕ → Option ℕ → List Request → Type 0
StandsAt a at rows = ClaimsAt a at rows × HasAt a at rows

-- an ask of GET_LINE

-- after an ask that was answered Go the actor has a claim at its place, and else it has none
abbrev ClaimsOnGo : ℕ → ℕ → Outcome → Type 0
ClaimsOnGo a place out = StandsAt a (cond (is_go out.reply) (Some place) None) out.world.requests

asked_unless : (a place : ℕ) (r : Option Errno) (w : World) (out : Outcome) → ClaimsAt a None w.requests → ClaimsOnGo a place out → ClaimsOnGo a place (refused_or r w out)
asked_unless a place None w out none asked = asked
asked_unless a place (Some errno) w out none asked = (none, tt)

ask_claims : (a place fd len : ℕ) (bytes : List ℕ) (w : World) → ClaimsAt a None w.requests → ClaimsOnGo a place (checked a place fd len GetLine bytes Ask w)
ask_claims a place fd len bytes w none =
    let structure : List ℕ = take (size_of GetLine) bytes in
    let asked = asked_in structure in
    let claimed : World = claim_lines place a asked w in
    asked_unless a place (command_refusal place fd len GetLine Ask w) w (get_line_ask place a structure w) none
    (asked_unless a place (request_fault structure) w (claim place a asked w) none
    (asked_unless a place (claim_refusal place a asked w) w (replies (Go w.next) claimed) none (
      passing_push (is_claim_of a) (IsAt (Some place)) w.requests (new_claim w.next place a asked) (λ is. refl)
          (none_at (Some place) (filter (is_claim_of a) w.requests) none),
      some_pushed (is_claim_of a) w.requests (new_claim w.next place a asked) (eq-eqb a a refl),
    )))

-- GET_LINE has no whole part

refused_third : (one two : Option Errno) (errno : Errno) (w : World) (out : Outcome) → (refused_or (first_of (one ∷ two ∷ Some errno ∷ [])) w out).world ≡ w
refused_third (Some e) two errno w out = refl
refused_third None (Some e) errno w out = refl
refused_third None None errno w out = refl

whole_refused : (a place fd len : ℕ) (bytes : List ℕ) (w : World) → (checked a place fd len GetLine bytes Whole w).world ≡ w
whole_refused a place fd len bytes w = refused_third (chip_file_refusal place fd w) (when (nat_lt len (size_of GetLine)) Fault) Inval w (get_line_ask place a (take (size_of GetLine) bytes) w)

-- a tell of GET_LINE

notify_requests : (place : ℕ) (offsets : List ℕ) (kind : ℕ) (w : World) → (notify_each place offsets kind w).requests ≡ w.requests
notify_requests place [] kind w = refl
notify_requests place (offset ∷ offsets) kind w = notify_requests place offsets kind (notify place offset kind w)

configure_requests : (place : ℕ) (settings : Resolved) (bits i : ℕ) (offsets : List ℕ) (w : World) → (configure_from place settings bits i offsets w).requests ≡ w.requests
configure_requests place settings bits i [] w = refl
configure_requests place settings bits i (offset ∷ offsets) w = configure_requests place settings bits (i + 1) offsets (configure place (settings_of settings i) (has_bit bits i) offset w)

hold_requests : (bits : ℕ) (request : Request) (w : World) → (hold_claim bits request w).requests ≡ change_first (has_number request.fd) held w.requests
hold_requests bits request w =
    let offsets : List ℕ = offsets_of request.lines in
    let lines_held : World = with_place request.place (with_descs offsets settled) (record w { requests = change_first (has_number request.fd) held w.requests }) in
    notify_requests request.place offsets CHANGED_REQUESTED (configure_each request.place request.lines request.settings bits lines_held)
    ∙ configure_requests request.place request.settings bits 0 offsets lines_held

told_ends : (a : ℕ) (answer : Option ℕ) (len : ℕ) (bytes : List ℕ) (c : Request) (w : World) → Differ w.requests → length (claims_of a w) ≤ 1 → find (is_claim_of a) w.requests ≡ Some c
    → ClaimsAt a None (told_claim answer len bytes (Some c) w).world.requests
told_ends a None len bytes c w differ one e = none_without (is_claim_of a) w.requests c differ one e
told_ends a (Some bits) len bytes c w differ one e = subst (λ rows. ClaimsAt a None rows) (sym (hold_requests bits c w))
    (none_changed (is_claim_of a) held (λ x. refl) w.requests c differ one e)

untold : (a : ℕ) (answer : Option ℕ) (len : ℕ) (bytes : List ℕ) (w : World) → ClaimsAt a None w.requests → ClaimsAt a None (told_claim answer len bytes None w).world.requests
untold a None len bytes w none = none
untold a (Some bits) len bytes w none = none

tell_on : (a place : ℕ) (answer : Option ℕ) (len : ℕ) (bytes : List ℕ) (w : World) → Differ w.requests → length (claims_of a w) ≤ 1 → ClaimsAt a (Some place) w.requests
    → (o : Option Request) → find (is_claim_of a) w.requests ≡ o
    → ClaimsAt a None (told_claim answer len bytes (claim_at place (option_and_then (request_at w.requests) (option_map (λ request. request.fd) o))) w).world.requests
tell_on a place answer len bytes w differ one at None e = untold a answer len bytes w (none_passes (is_claim_of a) w.requests e)
tell_on a place answer len bytes w differ one at (Some c) e =
    let here : (c.place == place) ≡ true = eq-eqb c.place place (first_passes (is_claim_of a) (IsAt (Some place)) w.requests c at e) in
    subst (λ o. ClaimsAt a None (told_claim answer len bytes (claim_at place o) w).world.requests) (sym (first_by_number (is_claim_of a) w.requests c differ e))
    (subst (λ b. ClaimsAt a None (told_claim answer len bytes (cond b (Some c) None) w).world.requests) (sym here) (told_ends a answer len bytes c w differ one e))

-- after the tell at their place the actor has no claim
tell_ends : (a place : ℕ) (answer : Option ℕ) (len : ℕ) (bytes : List ℕ) (w : World) → Differ w.requests → length (claims_of a w) ≤ 1 → ClaimsAt a (Some place) w.requests
    → ClaimsAt a None (get_line_tell place a answer len bytes w).world.requests
tell_ends a place answer len bytes w differ one at = tell_on a place answer len bytes w differ one at (find (is_claim_of a) w.requests) refl

-- where the claims are before and after one entry of the actor
pub data Moves {K : Type 0} (old : Option ℕ) (e : Entry K Call Reply Gift) (new : Option ℕ) : Type 0 where
  passes : is_get_line_call e.call ≡ false → old ≡ new → Moves old e new
  whole : (c : CommandIn) → command_of c.cmd ≡ Some GetLine → e.call ≡ in_whole c → old ≡ None → new ≡ None → Moves old e new
  asks : (c : CommandIn) → command_of c.cmd ≡ Some GetLine → e.call ≡ in_ask c → old ≡ None → new ≡ cond (is_go e.reply) (Some c.place) None → Moves old e new
  tells : (c : CommandIn) (answer : Option ℕ) → command_of c.cmd ≡ Some GetLine → e.call ≡ in_tell answer c → old ≡ Some c.place → new ≡ None → Moves old e new

-- the same over a list of its entries
abbrev pub Leads : {K : Type 0} → Option ℕ → List (Entry K Call Reply Gift) → Option ℕ → Type 0
Leads old entries new = LeadsBy Moves old entries new

-- the first of some rows, if there is one
abbrev first_row : List Request → Option Request
first_row [] = None
first_row (x ∷ rows) = Some x

module _ (a : ℕ) (w : World) where
  -- what a command GET_LINE of the actor comes to, by the call that it made
  by_command : (P : Outcome → Type 0) (call : Call) (actor place fd cmd len : ℕ) (bytes : List ℕ) (part : Part) → actor ≡ a → command_of cmd ≡ Some GetLine
      → call ≡ Ioctl place fd cmd len bytes part
      → P (by_number a place fd len (Some GetLine) bytes part w) → P (step w actor call)
  by_command P call actor place fd cmd len bytes part is command same h =
      subst (λ k. P (step w k call)) (sym is)
      (subst (λ x. P (step w a x)) (sym same)
      (subst (λ o. P (by_number a place fd len o bytes part w)) (sym command) h))

  moves_claims : {K : Type 0} (x : Entry K Call Reply Gift) (old new : Option ℕ) → HasNumbers w → OneEach w.requests → x.reply ≡ (step w x.actor x.call).reply → x.actor ≡ a → Moves old x new
      → StandsAt a old w.requests → StandsAt a new (step w x.actor x.call).world.requests
  moves_claims x old new numbers one reply is (passes other same) at =
      let now : StandsAt a new w.requests = subst (λ s. StandsAt a s w.requests) same at in (
        stays_at a new w x.actor x.call (λ get_line actor. true≢false (sym get_line ∙ other)) now.0,
        has_stays a new w x.actor x.call
            (λ get_line actor. true≢false (sym get_line ∙ other)) numbers now.1,
      )
  moves_claims x old new numbers one reply is (whole c command call before after) at =
      by_command (λ out. StandsAt a new out.world.requests) x.call x.actor c.place c.fd c.cmd c.len c.bytes Whole is command call
      (subst (λ v. StandsAt a new v.requests) (sym (whole_refused a c.place c.fd c.len c.bytes w)) (subst (λ s. StandsAt a s w.requests) (before ∙ sym after) at))
  moves_claims x old new numbers one reply is (asks c command call before after) at =
      let asked : ClaimsOnGo a c.place (step w x.actor x.call) = by_command (ClaimsOnGo a c.place) x.call x.actor c.place c.fd c.cmd c.len c.bytes Ask is command call
      (ask_claims a c.place c.fd c.len c.bytes w (subst (λ s. StandsAt a s w.requests) before at).0) in
      subst (λ s. StandsAt a s (step w x.actor x.call).world.requests) (sym after)
      (subst (λ r. StandsAt a (cond (is_go r) (Some c.place) None) (step w x.actor x.call).world.requests) (sym reply) asked)
  moves_claims x old new numbers one reply is (tells c answer command call before after) at =
      by_command (λ out. StandsAt a new out.world.requests) x.call x.actor c.place c.fd c.cmd c.len c.bytes (Tell answer) is command call
      (subst (λ s. StandsAt a s (get_line_tell c.place a answer c.len c.bytes w).world.requests) (sym after)
      (tell_ends a c.place answer c.len c.bytes w (differ_in w numbers) (one a) (subst (λ s. StandsAt a s w.requests) before at).0, tt))

  -- a tell of the actor's only claim is answered for it
  told_so : (answer : Option ℕ) (len : ℕ) (bytes : List ℕ) (c : Request) → (told_claim answer len bytes (Some c) w).reply ≡ told_reply answer c
  told_so None len bytes c = refl
  told_so (Some bits) len bytes c = refl

  pub tell_answers : (place fd cmd len : ℕ) (bytes : List ℕ) (answer : Option ℕ) (c : Request) → HasNumbers w → command_of cmd ≡ Some GetLine → claims_of a w ≡ c ∷ [] → c.place ≡ place
      → (step w a (Ioctl place fd cmd len bytes (Tell answer))).reply ≡ told_reply answer c
  tell_answers place fd cmd len bytes answer c numbers command only here =
      let first : find (is_claim_of a) w.requests ≡ Some c = only_found w.requests only in
      by_command (λ out. out.reply ≡ told_reply answer c) (Ioctl place fd cmd len bytes (Tell answer)) a place fd cmd len bytes (Tell answer) refl command refl
      (subst (λ o. (told_claim answer len bytes (claim_at place (option_and_then (request_at w.requests)
      (option_map (λ (request : Request). request.fd) o))) w).reply ≡ told_reply answer c) (sym first)
      (subst (λ o. (told_claim answer len bytes (claim_at place o) w).reply ≡ told_reply answer c) (sym (first_by_number (is_claim_of a) w.requests c (differ_in w numbers) first))
      (subst (λ b. (told_claim answer len bytes (cond b (Some c) None) w).reply ≡ told_reply answer c) (sym (eq-eqb c.place place here)) (told_so answer len bytes c))))
    where
      only_found : (rows : List Request) → filter (is_claim_of a) rows ≡ c ∷ [] → find (is_claim_of a) rows ≡ Some c
      only_found [] e = absurd (let n : 0 ≡ 1 = ap (λ (l : List Request). length l) e in omega (arith, n))
      only_found (x ∷ rows) e = elim (is_claim_of a x) as (λ b. cond b (x ∷ filter (is_claim_of a) rows) (filter (is_claim_of a) rows) ≡ c ∷ [] → cond b (Some x)
          (find (is_claim_of a) rows) ≡ Some c) [
            | true ↦ (λ h. ap (λ l. first_row l) h)
            | false ↦ (λ h. only_found rows h)
          ] e

module _ {K : Type 0} (stands_for : K → World → Type 0) where
  -- where the claims are after a history, by the actor's own entries in it
  pub leads_claims : (a : ℕ) (w : World) (xs : List (Entry K Call Reply Gift)) (old new : Option ℕ) → HoldersAgree w → OneEach w.requests → AnsweredFrom (machine stands_for) w xs
      → Leads old (entries_of a xs) new → StandsAt a old w.requests → StandsAt a new (fold_from (machine stands_for) w xs).requests
  leads_claims a w [] old new agree one h leads at = subst (λ s. StandsAt a s w.requests) leads at
  leads_claims a w (x ∷ xs) old new agree one h leads at =
      let after : World = (step w x.actor x.call).world in
      let agree_after : HoldersAgree after = holders_stay_agreed w x.actor x.call agree in
      let one_after : OneEach after.requests = keeps w x.actor x.call one in
      dite (ℕ_discrete x.actor a)
      (λ is. let own : Leads old (x ∷ entries_of a xs) new = subst (λ b. Leads old (cond b (x ∷ entries_of a xs) (entries_of a xs)) new) (eq-eqb x.actor a is) leads in
      leads_claims a after xs own.0 new agree_after one_after h.2 own.2 (moves_claims a w x old own.0 agree.numbers_differ one h.0 is own.1 at))
      (λ ne. let others : Leads old (entries_of a xs) new = subst (λ b. Leads old (cond b (x ∷ entries_of a xs) (entries_of a xs)) new) (ne_eqb x.actor a ne) leads in
      let foreign : is_get_line_call x.call ≡ true → x.actor ≡ a → ⊥ = (λ get_line is. ne is) in
      leads_claims a after xs old new agree_after one_after h.2 others (stays_at a old w x.actor x.call foreign at.0, has_stays a old w x.actor x.call foreign agree.numbers_differ at.1))
