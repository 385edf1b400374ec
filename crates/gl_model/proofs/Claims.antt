-- No call gives an actor a second unfinished claim.
use Rattle.std.proofs.Common.{◌≡◌, ◌+◌, ◌≤◌, ℕ, suc, List, [], ◌∷◌, ◌++◌, length, refl, sym, ap, ◌∙◌, Bool, true, false, cond, Option, Some, None, arith}
use Rattle.std.specs.Prelude.{◌==◌, is_some}
use Rattle.std.specs.List.{filter, find}
use Rattle.std.specs.Option.{option_map}
use Rattle.std.proofs.lemmas.Bool.{true≢false}
use Rattle.gl_base.specs.Positions.{first_fault}
use Rattle.gl_base.specs.Refusals.{first_of, when}
use Rattle.gl_base.specs.Rows.{change_first, without_first}
use Rattle.gl_base.specs.declared.errno.Errno.TheVariants.{Busy}
use Rattle.gl_ring.specs.Waiting.{with_item}
use Rattle.gl_world.specs.History.{fold_from}
use Rattle.gl_world.specs.declared.history.Entry.{Entry}
use Rattle.gl_model.specs.declared.call.Call.{Call}
use Rattle.gl_model.specs.declared.gift.Gift.{Gift}
use Rattle.gl_model.specs.declared.reply.Reply.{Reply}
use Rattle.gl_model.specs.AskedLines.{AskedLines, asked_in, request_fault}
use Rattle.gl_model.specs.Claiming.{claim_number, claim_refusal, held, is_claim_of, line_refusal, new_claim}
use Rattle.gl_model.specs.Edges.{is_monitored, with_edge}
use Rattle.gl_model.specs.Machine.{machine}
use Rattle.gl_model.specs.OneClaim.{OneClaim, claims_of}
use Rattle.gl_model.specs.OpenFiles.{number_refusal}
use Rattle.gl_model.specs.Places.{place_at}
use Rattle.gl_model.specs.Reading.{read_from}
use Rattle.gl_model.specs.Step.{step}
use Rattle.gl_model.specs.World.{World, Request, has_number, opening}
use Rattle.gl_model.proofs.Phases.{nothing_first, nothing_when, same_number}
use Rattle.gl_model.proofs.Requests.{step_keeps}

-- rows that pass

module _ (u : Request → Bool) where
  size : List Request → ℕ
  size rows = length (filter u rows)

  size_cons : (x : Request) (b : Bool) (rows other : List Request) → length (filter u other) ≤ length (filter u rows) → (u x ≡ b) → length (filter u (x ∷ other)) ≤ length (filter u (x ∷ rows))
  size_cons x b rows other h e = elim (u x) as (λ c. length (cond c (x ∷ filter u other) (filter u other)) ≤ length (cond c (x ∷ filter u rows) (filter u rows))) [ true ↦ omega arith | false ↦ h ]

  size_change : (test : Request → Bool) (f : Request → Request) (rows : List Request) → ((x : Request) → u (f x) ≡ true → u x ≡ true) → length (filter u (change_first test f rows)) ≤ length (filter u rows)
  size_change test f [] h = omega arith
  size_change test f (x ∷ rows) h = elim (test x) as (λ b. length (filter u (cond b (f x ∷ rows) (x ∷ change_first test f rows))) ≤ length (filter u (x ∷ rows))) [
    | true ↦ (elim (u (f x)) as (λ c. u (f x) ≡ c → length (cond c (f x ∷ filter u rows) (filter u rows)) ≤ length (filter u (x ∷ rows))) [
      | true ↦ (λ t. let e : length (filter u (x ∷ rows)) ≡ suc (length (filter u rows)) = ap (λ c. length (cond c (x ∷ filter u rows) (filter u rows))) (h x t) in omega arith)
      | false ↦ (λ _. elim (u x) as (λ c. length (filter u rows) ≤ length (cond c (x ∷ filter u rows) (filter u rows))) [ true ↦ omega arith | false ↦ omega arith ])
    ] refl)
    | false ↦ size_cons x (u x) rows (change_first test f rows) (size_change test f rows h) refl
  ]

  size_without : (test : Request → Bool) (rows : List Request) → length (filter u (without_first test rows)) ≤ length (filter u rows)
  size_without test [] = omega arith
  size_without test (x ∷ rows) = elim (test x) as (λ b. length (filter u (cond b rows (x ∷ without_first test rows))) ≤ length (filter u (x ∷ rows))) [
    | true ↦ (elim (u x) as (λ c. length (filter u rows) ≤ length (cond c (x ∷ filter u rows) (filter u rows))) [ true ↦ omega arith | false ↦ omega arith ])
    | false ↦ size_cons x (u x) rows (without_first test rows) (size_without test rows) refl
  ]

  size_push : (rows : List Request) (x : Request) → length (filter u (rows ++ x ∷ [])) ≤ length (filter u rows) + 1
  size_push [] x = elim (u x) as (λ c. length (cond c (x ∷ []) []) ≤ 1) [ true ↦ omega arith | false ↦ omega arith ]
  size_push (y ∷ rows) x = let ih = size_push rows x in elim (u y) as (λ c. length (cond c (y ∷ filter u (rows ++ x ∷ [])) (filter u (rows ++ x ∷ []))) ≤ length (cond c (y ∷ filter u rows) (filter u rows)) + 1) [ true ↦ omega arith | false ↦ ih ]

  size_push_other : (rows : List Request) (x : Request) → u x ≡ false → length (filter u (rows ++ x ∷ [])) ≤ length (filter u rows)
  size_push_other [] x e = let h : length (cond (u x) (x ∷ []) []) ≡ 0 = ap (λ c. length (cond c (x ∷ []) [])) e in omega arith
  size_push_other (y ∷ rows) x e = let ih = size_push_other rows x e in elim (u y) as (λ c. length (cond c (y ∷ filter u (rows ++ x ∷ [])) (filter u (rows ++ x ∷ []))) ≤ length (cond c (y ∷ filter u rows) (filter u rows))) [ true ↦ omega arith | false ↦ ih ]

  size_none : (rows : List Request) → is_some (find u rows) ≡ false → length (filter u rows) ≡ 0
  size_none [] e = refl
  size_none (x ∷ rows) e = elim (u x) as (λ c. is_some (cond c (Some x) (find u rows)) ≡ false → length (cond c (x ∷ filter u rows) (filter u rows)) ≡ 0) [
    | true ↦ (λ h. absurd (true≢false h))
    | false ↦ (λ h. size_none rows h)
  ] e

pub edge_same : (offset : ℕ) (rising : Bool) (timestamp a : ℕ) (x : Request) → is_claim_of a (with_edge offset rising timestamp x) ≡ true → is_claim_of a x ≡ true
edge_same offset rising timestamp a x h = elim (is_monitored offset rising x) as (λ b. is_claim_of a (cond b (record x { past = with_item x.capacity (record { timestamp = timestamp; rising = rising; offset = offset }) x.past }) x) ≡ true → is_claim_of a x ≡ true) [ true ↦ (λ k. k) | false ↦ (λ k. k) ] h

no_number : (o : Option Request) → is_some (option_map (λ (x : Request). x.fd) o) ≡ false → is_some o ≡ false
no_number None e = refl
no_number (Some x) e = absurd (true≢false e)

-- a claim is refused where the actor has one
claim_finds_none : (place actor : ℕ) (asked : AskedLines) (w : World) → claim_refusal place actor asked w ≡ None → length (claims_of actor w) ≡ 0
claim_finds_none place actor asked w e =
    let busy = when (is_some (claim_number w.requests actor)) Busy in
    let lines = first_fault (line_refusal (place_at w place) asked) 0 asked.lines.count in
    let one = nothing_first (number_refusal w) (first_of (busy ∷ lines ∷ [])) e in
    let two = nothing_first busy (first_of (lines ∷ [])) one.1 in
    size_none (is_claim_of actor) w.requests (no_number (find (is_claim_of actor) w.requests) (nothing_when (is_some (claim_number w.requests actor)) Busy two.0))

-- no actor has two unfinished claims among these
abbrev pub OneEach : List Request → Type 0
OneEach rows = (a : ℕ) → length (filter (is_claim_of a) rows) ≤ 1

le_trans : (a b c : ℕ) → a ≤ b → b ≤ c → a ≤ c
le_trans a b c h k = omega arith

changed : (test : Request → Bool) (f : Request → Request) (rows : List Request) → ((a : ℕ) (x : Request) → is_claim_of a (f x) ≡ true → is_claim_of a x ≡ true) → OneEach rows → OneEach (change_first test f rows)
changed test f rows h one a = le_trans (length (filter (is_claim_of a) (change_first test f rows))) (length (filter (is_claim_of a) rows)) 1 (size_change (is_claim_of a) test f rows (h a)) (one a)

dropped : (test : Request → Bool) (rows : List Request) → OneEach rows → OneEach (without_first test rows)
dropped test rows one a = le_trans (length (filter (is_claim_of a) (without_first test rows))) (length (filter (is_claim_of a) rows)) 1 (size_without (is_claim_of a) test rows) (one a)

claimed : (place actor : ℕ) (bytes : List ℕ) (w : World) → request_fault bytes ≡ None → claim_refusal place actor (asked_in bytes) w ≡ None → OneEach w.requests → OneEach (w.requests ++ new_claim w.next place actor (asked_in bytes) ∷ [])
claimed place actor bytes w f e one a =
    let claim : Request = new_claim w.next place actor (asked_in bytes) in
    elim (actor == a) as (λ b. (actor == a) ≡ b → length (filter (is_claim_of a) (w.requests ++ claim ∷ [])) ≤ 1) [
      | true ↦ (λ t.
          let none : length (claims_of a w) ≡ 0 = ap (λ k. length (claims_of k w)) (sym (same_number actor a t)) ∙ claim_finds_none place actor (asked_in bytes) w e in
          let push : length (filter (is_claim_of a) (w.requests ++ claim ∷ [])) ≤ length (claims_of a w) + 1 = size_push (is_claim_of a) w.requests claim in
          omega arith)
      | false ↦ (λ ne. le_trans (length (filter (is_claim_of a) (w.requests ++ claim ∷ []))) (length (claims_of a w)) 1 (size_push_other (is_claim_of a) w.requests claim ne) (one a))
    ] refl

pub keeps : (w : World) (actor : ℕ) (call : Call) → OneEach w.requests → OneEach (step w actor call).world.requests
keeps w actor call = step_keeps OneEach
    (λ fd offset rising timestamp rows. changed (has_number fd) (with_edge offset rising timestamp) rows (λ a x. edge_same offset rising timestamp a x))
    (λ fd settings rows. changed (has_number fd) (λ request. record request { settings = settings request.settings }) rows (λ a x h. h))
    (λ fd rows. changed (has_number fd) held rows (λ a x h. absurd (true≢false (sym h))))
    (λ fd max rows. changed (has_number fd) (read_from max) rows (λ a x h. h))
    (λ fd rows. dropped (has_number fd) rows)
    claimed w actor call

module _ {K : Type 0} (stands_for : K → World → Type 0) where
  all_keep : (w : World) (history : List (Entry K Call Reply Gift)) → OneEach w.requests → OneEach (fold_from (machine stands_for) w history).requests
  all_keep w [] one = one
  all_keep w (e ∷ history) one = all_keep (step w e.actor e.call).world history (keeps w e.actor e.call one)

  pub one_claim : OneClaim stands_for
  one_claim history legal actor = all_keep opening history (λ a. omega arith) actor
