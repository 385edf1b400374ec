-- What the steps of a turn tell, put together.
use Rattle.std.proofs.Common.{◌≡◌, ◌≢◌, ℕ, ◌%◌, List, [], ◌∷◌, ◌++◌, length, drop, sym, refl, ap, ◌∙◌, subst, arith}
use Rattle.std.specs.Vec.{vec_capacity}
use Rattle.atomic_table.specs.Table.{Step, rest}
use Rattle.gl_world.specs.declared.machine.Machine.{Ghosts}
use Rattle.gl_world.specs.declared.history.Entry.{Entry}
use Rattle.gl_world.specs.History.{fold, entry}
use Rattle.gl_world.proofs.Histories.{fold_snoc}
use Rattle.gl_rule.specs.declared.held.Held.{Held}
use Rattle.gl_rule.specs.declared.view.View.{View}
use Rattle.gl_rule.specs.Sums.{number_or_zero}
use Rattle.gl_rule.specs.Turn.{Seated, InSlot}
use Rattle.gl_rule.specs.Plays.{Finds, TicketTaken, TurnSought}
use Rattle.gl_rule.specs.Views.{with_ticket, with_turn}
use Rattle.gl_gate.specs.Rests.{AtRest}
use Rattle.gl_gate.specs.Turns.{Drew, FoundTurn, HasTurn, Made, Reached}

abbrev pub slot_or : {S : Type 0} → S → List (ℕ × S) → S
slot_or d [] = d
slot_or d (x ∷ xs) = x.1

-- the one slot that it has, and no other
pub with_rest : {S : Type 0} (l : List (ℕ × S)) (h : S) → l ≡ (0, h) ∷ [] → l ≡ (0, h) ∷ rest l
with_rest l h e = e ∙ ap (λ k. (0, h) ∷ k) (sym (ap rest e))

module _ {M C R G : Type 0} where
  pub drew : (st : Step (Held M C R G)) (a b : Seated M C R G) (found : ℕ) → AtRest a → TicketTaken st a found b → Drew a found b
  drew st a b found rests told = let t = told.0 in subst (λ x. Drew a found x) (sym told.2) record {
    view = refl;
    ticket = told.1;
    waits = record { no_slot = rests.no_slot; ticket = refl; no_turn = rests.no_turn; live = rests.live };
  }

module _ {M C R G : Type 0} (m : Ghosts M C R G) where
  -- it looked, and found its turn
  pub found_turn : (st : Step (Held M C R G)) (a b c : Seated M C R G) (found ticket : ℕ) → b ≡ a → ticket ≡ number_or_zero a.0.ticket % 18446744073709551616 → found ≡ ticket → TurnSought m st b found c → FoundTurn m a c
  found_turn st a b c found ticket same is it told = let told' : TurnSought m st a found c = subst (λ x. TurnSought m st x found c) same told in told'.0 (it ∙ is)

  -- it looked, and has to wait on
  pub waits_on : (st : Step (Held M C R G)) (a b c : Seated M C R G) (found ticket : ℕ) → b ≡ a → ticket ≡ number_or_zero a.0.ticket % 18446744073709551616 → found ≢ ticket → TurnSought m st b found c → c ≡ a
  waits_on st a b c found ticket same is not_it told = let told' : TurnSought m st a found c = subst (λ x. TurnSought m st x found c) same told in told'.1 (λ e. not_it (e ∙ sym is))

  -- what lies in the slot of the pass that has the turn
  slot_is : (a : Seated M C R G) (h : Held M C R G) → (t : HasTurn m a) → a.1 ≡ (0, h) ∷ rest a.1 → InSlot m a.0.seen a.0.room h
  slot_is a h t value = let same : t.held ≡ h = ap (slot_or h) (sym t.slot ∙ value) in subst (λ k. InSlot m a.0.seen a.0.room k) same t.in_slot

  -- a call on what lies in the slot is the machine's in the world of what was seen
  pub made : (a : Seated M C R G) (h k : Held M C R G) (actor : ℕ) (call : C) (reply : R) (old new : List ℕ) → HasTurn m a → a.1 ≡ (0, h) ∷ rest a.1
      → ((w : m.World) → m.stands_for h.machine w → m.stands_for k.machine (m.world_after w actor call))
      → ((w : m.World) → m.stands_for h.machine w → reply ≡ m.reply_of w actor call)
      → ((w : m.World) → m.stands_for h.machine w → new ≡ m.bytes_of w actor call ++ drop (length (m.bytes_of w actor call)) old)
      → k.history.items ≡ h.history.items ++ entry actor call reply ∷ [] → k.room ≡ h.room → vec_capacity k.history ≡ vec_capacity h.history
      → Made m a actor call reply old new (a.0, (0, k) ∷ rest a.1)
  made a h k actor call reply old new t value world replies bytes history room space = let s = slot_is a h t value in let w : m.World = fold m a.0.seen in let e : Entry M C R G = entry actor call reply in record {
    held = k;
    seat = ap (λ l. (a.0, (0, k) ∷ l)) (ap rest t.slot);
    in_slot = record {
      stands = subst (λ x. m.stands_for k.machine x) (sym (fold_snoc m m.opening a.0.seen e)) (world w s.stands);
      kept = history ∙ ap (λ l. l ++ e ∷ []) s.kept;
      asked = room ∙ s.asked;
      space = let d = s.space in omega arith;
    };
    answer = replies w s.stands;
    bytes = bytes w s.stands;
  }

  -- who drew a ticket and found its turn
  pub reached : (a b d : Seated M C R G) (found : ℕ) → AtRest a → Drew a found b → FoundTurn m b d → Reached m a d
  reached a b d found rests drawn turn = let log : List (Entry M C R G) = turn.0 in let h : Held M C R G = turn.1 in let v : View M C R G = with_ticket a.0 (number_or_zero b.0.ticket) in
      let finds : Finds m v log h = subst (λ (x : View M C R G). Finds m x log h) drawn.view turn.3 in
      let is : d ≡ (with_turn v log, (0, h) ∷ []) = turn.2 ∙ (λ i. (with_turn (drawn.view i) log, (0, h) ∷ [])) in
      subst (λ x. Reached m a x) (sym is) record {
        turn = record { held = h; slot = refl; turn = refl; live = rests.live; in_slot = finds.in_slot; room_left = finds.room_left };
        seen = finds.begins;
        mine = refl;
        passed = refl;
        same = record { number = refl; room = refl; joined = refl; made = refl; inside = refl; closed = refl; drained = refl };
        no_knock = refl;
        legal = finds.legal;
        own = finds.own;
        strangers = finds.strangers;
        closed = finds.closed;
        named = finds.inside;
      }

  pub same_seat : (a b d : Seated M C R G) → Reached m a b → d ≡ b → Reached m a d
  same_seat a b d at is = subst (λ x. Reached m a x) (sym is) at
