-- Talks that are carried out turn by turn: turns one after another, and one program after another.
use Rattle.std.proofs.Common.{◌≡◌, ◌<◌, ◌+◌, ℕ, true, false, List, [], ◌∷◌, ◌++◌, length, map, drop, get_or, None, Some, refl, sym, ◌∙◌, ap, subst}
use Rattle.std.proofs.lemmas.List.{append_assoc, append-nil, drop_more}
use Rattle.gl_base.specs.declared.operation.Do.{Do}
use Rattle.gl_base.specs.declared.operation.Got.{Got}
use Rattle.gl_gate.specs.Grown.{Grew}
use Rattle.gl_gate.proofs.Grown.{grows_on}
use Rattle.gl_client.specs.Program.{Goes, Left, Program, done, given, goes_on, ask, then_by, waits}
use Rattle.gl_client.specs.declared.next.Next.TheVariants.{Call, Print}
use Rattle.gl_core.specs.Device.{OneDeed, core}
use Rattle.gl_chip.specs.Values.{OneView}
use Rattle.gl_script.specs.declared.section.Statement.{Statement}
use Rattle.gl_talk.specs.Open.{Names}
use Rattle.gl_talk.specs.Over.{columns_in}
use Rattle.gl_talk.specs.Talk.{does, says, slot_behind}
use Rattle.gl_asking.specs.Asking.{got_of}
use Rattle.gl_session.specs.Performed.{HasPerformed, MetFull, PlaysOn, StoppedFull}
use Rattle.gl_session.proofs.Performing.{unmoved}
use Rattle.gl_session.proofs.Seen.{no_shorter, seen_append, seen_more}
use Rattle.gl_check.specs.Drivers.{DriverKind}
use Rattle.gl_check.specs.Turns.{AreSeen, Carried, Did, Follows, Said, Takes, Turn, carried, did_by, said_by}

-- what goes on is not at its end
pub goes_not_end : true ≡ false → ⊥
goes_not_end ends = cc

pub said_append : (first later : List Turn) → said_by (first ++ later) ≡ said_by first ++ said_by later
said_append [] later = refl
said_append (Said text ∷ first) later = ap (λ rest. text ++ rest) (said_append first later) ∙ sym (append_assoc text (said_by first) (said_by later))
said_append (Did e ∷ first) later = said_append first later

pub did_append : (first later : List Turn) → did_by (first ++ later) ≡ did_by first ++ did_by later
did_append [] later = refl
did_append (Said text ∷ first) later = did_append first later
did_append (Did e ∷ first) later = ap (λ rest. e.did ++ rest) (did_append first later) ∙ sym (append_assoc e.did (did_by first) (did_by later))

module _ {A : Type 0} (driver : DriverKind) (actor : ℕ) where
  -- turns, and then further ones
  pub follows_on : (p : Program A) (s : Carried) (first : List Turn) (q : Program A) (r : Carried) (later : List Turn) (x : Program A) (y : Carried)
      → Follows driver actor p s first q r → Follows driver actor q r later x y → Follows driver actor p s (first ++ later) x y
  follows_on p s [] q r later x y (same, at) then =
      subst (λ (c : Carried). Follows driver actor p c later x y) (sym at) (subst (λ (o : Program A). Follows driver actor o r later x y) (sym same) then)
  follows_on p s (turn ∷ first) q r later x y (next, at, takes, follows) then = (next, at, takes, follows_on next at first q r later x y follows then)

  pub follows_one : (p : Program A) (s : Carried) (turn : Turn) (q : Program A) (r : Carried) → Takes driver actor p s turn q r → Follows driver actor p s (turn ∷ []) q r
  follows_one p s turn q r takes = (q, r, takes, (refl, refl))

module _ {A B : Type 0} (driver : DriverKind) (actor : ℕ) (f : A → Program B) where
  takes_then : (p : Program A) (s : Carried) (turn : Turn) (q : Program A) (r : Carried) → Takes driver actor p s turn q r → Takes driver actor (then_by p f) s turn (then_by q f) r
  takes_then p s (Said text) q r (is, at) = (ap (λ o. then_by o f) is, at)
  takes_then p s (Did e) q r (rest, is, goes, carries) = ((λ got. then_by (rest got) f), ap (λ o. then_by o f) is, ap (λ o. then_by o f) goes, carries)

  -- a program in front of another
  pub follows_then : (p : Program A) (s : Carried) (turns : List Turn) (q : Program A) (r : Carried) → Follows driver actor p s turns q r → Follows driver actor (then_by p f) s turns (then_by q f) r
  follows_then p s [] q r (same, at) = (ap (λ o. then_by o f) same, at)
  follows_then p s (turn ∷ turns) q r (next, at, takes, follows) = (then_by next f, at, takes_then p s turn next at takes, follows_then next at turns q r follows)

module _ {A : Type 0} (driver : DriverKind) where
  pub number_same : (p : Program A) (s : Carried) (turns : List Turn) (q : Program A) (r : Carried) (n m : ℕ) → m ≡ n → Follows driver m p s turns q r → Follows driver n p s turns q r
  number_same p s turns q r n m e follows = subst (λ (k : ℕ). Follows driver k p s turns q r) e follows

  -- a program was carried out so far, and then further
  pub plays_on : (p : Program A) (v : OneView) (s : Carried) (t0 : List ℕ) (q : Program A) (w : OneView) (r : Carried) (t1 : List ℕ) (x : Program A) (u : OneView) (y : Carried) (t2 : List ℕ)
      → PlaysOn driver p v s t0 q w r t1 → PlaysOn driver q w r t1 x u y t2 → PlaysOn driver p v s t0 x u y t2
  plays_on p v s t0 q w r t1 x u y t2 first later = record {
    turns = first.turns ++ later.turns;
    follows = follows_on driver v.number p s first.turns q r later.turns x y first.follows (number_same q r later.turns x y v.number w.number first.grew.number later.follows);
    text_is = later.text_is ∙ ap (λ text. text ++ said_by later.turns) first.text_is ∙ append_assoc t0 (said_by first.turns) (said_by later.turns) ∙ ap (λ text. t0 ++ text) (sym (said_append first.turns later.turns));
    seen = seen_append v.room (length u.seen) first.turns later.turns (seen_more v.room (length w.seen) (length u.seen) first.turns (no_shorter u.seen w.seen later.grew.seen) first.seen)
        (subst (λ (room : ℕ). AreSeen room (length u.seen) later.turns) first.grew.room later.seen);
    grew = subst (λ (did : List OneDeed). Grew core v did u) (sym (did_append first.turns later.turns)) (grows_on core v w u (did_by first.turns) (did_by later.turns) first.grew later.grew);
  }

  -- nothing yet
  pub plays_nothing : (p : Program A) (v : OneView) (s : Carried) (text : List ℕ) → PlaysOn driver p v s text p v s text
  plays_nothing p v s text = record { turns = []; follows = (refl, refl); text_is = sym (append-nil text); seen = tt; grew = unmoved v }

  -- and then until the history was full
  pub stops_on : (p : Program A) (v : OneView) (s : Carried) (t0 : List ℕ) (q : Program A) (w : OneView) (r : Carried) (t1 : List ℕ) (u : OneView)
      → PlaysOn driver p v s t0 q w r t1 → StoppedFull driver q w r u → StoppedFull driver p v s u
  stops_on p v s t0 q w r t1 u first stopped = record {
    turns = first.turns ++ stopped.turns;
    what = stopped.what;
    rest = stopped.rest;
    then = stopped.then;
    view = stopped.view;
    follows = follows_on driver v.number p s first.turns q r stopped.turns (ask stopped.what stopped.rest) stopped.then first.follows
        (number_same q r stopped.turns (ask stopped.what stopped.rest) stopped.then v.number w.number first.grew.number stopped.follows);
    grew = subst (λ (did : List OneDeed). Grew core v did stopped.view) (sym (did_append first.turns stopped.turns))
        (grows_on core v w stopped.view (did_by first.turns) (did_by stopped.turns) first.grew stopped.grew);
    full = stopped.full;
  }

module _ {A B : Type 0} (driver : DriverKind) (f : A → Program B) where
  -- with another program after it
  pub plays_then : (p : Program A) (v : OneView) (s : Carried) (t0 : List ℕ) (q : Program A) (w : OneView) (r : Carried) (t1 : List ℕ)
      → PlaysOn driver p v s t0 q w r t1 → PlaysOn driver (then_by p f) v s t0 (then_by q f) w r t1
  plays_then p v s t0 q w r t1 played = record {
    turns = played.turns;
    follows = follows_then driver v.number f p s played.turns q r played.follows;
    text_is = played.text_is;
    seen = played.seen;
    grew = played.grew;
  }

  pub stops_then : (p : Program A) (v : OneView) (s : Carried) (w : OneView) → StoppedFull driver p v s w → StoppedFull driver (then_by p f) v s w
  stops_then p v s w stopped = record {
    turns = stopped.turns;
    what = stopped.what;
    rest = λ got. then_by (stopped.rest got) f;
    then = stopped.then;
    view = stopped.view;
    follows = follows_then driver v.number f p s stopped.turns (ask stopped.what stopped.rest) stopped.then stopped.follows;
    grew = stopped.grew;
    full = stopped.full;
  }

-- The same of views, files, ports and texts that are the same.
module _ {A : Type 0} (driver : DriverKind) (p q : Program A) where
  pub plays_as : (v : OneView) (s : Carried) (t0 : List ℕ) (w : OneView) (r : Carried) (t1 : List ℕ) (v' : OneView) (s' : Carried) (t0' : List ℕ) (w' : OneView) (r' : Carried) (t1' : List ℕ)
      → v ≡ v' → s.files ≡ s'.files → s.told ≡ s'.told → s.maps ≡ s'.maps → t0 ≡ t0' → w' ≡ w → r.files ≡ r'.files → r'.told ≡ r.told → r'.maps ≡ r.maps → t1' ≡ t1
      → PlaysOn driver p v s t0 q w r t1 → PlaysOn driver p v' s' t0' q w' r' t1'
  plays_as v s t0 w r t1 v' s' t0' w' r' t1' view files told maps text view_then files_then told_then maps_then text_then played =
      subst (λ (x : OneView × Carried × List ℕ × OneView × Carried × List ℕ). PlaysOn driver p x.0 x.1 x.2 q x.3 x.4 x.5)
      (λ i. (view i, carried (files i) (told i) (maps i), text i, sym view_then i, carried (files_then i) (sym told_then i) (sym maps_then i), sym text_then i)) played

  -- the text was taken after it
  pub text_taken : (v : OneView) (s : Carried) (t0 : List ℕ) (w : OneView) (r : Carried) (t1 : List ℕ) (w' : OneView) (r' : Carried) (t1' : List ℕ) → t0 ≡ [] → w' ≡ w → r' ≡ r → t1' ≡ t1
      → PlaysOn driver p v s t0 q w r t1 → PlaysOn driver p v s [] q w' r' t1'
  text_taken v s t0 w r t1 w' r' t1' empty view same text played =
      subst (λ (x : List ℕ × OneView × Carried × List ℕ). PlaysOn driver p v s x.0 q x.1 x.2 x.3) (λ i. (empty i, sym view i, sym same i, sym text i)) played

module _ {A : Type 0} (driver : DriverKind) (p : Program A) where
  pub stops_as : (v : OneView) (s : Carried) (w : OneView) (v' : OneView) (s' : Carried) → v ≡ v' → s.files ≡ s'.files → s.told ≡ s'.told → s.maps ≡ s'.maps → StoppedFull driver p v s w → StoppedFull driver p v' s' w
  stops_as v s w v' s' view files told maps stopped =
      subst (λ (x : OneView × Carried). StoppedFull driver p x.0 x.1 w) (λ i. (view i, carried (files i) (told i) (maps i))) stopped

-- one turn of a client: what it does next, and what is left to it
module _ {A : Type 0} (driver : DriverKind) (p : Program A) (v : OneView) (s : Carried) (text : List ℕ) where
  said_turn : (piece : List ℕ) (left : Left A) → Goes p (Print piece) left → PlaysOn driver p v s text (given left None) v s (text ++ piece)
  said_turn piece (goes_on q) goes = record { turns = Said piece ∷ []; follows = follows_one driver v.number p s (Said piece) q s (goes, refl); text_is = ap (λ t. text ++ t) (sym (append-nil piece)); seen = tt; grew = unmoved v }
  said_turn piece (waits rest) goes = absurd goes

  pub printed_turn : (piece text_then : List ℕ) (left : Left A) (w : OneView) (r : Carried) → Goes p (Print piece) left → w ≡ v → r ≡ s → text_then ≡ text ++ piece → PlaysOn driver p v s text (given left None) w r text_then
  printed_turn piece text_then left w r goes same kept is =
      subst (λ (x : OneView × Carried × List ℕ). PlaysOn driver p v s text (given left None) x.0 x.1 x.2) (λ i. (sym same i, sym kept i, sym is i)) (said_turn piece left goes)

  pub did_turn : (what : Do) (text_then : List ℕ) (left : Left A) (got : Got) (w : OneView) (r : Carried) → Goes p (Call what) left → text_then ≡ text → HasPerformed driver what v s got w r
      → PlaysOn driver p v s text (given left (Some got)) w r text_then
  did_turn what text_then (goes_on q) got w r goes stays performed = absurd goes
  did_turn what text_then (waits rest) got w r goes stays performed = record {
    turns = Did performed.exchange ∷ [];
    follows = follows_one driver v.number p s (Did performed.exchange) (rest got) r
        (rest, subst (λ (d : Do). p ≡ ask d rest) (sym performed.what_is) goes, ap rest (subst (λ (d : Do). got ≡ got_of d performed.exchange.reply performed.exchange.wrote) (sym performed.what_is) performed.got_is), performed.carries);
    text_is = stays ∙ sym (append-nil text);
    seen = (performed.seen, tt);
    grew = subst (λ (did : List OneDeed). Grew core v did w) (sym (append-nil performed.exchange.did)) performed.grew;
  }

  pub full_turn : (what : Do) (left : Left A) (w : OneView) → Goes p (Call what) left → MetFull what v s w → StoppedFull driver p v s w
  full_turn what (goes_on q) w goes full = absurd goes
  full_turn what (waits rest) w goes full = record { turns = []; what = what; rest = rest; then = s; view = v; follows = (goes, refl); grew = unmoved v; full = full }

-- The statements from one on: the one that is under way, and then those after it.
module _ (driver : DriverKind) (v : OneView) (s : Carried) (begun : ℕ) (statements : List Statement) (i : ℕ) (d : Statement) (names : Names) (p : Program Names) where
  abbrev behind_it : Names → Program Names
  behind_it = says (begun + 1) (map columns_in (drop (i + 1) statements)) (λ given_names. done given_names)

  from_it : i < length statements → p ≡ does names (slot_behind begun) (columns_in (get_or statements i d))
      → then_by p behind_it ≡ says begun (map columns_in (drop i statements)) (λ given_names. done given_names) names
  from_it lt is =
      ap (λ o. then_by o behind_it) is
      ∙ ap (λ (rest : List Statement). says begun (map columns_in rest) (λ given_names. done given_names) names) (sym (drop_more statements i d lt))

  pub statement_step : (t0 : List ℕ) (w : OneView) (r : Carried) (t1 : List ℕ) (begun_then : ℕ) (names_then : Names) → i < length statements → p ≡ does names (slot_behind begun) (columns_in (get_or statements i d)) → begun_then ≡ begun + 1
      → PlaysOn driver p v s t0 (done names_then) w r t1
      → PlaysOn driver (says begun (map columns_in (drop i statements)) (λ given_names. done given_names) names) v s t0
      (says begun_then (map columns_in (drop (i + 1) statements)) (λ given_names. done given_names) names_then) w r t1
  statement_step t0 w r t1 begun_then names_then lt is counted played =
      subst (λ o. PlaysOn driver o v s t0 (says begun_then (map columns_in (drop (i + 1) statements)) (λ given_names. done given_names) names_then) w r t1) (from_it lt is)
      (subst (λ (n : ℕ). PlaysOn driver (then_by p behind_it) v s t0 (says n (map columns_in (drop (i + 1) statements)) (λ given_names. done given_names) names_then) w r t1) (sym counted)
      (plays_then driver behind_it p v s t0 (done names_then) w r t1 played))

  pub statement_stops : (w : OneView) → i < length statements → p ≡ does names (slot_behind begun) (columns_in (get_or statements i d)) → StoppedFull driver p v s w
      → StoppedFull driver (says begun (map columns_in (drop i statements)) (λ given_names. done given_names) names) v s w
  statement_stops w lt is stopped =
      subst (λ o. StoppedFull driver o v s w) (from_it lt is) (stops_then driver behind_it p v s w stopped)
