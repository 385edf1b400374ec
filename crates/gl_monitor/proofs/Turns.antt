-- One item of a read, and one turn of a step.
use Rattle.std.proofs.Common.{◌≡◌, ◌<◌, ◌≤◌, ◌+◌, ◌-◌, ◌*◌, ℕ, suc, List, [], ◌∷◌, ◌++◌, length, get_or, drop, ap, arith}
use Rattle.gl_uapi.specs.Fields.{stretch}
use Rattle.gl_uapi.specs.LineEvent.{event_in}
use Rattle.std.proofs.lemmas.List.{drop_more, drop_all}
use Rattle.gl_base.specs.declared.operation.Do.TheVariants.{Poll}
use Rattle.gl_base.specs.Operation.{refusal, ready_of}
use Rattle.gl_client.specs.Program.{ask}
use Rattle.gl_lines.specs.declared.found_line.FoundLine.{FoundLine}
use Rattle.gl_monitor.specs.Monitor.{Watching, steps, polled}
use Rattle.gl_monitor.specs.Items.{event_item, change_at, events_from, changes_from, to_items}

event_step : (bytes : List ℕ) (i n m : ℕ) → n ≡ suc m → events_from bytes i n ≡ event_item (event_in (stretch (48 * i) 48 bytes)) ∷ events_from bytes (i + 1) m
event_step bytes i n m e = ap (events_from bytes i) e

pub next_event : (bytes : List ℕ) (i n : ℕ) → i < n
    → events_from bytes i (n - i) ≡ event_item (event_in (stretch (48 * i) 48 bytes)) ∷ events_from bytes (i + 1) (n - (i + 1))
next_event bytes i n h = event_step bytes i (n - i) (n - (i + 1)) (omega arith)

change_step : (edges : ℕ) (bytes : List ℕ) (i n m : ℕ) → n ≡ suc m → changes_from edges bytes i n ≡ to_items (change_at edges bytes i) ++ changes_from edges bytes (i + 1) m
change_step edges bytes i n m e = ap (changes_from edges bytes i) e

pub next_change : (edges : ℕ) (bytes : List ℕ) (i n : ℕ) → i < n
    → changes_from edges bytes i (n - i) ≡ to_items (change_at edges bytes i) ++ changes_from edges bytes (i + 1) (n - (i + 1))
next_change edges bytes i n h = change_step edges bytes i (n - i) (n - (i + 1)) (omega arith)

pub ruleset turns = (next_event, next_change)

turn_step : (w : Watching) (n m : ℕ) → n ≡ suc m → steps w n ≡ ask (Poll w.slot) (λ got. polled w (steps w m) (refusal got) (ready_of got))
turn_step w n m e = ap (steps w) e

pub one_turn : (w : Watching) (n : ℕ) → 0 < n → steps w n ≡ ask (Poll w.slot) (λ got. polled w (steps w (n - 1)) (refusal got) (ready_of got))
one_turn w n h = turn_step w n (n - 1) (omega arith)

pub one_line : (lines : List FoundLine) (i : ℕ) (d : FoundLine) → i < length lines → drop i lines ≡ get_or lines i d ∷ drop (i + 1) lines
one_line lines i d h = drop_more lines i d h

pub no_line : (lines : List FoundLine) (i : ℕ) → length lines ≤ i → drop i lines ≡ []
no_line lines i h = drop_all i lines h

pub ruleset lines = (one_line, no_line)
