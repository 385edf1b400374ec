-- One turn of an actor that goes on: what is left to it stays what it was.
use Rattle.std.proofs.Common.{◌≡◌, ℕ, Bool, List, ◌++◌, map, drop, Option, Some, None, sym, ap, ◌∙◌}
use Rattle.gl_base.specs.Words.{Span}
use Rattle.gl_base.specs.declared.operation.Do.{Do}
use Rattle.gl_base.specs.declared.operation.Got.{Got}
use Rattle.gl_client.specs.Program.{Goes, Left, Program, done, given, goes_on, then_left}
use Rattle.gl_client.specs.declared.next.Next.TheVariants.{Call, Print}
use Rattle.gl_talk.specs.Open.{Names}
use Rattle.gl_talk.specs.Talk.{Does, left, names_in}
use Rattle.gl_talk.specs.declared.talk.Talk.{Talk}
use Rattle.gl_asking.specs.Asking.{asking}
use Rattle.gl_asking.specs.Rows.{row_file}
use Rattle.gl_asking.specs.declared.kinds.FileRow.{FileRow}
use Rattle.gl_check.specs.Seating.{bearing_by, comes_behind, goes_as, left_by}
use Rattle.gl_check.specs.Seats.{Bearing, Seat, goes_by, seat, settles}
use Rattle.gl_check.specs.declared.port.Planned.{Planned}
use Rattle.gl_check.specs.declared.stand.Stand.TheVariants.{Ended}
use Rattle.gl_check.specs.declared.started.Started.{Started}
use Rattle.gl_check.proofs.Settling.{rests_left, settles_call, settles_print}

module _ (quit : Bool) (statements : List (List Span)) (talk next : Talk) (closes : Bool) (got : Option Got) (rows : List FileRow) (port : Planned) (text : List ℕ) (counted : next.begun ≡ talk.begun) where
  abbrev behind : Names → Does
  behind = comes_behind closes quit talk.begun (drop talk.begun statements)

  later_left : left_by quit statements next closes ≡ then_left (left next) behind
  later_left = ap (λ n. then_left (left next) (comes_behind closes quit n (drop n statements))) counted

  -- an operation is asked for
  pub asks_on : (what : Do) (asked : Started) (more : List FileRow) (then : Planned)
      → ((f : Names → Does) → Goes (given (then_left (left talk) f) got) (Call what) (then_left (left next) f))
      → ((l : Left Names) (t : List ℕ) (on : Got → Bearing → Seat)
      → goes_by (asking (map row_file rows) what) what l (bearing_by rows port) t on ≡ goes_as asked what l (bearing_by more then) t on)
      → goes_as asked what (left_by quit statements next closes) (bearing_by more then) text (λ value later. settles (given (left_by quit statements next closes) (Some value)) later text)
      ≡ settles (given (left_by quit statements talk closes) got) (bearing_by rows port) text
  asks_on what asked more then goes by =
      ap (λ (l : Left Names). goes_as asked what l (bearing_by more then) text (λ value later. settles (given l (Some value)) later text)) later_left
      ∙ sym (by (then_left (left next) behind) text (λ value later. settles (given (then_left (left next) behind) (Some value)) later text))
      ∙ settles_call (given (then_left (left talk) behind) got) what (then_left (left next) behind) (bearing_by rows port) text (goes behind)

  -- a text is printed
  pub prints_on : (piece more : List ℕ) → more ≡ text ++ piece
      → ((f : Names → Does) → Goes (given (then_left (left talk) f) got) (Print piece) (then_left (left next) f))
      → settles (given (left_by quit statements next closes) None) (bearing_by rows port) more ≡ settles (given (left_by quit statements talk closes) got) (bearing_by rows port) text
  prints_on piece more is goes =
      ap (λ (x : Left Names × List ℕ). settles (given x.0 None) (bearing_by rows port) x.1) (λ i. (later_left i, is i))
      ∙ settles_print (given (then_left (left talk) behind) got) piece (then_left (left next) behind) (bearing_by rows port) text (goes behind)

  -- nothing is left of a statement
  module _ (then : Talk) (then_closes : Bool) (asked : Option Got) (same_got : asked ≡ got) (goes : (f : Names → Does) → given (then_left (left talk) f) asked ≡ f (names_in next)) where
    abbrev later : Program Names
    later = comes_behind closes quit next.begun (drop next.begun statements) (names_in next)

    comes : later ≡ given (left_by quit statements talk closes) got
    comes = ap (λ n. comes_behind closes quit n (drop n statements) (names_in next)) counted ∙ sym (goes behind) ∙ ap (λ (g : Option Got). given (then_left (left talk) behind) g) same_got

    -- what comes behind it is begun
    pub goes_behind : left_by quit statements then then_closes ≡ goes_on later
        → settles (given (left_by quit statements then then_closes) None) (bearing_by rows port) text ≡ settles (given (left_by quit statements talk closes) got) (bearing_by rows port) text
    goes_behind more = ap (λ (p : Program Names). settles p (bearing_by rows port) text) (ap (λ (l : Left Names). given l None) more ∙ comes)

    -- nothing comes behind it
    pub ends_on : then ≡ next → then_closes ≡ closes → left next ≡ goes_on (done (names_in next)) → later ≡ done (names_in next)
        → seat Ended (left_by quit statements then then_closes) (bearing_by rows port) text ≡ settles (given (left_by quit statements talk closes) got) (bearing_by rows port) text
    ends_on same unchanged rests none =
        ap (λ (x : Talk × Bool). seat Ended (left_by quit statements x.0 x.1) (bearing_by rows port) text) (λ i. (same i, unchanged i))
        ∙ ap (λ (l : Left Names). seat Ended l (bearing_by rows port) text) (rests_left quit statements next closes (names_in next) rests ∙ ap goes_on none)
        ∙ ap (λ (p : Program Names). settles p (bearing_by rows port) text) (sym none ∙ comes)
