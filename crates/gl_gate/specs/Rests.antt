-- A seat between two calls.
use Rattle.std.specs.Prelude.{◌≡◌, ℕ, ◌≤◌, [], None, false}
use Rattle.gl_world.specs.declared.machine.Machine.{Ghosts}
use Rattle.gl_world.specs.History.{Legal, begun_in, ended_in, entries_of}
use Rattle.gl_rule.specs.Turn.{Seated, NoStrangers, owes}

module _ {M C R G : Type 0} where
  -- it has no slot, no ticket and no turn, knocks nowhere, and was not joined into another
  pub record AtRest (a : Seated M C R G) : Type 0 where
    pub no_slot : a.1 ≡ []
    pub no_ticket : a.0.ticket ≡ None
    pub no_turn : a.0.turn ≡ false
    pub no_knock : a.0.knocking ≡ []
    pub live : a.0.spent ≡ false

module _ {M C R G : Type 0} (m : Ghosts M C R G) where
  -- what every pass keeps: it rests, has its own entries in what it has seen, which is legal and has no entry of a stranger, and owes two entries at most
  pub record Keeps (a : Seated M C R G) (number made : ℕ) : Type 0 where
    pub rests : AtRest a
    pub number_is : a.0.number ≡ number
    pub made_is : a.0.made ≡ made
    pub few_made : made ≤ 256
    pub own : entries_of a.0.number a.0.seen ≡ a.0.mine
    pub legal : Legal m a.0.seen
    pub strangers : NoStrangers a.0 a.0.seen
    pub few_owed : owes m a.0 ≤ 2
    -- it never ended what it hadn't begun
    pub paid : ended_in m a.0.mine ≤ begun_in m a.0.mine
