-- The house: place 0, its phase and who removes it.
use Rattle.std.specs.Prelude.{ℕ, zero, suc, ◌==◌, cond, Bool, true, false, Option, Some, None, List, [], ◌∷◌}
use Rattle.gl_base.specs.declared.phase.Phase.{Phase}
use Rattle.gl_base.specs.declared.phase.Phase.TheVariants.{Absent, Leaving, Gone}
use Rattle.gl_base.specs.Phases.{is_up, is_leaving}
use Rattle.gl_gate_tests.specs.declared.errand.Errand.{Errand}
use Rattle.gl_gate_tests.specs.declared.errand.Errand.TheVariants.{Work, Remove, Finish, TurnedAway}
use Rattle.gl_gate_tests.specs.declared.errand.Answer.{Answer}
use Rattle.gl_gate_tests.specs.declared.errand.Answer.TheVariants.{Done, Busy, NoDev}

abbrev pub may_finish : Phase × ℕ → ℕ → Bool
may_finish w a = cond (is_leaving w.0) (w.1 == a) false

abbrev pub after : Phase × ℕ → ℕ → Errand → Phase × ℕ
after w a Work = w
after w a Remove = cond (is_up w.0) (Leaving, a) w
after w a Finish = cond (may_finish w a) (Gone, w.1) w
after w a TurnedAway = w

abbrev pub answer : Phase × ℕ → ℕ → Errand → Answer
answer w a Work = Done
answer w a Remove = cond (is_up w.0) Done Busy
answer w a Finish = cond (may_finish w a) Done Busy
answer w a TurnedAway = NoDev

-- the first entry of a removal writes the first place and how many there are
abbrev pub bytes : Phase × ℕ → ℕ → Errand → List ℕ
bytes w a Work = []
bytes w a Remove = cond (is_up w.0) (0 ∷ 1 ∷ []) []
bytes w a Finish = []
bytes w a TurnedAway = []

abbrev pub places_of : Phase × ℕ → List ℕ → List ℕ
places_of w out = cond (is_up w.0) (0 ∷ 1 ∷ []) out

abbrev pub is_done : Answer → Bool
is_done Done = true
is_done Busy = false
is_done NoDev = false

abbrev pub is_begin : Errand → Answer → Bool
is_begin Work r = false
is_begin Remove r = is_done r
is_begin Finish r = false
is_begin TurnedAway r = false

abbrev pub is_finish : Errand → Bool
is_finish Work = false
is_finish Remove = false
is_finish Finish = true
is_finish TurnedAway = false

abbrev pub first_places : Errand → Answer → List ℕ
first_places call r = cond (is_begin call r) (0 ∷ []) []

abbrev pub named : Errand → Option ℕ
named Work = Some 0
named Remove = None
named Finish = None
named TurnedAway = None

abbrev pub turned_away : Errand → Option ℕ
turned_away Work = None
turned_away Remove = None
turned_away Finish = None
turned_away TurnedAway = Some 0

abbrev pub phase_at : Phase × ℕ → ℕ → Phase
phase_at w zero = w.0
phase_at w (suc p) = Absent
