-- A session of several actors from its beginning to its end.
use Rattle.std.proofs.Common.{◌≡◌, ℕ, zero, suc, ◌+◌, ◌<◌, ◌≤◌, true, List, [], ◌∷◌, length, length-set, map, set, Option, Some, None, Result, Ok, sym, ap, ◌∙◌, subst, arith}
use Rattle.std.specs.Prelude.{slice_get}
use mathlib.Core.Logic.{dite}
use native.Mathlib.Decide.{dec_lt}
use Rattle.gl_base.specs.declared.errno.Errno.{Errno}
use Rattle.gl_world.specs.History.{Legal, StartsWith, entries_of}
use Rattle.gl_gate.specs.Calls.{HasAllOf}
use Rattle.gl_rule.specs.Views.{newcomer}
use Rattle.gl_client.specs.Program.{Program, done}
use Rattle.gl_driver.specs.Told.{Told}
use Rattle.gl_driver.specs.declared.map.Map.{Map}
use Rattle.gl_script.specs.Cost.{session_cost}
use Rattle.gl_script.specs.Section.{SaidSection}
use Rattle.gl_talk.specs.Open.{Names}
use Rattle.gl_core.specs.Device.{OneEntry, core}
use Rattle.gl_chip.specs.Values.{OneView}
use Rattle.gl_check.specs.Drivers.{DriverKind, DriverOver, start_maps}
use Rattle.gl_check.specs.Joining.{Maps, taught}
use Rattle.gl_check.specs.Programs.{setup_of}
use Rattle.gl_check.specs.Many.{AllPlayedBelow, Texts, actor_sections, program_of}
use Rattle.gl_session.specs.Many.{CameToMany}
use Rattle.gl_session.specs.Performed.{PlaysOn}
use Rattle.gl_check.specs.Turns.{carried}
use Rattle.gl_session.specs.Ports.{AreAllThere, IsTaught, LearnAbove, maps_at, maps_found, maps_of}
use Rattle.gl_session.specs.Workers.{AreKept, CameOut, HasCarriedOut, there_at, told_at}
use Rattle.gl_session.proofs.Actors.{all_within}
use Rattle.gl_session.proofs.Counting.{within_cost}
use Rattle.gl_session.proofs.Ends.{all_played}
use Rattle.gl_session.proofs.ManyFollows.{came_to_many}
use Rattle.gl_session.proofs.Mapped.{also_has}
use Rattle.gl_session.proofs.PortPlaces.{all_found, found_all, get_other, get_set, not_there, there_got, there_same, told_got, told_same}

-- promises are kept over ports that told the same and tell the same
kept_as : (driver : DriverKind) (m : Maps) (programs : ℕ → Program Names) (start other left later : ℕ → Option Told) (v first : OneView) (n : ℕ) (texts : List (Result (List ℕ) Errno)) → ((k : ℕ) → n ≤ k → start k ≡ other k) → ((k : ℕ) → n ≤ k → left k ≡ later k)
    → AreKept driver m programs start left v first n texts → AreKept driver m programs other later v first n texts
kept_as driver m programs start other left later v first n [] same_start same_end h = tt
kept_as driver m programs start other left later v first n (t ∷ ts) same_start same_end h = let k = h.0 in (
  record {
    saw = k.saw;
    place = k.place;
    mine = k.mine;
    joined = k.joined;
    begins = k.begins;
    own = k.own;
    nothing_before = k.nothing_before;
    came = subst (λ (x : Option Told × Option Told). CameOut driver m n (programs n) x.0 k.saw v.room t x.1) (λ i. (same_start n (omega arith) i, same_end n (omega arith) i)) k.came;
  },
  kept_as driver m programs start other left later v first (n + 1) ts (λ j more. same_start j (omega arith)) (λ j more. same_end j (omega arith)) h.1,
)

-- the first port is there, and the others are once it is taken out
pub first_there : {P : Type 0} (ports : List (Option P)) → AreAllThere ports → slice_get ports 0 ≡ Some None → ⊥
first_there ports all none = not_there ports 0 none (all_found ports all.there 0 (let n = all.count in omega arith))

pub taken_there : {P : Type 0} (ports taken : List (Option P)) → AreAllThere ports → taken ≡ set ports 0 None → (n : ℕ) → 1 ≤ n → n < length taken → there_at taken n ≡ true
taken_there ports taken all left_is n far less =
    let long : length taken ≡ length ports = ap (λ l. length l) left_is ∙ length-set ports 0 None in
    there_same taken ports n (ap (λ l. slice_get l n) left_is ∙ get_other ports 0 n None (λ same. absurd (omega (arith, same)))) ∙ all_found ports all.there n (omega arith)

pub new_first : (room : ℕ) (v : OneView) → v ≡ newcomer 0 room [] 1 [] [] → (v.number ≡ 0) × (v.made ≡ 1)
new_first room v new = (ap (λ (x : OneView). x.number) new, ap (λ (x : OneView). x.made) new)

module _ {P : Type 0} (told : P → Option Told) (driver : DriverOver) (sections : List SaidSection) where
  -- all others were taken in
  pub all_joined : (room : ℕ) (v w : OneView) (before left : Option Told) (m : Maps) (ports ports_then : List (Option P)) (texts : Texts) → v ≡ newcomer 0 room [] 1 [] [] → HasCarriedOut told driver sections v before ports texts w left m ports_then
      → (w.number ≡ 0) × (length w.joined + 1 ≡ w.made)
  all_joined room v w before left m ports ports_then texts new out =
      let one = out.setup.grew in let split = out.forked.split in let joined = out.forked.joined in let two = out.last.grew in
      let number : w.number ≡ 0 = two.number ∙ joined.number ∙ split.number ∙ one.number ∙ ap (λ (x : OneView). x.number) new in
      let nobody : length v.joined ≡ 0 = ap (λ (x : OneView). length x.joined) new in
      let first : v.made ≡ 1 = ap (λ (x : OneView). x.made) new in
      let a : length w.joined ≡ length out.behind_fork.joined = ap (λ l. length l) two.joined in
      let b = joined.joined in
      let c : length out.forked.between.joined ≡ length out.at_fork.joined = ap (λ l. length l) split.joined in
      let d : length out.at_fork.joined ≡ length v.joined = ap (λ l. length l) one.joined in
      let e = two.made in let f = joined.made in let g = split.made in let h = one.made in (number, omega arith)

  module _ (ports taken ports_then given : List (Option P)) (port port_then : P) (some_port : 0 < length ports) (got : slice_get ports 0 ≡ Some (Some port)) (left_is : taken ≡ set ports 0 None)
      (given_is : given ≡ set ports_then 0 (Some port_then)) where
    same_before : (k : ℕ) → 1 ≤ k → told_at told taken k ≡ told_at told ports k
    same_before k far = told_same told taken ports k (ap (λ l. slice_get l k) left_is ∙ get_other ports 0 k None (λ same. absurd (omega (arith, same))))

    same_then : (k : ℕ) → 1 ≤ k → told_at told ports_then k ≡ told_at told given k
    same_then k far = told_same told ports_then given k (sym (ap (λ l. slice_get l k) given_is ∙ get_other ports_then 0 k (Some port_then) (λ same. absurd (omega (arith, same)))))

    -- what came of the whole
    pub came : (kept : P → List Map) (takes : P → ℕ) → driver.kind.limit ≤ 8 → (v w : OneView) (before left : Option Told) (m : Maps) (texts : Texts) (history : List OneEntry) → v ≡ newcomer 0 (session_cost sections) [] 1 [] [] → before ≡ told port → left ≡ told port_then → m ≡ maps_of kept takes port_then
        → HasCarriedOut told driver sections v before taken texts w left m ports_then → length taken ≡ length ports_then
        → Legal core history → StartsWith history w.seen → entries_of 0 history ≡ w.mine → HasAllOf w.joined history → ((n : ℕ) → w.made ≤ n → entries_of n history ≡ [])
        → CameToMany driver sections (told_at told ports) (told_at told given) (maps_at kept takes given 0) history texts
    came kept takes limit v w before left m texts history new first_is last_is maps_is out same_length legal begins mine all others =
        let start : told_at told ports 0 ≡ told port = told_got told ports 0 port got in
        let long : length taken ≡ length ports = ap (λ l. length l) left_is ∙ length-set ports 0 None in
        let at_end : slice_get given 0 ≡ Some (Some port_then) = ap (λ l. slice_get l 0) given_is ∙ get_set ports_then 0 (Some port_then) (omega arith) in
        let end : told_at told given 0 ≡ told port_then = told_got told given 0 port_then at_end in
        let whole : (all : AllPlayedBelow driver (told_at told ports) (told_at told given) sections history (length history) texts) × (all.behind.maps ≡ out.behind.maps) =
        all_played driver (told_at told ports) (told_at told given) sections (length (actor_sections sections)) (length (actor_sections sections)) v out.at_fork out.forked.between out.behind_fork w out.names out.end out.waiting out.behind texts.setup texts.last texts.actors history
        new
        (subst (λ t. PlaysOn driver.kind (setup_of sections) v (carried [] t (start_maps driver)) [] (done out.names) out.at_fork out.waiting texts.setup) (first_is ∙ sym start) out.setup)
        out.forked.split out.forked.joined
        (kept_as driver.kind out.waiting.maps (program_of sections) (told_at told out.ports_taught) (told_at told ports) (told_at told ports_then) (told_at told given) out.at_fork out.behind_fork 1 (map Ok texts.actors)
        (λ k far. out.told_same k ∙ same_before k far) same_then out.forked.kept)
        out.own out.last (out.left_is ∙ last_is ∙ sym end) legal begins mine all others (sym out.forked.as_many) out.forked.as_many
        in let played = whole.0 in
        let fits = within_cost driver limit (told_at told ports) (told_at told given) sections history (length history) texts played in
        let within = all_within driver (told_at told ports) (told_at told given) sections history (length history) fits texts played in
        subst (λ (k : Maps). CameToMany driver sections (told_at told ports) (told_at told given) k history texts) (within.1 ∙ whole.1 ∙ sym out.maps_are ∙ maps_is ∙ ap (maps_found kept takes) (sym at_end))
        (came_to_many driver limit (told_at told ports) (told_at told given) sections history texts within.0)

    behind_first : (n : ℕ) → 1 ≤ n → slice_get given n ≡ slice_get ports_then n
    behind_first n far = ap (λ l. slice_get l n) given_is ∙ get_other ports_then 0 n (Some port_then) (λ same. absurd (omega (arith, same)))

    untaken : (n : ℕ) → 1 ≤ n → slice_get taken n ≡ slice_get ports n
    untaken n far = ap (λ l. slice_get l n) left_is ∙ get_other ports 0 n None (λ same. absurd (omega (arith, same)))

    -- all ports are there again
    pub all_there : (v w : OneView) (before left : Option Told) (m : Maps) (texts : Texts) → HasCarriedOut told driver sections v before taken texts w left m ports_then → AreAllThere ports → AreAllThere given
    all_there v w before left m texts out were = record { count = long ∙ were.count; there = found_all given at } where
      taken_long : length taken ≡ length ports
      taken_long = ap (λ l. length l) left_is ∙ length-set ports 0 None

      then_long : length ports_then ≡ length ports
      then_long = out.forked.ports_len ∙ out.taught_len ∙ taken_long

      long : length given ≡ length ports
      long = ap (λ l. length l) given_is ∙ length-set ports_then 0 (Some port_then) ∙ then_long

      at : (n : ℕ) → n < length given → there_at given n ≡ true
      at zero less = ap (λ l. there_at l 0) given_is ∙ there_got (set ports_then 0 (Some port_then)) 0 port_then (get_set ports_then 0 (Some port_then) (let e = then_long in let l = long in omega arith))
      at (suc n) less = dite (dec_lt (length (actor_sections sections)) (suc n))
          (λ far. there_same given ports_then (suc n) (behind_first (suc n) (omega arith)) ∙ there_same ports_then out.ports_taught (suc n) (out.forked.others (suc n) far) ∙ out.there_same (suc n)
          ∙ there_same taken ports (suc n) (untaken (suc n) (omega arith)) ∙ all_found ports were.there (suc n) (let l = long in omega arith))
          (λ near. there_same given ports_then (suc n) (behind_first (suc n) (omega arith)) ∙ out.forked.there (suc n) (omega arith) (omega arith))

    -- they have the same maps, and those of numbers that no actor has learned just these
    pub others_learn : (kept : P → List Map) (takes : P → ℕ) (faults : P → ℕ) (top : ℕ) (m : Maps) (h : LearnAbove kept takes told faults top sections m taken ports_then) → maps_of kept takes port_then ≡ taught h.taught_maps m
        → LearnAbove kept takes told faults top sections m ports given
    others_learn kept takes faults top m h first = record {
      taught_maps = h.taught_maps;
      all_have = also_has kept takes (taught h.taught_maps m) ports_then given 0 port_then given_is h.all_have first;
      learned = λ n far. subst (λ (x : Option (Option P) × Option (Option P)). IsTaught kept takes told faults h.taught_maps x.0 x.1) (λ i. (untaken n (omega arith) i, sym (behind_first n (omega arith)) i)) (h.learned n far);
      stay = λ without n far. behind_first n (omega arith) ∙ h.stay without n far ∙ untaken n (omega arith);
    }
