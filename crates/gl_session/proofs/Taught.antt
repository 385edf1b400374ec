-- Maps that a port learns in a talk, and other ports that learn the same.
use Rattle.std.proofs.Common.{◌≡◌, ◌≢◌, ◌⊎◌, inl, inr, ◌<◌, ◌≤◌, ◌+◌, ℕ, zero, suc, Bool, true, false, List, [], ◌∷◌, ◌++◌, length, length-set, take, drop, set, get_or, Option, None, Some, refl, sym, ◌∙◌, ap, subst, arith}
use Rattle.std.specs.Prelude.{cond, find, slice_get}
use Rattle.std.proofs.lemmas.List.{append_assoc, append-nil}
use Rattle.std.proofs.lemmas.Option.{slice_get-get_or}
use Rattle.gl_base.specs.declared.operation.Do.{Do}
use Rattle.gl_base.specs.declared.operation.Do.TheVariants.{Aggregate}
use Rattle.gl_client.specs.Program.{Program}
use Rattle.gl_driver.specs.Told.{Told}
use Rattle.gl_driver.specs.Maps.{FitsMap, is_map_of, left_behind, map_at, with_map}
use Rattle.gl_driver.specs.declared.map.Map.{Map}
use Rattle.gl_driver.specs.declared.map.Target.{Target}
use Rattle.gl_model.proofs.Soundness.{split}
use Rattle.gl_model.specs.declared.reply.Reply.{Reply}
use Rattle.gl_model.specs.declared.reply.Reply.TheVariants.{Number}
use Rattle.gl_asking.specs.Files.{OpenFile}
use Rattle.gl_script.specs.Cost.{has_aggregate}
use Rattle.gl_script.specs.Section.{SaidSection}
use Rattle.gl_check.specs.Drivers.{DriverKind, over}
use Rattle.gl_check.specs.Joining.{Maps, joined_at, learned, maps, maps_behind, no_maps, targets_in, taught, with_one}
use Rattle.gl_check.specs.Turns.{Carried, Did, Follows, Said, Takes, Turn}
use Rattle.gl_session.specs.OneActor.{CameAloneWith}
use Rattle.gl_session.specs.Ports.{AllHave, AreAllThere, AreMaps, HasLearned, HasLearnedThem, IsTaught, LearnAbove, left_at, left_found, TakeMaps, maps_of, maps_at, maps_found}
use Rattle.gl_session.specs.Workers.{is_found, there_at, told_at, told_found}
use Rattle.gl_session.proofs.Mapped.{also_has, each_more, others_have}
use Rattle.gl_session.proofs.PortPlaces.{all_found, all_put_back, found_all, get_other, get_set, there_got, there_same, told_got}
use Rattle.gl_session.proofs.Targets.{take_one}

taught_append : (first later : List Map) (m : Maps) → taught (first ++ later) m ≡ taught later (taught first m)
taught_append [] later m = refl
taught_append (map ∷ first) later m = taught_append first later (with_one map m)

one_more : (left : ℕ) (map : Map) (kept : List Map) (more : ℕ) → HasLearnedThem left (maps kept more) → HasLearnedThem left (with_one map (maps kept more))
one_more left map kept zero h = h
one_more left map kept (suc more) h = ap (with_one map) h ∙ sym (taught_append kept (map ∷ []) (no_maps left))

learned_more : (left : ℕ) (reply : Reply) (targets : List Target) (m : Maps) → HasLearnedThem left m → HasLearnedThem left (learned reply targets m)
learned_more left (Number place) targets m h = one_more left (joined_at place targets) m.kept m.left h
learned_more left reply targets m h = h

behind_more : (left : ℕ) (what : Do) (reply : Reply) (files : List OpenFile) (m : Maps) → HasLearnedThem left m → HasLearnedThem left (maps_behind what reply files m)
behind_more left (Aggregate label slots count) reply files m h = learned_more left reply (targets_in (take count slots) files) m h
behind_more left what reply files m h = h

module _ {A : Type 0} (driver : DriverKind) (actor left : ℕ) where
  by_turn : (p : Program A) (s : Carried) (turn : Turn) (q : Program A) (r : Carried) → Takes driver actor p s turn q r → HasLearnedThem left s.maps → HasLearnedThem left r.maps
  by_turn p s (Said text) q r (is, at) h = subst (λ (c : Carried). HasLearnedThem left c.maps) (sym at) h
  by_turn p s (Did e) q r (rest, is, goes, carries) h = subst (λ (m : Maps). HasLearnedThem left m) (sym carries.maps) (behind_more left e.what e.reply s.files s.maps h)

  pub by_turns : (p : Program A) (s : Carried) (turns : List Turn) (q : Program A) (r : Carried) → Follows driver actor p s turns q r → HasLearnedThem left s.maps → HasLearnedThem left r.maps
  by_turns p s [] q r (same, at) h = subst (λ (c : Carried). HasLearnedThem left c.maps) at h
  by_turns p s (turn ∷ turns) q r (next, at, takes, follows) h = by_turns next at turns q r follows (by_turn p s turn next at takes h)

module _ {P : Type 0} (kept : P → List Map) (left : P → ℕ) (told : P → Option Told) (faults : P → ℕ) (them : List Map) where
  pub taught_told : (old new : Option (Option P)) → IsTaught kept left told faults them old new → told_found told new ≡ told_found told old
  taught_told None new h = ap (λ o. told_found told o) h
  taught_told (Some None) new h = ap (λ o. told_found told o) h
  taught_told (Some (Some old)) new (port, is, learned) = ap (λ o. told_found told o) is ∙ learned.told_same

  pub taught_there : (old new : Option (Option P)) → IsTaught kept left told faults them old new → is_found new ≡ is_found old
  taught_there None new h = ap is_found h
  taught_there (Some None) new h = ap is_found h
  taught_there (Some (Some old)) new (port, is, learned) = ap is_found is

  taught_has : (m : Maps) (old new : Option (Option P)) (port : P) → IsTaught kept left told faults them old new → ((before : P) → old ≡ Some (Some before) → maps (kept before) (left before) ≡ m)
      → new ≡ Some (Some port) → maps (kept port) (left port) ≡ taught them m
  taught_has m None new port h had there = cc
  taught_has m (Some None) new port h had there = cc
  taught_has m (Some (Some old)) new port (then, is, learned) had there =
      subst (λ (p : P). maps (kept p) (left p) ≡ taught them m) (same (sym is ∙ there)) (learned.maps_are ∙ ap (taught them) (had old refl))
    where
      same : {x y : P} → Some (Some x) ≡ Some (Some y) → x ≡ y
      same e = cc

  pub all_have_taught : (m : Maps) (old new : List (Option P)) → ((n : ℕ) → IsTaught kept left told faults them (slice_get old n) (slice_get new n)) → AllHave kept left m old → AllHave kept left (taught them m) new
  all_have_taught m old new each all = λ n port there. taught_has m (slice_get old n) (slice_get new n) port (each n) (λ before is. all n before is) there

-- a place that has no map among more of them has none among fewer
none_if : (b : Bool) (map : Map) (found : Option Map) → cond b (Some map) found ≡ None → found ≡ None
none_if true map found none = cc
none_if false map found none = none

none_past : (b : Bool) (first : Map) (found other : Option Map) → (found ≡ None → other ≡ None) → cond b (Some first) found ≡ None → cond b (Some first) other ≡ None
none_past true first found other later none = cc
none_past false first found other later none = later none

none_without : (place : ℕ) (kept more : List Map) (map : Map) → map_at place (kept ++ map ∷ more) ≡ None → map_at place (kept ++ more) ≡ None
none_without place [] more map none = none_if (is_map_of place map) map (find (is_map_of place) more) none
none_without place (first ∷ kept) more map none =
    none_past (is_map_of place first) first (map_at place (kept ++ map ∷ more)) (map_at place (kept ++ more)) (λ later. none_without place kept more map later) none

none_taught : (place : ℕ) (them kept : List Map) (left : ℕ) → map_at place (kept ++ them) ≡ None → map_at place (taught them (maps kept left)).kept ≡ None
none_taught place [] kept left none = ap (λ (l : List Map). map_at place l) (sym (append-nil kept)) ∙ none
none_taught place (map ∷ them) kept zero none = none_taught place them kept 0 (none_without place kept them map none)
none_taught place (map ∷ them) kept (suc left) none = none_taught place them (kept ++ map ∷ []) left (ap (λ (l : List Map). map_at place l) (append_assoc kept (map ∷ []) them) ∙ none)

none_shorter : (xs : List Map) (x : Map) → xs ++ x ∷ [] ≡ [] → ⊥
none_shorter [] x e = cc
none_shorter (y ∷ xs) x e = cc

-- One map more, of those that a port without a map is to learn.
module _ {P : Type 0} (kept : P → List Map) (left : P → ℕ) (told : P → Option Told) (faults : P → ℕ) (them : List Map) (i : ℕ) (d : Map) (less : i < length them) (start old : P) (has : HasLearned kept left told faults (take i them) start old) where
  pub may_learn : AreMaps them → kept start ≡ [] → map_at (get_or them i d).place (kept old) ≡ None
  may_learn are bare =
      let apart = are.apart i (get_or them i d) (slice_get-get_or them i d less) in
      ap (λ (m : Maps). map_at (get_or them i d).place m.kept) (has.maps_are ∙ ap (λ (l : List Map). taught (take i them) (maps l (left start))) bare)
      ∙ none_taught (get_or them i d).place (take i them) [] (left start) apart

  pub learned_one : (new : P) → kept new ≡ with_map (left old) (get_or them i d) (kept old) → left new ≡ left_behind (left old) → told new ≡ told old → faults new ≡ faults old → HasLearned kept left told faults (take (i + 1) them) start new
  learned_one new keeps takes tells counts = record {
    maps_are = (λ j. maps (keeps j) (takes j)) ∙ ap (with_one (get_or them i d)) has.maps_are
        ∙ sym (taught_append (take i them) (get_or them i d ∷ []) (maps (kept start) (left start))) ∙ ap (λ (l : List Map). taught l (maps (kept start) (left start))) (sym (take_one them i d less));
    told_same = tells ∙ has.told_same;
    faults_same = counts ∙ has.faults_same;
    none_same = λ none. absurd (none_shorter (take i them) (get_or them i d) (sym (take_one them i d less) ∙ none));
  }

-- before the first
pub learned_none : {P : Type 0} (kept : P → List Map) (left : P → ℕ) (told : P → Option Told) (faults : P → ℕ) (port : P) → HasLearned kept left told faults [] port port
learned_none kept left told faults port = record { maps_are = refl; told_same = refl; faults_same = refl; none_same = λ none. refl }

pub taught_nothing : {P : Type 0} (kept : P → List Map) (left : P → ℕ) (told : P → Option Told) (faults : P → ℕ) (port : Option (Option P)) → IsTaught kept left told faults [] port port
taught_nothing kept left told faults None = refl
taught_nothing kept left told faults (Some None) = refl
taught_nothing kept left told faults (Some (Some port)) = (port, refl, learned_none kept left told faults port)

pub none_learn : {P : Type 0} (kept : P → List Map) (left : P → ℕ) (told : P → Option Told) (faults : P → ℕ) (top : ℕ) (sections : List SaidSection) (m : Maps) (ports : List (Option P)) → AllHave kept left m ports
    → LearnAbove kept left told faults top sections m ports ports
none_learn kept left told faults top sections m ports have =
    record { taught_maps = []; all_have = have; learned = λ n above. taught_nothing kept left told faults (slice_get ports n); stay = λ without n above. refl }

-- ports that learned none are as they were
pub taught_none : {P : Type 0} (kept : P → List Map) (left : P → ℕ) (told : P → Option Told) (faults : P → ℕ) (them : List Map) → them ≡ [] → (old new : Option (Option P)) → IsTaught kept left told faults them old new → new ≡ old
taught_none kept left told faults them none None new h = h
taught_none kept left told faults them none (Some None) new h = h
taught_none kept left told faults them none (Some (Some old)) new (port, is, learned) = is ∙ ap (λ p. Some (Some p)) (learned.none_same none)

-- a port that is there
found_there : {P : Type 0} (port : Option (Option P)) → is_found port ≡ true → (there : P) × (port ≡ Some (Some there))
found_there None found = cc
found_there (Some None) found = cc
found_there (Some (Some there)) found = (there, refl)

-- the first port has the maps of one that no actor has, which has none without an `aggregate`
pub first_bare : {P : Type 0} (kept : P → List Map) (left : P → ℕ) (told : P → Option Told) (faults : P → ℕ) (sections : List SaidSection) (old new : List (Option P)) → AreAllThere old → AreAllThere new → TakeMaps kept left old
    → has_aggregate sections ≡ false → LearnAbove kept left told faults 0 sections (no_maps (left_at left old 0)) old new → maps_at kept left new 0 ≡ no_maps (left_at left old 0)
first_bare kept left told faults sections old new were are bare without learn =
    let long = are.count in let first = found_there (slice_get new 0) (all_found new are.there 0 (omega arith)) in
    let longer = were.count in let second = found_there (slice_get old 1) (all_found old were.there 1 (omega arith)) in
    ap (maps_found kept left) first.1 ∙ learn.all_have 0 first.0 first.1
    ∙ (sym (learn.all_have 1 second.0 (learn.stay without 1 (omega arith) ∙ second.1)) ∙ bare 1 second.0 second.1)

-- ports that are the same by their numbers
same_ports : {P : Type 0} (ports others : List (Option P)) → ((n : ℕ) → slice_get ports n ≡ slice_get others n) → ports ≡ others
same_ports [] [] same = refl
same_ports [] (other ∷ others) same = let first = same 0 in cc
same_ports (port ∷ ports) [] same = let first = same 0 in cc
same_ports {P} (port ∷ ports) (other ∷ others) same = (λ i. first (same 0) i ∷ same_ports ports others (λ n. same (suc n)) i)
  where
    first : {x y : Option P} → Some x ≡ Some y → x ≡ y
    first e = cc

-- at the beginning, and of a port without a map
pub learned_first : (m : Maps) → m ≡ no_maps m.left → HasLearnedThem m.left m
learned_first m bare = bare ∙ ap (λ (l : List Map). taught l (no_maps m.left)) (sym (ap (λ (x : Maps). x.kept) bare))

pub bare_maps : (m : Maps) → m.kept ≡ [] → m ≡ no_maps m.left
bare_maps m none = λ i. maps (none i) m.left

-- The first port is taken out; the others learn maps; and a port is put in its place.
module _ {P : Type 0} (kept : P → List Map) (left : P → ℕ) (told : P → Option Told) (faults : P → ℕ) (them : List Map) (ports taken between given : List (Option P)) (port_then : P) (were : AreAllThere ports) (left_is : taken ≡ set ports 0 None)
    (each : (n : ℕ) → IsTaught kept left told faults them (slice_get taken n) (slice_get between n)) (same_length : length between ≡ length taken) (given_is : given ≡ set between 0 (Some port_then)) where
  between_long : length between ≡ length ports
  between_long = same_length ∙ ap (λ (l : List (Option P)). length l) left_is ∙ length-set ports 0 None

  given_long : length given ≡ length ports
  given_long = ap (λ (l : List (Option P)). length l) given_is ∙ length-set between 0 (Some port_then) ∙ between_long

  first_given : slice_get given 0 ≡ Some (Some port_then)
  first_given = ap (λ (l : List (Option P)). slice_get l 0) given_is ∙ get_set between 0 (Some port_then) (let long = between_long in let count = were.count in omega arith)

  other_given : (n : ℕ) → 0 < n → slice_get given n ≡ slice_get between n
  other_given n above = ap (λ (l : List (Option P)). slice_get l n) given_is ∙ get_other between 0 n (Some port_then) (λ same. absurd (omega arith))

  other_taken : (n : ℕ) → 0 < n → slice_get taken n ≡ slice_get ports n
  other_taken n above = ap (λ (l : List (Option P)). slice_get l n) left_is ∙ get_other ports 0 n None (λ same. absurd (omega arith))

  pub all_there_beside : AreAllThere given
  all_there_beside = record { count = given_long ∙ were.count; there = found_all given at } where
    at : (n : ℕ) → n < length given → there_at given n ≡ true
    at zero less = there_got given 0 port_then first_given
    at (suc n) less = let long = given_long in
        there_same given between (suc n) (other_given (suc n) (omega arith)) ∙ taught_there kept left told faults them (slice_get taken (suc n)) (slice_get between (suc n)) (each (suc n))
        ∙ there_same taken ports (suc n) (other_taken (suc n) (omega arith)) ∙ all_found ports were.there (suc n) (omega arith)

  stay_between : them ≡ [] → between ≡ taken
  stay_between none = same_ports between taken (λ n. taught_none kept left told faults them none (slice_get taken n) (slice_get between n) (each n))

  pub learn_beside : (sections : List SaidSection) (m : Maps) → AllHave kept left m ports → maps_of kept left port_then ≡ taught them m → (has_aggregate sections ≡ false → them ≡ []) → LearnAbove kept left told faults 0 sections m ports given
  learn_beside sections m have first stay = record {
    taught_maps = them;
    all_have = also_has kept left (taught them m) between given 0 port_then given_is (all_have_taught kept left told faults them m taken between each (others_have kept left m ports taken 0 left_is have)) first;
    learned = λ n above. subst (λ (x : Option (Option P) × Option (Option P)). IsTaught kept left told faults them x.0 x.1) (λ i. (other_taken n above i, sym (other_given n above) i)) (each n);
    stay = λ without n above. other_given n above ∙ ap (λ (l : List (Option P)). slice_get l n) (stay_between (stay without)) ∙ other_taken n above;
  }

  pub stay_beside : them ≡ [] → drop 1 given ≡ drop 1 ports
  stay_beside none = (all_put_back ports taken given port_then left_is (given_is ∙ ap (λ (l : List (Option P)). set l 0 (Some port_then)) (stay_between none)) were).1

  pub came_beside : (kind : DriverKind) (sections : List SaidSection) (port : P) (text : List ℕ) (entries : ℕ) → slice_get ports 0 ≡ Some (Some port)
      → CameAloneWith (over (left port) kind) sections (told port) text (told port_then) (maps_of kept left port_then) entries
      → CameAloneWith (over (left_at left ports 0) kind) sections (told_at told ports 0) text (told_at told given 0) (maps_at kept left given 0) entries
  came_beside kind sections port text entries got came =
      subst (λ (x : ℕ × Option Told × Option Told × Maps). CameAloneWith (over x.0 kind) sections x.1 text x.2 x.3 entries)
      (λ i. (ap (left_found left) (sym got) i, sym (told_got told ports 0 port got) i, sym (told_got told given 0 port_then first_given) i, ap (maps_found kept left) (sym first_given) i)) came

-- One map more, of those that a port keeps.
keeps_apart : (front kept : List Map) (map : Map) → ((n : ℕ) (x : Map) → slice_get kept n ≡ Some x → map_at x.place (front ++ take n kept) ≡ None) → map_at map.place (front ++ kept) ≡ None
    → (n : ℕ) (x : Map) → slice_get (kept ++ map ∷ []) n ≡ Some x → map_at x.place (front ++ take n (kept ++ map ∷ [])) ≡ None
keeps_apart front [] map apart none zero x is = subst (λ (y : Map). map_at y.place (front ++ []) ≡ None) (same is) none
  where
    same : {y z : Map} → Some y ≡ Some z → y ≡ z
    same e = cc
keeps_apart front [] map apart none (suc n) x is = cc
keeps_apart front (first ∷ kept) map apart none zero x is = apart 0 x is
keeps_apart front (first ∷ kept) map apart none (suc n) x is =
    ap (λ (l : List Map). map_at x.place l) (sym (append_assoc front (first ∷ []) (take n (kept ++ map ∷ []))))
    ∙ keeps_apart (front ++ first ∷ []) kept map (λ k y at. ap (λ (l : List Map). map_at y.place l) (append_assoc front (first ∷ []) (take k kept)) ∙ apart (suc k) y at)
    (ap (λ (l : List Map). map_at map.place l) (append_assoc front (first ∷ []) kept) ∙ none) n x is

pub one_kept : (kept : List Map) (map : Map) → AreMaps kept → FitsMap map → map_at map.place kept ≡ None → AreMaps (kept ++ map ∷ [])
one_kept kept map are fits new = record { fit = each_more FitsMap kept map are.fit fits; apart = keeps_apart [] kept map are.apart new }

pub keeps_one : (left : ℕ) (map : Map) (kept : List Map) → 1 ≤ left → with_map left map kept ≡ kept ++ map ∷ []
keeps_one zero map kept room = absurd (omega arith)
keeps_one (suc left) map kept room = refl

-- the first ports have learned them, and one port more
module _ {P : Type 0} (kept : P → List Map) (left : P → ℕ) (told : P → Option Told) (faults : P → ℕ) (them : List Map) (n : ℕ) (start old new : List (Option P)) where
  pub taught_one_more : ((k : ℕ) → k < n → IsTaught kept left told faults them (slice_get start k) (slice_get old k)) → ((k : ℕ) → n ≤ k → slice_get old k ≡ slice_get start k)
      → IsTaught kept left told faults them (slice_get old n) (slice_get new n) → ((k : ℕ) → k ≢ n → slice_get new k ≡ slice_get old k)
      → (k : ℕ) → k < n + 1 → IsTaught kept left told faults them (slice_get start k) (slice_get new k)
  taught_one_more first rest one others k lt = by_order (split k n)
    where
      by_order : (k < n) ⊎ (n ≤ k) → IsTaught kept left told faults them (slice_get start k) (slice_get new k)
      by_order (inl before) = subst (λ at. IsTaught kept left told faults them (slice_get start k) at) (sym (others k (λ same. absurd (omega (arith, same, before))))) (first k before)
      by_order (inr behind) =
          let same : k ≡ n = omega (arith, lt, behind) in
          subst (λ m. IsTaught kept left told faults them (slice_get start m) (slice_get new m)) (sym same) (subst (λ at. IsTaught kept left told faults them at (slice_get new n)) (rest n (omega arith)) one)
