-- What actors carried out, whatever their ports told: the same holds over ports that tell nothing.
use Rattle.std.specs.Prelude.{is_some}
use Rattle.std.proofs.Common.{◌≡◌, ◌⊎◌, inl, inr, ℕ, ◌+◌, ◌<◌, ◌≤◌, Bool, true, false, List, [], ◌∷◌, ◌++◌, length, Option, None, Some, refl, sym, ◌∙◌, ap, subst, arith}
use Rattle.std.proofs.lemmas.Bool.{false≢true}
use Rattle.gl_world.specs.Deeds.{deeds_from, deeds_of, entries_in}
use Rattle.gl_world.specs.History.{fold}
use Rattle.gl_base.specs.declared.operation.Do.{Do}
use Rattle.gl_base.specs.declared.operation.Do.TheVariants.{Aggregate}
use Rattle.gl_base.specs.declared.operation.Got.{Got}
use Rattle.gl_client.specs.Chips.{AsksNoChips, IsPlain}
use Rattle.gl_client.specs.Program.{Program, ask, done}
use Rattle.gl_driver.specs.Told.{Told, new_port, with_bits, with_plan}
use Rattle.gl_driver.specs.declared.map.Map.{Map}
use Rattle.gl_base.specs.declared.op.Op.{Op}
use Rattle.gl_model.specs.declared.reply.Reply.{Reply}
use Rattle.gl_model.specs.declared.device_call.DeviceCall.{DeviceCall}
use Rattle.gl_model.specs.declared.device_call.DeviceCall.TheVariants.{Commanding, Once, Removing}
use Rattle.gl_script.specs.Cost.{has_aggregate}
use Rattle.gl_script.specs.Section.{SaidSection}
use Rattle.gl_talk.specs.Open.{Names}
use Rattle.gl_core.specs.Device.{OneDeed, OneEntry, core}
use Rattle.gl_check.specs.Drivers.{DriverKind, DriverOver, Gives, MayMake, over, plain, planning, start_maps, untold}
use Rattle.gl_check.specs.Joining.{Maps, asking_with, maps_behind, no_maps}
use Rattle.gl_check.specs.Programs.{after_of, setup_of}
use Rattle.gl_asking.specs.declared.kinds.Asking.{Asking}
use Rattle.gl_asking.specs.declared.kinds.Asking.TheVariants.{Calls, Plans, Accepts, Refuses}
use Rattle.gl_asking.specs.Files.{OpenFile}
use Rattle.gl_asking.specs.Driving.{op_asked}
use Rattle.gl_check.specs.Many.{ActorsPlayed, AllPlayed, Many, PlannedTells, Texts, actor_sections, all_new, program_of, silent}
use Rattle.gl_check.specs.Turns.{Carried, Did, Exchange, Follows, HasMade, IsDone, Played, PortBy, Said, Takes, Turn, carried, map_of, was_asked}
use Rattle.gl_check.proofs.Asked.{port_asked, unmapped, unmapped_call}
use Rattle.gl_check.proofs.Joined.{no_maps_behind}
use Rattle.gl_session.specs.Alone.{KeepsNoMaps}
use Rattle.gl_session.proofs.NoChips.{asks_none, turn_stays, zero_turn}

-- The same driver, as one that makes no entries of its own: without a map that is what it is.
abbrev pub as_plain : DriverKind → DriverKind
as_plain driver = record plain { is_planned = driver.is_planned }

-- What was carried out over one driver was carried out over another, with what the ports are shown to tell and to keep there. `Fine`: where talks
-- stand in such a session.
pub record Shows (driver other : DriverOver) (sections : List SaidSection) (shown : Option Told → Option Told) (keep : Maps → Maps) (Fine : Program Names → Carried → Type 0) : Type 0 where
  pub plans : (nth : ℕ) (told : Option Told) → shown (with_plan nth told) ≡ with_plan nth (shown told)
  pub accepts : (bits : ℕ) (told : Option Told) → shown (with_bits bits told) ≡ with_bits bits (shown told)
  pub goes : (n : ℕ) (p : Program Names) (s : Carried) (turn : Turn) (q : Program Names) (r : Carried) → Takes driver.kind n p s turn q r → Fine p s → Fine q r
  pub asks : (what : Do) (rest : Got → Program Names) (s : Carried) → Fine (ask what rest) s → asking_with (keep s.maps) s.files what ≡ asking_with s.maps s.files what
  pub behind : (what : Do) (rest : Got → Program Names) (s : Carried) (reply : Reply) → Fine (ask what rest) s → keep (maps_behind what reply s.files s.maps) ≡ maps_behind what reply s.files (keep s.maps)
  pub makes : (p : Program Names) (s : Carried) → Fine p s → (n : ℕ) (op : Option Op) (e : Exchange) (before after : Option Told) (call : DeviceCall) → HasMade driver.kind n s.maps call op e before after
      → HasMade other.kind n (keep s.maps) call op e (shown before) (shown after)
  pub starts : keep (start_maps driver) ≡ start_maps other
  pub setup : (told : Option Told) → Fine (setup_of sections) (carried [] told (start_maps driver))
  pub actors : (names : Names) (s : Carried) → Fine (done names) s → (n : ℕ) (told : Option Told) → Fine (program_of sections n) (carried [] told s.maps)
  pub after : (last names : Names) (s : Carried) → Fine (done last) s → Fine (after_of sections names) s

module _ (driver other : DriverOver) (sections : List SaidSection) (shown : Option Told → Option Told) (keep : Maps → Maps) (Fine : Program Names → Carried → Type 0) (h : Shows driver other sections shown keep Fine) where
  abbrev shows : Carried → Carried
  shows s = carried s.files (shown s.told) (keep s.maps)

  done_shown : (n : ℕ) (p : Program Names) (s : Carried) → Fine p s → (a : Asking) (op : Option Op) (e : Exchange) (before after : Option Told) → IsDone driver.kind n s.maps a op e before after → IsDone other.kind n (keep s.maps) a op e (shown before) (shown after)
  done_shown n p s fine (Calls call) op e before after d = h.makes p s fine n op e before after call d
  done_shown n p s fine (Plans nth) op e before after d = (record { did = d.0.did; reply_is = d.0.reply_is; bytes_are = d.0.bytes_are }, ap shown d.1 ∙ h.plans nth before)
  done_shown n p s fine (Accepts bits) op e before after d = (record { did = d.0.did; reply_is = d.0.reply_is; bytes_are = d.0.bytes_are }, ap shown d.1 ∙ h.accepts bits before)
  done_shown n p s fine (Refuses errno) op e before after d = (record { did = d.0.did; reply_is = d.0.reply_is; bytes_are = d.0.bytes_are }, ap shown d.1)

  takes_shown : (n : ℕ) (p : Program Names) (s : Carried) (turn : Turn) (q : Program Names) (r : Carried) → Fine p s → Takes driver.kind n p s turn q r → Takes other.kind n p (shows s) turn q (shows r)
  takes_shown n p s (Said text) q r fine t = (t.0, ap shows t.1)
  takes_shown n p s (Did e) q r fine t = let here : Fine (ask e.what t.0) s = subst (λ (x : Program Names). Fine x s) t.1 fine in (
    t.0,
    t.1,
    t.2,
    record {
      is_done = subst (λ (a : Asking). IsDone other.kind n (keep s.maps) a (op_asked s.files e.what) e (shown s.told) (shown r.told)) (sym (h.asks e.what t.0 s here))
          (done_shown n p s fine (asking_with s.maps s.files e.what) (op_asked s.files e.what) e s.told r.told t.3.is_done);
      files = t.3.files;
      maps = ap keep t.3.maps ∙ h.behind e.what t.0 s e.reply here;
    },
  )

  follows_shown : (n : ℕ) (p : Program Names) (s : Carried) (turns : List Turn) (q : Program Names) (r : Carried) → Fine p s → Follows driver.kind n p s turns q r → Follows other.kind n p (shows s) turns q (shows r)
  follows_shown n p s [] q r fine f = (f.0, ap shows f.1)
  follows_shown n p s (turn ∷ turns) q r fine f = (f.0, shows f.1, takes_shown n p s turn f.0 f.1 fine f.2, follows_shown n f.0 f.1 turns q r (h.goes n p s turn f.0 f.1 f.2 fine) f.3)

  fine_behind : (n : ℕ) (p : Program Names) (s : Carried) (turns : List Turn) (q : Program Names) (r : Carried) → Fine p s → Follows driver.kind n p s turns q r → Fine q r
  fine_behind n p s [] q r fine f = subst (λ (x : Program Names × Carried). Fine x.0 x.1) (λ i. (f.0 i, f.1 i)) fine
  fine_behind n p s (turn ∷ turns) q r fine f = fine_behind n f.0 f.1 turns q r (h.goes n p s turn f.0 f.1 f.2 fine) f.3

  abbrev played_shown : (n : ℕ) (p : Program Names) (s : Carried) (text : List ℕ) (did : List OneDeed) (value : Names) (r : Carried) → Fine p s → Played driver.kind n p s text did value r → Played other.kind n p (shows s) text did value (shows r)
  played_shown n p s text did value r fine d = record { turns = d.turns; follows = follows_shown n p s d.turns (done value) r fine d.follows; text_is = d.text_is; did_is = d.did_is }

  module _ (before left before_shown left_shown : ℕ → Option Told) (starts : (n : ℕ) → shown (before n) ≡ before_shown n) (stops : (n : ℕ) → left_shown n ≡ shown (left n)) (history : List OneEntry) where
    -- the same from what a port tells there
    abbrev played_from : (n : ℕ) (p : Program Names) (m : Maps) (k : Maps) (text : List ℕ) (did : List OneDeed) (value : Names) (r : Carried) → keep m ≡ k → Fine p (carried [] (before n) m) → Played driver.kind n p (carried [] (before n) m) text did value r
        → Played other.kind n p (carried [] (before_shown n) k) text did value (shows r)
    played_from n p m k text did value r kept fine d = record {
      turns = d.turns;
      follows = subst (λ (x : Option Told × Maps). Follows other.kind n p (carried [] x.0 x.1) d.turns (done value) (shows r)) (λ i. (starts n i, kept i)) (follows_shown n p (carried [] (before n) m) d.turns (done value) r fine d.follows);
      text_is = d.text_is;
      did_is = d.did_is;
    }

    actors_shown : (names : Names) (s : Carried) → Fine (done names) s → (n : ℕ) (texts : List (List ℕ)) → ActorsPlayed driver before left sections history s.maps n texts → ActorsPlayed other before_shown left_shown sections history (keep s.maps) n texts
    actors_shown names s fine n [] a = tt
    actors_shown names s fine n (text ∷ texts) a = (
      record {
        names = a.0.names;
        behind = shows a.0.behind;
        played = played_from n (program_of sections n) s.maps (keep s.maps) text (deeds_of core n history) a.0.names a.0.behind refl (h.actors names s fine n (before n)) a.0.played;
        within = a.0.within;
        left_is = ap shown a.0.left_is ∙ sym (stops n);
      },
      actors_shown names s fine (n + 1) texts a.1,
    )

    all_shown : (texts : Texts) → AllPlayed driver before left sections history texts → AllPlayed other before_shown left_shown sections history texts
    all_shown texts a = let waiting : Fine (done a.names) a.waiting = fine_behind 0 (setup_of sections) (carried [] (before 0) (start_maps driver)) a.setup.turns (done a.names) a.waiting (h.setup (before 0)) a.setup.follows in record {
      legal = a.legal;
      first = a.first;
      middle = a.middle;
      last = a.last;
      is = a.is;
      others_not_first = a.others_not_first;
      zero_not_between = a.zero_not_between;
      others_not_last = a.others_not_last;
      names = a.names;
      waiting = shows a.waiting;
      setup = played_from 0 (setup_of sections) (start_maps driver) (start_maps other) texts.setup (deeds_of core 0 a.first) a.names a.waiting h.starts (h.setup (before 0)) a.setup;
      setup_within = a.setup_within;
      end = a.end;
      behind = shows a.behind;
      after = played_shown 0 (after_of sections a.names) a.waiting texts.last (deeds_from core (fold core (a.first ++ a.middle)) 0 a.last) a.end a.behind (h.after a.names a.names a.waiting waiting) a.after;
      after_within = a.after_within;
      left_is = ap shown a.left_is ∙ sym (stops 0);
      actors = actors_shown a.names a.waiting waiting 1 texts.actors a.actors;
      as_many = a.as_many;
      nobody_else = a.nobody_else;
    }

-- a call without a word of the port
module _ (driver : DriverKind) where
  untold_makes : (map : Option Map) (op : Op) (own : List OneEntry) → MayMake driver map op own → MayMake (untold driver) map op own
  untold_makes None op own h = h
  untold_makes (Some map) op own h = h

  untold_gives : (map : Option Map) (told : Option Told) (op : Op) (did : List OneDeed) (room seen : ℕ) (answer : Option ℕ) → Gives driver map told op did room seen answer → Gives (untold driver) map None op did room seen answer
  untold_gives None told op did room seen answer h = λ is. absurd (false≢true is)
  untold_gives (Some map) told op did room seen answer h = (told, h)

  port_untold : (n : ℕ) (asked : Bool) (map : Option Map) (op : Option Op) (e : Exchange) (before after : Option Told) → PortBy driver n asked map op e before after → PortBy (untold driver) n asked map op e None None
  port_untold n false map op e before after h = refl
  port_untold n true map op e before after h = record {
    asked_for = h.asked_for;
    is_this = h.is_this;
    ask = h.ask;
    inner = h.inner;
    tell = h.tell;
    deeds_are = h.deeds_are;
    inner_own = h.inner_own;
    may_make = untold_makes map h.asked_for e.own h.may_make;
    gives = untold_gives map before h.asked_for h.inner e.room e.seen e.answer h.gives;
    told_then = refl;
  }

  same_map : (m : Maps) (call : DeviceCall) → map_of driver m call ≡ map_of (untold driver) m call
  same_map m (Once call) = refl
  same_map m (Removing removal) = refl
  same_map m (Commanding c) = refl

  made_untold : (m : Maps) (n : ℕ) (op : Option Op) (e : Exchange) (before after : Option Told) (call : DeviceCall) → HasMade driver n m call op e before after → HasMade (untold driver) n m call op e None None
  made_untold m n op e before after call h = record {
    mapped_is = h.mapped_is ∙ ap (λ (o : Option Map). is_some o) (same_map m call);
    makes = h.makes;
    few_own = h.few_own;
    may_own = h.may_own;
    reply_is = h.reply_is;
    bytes_are = h.bytes_are;
    port = port_untold n (was_asked call (entries_in e.did)) (map_of (untold driver) m call) op e before after (subst (λ (o : Option Map). PortBy driver n (was_asked call (entries_in e.did)) o op e before after) (same_map m call) h.port);
  }

  -- and one over a driver that makes no entries of its own
  made_plainly : (m : Maps) → m.kept ≡ [] → (n : ℕ) (op : Option Op) (e : Exchange) (before after : Option Told) (call : DeviceCall) → HasMade driver n m call op e before after → HasMade (as_plain driver) n (no_maps 0) call op e before after
  made_plainly m bare n op e before after call h = let u = unmapped driver n op e before after m bare call h in record {
    mapped_is = h.mapped_is ∙ ap (λ (o : Option Map). is_some o) (unmapped_call driver m bare call ∙ sym (unmapped_call (as_plain driver) (no_maps 0) refl call));
    makes = h.makes;
    few_own = subst (λ (own : List OneEntry). length own ≤ 0) (sym u.own) (omega arith);
    may_own = h.may_own;
    reply_is = h.reply_is;
    bytes_are = h.bytes_are;
    port = port_asked (as_plain driver) n op e before after (no_maps 0) refl call u.own u.makes u.port;
  }

-- a driver of whose port no word is known
untold_shows : (driver : DriverOver) (sections : List SaidSection) → Shows driver (over driver.maps_left (untold driver.kind)) sections (λ told. None) (λ m. m) (λ p s. Unit {0})
untold_shows driver sections = record {
  plans = λ nth told. refl;
  accepts = λ bits told. refl;
  goes = λ n p s turn q r takes fine. tt;
  asks = λ what rest s fine. refl;
  behind = λ what rest s reply fine. refl;
  makes = λ p s fine n op e before after call h. made_untold driver.kind s.maps n op e before after call h;
  starts = refl;
  setup = λ told. tt;
  actors = λ names s fine n told. tt;
  after = λ last names s fine. tt;
}

-- one that makes no entries of its own, over ports that take no maps
abbrev PlainIn : List SaidSection → Program Names → Carried → Type 0
PlainIn sections p s = (s.maps ≡ no_maps 0) ⊎ ((has_aggregate sections ≡ false) × AsksNoChips p × (s.maps.kept ≡ []))

plain_kept : (sections : List SaidSection) (p : Program Names) (s : Carried) → PlainIn sections p s → s.maps.kept ≡ []
plain_kept sections p s (inl none) = ap (λ (m : Maps). m.kept) none
plain_kept sections p s (inr none) = none.2

plain_goes : (driver : DriverKind) (sections : List SaidSection) (n : ℕ) (p : Program Names) (s : Carried) (turn : Turn) (q : Program Names) (r : Carried) → Takes driver n p s turn q r → PlainIn sections p s → PlainIn sections q r
plain_goes driver sections n p s turn q r takes (inl none) = inl (zero_turn driver n p s turn q r takes none)
plain_goes driver sections n p s turn q r takes (inr none) = let on = turn_stays driver n p s turn q r none.1 takes in inr (none.0, on.0, ap (λ (m : Maps). m.kept) on.1 ∙ none.2)

plain_asking : (what : Do) → IsPlain what → (m k : Maps) (files : List OpenFile) → asking_with m files what ≡ asking_with k files what
plain_asking (Aggregate label slots count) by_files m k files = absurd by_files
plain_asking what by_files m k files = refl

plain_asks : (sections : List SaidSection) (what : Do) (rest : Got → Program Names) (s : Carried) → PlainIn sections (ask what rest) s → asking_with (no_maps 0) s.files what ≡ asking_with s.maps s.files what
plain_asks sections what rest s (inl none) = ap (λ (m : Maps). asking_with m s.files what) (sym none)
plain_asks sections what rest s (inr none) = plain_asking what none.1.0 (no_maps 0) s.maps s.files

plain_starts : (driver : DriverOver) (sections : List SaidSection) → KeepsNoMaps driver sections → (told : Option Told) → PlainIn sections (setup_of sections) (carried [] told (start_maps driver))
plain_starts driver sections (inl none) told = inl (ap no_maps none)
plain_starts driver sections (inr without) told = inr (without, (asks_none sections without).setup, refl)

plain_then : (sections : List SaidSection) (p q : Program Names) (s r : Carried) → (has_aggregate sections ≡ false → AsksNoChips q) → r.maps ≡ s.maps → PlainIn sections p s → PlainIn sections q r
plain_then sections p q s r asks same (inl none) = inl (same ∙ none)
plain_then sections p q s r asks same (inr none) = inr (none.0, asks none.0, ap (λ (m : Maps). m.kept) same ∙ none.2)

plainly_shows : (driver : DriverOver) (sections : List SaidSection) → KeepsNoMaps driver sections → Shows driver (over 0 (as_plain driver.kind)) sections (λ told. told) (λ m. no_maps 0) (PlainIn sections)
plainly_shows driver sections none = record {
  plans = λ nth told. refl;
  accepts = λ bits told. refl;
  goes = λ n p s turn q r takes fine. plain_goes driver.kind sections n p s turn q r takes fine;
  asks = λ what rest s fine. plain_asks sections what rest s fine;
  behind = λ what rest s reply fine. sym (no_maps_behind what reply s.files);
  makes = λ p s fine n op e before after call h. made_plainly driver.kind s.maps (plain_kept sections p s fine) n op e before after call h;
  starts = refl;
  setup = plain_starts driver sections none;
  actors = λ names s fine n told. plain_then sections (done names) (program_of sections n) s (carried [] told s.maps) (λ without. (asks_none sections without).actors n) refl fine;
  after = λ last names s fine. plain_then sections (done last) (after_of sections names) s s (λ without. (asks_none sections without).after names) refl fine;
}

-- of all actors
module _ (driver : DriverOver) (before left : ℕ → Option Told) (sections : List SaidSection) (history : List OneEntry) where
  -- whatever the ports told, the history and the texts are those of the talks
  pub many_played : (texts : Texts) → AllPlayed driver before left sections history texts → Many driver sections history texts
  many_played texts h = all_shown driver (over driver.maps_left (untold driver.kind)) sections (λ told. None) (λ m. m) (λ p s. Unit {0}) (untold_shows driver sections) before left silent silent (λ n. refl) (λ n. refl) history texts h

  -- where no port keeps a map it is one that makes no entries of its own
  pub played_plainly : KeepsNoMaps driver sections → (texts : Texts) → AllPlayed driver before left sections history texts → AllPlayed (over 0 (as_plain driver.kind)) before left sections history texts
  played_plainly none texts h = all_shown driver (over 0 (as_plain driver.kind)) sections (λ told. told) (λ m. no_maps 0) (PlainIn sections) (plainly_shows driver sections none) before left before left (λ n. refl) (λ n. refl) history texts h

  module _ (other : ℕ → Option Told) where
    abbrev played_other : (n : ℕ) (p : Program Names) (m : Maps) (text : List ℕ) (did : List OneDeed) (names : Names) (r : Carried) → before n ≡ other n → Played driver.kind n p (carried [] (before n) m) text did names r → Played driver.kind n p (carried [] (other n) m) text did names r
    played_other n p m text did names r same h = record {
      turns = h.turns;
      follows = subst (λ t. Follows driver.kind n p (carried [] t m) h.turns (done names) r) same h.follows;
      text_is = h.text_is;
      did_is = h.did_is;
    }

    actors_of_other : (m : Maps) (n : ℕ) (texts : List (List ℕ)) → ((k : ℕ) → k < n + length texts → before k ≡ other k) → ActorsPlayed driver before left sections history m n texts → ActorsPlayed driver other left sections history m n texts
    actors_of_other m n [] same h = tt
    actors_of_other m n (text ∷ texts) same h = (
      record {
        names = h.0.names;
        behind = h.0.behind;
        played = played_other n (program_of sections n) m text (deeds_of core n history) h.0.names h.0.behind (same n (omega arith)) h.0.played;
        within = h.0.within;
        left_is = h.0.left_is;
      },
      actors_of_other m (n + 1) texts (λ k less. same k (omega arith)) h.1,
    )

    -- over ports that told the same
    pub all_of_other : (texts : Texts) → ((k : ℕ) → k ≤ length (actor_sections sections) → before k ≡ other k) → AllPlayed driver before left sections history texts → AllPlayed driver other left sections history texts
    all_of_other texts same h = let many = h.as_many in record {
      legal = h.legal;
      first = h.first;
      middle = h.middle;
      last = h.last;
      is = h.is;
      others_not_first = h.others_not_first;
      zero_not_between = h.zero_not_between;
      others_not_last = h.others_not_last;
      names = h.names;
      waiting = h.waiting;
      setup = played_other 0 (setup_of sections) (start_maps driver) texts.setup (deeds_of core 0 h.first) h.names h.waiting (same 0 (omega arith)) h.setup;
      setup_within = h.setup_within;
      end = h.end;
      behind = h.behind;
      after = h.after;
      after_within = h.after_within;
      left_is = h.left_is;
      actors = actors_of_other h.waiting.maps 1 texts.actors (λ k less. same k (omega arith)) h.actors;
      as_many = h.as_many;
      nobody_else = h.nobody_else;
    }

pub planned_played : (driver : DriverOver) (before left : ℕ → Option Told) (sections : List SaidSection) (history : List OneEntry) (texts : Texts) → driver.kind.is_planned ≡ true → ((k : ℕ) → k ≤ length (actor_sections sections) → before k ≡ Some new_port)
    → AllPlayed driver before left sections history texts → PlannedTells driver sections history texts
planned_played driver before left sections history texts is new h = (
  left,
  all_of_other (over driver.maps_left (planning driver.kind)) before left sections history all_new texts new
      (subst (λ (b : Bool). AllPlayed (over driver.maps_left (record driver.kind { is_planned = b })) before left sections history texts) is h),
)
