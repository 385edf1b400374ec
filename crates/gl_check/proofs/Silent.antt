-- What actors carried out, whatever their ports told: the same holds over ports that tell nothing.
use Rattle.std.proofs.Common.{◌≡◌, ℕ, ◌+◌, Bool, true, false, List, [], ◌∷◌, ◌++◌, Option, None, Some, refl, ap, subst}
use Rattle.std.specs.Prelude.{is_some}
use Rattle.std.proofs.lemmas.Bool.{false≢true}
use Rattle.gl_world.specs.Deeds.{deeds_from, deeds_of, entries_in}
use Rattle.gl_world.specs.History.{fold}
use Rattle.gl_client.specs.Program.{Program, done}
use Rattle.gl_driver.specs.Told.{Told}
use Rattle.gl_driver.specs.declared.map.Map.{Map}
use Rattle.gl_base.specs.declared.op.Op.{Op}
use Rattle.gl_script.specs.Section.{SaidSection}
use Rattle.gl_core.specs.Device.{OneDeed, OneEntry, core}
use Rattle.gl_model.specs.declared.device_call.DeviceCall.{DeviceCall}
use Rattle.gl_model.specs.declared.device_call.DeviceCall.TheVariants.{Once, Removing, Commanding}
use Rattle.gl_asking.specs.declared.kinds.Asking.{Asking}
use Rattle.gl_asking.specs.declared.kinds.Asking.TheVariants.{Calls, Plans, Accepts, Refuses}
use Rattle.gl_asking.specs.Driving.{op_asked}
use Rattle.gl_check.specs.Drivers.{DriverKind, DriverOver, Gives, MayMake, over, start_maps, untold}
use Rattle.gl_check.specs.Joining.{Maps, asking_with}
use Rattle.gl_check.specs.Many.{ActorsPlayed, AllPlayed, Many, Texts, program_of, silent}
use Rattle.gl_check.specs.Programs.{after_of, setup_of}
use Rattle.gl_check.specs.Turns.{Carried, Did, Exchange, Follows, IsDone, Played, PortBy, Said, Takes, Turn, carried, map_of, was_asked}

abbrev pub silenced : Carried → Carried
silenced s = carried s.files None s.maps

module _ (driver : DriverKind) (n : ℕ) where
  same_map : (m : Maps) (call : DeviceCall) → map_of driver m call ≡ map_of (untold driver) m call
  same_map m (Once call) = refl
  same_map m (Removing removal) = refl
  same_map m (Commanding c) = refl

  may_make : (map : Option Map) (op : Op) (own : List OneEntry) → MayMake driver map op own → MayMake (untold driver) map op own
  may_make None op own h = h
  may_make (Some map) op own h = h

  gives_untold : (map : Option Map) (told : Option Told) (op : Op) (did : List OneDeed) (room seen : ℕ) (answer : Option ℕ) → Gives driver map told op did room seen answer → Gives (untold driver) map None op did room seen answer
  gives_untold None told op did room seen answer h = λ is. absurd (false≢true is)
  gives_untold (Some map) told op did room seen answer h = (told, h)

  port_silenced : (asked : Bool) (map : Option Map) (op : Option Op) (e : Exchange) (before after : Option Told) → PortBy driver n asked map op e before after → PortBy (untold driver) n asked map op e None None
  port_silenced false map op e before after h = refl
  port_silenced true map op e before after h = record {
    asked_for = h.asked_for;
    is_this = h.is_this;
    ask = h.ask;
    inner = h.inner;
    tell = h.tell;
    deeds_are = h.deeds_are;
    inner_own = h.inner_own;
    may_make = may_make map h.asked_for e.own h.may_make;
    gives = gives_untold map before h.asked_for h.inner e.room e.seen e.answer h.gives;
    told_then = refl;
  }

  done_silenced : (m : Maps) (a : Asking) (op : Option Op) (e : Exchange) (before after : Option Told) → IsDone driver n m a op e before after → IsDone (untold driver) n m a op e None None
  done_silenced m (Calls call) op e before after h = record {
    mapped_is = subst (λ (map : Option Map). e.mapped ≡ is_some map) (same_map m call) h.mapped_is;
    makes = h.makes;
    few_own = h.few_own;
    may_own = h.may_own;
    reply_is = h.reply_is;
    bytes_are = h.bytes_are;
    port = subst (λ (map : Option Map). PortBy (untold driver) n (was_asked call (entries_in e.did)) map op e None None) (same_map m call)
        (port_silenced (was_asked call (entries_in e.did)) (map_of driver m call) op e before after h.port);
  }
  done_silenced m (Plans nth) op e before after h = (record { did = h.0.did; reply_is = h.0.reply_is; bytes_are = h.0.bytes_are }, refl)
  done_silenced m (Accepts bits) op e before after h = (record { did = h.0.did; reply_is = h.0.reply_is; bytes_are = h.0.bytes_are }, refl)
  done_silenced m (Refuses errno) op e before after h = (record { did = h.0.did; reply_is = h.0.reply_is; bytes_are = h.0.bytes_are }, refl)

  module _ {A : Type 0} where
    takes_silenced : (p : Program A) (s : Carried) (turn : Turn) (q : Program A) (r : Carried) → Takes driver n p s turn q r → Takes (untold driver) n p (silenced s) turn q (silenced r)
    takes_silenced p s (Said text) q r h = (h.0, ap silenced h.1)
    takes_silenced p s (Did e) q r h = (h.0, h.1, h.2, record { is_done = done_silenced s.maps (asking_with s.maps s.files e.what) (op_asked s.files e.what) e s.told r.told h.3.is_done; files = h.3.files; maps = h.3.maps })

    follows_silenced : (p : Program A) (s : Carried) (turns : List Turn) (q : Program A) (r : Carried) → Follows driver n p s turns q r → Follows (untold driver) n p (silenced s) turns q (silenced r)
    follows_silenced p s [] q r h = (h.0, ap silenced h.1)
    follows_silenced p s (turn ∷ turns) q r h = (h.0, silenced h.1, takes_silenced p s turn h.0 h.1 h.2, follows_silenced h.0 h.1 turns q r h.3)

    played_silenced : (p : Program A) (s : Carried) (text : List ℕ) (did : List OneDeed) (value : A) (r : Carried) → Played driver n p s text did value r → Played (untold driver) n p (silenced s) text did value (silenced r)
    played_silenced p s text did value r h = record { turns = h.turns; follows = follows_silenced p s h.turns (done value) r h.follows; text_is = h.text_is; did_is = h.did_is }

-- of all actors
module _ (driver : DriverOver) (before left : ℕ → Option Told) (sections : List SaidSection) (history : List OneEntry) where
  actors_silenced : (m : Maps) (n : ℕ) (texts : List (List ℕ)) → ActorsPlayed driver before left sections history m n texts
      → ActorsPlayed (over driver.maps_left (untold driver.kind)) silent silent sections history m n texts
  unfolding played_silenced
  actors_silenced m n [] h = tt
  actors_silenced m n (text ∷ texts) h = (
    record {
      names = h.0.names;
      behind = silenced h.0.behind;
      played = played_silenced driver.kind n (program_of sections n) (carried [] (before n) m) text (deeds_of core n history) h.0.names h.0.behind h.0.played;
      within = h.0.within;
      left_is = refl;
    },
    actors_silenced m (n + 1) texts h.1,
  )

  -- whatever the ports told, the history and the texts are those of the talks
  pub without_ports : (texts : Texts) → AllPlayed driver before left sections history texts → Many driver sections history texts
  unfolding played_silenced
  without_ports texts h = record {
    legal = h.legal;
    first = h.first;
    middle = h.middle;
    last = h.last;
    is = h.is;
    others_not_first = h.others_not_first;
    zero_not_between = h.zero_not_between;
    others_not_last = h.others_not_last;
    names = h.names;
    waiting = silenced h.waiting;
    setup = played_silenced driver.kind 0 (setup_of sections) (carried [] (before 0) (start_maps driver)) texts.setup (deeds_of core 0 h.first) h.names h.waiting h.setup;
    setup_within = h.setup_within;
    end = h.end;
    behind = silenced h.behind;
    after = played_silenced driver.kind 0 (after_of sections h.names) h.waiting texts.last (deeds_from core (fold core (h.first ++ h.middle)) 0 h.last) h.end h.behind h.after;
    after_within = h.after_within;
    left_is = refl;
    actors = actors_silenced h.waiting.maps 1 texts.actors h.actors;
    as_many = h.as_many;
    nobody_else = h.nobody_else;
  }
