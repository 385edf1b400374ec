-- The machine has the laws of every machine. So any list of events leads to a legal history.
use Rattle.gl_world.specs.Laws.{Laws}
use Rattle.gl_model.specs.Machine.{machine, Always, IsLegal}
use Rattle.gl_model.proofs.PhaseLaws.{begins_it, begins_them, ends_it, finishes, forward, opens_low, stays}
use Rattle.gl_model.proofs.Soundness.{keeps_sound, opens}
use Rattle.gl_model.specs.World.{World}
use Rattle.std.proofs.Common.{List}
use Rattle.gl_world.specs.Events.{AlwaysLegal, after_all, beginning}
use Rattle.gl_world.specs.declared.history.Entry.{Entry}
use Rattle.gl_world.proofs.Happenings.{always_legal}
use Rattle.gl_model.specs.declared.call.Call.{Call}
use Rattle.gl_model.specs.declared.gift.Gift.{Gift}
use Rattle.gl_model.specs.declared.reply.Reply.{Reply}

module _ {K : Type 0} (stands_for : K → World → Type 0) where
  pub machine_laws : Laws (machine stands_for)
  machine_laws = record {
    opens_sound = opens;
    keeps_sound = λ w by call s f. keeps_sound w by call s;
    opens_places = opens_low;
    goes_forward = λ w by call p s f. forward w by call p s;
    ends_place = λ w by call p s f. ends_it w by call p s;
    begins_place = λ w by call p s f. begins_it w by call p s;
    begins_removal = λ w by call p s f. begins_them w by call p s;
    removal_stays = λ w by call p s f. stays w by call p s;
    ends_removal = λ w by call p s f. finishes w by call p;
  }

  -- any list of events leads to a legal history, so what is true of those is true whatever happens
  pub runs_are_legal : AlwaysLegal (machine stands_for)
  runs_are_legal = always_legal (machine stands_for) machine_laws

  pub always : (P : List (Entry K Call Reply Gift) → Type 0) → ((history : List (Entry K Call Reply Gift)) → IsLegal stands_for history → P history) → Always stands_for P
  always P h = record {
    behind_a_history = h;
    whatever_happens = λ events can. h (after_all (machine stands_for) (beginning (machine stands_for)) events).history (runs_are_legal events can);
  }
