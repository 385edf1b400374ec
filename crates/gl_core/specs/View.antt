-- What the core is seen as.
use Rattle.gl_core.specs.declared.state.State.TheInside.{Inside}
use Rattle.gl_core.specs.Kept.{Kept}

abbrev pub view_of : Inside → Kept
view_of c = record {
  chips = c.chips;
  origins = c.origins.items;
  places = c.places;
  timers = c.timers;
  requests = c.requests;
  files = c.files;
  tree = c.tree;
  next = c.next;
  mono = c.mono;
  real = c.real;
}
