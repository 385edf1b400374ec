-- What was not found so far is what is left to find.
use Rattle.std.proofs.Common.{◌≡◌, ◌-◌}
use Rattle.gl_attrs.specs.Setting.{covers}
use Rattle.gl_attrs.proofs.Searching.{found_from}
use Rattle.gl_attrs.proofs.resolving.attribute_of.Given as goal

abbrev pub invariant-loop-k : goal.invariant-loop-k
invariant-loop-k l =
    found_from (covers l.id l.i) l.config l.k (l.count - l.k) ≡ found_from (covers l.id l.i) l.config 0 l.count
