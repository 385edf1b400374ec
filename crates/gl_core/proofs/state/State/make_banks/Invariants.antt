-- the first banks have become chips
use Rattle.std.proofs.Common.{◌≡◌, take}
use Rattle.gl_simtree.specs.Rows.{banks_of}
use Rattle.gl_core.specs.Live.{with_bank_chips}
use Rattle.gl_core.proofs.state.State.make_banks.Given as goal

abbrev pub invariant-loop-bank : goal.invariant-loop-bank
invariant-loop-bank l = l.self ≡ with_bank_chips l.device (take l.bank (banks_of l.device l.initial.self.tree)) l.initial.self
