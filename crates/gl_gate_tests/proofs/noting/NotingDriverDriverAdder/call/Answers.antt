use Rattle.std.proofs.Common.{[], ◌∷◌, arith, refl}
use Rattle.gl_driver.specs.OwnEntries.{made_deed}
use Rattle.gl_gate_tests.specs.declared.adder_call.AdderCall.TheVariants.{Alone}
use Rattle.gl_gate_tests.specs.contracts.adder.AdderMachine.TheImpl.{ghosts}
use Rattle.gl_gate_tests.proofs.noting.NotingDriverDriverAdder.call.Goals as goal

pub returns-in-Ok-clause-drives : goal.returns-in-Ok-clause-drives
returns-in-Ok-clause-drives g c = let e = c.in-Ok.ensures in record {
  did = made_deed ghosts c.args.pass.now.view Alone c.in-Ok.number _ _ c.act.new.pass.view e.acts ∷ [];
  few = omega arith;
  own = refl;
  back = c.call_is_own.ensures c.args.pass.now.view Alone c.in-Ok.number _ _ c.act.new.pass.view e.acts e.same e.no_turn refl refl;
  told = refl;
  follows = tt;
}

pub returns-in-Err-clause-drives : goal.returns-in-Err-clause-drives
returns-in-Err-clause-drives g c = let e = c.in-Err.ensures in record {
  did = [];
  few = omega arith;
  own = tt;
  back = c.refusal_is_none.ensures c.args.pass.now.view Alone c.act.new.pass.view e.refuses e.same e.no_turn c.number-number.ensures.own e.own;
  told = refl;
  follows = tt;
}
