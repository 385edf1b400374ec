use Rattle.std.proofs.Common.{◌≡◌, IfErr, IfOk, subst, sym}
use Rattle.gl_base.specs.declared.errno.Errno.TheVariants.{NoMemory}
use Rattle.gl_model.specs.declared.device_call.DeviceCall.{DeviceCall}
use Rattle.gl_chip.specs.Orders.{Brings, DeviceCallTakesMemory}
use Rattle.gl_chip.proofs.BroughtMemory.{memory_of}
use Rattle.gl_chip.proofs.bringing.brought.Goals as goal

pub returns-in-Once-clause-ok : goal.returns-in-Once-clause-ok
returns-in-Once-clause-ok c = subst (λ (x : DeviceCall). IfOk c.gift_for.result (Brings x)) (sym c.in-Once.is) c.gift_for.ensures.ok

pub returns-in-Removing-clause-ok : goal.returns-in-Removing-clause-ok
returns-in-Removing-clause-ok c = subst (λ (x : DeviceCall). Brings x c.nothing.result) (sym c.in-Removing.is) tt

pub returns-in-Commanding-clause-ok : goal.returns-in-Commanding-clause-ok
returns-in-Commanding-clause-ok c = subst (λ (x : DeviceCall). IfOk c.brought_by.result (Brings x)) (sym c.in-Commanding.is) c.brought_by.ensures.ok

pub returns-in-Once-clause-memory : goal.returns-in-Once-clause-memory
returns-in-Once-clause-memory c = subst (λ (x : DeviceCall). IfErr c.gift_for.result (λ e. (e ≡ NoMemory) × DeviceCallTakesMemory x)) (sym c.in-Once.is) (memory_of c.gift_for.result _ c.gift_for.ensures.memory_alone c.gift_for.ensures.memory)

pub returns-in-Commanding-clause-memory : goal.returns-in-Commanding-clause-memory
returns-in-Commanding-clause-memory c = subst (λ (x : DeviceCall). IfErr c.brought_by.result (λ e. (e ≡ NoMemory) × DeviceCallTakesMemory x)) (sym c.in-Commanding.is) c.brought_by.ensures.memory
