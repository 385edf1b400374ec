use Rattle.std.proofs.Common.{ℕ, ◌<◌, Bool, List, Option, subst, sym, ◌∙◌}
use Rattle.std.specs.Prelude.{cond}
use Rattle.gl_base.specs.declared.op.Op.{Op}
use Rattle.gl_core.specs.Device.{core}
use Rattle.gl_rule.specs.Sums.{times}
use Rattle.gl_gate.specs.Calls.{MayName}
use Rattle.gl_model.specs.Fits.{Fits}
use Rattle.gl_model.specs.Parts.{in_ask, in_tell}
use Rattle.gl_model.specs.declared.call.Call.{Call}
use Rattle.gl_model.specs.declared.call.Part.TheVariants.{Ask, Tell}
use Rattle.gl_chip.specs.DriverCommands.{IsOp}
use Rattle.gl_chip.specs.Steps.{IsAsk, IsTell, Owes}
use Rattle.gl_chip.proofs.CommandCalls.{as_part, ask_is_ask, asked_and_told, asked_here, fits_after_go, fits_ask, fits_tell, go_left_buffer, named_inside, never_go, not_asked, tell_is_tell}
use Rattle.gl_chip.proofs.gpio.Gpio.command_inside.Goals as goal

pub ask-requires-clause-fits : goal.ask-requires-clause-fits
ask-requires-clause-fits g c κs within = subst (λ (x : Call). Fits x c.args.asked.now.gift c.args.out.now) (sym c.in_part-asking.ensures.part) (fits_ask c.args.asked.now.command.now c.args.out.now c.args.asked.now.gift c.requires.place c.requires.handed c.requires.brings)

pub ask-requires-clause-ask : goal.ask-requires-clause-ask
ask-requires-clause-ask g c κs within = subst (λ (x : Call). IsAsk core x) (sym c.in_part-asking.ensures.part) (ask_is_ask c.args.asked.now.command.now)

pub ask-requires-clause-named : goal.ask-requires-clause-named
ask-requires-clause-named g c κs within = let command = c.args.asked.now.command.now in
    subst (λ (x : Call). MayName core c.args.pass.now.view x) (sym c.in_part-asking.ensures.part) (named_inside c.args.pass.now.view command.place command.fd command.cmd command.len command.bytes Ask c.requires.inside)

pub returns-then-not-is_go-clause-called : goal.returns-then-not-is_go-clause-called
returns-then-not-is_go-clause-called g c =
    not_asked g.D.Port.Port.told g.D.Port.Port.faults g.D.Port.Port.maps g.D.Port.Port.maps_left g.D.Driver.OwnEntries g.D.Driver.Follows g.D.Driver.ENTRIES c.args.asked.now.op.now c.args.pass.now.view c.ask.new.pass.view c.args.port.now
    c.args.asked.now.command.now c.in-Ok.reply c.args.out.now c.ask.new.out (as_part c.args.pass.now.view c.ask.new.pass.view c.in_part-asking.result (in_ask c.args.asked.now.command.now) c.in-Ok.reply c.args.out.now c.ask.new.out c.in_part-asking.ensures.part c.in-Ok.ensures.called) (sym c.if-not-is_go.ensures)

pub drive-answer-requires-clause-op : goal.drive-answer-requires-clause-op
drive-answer-requires-clause-op g c κs within = subst (λ (o : Option Op). IsOp o) c.in-Some.is (fits_after_go c.args.pass.now.view c.ask.new.pass.view c.args.asked.now.command.now c.args.asked.now.op.now c.in-Ok.reply c.args.out.now c.ask.new.out (as_part c.args.pass.now.view c.ask.new.pass.view c.in_part-asking.result (in_ask c.args.asked.now.command.now) c.in-Ok.reply c.args.out.now c.ask.new.out c.in_part-asking.ensures.part c.in-Ok.ensures.called) (sym c.if-not-is_go.ensures) c.requires.op)

pub returns-in-None-clause-called : goal.returns-in-None-clause-called
returns-in-None-clause-called g c =
    not_asked g.D.Port.Port.told g.D.Port.Port.faults g.D.Port.Port.maps g.D.Port.Port.maps_left g.D.Driver.OwnEntries g.D.Driver.Follows g.D.Driver.ENTRIES c.args.asked.now.op.now c.args.pass.now.view c.ask.new.pass.view c.args.port.now
    c.args.asked.now.command.now c.in-Ok.reply c.args.out.now c.ask.new.out (as_part c.args.pass.now.view c.ask.new.pass.view c.in_part-asking.result (in_ask c.args.asked.now.command.now) c.in-Ok.reply c.args.out.now c.ask.new.out c.in_part-asking.ensures.part c.in-Ok.ensures.called)
    (never_go c.in-Ok.reply (λ go. subst (λ (o : Option Op). IsOp o) c.in-None.is (fits_after_go c.args.pass.now.view c.ask.new.pass.view c.args.asked.now.command.now c.args.asked.now.op.now c.in-Ok.reply c.args.out.now c.ask.new.out (as_part c.args.pass.now.view c.ask.new.pass.view c.in_part-asking.result (in_ask c.args.asked.now.command.now) c.in-Ok.reply c.args.out.now c.ask.new.out c.in_part-asking.ensures.part c.in-Ok.ensures.called) go c.requires.op)))

pub returns-in-None-clause-owes : goal.returns-in-None-clause-owes
returns-in-None-clause-owes g c = subst (λ (b : Bool). Owes core c.ask.new.pass.view (cond b 1 0))
    (never_go c.in-Ok.reply (λ go. subst (λ (o : Option Op). IsOp o) c.in-None.is (fits_after_go c.args.pass.now.view c.ask.new.pass.view c.args.asked.now.command.now c.args.asked.now.op.now c.in-Ok.reply c.args.out.now c.ask.new.out (as_part c.args.pass.now.view c.ask.new.pass.view c.in_part-asking.result (in_ask c.args.asked.now.command.now) c.in-Ok.reply c.args.out.now c.ask.new.out c.in_part-asking.ensures.part c.in-Ok.ensures.called) go c.requires.op))) (subst (λ (x : Call). Owes core c.ask.new.pass.view (cond (core.begins x c.in-Ok.reply) 1 0)) c.in_part-asking.ensures.part c.in-Ok.ensures.owes)

pub tell-requires-clause-fits : goal.tell-requires-clause-fits
tell-requires-clause-fits g c κs within =
    subst (λ (x : Call). Fits x c.ask.new.gift c.ask.new.out) (sym c.in_part-telling.ensures.part) (
    fits_tell c.args.asked.now.command.now c.args.out.now c.ask.new.out c.drive-answer.result c.ask.new.gift c.requires.place c.requires.handed
    (go_left_buffer c.args.pass.now.view c.ask.new.pass.view c.args.asked.now.command.now c.in-Ok.reply c.args.out.now c.ask.new.out (as_part c.args.pass.now.view c.ask.new.pass.view c.in_part-asking.result (in_ask c.args.asked.now.command.now) c.in-Ok.reply c.args.out.now c.ask.new.out c.in_part-asking.ensures.part c.in-Ok.ensures.called) (sym c.if-not-is_go.ensures))
    )

pub tell-requires-clause-tell : goal.tell-requires-clause-tell
tell-requires-clause-tell g c κs within = subst (λ (x : Call). IsTell core x) (sym c.in_part-telling.ensures.part) (tell_is_tell c.drive-answer.result c.args.asked.now.command.now)

pub tell-requires-clause-named : goal.tell-requires-clause-named
tell-requires-clause-named g c κs within = let command = c.args.asked.now.command.now in
    subst (λ (x : Call). MayName core c.drive-answer.new.pass.view x) (sym c.in_part-telling.ensures.part) (named_inside c.drive-answer.new.pass.view command.place command.fd command.cmd command.len command.bytes (Tell c.drive-answer.result)
    (subst (λ (l : List ℕ). 0 < times command.place l) (sym (c.drive-answer.ensures.drives.back.inside ∙ c.in-Ok.ensures.called.same.inside)) c.requires.inside))

pub drive-answer-requires-clause-asked_here : goal.drive-answer-requires-clause-asked_here
drive-answer-requires-clause-asked_here g c κs within = asked_here c.args.pass.now.view c.ask.new.pass.view c.args.asked.now.command.now c.in-Ok.reply c.args.out.now c.ask.new.out (as_part c.args.pass.now.view c.ask.new.pass.view c.in_part-asking.result (in_ask c.args.asked.now.command.now) c.in-Ok.reply c.args.out.now c.ask.new.out c.in_part-asking.ensures.part c.in-Ok.ensures.called)

pub drive-answer-requires-clause-owes : goal.drive-answer-requires-clause-owes
drive-answer-requires-clause-owes g c κs within = subst (λ (b : Bool). Owes core c.ask.new.pass.view (cond b 1 0)) (sym c.if-not-is_go.ensures) (subst (λ (x : Call). Owes core c.ask.new.pass.view (cond (core.begins x c.in-Ok.reply) 1 0)) c.in_part-asking.ensures.part c.in-Ok.ensures.owes)

pub returns-then-not-is_go-clause-owes : goal.returns-then-not-is_go-clause-owes
returns-then-not-is_go-clause-owes g c = subst (λ (b : Bool). Owes core c.ask.new.pass.view (cond b 1 0)) (sym c.if-not-is_go.ensures) (subst (λ (x : Call). Owes core c.ask.new.pass.view (cond (core.begins x c.in-Ok.reply) 1 0)) c.in_part-asking.ensures.part c.in-Ok.ensures.owes)

pub returns-else-not-is_go-clause-called : goal.returns-else-not-is_go-clause-called
returns-else-not-is_go-clause-called g c =
    let d = c.drive-answer.ensures.drives in
    asked_and_told g.D.Port.Port.told g.D.Port.Port.faults g.D.Port.Port.maps g.D.Port.Port.maps_left g.D.Driver.OwnEntries g.D.Driver.Follows g.D.Driver.ENTRIES c.args.asked.now.op.now c.in-Some.op c.args.pass.now.view c.ask.new.pass.view c.drive-answer.new.pass.view c.tell.new.pass.view
    c.args.port.now c.drive-answer.new.port c.args.asked.now.command.now c.in-Ok.reply c.drive-answer.result c.tell.result c.args.out.now c.ask.new.out c.tell.new.out
    (as_part c.args.pass.now.view c.ask.new.pass.view c.in_part-asking.result (in_ask c.args.asked.now.command.now) c.in-Ok.reply c.args.out.now c.ask.new.out c.in_part-asking.ensures.part c.in-Ok.ensures.called) (sym c.if-not-is_go.ensures) c.in-Some.is (subst (λ (o : Option Op). IsOp o) c.in-Some.is (fits_after_go c.args.pass.now.view c.ask.new.pass.view c.args.asked.now.command.now c.args.asked.now.op.now c.in-Ok.reply c.args.out.now c.ask.new.out (as_part c.args.pass.now.view c.ask.new.pass.view c.in_part-asking.result (in_ask c.args.asked.now.command.now) c.in-Ok.reply c.args.out.now c.ask.new.out c.in_part-asking.ensures.part c.in-Ok.ensures.called) (sym c.if-not-is_go.ensures) c.requires.op)) d (c.self.invariant.1 _ _ _ d.own) (as_part c.drive-answer.new.pass.view c.tell.new.pass.view c.in_part-telling.result (in_tell c.drive-answer.result c.args.asked.now.command.now) c.tell.result c.ask.new.out c.tell.new.out c.in_part-telling.ensures.part c.tell.ensures.called) c.drive-answer.ensures.maps c.drive-answer.ensures.maps_left c.drive-answer.ensures.never_falls c.drive-answer.ensures.fault c.drive-answer.ensures.counted

pub returns-else-not-is_go-clause-owes : goal.returns-else-not-is_go-clause-owes
returns-else-not-is_go-clause-owes g c = c.tell.ensures.owes

pub drive-answer-requires-clause-alone : goal.drive-answer-requires-clause-alone
drive-answer-requires-clause-alone g c κs within = λ p inside. c.requires.alone p (subst (λ (l : List ℕ). 0 < times p l) c.in-Ok.ensures.called.same.inside inside)

pub drive-answer-requires-clause-inside : goal.drive-answer-requires-clause-inside
drive-answer-requires-clause-inside g c κs within = subst (λ (l : List ℕ). 0 < times c.args.asked.now.command.now.place l) (sym c.in-Ok.ensures.called.same.inside) c.requires.inside

pub tell-requires-clause-owes : goal.tell-requires-clause-owes
tell-requires-clause-owes g c κs within = c.drive-answer.ensures.owes

pub drive-answer-requires-clause-quiet : goal.drive-answer-requires-clause-quiet
drive-answer-requires-clause-quiet g c κs within = λ map own its. (c.self.invariant.1 map c.in-Some.op own its).quiet
