use Rattle.gl_core.proofs.CommandKinds.{on_chip_comes, on_chip_leaves, on_request_comes, on_request_leaves}
use Rattle.gl_core.proofs.state.State.in_part.Goals as goal

pub returns-in-OnChip-clause-steps : goal.returns-in-OnChip-clause-steps
returns-in-OnChip-clause-steps c = let its = c.args.commanded.now in
    on_chip_comes c.args.actor its.place its.fd its.len its.bytes.now its.part c.args.self.now c.on_chip.new.self c.on_chip.result c.args.out.now c.on_chip.new.out c.args.command c.in-OnChip.command c.in-OnChip.ensures (c.on_chip.ensures c.args.actor)

pub returns-in-OnChip-clause-gift : goal.returns-in-OnChip-clause-gift
returns-in-OnChip-clause-gift c = on_chip_leaves c.args.commanded.now.part c.on_chip.result c.args.gift.now c.args.command c.in-OnChip.command c.in-OnChip.ensures

pub returns-in-OnRequest-clause-steps : goal.returns-in-OnRequest-clause-steps
returns-in-OnRequest-clause-steps c = let its = c.args.commanded.now in
    on_request_comes c.args.actor its.place its.fd its.len its.bytes.now its.part c.args.self.now c.on_request.new.self c.on_request.result c.args.out.now c.on_request.new.out c.args.command c.in-OnRequest.command c.in-OnRequest.ensures (c.on_request.ensures c.args.actor)

pub returns-in-OnRequest-clause-gift : goal.returns-in-OnRequest-clause-gift
returns-in-OnRequest-clause-gift c = on_request_leaves c.args.commanded.now.part c.on_request.result c.args.gift.now c.args.command c.in-OnRequest.command c.in-OnRequest.ensures
