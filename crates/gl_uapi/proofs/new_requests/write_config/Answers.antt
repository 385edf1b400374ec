use Rattle.std.proofs.Common.{◌≡◌, List, ℕ, take, drop, subst, sym, ap, ◌∙◌}
use Rattle.std.proofs.lemmas.List.{take_at}
use Rattle.gl_uapi.specs.LineConfig.{SpellsConfig}
use Rattle.gl_uapi.specs.NewRequest.{new_config, new_config_bytes}
use Rattle.gl_uapi.proofs.NewRequests.{length-new_config_bytes, config_spelled}
use Rattle.gl_uapi.proofs.Writing.{overwritten_front}
use Rattle.gl_uapi.proofs.new_requests.write_config.Goals as goal

pub returns-clause-bytes : goal.returns-clause-bytes
returns-clause-bytes c =
    overwritten_front 272 (new_config_bytes c.args.flags c.args.attributes.now) c.args.out.now c.put_config.new.out (length-new_config_bytes c.args.flags c.args.attributes.now c.requires.attributes) c.put_config.ensures

pub returns-clause-spelled : goal.returns-clause-spelled
returns-clause-spelled c = λ fits.
    let bytes : List ℕ = new_config_bytes c.args.flags c.args.attributes.now in
    let front : take 272 c.put_config.new.out ≡ bytes =
    ap (take 272) (returns-clause-bytes c) ∙ take_at bytes (drop 272 c.args.out.now) 272 (length-new_config_bytes c.args.flags c.args.attributes.now c.requires.attributes) in
    let S : List ℕ → Type 0 = λ bs. SpellsConfig bs (new_config c.args.flags c.args.attributes.now) in
    subst S (sym front) (config_spelled c.args.flags c.args.attributes.now c.requires.attributes fits)
