use Rattle.std.proofs.Common.{◌≡◌, List, ℕ, take, drop, subst, sym, ap, ◌∙◌}
use Rattle.std.proofs.lemmas.List.{take_at}
use Rattle.gl_uapi.specs.LineConfig.{SpellsAttribute}
use Rattle.gl_uapi.specs.NewRequest.{new_attribute, new_attribute_bytes}
use Rattle.gl_uapi.proofs.NewRequests.{length-new_attribute_bytes, attribute_spelled}
use Rattle.gl_uapi.proofs.Writing.{overwritten_front}
use Rattle.gl_uapi.proofs.new_requests.write_attribute.Goals as goal

pub returns-clause-bytes : goal.returns-clause-bytes
returns-clause-bytes c =
    overwritten_front 24 (new_attribute_bytes c.args.attribute.now) c.args.out.now c.put_attribute.new.out (length-new_attribute_bytes c.args.attribute.now) c.put_attribute.ensures

pub returns-clause-spelled : goal.returns-clause-spelled
returns-clause-spelled c = λ fits.
    let a = c.args.attribute.now in
    let front : take 24 c.put_attribute.new.out ≡ new_attribute_bytes a =
    ap (take 24) (returns-clause-bytes c) ∙ take_at (new_attribute_bytes a) (drop 24 c.args.out.now) 24 (length-new_attribute_bytes a) in
    let S : List ℕ → Type 0 = λ bytes. SpellsAttribute bytes (new_attribute a) in
    subst S (sym front) (attribute_spelled a fits)
