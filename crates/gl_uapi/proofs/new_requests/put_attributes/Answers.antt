use Rattle.std.proofs.Common.{◌≡◌, ◌+◌, ◌*◌, List, ℕ, length, take, get_or, ap, ◌∙◌, sym, arith}
use Rattle.std.proofs.lemmas.List.{length-take-le}
use Rattle.gl_uapi.specs.declared.new_requests.AttributeValue.TheVariants.{Flags}
use Rattle.gl_uapi.specs.declared.new_requests.NewAttribute.{NewAttribute}
use Rattle.gl_uapi.specs.Fields.{overwritten}
use Rattle.gl_uapi.specs.NewRequest.{attributes_bytes, new_attribute_bytes}
use Rattle.gl_uapi.proofs.NewRequests.{attributes_more, length-attributes_bytes}
use Rattle.gl_uapi.proofs.Writing.{overwritten_more}
use Rattle.gl_uapi.proofs.new_requests.put_attributes.Goals as goal

pub loop-i-preserved : goal.loop-i-preserved
loop-i-preserved c =
    let attrs : List NewAttribute = c.args.attributes.now in
    let i : ℕ = c.loop-i.i in
    let first : List NewAttribute = take i attrs in
    let none : NewAttribute = record { value = Flags 0; mask = 0 } in
    let long : length (attributes_bytes first) ≡ 24 * i = length-attributes_bytes first ∙ ap (λ n. 24 * n) (length-take-le i attrs (omega arith)) in
    overwritten_more c.args.start (c.args.start + 24 * i) (attributes_bytes first) (new_attribute_bytes (get_or attrs i none)) c.args.out.now c.loop-i.out c.put_attribute.new.out
    (omega arith) c.loop-i.invariant (omega (arith, long)) c.put_attribute.ensures
    ∙ ap (λ bs. overwritten c.args.start bs c.args.out.now) (sym (attributes_more attrs i none (omega arith)))
