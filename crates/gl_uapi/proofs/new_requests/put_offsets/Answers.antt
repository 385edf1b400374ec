use Rattle.std.proofs.Common.{◌≡◌, ◌+◌, ◌*◌, List, ℕ, length, take, get_or, ap, ◌∙◌, sym, arith}
use Rattle.std.proofs.lemmas.List.{length-take-le}
use Rattle.gl_uapi.specs.Fields.{overwritten, number_bytes}
use Rattle.gl_uapi.specs.NewRequest.{offsets_bytes}
use Rattle.gl_uapi.proofs.NewRequests.{offsets_more, length-offsets_bytes}
use Rattle.gl_uapi.proofs.Writing.{overwritten_more}
use Rattle.gl_uapi.proofs.new_requests.put_offsets.Goals as goal

pub loop-i-preserved : goal.loop-i-preserved
loop-i-preserved c =
    let ns : List ℕ = c.args.offsets.now in
    let i : ℕ = c.loop-i.i in
    let first : List ℕ = take i ns in
    let long : length (offsets_bytes first) ≡ 4 * i = length-offsets_bytes first ∙ ap (λ n. 4 * n) (length-take-le i ns (omega arith)) in
    overwritten_more c.args.start (c.args.start + 4 * i) (offsets_bytes first) (number_bytes 4 (get_or ns i 0)) c.args.out.now c.loop-i.out c.put_u32.new.out
    (omega arith) c.loop-i.invariant (omega (arith, long)) c.put_u32.ensures
    ∙ ap (λ bs. overwritten c.args.start bs c.args.out.now) (sym (offsets_more ns i (omega arith)))
