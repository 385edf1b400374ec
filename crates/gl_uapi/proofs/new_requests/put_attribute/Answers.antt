use Rattle.std.proofs.Common.{◌≡◌, ◌+◌, ◌++◌, List, ℕ, length, ap, ◌∙◌, arith, add-zero, length-append}
use Rattle.gl_uapi.specs.declared.new_requests.NewAttribute.{NewAttribute}
use Rattle.gl_uapi.specs.Fields.{number_bytes, overwritten, zeros}
use Rattle.gl_uapi.specs.NewRequest.{value_id, value_number}
use Rattle.gl_uapi.proofs.Reading.{length-number_bytes, length-zeros}
use Rattle.gl_uapi.proofs.Writing.{overwritten_more}
use Rattle.gl_uapi.proofs.new_requests.put_attribute.Goals as goal

pub returns : goal.returns
returns c =
    let a : NewAttribute = c.args.attribute.now in
    let s : ℕ = c.args.start in
    let xs : List ℕ = c.args.out.now in
    let id : List ℕ = number_bytes 4 (value_id a.value) in
    let number : List ℕ = number_bytes 8 (value_number a.value) in
    let one : c.put_u32.new.out ≡ overwritten s id xs =
    c.put_u32.ensures ∙ ap (λ n. overwritten n (number_bytes 4 c.id.result) xs) (add-zero s) ∙ ap (λ n. overwritten s (number_bytes 4 n) xs) c.id.ensures in
    let two = overwritten_more s (s + 4) id (zeros 4) xs c.put_u32.new.out c.put_zeros.new.out (omega arith) one (omega (arith, length-number_bytes 4 (value_id a.value))) c.put_zeros.ensures in
    let eight : length (id ++ zeros 4) ≡ 8 = simp (length-append, length-number_bytes, length-zeros) in
    let three = overwritten_more s (s + 8) (id ++ zeros 4) number xs c.put_zeros.new.out c.put_u64.new.out (omega arith) two (omega (arith, eight))
    (c.put_u64.ensures ∙ ap (λ n. overwritten (s + 8) (number_bytes 8 n) c.put_zeros.new.out) c.number.ensures) in
    let sixteen : length (id ++ zeros 4 ++ number) ≡ 16 = simp (length-append, length-number_bytes, length-zeros) in
    overwritten_more s (s + 16) (id ++ zeros 4 ++ number) (number_bytes 8 a.mask) xs c.put_u64.new.out c.put_u64-2.new.out (omega arith) three (omega (arith, sixteen)) c.put_u64-2.ensures
