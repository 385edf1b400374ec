use Rattle.std.proofs.Common.{◌≡◌, ◌+◌, ◌-◌, ◌*◌, ◌++◌, List, ℕ, length, ap, ◌∙◌, arith, add-zero, length-append}
use Rattle.gl_uapi.specs.declared.new_requests.NewAttribute.{NewAttribute}
use Rattle.gl_uapi.specs.Fields.{number_bytes, overwritten, zeros}
use Rattle.gl_uapi.specs.NewRequest.{attributes_bytes}
use Rattle.gl_uapi.proofs.Reading.{length-number_bytes, length-zeros}
use Rattle.gl_uapi.proofs.NewRequests.{length-attributes_bytes}
use Rattle.gl_uapi.proofs.Writing.{overwritten_more}
use Rattle.gl_uapi.proofs.new_requests.put_config.Goals as goal

pub returns : goal.returns
returns c =
    let attrs : List NewAttribute = c.args.attributes.now in
    let s : ℕ = c.args.start in
    let xs : List ℕ = c.args.out.now in
    let flags : List ℕ = number_bytes 8 c.args.flags in
    let count : List ℕ = number_bytes 4 (length attrs) in
    let used : List ℕ = attributes_bytes attrs in
    let one : c.put_u64.new.out ≡ overwritten s flags xs = c.put_u64.ensures ∙ ap (λ n. overwritten n flags xs) (add-zero s) in
    let two = overwritten_more s (s + 8) flags count xs c.put_u64.new.out c.put_u32.new.out (omega arith) one (omega (arith, length-number_bytes 8 c.args.flags)) c.put_u32.ensures in
    let twelve : length (flags ++ count) ≡ 12 = simp (length-append, length-number_bytes) in
    let three = overwritten_more s (s + 12) (flags ++ count) (zeros 20) xs c.put_u32.new.out c.put_zeros.new.out (omega arith) two (omega (arith, twelve)) c.put_zeros.ensures in
    let head : length (flags ++ count ++ zeros 20) ≡ 32 = simp (length-append, length-number_bytes, length-zeros) in
    let four = overwritten_more s (s + 32) (flags ++ count ++ zeros 20) used xs c.put_zeros.new.out c.put_attributes.new.out (omega arith) three (omega (arith, head)) c.put_attributes.ensures in
    let long : length (flags ++ count ++ zeros 20 ++ used) ≡ 32 + 24 * length attrs =
    omega (arith, length-append (flags ++ count ++ zeros 20) used, head, length-attributes_bytes attrs) in
    overwritten_more s (s + 32 + 24 * length attrs) (flags ++ count ++ zeros 20 ++ used) (zeros (240 - 24 * length attrs)) xs c.put_attributes.new.out c.put_zeros-2.new.out
    (omega arith) four (omega (arith, long)) c.put_zeros-2.ensures
