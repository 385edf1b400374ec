use Rattle.std.proofs.Common.{◌≡◌, ◌-◌, ◌*◌, List, ℕ, length, take, drop, ◌++◌, subst, sym, ap, ◌∙◌, arith, length-append}
use Rattle.std.proofs.lemmas.List.{take_at}
use Rattle.gl_base.specs.Name.{field_of}
use Rattle.gl_uapi.specs.declared.new_requests.NewAttribute.{NewAttribute}
use Rattle.gl_uapi.specs.Fields.{number_bytes, zeros}
use Rattle.gl_uapi.specs.LineRequest.{SpellsRequest}
use Rattle.gl_uapi.specs.NewRequest.{offsets_bytes, new_config_bytes, new_request, new_request_bytes}
use Rattle.gl_uapi.proofs.Reading.{length-number_bytes, length-zeros}
use Rattle.gl_uapi.proofs.NewRequests.{length-offsets_bytes, length-new_config_bytes, length-new_request_bytes, request_spelled}
use Rattle.gl_uapi.proofs.Writing.{overwritten_front, overwritten_more}
use Rattle.gl_uapi.proofs.new_requests.write_request.Goals as goal

pub returns-clause-bytes : goal.returns-clause-bytes
returns-clause-bytes c =
    let ns : List ℕ = c.args.offsets.now in
    let attrs : List NewAttribute = c.args.attributes.now in
    let xs : List ℕ = c.args.out.now in
    let n : ℕ = length ns in
    let name : List ℕ = field_of c.args.consumer.now in
    let config : List ℕ = new_config_bytes c.args.flags attrs in
    let offsets : List ℕ = offsets_bytes ns in
    let unused : List ℕ = zeros (256 - 4 * n) in
    let o = length-offsets_bytes ns in
    let two = overwritten_more 0 (4 * n) offsets unused xs c.put_offsets.new.out c.put_zeros.new.out (omega arith) c.put_offsets.ensures (omega (arith, o)) c.put_zeros.ensures in
    let first : length (offsets ++ unused) ≡ 256 = omega (arith, c.requires.lines, length-append offsets unused, o, length-zeros (256 - 4 * n)) in
    let three = overwritten_more 0 256 (offsets ++ unused) name xs c.put_zeros.new.out c.put_name.new.out (omega arith) two (omega (arith, first)) c.put_name.ensures.field in
    let named : length (offsets ++ unused ++ name) ≡ 288 = omega (arith, first, c.put_name.ensures.long, length-append (offsets ++ unused) name) in
    let four = overwritten_more 0 288 (offsets ++ unused ++ name) config xs c.put_name.new.out c.put_config.new.out (omega arith) three (omega (arith, named)) c.put_config.ensures in
    let configured : length (offsets ++ unused ++ name ++ config) ≡ 560 =
    omega (arith, named, length-append (offsets ++ unused ++ name) config, length-new_config_bytes c.args.flags attrs c.requires.attributes) in
    let five = overwritten_more 0 560 (offsets ++ unused ++ name ++ config) (number_bytes 4 n) xs c.put_config.new.out c.put_u32.new.out (omega arith) four (omega (arith, configured)) c.put_u32.ensures in
    let counted : length (offsets ++ unused ++ name ++ config ++ number_bytes 4 n) ≡ 564 =
    omega (arith, configured, length-append (offsets ++ unused ++ name ++ config) (number_bytes 4 n), length-number_bytes 4 n) in
    let six = overwritten_more 0 564 (offsets ++ unused ++ name ++ config ++ number_bytes 4 n) (number_bytes 4 c.args.events) xs c.put_u32.new.out c.put_u32-2.new.out (omega arith) five (omega (arith, counted)) c.put_u32-2.ensures in
    let sized : length (offsets ++ unused ++ name ++ config ++ number_bytes 4 n ++ number_bytes 4 c.args.events) ≡ 568 =
    omega (arith, counted, length-append (offsets ++ unused ++ name ++ config ++ number_bytes 4 n) (number_bytes 4 c.args.events), length-number_bytes 4 c.args.events) in
    let seven = overwritten_more 0 568 (offsets ++ unused ++ name ++ config ++ number_bytes 4 n ++ number_bytes 4 c.args.events) (zeros 24) xs c.put_u32-2.new.out c.put_zeros-2.new.out (omega arith) six (omega (arith, sized)) c.put_zeros-2.ensures in
    overwritten_front 592 (new_request_bytes ns c.args.consumer.now c.args.flags attrs c.args.events) xs c.put_zeros-2.new.out
    (length-new_request_bytes ns c.args.consumer.now c.args.flags attrs c.args.events c.requires.lines c.requires.attributes c.put_name.ensures.long) seven

pub returns-clause-spelled : goal.returns-clause-spelled
returns-clause-spelled c = λ fits.
    let ns : List ℕ = c.args.offsets.now in
    let attrs : List NewAttribute = c.args.attributes.now in
    let bytes : List ℕ = new_request_bytes ns c.args.consumer.now c.args.flags attrs c.args.events in
    let long = length-new_request_bytes ns c.args.consumer.now c.args.flags attrs c.args.events c.requires.lines c.requires.attributes c.put_name.ensures.long in
    let front : take 592 c.put_zeros-2.new.out ≡ bytes = ap (take 592) (returns-clause-bytes c) ∙ take_at bytes (drop 592 c.args.out.now) 592 long in
    let S : List ℕ → Type 0 = λ bs. SpellsRequest bs (new_request ns c.args.consumer.now c.args.flags attrs c.args.events) in
    subst S (sym front) (request_spelled ns c.args.consumer.now c.args.flags attrs c.args.events c.requires.lines c.requires.attributes c.put_name.ensures.long fits)
