use Rattle.std.proofs.Common.{◌≡◌, ◌+◌, ◌++◌, ℕ, List, length, take, drop, min, ap, sym, ◌∙◌, inl, inr, arith}
use Rattle.std.proofs.lemmas.Bool.{cases_lt}
use Rattle.std.proofs.lemmas.List.{length-append, length-drop, length-take, take_all}
use Rattle.gl_uapi.specs.Fields.{number_bytes, overwritten}
use Rattle.gl_uapi.proofs.Reading.{length-number_bytes}
use Rattle.gl_core.proofs.claiming.write_with_fd.Goals as goal

-- the request with its number is as long as the request
length-answer : (fd : ℕ) (bytes : List ℕ) → length bytes ≡ 592 → length (overwritten 588 (number_bytes 4 fd) bytes) ≡ 592
length-answer fd bytes whole =
    let number : length (number_bytes 4 fd) ≡ 4 = length-number_bytes 4 fd in
    let front : length (take 588 bytes) ≡ min 588 (length bytes) = length-take 588 bytes in
    let back : length (drop (588 + length (number_bytes 4 fd)) bytes) ≡ 0 = length-drop (588 + length (number_bytes 4 fd)) bytes ∙ omega arith in
    let both : length (number_bytes 4 fd ++ drop (588 + length (number_bytes 4 fd)) bytes) ≡ length (number_bytes 4 fd) + length (drop (588 + length (number_bytes 4 fd)) bytes) = length-append (number_bytes 4 fd) _ in
    let all : length (overwritten 588 (number_bytes 4 fd) bytes) ≡ length (take 588 bytes) + length (number_bytes 4 fd ++ drop (588 + length (number_bytes 4 fd)) bytes) = length-append (take 588 bytes) _ in
    omega arith

-- as far as the buffer goes
first_part : (n len : ℕ) (answer : List ℕ) → length answer ≡ 592 → n ≡ min len 592 → take n answer ≡ take len answer
first_part n len answer size is = elim (cases_lt len 592) as (λ _. take n answer ≡ take len answer) [
  | inl short ↦ (let same : n ≡ len = omega arith in ap (λ m. take m answer) same)
  | inr long ↦ take_all n answer (omega arith) ∙ sym (take_all len answer (omega arith))
]

told : (n : ℕ) (answer out new : List ℕ) → length answer ≡ 592 → n ≡ min (length out) 592 → new ≡ take (length (take n out)) answer
    → new ++ drop n out ≡ take (length out) answer ++ drop (length (take (length out) answer)) out
told n answer out new size is written =
    let room : length (take n out) ≡ min n (length out) = length-take n out in
    let piece : length (take n out) ≡ min (length out) 592 = omega arith in
    let long : length (take (length out) answer) ≡ min (length out) (length answer) = length-take (length out) answer in
    let end : n ≡ length (take (length out) answer) = omega arith in
    ap (λ bytes. bytes ++ drop n out) (written ∙ first_part (length (take n out)) (length out) answer size piece)
    ∙ ap (λ m. take (length out) answer ++ drop m out) end

pub returns : goal.returns
returns c =
    told c.min-end.result (overwritten 588 (number_bytes 4 c.args.fd) c.args.request.now) c.args.out.now c.write_request_answer.new.out
    (length-answer c.args.fd c.args.request.now c.told-request) c.min-end.ensures c.write_request_answer.ensures
