use Rattle.std.proofs.Common.{◌≡◌, ◌++◌, [], ◌∷◌, take, ap, ◌∙◌}
use Rattle.gl_base.specs.BytesText.{bytes_text}
use Rattle.gl_base.specs.Decimal.{decimal}
use Rattle.gl_trace.specs.CallText.{part_word, answer_words}
use Rattle.gl_trace.specs.Words.{before, hex_word}
use Rattle.gl_trace.proofs.Putting.{put_more, put_last}
use Rattle.gl_trace.proofs.put_call.put_command.Goals as goal

pub returns-clause-ok : goal.returns-clause-ok
returns-clause-ok c =
    let out = c.args.out.now.items in
    let two = part_word c.args.part ∷ decimal c.args.place ∷ decimal c.args.fd ∷ [] in
    let hex = hex_word c.args.cmd ∷ [] in
    let len = decimal c.args.len ∷ [] in
    let bytes = bytes_text (take c.args.len c.args.bytes.now) ∷ [] in
    let began : c.put_on_file.new.out.items ≡ out ++ before two [] = c.in_ok-put_on_file.ensures.ok ∙ ap (λ w. out ++ before (w ∷ decimal c.args.place ∷ decimal c.args.fd ∷ []) []) c.part_verb.ensures in
    let numbered = put_more out c.put_on_file.new.out.items c.put_hex.new.out.items two hex began c.in_ok-put_hex.ensures.ok in
    let measured = put_more out c.put_hex.new.out.items c.put_length.new.out.items (two ++ hex) len numbered c.in_ok-put_length.ensures.ok in
    let filled : c.put_buffer.new.out.items ≡ c.put_length.new.out.items ++ before bytes [] = c.in_ok-put_buffer.ensures.ok ∙ ap (λ b. c.put_length.new.out.items ++ before (bytes_text b ∷ []) []) c.first_bytes.ensures in
    let told = put_more out c.put_length.new.out.items c.put_buffer.new.out.items (two ++ hex ++ len) bytes measured filled in
    put_last c.put_answer.result out c.put_buffer.new.out.items c.put_answer.new.out.items (two ++ hex ++ len ++ bytes) (answer_words c.args.part) told c.put_answer.ensures.ok
