use Rattle.std.proofs.Common.{[], ◌∷◌, refl, ◌∙◌}
use Rattle.gl_script.specs.declared.said.Said.TheVariants.{Start as SaidStart}
use Rattle.gl_script.specs.declared.table.Form.TheVariants.{FileName, HeldTool}
use Rattle.gl_script.specs.Faults.{tail_fault}
use Rattle.gl_script.specs.Forms.{file_name_of}
use Rattle.gl_script.specs.Left.{left_in}
use Rattle.gl_script.specs.Said.{one}
use Rattle.gl_script.specs.Table.{Anything}
use Rattle.gl_script.proofs.OneByOne.{itself, misread_here, passed_on, read_on, two_words}
use Rattle.gl_script.proofs.rows.start_said.Goals as goal

pub text-requires : goal.text-requires
text-requires c = c.in_ok-name.ensures.short

pub returns-in_err-name : goal.returns-in_err-name
returns-in_err-name c =
    passed_on _ _ c.from_residual.result _ c.from_residual.ensures.1
    (misread_here FileName (HeldTool ∷ []) (tail_fault Anything) c.args.words.now.end (left_in c.args.words.now).words _ c.in_err-name.ensures.read)

pub returns-in_err-text : goal.returns-in_err-text
returns-in_err-text c =
    passed_on _ _ c.from_residual-in_err-text.result _ c.from_residual-in_err-text.ensures.1
    (read_on FileName (HeldTool ∷ []) (tail_fault Anything) file_name_of _ _ _ c.in_ok-name.ensures.read
    ∙ misread_here HeldTool [] (tail_fault Anything) c.file_name.new.self.end (left_in c.file_name.new.self).words _ c.in_err-text.ensures.read)

pub returns : goal.returns
returns c =
    two_words FileName HeldTool Anything file_name_of itself (λ name tool. one (λ name. SaidStart name) name)
    _ _ _ _ _ _ refl c.in_ok-name.ensures.read c.in_ok-text.ensures.read refl
