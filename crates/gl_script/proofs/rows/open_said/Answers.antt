use Rattle.std.proofs.Common.{[], ◌∷◌, refl, ◌∙◌}
use Rattle.gl_base.specs.Path.{path_of}
use Rattle.gl_script.specs.declared.said.Said.TheVariants.{Open as SaidOpen}
use Rattle.gl_script.specs.declared.table.Form.TheVariants.{FileName, Word}
use Rattle.gl_script.specs.Faults.{tail_fault}
use Rattle.gl_script.specs.Forms.{file_name_of}
use Rattle.gl_script.specs.Left.{left_in}
use Rattle.gl_script.specs.Said.{two}
use Rattle.gl_script.specs.Table.{NoMore}
use Rattle.gl_script.proofs.OneByOne.{misread_here, passed_on, read_on, two_words}
use Rattle.gl_script.proofs.rows.open_said.Goals as goal

pub chip_word-requires : goal.chip_word-requires
chip_word-requires c = c.in_ok-name.ensures.short

pub no_more-requires : goal.no_more-requires
no_more-requires c = c.in_ok-word.ensures.short

pub returns-in_err-name : goal.returns-in_err-name
returns-in_err-name c =
    passed_on _ _ c.from_residual.result _ c.from_residual.ensures.1
    (misread_here FileName (Word ∷ []) (tail_fault NoMore) c.args.words.now.end (left_in c.args.words.now).words _ c.in_err-name.ensures.read)

pub returns-in_err-word : goal.returns-in_err-word
returns-in_err-word c =
    passed_on _ _ c.from_residual-in_err-word.result _ c.from_residual-in_err-word.ensures.1
    (read_on FileName (Word ∷ []) (tail_fault NoMore) file_name_of _ _ _ c.in_ok-name.ensures.read
    ∙ misread_here Word [] (tail_fault NoMore) c.file_name.new.self.end (left_in c.file_name.new.self).words _ c.in_err-word.ensures.read)

pub returns-in_err-no_more : goal.returns-in_err-no_more
returns-in_err-no_more c =
    passed_on _ _ c.from_residual-in_err-no_more.result _ c.from_residual-in_err-no_more.ensures.1
    (read_on FileName (Word ∷ []) (tail_fault NoMore) file_name_of _ _ _ c.in_ok-name.ensures.read
    ∙ read_on Word [] (tail_fault NoMore) path_of _ _ _ c.in_ok-word.ensures.read
    ∙ c.in_err-no_more.ensures)

pub returns : goal.returns
returns c =
    two_words FileName Word NoMore file_name_of path_of (two (λ name word. SaidOpen name word))
    _ _ _ _ _ _ refl c.in_ok-name.ensures.read c.in_ok-word.ensures.read c.in_ok-no_more.ensures
