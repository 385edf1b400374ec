use Rattle.std.proofs.Common.{arith}
use Rattle.gl_base.proofs.ChipWords.{word-chip_number, chip_number-word}
use Rattle.gl_base.proofs.chip.chip_words_are_three.Goals as goal

pub returns : goal.returns
returns c =
    (word-chip_number c.args.word.now c.args.number, chip_number-word c.args.word.now c.args.number (omega arith))
