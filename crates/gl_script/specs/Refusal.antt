-- The words of the kinds of fault. This project's choice.
use Rattle.std.specs.Prelude.{ℕ, List, codes}
use Rattle.gl_script.specs.declared.refusal.RefusalKind.{RefusalKind}
use Rattle.gl_script.specs.declared.refusal.RefusalKind.TheVariants.{TooLong, Byte, Header, Section, Statement, Words, Word, Name, Limit, Cost, NoMemory}

-- the word that stands for a kind
abbrev pub kind_word : RefusalKind → List ℕ
kind_word TooLong = codes "too-long"
kind_word Byte = codes "byte"
kind_word Header = codes "header"
kind_word Section = codes "section"
kind_word Statement = codes "statement"
kind_word Words = codes "words"
kind_word Word = codes "word"
kind_word Name = codes "name"
kind_word Limit = codes "limit"
kind_word Cost = codes "cost"
kind_word NoMemory = codes "memory"
