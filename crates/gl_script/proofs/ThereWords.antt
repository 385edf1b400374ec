-- A word that is one of some is there where it is looked for.
use Rattle.std.proofs.Common.{◌≡◌, ℕ, Bool, true, false, ◌||◌, List, refl}
use Rattle.std.specs.Prelude.{Some, None, if◌then◌else◌, is_some, codes}
use Rattle.std.specs.Str.{bytes_eq}
use Rattle.gl_base.specs.declared.irq.IrqDo.TheVariants.{Lock, Unlock, Enable, Disable, Never}
use Rattle.gl_script.specs.declared.forms.PinWord.TheVariants.{Range, Hold, Drop}
use Rattle.gl_script.specs.Forms.{irq_words, is_one_of, pin_words}
use Rattle.gl_script.specs.Left.{pin_word_of}
use Rattle.gl_script.specs.Said.{irq_of}

among_three : {A : Type 0} (a b c : Bool) (x y z : A) → is_some (if a then Some x else if b then Some y else if c then Some z else None) ≡ (a || (b || (c || false)))
among_three true b c x y z = refl
among_three false true c x y z = refl
among_three false false true x y z = refl
among_three false false false x y z = refl

among_five : {A : Type 0} (a b c d e : Bool) (v w x y z : A)
    → is_some (if a then Some v else if b then Some w else if c then Some x else if d then Some y else if e then Some z else None) ≡ (a || (b || (c || (d || (e || false)))))
among_five true b c d e v w x y z = refl
among_five false true c d e v w x y z = refl
among_five false false c d e v w x y z = among_three c d e x y z

pub pin_word_there : (word : List ℕ) → is_some (pin_word_of word) ≡ is_one_of pin_words word
pin_word_there word = among_three (bytes_eq word (codes "range")) (bytes_eq word (codes "hold")) (bytes_eq word (codes "drop")) Range Hold Drop

pub irq_word_there : (word : List ℕ) → is_some (irq_of word) ≡ is_one_of irq_words word
irq_word_there word =
    among_five (bytes_eq word (codes "lock")) (bytes_eq word (codes "unlock")) (bytes_eq word (codes "enable")) (bytes_eq word (codes "disable")) (bytes_eq word (codes "none")) Lock Unlock Enable Disable Never
