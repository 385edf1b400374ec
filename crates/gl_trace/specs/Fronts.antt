-- The words at the front of a text, each with a blank (32) after it. This project's choice.
use Rattle.std.specs.Prelude.{ℕ, ◌==◌, if◌then◌else◌, List, [], ◌∷◌, Option, Some, None}
use Rattle.gl_trace.specs.declared.verb.Count.{Count}
use Rattle.gl_trace.specs.declared.verb.Count.TheVariants.{One, Two, Three, Four}

-- a word, and what stands after its blank
pub record Front : Type 0 where
  pub word : List ℕ
  pub rest : List ℕ

abbrev pub front : List ℕ → List ℕ → Front
front word rest = record { word = word; rest = rest }

abbrev pub onto_front : ℕ → Option Front → Option Front
onto_front byte None = None
onto_front byte (Some f) = Some (front (byte ∷ f.word) f.rest)

-- the first word of a text, if there is a blank
abbrev pub front_of : List ℕ → Option Front
front_of [] = None
front_of (byte ∷ bytes) = if byte == 32 then Some (front [] bytes) else onto_front byte (front_of bytes)

-- up to four words, and what stands after them
pub record Fields : Type 0 where
  pub first : List ℕ
  pub second : List ℕ
  pub third : List ℕ
  pub fourth : List ℕ
  pub rest : List ℕ

abbrev pub fields : List ℕ → List ℕ → List ℕ → List ℕ → List ℕ → Fields
fields first second third fourth rest = record { first = first; second = second; third = third; fourth = fourth; rest = rest }

abbrev pub with_first : Option Front → Option Fields
with_first None = None
with_first (Some f) = Some (fields f.word [] [] [] f.rest)

abbrev pub one_of : List ℕ → Option Fields
one_of text = with_first (front_of text)

abbrev pub with_second : Fields → Option Front → Option Fields
with_second got None = None
with_second got (Some f) = Some (fields got.first f.word [] [] f.rest)

abbrev pub second_of : Option Fields → Option Fields
second_of None = None
second_of (Some got) = with_second got (front_of got.rest)

abbrev pub two_of : List ℕ → Option Fields
two_of text = second_of (one_of text)

abbrev pub with_third : Fields → Option Front → Option Fields
with_third got None = None
with_third got (Some f) = Some (fields got.first got.second f.word [] f.rest)

abbrev pub third_of : Option Fields → Option Fields
third_of None = None
third_of (Some got) = with_third got (front_of got.rest)

abbrev pub three_of : List ℕ → Option Fields
three_of text = third_of (two_of text)

abbrev pub with_fourth : Fields → Option Front → Option Fields
with_fourth got None = None
with_fourth got (Some f) = Some (fields got.first got.second got.third f.word f.rest)

abbrev pub fourth_of : Option Fields → Option Fields
fourth_of None = None
fourth_of (Some got) = with_fourth got (front_of got.rest)

abbrev pub four_of : List ℕ → Option Fields
four_of text = fourth_of (three_of text)

-- so many words at the front of a text, if there are as many
abbrev pub fields_of : Count → List ℕ → Option Fields
fields_of One text = one_of text
fields_of Two text = two_of text
fields_of Three text = three_of text
fields_of Four text = four_of text
