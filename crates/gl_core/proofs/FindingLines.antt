-- Lines that are found one after the other.
use Rattle.std.proofs.Common.{◌≡◌, ℕ, zero, suc, ◌+◌, ◌-◌, ◌<◌, ◌≤◌, Bool, true, false, List, [], ◌∷◌, ◌++◌, length, drop, Option, Some, refl, sym, ap, ◌∙◌, arith, append_assoc, length-append, append-nil}
use Rattle.std.specs.Option.{option_or}
use Rattle.std.specs.Prelude.{if◌then◌else◌}
use Rattle.std.specs.List.{flat_map}
use Rattle.std.specs.Str.{bytes_eq}
use Rattle.std.proofs.lemmas.List.{drop_more, drop_all}
use Rattle.gl_desc.proofs.Names.{further}
use Rattle.gl_desc.specs.Desc.{desc_at, first_desc}
use Rattle.gl_desc.specs.Names.{NamesEndBy}
use Rattle.gl_desc.specs.declared.desc.Desc.{Desc}
use Rattle.gl_model.specs.Chips.{places_from}
use Rattle.gl_model.specs.Opening.{named_from}
use Rattle.gl_core.specs.FoundLines.{first_of_lines, found_of, with_line, with_lines}
use Rattle.gl_core.specs.declared.finding.LinesFound.{LinesFound}

line_named : (b : Bool) (place offset : ℕ) (rest : List (ℕ × ℕ)) (found : LinesFound) → with_lines (if b then (place, offset) ∷ rest else rest) found ≡ with_lines rest (if b then with_line (place, offset) found else found)
line_named true place offset rest found = refl
line_named false place offset rest found = refl

-- one line more of a place
pub named_more : (name : List ℕ) (place i : ℕ) (descs : List Desc) (found : LinesFound) → i < length descs
    → with_lines (named_from name place i (drop i descs)) found
    ≡ with_lines (named_from name place (i + 1) (drop (i + 1) descs)) (if bytes_eq (desc_at descs i).name name then with_line (place, i) found else found)
named_more name place i descs found lt =
    ap (λ (ds : List Desc). with_lines (named_from name place i ds) found) (drop_more descs i first_desc lt)
    ∙ line_named (bytes_eq (desc_at descs i).name name) place i (named_from name place (i + 1) (drop (i + 1) descs)) found

-- no line of the place is left

pub named_all : (name : List ℕ) (place i : ℕ) (descs : List Desc) → length descs ≤ i → named_from name place i (drop i descs) ≡ []
named_all name place i descs le = ap (λ (ds : List Desc). named_from name place i ds) (drop_all i descs le)

no_such_name : (c : ℕ) (cs name : List ℕ) → name ≡ [] → bytes_eq name (c ∷ cs) ≡ false
no_such_name c cs [] e = refl
no_such_name c cs (d ∷ ds) e = cc

nameless : (c : ℕ) (cs : List ℕ) (place offset : ℕ) (lines : List Desc) (end : ℕ) → NamesEndBy lines end → named_from (c ∷ cs) place offset (drop end lines) ≡ []
nameless c cs place offset [] zero h = refl
nameless c cs place offset [] (suc end) h = refl
nameless c cs place offset (line ∷ lines) zero h =
    ap (λ b. if b then (place, offset) ∷ named_from (c ∷ cs) place (offset + 1) lines else named_from (c ∷ cs) place (offset + 1) lines) (no_such_name c cs line.name h.0)
    ∙ nameless c cs place (offset + 1) lines zero h.1
nameless c cs place offset (line ∷ lines) (suc end) h = nameless c cs place offset lines end h

pub named_by : (name : List ℕ) (place i : ℕ) (descs : List Desc) (end : ℕ) → 1 ≤ length name → NamesEndBy descs end → end ≤ i → named_from name place i (drop i descs) ≡ []
named_by [] place i descs end some h le = absurd (omega arith)
named_by (c ∷ cs) place i descs end some h le = nameless c cs place i descs i (further descs end i le h)

pub ruleset none_left = (named_all, named_by)

pub with_none : (lines : List (ℕ × ℕ)) (found : LinesFound) → lines ≡ [] → with_lines lines found ≡ found
with_none lines found e = ap (λ (l : List (ℕ × ℕ)). with_lines l found) e

pub with_lines-append : (xs ys : List (ℕ × ℕ)) (found : LinesFound) → with_lines (xs ++ ys) found ≡ with_lines ys (with_lines xs found)
with_lines-append [] ys found = refl
with_lines-append (x ∷ xs) ys found = with_lines-append xs ys (with_line x found)

-- one place more
pub places_more : (f : ℕ → List (ℕ × ℕ)) (p n : ℕ) (found : LinesFound) → p < n
    → with_lines (flat_map f (places_from p (n - p))) found ≡ with_lines (flat_map f (places_from (p + 1) (n - (p + 1)))) (with_lines (f p) found)
places_more f p n found lt =
    let s : n - p ≡ suc (n - (p + 1)) = omega arith in
    ap (λ m. with_lines (flat_map f (places_from p m)) found) s ∙ with_lines-append (f p) (flat_map f (places_from (p + 1) (n - (p + 1)))) found

-- no place is left
pub places_all : (f : ℕ → List (ℕ × ℕ)) (p n : ℕ) (found : LinesFound) → n ≤ p → with_lines (flat_map f (places_from p (n - p))) found ≡ found
places_all f p n found le = let s : n - p ≡ 0 = omega arith in ap (λ m. with_lines (flat_map f (places_from p m)) found) s

first_behind : (xs : List (ℕ × ℕ)) (y : ℕ × ℕ) → option_or (first_of_lines xs) (Some y) ≡ first_of_lines (xs ++ y ∷ [])
first_behind [] y = refl
first_behind (x ∷ xs) y = refl

found_behind : (xs ys : List (ℕ × ℕ)) → with_lines ys (found_of xs) ≡ found_of (xs ++ ys)
found_behind xs [] = ap found_of (sym (append-nil xs))
found_behind xs (y ∷ ys) =
    let size : length xs + 1 ≡ length (xs ++ y ∷ []) = sym (length-append xs (y ∷ [])) in
    ap (λ (first : Option (ℕ × ℕ)). with_lines ys (record { first = first; count = length xs + 1 })) (first_behind xs y)
    ∙ ap (λ n. with_lines ys (record { first = first_of_lines (xs ++ y ∷ []); count = n })) size
    ∙ found_behind (xs ++ y ∷ []) ys
    ∙ ap found_of (append_assoc xs (y ∷ []) ys)

-- all lines are found after none
pub found_all : (lines : List (ℕ × ℕ)) → with_lines lines (found_of []) ≡ found_of lines
found_all lines = found_behind [] lines
