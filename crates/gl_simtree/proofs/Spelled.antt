-- What a path names is spelled by it, part by part.
use Rattle.std.proofs.Common.{◌≡◌, ℕ, ◌==◌, ◌&&◌, Bool, true, false, cond, List, [], ◌∷◌, ◌++◌, take, drop, length, Option, Some, None, refl, ap, sym, ◌∙◌, nat_le, nat_eq, inl, inr, ◌⊎◌, arith}
use Rattle.std.specs.Prelude.{codes}
use Rattle.std.specs.List.{starts_with}
use Rattle.std.specs.Str.{bytes_eq}
use Rattle.std.specs.Cmp.Lexicographic.{same_text}
use Rattle.std.proofs.lemmas.Bool.{and_parts}
use Rattle.std.proofs.lemmas.List.{take-append-drop}
use Rattle.gl_base.proofs.Decimals.{decimal-plain_number}
use Rattle.gl_base.specs.Decimal.{plain_number_of_text}
use Rattle.gl_simtree.specs.Cuts.{before_slash, behind_slash}
use Rattle.gl_simtree.specs.Forms.{is_device, is_bank, device_name, bank_name}
use Rattle.gl_simtree.specs.Nodes.{line_number, in_hog, in_line, of_line, in_bank, of_bank, in_device, of_device}
use Rattle.gl_simtree.specs.Spelling.{below, line_part, node_path, PathsAreSpelled}
use Rattle.gl_simtree.specs.declared.node.Directory.TheVariants.{Bank}
use Rattle.gl_simtree.specs.declared.node.File.TheVariants.{ChipName, NumLines, Label}
use Rattle.gl_simtree.specs.declared.node.Node.{Node}
use Rattle.gl_simtree.specs.declared.node.Node.TheVariants.{File as FileNode}

-- a path is its first part, or this and the rest below it
abbrev rejoined : List ℕ → Option (List ℕ) → List ℕ
rejoined part None = part
rejoined part (Some rest) = below part rest

cons_rejoined : (byte : ℕ) (part : List ℕ) (rest : Option (List ℕ)) → byte ∷ rejoined part rest ≡ rejoined (byte ∷ part) rest
cons_rejoined byte part None = refl
cons_rejoined byte part (Some rest) = refl

slash : (byte : ℕ) → true ≡ (byte == 47) → byte ≡ 47
slash byte e = grind arith

cut_step : (byte : ℕ) (bytes : List ℕ) (b : Bool) → b ≡ (byte == 47) → bytes ≡ rejoined (before_slash bytes) (behind_slash bytes)
    → byte ∷ bytes ≡ rejoined (cond b [] (byte ∷ before_slash bytes)) (cond b (Some bytes) (behind_slash bytes))
cut_step byte bytes true e h = ap (λ b. b ∷ bytes) (slash byte e)
cut_step byte bytes false e h = ap (λ bs. byte ∷ bs) h ∙ cons_rejoined byte (before_slash bytes) (behind_slash bytes)

-- a path is its parts joined again
pub cut_joins : (path : List ℕ) → path ≡ rejoined (before_slash path) (behind_slash path)
cut_joins [] = refl
cut_joins (byte ∷ bytes) = cut_step byte bytes (byte == 47) refl (cut_joins bytes)

-- a choice that gave a node
chosen : (b : Bool) (x : Node) (o : Option Node) (node : Node) → cond b (Some x) o ≡ Some node → ((b ≡ true) × (x ≡ node)) ⊎ (o ≡ Some node)
chosen true x o node e = let same : x ≡ node = cc in inl (refl, same)
chosen false x o node e = inr e

spelled_hog : (device bank : List ℕ) (line : ℕ) (path : List ℕ) (node : Node) → in_hog device bank line path ≡ Some node → below device (below bank (below (line_part line) (below (codes "hog") path))) ≡ node_path node
spelled_hog device bank line path node e = grind (arith, same_text path (codes "name"), same_text path (codes "direction"))

spelled_in_line : (device bank : List ℕ) (line : ℕ) (part : List ℕ) (rest : Option (List ℕ)) (node : Node) → in_line device bank line part rest ≡ Some node → below device (below bank (below (line_part line) (rejoined part rest))) ≡ node_path node
spelled_in_line device bank line part None node e = grind (arith, same_text part (codes "name"), same_text part (codes "hog"))
spelled_in_line device bank line part (Some rest) node e = grind (arith, same_text part (codes "hog"), spelled_hog device bank line rest node)

spelled_line : (device bank : List ℕ) (line : ℕ) (rest : Option (List ℕ)) (node : Node) → of_line device bank (Some line) rest ≡ Some node → below device (below bank (rejoined (line_part line) rest)) ≡ node_path node
spelled_line device bank line None node e = grind arith
spelled_line device bank line (Some rest) node e = grind (arith, spelled_in_line device bank line (before_slash rest) (behind_slash rest) node, cut_joins rest)

line_number_if : (part : List ℕ) (line : ℕ) (b : Bool) → b ≡ (starts_with nat_eq part (codes "line") && nat_le (length part) 8) → cond b (plain_number_of_text (drop 4 part)) None ≡ Some line → part ≡ line_part line
line_number_if part line true b e =
    let begins : starts_with nat_eq part (codes "line") ≡ true = (and_parts (starts_with nat_eq part (codes "line")) (nat_le (length part) 8) (sym b)).0 in
    sym (take-append-drop 4 part) ∙ ap (λ (front : List ℕ). front ++ drop 4 part) (sym (same_text (codes "line") (take 4 part) (sym begins))) ∙ ap (λ (back : List ℕ). codes "line" ++ back) (decimal-plain_number (drop 4 part) line e)
line_number_if part line false b e = cc

line_number_text : (part : List ℕ) (line : ℕ) → line_number part ≡ Some line → part ≡ line_part line
line_number_text part line e = line_number_if part line (starts_with nat_eq part (codes "line") && nat_le (length part) 8) refl e

spelled_line_part : (device bank part : List ℕ) (number : Option ℕ) (rest : Option (List ℕ)) (node : Node) → number ≡ line_number part → of_line device bank number rest ≡ Some node → below device (below bank (rejoined part rest)) ≡ node_path node
spelled_line_part device bank part None rest node same e = cc
spelled_line_part device bank part (Some line) rest node same e = ap (λ p. below device (below bank (rejoined p rest))) (line_number_text part line (sym same)) ∙ spelled_line device bank line rest node e

-- a file of the bank, or what comes next
file_or : (device bank path name : List ℕ) (o : Option Node) (x node : Node) → below device (below bank name) ≡ node_path x → cond (bytes_eq path name) (Some x) o ≡ Some node → (o ≡ Some node → below device (below bank path) ≡ node_path node) → below device (below bank path) ≡ node_path node
file_or device bank path name o x node spelled e next =
    elim (chosen (bytes_eq path name) x o node e) [
      | inl h ↦ ap (λ (p : List ℕ). below device (below bank p)) (same_text path name (sym h.0)) ∙ spelled ∙ ap node_path h.1
      | inr later ↦ next later
    ]

spelled_in_bank : (device bank path : List ℕ) (node : Node) → in_bank device bank path ≡ Some node → below device (below bank path) ≡ node_path node
spelled_in_bank device bank path node e =
    let at_line = of_line device bank (line_number (before_slash path)) (behind_slash path) in
    let at_label = cond (bytes_eq path (codes "label")) (Some (FileNode (Bank device bank) Label)) at_line in
    let at_num_lines = cond (bytes_eq path (codes "num_lines")) (Some (FileNode (Bank device bank) NumLines)) at_label in
    file_or device bank path (codes "chip_name") at_num_lines (FileNode (Bank device bank) ChipName) node refl e λ e.
    file_or device bank path (codes "num_lines") at_label (FileNode (Bank device bank) NumLines) node refl e λ e.
    file_or device bank path (codes "label") at_line (FileNode (Bank device bank) Label) node refl e λ e.
    ap (λ (p : List ℕ). below device (below bank p)) (cut_joins path) ∙ spelled_line_part device bank (before_slash path) (line_number (before_slash path)) (behind_slash path) node refl e

spelled_bank_if : (b : Bool) (device part : List ℕ) (rest : Option (List ℕ)) (node : Node) → of_bank device (cond b (Some part) None) rest ≡ Some node → below device (rejoined part rest) ≡ node_path node
spelled_bank_if true device part None node e = grind arith
spelled_bank_if true device part (Some rest) node e = spelled_in_bank device part rest node e
spelled_bank_if false device part rest node e = cc

spelled_bank : (device part : List ℕ) (rest : Option (List ℕ)) (node : Node) → of_bank device (bank_name part) rest ≡ Some node → below device (rejoined part rest) ≡ node_path node
spelled_bank device part rest node e = spelled_bank_if (is_bank part) device part rest node e

spelled_in_device : (device path : List ℕ) (node : Node) → in_device device path ≡ Some node → below device path ≡ node_path node
spelled_in_device device path node e = grind (arith, same_text path (codes "live"), spelled_bank device (before_slash path) (behind_slash path) node, cut_joins path)

spelled_device_if : (b : Bool) (part : List ℕ) (rest : Option (List ℕ)) (node : Node) → of_device (cond b (Some part) None) rest ≡ Some node → rejoined part rest ≡ node_path node
spelled_device_if true part None node e = grind arith
spelled_device_if true part (Some rest) node e = spelled_in_device part rest node e
spelled_device_if false part rest node e = cc

spelled_device : (part : List ℕ) (rest : Option (List ℕ)) (node : Node) → of_device (device_name part) rest ≡ Some node → rejoined part rest ≡ node_path node
spelled_device part rest node e = spelled_device_if (is_device part) part rest node e

pub paths_are_spelled : PathsAreSpelled
paths_are_spelled path node e = cut_joins path ∙ spelled_device (before_slash path) (behind_slash path) node e
