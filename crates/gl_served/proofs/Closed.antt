-- Once all open files are closed, in whatever order, none is open.
use Rattle.std.proofs.Common.{◌≡◌, ◌<◌, ◌+◌, ℕ, Bool, true, false, cond, List, [], ◌∷◌, ◌++◌, length, get_or, map, take, OnErr, OnOk, Option, None, Some, Result, Ok, Err, refl, sym, ◌∙◌, ap, subst, inl, inr}
use Rattle.std.specs.Prelude.{◌==◌, nat_lt}
use Rattle.std.proofs.lemmas.Bool.{cases_Bool, eq-eqb, eqb-true}
use Rattle.std.proofs.lemmas.List.{take_more}
use Rattle.gl_asking.specs.Asking.{on_file, once}
use Rattle.gl_asking.specs.Files.{OpenFile, file_in, without_file}
use Rattle.gl_asking.specs.Rows.{row_file}
use Rattle.gl_asking.specs.declared.kinds.FileRow.{FileRow}
use Rattle.gl_base.specs.Ordered.{ordered, put_in_order}
use Rattle.gl_base.specs.declared.errno.Errno.{Errno}
use Rattle.gl_base.specs.declared.operation.Do.TheVariants.{Close}
use Rattle.gl_model.specs.declared.call.Call.TheVariants.{Close as CallClose}
use Rattle.gl_check.specs.One.{PlannedPort, Standing, from_plan, performs, performs_as}
use Rattle.gl_script.specs.declared.served.Stage.{Stage}
use Rattle.gl_talk.specs.declared.talk.Talk.{Talk}
use Rattle.gl_served.specs.Alone.{StandsAs}
use Rattle.gl_served.specs.Closing.{IsEnded, all_closed, closes, front_closed, is_before, is_row_before}
use Rattle.gl_served.specs.Served.{Accepted, carried_out}
use Rattle.gl_served.specs.declared.alone.Alone.{Alone}
use Rattle.gl_served.specs.declared.under_way.UnderWay.{UnderWay}
use Rattle.gl_served.proofs.Numbered.{files_in_order}

-- the first file, in the slot or not
without_it : (slot : ℕ) (file : OpenFile) (files : List OpenFile) → (file.slot == slot) ≡ true → without_file slot (file ∷ files) ≡ files
without_it slot file files is = ap (λ b. cond b files (file ∷ without_file slot files)) is

without_later : (slot : ℕ) (file : OpenFile) (files : List OpenFile) → (file.slot == slot) ≡ false → without_file slot (file ∷ files) ≡ file ∷ without_file slot files
without_later slot file files is = ap (λ b. cond b files (file ∷ without_file slot files)) is

-- of two slots, which one is emptied first plays no part
without_both : (a b : ℕ) (files : List OpenFile) → without_file a (without_file b files) ≡ without_file b (without_file a files)
without_both a b [] = refl
without_both a b (file ∷ files) = elim (cases_Bool (file.slot == a)) [
  | inl of_a ↦
      (elim (cases_Bool (file.slot == b)) [
        | inl of_b ↦
            (let same : a ≡ b = sym (eqb-true file.slot a of_a) ∙ eqb-true file.slot b of_b in
            ap (λ (n : ℕ). without_file n (without_file b (file ∷ files))) same ∙ ap (λ (n : ℕ). without_file b (without_file n (file ∷ files))) (sym same))
        | inr not_b ↦
            ap (without_file a) (without_later b file files not_b) ∙ without_it a file (without_file b files) of_a ∙ sym (ap (without_file b) (without_it a file files of_a))
      ])
  | inr not_a ↦
      (elim (cases_Bool (file.slot == b)) [
        | inl of_b ↦
            ap (without_file a) (without_it b file files of_b)
            ∙ sym (ap (without_file b) (without_later a file files not_a) ∙ without_it b file (without_file a files) of_b)
        | inr not_b ↦
            ap (without_file a) (without_later b file files not_b) ∙ without_later a file (without_file b files) not_a
            ∙ ap (λ (fs : List OpenFile). file ∷ fs) (without_both a b files)
            ∙ sym (ap (without_file b) (without_later a file files not_a) ∙ without_later b file (without_file a files) not_b)
      ])
]

-- the files that are left once these were closed
abbrev left_of : List OpenFile → List OpenFile → List OpenFile
left_of [] there = there
left_of (file ∷ files) there = left_of files (without_file file.slot there)

left_put : (file : OpenFile) (files there : List OpenFile) → left_of (put_in_order is_before file files) there ≡ left_of files (without_file file.slot there)
left_put file [] there = refl
left_put file (x ∷ files) there = by (left_put file files (without_file x.slot there)) (nat_lt file.fd x.fd)
  where
    by : left_of (put_in_order is_before file files) (without_file x.slot there) ≡ left_of files (without_file file.slot (without_file x.slot there)) → (b : Bool)
        → left_of (cond b (file ∷ x ∷ files) (x ∷ put_in_order is_before file files)) there ≡ left_of files (without_file x.slot (without_file file.slot there))
    by rest true = refl
    by rest false = rest ∙ ap (left_of files) (without_both file.slot x.slot there)

left_ordered : (files there : List OpenFile) → left_of (ordered is_before files) there ≡ left_of files there
left_ordered [] there = refl
left_ordered (file ∷ files) there = left_put file (ordered is_before files) there ∙ left_ordered files (without_file file.slot there)

none_left : (files : List OpenFile) → left_of files files ≡ []
none_left [] = refl
none_left (file ∷ files) = ap (left_of files) (without_it file.slot file files (eq-eqb file.slot file.slot refl)) ∙ none_left files

-- a closing takes the file of its slot away
closed_one : (slot : ℕ) (s : Standing PlannedPort) → (performs 0 from_plan (Close slot) s).1.files ≡ without_file slot s.files
closed_one slot s = by (file_in slot s.files)
  where
    by : (found : Option OpenFile) → (performs_as 0 from_plan (on_file found (λ file. once (CallClose file.fd))) None (Close slot) s).1.files ≡ without_file slot s.files
    by None = refl
    by (Some file) = refl

closed_these : (files : List OpenFile) (s : Standing PlannedPort) → (closes files s).files ≡ left_of files s.files
closed_these [] s = refl
closed_these (file ∷ files) s = closed_these files (performs 0 from_plan (Close file.slot) s).1 ∙ ap (left_of files) (closed_one file.slot s)

pub none_is_open : (s : Standing PlannedPort) → (all_closed s).files ≡ []
none_is_open s = closed_these (ordered is_before s.files) s ∙ left_ordered s.files s.files ∙ none_left s.files

-- one file more is closed
pub closes_more : (files : List OpenFile) (file : OpenFile) (s : Standing PlannedPort) → closes (files ++ file ∷ []) s ≡ (performs 0 from_plan (Close file.slot) (closes files s)).1
closes_more [] file s = refl
closes_more (first ∷ files) file s = closes_more files file (performs 0 from_plan (Close first.slot) s).1

map_more : (rows : List FileRow) (row : FileRow) → map row_file (rows ++ row ∷ []) ≡ map row_file rows ++ row_file row ∷ []
map_more [] row = refl
map_more (first ∷ rows) row = ap (λ (files : List OpenFile). row_file first ∷ files) (map_more rows row)

pub row_closed : (rows : List FileRow) (i : ℕ) (d : FileRow) (s : Standing PlannedPort) → i < length rows
    → closes (map row_file (take (i + 1) rows)) s ≡ (performs 0 from_plan (Close (get_or rows i d).slot) (closes (map row_file (take i rows)) s)).1
row_closed rows i d s within =
    ap (λ (front : List FileRow). closes (map row_file front) s) (take_more rows i d within)
    ∙ ap (λ (files : List OpenFile). closes files s) (map_more (take i rows) (get_or rows i d))
    ∙ closes_more (map row_file (take i rows)) (row_file (get_or rows i d)) s

-- no row is left where no file is
pub no_rows : (rows : List FileRow) → map row_file rows ≡ [] → rows ≡ []
no_rows [] none = refl
no_rows (row ∷ rows) none = cc

-- rows in their order were closed, so the files in theirs
pub closed_in_order : {T : Type 0} (result : Result T Errno) (rows sorted : List FileRow) (s : Standing PlannedPort) (a : Alone) → sorted ≡ ordered is_row_before rows → map row_file rows ≡ s.files
    → OnOk result (StandsAs a (closes (map row_file sorted) s)) → OnOk result (StandsAs a (all_closed s))
closed_in_order result rows sorted s a is files closed =
    subst (λ (l : List OpenFile). OnOk result (StandsAs a (closes l s))) (ap (map row_file) is ∙ files_in_order rows ∙ ap (ordered is_before) files) closed

pub ended_so : {T : Type 0} (result : Result T Errno) (a : Alone) (said : Accepted) (stage : Stage) (talk : Talk) (count : ℕ) (under_way : Option UnderWay) → OnOk result (StandsAs a (all_closed (carried_out said.statements).behind)) → OnOk result (a.rows.items ≡ [])
    → OnOk result (IsEnded said (record { stage = stage; talk = talk; count = count; alone = a; under_way = under_way }))
ended_so (Ok value) a said stage talk count under_way stands none = record { stands = stands; none_open = none }
ended_so (Err errno) a said stage talk count under_way stands none = tt

-- and a front of them
pub front_in_order : {T : Type 0} (result : Result T Errno) (rows sorted : List FileRow) (s : Standing PlannedPort) (a : Alone) → sorted ≡ ordered is_row_before rows → map row_file rows ≡ s.files
    → OnErr result ((count : ℕ) × StandsAs a (closes (take count (map row_file sorted)) s)) → OnErr result ((count : ℕ) × StandsAs a (front_closed count s))
front_in_order result rows sorted s a is files closed =
    subst (λ (l : List OpenFile). OnErr result ((count : ℕ) × StandsAs a (closes (take count l) s))) (ap (map row_file) is ∙ files_in_order rows ∙ ap (ordered is_before) files) closed
