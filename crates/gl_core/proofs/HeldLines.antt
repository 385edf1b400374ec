-- The lines that a request has: they are known of each world that calls lead to, and an edge keeps them.
use Rattle.std.proofs.Common.{◌≡◌, ℕ, Bool, true, false, cond, ◌<◌, List, [], ◌∷◌, ◌++◌, map, Option, Some, None, refl, ap, ◌∙◌, subst, arith}
use Rattle.std.specs.Prelude.{nat_eq, ◌==◌, ◌&&◌}
use Rattle.std.proofs.lemmas.Bool.Decides.{nat_tests}
use Rattle.std.specs.List.{find, list_any}
use Rattle.std.specs.Option.{option_map}
use Rattle.gl_base.specs.Lines.{offsets_of}
use Rattle.gl_base.specs.Rows.{Each, change_first}
use Rattle.gl_base.specs.declared.lines.Lines.{Lines}
use Rattle.gl_base.proofs.Seen.{find-map}
use Rattle.gl_desc.specs.declared.desc.Holder.{Holder}
use Rattle.gl_desc.specs.declared.desc.Holder.TheVariants.{Free, Claimed, Held, Hog}
use Rattle.gl_request.specs.Request.{IsBelow, is_monitored, is_number, noted, request_at, with_event}
use Rattle.gl_request.specs.declared.row.RequestRow.{RequestRow}
use Rattle.gl_model.specs.declared.place.Place.{Place}
use Rattle.gl_model.specs.Edges.{position_in, request_number}
use Rattle.gl_model.specs.Holders.{HoldersAgree, has_line, has_line_at, holder_at, taken_by}
use Rattle.gl_model.specs.World.{World, Request, has_number, request_at as request_in}
use Rattle.gl_watch.specs.Files.{file_at}
use Rattle.gl_watch.specs.declared.file.ChipFile.{ChipFile}
use Rattle.gl_core.specs.Claims.{NumbersAreBelow}
use Rattle.gl_core.specs.HeldLines.{HoldersHaveLines, is_line_of, noted_at}
use Rattle.gl_core.specs.Kept.{Kept, kept_request}
use Rattle.gl_core.specs.Reached.{IsReached}

-- in a world that calls lead to

holder_took : (holder : Holder) (fd : ℕ) → request_number holder ≡ Some fd → taken_by holder ≡ Some fd
holder_took Free fd is = cc
holder_took (Claimed other) fd is = cc
holder_took (Held other) fd is = is
holder_took Hog fd is = cc

both_second : (a b : Bool) → (a && b) ≡ true → b ≡ true
both_second true b is = is
both_second false b is = cc

line_kept : (o : Option Request) (place offset : ℕ) → has_line_at place offset o ≡ true → is_line_of offset (option_map kept_request o) ≡ true
line_kept None place offset has = cc
line_kept (Some request) place offset has = both_second (request.place == place) (has_line offset request) has

lines_in_world : (w : World) → HoldersAgree w → HoldersHaveLines w.places (map kept_request w.requests)
lines_in_world w agree = record {
  have = λ place offset fd is.
      ap (is_line_of offset) (find-map kept_request (has_number fd) (is_number fd) (λ r. refl) w.requests)
      ∙ line_kept (request_in w.requests fd) place offset (agree.requests_name place offset fd (holder_took (holder_at w place offset) fd is));
}

pub lines_known : (k : Kept) → IsReached k → HoldersHaveLines k.places k.requests
lines_known k reached = subst (λ (k : Kept). HoldersHaveLines k.places k.requests) reached.stands.kept_so (lines_in_world reached.world reached.good.holders)

-- and each request's number is below the next number of a file
numbers_in : (next : ℕ) (requests : List Request) (others : List ℕ) → Each (λ fd. fd < next) (map (λ (request : Request). request.fd) requests ++ others)
    → Each (IsBelow next) (map kept_request requests)
numbers_in next [] others each = tt
numbers_in next (request ∷ requests) others each = (each.0, numbers_in next requests others each.1)

pub numbers_known : (k : Kept) → IsReached k → NumbersAreBelow k
numbers_known k reached =
    let w : World = reached.world in
    let in_world : Each (IsBelow w.next) (map kept_request w.requests) =
    numbers_in w.next w.requests (map (λ (file : ChipFile). file.fd) w.files) reached.good.holders.numbers_below in
    subst NumbersAreBelow reached.stands.kept_so (record { each = in_world })

-- and so is each file's, so the next number is a new one
none_has : (next : ℕ) (numbers : List ℕ) (files : List ChipFile) → Each (λ fd. fd < next) (numbers ++ map (λ (file : ChipFile). file.fd) files) → file_at next files ≡ None
none_has next [] [] each = refl
none_has next [] (file ∷ files) each =
    let below : file.fd < next = each.0 in
    let other : (file.fd == next) ≡ false = grind (arith, nat_tests) in
    ap (λ b. cond b (Some file) (file_at next files)) other ∙ none_has next [] files each.1
none_has next (n ∷ numbers) files each = none_has next numbers files each.1

pub next_is_new : (k : Kept) → IsReached k → file_at k.next k.files ≡ None
next_is_new k reached =
    let w : World = reached.world in
    subst (λ (k : Kept). file_at k.next k.files ≡ None) reached.stands.kept_so
    (none_has w.next (map (λ (request : Request). request.fd) w.requests) w.files reached.good.holders.numbers_below)

-- after an edge

lines_of_found : (n offset : ℕ) (test : RequestRow → Bool) (f : RequestRow → RequestRow) → ((row : RequestRow) → (f row).fd ≡ row.fd) → ((row : RequestRow) → (f row).lines ≡ row.lines)
    → (rows : List RequestRow) → is_line_of offset (find (is_number n) (change_first test f rows)) ≡ is_line_of offset (find (is_number n) rows)
lines_of_found n offset test f same_fd same_lines [] = refl
lines_of_found n offset test f same_fd same_lines (row ∷ rows) =
    let rest = lines_of_found n offset test f same_fd same_lines rows in
    elim (test row) as (λ b. is_line_of offset (find (is_number n) (cond b (f row ∷ rows) (row ∷ change_first test f rows))) ≡ is_line_of offset (cond (row.fd == n) (Some row) (find (is_number n) rows))) [
      | true ↦
          (ap (λ (fd : ℕ). is_line_of offset (cond (fd == n) (Some (f row)) (find (is_number n) rows))) (same_fd row)
          ∙ elim (row.fd == n) as (λ b. is_line_of offset (cond b (Some (f row)) (find (is_number n) rows)) ≡ is_line_of offset (cond b (Some row) (find (is_number n) rows))) [
            | true ↦ ap (λ (lines : Lines). list_any (nat_eq offset) (offsets_of lines)) (same_lines row)
            | false ↦ refl
          ])
      | false ↦
          elim (row.fd == n) as (λ b. is_line_of offset (cond b (Some row) (find (is_number n) (change_first test f rows))) ≡ is_line_of offset (cond b (Some row) (find (is_number n) rows))) [ true ↦ refl | false ↦ rest ]
    ]

noted_fd : (i : ℕ) (rising : Bool) (timestamp : ℕ) (row : RequestRow) → (noted i rising timestamp row).fd ≡ row.fd
noted_fd i rising timestamp row = elim (is_monitored i rising row) as (λ b. (cond b (with_event i rising timestamp row) row).fd ≡ row.fd) [ true ↦ refl | false ↦ refl ]

noted_lines : (i : ℕ) (rising : Bool) (timestamp : ℕ) (row : RequestRow) → (noted i rising timestamp row).lines ≡ row.lines
noted_lines i rising timestamp row = elim (is_monitored i rising row) as (λ b. (cond b (with_event i rising timestamp row) row).lines ≡ row.lines) [ true ↦ refl | false ↦ refl ]

pub lines_noted : (places : List Place) (requests : List RequestRow) (fd offset : ℕ) (rising : Bool) (timestamp : ℕ) → HoldersHaveLines places requests
    → HoldersHaveLines places (change_first (is_number fd) (noted_at offset rising timestamp) requests)
lines_noted places requests fd offset rising timestamp lines = record {
  have = λ place other n is.
      lines_of_found n other (is_number fd) (noted_at offset rising timestamp) (λ row. noted_fd (position_in offset row.lines) rising timestamp row) (λ row. noted_lines (position_in offset row.lines) rising timestamp row) requests
      ∙ lines.have place other n is;
}

-- the row that is found is changed by where the line stands among its lines

module _ {X : Type 0} where
  same_step : (b : Bool) (x changed other : X) (xs ys zs : List X) (found : Option X) → (cond b (Some x) found ≡ Some x → changed ≡ other) → (b ≡ false → ys ≡ zs)
      → cond b (changed ∷ xs) (x ∷ ys) ≡ cond b (other ∷ xs) (x ∷ zs)
  same_step true x changed other xs ys zs found here later = ap (λ z. z ∷ xs) (here refl)
  same_step false x changed other xs ys zs found here later = ap (λ l. x ∷ l) (later refl)

  change_first-same : (test : X → Bool) (f g : X → X) (xs : List X) → ((x : X) → find test xs ≡ Some x → f x ≡ g x) → change_first test f xs ≡ change_first test g xs
  change_first-same test f g [] same = refl
  change_first-same test f g (x ∷ xs) same =
      same_step (test x) x (f x) (g x) xs (change_first test f xs) (change_first test g xs) (find test xs) (same x)
      (λ e. change_first-same test f g xs (λ z is. same z (ap (λ b. cond b (Some x) (find test xs)) e ∙ is)))

lines_of_row : (o : Option RequestRow) (lines : Lines) (row : RequestRow) → option_map (λ (row : RequestRow). row.lines) o ≡ Some lines → o ≡ Some row → lines ≡ row.lines
lines_of_row None lines row found is = cc
lines_of_row (Some other) lines row found is = cc

pub noted_by_position : (rows : List RequestRow) (fd offset i : ℕ) (lines : Lines) (rising : Bool) (timestamp : ℕ) → option_map (λ (row : RequestRow). row.lines) (request_at rows fd) ≡ Some lines
    → i ≡ position_in offset lines
    → change_first (is_number fd) (noted i rising timestamp) rows ≡ change_first (is_number fd) (noted_at offset rising timestamp) rows
noted_by_position rows fd offset i lines rising timestamp found at =
    change_first-same (is_number fd) (noted i rising timestamp) (noted_at offset rising timestamp) rows
    (λ row is. ap (λ n. noted n rising timestamp row) (at ∙ ap (position_in offset) (lines_of_row (request_at rows fd) lines row found is)))
