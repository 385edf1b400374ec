-- What the core stands for after a request was let go of.
use Rattle.std.proofs.Common.{◌≡◌, ℕ, Bool, true, false, cond, List, [], ◌∷◌, ◌++◌, map, Option, Some, None, refl, sym, ap, ◌∙◌, subst, arith}
use Rattle.std.proofs.lemmas.Bool.Decides.{nat_tests}
use Rattle.std.specs.Option.{option_map}
use Rattle.std.specs.Prelude.{not, is_some, nat_eq, ◌==◌, ◌||◌}
use Rattle.std.specs.List.{AllByRecursion, IsDistinct}
use Rattle.std.proofs.lemmas.Bool.{true≢false}
use Rattle.gl_base.specs.Lines.{offsets_of}
use Rattle.gl_base.specs.Positions.{change_at}
use Rattle.gl_base.specs.Refusals.{when}
use Rattle.gl_base.specs.Rows.{Each, without_first}
use Rattle.gl_base.specs.declared.errno.Errno.TheVariants.{BadF}
use Rattle.gl_base.proofs.AtPositions.{length-change_each}
use Rattle.gl_base.proofs.FirstRows.{Each-without_first}
use Rattle.gl_base.proofs.Seen.{map-without_first}
use Rattle.gl_bank.specs.Level.{first_levels, released}
use Rattle.gl_debounce.specs.declared.timer.Timer.{Timer}
use Rattle.gl_desc.specs.Desc.{first_desc, freed}
use Rattle.gl_registry.specs.declared.registry.Chip.{Chip}
use Rattle.gl_request.specs.Request.{claim_of, is_number, request_at as row_at}
use Rattle.gl_request.specs.declared.row.Claim.{Claim}
use Rattle.gl_request.specs.declared.row.RequestRow.{RequestRow}
use Rattle.gl_uapi.specs.declared.layout.TheConstants.{CHANGED_RELEASED}
use Rattle.gl_model.specs.declared.place.Origin.{Origin}
use Rattle.gl_model.specs.declared.place.Place.{Place}
use Rattle.gl_model.specs.Notify.{notify_each}
use Rattle.gl_model.specs.Opening.{close, close_request, is_open, with_lines_freed, with_timers_let_go, without_request}
use Rattle.gl_model.specs.Outcome.{done, refused_or}
use Rattle.gl_model.specs.Places.{no_place}
use Rattle.gl_model.specs.declared.reply.Reply.TheVariants.{Done, Refused}
use Rattle.gl_model.specs.SoundRequests.{IsSoundRequest}
use Rattle.gl_model.specs.World.{Request, World, has_number, request_at}
use Rattle.gl_watch.specs.Answers.{changes_of}
use Rattle.gl_watch.specs.Files.{file_at, is_file}
use Rattle.gl_model.specs.OpenFiles.{is_hold}
use Rattle.gl_model.proofs.Ledger.{file_number}
use Rattle.gl_watch.specs.declared.file.ChipFile.{ChipFile}
use Rattle.gl_model.proofs.Finishing.{first_true}
use Rattle.gl_core.specs.Kept.{Kept, StandsFor, kept_of, kept_request}
use Rattle.gl_core.specs.Reached.{IsReached}
use Rattle.gl_core.specs.Shape.{HasLine, HasLines, IsInRange, IsShaped}
use Rattle.gl_core.specs.Steps.{Follows}
use Rattle.gl_core.proofs.KeptRequests.{hold_told, kept_at, no_hold_told}
use Rattle.gl_core.proofs.Shapes.{line_stays, shape_changed}

-- the lines of a request are in range
pub lines_in_range : (places : List Place) (place : ℕ) (offsets : List ℕ) → Each (HasLine places place) offsets → Each (IsInRange place) offsets
lines_in_range places place [] s = tt
lines_in_range places place (offset ∷ offsets) s =
    let here : HasLine places place offset = s.0 in
    ((omega (arith, here.few, here.place_within), omega (arith, here.within.few, here.offset_within)), lines_in_range places place offsets s.1)

freed_keeps : (offsets : List ℕ) (x : Place) (lines : ℕ) → HasLines lines x → HasLines lines (with_lines_freed offsets x)
freed_keeps offsets x lines h = record {
  few = h.few;
  descs = length-change_each first_desc offsets freed x.descs ∙ h.descs;
  bank = length-change_each first_levels offsets released x.bank ∙ h.bank;
  irqs = h.irqs;
}

-- the shape stays
pub shape_freed : (chips : List Chip) (origins : List Origin) (places : List Place) (place : ℕ) (offsets : List ℕ) → IsShaped chips origins places
    → IsShaped chips origins (change_at no_place place (with_lines_freed offsets) places)
shape_freed chips origins places place offsets = shape_changed chips origins places place (with_lines_freed offsets) (freed_keeps offsets)

-- and so do the lines
pub lines_freed : (places : List Place) (place : ℕ) (gone offsets : List ℕ) → Each (HasLine places place) offsets → Each (HasLine (change_at no_place place (with_lines_freed gone) places) place) offsets
lines_freed places place gone [] s = tt
lines_freed places place gone (offset ∷ offsets) s =
    (line_stays places place place offset (with_lines_freed gone) (freed_keeps gone) s.0, lines_freed places place gone offsets s.1)

found_number : (w : World) (fd : ℕ) (request : Request) → request_at w.requests fd ≡ Some request → request.fd ≡ fd
found_number w fd request found = let passes : has_number fd request ≡ true = first_true (has_number fd) w.requests request found in grind (arith, nat_tests)

request_gone : (w : World) (fd : ℕ) (request : Request) (requests : List RequestRow) (timers : List (Option Timer)) (places : List Place) → StandsFor (kept_of w) w → request_at w.requests fd ≡ Some request
    → requests ≡ without_first (is_number fd) (map kept_request w.requests)
    → timers ≡ with_timers_let_go request.place (offsets_of request.lines) w.timers
    → places ≡ change_at no_place request.place (with_lines_freed (offsets_of request.lines)) w.places
    → StandsFor (record (kept_of w) { places = places; timers = timers; requests = requests }) (without_request request w)
request_gone w fd request requests timers places s found gone cleared left = record {
  kept_so =
      ap (λ (rows : List RequestRow). record (kept_of (without_request request w)) { requests = rows })
      (map-without_first kept_request (has_number request.fd) (is_number request.fd) (λ r. refl) w.requests
      ∙ ap (λ (n : ℕ). without_first (is_number n) (map kept_request w.requests)) (found_number w fd request found)
      ∙ sym gone)
      ∙ ap (λ (ts : List (Option Timer)). record (kept_of (without_request request w)) { requests = requests; timers = ts }) (sym cleared)
      ∙ ap (λ (ps : List Place). record (kept_of w) { requests = requests; timers = timers; places = ps }) (sym left);
  sound_requests = Each-without_first IsSoundRequest (has_number request.fd) w.requests s.sound_requests;
}

closed_found : (w : World) (fd : ℕ) (request : Option Request) (claim : Claim) (requests : List RequestRow) (timers : List (Option Timer)) (places : List Place) (new : Kept) → StandsFor (kept_of w) w → request_at w.requests fd ≡ request
    → option_map claim_of (option_map kept_request request) ≡ Some claim
    → requests ≡ without_first (is_number fd) (map kept_request w.requests)
    → timers ≡ with_timers_let_go claim.place (offsets_of claim.lines) w.timers
    → places ≡ change_at no_place claim.place (with_lines_freed (offsets_of claim.lines)) w.places
    → Follows (notify_each claim.place (offsets_of claim.lines) CHANGED_RELEASED) (record (kept_of w) { places = places; timers = timers; requests = requests }) new
    → StandsFor new (close_request request w)
closed_found w fd None claim requests timers places new s found is = let no : ⊥ = cc in absurd no
closed_found w fd (Some request) claim requests timers places new s found is =
    let same : claim_of (kept_request request) ≡ claim = cc in
    subst (λ (claim : Claim). requests ≡ without_first (is_number fd) (map kept_request w.requests)
    → timers ≡ with_timers_let_go claim.place (offsets_of claim.lines) w.timers
    → places ≡ change_at no_place claim.place (with_lines_freed (offsets_of claim.lines)) w.places
    → Follows (notify_each claim.place (offsets_of claim.lines) CHANGED_RELEASED) (record (kept_of w) { places = places; timers = timers; requests = requests }) new
    → StandsFor new (close_request (Some request) w)) same
    (λ gone cleared left told. told (without_request request w) (request_gone w fd request requests timers places s found gone cleared left))

-- the request of a number was let go of, and its lines were told of as released
pub closed_stands : (k : Kept) (w : World) (fd : ℕ) (claim : Claim) (requests : List RequestRow) (timers : List (Option Timer)) (places : List Place) (new : Kept) → StandsFor k w
    → option_map claim_of (row_at k.requests fd) ≡ Some claim
    → requests ≡ without_first (is_number fd) k.requests
    → timers ≡ with_timers_let_go claim.place (offsets_of claim.lines) k.timers
    → places ≡ change_at no_place claim.place (with_lines_freed (offsets_of claim.lines)) k.places
    → Follows (notify_each claim.place (offsets_of claim.lines) CHANGED_RELEASED) (record k { places = places; timers = timers; requests = requests }) new
    → StandsFor new (close_request (request_at w.requests fd) w)
closed_stands k w fd claim requests timers places new s =
    subst (λ (k : Kept). option_map claim_of (row_at k.requests fd) ≡ Some claim
    → requests ≡ without_first (is_number fd) k.requests
    → timers ≡ with_timers_let_go claim.place (offsets_of claim.lines) k.timers
    → places ≡ change_at no_place claim.place (with_lines_freed (offsets_of claim.lines)) k.places
    → Follows (notify_each claim.place (offsets_of claim.lines) CHANGED_RELEASED) (record k { places = places; timers = timers; requests = requests }) new
    → StandsFor new (close_request (request_at w.requests fd) w)) s.kept_so
    (λ is. closed_found w fd (request_at w.requests fd) claim requests timers places new (record { kept_so = refl; sound_requests = s.sound_requests }) refl
    (sym (ap (option_map claim_of) (kept_at (kept_of w) w fd (record { kept_so = refl; sound_requests = s.sound_requests }))) ∙ is))

-- the file of a number was closed
abbrev file_closed : ℕ → World → World
file_closed fd w = record w { files = without_first (is_file fd) w.files }

-- the whole call, of a number that is open
pub close_done : (k : Kept) (w : World) (fd : ℕ) (files : List ChipFile) (new : Kept) → StandsFor k w → true ≡ is_open fd w → files ≡ without_first (is_file fd) k.files
    → (StandsFor (record k { files = files }) (file_closed fd w) → StandsFor new (close_request (request_at w.requests fd) (file_closed fd w)))
    → StandsFor new (close fd w).world × (Done ≡ (close fd w).reply)
close_done k w fd files new s opened gone rest =
    let after : StandsFor (record k { files = files }) (file_closed fd w) = subst (λ (k : Kept). files ≡ without_first (is_file fd) k.files → StandsFor (record k { files = files }) (file_closed fd w)) s.kept_so
    (λ is. record { kept_so = ap (λ (fs : List ChipFile). record (kept_of w) { files = fs }) (sym is); sound_requests = s.sound_requests }) gone in
    subst (λ (b : Bool). let out = refused_or (when (not b) BadF) w (done (close_request (request_at w.requests fd) (file_closed fd w))) in StandsFor new out.world × (Done ≡ out.reply)) opened (rest after, refl)

unclaimed : (request : Option Request) → option_map claim_of (option_map kept_request request) ≡ None → request ≡ None
unclaimed None is = refl
unclaimed (Some request) is = cc

-- without a request of the number nothing else is closed
pub only_file : (k : Kept) (w : World) (fd : ℕ) (new : Kept) → StandsFor k w → option_map claim_of (row_at k.requests fd) ≡ None → StandsFor new (file_closed fd w) → StandsFor new (close_request (request_at w.requests fd) (file_closed fd w))
only_file k w fd new s none after =
    subst (λ (request : Option Request). StandsFor new (close_request request (file_closed fd w))) (sym (unclaimed (request_at w.requests fd) (sym (ap (option_map claim_of) (kept_at k w fd s)) ∙ none))) after

-- no request has the number of a chip file

no_file : (n fd : ℕ) (xs : List ℕ) (files : List ChipFile) → AllByRecursion (λ m. nat_eq n m ≡ false) (xs ++ map file_number files) → is_some (file_at fd files) ≡ true → (n == fd) ≡ false
no_file n fd [] [] all is = absurd (true≢false (sym is))
no_file n fd [] (file ∷ files) all is = elim (file.fd == fd) as (λ b. (file.fd == fd) ≡ b → is_some (cond b (Some file) (file_at fd files)) ≡ true → (n == fd) ≡ false) [
  | true ↦ (λ same h. let other : nat_eq n file.fd ≡ false = all.0 in grind (arith, nat_tests))
  | false ↦ (λ other h. no_file n fd [] files all.1 h)
] refl is
no_file n fd (x ∷ xs) files all is = no_file n fd xs files all.1 is

no_request : (fd : ℕ) (rows : List Request) (files : List ChipFile) → IsDistinct nat_eq (map (λ (request : Request). request.fd) rows ++ map file_number files)
    → is_some (file_at fd files) ≡ true → request_at rows fd ≡ None
unfolding IsDistinct
no_request fd [] files differ is = refl
no_request fd (x ∷ rows) files differ is =
    ap (λ b. cond b (Some x) (request_at rows fd)) (no_file x.fd fd (map (λ (request : Request). request.fd) rows) files differ.0 is) ∙ no_request fd rows files differ.1 is

by_request : (o : Option ChipFile) (r : Option Request) (row : RequestRow) → (is_some o ≡ true → r ≡ None) → Some row ≡ option_map kept_request r → o ≡ None
by_request None r row none is = refl
by_request (Some file) r row none is = let no : Some row ≡ None = is ∙ ap (option_map kept_request) (none refl) in cc

-- so no chip file has the number of a request
pub free_of_files : (k : Kept) (fd : ℕ) (row : RequestRow) → IsReached k → row_at k.requests fd ≡ Some row → file_at fd k.files ≡ None
free_of_files k fd row reached found =
    let w : World = reached.world in
    ap (λ (k : Kept). file_at fd k.files) (sym reached.stands.kept_so)
    ∙ by_request (file_at fd w.files) (request_at w.requests fd) row (no_request fd w.requests w.files reached.good.holders.numbers_differ) (sym found ∙ kept_at k w fd reached.stands)

nothing_gone : (fd : ℕ) (files : List ChipFile) → file_at fd files ≡ None → without_first (is_file fd) files ≡ files
nothing_gone fd [] is = refl
nothing_gone fd (file ∷ files) is = elim (file.fd == fd) as (λ b. cond b (Some file) (file_at fd files) ≡ None → cond b files (file ∷ without_first (is_file fd) files) ≡ file ∷ files) [
  | true ↦ (λ no. cc)
  | false ↦ (λ rest. ap (λ fs. file ∷ fs) (nothing_gone fd files rest))
] is

world_files : (k : Kept) (w : World) (fd : ℕ) → StandsFor k w → file_at fd w.files ≡ file_at fd k.files
world_files k w fd s = ap (λ (k : Kept). file_at fd k.files) s.kept_so

or_true : (a b : Bool) → b ≡ true → (a || b) ≡ true
or_true true b e = refl
or_true false b e = e

-- a request that holds its lines is closed
pub hold_closed : (k : Kept) (w : World) (fd : ℕ) (row : RequestRow) (new : Kept) → StandsFor k w → IsReached k → row_at k.requests fd ≡ Some row → row.held ≡ true
    → Follows (λ w. close_request (request_at w.requests fd) w) k new → StandsFor new (close fd w).world × (Done ≡ (close fd w).reply)
hold_closed k w fd row new s reached found held follows =
    let holds : row.held ≡ is_hold (request_at w.requests fd) = hold_told k w fd row.held s (sym (ap (option_map (λ (row : RequestRow). row.held)) found)) in
    close_done k w fd k.files new s (sym (or_true (is_some (file_at fd w.files)) (is_hold (request_at w.requests fd)) (sym holds ∙ held))) (sym (nothing_gone fd k.files (free_of_files k fd row reached found)))
    (λ after. follows (file_closed fd w) after)

not_open : (w : World) (fd : ℕ) (k : Kept) → StandsFor k w → is_open fd w ≡ false → StandsFor k (close fd w).world × (Refused BadF ≡ (close fd w).reply)
not_open w fd k s shut =
    subst (λ (b : Bool). let out = refused_or (when (not b) BadF) w (done (close_request (request_at w.requests fd) (file_closed fd w))) in StandsFor k out.world × (Refused BadF ≡ out.reply)) (sym shut) (s, refl)

-- and a claim isn't
pub claim_refused : (k : Kept) (w : World) (fd : ℕ) (row : RequestRow) → StandsFor k w → IsReached k → row_at k.requests fd ≡ Some row → row.held ≡ false
    → StandsFor k (close fd w).world × (Refused BadF ≡ (close fd w).reply)
claim_refused k w fd row s reached found claimed =
    let holds : row.held ≡ is_hold (request_at w.requests fd) = hold_told k w fd row.held s (sym (ap (option_map (λ (row : RequestRow). row.held)) found)) in
    let none : is_some (file_at fd w.files) ≡ false = ap is_some (world_files k w fd s ∙ free_of_files k fd row reached found) in
    not_open w fd k s (ap (λ b. b || is_hold (request_at w.requests fd)) none ∙ sym holds ∙ claimed)

no_hold_there : (k : Kept) (w : World) (fd : ℕ) → StandsFor k w → row_at k.requests fd ≡ None → is_hold (request_at w.requests fd) ≡ false
no_hold_there k w fd s none = sym (no_hold_told k w fd s (sym (ap (option_map (λ (row : RequestRow). row.held)) none)))

changes_there : (file : Option ChipFile) → is_some (changes_of file) ≡ true → is_some file ≡ true
changes_there None is = is
changes_there (Some file) is = refl

no_changes : (file : Option ChipFile) → is_some (changes_of file) ≡ false → file ≡ None
no_changes None is = refl
no_changes (Some file) is = absurd (true≢false is)

-- a chip file is closed
pub file_done : (k : Kept) (w : World) (fd : ℕ) (files : List ChipFile) → StandsFor k w → row_at k.requests fd ≡ None → is_some (changes_of (file_at fd k.files)) ≡ true
    → files ≡ without_first (is_file fd) k.files → StandsFor (record k { files = files }) (close fd w).world × (Done ≡ (close fd w).reply)
file_done k w fd files s none there gone =
    let here : is_some (file_at fd w.files) ≡ true = ap is_some (world_files k w fd s) ∙ changes_there (file_at fd k.files) there in
    close_done k w fd files (record k { files = files }) s (sym (ap (λ b. b || is_hold (request_at w.requests fd)) here)) gone
    (λ after. only_file k w fd (record k { files = files }) s (ap (option_map claim_of) none) after)

-- and where there is none, nothing is
pub file_refused : (k : Kept) (w : World) (fd : ℕ) (files : List ChipFile) → StandsFor k w → row_at k.requests fd ≡ None → is_some (changes_of (file_at fd k.files)) ≡ false
    → files ≡ without_first (is_file fd) k.files → StandsFor (record k { files = files }) (close fd w).world × (Refused BadF ≡ (close fd w).reply)
file_refused k w fd files s none there gone =
    let absent : file_at fd k.files ≡ None = no_changes (file_at fd k.files) there in
    let same : k.files ≡ files = sym (nothing_gone fd k.files absent) ∙ sym gone in
    let shut : is_open fd w ≡ false = ap (λ b. b || is_hold (request_at w.requests fd)) (ap is_some (world_files k w fd s ∙ absent)) ∙ no_hold_there k w fd s none in
    not_open w fd (record k { files = files }) (subst (λ (fs : List ChipFile). StandsFor (record k { files = fs }) w) same s) shut
