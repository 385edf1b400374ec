-- What the core stands for after a file has begun or ceased to watch a line.
use Rattle.std.proofs.Common.{◌≡◌, ℕ, Bool, true, false, List, [], ◌∷◌, ◌++◌, length, drop, Option, Some, None, refl, sym, ap, ◌∙◌, subst}
use Rattle.std.specs.Prelude.{Result, Err, Ok, nat_le}
use Rattle.gl_base.specs.Refusals.{answer, first_of, unless, when}
use Rattle.gl_base.specs.Rows.{change_first}
use Rattle.gl_base.specs.declared.errno.Errno.{Errno}
use Rattle.gl_base.specs.declared.errno.Errno.TheVariants.{Inval}
use Rattle.gl_uapi.specs.Fields.{number_at, number_bytes}
use Rattle.gl_watch.specs.Files.{file_at, is_file, unwatch_refusal, watch_refusal, with_watch}
use Rattle.gl_watch.specs.declared.file.ChipFile.{ChipFile}
use Rattle.gl_model.specs.declared.reply.Reply.{Reply}
use Rattle.gl_model.specs.declared.reply.Reply.TheVariants.{Done, Refused}
use Rattle.gl_model.specs.Commands.{info_refusal, offset_named, unwatch_line, watch_line, with_watched, write_info}
use Rattle.gl_model.specs.Outcome.{Outcome, refused_or, writes}
use Rattle.gl_model.specs.Places.{lines_at}
use Rattle.gl_model.specs.World.{World}
use Rattle.gl_core.specs.Kept.{Kept, StandsFor, kept_of}
use Rattle.gl_core.specs.Steps.{StepsInto}
use Rattle.gl_core.proofs.Buffers.{Comes}

unrefused : (o : Option Errno) (told : Result (Unit {0}) Errno) (field : Unit {0}) → told ≡ answer o tt → told ≡ Ok field → o ≡ None
unrefused None told field said is = refl
unrefused (Some e) told field said is = cc

watched_stands : (w : World) (fd offset : ℕ) (watch : Bool) (files : List ChipFile) → StandsFor (kept_of w) w → files ≡ change_first (is_file fd) (with_watch offset watch) w.files
    → StandsFor (record (kept_of w) { files = files }) (with_watched fd offset watch w)
watched_stands w fd offset watch files s is = record {
  kept_so = ap (λ (fs : List ChipFile). record (kept_of w) { files = fs }) (sym is);
  sound_requests = s.sound_requests;
}

-- where nothing is refused, the call is what follows
both_unrefused : (first second : Option Errno) (w : World) (out : Outcome) (new : Kept) (reply : Reply) (before after : List ℕ) → None ≡ first → second ≡ None
    → Comes out new reply before after → Comes (refused_or (first_of (first ∷ second ∷ [])) w out) new reply before after
both_unrefused first second w out new reply before after one two comes =
    subst (λ (first : Option Errno). Comes (refused_or (first_of (first ∷ second ∷ [])) w out) new reply before after) one
    (subst (λ (second : Option Errno). Comes (refused_or (first_of (None ∷ second ∷ [])) w out) new reply before after) (sym two) comes)

pub watch_done : (k : Kept) (w : World) (place fd offset : ℕ) (bytes : List ℕ) (files : List ChipFile) (told : Result (Unit {0}) Errno) (field : Unit {0}) (new : Kept) (reply : Reply) (before after : List ℕ) → StandsFor k w
    → None ≡ info_refusal place bytes w → told ≡ Ok field → offset ≡ offset_named bytes → told ≡ answer (watch_refusal offset (file_at fd k.files)) tt
    → files ≡ unless (watch_refusal offset (file_at fd k.files)) (change_first (is_file fd) (with_watch offset true) k.files) k.files
    → StepsInto (write_info place offset) (record k { files = files }) new reply before after
    → Comes (watch_line place fd bytes w) new reply before after
watch_done k w place fd offset bytes files told field new reply before after s free ok named =
    subst (λ (k : Kept). told ≡ answer (watch_refusal offset (file_at fd k.files)) tt
    → files ≡ unless (watch_refusal offset (file_at fd k.files)) (change_first (is_file fd) (with_watch offset true) k.files) k.files
    → StepsInto (write_info place offset) (record k { files = files }) new reply before after
    → Comes (watch_line place fd bytes w) new reply before after) s.kept_so
    (λ said is writes_it.
    let none : watch_refusal offset (file_at fd w.files) ≡ None = unrefused (watch_refusal offset (file_at fd w.files)) told field said ok in
    let now : files ≡ change_first (is_file fd) (with_watch offset true) w.files = is ∙ ap (λ o. unless o (change_first (is_file fd) (with_watch offset true) w.files) w.files) none in
    subst (λ (n : ℕ). Comes (refused_or (first_of (info_refusal place bytes w ∷ watch_refusal n (file_at fd w.files) ∷ [])) w (write_info place n (with_watched fd n true w))) new reply before after) named
    (both_unrefused (info_refusal place bytes w) (watch_refusal offset (file_at fd w.files)) w (write_info place offset (with_watched fd offset true w)) new reply before after free none
    (writes_it (with_watched fd offset true w) (watched_stands w fd offset true files (record { kept_so = refl; sound_requests = s.sound_requests }) now))))

pub unwatch_done : (k : Kept) (w : World) (place fd offset : ℕ) (bytes : List ℕ) (files : List ChipFile) (told : Result (Unit {0}) Errno) (field : Unit {0}) (before after : List ℕ) → StandsFor k w
    → None ≡ when (nat_le (lines_at w place) offset) Inval → told ≡ Ok field → offset ≡ number_at 4 0 bytes → told ≡ answer (unwatch_refusal offset (file_at fd k.files)) tt
    → files ≡ unless (unwatch_refusal offset (file_at fd k.files)) (change_first (is_file fd) (with_watch offset false) k.files) k.files
    → after ≡ number_bytes 4 offset ++ drop (length (number_bytes 4 offset)) before
    → Comes (unwatch_line place fd bytes w) (record k { files = files }) Done before after
unwatch_done k w place fd offset bytes files told field before after s within ok named =
    subst (λ (k : Kept). told ≡ answer (unwatch_refusal offset (file_at fd k.files)) tt
    → files ≡ unless (unwatch_refusal offset (file_at fd k.files)) (change_first (is_file fd) (with_watch offset false) k.files) k.files
    → after ≡ number_bytes 4 offset ++ drop (length (number_bytes 4 offset)) before
    → Comes (unwatch_line place fd bytes w) (record k { files = files }) Done before after) s.kept_so
    (λ said is wrote.
    let none : unwatch_refusal offset (file_at fd w.files) ≡ None = unrefused (unwatch_refusal offset (file_at fd w.files)) told field said ok in
    let now : files ≡ change_first (is_file fd) (with_watch offset false) w.files = is ∙ ap (λ o. unless o (change_first (is_file fd) (with_watch offset false) w.files) w.files) none in
    subst (λ (n : ℕ). Comes (refused_or (first_of (when (nat_le (lines_at w place) n) Inval ∷ unwatch_refusal n (file_at fd w.files) ∷ [])) w (writes (number_bytes 4 n) (with_watched fd n false w))) (record (kept_of w) { files = files }) Done before after) named
    (both_unrefused (when (nat_le (lines_at w place) offset) Inval) (unwatch_refusal offset (file_at fd w.files)) w (writes (number_bytes 4 offset) (with_watched fd offset false w)) (record (kept_of w) { files = files }) Done before after within none
    (watched_stands w fd offset false files (record { kept_so = refl; sound_requests = s.sound_requests }) now, refl, wrote)))

second_refused : (first o : Option Errno) (w : World) (out : Outcome) (e : Errno) (new : Kept) (told : Result (Unit {0}) Errno) (bytes : List ℕ) → None ≡ first → told ≡ answer o tt → told ≡ Err e → StandsFor new w
    → Comes (refused_or (first_of (first ∷ o ∷ [])) w out) new (Refused e) bytes bytes
second_refused first None w out e new told bytes free said is stands = let no : ⊥ = cc in absurd no
second_refused first (Some f) w out e new told bytes free said is stands =
    let same : e ≡ f = cc in
    subst (λ (first : Option Errno). Comes (refused_or (first_of (first ∷ Some f ∷ [])) w out) new (Refused e) bytes bytes) free (stands, ap (λ (x : Errno). Refused x) same, refl)

unchanged : (o : Option Errno) (e : Errno) (told : Result (Unit {0}) Errno) (changed old : List ChipFile) → told ≡ answer o tt → told ≡ Err e → unless o changed old ≡ old
unchanged None e told changed old said is = let no : ⊥ = cc in absurd no
unchanged (Some f) e told changed old said is = refl

pub unwatch_refused : (k : Kept) (w : World) (place fd offset : ℕ) (bytes : List ℕ) (files : List ChipFile) (told : Result (Unit {0}) Errno) (e : Errno) (before : List ℕ) → StandsFor k w
    → None ≡ when (nat_le (lines_at w place) offset) Inval → told ≡ Err e → offset ≡ number_at 4 0 bytes → told ≡ answer (unwatch_refusal offset (file_at fd k.files)) tt
    → files ≡ unless (unwatch_refusal offset (file_at fd k.files)) (change_first (is_file fd) (with_watch offset false) k.files) k.files
    → Comes (unwatch_line place fd bytes w) (record k { files = files }) (Refused e) before before
unwatch_refused k w place fd offset bytes files told e before s within err named =
    subst (λ (k : Kept). told ≡ answer (unwatch_refusal offset (file_at fd k.files)) tt
    → files ≡ unless (unwatch_refusal offset (file_at fd k.files)) (change_first (is_file fd) (with_watch offset false) k.files) k.files
    → Comes (unwatch_line place fd bytes w) (record k { files = files }) (Refused e) before before) s.kept_so
    (λ said is.
    let same : files ≡ w.files = is ∙ unchanged (unwatch_refusal offset (file_at fd w.files)) e told (change_first (is_file fd) (with_watch offset false) w.files) w.files said err in
    subst (λ (n : ℕ). Comes (refused_or (first_of (when (nat_le (lines_at w place) n) Inval ∷ unwatch_refusal n (file_at fd w.files) ∷ [])) w (writes (number_bytes 4 n) (with_watched fd n false w))) (record (kept_of w) { files = files }) (Refused e) before before) named
    (second_refused (when (nat_le (lines_at w place) offset) Inval) (unwatch_refusal offset (file_at fd w.files)) w (writes (number_bytes 4 offset) (with_watched fd offset false w)) e (record (kept_of w) { files = files }) told before within said err
    (record { kept_so = ap (λ (fs : List ChipFile). record (kept_of w) { files = fs }) (sym same); sound_requests = s.sound_requests })))
