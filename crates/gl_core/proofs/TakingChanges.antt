-- What the core stands for after a read of a chip file.
use Rattle.std.proofs.Common.{◌≡◌, ℕ, ◌*◌, ◌/◌, ◌≤◌, List, ◌++◌, length, take, drop, sym, ap, ◌∙◌, subst, arith}
use Rattle.std.specs.Prelude.{flat_map, min}
use Rattle.gl_base.specs.Rows.{change_first}
use Rattle.gl_uapi.specs.InfoChanged.{changed_bytes}
use Rattle.gl_uapi.specs.declared.layout.TheConstants.{INFO_CHANGED_SIZE}
use Rattle.gl_watch.specs.Files.{file_at, is_file, waiting_in, without_changes}
use Rattle.gl_watch.specs.declared.file.ChipFile.{ChipFile}
use Rattle.gl_model.specs.declared.reply.Reply.TheVariants.{Number}
use Rattle.gl_model.specs.Reading.{changes_for, take_changes}
use Rattle.gl_model.specs.World.{World}
use Rattle.gl_core.specs.Kept.{Kept, StandsFor, kept_of}
use Rattle.gl_core.proofs.Buffers.{Comes, written}

pub take_done : (k : Kept) (w : World) (fd len count : ℕ) (files : List ChipFile) (before after : List ℕ) → StandsFor k w
    → count ≡ min (len / INFO_CHANGED_SIZE) (length (waiting_in (file_at fd k.files)))
    → files ≡ change_first (is_file fd) (without_changes count) k.files
    → length before ≡ len → length after ≡ length before
    → after ≡ flat_map changed_bytes (take count (waiting_in (file_at fd k.files))) ++ drop (INFO_CHANGED_SIZE * count) before
    → Comes (take_changes fd len w) (record k { files = files }) (Number (INFO_CHANGED_SIZE * count)) before after
take_done k w fd len count files before after s =
    subst (λ (k : Kept). count ≡ min (len / INFO_CHANGED_SIZE) (length (waiting_in (file_at fd k.files)))
    → files ≡ change_first (is_file fd) (without_changes count) k.files
    → length before ≡ len → length after ≡ length before
    → after ≡ flat_map changed_bytes (take count (waiting_in (file_at fd k.files))) ++ drop (INFO_CHANGED_SIZE * count) before
    → Comes (take_changes fd len w) (record k { files = files }) (Number (INFO_CHANGED_SIZE * count)) before after) s.kept_so
    (λ many is long kept out.
    let fits : INFO_CHANGED_SIZE * count ≤ length before = omega (arith, many, long) in
    let bytes : List ℕ = flat_map changed_bytes (take count (changes_for fd w)) in
    let all : after ≡ bytes ++ drop (length bytes) before = written bytes before after (INFO_CHANGED_SIZE * count) fits kept out in (
      record { kept_so = ap (λ (n : ℕ). record (kept_of w) { files = change_first (is_file fd) (without_changes n) w.files }) (sym many) ∙ ap (λ (fs : List ChipFile). record (kept_of w) { files = fs }) (sym is); sound_requests = s.sound_requests },
      ap (λ (n : ℕ). Number (INFO_CHANGED_SIZE * n)) many,
      all ∙ ap (λ (n : ℕ). let bytes = flat_map changed_bytes (take n (changes_for fd w)) in bytes ++ drop (length bytes) before) many,
    ))
