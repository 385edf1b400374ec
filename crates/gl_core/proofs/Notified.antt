-- What the core stands for after files were told of changes.
use Rattle.std.proofs.Common.{◌≡◌, ℕ, List, map, sym, ap, subst}
use Rattle.std.specs.Prelude.{slice_index_or}
use Rattle.gl_watch.specs.Files.{notified}
use Rattle.gl_watch.specs.declared.file.ChipFile.{ChipFile}
use Rattle.gl_model.specs.Information.{info_of, line_at}
use Rattle.gl_model.specs.Notify.{notify}
use Rattle.gl_model.specs.Places.{no_place}
use Rattle.gl_model.specs.World.{World}
use Rattle.gl_core.specs.Kept.{Kept, StandsFor, kept_of}

-- the files were told of a change of a line
pub notified_stands : (k : Kept) (w : World) (place offset kind : ℕ) (files : List ChipFile) → StandsFor k w
    → files ≡ map (notified place (record { info = info_of offset (line_at (slice_index_or k.places place no_place) offset); timestamp = k.mono; kind = kind })) k.files
    → StandsFor (record k { files = files }) (notify place offset kind w)
notified_stands k w place offset kind files s told =
    subst (λ (k : Kept). files ≡ map (notified place (record { info = info_of offset (line_at (slice_index_or k.places place no_place) offset); timestamp = k.mono; kind = kind })) k.files
    → StandsFor (record k { files = files }) (notify place offset kind w)) s.kept_so
    (λ here. record { kept_so = ap (λ (fs : List ChipFile). record (kept_of w) { files = fs }) (sym here); sound_requests = s.sound_requests }) told
