-- What is done with the lines of a request one by one.
use Rattle.std.proofs.Common.{◌≡◌, ℕ, ◌+◌, ◌<◌, ◌≤◌, [], ◌∷◌, length, drop, ap, ◌∙◌, arith, min}
use Rattle.std.specs.Prelude.{slice_index}
use Rattle.std.proofs.lemmas.List.{drop_all, drop_more, get_or-take, length-take}
use Rattle.gl_base.specs.Lines.{offsets_of}
use Rattle.gl_base.specs.declared.lines.Lines.{Lines}
use Rattle.gl_base.specs.declared.settings.Resolved.{Resolved}
use Rattle.gl_model.specs.Configuring.{configure_from, reconfigure_from}
use Rattle.gl_model.specs.Values.{drive_from}
use Rattle.gl_model.specs.World.{World}
use Rattle.gl_core.specs.LineByLine.{configure_at, drive_masked, reconfigure_at}

-- the offsets from a position on
pub offsets_more : (lines : Lines) (i : ℕ) → i < lines.count → lines.count ≤ length lines.offsets → drop i (offsets_of lines) ≡ slice_index lines.offsets i ∷ drop (i + 1) (offsets_of lines)
offsets_more lines i lt few =
    let size : length (offsets_of lines) ≡ min lines.count (length lines.offsets) = length-take lines.count lines.offsets in
    drop_more (offsets_of lines) i 0 (omega arith) ∙ ap (λ x. x ∷ drop (i + 1) (offsets_of lines)) (get_or-take lines.count lines.offsets i 0 lt)

pub offsets_end : (lines : Lines) (i : ℕ) → lines.count ≤ i → drop i (offsets_of lines) ≡ []
offsets_end lines i past =
    let size : length (offsets_of lines) ≡ min lines.count (length lines.offsets) = length-take lines.count lines.offsets in
    drop_all i (offsets_of lines) (omega arith)

-- one line more is driven
pub drive_more : (place mask bits : ℕ) (lines : Lines) (i : ℕ) (v : World) → i < lines.count → lines.count ≤ length lines.offsets
    → drive_from place mask bits i (drop i (offsets_of lines)) v ≡ drive_from place mask bits (i + 1) (drop (i + 1) (offsets_of lines)) (drive_masked place lines mask bits i v)
drive_more place mask bits lines i v lt few = ap (λ offsets. drive_from place mask bits i offsets v) (offsets_more lines i lt few)

-- no line is left
pub drive_end : (place mask bits : ℕ) (lines : Lines) (i : ℕ) (v : World) → lines.count ≤ i → drive_from place mask bits i (drop i (offsets_of lines)) v ≡ v
drive_end place mask bits lines i v past = ap (λ offsets. drive_from place mask bits i offsets v) (offsets_end lines i past)

-- one line more is configured
pub configure_more : (place : ℕ) (settings : Resolved) (bits : ℕ) (lines : Lines) (i : ℕ) (v : World) → i < lines.count → lines.count ≤ length lines.offsets
    → configure_from place settings bits i (drop i (offsets_of lines)) v ≡ configure_from place settings bits (i + 1) (drop (i + 1) (offsets_of lines)) (configure_at place lines settings bits i v)
configure_more place settings bits lines i v lt few = ap (λ offsets. configure_from place settings bits i offsets v) (offsets_more lines i lt few)

pub configure_end : (place : ℕ) (settings : Resolved) (bits : ℕ) (lines : Lines) (i : ℕ) (v : World) → lines.count ≤ i → configure_from place settings bits i (drop i (offsets_of lines)) v ≡ v
configure_end place settings bits lines i v past = ap (λ offsets. configure_from place settings bits i offsets v) (offsets_end lines i past)

-- one line more is configured and told of
pub reconfigure_more : (place : ℕ) (settings : Resolved) (bits : ℕ) (lines : Lines) (i : ℕ) (v : World) → i < lines.count → lines.count ≤ length lines.offsets
    → reconfigure_from place settings bits i (drop i (offsets_of lines)) v ≡ reconfigure_from place settings bits (i + 1) (drop (i + 1) (offsets_of lines)) (reconfigure_at place lines settings bits i v)
reconfigure_more place settings bits lines i v lt few = ap (λ offsets. reconfigure_from place settings bits i offsets v) (offsets_more lines i lt few)

pub reconfigure_end : (place : ℕ) (settings : Resolved) (bits : ℕ) (lines : Lines) (i : ℕ) (v : World) → lines.count ≤ i → reconfigure_from place settings bits i (drop i (offsets_of lines)) v ≡ v
reconfigure_end place settings bits lines i v past = ap (λ offsets. reconfigure_from place settings bits i offsets v) (offsets_end lines i past)
