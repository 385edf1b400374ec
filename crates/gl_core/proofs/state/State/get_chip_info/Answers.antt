use Rattle.std.proofs.Common.{◌≡◌, ◌++◌, List, ℕ, length, drop, refl, sym, ap, ◌∙◌}
use Rattle.gl_base.specs.ChipWord.{chip_name}
use Rattle.gl_registry.specs.Chips.{chip_at}
use Rattle.gl_uapi.specs.ChipInfo.{chip_bytes}
use Rattle.gl_core.specs.Kept.{Kept}
use Rattle.gl_core.proofs.Buffers.{written}
use Rattle.gl_core.proofs.state.State.get_chip_info.Goals as goal

pub returns : goal.returns
returns c w s =
    let told : chip_bytes c.chip_name.result c.label-label.result c.lines.result ≡ chip_bytes (chip_name c.args.place) (chip_at w.chips c.args.place).label (chip_at w.chips c.args.place).lines =
    ap (λ (name : List ℕ). chip_bytes name c.label-label.result c.lines.result) c.chip_name.ensures
    ∙ ap (λ (label : List ℕ). chip_bytes (chip_name c.args.place) label c.lines.result) c.label-label.ensures
    ∙ ap (λ (lines : ℕ). chip_bytes (chip_name c.args.place) (chip_at c.self.inside.chips c.args.place).label lines) c.lines.ensures
    ∙ ap (λ (k : Kept). chip_bytes (chip_name c.args.place) (chip_at k.chips c.args.place).label (chip_at k.chips c.args.place).lines) (c.self.view_is ∙ sym s.kept_so) in (
      s,
      refl,
      written (chip_bytes c.chip_name.result c.label-label.result c.lines.result) c.args.out.now c.write_chip_info.new.out 68 c.requires c.write_chip_info.auto.out c.write_chip_info.ensures.bytes
          ∙ ap (λ (bytes : List ℕ). bytes ++ drop (length bytes) c.args.out.now) told,
    )
