use Rattle.std.proofs.Common.{◌≡◌, ◌++◌, length, drop, refl, sym, ap, ◌∙◌}
use Rattle.std.specs.Prelude.{slice_index_or}
use Rattle.gl_uapi.specs.LineInfo.{info_bytes}
use Rattle.gl_uapi.specs.declared.line_infos.Info.{Info}
use Rattle.gl_model.specs.declared.place.Place.{Place}
use Rattle.gl_model.specs.Information.{info_of, line_at}
use Rattle.gl_model.specs.Places.{no_place, place_at}
use Rattle.gl_core.specs.Kept.{Kept}
use Rattle.gl_core.proofs.Buffers.{written}
use Rattle.gl_core.proofs.state.State.write_info.Goals as goal

pub returns : goal.returns
returns c w s =
    let told : c.info_of.result ≡ info_of c.args.offset (line_at (place_at w c.args.place) c.args.offset) =
    c.info_of.ensures ∙ ap (λ (tables : Place). info_of c.args.offset (line_at tables c.args.offset))
    (c.at.ensures ∙ ap (λ (k : Kept). slice_index_or k.places c.args.place no_place) (c.self.view_is ∙ sym s.kept_so)) in (
      s,
      refl,
      written (info_bytes c.info_of.result) c.args.out.now c.write_line_info.new.out 256 c.requires.out c.write_line_info.auto.out c.write_line_info.ensures.bytes
          ∙ ap (λ (info : Info). info_bytes info ++ drop (length (info_bytes info)) c.args.out.now) told,
    )
