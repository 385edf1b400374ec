-- What the core stands for where a request has other settings.
use Rattle.std.proofs.Common.{ℕ, List, refl, ap, ◌∙◌}
use Rattle.gl_base.specs.Rows.{change_first}
use Rattle.gl_base.specs.declared.settings.Resolved.{Resolved}
use Rattle.gl_base.proofs.FirstRows.{Each-change_first}
use Rattle.gl_base.proofs.Seen.{map-change_first}
use Rattle.gl_request.specs.Request.{configured, is_number}
use Rattle.gl_request.specs.declared.row.RequestRow.{RequestRow}
use Rattle.gl_model.specs.Configuring.{with_settings}
use Rattle.gl_model.specs.SoundRequests.{IsSoundRequest}
use Rattle.gl_model.specs.World.{World, has_number}
use Rattle.gl_core.specs.Kept.{Kept, StandsFor, kept_of, kept_request}
use Rattle.gl_core.specs.LineByLine.{with_settings_of}

pub settings_stand : (k : Kept) (w : World) (fd : ℕ) (settings : Resolved) → StandsFor k w → StandsFor (record k { requests = change_first (is_number fd) (configured settings) k.requests }) (with_settings_of fd settings w)
settings_stand k w fd settings s = record {
  kept_so =
      ap (λ (rows : List RequestRow). record (kept_of w) { requests = rows })
      (map-change_first kept_request (has_number fd) (is_number fd) (with_settings settings) (configured settings) (λ r. refl) w.requests (λ r is. refl))
      ∙ ap (λ (k : Kept). record k { requests = change_first (is_number fd) (configured settings) k.requests }) s.kept_so;
  sound_requests = Each-change_first IsSoundRequest (has_number fd) (with_settings settings) w.requests
      (λ r sound. record { in_order = sound.in_order; at_most = sound.at_most; lines_differ = sound.lines_differ }) s.sound_requests;
}
