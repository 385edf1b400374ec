use Rattle.std.proofs.Common.{◌≡◌, take, Option, Some, refl, sym, ◌∙◌, subst}
use Rattle.gl_request.specs.Request.{request_at}
use Rattle.gl_request.specs.declared.row.RequestRow.{RequestRow}
use Rattle.gl_attrs.specs.Setting.{resolved_for}
use Rattle.gl_base.specs.declared.errno.Errno.{Errno}
use Rattle.gl_base.specs.declared.settings.Resolved.{Resolved}
use Rattle.gl_uapi.specs.declared.layout.TheConstants.{LINE_CONFIG_SIZE}
use Rattle.gl_model.specs.Configuring.{reconfigure, set_config}
use Rattle.gl_model.specs.OpenFiles.{in_parts}
use Rattle.gl_model.specs.Outcome.{Outcome, done, refused_or}
use Rattle.gl_model.specs.declared.reply.Reply.TheVariants.{Refused}
use Rattle.gl_core.specs.Commanded.{part_of}
use Rattle.gl_core.specs.Kept.{Kept, StandsFor}
use Rattle.gl_core.specs.Shape.{HasEachLine, IsShaped}
use Rattle.gl_core.proofs.OpenRequests.{each_row_line, on_row}
use Rattle.gl_core.proofs.state.State.set_config.Goals as goal

pub new_settings-requires-clause-lines : goal.new_settings-requires-clause-lines
new_settings-requires-clause-lines c =
    let k : Kept = c.args.self.now in
    let row : RequestRow = c.row-row.result.now in
    let shape : IsShaped k.chips k.origins k.places = subst (λ (k : Kept). IsShaped k.chips k.origins k.places) c.self.view_is c.self.invariant.0 in
    let found : request_at k.requests c.args.found.fd ≡ Some row = subst (λ (k : Kept). request_at k.requests c.args.found.fd ≡ Some row) c.self.view_is c.row-row.ensures.row in
    each_row_line k c.args.place c.args.found.fd row shape c.requires.reached c.requires.opened.opened found c.row-row.ensures.slots c.row-row.ensures.lines.1

pub take_settings-requires-clause-lines : goal.take_settings-requires-clause-lines
take_settings-requires-clause-lines c other is =
    let k : Kept = c.args.self.now in
    let row : RequestRow = c.row-row.result.now in
    let shape : IsShaped k.chips k.origins k.places = subst (λ (k : Kept). IsShaped k.chips k.origins k.places) c.self.view_is c.self.invariant.0 in
    let found : request_at k.requests c.args.found.fd ≡ Some row = subst (λ (k : Kept). request_at k.requests c.args.found.fd ≡ Some row) c.self.view_is c.row-row.ensures.row in
    let same : row ≡ other = (let one : Some row ≡ Some other = sym found ∙ is in cc) in
    subst (λ (row : RequestRow). HasEachLine k.places c.args.place row.lines) same
    (each_row_line k c.args.place c.args.found.fd row shape c.requires.reached c.requires.opened.opened found c.row-row.ensures.slots c.row-row.ensures.lines.1)

pub returns-in-Err : goal.returns-in-Err
returns-in-Err c w s =
    let k : Kept = c.args.self.now in
    let row : RequestRow = c.row-row.result.now in
    let found : request_at k.requests c.args.found.fd ≡ Some row = subst (λ (k : Kept). request_at k.requests c.args.found.fd ≡ Some row) c.self.view_is c.row-row.ensures.row in
    let bytes = take LINE_CONFIG_SIZE c.args.bytes.now in
    let rest : Outcome = in_parts (part_of c.args.part) (λ bits v. done (reconfigure c.args.place c.args.found.fd row.lines row.settings (resolved_for bytes row.lines.count) bits v)) w in
    on_row (λ out. StandsFor k out.world × (Refused c.in-Err.errno ≡ out.reply))
    (set_config c.args.place c.args.found.fd bytes (part_of c.args.part)) k w c.args.found.fd row s found
    (subst (λ (refusal : Option Errno). let out = refused_or refusal w rest in StandsFor k out.world × (Refused c.in-Err.errno ≡ out.reply)) (c.in-Err.ensures.refused w s) (s, refl))

pub returns-in-Ok : goal.returns-in-Ok
returns-in-Ok c w s =
    let k : Kept = c.args.self.now in
    let row : RequestRow = c.row-row.result.now in
    let found : request_at k.requests c.args.found.fd ≡ Some row = subst (λ (k : Kept). request_at k.requests c.args.found.fd ≡ Some row) c.self.view_is c.row-row.ensures.row in
    let bytes = take LINE_CONFIG_SIZE c.args.bytes.now in
    let rest : Resolved → Outcome = λ settings. in_parts (part_of c.args.part) (λ bits v. done (reconfigure c.args.place c.args.found.fd row.lines row.settings settings bits v)) w in
    let told : StandsFor c.take_settings.new.self (rest (resolved_for bytes row.lines.count)).world × (c.take_settings.result ≡ (rest (resolved_for bytes row.lines.count)).reply) =
    subst (λ (settings : Resolved). StandsFor c.take_settings.new.self (rest settings).world × (c.take_settings.result ≡ (rest settings).reply)) c.in-Ok.ensures.ok (c.take_settings.ensures row found w s) in
    on_row (λ out. StandsFor c.take_settings.new.self out.world × (c.take_settings.result ≡ out.reply))
    (set_config c.args.place c.args.found.fd bytes (part_of c.args.part)) k w c.args.found.fd row s found
    (subst (λ (refusal : Option Errno). let out = refused_or refusal w (rest (resolved_for bytes row.lines.count)) in StandsFor c.take_settings.new.self out.world × (c.take_settings.result ≡ out.reply)) (c.in-Ok.ensures.passed w s) told)
