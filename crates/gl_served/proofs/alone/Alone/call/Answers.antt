use Rattle.std.proofs.Common.{◌≡◌, List, map, sym, ◌∙◌, ap, subst, rules}
use Rattle.gl_asking.specs.Asking.{file_for}
use Rattle.gl_asking.specs.Files.{OpenFile}
use Rattle.gl_asking.specs.Rows.{file_of, row_file}
use Rattle.gl_core.specs.Kept.{Kept}
use Rattle.gl_check.specs.One.{comes_to}
use Rattle.gl_check.specs.Buffers.{buffer_for}
use Rattle.gl_served.specs.Making.{CameBy, FitsMaking}
use Rattle.gl_check.specs.Seating.{port_in}
use Rattle.gl_served.specs.Port.{next_to}
use Rattle.gl_served.proofs.Numbers.{lines_by}
use Rattle.gl_served.proofs.Suiting.{performed_from, suits_call}
use Rattle.gl_served.proofs.alone.Alone.call.Goals as goal

pub make-requires-clause-buffer : goal.make-requires-clause-buffer
make-requires-clause-buffer c =
    let files : List OpenFile = map row_file c.args.self.now.rows.items in
    let suits = suits_call files c.args.what.now c.args.call.now (c.requires.asks files c.requires.found) in
    let same : c.in_ok-buffer.buffer.items ≡ buffer_for c.args.what.now = search rules in
    subst (λ b. FitsMaking c.args.call.now b) (sym same) suits.fits

pub keep-requires-clause-opens : goal.keep-requires-clause-opens
keep-requires-clause-opens c =
    let files : List OpenFile = map row_file c.args.self.now.rows.items in
    let suits = suits_call files c.args.what.now c.args.call.now (c.requires.asks files c.requires.found) in
    let kept = c.core_is_well_kept.ensures in
    suits.opens c.in-Ok.field-0.reply c.in-Ok.ensures.number
    (lines_by kept.world c.args.call.now (next_to c.args.call.now (port_in c.args.self.now.port)) c.in-Ok.field-0.reply (c.in-Ok.ensures.made kept.world kept.stands).0.reply)

pub keep-requires-clause-named : goal.keep-requires-clause-named
keep-requires-clause-named c =
    let files : List OpenFile = map row_file c.args.self.now.rows.items in
    let suits = suits_call files c.args.what.now c.args.call.now (c.requires.asks files c.requires.found) in
    suits.named c.args.row (record { reply = c.in-Ok.field-0.reply; lines = c.in-Ok.field-0.lines }) c.in-Ok.ensures.lines

pub returns-in-Ok-clause-ok : goal.returns-in-Ok-clause-ok
returns-in-Ok-clause-ok c = λ s stands.
    let files : List OpenFile = map row_file c.args.self.now.rows.items in
    let suits = suits_call files c.args.what.now c.args.call.now (c.requires.asks files c.requires.found) in
    let came = c.in-Ok.ensures.made s.world stands.world in
    let same : c.in_ok-buffer.buffer.items ≡ buffer_for c.args.what.now = search rules in
    performed_from c.args.what.now s stands.maps c.keep.new.self c.got_of.result c.args.call.now (port_in c.args.self.now.port) files c.in-Ok.field-0.reply c.in_ok-buffer.buffer.items c.in-Ok.field-0.buffer.items
    (c.requires.asks s.files (subst (λ (l : List OpenFile). file_for c.args.what.now l ≡ file_of c.args.row) stands.files c.requires.found))
    stands.source stands.files same suits
    (subst (λ (k : Kept). CameBy c.args.call.now (comes_to s.world c.args.call.now (next_to c.args.call.now (port_in c.args.self.now.port))) c.in-Ok.field-0.reply k c.in_ok-buffer.buffer.items c.in-Ok.field-0.buffer.items) (sym c.keep.ensures.core) came.0)
    (ap port_in c.keep.ensures.port ∙ came.1)
    c.keep.ensures.files
    c.got_of.ensures
