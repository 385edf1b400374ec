use Rattle.std.proofs.Common.{◌≡◌, List, map, sym, ap, subst, ◌∙◌}
use Rattle.gl_model.specs.declared.reply.Reply.{Reply}
use Rattle.gl_model.specs.declared.reply.Reply.TheVariants.{Done, Refused}
use Rattle.gl_asking.specs.Asking.{asking, file_for, files_behind}
use Rattle.gl_asking.specs.Rows.{file_of, row_file}
use Rattle.gl_asking.specs.declared.kinds.FileRow.{FileRow}
use Rattle.gl_check.proofs.Starting.{asked_as, done_names, done_opens, goes_accepted, goes_call, goes_planned, goes_refused, refusal_names, refusal_opens}
use Rattle.gl_check.proofs.started.ask.Goals as goal

pub returns-in-Calls-clause-goes : goal.returns-in-Calls-clause-goes
returns-in-Calls-clause-goes c = λ l text on.
    let rows = c.args.rows.now.items in
    let what = c.args.what.now in
    let found : file_for what (map row_file rows) ≡ file_of c.row_for-row.result
    = subst (λ (r : List FileRow). file_for what (map row_file r) ≡ file_of c.row_for-row.result) (c.deref.ensures.value ∙ c.reserve.ensures.items) c.row_for-row.ensures.found in
    goes_call what l text on rows c.args.port.now c.asking_of.result (c.asking_of.ensures.told (map row_file rows) found) c.in-Calls.call c.first_inside.result c.reserve.new.self.items c.in-Calls.is
    c.first_inside.ensures (ap (map row_file) c.reserve.ensures.items)

pub returns-in-Calls-clause-asked : goal.returns-in-Calls-clause-asked
returns-in-Calls-clause-asked c =
    let rows = c.deref.result.now in
    asked_as c.args.what.now (map row_file rows) c.asking_of.result c.in-Calls.call c.first_inside.result (c.asking_of.ensures.told (map row_file rows) c.row_for-row.ensures.found) c.in-Calls.is c.first_inside.ensures

pub keep-requires-clause-opens : goal.keep-requires-clause-opens
keep-requires-clause-opens c = done_opens c.args.what.now c.without_lines.result.reply c.without_lines.ensures.reply

pub keep-requires-clause-named : goal.keep-requires-clause-named
keep-requires-clause-named c = done_names c.args.what.now c.row_for-row.result c.without_lines.result c.without_lines.ensures.reply

pub returns-in-Plans-clause-goes : goal.returns-in-Plans-clause-goes
returns-in-Plans-clause-goes c = λ l text on.
    let rows = c.args.rows.now.items in
    let what = c.args.what.now in
    let found : file_for what (map row_file rows) ≡ file_of c.row_for-row.result
    = subst (λ (r : List FileRow). file_for what (map row_file r) ≡ file_of c.row_for-row.result) (c.deref.ensures.value ∙ c.reserve.ensures.items) c.row_for-row.ensures.found in
    goes_planned what l text on rows c.args.port.now c.asking_of.result (c.asking_of.ensures.told (map row_file rows) found) c.in-Plans.nth c.keep.new.rows.items c.plan.new.self c.in-Plans.is c.plan.ensures
    (c.keep.ensures.files ∙ ap (λ (x : Reply × List FileRow). files_behind what x.0 (map row_file x.1)) (λ i. (c.without_lines.ensures.reply i, c.reserve.ensures.items i)))

pub keep-requires-in-Accepts-clause-opens : goal.keep-requires-in-Accepts-clause-opens
keep-requires-in-Accepts-clause-opens c = done_opens c.args.what.now c.without_lines-in-Accepts.result.reply c.without_lines-in-Accepts.ensures.reply

pub keep-requires-in-Accepts-clause-named : goal.keep-requires-in-Accepts-clause-named
keep-requires-in-Accepts-clause-named c = done_names c.args.what.now c.row_for-row.result c.without_lines-in-Accepts.result c.without_lines-in-Accepts.ensures.reply

pub returns-in-Accepts-clause-goes : goal.returns-in-Accepts-clause-goes
returns-in-Accepts-clause-goes c = λ l text on.
    let rows = c.args.rows.now.items in
    let what = c.args.what.now in
    let found : file_for what (map row_file rows) ≡ file_of c.row_for-row.result
    = subst (λ (r : List FileRow). file_for what (map row_file r) ≡ file_of c.row_for-row.result) (c.deref.ensures.value ∙ c.reserve.ensures.items) c.row_for-row.ensures.found in
    goes_accepted what l text on rows c.args.port.now c.asking_of.result (c.asking_of.ensures.told (map row_file rows) found) c.in-Accepts.bits c.keep-in-Accepts.new.rows.items c.accept.new.self c.in-Accepts.is
    c.accept.ensures
    (c.keep-in-Accepts.ensures.files ∙ ap (λ (x : Reply × List FileRow). files_behind what x.0 (map row_file x.1)) (λ i. (c.without_lines-in-Accepts.ensures.reply i, c.reserve.ensures.items i)))

pub keep-requires-in-Refuses-clause-opens : goal.keep-requires-in-Refuses-clause-opens
keep-requires-in-Refuses-clause-opens c = refusal_opens c.args.what.now c.without_lines-answered.result.reply c.in-Refuses.errno c.without_lines-answered.ensures.reply

pub keep-requires-in-Refuses-clause-named : goal.keep-requires-in-Refuses-clause-named
keep-requires-in-Refuses-clause-named c = refusal_names c.args.what.now c.row_for-row.result c.without_lines-answered.result c.in-Refuses.errno c.without_lines-answered.ensures.reply

pub returns-in-Refuses-clause-goes : goal.returns-in-Refuses-clause-goes
returns-in-Refuses-clause-goes c = λ l text on.
    let rows = c.args.rows.now.items in
    let what = c.args.what.now in
    let found : file_for what (map row_file rows) ≡ file_of c.row_for-row.result
    = subst (λ (r : List FileRow). file_for what (map row_file r) ≡ file_of c.row_for-row.result) (c.deref.ensures.value ∙ c.reserve.ensures.items) c.row_for-row.ensures.found in
    goes_refused what l text on rows c.args.port.now c.asking_of.result (c.asking_of.ensures.told (map row_file rows) found) c.in-Refuses.errno c.keep-in-Refuses.new.rows.items c.in-Refuses.is
    (c.keep-in-Refuses.ensures.files ∙ ap (λ (x : Reply × List FileRow). files_behind what x.0 (map row_file x.1)) (λ i. (c.without_lines-answered.ensures.reply i, c.reserve.ensures.items i)))
