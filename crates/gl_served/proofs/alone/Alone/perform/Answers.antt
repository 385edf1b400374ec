use Rattle.std.proofs.Common.{◌≡◌, List, map, rules, subst, sym, ap, ◌∙◌}
use Rattle.gl_asking.specs.Asking.{file_for, files_behind}
use Rattle.gl_asking.specs.Files.{OpenFile}
use Rattle.gl_asking.specs.Rows.{file_of, row_file}
use Rattle.gl_base.specs.declared.operation.Got.TheVariants.{Refused}
use Rattle.gl_core.specs.Kept.{Kept, StandsFor}
use Rattle.gl_model.specs.declared.reply.Reply.TheVariants.{Refused as RefusedReply}
use Rattle.gl_check.specs.Seating.{port_in}
use Rattle.gl_served.proofs.Suiting.{performed_refusal, refused_got}
use Rattle.gl_served.proofs.alone.Alone.perform.Goals as goal

pub returns-in-Refuses-clause-ok : goal.returns-in-Refuses-clause-ok
returns-in-Refuses-clause-ok c = λ s stands.
    let found : file_for c.args.what.now (map row_file c.args.self.now.rows.items) ≡ file_of c.row_for-row.result = search rules in
    let kept : c.keep-in-Refuses.new.self.core ≡ c.args.self.now.core = search rules in
    let files : map row_file c.keep-in-Refuses.new.self.rows.items ≡ files_behind c.args.what.now (RefusedReply c.in-Refuses.errno) (map row_file c.args.self.now.rows.items) = search rules in
    let port : port_in c.keep-in-Refuses.new.self.port ≡ port_in c.args.self.now.port = search rules in
    performed_refusal c.args.what.now s stands.maps c.keep-in-Refuses.new.self (Refused c.in-Refuses.errno) c.in-Refuses.errno
    (c.in-Refuses.ensures.told s.files (subst (λ (l : List OpenFile). file_for c.args.what.now l ≡ file_of c.row_for-row.result) stands.files found))
    (refused_got c.args.what.now c.in-Refuses.errno)
    (subst (λ (k : Kept). StandsFor k s.world) (sym kept) stands.world)
    (files ∙ ap (λ (l : List OpenFile). files_behind c.args.what.now (RefusedReply c.in-Refuses.errno) l) stands.files)
    (port ∙ stands.source)
