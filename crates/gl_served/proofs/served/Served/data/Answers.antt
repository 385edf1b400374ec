use Rattle.std.proofs.Common.{◌≡◌, ◌++◌, List, ℕ, length, drop, Ok, Err, [], ap, sym, subst, ◌∙◌, arith, length-drop}
use Rattle.std.proofs.lemmas.List.{append-nil}
use Rattle.gl_base.specs.Words.{text_at}
use Rattle.gl_script.specs.Columns.{columns}
use Rattle.gl_script.specs.Served.{IsSaid, kind_in, kinds, line_kind}
use Rattle.gl_talk.specs.Open.{file_of, is_chip_file}
use Rattle.gl_talk.specs.Talk.{names_in}
use Rattle.gl_served.specs.Questions.{data_kind, read_word, stands_for}
use Rattle.gl_served.specs.Served.{ServedValue, carried_out}
use Rattle.gl_served.proofs.Answering.{is_short, kind_told, moved_said, read_by, refuses_data, stands}
use Rattle.gl_served.proofs.Running.{keeps_can, on_err_always, pair_kept}
use Rattle.gl_served.proofs.served.Served.data.Goals as goal

pub text_at-requires : goal.text_at-requires
text_at-requires c = omega (arith, ap (λ (l : List ℕ). length l) c.behind_data-rest.ensures, length-drop 5 c.args.line.now, c.requires)

pub line_kind-requires : goal.line_kind-requires
line_kind-requires c =
    is_short c.has_chip-of_chip.result c.args.line.now c.deref.result.now
    (c.deref.ensures.value ∙ c.in_ok-statement.ensures.ok ∙ ap (λ (t : List ℕ). read_word c.has_chip-of_chip.result ++ t) c.behind_data-rest.ensures) c.requires

pub take-requires-clause-read : goal.take-requires-clause-read
take-requires-clause-read c =
    subst (λ (l : List ℕ). IsSaid (columns l) c.in-Ok.kind) (c.deref.ensures.value ∙ sym c.deref-in-Ok.ensures.value)
    (moved_said (columns c.deref.result.now) c.line_kind.result c.moved.result c.in-Ok.kind c.moved.ensures.same c.in-Ok.ensures.same c.line_kind.ensures.said)

pub returns-in-Ok-clause-answered : goal.returns-in-Ok-clause-answered
returns-in-Ok-clause-answered c = λ said keeps.
    let line : List ℕ = c.args.line.now in
    let same : names_in c.self.inside.talk ≡ (carried_out said.statements).value = ap (λ (v : ServedValue). names_in v.talk) c.self.view_is ∙ keeps.names in
    let chip : c.has_chip-of_chip.result ≡ is_chip_file (file_of (text_at 0 (columns (drop 5 line))) (names_in c.self.inside.talk).files) =
    c.has_chip-of_chip.ensures ∙ ap (λ (t : List ℕ). is_chip_file (file_of t (names_in c.self.inside.talk).files)) (c.text_at.ensures ∙ ap (λ (l : List ℕ). text_at 0 (columns l)) c.behind_data-rest.ensures) in
    let made : c.in_ok-statement.statement.items ≡ read_word c.has_chip-of_chip.result ++ drop 5 line =
    c.in_ok-statement.ensures.ok ∙ ap (λ (t : List ℕ). read_word c.has_chip-of_chip.result ++ t) c.behind_data-rest.ensures in
    read_by c.take.result c.args.out.now.items c.take.new.out.items c.take.new.self said c.deref-in-Ok.result.now (stands_for (carried_out said.statements).value line) (Ok (kind_in c.in-Ok.kind)) (data_kind said line)
    (c.deref-in-Ok.ensures.value ∙ stands said line c.in_ok-statement.statement.items (names_in c.self.inside.talk) c.has_chip-of_chip.result same chip made)
    (kind_told said line c.in_ok-statement.statement.items (names_in c.self.inside.talk) c.has_chip-of_chip.result same chip made c.pair.result c.shift_of.result c.self.inside.stage (kinds c.line_kind.result) (kinds c.moved.result) (Ok (kind_in c.in-Ok.kind))
    (c.pair.ensures.pair ∙ pair_kept c.args.self.now said keeps) (ap (λ (v : ServedValue). v.stage) c.self.view_is ∙ keeps.stage) c.shift_of.ensures
    (c.line_kind.ensures.kind ∙ ap (λ (l : List ℕ). line_kind c.self.inside.stage l) c.deref.ensures.value) c.moved.ensures.moved c.in-Ok.ensures.limited)
    (c.take.ensures.answered said keeps)

pub returns-in-Ok-clause-kept : goal.returns-in-Ok-clause-kept
returns-in-Ok-clause-kept c = λ said keeps question.
    let line : List ℕ = c.args.line.now in
    let same : names_in c.self.inside.talk ≡ (carried_out said.statements).value = ap (λ (v : ServedValue). names_in v.talk) c.self.view_is ∙ keeps.names in
    let chip : c.has_chip-of_chip.result ≡ is_chip_file (file_of (text_at 0 (columns (drop 5 line))) (names_in c.self.inside.talk).files) =
    c.has_chip-of_chip.ensures ∙ ap (λ (t : List ℕ). is_chip_file (file_of t (names_in c.self.inside.talk).files)) (c.text_at.ensures ∙ ap (λ (l : List ℕ). text_at 0 (columns l)) c.behind_data-rest.ensures) in
    let made : c.in_ok-statement.statement.items ≡ read_word c.has_chip-of_chip.result ++ drop 5 line =
    c.in_ok-statement.ensures.ok ∙ ap (λ (t : List ℕ). read_word c.has_chip-of_chip.result ++ t) c.behind_data-rest.ensures in
    c.take.ensures.kept said keeps (λ is. (
      question,
      sym (kind_told said line c.in_ok-statement.statement.items (names_in c.self.inside.talk) c.has_chip-of_chip.result same chip made c.pair.result c.shift_of.result c.self.inside.stage (kinds c.line_kind.result) (kinds c.moved.result) (Ok (kind_in c.in-Ok.kind))
          (c.pair.ensures.pair ∙ pair_kept c.args.self.now said keeps) (ap (λ (v : ServedValue). v.stage) c.self.view_is ∙ keeps.stage) c.shift_of.ensures
          (c.line_kind.ensures.kind ∙ ap (λ (l : List ℕ). line_kind c.self.inside.stage l) c.deref.ensures.value) c.moved.ensures.moved c.in-Ok.ensures.limited) ∙ ap Ok is,
    ))
    (c.deref-in-Ok.ensures.value ∙ stands said line c.in_ok-statement.statement.items (names_in c.self.inside.talk) c.has_chip-of_chip.result same chip made)

pub returns-clause-answered : goal.returns-clause-answered
returns-clause-answered c = λ said keeps.
    let line : List ℕ = c.args.line.now in
    let same : names_in c.self.inside.talk ≡ (carried_out said.statements).value = ap (λ (v : ServedValue). names_in v.talk) c.self.view_is ∙ keeps.names in
    let chip : c.has_chip-of_chip.result ≡ is_chip_file (file_of (text_at 0 (columns (drop 5 line))) (names_in c.self.inside.talk).files) =
    c.has_chip-of_chip.ensures ∙ ap (λ (t : List ℕ). is_chip_file (file_of t (names_in c.self.inside.talk).files)) (c.text_at.ensures ∙ ap (λ (l : List ℕ). text_at 0 (columns l)) c.behind_data-rest.ensures) in
    let made : c.in_ok-statement.statement.items ≡ read_word c.has_chip-of_chip.result ++ drop 5 line =
    c.in_ok-statement.ensures.ok ∙ ap (λ (t : List ℕ). read_word c.has_chip-of_chip.result ++ t) c.behind_data-rest.ensures in (
      [],
      said,
      sym (append-nil c.args.out.now.items),
      refuses_data said (stands_for (carried_out said.statements).value line) (data_kind said line) c.in-Err.spot
          (kind_told said line c.in_ok-statement.statement.items (names_in c.self.inside.talk) c.has_chip-of_chip.result same chip made c.pair.result c.shift_of.result c.self.inside.stage (kinds c.line_kind.result) (kinds c.moved.result) (Err c.in-Err.spot)
          (c.pair.ensures.pair ∙ pair_kept c.args.self.now said keeps) (ap (λ (v : ServedValue). v.stage) c.self.view_is ∙ keeps.stage) c.shift_of.ensures
          (c.line_kind.ensures.kind ∙ ap (λ (l : List ℕ). line_kind c.self.inside.stage l) c.deref.ensures.value) c.moved.ensures.moved c.in-Err.ensures.limited),
      keeps,
    )

pub returns-in_err-statement-clause-kept : goal.returns-in_err-statement-clause-kept
returns-in_err-statement-clause-kept c = λ said keeps question. on_err_always c.from_residual.result (keeps_can c.args.self.now said c.args.line.now keeps)
