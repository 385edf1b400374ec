use Rattle.std.proofs.Common.{◌≡◌, ℕ, Bool, true, false, not, List, set, ap, sym, ◌∙◌}
use Rattle.gl_base.specs.Positions.{table_from}
use Rattle.gl_base.specs.declared.limits.TheConstants.{LINES_MAX}
use Rattle.gl_watch.specs.Watched.{is_marked}
use Rattle.gl_watch.proofs.Marks.{mark_changed, mark_stays}
use Rattle.gl_watch.proofs.lines.WatchedLines.set.Goals as goal

pub returns-then-not-watch : goal.returns-then-not-watch
returns-then-not-watch c =
    let words : List ℕ = c.self.inside.words in
    let marked : is_marked words c.args.offset ≡ true = sym c.is_marked.ensures ∙ c.if-is_marked.true in
    let is : c.args.watch ≡ not (is_marked words c.args.offset) = c.if-not-watch.true ∙ sym (ap not marked) in
    ap (λ (ws : List ℕ). table_from (is_marked ws) 0 LINES_MAX) c.change_mark.ensures.words
    ∙ mark_changed words c.args.offset c.args.watch c.requires c.change_mark.ensures.within is
    ∙ ap (λ (marks : List Bool). set marks c.args.offset c.args.watch) c.self.view_is

pub returns-then-watch : goal.returns-then-watch
returns-then-watch c =
    let words : List ℕ = c.self.inside.words in
    let marked : is_marked words c.args.offset ≡ false = sym c.is_marked.ensures ∙ c.if-is_marked.false in
    let is : c.args.watch ≡ not (is_marked words c.args.offset) = c.if-watch.true ∙ sym (ap not marked) in
    ap (λ (ws : List ℕ). table_from (is_marked ws) 0 LINES_MAX) c.change_mark-then-watch.ensures.words
    ∙ mark_changed words c.args.offset c.args.watch c.requires c.change_mark-then-watch.ensures.within is
    ∙ ap (λ (marks : List Bool). set marks c.args.offset c.args.watch) c.self.view_is

pub returns-else-not-watch : goal.returns-else-not-watch
returns-else-not-watch c =
    let words : List ℕ = c.self.inside.words in
    let marked : is_marked words c.args.offset ≡ true = sym c.is_marked.ensures ∙ c.if-is_marked.true in
    let is : c.args.watch ≡ is_marked words c.args.offset = c.if-not-watch.false ∙ sym marked in
    sym c.self.view_is ∙ mark_stays words c.args.offset c.args.watch c.requires is ∙ ap (λ (marks : List Bool). set marks c.args.offset c.args.watch) c.self.view_is

pub returns-else-watch : goal.returns-else-watch
returns-else-watch c =
    let words : List ℕ = c.self.inside.words in
    let marked : is_marked words c.args.offset ≡ false = sym c.is_marked.ensures ∙ c.if-is_marked.false in
    let is : c.args.watch ≡ is_marked words c.args.offset = c.if-watch.false ∙ sym marked in
    sym c.self.view_is ∙ mark_stays words c.args.offset c.args.watch c.requires is ∙ ap (λ (marks : List Bool). set marks c.args.offset c.args.watch) c.self.view_is
