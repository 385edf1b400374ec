use Rattle.std.proofs.Common.{◌≡◌, ℕ, Bool, sym, ap, ◌∙◌, subst}
use Rattle.std.specs.Prelude.{slice_index_or}
use Rattle.gl_bank.specs.Level.{flipped, levels_at}
use Rattle.gl_bank.specs.declared.levels.Levels.{Levels}
use Rattle.gl_base.specs.Rows.{change_first}
use Rattle.gl_request.specs.Request.{is_number}
use Rattle.gl_model.specs.declared.place.Place.{Place}
use Rattle.gl_model.specs.Edges.{edge, event_time}
use Rattle.gl_model.specs.Places.{no_place}
use Rattle.gl_core.specs.HeldLines.{HoldersHaveLines, noted_at}
use Rattle.gl_core.specs.Kept.{Kept, StandsFor}
use Rattle.gl_core.proofs.HeldLines.{lines_noted}
use Rattle.gl_core.proofs.NotedEdges.{edge_comes}
use Rattle.gl_core.proofs.state.State.edge.Goals as goal

pub returns-in-Some-clause-follows : goal.returns-in-Some-clause-follows
returns-in-Some-clause-follows c w s =
    let k : Kept = c.args.self.now in
    let line : Levels = levels_at (slice_index_or k.places c.args.place no_place).bank c.args.offset in
    let read : c.line-line.result ≡ line =
    c.line-line.ensures ∙ ap (λ (place : Place). levels_at place.bank c.args.offset) (c.at.ensures ∙ ap (λ (k : Kept). slice_index_or k.places c.args.place no_place) c.self.view_is) in
    let after : ℕ → Bool → ℕ → Kept = λ fd rising timestamp. record k { requests = change_first (is_number fd) (noted_at c.args.offset rising timestamp) k.requests } in
    let rising : c.flip.result ≡ flipped line.flags c.args.up = c.flip.ensures ∙ ap (λ (l : Levels). flipped l.flags c.args.up) read in
    let timestamp : c.event_time-timestamp.result ≡ event_time line.flags c.args.moment k.real = c.event_time-timestamp.ensures ∙ ap (λ (l : Levels). event_time l.flags c.args.moment k.real) read in
    subst (λ (k : Kept). StandsFor k (edge c.args.place c.args.offset c.args.up c.args.moment w))
    (sym (c.note_edge.ensures ∙ ap (λ b. after c.in-Some.fd b c.event_time-timestamp.result) rising ∙ ap (after c.in-Some.fd (flipped line.flags c.args.up)) timestamp))
    (edge_comes k w c.args.place c.args.offset c.args.up c.args.moment c.in-Some.fd s c.requires c.in-Some.ensures.told)

pub returns-in-Some-clause-lines : goal.returns-in-Some-clause-lines
returns-in-Some-clause-lines c =
    let k : Kept = c.args.self.now in
    subst (λ (k : Kept). HoldersHaveLines k.places k.requests) (sym c.note_edge.ensures)
    (lines_noted k.places k.requests c.in-Some.fd c.args.offset c.flip.result c.event_time-timestamp.result c.requires)
