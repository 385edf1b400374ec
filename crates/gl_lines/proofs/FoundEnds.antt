-- What a finder gives at its end.
use Rattle.std.proofs.Common.{◌≡◌, ℕ, List}
use Rattle.gl_args.specs.declared.names.ToolName.{ToolName}
use Rattle.gl_client.specs.declared.next.Next.TheVariants.{End}
use Rattle.gl_args.specs.Options.{options_in, Options}
use Rattle.gl_client.specs.Program.{done, Goes}
use Rattle.gl_lines.specs.declared.finder.Finder.{Finder}
use Rattle.gl_lines.specs.declared.finder.FinderStage.{FinderStage}
use Rattle.gl_lines.specs.declared.finder.FinderStage.TheVariants.{OpeningNamed, Looking, OpeningFound, Requesting, Closing, ChipOpen, LineOpen, Leaving, Ended}
use Rattle.gl_lines.specs.declared.found_line.FoundLine.{FoundLine}
use Rattle.gl_lines.specs.Finding.{Finding, left_at, left, found_where, has_found}

ends_at : (tool : ToolName) (base made : ℕ) (opts : Options) (next : ℕ) (found : List FoundLine) (stage : FinderStage) (p : Finding)
    → Goes p End (left_at tool base made opts next found stage) → p ≡ done (found_where (has_found stage) found)
ends_at tool base made opts next found OpeningNamed p h = absurd h
ends_at tool base made opts next found (Looking word) p h = absurd h
ends_at tool base made opts next found OpeningFound p h = absurd h
ends_at tool base made opts next found Requesting p h = absurd h
ends_at tool base made opts next found Closing p h = absurd h
ends_at tool base made opts next found ChipOpen p h = absurd h
ends_at tool base made opts next found LineOpen p h = absurd h
ends_at tool base made opts next found Leaving p h = absurd h
ends_at tool base made opts next found (Ended ok) p h = h

-- a finder that has come to its end gave its lines, where it found them
pub finder_ends : (f : Finder) (p : Finding) → Goes p End (left f) → p ≡ done (found_where (has_found f.stage) f.found.items)
finder_ends f p h = ends_at f.tool f.base f.made (options_in f.opts) f.next f.found.items f.stage p h
