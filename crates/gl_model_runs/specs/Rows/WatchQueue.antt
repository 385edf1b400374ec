-- A file that watches a line is told of each request and release of it, with the time of each; of more than 32 changes the
-- newest are dropped: those that wait are the first 32, by their times.
use Rattle.std.specs.Prelude.{ℕ, ◌+◌, ◌*◌, List, [], ◌∷◌, ◌++◌, codes, flat_map}
use Rattle.gl_base.specs.declared.errno.Errno.TheVariants.{Again, Busy}
use Rattle.gl_base.specs.Positions.{table_from}
use Rattle.gl_uapi.specs.Fields.{number_bytes}
use Rattle.gl_uapi.specs.declared.commands.Command.TheVariants.{Watch, Unwatch, GetLine}
use Rattle.gl_model.specs.declared.call.Call.TheVariants.{Close, ReadInfo, Tick}
use Rattle.gl_model.specs.declared.call.Part.TheVariants.{Whole}
use Rattle.gl_model.specs.declared.reply.Reply.TheVariants.{Done, Refused}
use Rattle.gl_model_runs.specs.Rows.Structures.{ask_and_tell, by, change, command, config, four_lines, four_lines_given, gives, info, opened, request}
use Rattle.gl_model_runs.specs.Run.{Answer, Made, says, shows}

-- line 0 as an input, again and again
abbrev pub asked : ℕ → List ℕ
asked fd = request [] (config 0x4 []) 1 0 fd

-- A request of line 0 with this number, which is closed. It is requested at twice its number, and released one later; the
-- real clock stands still.
abbrev pub round : ℕ → List Made
round fd = by 0 (Tick (2 * fd) 7) ∷ ask_and_tell 3 GetLine (asked 0) ++ by 0 (Tick (2 * fd + 1) 7) ∷ by 0 (Close fd) ∷ []

-- line 0 is watched, twice; 17 requests, of numbers 4 to 20; two reads of what happened; line 0 is unwatched, twice
unfoldable pub run : List Made
run =
    four_lines
    ++ command 3 Watch (info [] 0 0) Whole
    ∷ command 3 Watch (info [] 0 0) Whole
    ∷ flat_map round (table_from (λ fd. fd) 4 17)
    ++ by 0 (ReadInfo 0 3 9216)
    ∷ by 0 (ReadInfo 0 3 288)
    ∷ command 3 Unwatch (number_bytes 4 0) Whole
    ∷ command 3 Unwatch (number_bytes 4 0) Whole
    ∷ []

-- what a round is answered
abbrev pub round_given : ℕ → List Answer
round_given fd = says Done ∷ opened fd asked ++ says Done ∷ says Done ∷ []

-- line 0 was requested by a consumer without a name: used, an input; and it was released
abbrev pub changes : ℕ → List ℕ
changes fd = change (info (codes "?") 0 0x5) (2 * fd) 1 ++ change (info [] 0 0x4) (2 * fd + 1) 2

-- the changes of the first 16 requests are kept, of numbers 4 to 19; those of the last one are dropped
unfoldable pub given : List Answer
given =
    four_lines_given
    ++ shows (info [] 0 0x4)
    ∷ says (Refused Busy)
    ∷ flat_map round_given (table_from (λ fd. fd) 4 17)
    ++ gives 9216 (flat_map changes (table_from (λ fd. fd) 4 16))
    ∷ says (Refused Again)
    ∷ shows (number_bytes 4 0)
    ∷ says (Refused Busy)
    ∷ []
