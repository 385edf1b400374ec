-- The byte that the word of a statement begins with.
use Rattle.std.specs.Prelude.{ℕ, Bool, ◌==◌, List, filter, slice_index_or}
use Rattle.gl_script.specs.declared.table.Keyword.{Keyword}
use Rattle.gl_script.specs.declared.table.TheConstants.{KEYWORDS}
use Rattle.gl_script.specs.Table.{keyword_name}

-- the word of the statement begins with this byte
abbrev pub begins_with : ℕ → Keyword → Bool
begins_with first keyword = first == slice_index_or (keyword_name keyword) 0 0

-- the statements whose word begins with this byte
unfoldable pub keywords_from : ℕ → List Keyword
keywords_from first = filter (begins_with first) KEYWORDS
